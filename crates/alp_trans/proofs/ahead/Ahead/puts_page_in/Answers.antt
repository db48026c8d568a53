use Rattle.std.specs.Prelude.{min}
use Rattle.std.specs.FinMap as map
use Rattle.std.proofs.Common.{◌≡◌, ◌-◌, ◌<◌, ap, sym, ◌∙◌, subst, arith}
use Rattle.alp_base.specs.declared.key.Key.TheVariants.{PageOf}
use Rattle.alp_files.specs.Counts.{APageStands}
use Rattle.alp_files.specs.Needs.{Intents}
use Rattle.alp_trans.proofs.AheadLemmas.{all_pages, no_pages, pages_below, none_below}
use Rattle.alp_trans.proofs.ahead.Ahead.puts_page_in.Goals as goal

pub returns-in-None-clause-page : goal.returns-in-None-clause-page
returns-in-None-clause-page c is =
    subst (λ (i : Intents). APageStands i.puts c.args.file c.args.first c.args.last) c.self.view_is
    (all_pages c.self.inside.intents.now c.self.inside.puts.now c.self.inside.gone c.args.file c.args.first c.args.last (sym c.first_taken.ensures ∙ c.in-None.is) (c.has_page_in.ensures.page is))

pub returns-in-None-clause-none : goal.returns-in-None-clause-none
returns-in-None-clause-none c is n low high =
    ap (λ (i : Intents). map.get i.puts (PageOf c.args.file n)) (sym c.self.view_is)
    ∙ no_pages c.self.inside.intents.now c.self.inside.puts.now c.self.inside.gone c.args.file n (sym c.first_taken.ensures ∙ c.in-None.is) (c.has_page_in.ensures.none is n low high)

pub returns-then-first-end-clause-page : goal.returns-then-first-end-clause-page
returns-then-first-end-clause-page c is =
    subst (λ (i : Intents). APageStands i.puts c.args.file c.args.first c.args.last) c.self.view_is
    (pages_below c.self.inside.intents.now c.self.inside.puts.now c.self.inside.gone c.args.file c.args.first c.args.last c.in-Some.end
    (sym c.first_taken.ensures ∙ c.in-Some.is) c.if-first-end.true
    (subst (APageStands c.self.inside.puts.now c.args.file c.args.first) c.min.ensures (c.has_page_in-then-first-end.ensures.page is)))

pub returns-then-first-end-clause-none : goal.returns-then-first-end-clause-none
returns-then-first-end-clause-none c is n low high =
    ap (λ (i : Intents). map.get i.puts (PageOf c.args.file n)) (sym c.self.view_is)
    ∙ none_below c.self.inside.intents.now c.self.inside.puts.now c.self.inside.gone c.args.file c.in-Some.end n
    (sym c.first_taken.ensures ∙ c.in-Some.is) (λ less. c.has_page_in-then-first-end.ensures.none is n low (omega (arith, less, high, c.min.ensures)))

pub returns-else-first-end-clause-none : goal.returns-else-first-end-clause-none
returns-else-first-end-clause-none c is n low high =
    ap (λ (i : Intents). map.get i.puts (PageOf c.args.file n)) (sym c.self.view_is)
    ∙ none_below c.self.inside.intents.now c.self.inside.puts.now c.self.inside.gone c.args.file c.in-Some.end n
    (sym c.first_taken.ensures ∙ c.in-Some.is) (λ less. absurd (omega (arith, less, low, c.if-first-end.false)))
