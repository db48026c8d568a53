use Rattle.std.proofs.Common.{◌≤◌, ap, sym, subst, ◌∙◌}
use Rattle.std.specs.FinMap as map
use Rattle.alp_base.specs.Orders.{transactions_total, exact_transactions}
use Rattle.alp_base.proofs.TreeLemmas.{get_at, put_at}
use Rattle.alp_node.specs.Totals.{totals_of, with_part, without_part}
use Rattle.alp_node.specs.declared.lives.Live.{Live}
use Rattle.alp_node.specs.declared.totals.Totals.{Totals}
use Rattle.alp_node.proofs.TotalLemmas.{among, swapped_totals}
use Rattle.alp_node.proofs.lives.Lives.swap.Goals as goal

pub returns-clause-after : goal.returns-clause-after
returns-clause-after c =
    put_at transactions_total exact_transactions c.self.inside.lives.entries c.insert.new.self.entries c.args.trans c.args.live c.in-Ok-Some.ensures.updates.0
    ∙ ap (λ m. map.insert m c.args.trans c.args.live) c.self.view_is

pub returns-clause-before : goal.returns-clause-before
returns-clause-before c =
    sym (ap (λ m. map.get m c.args.trans) c.self.view_is) ∙ get_at transactions_total exact_transactions c.self.inside.lives.entries c.args.trans ∙ sym c.in-Ok-Some.ensures.old ∙ c.in-Ok-Some.field-0-is

pub unreachable-requires : goal.unreachable-requires
unreachable-requires c =
    c.requires.there (sym (ap (λ m. map.get m c.args.trans) c.self.view_is) ∙ get_at transactions_total exact_transactions c.self.inside.lives.entries c.args.trans ∙ sym c.in-Ok-None.ensures.old ∙ c.in-Ok-None.field-0-is)

pub unreachable-requires-in-Err : goal.unreachable-requires-in-Err
unreachable-requires-in-Err c =
    c.requires.there (sym (ap (λ m. map.get m c.args.trans) c.self.view_is) ∙ get_at transactions_total exact_transactions c.self.inside.lives.entries c.args.trans ∙ c.in-Err.ensures.absent)

pub without-requires-clause-places : goal.without-requires-clause-places
without-requires-clause-places c =
    subst (λ (t : Totals). c.in-Ok-Some.old.part.counts.places ≤ t.places) (sym c.self.invariant)
    (among (λ (l : Live). l.part.counts.places) (map.from_entries c.self.inside.lives.entries) c.args.trans c.in-Ok-Some.old
    (get_at transactions_total exact_transactions c.self.inside.lives.entries c.args.trans ∙ sym c.in-Ok-Some.ensures.old ∙ c.in-Ok-Some.field-0-is))

pub without-requires-clause-files : goal.without-requires-clause-files
without-requires-clause-files c =
    subst (λ (t : Totals). c.in-Ok-Some.old.part.counts.files ≤ t.files) (sym c.self.invariant)
    (among (λ (l : Live). l.part.counts.files) (map.from_entries c.self.inside.lives.entries) c.args.trans c.in-Ok-Some.old
    (get_at transactions_total exact_transactions c.self.inside.lives.entries c.args.trans ∙ sym c.in-Ok-Some.ensures.old ∙ c.in-Ok-Some.field-0-is))

pub without-requires-clause-owners : goal.without-requires-clause-owners
without-requires-clause-owners c =
    subst (λ (t : Totals). c.in-Ok-Some.old.part.counts.owners ≤ t.owners) (sym c.self.invariant)
    (among (λ (l : Live). l.part.counts.owners) (map.from_entries c.self.inside.lives.entries) c.args.trans c.in-Ok-Some.old
    (get_at transactions_total exact_transactions c.self.inside.lives.entries c.args.trans ∙ sym c.in-Ok-Some.ensures.old ∙ c.in-Ok-Some.field-0-is))

-- what they come to is kept
pub invariant_of-self : goal.invariant_of-self
invariant_of-self c =
    c.with-self-inside.ensures ∙ ap (λ (t : Totals). with_part t c.args.live.part.counts) (c.without.ensures ∙ ap (λ (t : Totals). without_part t c.in-Ok-Some.old.part.counts) c.self.invariant)
    ∙ sym (swapped_totals (map.from_entries c.self.inside.lives.entries) c.args.trans c.in-Ok-Some.old c.args.live
    (get_at transactions_total exact_transactions c.self.inside.lives.entries c.args.trans ∙ sym c.in-Ok-Some.ensures.old ∙ c.in-Ok-Some.field-0-is))
    ∙ sym (ap totals_of (put_at transactions_total exact_transactions c.self.inside.lives.entries c.insert.new.self.entries c.args.trans c.args.live c.in-Ok-Some.ensures.updates.0))
