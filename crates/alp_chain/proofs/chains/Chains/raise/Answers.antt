use Rattle.std.proofs.Common.{◌≡◌, ◌+◌, ◌≤◌, ◌^◌, Some, None, Option, IfNone, refl, sym, ap, subst, arith}
use Rattle.alp_chain.specs.Chains.{Chains}
use Rattle.alp_chain.specs.Spans.{Raises}
use Rattle.alp_chain.proofs.SpanSteps.{raises-held, raise-within, raises-gap}
use Rattle.alp_chain.proofs.chains.Chains.raise.Goals as goal

none_gives : {T : Type 0} {P : Type 0} (o : Option T) → o ≡ None → IfNone o P → P
none_gives None e h = h
none_gives (Some x) e h = absurd (cc)

pub set_view-requires : goal.set_view-requires
set_view-requires c = record { view = c.in-Some.held.view; there = c.in-Some.ensures.some.there; resource = refl; trans = refl }

pub returns-in-Some-clause-raises : goal.returns-in-Some-clause-raises
returns-in-Some-clause-raises c =
    subst (λ e. Raises c.args.page e c.args.resource c.args.trans c.args.mode c.args.self.now c.set_view.new.self) (sym c.end_of.ensures)
    (subst (Raises c.args.page (c.in-Some.held.span.first + c.in-Some.held.span.count) c.args.resource c.args.trans c.args.mode c.args.self.now) (sym c.set_view.ensures.after) (raises-held c.args.self.now c.args.resource c.args.trans c.args.page c.in-Some.held.node c.in-Some.held.view (record c.in-Some.held.view { mode = c.join.result }) c.in-Some.held.span c.args.mode c.find_held.ensures.once c.requires.spans c.in-Some.ensures.some c.requires.cut_page refl refl c.join.ensures refl))

pub returns-in-Some-clause-more : goal.returns-in-Some-clause-more
returns-in-Some-clause-more c = let to = c.in-Some.ensures.some.to in omega arith

pub returns-in-Some-clause-within : goal.returns-in-Some-clause-within
returns-in-Some-clause-within c = let within = raise-within c.args.self.now c.args.resource c.args.trans c.args.page c.in-Some.held.node c.in-Some.held.view (record c.in-Some.held.view { mode = c.join.result }) c.in-Some.held.span c.args.mode c.find_held.ensures.once c.requires.spans c.in-Some.ensures.some c.requires.cut_page refl refl c.join.ensures refl c.args.end c.requires.order c.requires.cut_end in omega arith

pub returns-in-Some-clause-spare : goal.returns-in-Some-clause-spare
returns-in-Some-clause-spare c = let same = ap (λ (h : Chains). h.spare) c.set_view.ensures.after in omega arith

pub returns-in-None-clause-raises : goal.returns-in-None-clause-raises
returns-in-None-clause-raises c =
    let top : c.find_start-next.result ≤ 2 ^ 32 = omega (arith, c.find_start-next.ensures.within) in
    subst (Raises c.args.page c.find_start-next.result c.args.resource c.args.trans c.args.mode c.args.self.now) (sym c.add_reserved.ensures.added)
    (raises-gap c.args.self.now c.args.resource c.args.trans c.args.page c.find_start-next.result c.add_reserved.result (record { resource = c.args.resource; trans = c.args.trans; mode = c.args.mode; span = Some c.span_between-span.result }) c.args.mode c.find_held.ensures.once c.requires.spans c.find_start-next.ensures.more top
    (none_gives c.find_held.result c.in-None.is c.find_held.ensures.none) c.find_start-next.ensures.gap c.add_reserved.ensures.new refl refl refl (ap Some c.span_between-span.ensures))

pub returns-in-None-clause-spare : goal.returns-in-None-clause-spare
returns-in-None-clause-spare c = let spent = ap (λ (h : Chains). h.spare) c.add_reserved.ensures.added in omega arith
