use Rattle.std.proofs.Common.{◌≡◌, ◌+◌, ◌-◌, ◌<◌, Some, None, Option, IfNone, refl, sym, ◌∙◌, ap, subst, arith}
use Rattle.std.specs.FinMap as map
use Rattle.alp_chain.specs.Chains.{Chains, added}
use Rattle.alp_chain.specs.Spans.{runs, Splits}
use Rattle.alp_chain.proofs.RunLists.{node-none}
use Rattle.alp_chain.proofs.SpanSteps.{held-run, narrow, splits, splits-none, cut-of-free, cut-of-first}
use Rattle.alp_chain.proofs.chains.Chains.cut.Goals as goal

none_gives : {T : Type 0} {P : Type 0} (o : Option T) → o ≡ None → IfNone o P → P
none_gives None e h = h
none_gives (Some x) e h = absurd (cc)

pub returns-in_default-clause-splits : goal.returns-in_default-clause-splits
returns-in_default-clause-splits c =
    splits-none c.args.self.now c.args.resource c.args.trans c.args.page (cut-of-free c.args.page (runs c.args.self.now.nodes c.args.resource c.args.trans) (node-none c.args.self.now c.args.resource c.args.trans c.find_held.ensures.once c.args.page (none_gives c.find_held.result c.in_default.is c.find_held.ensures.none)))

pub returns-then-first-page-clause-splits : goal.returns-then-first-page-clause-splits
returns-then-first-page-clause-splits c =
    let start : c.in-Some.held.span.first ≡ c.args.page = omega arith in
    splits-none c.args.self.now c.args.resource c.args.trans c.args.page (cut-of-first c.requires.spans.loose c.args.page (runs c.args.self.now.nodes c.args.resource c.args.trans) c.in-Some.held.node (record { first = c.in-Some.held.span.first; end = c.in-Some.held.span.first + c.in-Some.held.span.count; mode = c.in-Some.held.view.mode }) c.requires.spans.runs (held-run c.args.self.now c.args.resource c.args.trans c.args.page c.in-Some.held.node c.in-Some.held.view c.in-Some.held.span c.in-Some.ensures.some) start)

pub span_between-left-requires-clause-order : goal.span_between-left-requires-clause-order
span_between-left-requires-clause-order c =
    let from = c.in-Some.ensures.some.from in
    let to = c.in-Some.ensures.some.to in
    let top = c.requires.spans.runs.within c.in-Some.held.node (record { first = c.in-Some.held.span.first; end = c.in-Some.held.span.first + c.in-Some.held.span.count; mode = c.in-Some.held.view.mode }) (held-run c.args.self.now c.args.resource c.args.trans c.args.page c.in-Some.held.node c.in-Some.held.view c.in-Some.held.span c.in-Some.ensures.some) in
    let short = narrow (runs c.args.self.now.nodes c.args.resource c.args.trans) c.in-Some.held.node (record { first = c.in-Some.held.span.first; end = c.in-Some.held.span.first + c.in-Some.held.span.count; mode = c.in-Some.held.view.mode }) c.requires.spans (held-run c.args.self.now c.args.resource c.args.trans c.args.page c.in-Some.held.node c.in-Some.held.view c.in-Some.held.span c.in-Some.ensures.some) in
    omega arith

pub span_between-left-requires-clause-end : goal.span_between-left-requires-clause-end
span_between-left-requires-clause-end c =
    let from = c.in-Some.ensures.some.from in
    let to = c.in-Some.ensures.some.to in
    let top = c.requires.spans.runs.within c.in-Some.held.node (record { first = c.in-Some.held.span.first; end = c.in-Some.held.span.first + c.in-Some.held.span.count; mode = c.in-Some.held.view.mode }) (held-run c.args.self.now c.args.resource c.args.trans c.args.page c.in-Some.held.node c.in-Some.held.view c.in-Some.held.span c.in-Some.ensures.some) in
    let short = narrow (runs c.args.self.now.nodes c.args.resource c.args.trans) c.in-Some.held.node (record { first = c.in-Some.held.span.first; end = c.in-Some.held.span.first + c.in-Some.held.span.count; mode = c.in-Some.held.view.mode }) c.requires.spans (held-run c.args.self.now c.args.resource c.args.trans c.args.page c.in-Some.held.node c.in-Some.held.view c.in-Some.held.span c.in-Some.ensures.some) in
    omega arith

pub span_between-left-requires-clause-first : goal.span_between-left-requires-clause-first
span_between-left-requires-clause-first c =
    let from = c.in-Some.ensures.some.from in
    let to = c.in-Some.ensures.some.to in
    let top = c.requires.spans.runs.within c.in-Some.held.node (record { first = c.in-Some.held.span.first; end = c.in-Some.held.span.first + c.in-Some.held.span.count; mode = c.in-Some.held.view.mode }) (held-run c.args.self.now c.args.resource c.args.trans c.args.page c.in-Some.held.node c.in-Some.held.view c.in-Some.held.span c.in-Some.ensures.some) in
    let short = narrow (runs c.args.self.now.nodes c.args.resource c.args.trans) c.in-Some.held.node (record { first = c.in-Some.held.span.first; end = c.in-Some.held.span.first + c.in-Some.held.span.count; mode = c.in-Some.held.view.mode }) c.requires.spans (held-run c.args.self.now c.args.resource c.args.trans c.args.page c.in-Some.held.node c.in-Some.held.view c.in-Some.held.span c.in-Some.ensures.some) in
    omega arith

pub span_between-left-requires-clause-count : goal.span_between-left-requires-clause-count
span_between-left-requires-clause-count c =
    let from = c.in-Some.ensures.some.from in
    let to = c.in-Some.ensures.some.to in
    let top = c.requires.spans.runs.within c.in-Some.held.node (record { first = c.in-Some.held.span.first; end = c.in-Some.held.span.first + c.in-Some.held.span.count; mode = c.in-Some.held.view.mode }) (held-run c.args.self.now c.args.resource c.args.trans c.args.page c.in-Some.held.node c.in-Some.held.view c.in-Some.held.span c.in-Some.ensures.some) in
    let short = narrow (runs c.args.self.now.nodes c.args.resource c.args.trans) c.in-Some.held.node (record { first = c.in-Some.held.span.first; end = c.in-Some.held.span.first + c.in-Some.held.span.count; mode = c.in-Some.held.view.mode }) c.requires.spans (held-run c.args.self.now c.args.resource c.args.trans c.args.page c.in-Some.held.node c.in-Some.held.view c.in-Some.held.span c.in-Some.ensures.some) in
    omega arith

pub span_between-right-requires-clause-order : goal.span_between-right-requires-clause-order
span_between-right-requires-clause-order c =
    let from = c.in-Some.ensures.some.from in
    let to = c.in-Some.ensures.some.to in
    let top = c.requires.spans.runs.within c.in-Some.held.node (record { first = c.in-Some.held.span.first; end = c.in-Some.held.span.first + c.in-Some.held.span.count; mode = c.in-Some.held.view.mode }) (held-run c.args.self.now c.args.resource c.args.trans c.args.page c.in-Some.held.node c.in-Some.held.view c.in-Some.held.span c.in-Some.ensures.some) in
    let short = narrow (runs c.args.self.now.nodes c.args.resource c.args.trans) c.in-Some.held.node (record { first = c.in-Some.held.span.first; end = c.in-Some.held.span.first + c.in-Some.held.span.count; mode = c.in-Some.held.view.mode }) c.requires.spans (held-run c.args.self.now c.args.resource c.args.trans c.args.page c.in-Some.held.node c.in-Some.held.view c.in-Some.held.span c.in-Some.ensures.some) in
    omega arith

pub span_between-right-requires-clause-end : goal.span_between-right-requires-clause-end
span_between-right-requires-clause-end c =
    let from = c.in-Some.ensures.some.from in
    let to = c.in-Some.ensures.some.to in
    let top = c.requires.spans.runs.within c.in-Some.held.node (record { first = c.in-Some.held.span.first; end = c.in-Some.held.span.first + c.in-Some.held.span.count; mode = c.in-Some.held.view.mode }) (held-run c.args.self.now c.args.resource c.args.trans c.args.page c.in-Some.held.node c.in-Some.held.view c.in-Some.held.span c.in-Some.ensures.some) in
    let short = narrow (runs c.args.self.now.nodes c.args.resource c.args.trans) c.in-Some.held.node (record { first = c.in-Some.held.span.first; end = c.in-Some.held.span.first + c.in-Some.held.span.count; mode = c.in-Some.held.view.mode }) c.requires.spans (held-run c.args.self.now c.args.resource c.args.trans c.args.page c.in-Some.held.node c.in-Some.held.view c.in-Some.held.span c.in-Some.ensures.some) in
    omega arith

pub span_between-right-requires-clause-first : goal.span_between-right-requires-clause-first
span_between-right-requires-clause-first c =
    let from = c.in-Some.ensures.some.from in
    let to = c.in-Some.ensures.some.to in
    let top = c.requires.spans.runs.within c.in-Some.held.node (record { first = c.in-Some.held.span.first; end = c.in-Some.held.span.first + c.in-Some.held.span.count; mode = c.in-Some.held.view.mode }) (held-run c.args.self.now c.args.resource c.args.trans c.args.page c.in-Some.held.node c.in-Some.held.view c.in-Some.held.span c.in-Some.ensures.some) in
    let short = narrow (runs c.args.self.now.nodes c.args.resource c.args.trans) c.in-Some.held.node (record { first = c.in-Some.held.span.first; end = c.in-Some.held.span.first + c.in-Some.held.span.count; mode = c.in-Some.held.view.mode }) c.requires.spans (held-run c.args.self.now c.args.resource c.args.trans c.args.page c.in-Some.held.node c.in-Some.held.view c.in-Some.held.span c.in-Some.ensures.some) in
    omega arith

pub span_between-right-requires-clause-count : goal.span_between-right-requires-clause-count
span_between-right-requires-clause-count c =
    let from = c.in-Some.ensures.some.from in
    let to = c.in-Some.ensures.some.to in
    let top = c.requires.spans.runs.within c.in-Some.held.node (record { first = c.in-Some.held.span.first; end = c.in-Some.held.span.first + c.in-Some.held.span.count; mode = c.in-Some.held.view.mode }) (held-run c.args.self.now c.args.resource c.args.trans c.args.page c.in-Some.held.node c.in-Some.held.view c.in-Some.held.span c.in-Some.ensures.some) in
    let short = narrow (runs c.args.self.now.nodes c.args.resource c.args.trans) c.in-Some.held.node (record { first = c.in-Some.held.span.first; end = c.in-Some.held.span.first + c.in-Some.held.span.count; mode = c.in-Some.held.view.mode }) c.requires.spans (held-run c.args.self.now c.args.resource c.args.trans c.args.page c.in-Some.held.node c.in-Some.held.view c.in-Some.held.span c.in-Some.ensures.some) in
    omega arith

pub set_view-requires : goal.set_view-requires
set_view-requires c = record { view = c.in-Some.held.view; there = c.in-Some.ensures.some.there; resource = refl; trans = refl }

pub returns-clause-splits : goal.returns-clause-splits
returns-clause-splits c =
    let from = c.in-Some.ensures.some.from in
    let start : c.from-first.result ≡ c.in-Some.held.span.first = omega arith in
    let end : c.end_of.result ≡ c.in-Some.held.span.first + c.in-Some.held.span.count = c.end_of.ensures in
    let low : c.in-Some.held.span.first < c.args.page = omega arith in
    let ws : Some c.span_between-left.result ≡ Some (record { first = c.in-Some.held.span.first; count = c.args.page - c.in-Some.held.span.first }) = ap Some c.span_between-left.ensures ∙ (λ i. Some (record { first = start i; count = c.args.page - start i })) in
    let xs : Some c.span_between-right.result ≡ Some (record { first = c.args.page; count = (c.in-Some.held.span.first + c.in-Some.held.span.count) - c.args.page }) = ap Some c.span_between-right.ensures ∙ (λ i. Some (record { first = c.args.page; count = end i - c.args.page })) in
    let new : map.get (map.insert c.args.self.now.nodes c.in-Some.held.node (record c.in-Some.held.view { span = Some c.span_between-left.result })) c.add_reserved.result ≡ None = ap (λ (h : Chains). map.get h.nodes c.add_reserved.result) (sym c.set_view.ensures.after) ∙ c.add_reserved.ensures.new in
    subst (Splits c.args.page c.args.resource c.args.trans c.args.self.now) (sym (c.add_reserved.ensures.added ∙ ap (λ (h : Chains). added h c.add_reserved.result (record c.in-Some.held.view { span = Some c.span_between-right.result })) c.set_view.ensures.after))
    (splits c.args.self.now c.args.resource c.args.trans c.args.page c.in-Some.held.node c.add_reserved.result c.in-Some.held.view (record c.in-Some.held.view { span = Some c.span_between-left.result }) (record c.in-Some.held.view { span = Some c.span_between-right.result }) c.in-Some.held.span c.find_held.ensures.once c.requires.spans c.in-Some.ensures.some low refl refl refl ws refl refl refl xs new)

pub returns-clause-spare : goal.returns-clause-spare
returns-clause-spare c =
    let spent = ap (λ (h : Chains). h.spare) (c.add_reserved.ensures.added ∙ ap (λ (h : Chains). added h c.add_reserved.result (record c.in-Some.held.view { span = Some c.span_between-right.result })) c.set_view.ensures.after) in
    omega arith
