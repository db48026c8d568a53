use Rattle.std.proofs.Common.{◌≡◌, ◌+◌, ◌-◌, ◌<◌, Bool, cond, ne_eqb, Some, None, Option, IfNone, refl, sym, ◌∙◌, ap, subst, arith}
use denote.Enum.Bare.{differs_true, differs_false}
use Rattle.std.specs.FinMap as map
use Rattle.alp_modes.specs.contracts.Mode.{the_type}
use Rattle.alp_chain.specs.Chains.{Chains, removed_as}
use Rattle.alp_chain.specs.Spans.{runs, Meets}
use Rattle.alp_chain.proofs.KeyLemmas.{get_cut}
use Rattle.alp_chain.proofs.RunLists.{node-none}
use Rattle.alp_chain.proofs.SpanSteps.{held-run, narrow-two, meets, meets-none, touch-one, touch-modes}
use Rattle.alp_chain.proofs.chains.Chains.meet.Goals as goal

none_gives : {T : Type 0} {P : Type 0} (o : Option T) → o ≡ None → IfNone o P → P
none_gives None e h = h
none_gives (Some x) e h = absurd (cc)

pub returns-in_default-clause-meets : goal.returns-in_default-clause-meets
returns-in_default-clause-meets c =
    let free = node-none c.args.self.now c.args.resource c.args.trans c.find_held.ensures.once c.args.page (none_gives c.find_held.result c.in_default.is c.find_held.ensures.none) in
    meets-none c.args.self.now c.args.resource c.args.trans c.args.page (λ l g x y a b e f ends begins same. free y b f (omega arith) (omega (arith, g.filled y b f)))

pub returns-then-page-eq0-clause-meets : goal.returns-then-page-eq0-clause-meets
returns-then-page-eq0-clause-meets c =
    let zero : c.args.page ≡ 0 = c.if-page-eq0.true in
    meets-none c.args.self.now c.args.resource c.args.trans c.args.page (λ l g x y a b e f ends begins same. omega (arith, g.filled x a e))

pub returns-in_default-find_held-clause-meets : goal.returns-in_default-find_held-clause-meets
returns-in_default-find_held-clause-meets c =
    let nonzero : c.args.page ≡ 0 → ⊥ = c.if-page-eq0.false in
    let pos : 0 < c.args.page = omega arith in
    let free = node-none c.args.self.now c.args.resource c.args.trans c.find_held.ensures.once (c.args.page - 1) (none_gives c.find_held-2.result c.in_default-find_held.is c.find_held-2.ensures.none) in
    meets-none c.args.self.now c.args.resource c.args.trans c.args.page (λ l g x y a b e f ends begins same. free x a e (omega (arith, g.filled x a e)) (omega arith))

pub returns-then-left-right-clause-meets : goal.returns-then-left-right-clause-meets
returns-then-left-right-clause-meets c =
    let nonzero : c.args.page ≡ 0 → ⊥ = c.if-page-eq0.false in
    let pos : 0 < c.args.page = omega arith in
    meets-none c.args.self.now c.args.resource c.args.trans c.args.page (λ l g x y a b e f ends begins same. touch-one c.args.self.now c.args.resource c.args.trans c.args.page c.in-Some-find_held.left.node c.in-Some.right.node c.in-Some-find_held.left.view c.in-Some.right.view c.in-Some-find_held.left.span c.in-Some.right.span c.find_held.ensures.once pos c.in-Some-find_held.ensures.some c.in-Some.ensures.some l g x y a b e f ends begins c.if-left-right.true)

pub returns-then-ne-clause-meets : goal.returns-then-ne-clause-meets
returns-then-ne-clause-meets c =
    let nonzero : c.args.page ≡ 0 → ⊥ = c.if-page-eq0.false in
    let pos : 0 < c.args.page = omega arith in
    let differ : c.in-Some-find_held.left.view.mode ≡ c.in-Some.right.view.mode → ⊥ = differs_true the_type c.in-Some-find_held.left.view.mode c.in-Some.right.view.mode (sym c.if-ne.ensures) in
    meets-none c.args.self.now c.args.resource c.args.trans c.args.page (λ l g x y a b e f ends begins same. differ (touch-modes c.args.self.now c.args.resource c.args.trans c.args.page c.in-Some-find_held.left.node c.in-Some.right.node c.in-Some-find_held.left.view c.in-Some.right.view c.in-Some-find_held.left.span c.in-Some.right.span c.find_held.ensures.once pos c.in-Some-find_held.ensures.some c.in-Some.ensures.some l g x y a b e f ends begins same))

pub span_between-span-requires-clause-end : goal.span_between-span-requires-clause-end
span_between-span-requires-clause-end c =
    let top = c.requires.spans.runs.within c.in-Some.right.node (record { first = c.in-Some.right.span.first; end = c.in-Some.right.span.first + c.in-Some.right.span.count; mode = c.in-Some.right.view.mode }) (held-run c.args.self.now c.args.resource c.args.trans c.args.page c.in-Some.right.node c.in-Some.right.view c.in-Some.right.span c.in-Some.ensures.some) in
    omega (arith, c.end_of.ensures)

pub span_between-span-requires-clause-count : goal.span_between-span-requires-clause-count
span_between-span-requires-clause-count c =
    let nonzero : c.args.page ≡ 0 → ⊥ = c.if-page-eq0.false in
    let pos : 0 < c.args.page = omega arith in
    let a = c.in-Some-find_held.ensures.some.from in
    let b = c.in-Some-find_held.ensures.some.to in
    let d = c.in-Some.ensures.some.from in
    let e = c.in-Some.ensures.some.to in
    let short = narrow-two (runs c.args.self.now.nodes c.args.resource c.args.trans) c.in-Some-find_held.left.node c.in-Some.right.node c.args.page (record { first = c.in-Some-find_held.left.span.first; end = c.in-Some-find_held.left.span.first + c.in-Some-find_held.left.span.count; mode = c.in-Some-find_held.left.view.mode }) (record { first = c.in-Some.right.span.first; end = c.in-Some.right.span.first + c.in-Some.right.span.count; mode = c.in-Some.right.view.mode }) c.requires.spans (held-run c.args.self.now c.args.resource c.args.trans (c.args.page - 1) c.in-Some-find_held.left.node c.in-Some-find_held.left.view c.in-Some-find_held.left.span c.in-Some-find_held.ensures.some) (held-run c.args.self.now c.args.resource c.args.trans c.args.page c.in-Some.right.node c.in-Some.right.view c.in-Some.right.span c.in-Some.ensures.some) (omega arith) (omega arith) d e in
    omega (arith, c.end_of.ensures, c.from.ensures)

pub set_view-requires : goal.set_view-requires
set_view-requires c = record {
  view = c.in-Some-find_held.left.view;
  there = ap (λ (h : Chains). map.get h.nodes c.in-Some-find_held.left.node) (c.remove.ensures.after ∙ ap (removed_as c.args.self.now c.in-Some.right.node) c.in-Some.ensures.some.there)
      ∙ get_cut c.args.self.now.nodes c.in-Some.right.node c.in-Some-find_held.left.node ∙ ap (λ (b : Bool). cond b None (map.get c.args.self.now.nodes c.in-Some-find_held.left.node)) (ne_eqb c.in-Some-find_held.left.node c.in-Some.right.node c.if-left-right.false) ∙ c.in-Some-find_held.ensures.some.there;
  resource = refl;
  trans = refl;
}

pub returns-clause-meets : goal.returns-clause-meets
returns-clause-meets c =
    let nonzero : c.args.page ≡ 0 → ⊥ = c.if-page-eq0.false in
    let pos : 0 < c.args.page = omega arith in
    let start : c.from.result ≡ c.in-Some-find_held.left.span.first = omega (arith, c.from.ensures) in
    let end : c.end_of.result ≡ c.in-Some.right.span.first + c.in-Some.right.span.count = c.end_of.ensures in
    let same : c.in-Some-find_held.left.view.mode ≡ c.in-Some.right.view.mode = differs_false the_type tt c.in-Some-find_held.left.view.mode c.in-Some.right.view.mode (sym c.if-ne.ensures) in
    let ws : Some c.span_between-span.result ≡ Some (record { first = c.in-Some-find_held.left.span.first; count = (c.in-Some.right.span.first + c.in-Some.right.span.count) - c.in-Some-find_held.left.span.first }) = ap Some c.span_between-span.ensures ∙ (λ i. Some (record { first = start i; count = end i - start i })) in
    subst (Meets c.args.page c.args.resource c.args.trans c.args.self.now) (sym (c.set_view.ensures.after ∙ ap (λ (h : Chains). record h { nodes = map.insert h.nodes c.in-Some-find_held.left.node (record c.in-Some-find_held.left.view { span = Some c.span_between-span.result }) }) (c.remove.ensures.after ∙ ap (removed_as c.args.self.now c.in-Some.right.node) c.in-Some.ensures.some.there)))
    (meets c.args.self.now c.args.resource c.args.trans c.args.page c.in-Some-find_held.left.node c.in-Some.right.node c.in-Some-find_held.left.view c.in-Some.right.view (record c.in-Some-find_held.left.view { span = Some c.span_between-span.result }) c.in-Some-find_held.left.span c.in-Some.right.span c.find_held.ensures.once c.requires.spans pos c.in-Some-find_held.ensures.some c.in-Some.ensures.some c.if-left-right.false same refl refl refl ws)
