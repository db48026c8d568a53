use Rattle.std.proofs.Common.{◌≡◌, ℕ, ◌∷◌, Option, find, length, sym, ◌∙◌, ap, arith}
use Rattle.alp_chain.specs.Lists.{list_at, next_in}
use Rattle.alp_chain.specs.Spans.{runs, has_page}
use Rattle.alp_chain.proofs.WalkLemmas.{rest_from, rest-first, rest-step, first-member, next-member, listed-some, listed-next, listed-once, find-on, find-here}
use Rattle.alp_chain.proofs.chains.Chains.find_node.Goals as goal

pub loop-place-init : goal.loop-place-init
loop-place-init c = record {
  found = ap (find (λ n. has_page (runs c.args.self.now.nodes c.args.resource c.args.trans n) c.args.page)) (sym (ap (rest_from (list_at c.args.self.now.on c.args.resource)) c.first_on-place.ensures.first ∙ rest-first (list_at c.args.self.now.on c.args.resource)));
  member = λ n e. first-member n (list_at c.args.self.now.on c.args.resource) (sym c.first_on-place.ensures.first ∙ e);
  once = c.first_on-place.ensures.once;
}

pub next_on-place-requires : goal.next_on-place-requires
next_on-place-requires c = listed-some c.args.self.now c.args.resource c.in-Some.node c.loop-place.invariant.once (c.loop-place.invariant.member c.in-Some.node c.in-Some.is)

pub loop-place-preserved : goal.loop-place-preserved
loop-place-preserved c =
    let xs = list_at c.args.self.now.on c.args.resource in
    let inside = c.loop-place.invariant.member c.in-Some.node c.in-Some.is in
    let next : c.next_on-place.result ≡ next_in c.in-Some.node xs = c.next_on-place.ensures ∙ listed-next c.args.self.now c.args.resource c.in-Some.node c.loop-place.invariant.once inside in
    record {
      found =
          c.loop-place.invariant.found
          ∙ ap (λ (o : Option ℕ). find (λ n. has_page (runs c.args.self.now.nodes c.args.resource c.args.trans n) c.args.page) (rest_from xs o)) c.in-Some.is
          ∙ ap (find (λ n. has_page (runs c.args.self.now.nodes c.args.resource c.args.trans n) c.args.page)) (rest-step c.in-Some.node xs (listed-once c.args.self.now c.args.resource c.loop-place.invariant.once) inside)
          ∙ find-on (λ n. has_page (runs c.args.self.now.nodes c.args.resource c.args.trans n) c.args.page) c.in-Some.node (rest_from xs (next_in c.in-Some.node xs)) (sym c.holds.ensures ∙ c.if-holds.false)
          ∙ ap (λ (o : Option ℕ). find (λ n. has_page (runs c.args.self.now.nodes c.args.resource c.args.trans n) c.args.page) (rest_from xs o)) (sym next);
      member = λ n e. next-member c.in-Some.node n xs (sym next ∙ e);
      once = c.loop-place.invariant.once;
    }

pub loop-place-smaller : goal.loop-place-smaller
loop-place-smaller c =
    let xs = list_at c.args.self.now.on c.args.resource in
    let inside = c.loop-place.invariant.member c.in-Some.node c.in-Some.is in
    let next : c.next_on-place.result ≡ next_in c.in-Some.node xs = c.next_on-place.ensures ∙ listed-next c.args.self.now c.args.resource c.in-Some.node c.loop-place.invariant.once inside in
    let now : length (rest_from xs c.loop-place.place) ≡ length (c.in-Some.node ∷ rest_from xs (next_in c.in-Some.node xs)) =
    ap (λ (o : Option ℕ). length (rest_from xs o)) c.in-Some.is ∙ ap length (rest-step c.in-Some.node xs (listed-once c.args.self.now c.args.resource c.loop-place.invariant.once) inside) in
    let then_on : length (rest_from xs c.next_on-place.result) ≡ length (rest_from xs (next_in c.in-Some.node xs)) = ap (λ (o : Option ℕ). length (rest_from xs o)) next in
    omega arith

pub returns-then-holds-clause-first : goal.returns-then-holds-clause-first
returns-then-holds-clause-first c =
    let xs = list_at c.args.self.now.on c.args.resource in
    let inside = c.loop-place.invariant.member c.in-Some.node c.in-Some.is in
    sym (c.loop-place.invariant.found
    ∙ ap (λ (o : Option ℕ). find (λ n. has_page (runs c.args.self.now.nodes c.args.resource c.args.trans n) c.args.page) (rest_from xs o)) c.in-Some.is
    ∙ ap (find (λ n. has_page (runs c.args.self.now.nodes c.args.resource c.args.trans n) c.args.page)) (rest-step c.in-Some.node xs (listed-once c.args.self.now c.args.resource c.loop-place.invariant.once) inside)
    ∙ find-here (λ n. has_page (runs c.args.self.now.nodes c.args.resource c.args.trans n) c.args.page) c.in-Some.node (rest_from xs (next_in c.in-Some.node xs)) (sym c.holds.ensures ∙ c.if-holds.true))

pub returns-then-holds-clause-once : goal.returns-then-holds-clause-once
returns-then-holds-clause-once c = c.loop-place.invariant.once

pub returns-clause-first : goal.returns-clause-first
returns-clause-first c =
    sym (c.loop-place.invariant.found ∙ ap (λ (o : Option ℕ). find (λ n. has_page (runs c.args.self.now.nodes c.args.resource c.args.trans n) c.args.page) (rest_from (list_at c.args.self.now.on c.args.resource) o)) c.in_default.is)

pub returns-clause-once : goal.returns-clause-once
returns-clause-once c = c.loop-place.invariant.once
