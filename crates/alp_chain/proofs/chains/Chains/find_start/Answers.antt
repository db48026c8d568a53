use Rattle.std.proofs.Common.{◌≡◌, inl, inr, ℕ, ◌+◌, ◌<◌, ◌≤◌, Bool, cond, eqb, ◌∷◌, Option, length, sym, ◌∙◌, ap, arith, ne_eqb}
use Rattle.std.proofs.lemmas.Bool.{cases_eq}
use Rattle.alp_chain.specs.Linked.{times}
use Rattle.alp_chain.specs.Lists.{list_at, next_in}
use Rattle.alp_chain.specs.Spans.{runs}
use Rattle.alp_chain.proofs.RunLists.{run-listed}
use Rattle.alp_chain.proofs.WalkLemmas.{rest_from, rest-first, rest-step, first-member, next-member, listed-some, listed-next, listed-once}
use Rattle.alp_chain.proofs.chains.Chains.find_start.Goals as goal

pub loop-place-init : goal.loop-place-init
loop-place-init c = record {
  more = c.requires;
  within = omega arith;
  gap = λ n a e none f g.
      let xs = list_at c.args.self.now.on c.args.resource in
      let whole : times n (rest_from xs c.first_on-place.result) ≡ times n xs = ap (times n) (ap (rest_from xs) c.first_on-place.ensures.first ∙ rest-first xs) in
      let some : 1 ≤ times n xs = run-listed c.args.self.now c.args.resource c.args.trans c.first_on-place.ensures.once n a e in
      omega arith;
  member = λ n e. first-member n (list_at c.args.self.now.on c.args.resource) (sym c.first_on-place.ensures.first ∙ e);
  once = c.first_on-place.ensures.once;
}

pub next_on-place-requires : goal.next_on-place-requires
next_on-place-requires c = listed-some c.args.self.now c.args.resource c.in-Some.node c.loop-place.invariant.once (c.loop-place.invariant.member c.in-Some.node c.in-Some.is)

pub loop-place-preserved : goal.loop-place-preserved
loop-place-preserved c =
    let xs = list_at c.args.self.now.on c.args.resource in
    let inside = c.loop-place.invariant.member c.in-Some.node c.in-Some.is in
    let next : c.next_on-place.result ≡ next_in c.in-Some.node xs = c.next_on-place.ensures ∙ listed-next c.args.self.now c.args.resource c.in-Some.node c.loop-place.invariant.once inside in
    let rest : rest_from xs c.loop-place.place ≡ c.in-Some.node ∷ rest_from xs c.next_on-place.result =
    ap (rest_from xs) c.in-Some.is ∙ rest-step c.in-Some.node xs (listed-once c.args.self.now c.args.resource c.loop-place.invariant.once) inside
    ∙ ap (λ (o : Option ℕ). c.in-Some.node ∷ rest_from xs o) (sym next) in
    record {
      more = c.take_earlier-next.ensures.more;
      within = omega (arith, c.loop-place.invariant.within, c.take_earlier-next.ensures.within);
      gap = λ n a e none f g.
          elim (cases_eq n c.in-Some.node) as (λ _. ⊥) [
            | inl same ↦ c.take_earlier-next.ensures.gap a (ap (runs c.args.self.now.nodes c.args.resource c.args.trans) (sym same) ∙ e) f g
            | inr other ↦
                let one : times n (rest_from xs c.loop-place.place) ≡ cond (eqb n c.in-Some.node) 1 0 + times n (rest_from xs c.next_on-place.result) = ap (times n) rest in
                let no : ◌≡◌ {A = ℕ} (cond (eqb n c.in-Some.node) 1 0) 0 = ap (λ (b : Bool). cond b 1 0) (ne_eqb n c.in-Some.node other) in
                let lower : a.first < c.loop-place.next = omega (arith, c.take_earlier-next.ensures.within) in
                c.loop-place.invariant.gap n a e (omega arith) f lower
          ];
      member = λ n e. next-member c.in-Some.node n xs (sym next ∙ e);
      once = c.loop-place.invariant.once;
    }

pub loop-place-smaller : goal.loop-place-smaller
loop-place-smaller c =
    let xs = list_at c.args.self.now.on c.args.resource in
    let inside = c.loop-place.invariant.member c.in-Some.node c.in-Some.is in
    let next : c.next_on-place.result ≡ next_in c.in-Some.node xs = c.next_on-place.ensures ∙ listed-next c.args.self.now c.args.resource c.in-Some.node c.loop-place.invariant.once inside in
    let now : length (rest_from xs c.loop-place.place) ≡ length (c.in-Some.node ∷ rest_from xs (next_in c.in-Some.node xs)) =
    ap (λ (o : Option ℕ). length (rest_from xs o)) c.in-Some.is ∙ ap length (rest-step c.in-Some.node xs (listed-once c.args.self.now c.args.resource c.loop-place.invariant.once) inside) in
    let then_on : length (rest_from xs c.next_on-place.result) ≡ length (rest_from xs (next_in c.in-Some.node xs)) = ap (λ (o : Option ℕ). length (rest_from xs o)) next in
    omega arith

pub returns-clause-gap : goal.returns-clause-gap
returns-clause-gap c n a e f g =
    c.loop-place.invariant.gap n a e (ap (λ (o : Option ℕ). times n (rest_from (list_at c.args.self.now.on c.args.resource) o)) c.in_default.is) f g
