-- what other runs do while those of one transaction on one resource change
use Rattle.std.proofs.Common.{◌≡◌, ℕ, Bool, true, false, ◌&&◌, cond, eqb, List, Option, None, Some, refl, sym, ◌∙◌, ap}
use Rattle.std.proofs.lemmas.Bool.{eqb-true}
use Rattle.std.specs.FinMap as map
use Rattle.alp_chain.specs.declared.node.NodeView.{NodeView}
use Rattle.alp_chain.specs.Chains.{Chains}
use Rattle.alp_chain.specs.Spans.{PageRun, run_of, run_in, runs, AreRuns, of_others, KeepsOthers}

-- a run is of a node of its transaction on its resource
run_of_others : (r t x y : ℕ) (o : Option NodeView) → ((r ≡ x) → (t ≡ y) → ⊥) → run_in r t o ≡ run_in r t (of_others x y o)
run_of_others r t x y None other = refl
run_of_others r t x y (Some v) other = go (eqb x v.resource) refl (eqb y v.trans) refl where
  none : x ≡ v.resource → y ≡ v.trans → run_in r t (Some v) ≡ None
  none e f = pick (eqb r v.resource) refl (eqb t v.trans) refl where
    pick : (a : Bool) → eqb r v.resource ≡ a → (b : Bool) → eqb t v.trans ≡ b → cond (eqb r v.resource && eqb t v.trans) (run_of v.mode v.span) None ≡ None
    pick true g true h = absurd (other (eqb-true r v.resource g ∙ sym e) (eqb-true t v.trans h ∙ sym f))
    pick true g false h = ap (λ (b : Bool). cond (b && eqb t v.trans) (run_of v.mode v.span) None) g ∙ ap (λ (b : Bool). cond b (run_of v.mode v.span) None) h
    pick false g b h = ap (λ (c : Bool). cond (c && eqb t v.trans) (run_of v.mode v.span) None) g

  go : (a : Bool) → eqb x v.resource ≡ a → (b : Bool) → eqb y v.trans ≡ b → run_in r t (Some v) ≡ run_in r t (cond (eqb x v.resource && eqb y v.trans) None (Some v))
  go true e true f =
      none (eqb-true x v.resource e) (eqb-true y v.trans f)
      ∙ sym (ap (λ (b : Bool). run_in r t (cond (b && eqb y v.trans) None (Some v))) e ∙ ap (λ (b : Bool). run_in r t (cond b None (Some v))) f)
  go true e false f = sym (ap (λ (b : Bool). run_in r t (cond (b && eqb y v.trans) None (Some v))) e ∙ ap (λ (b : Bool). run_in r t (cond b None (Some v))) f)
  go false e b f = sym (ap (λ (c : Bool). run_in r t (cond (c && eqb y v.trans) None (Some v))) e)

-- while the runs of one transaction on one resource change, all others are as before
pub others-runs : (r t x y : ℕ) (c d : Chains) → KeepsOthers x y c d → ((r ≡ x) → (t ≡ y) → ⊥) → (n : ℕ) → runs d.nodes r t n ≡ runs c.nodes r t n
others-runs r t x y c d k other n =
    run_of_others r t x y (map.get d.nodes n) other ∙ ap (run_in r t) (k.nodes n) ∙ sym (run_of_others r t x y (map.get c.nodes n) other)

-- fewer runs are runs
pub fewer-runs : (l : List ℕ) (m k : ℕ → Option PageRun) → ((n : ℕ) (a : PageRun) → k n ≡ Some a → m n ≡ Some a) → AreRuns l m → AreRuns l k
fewer-runs l m k h s = record {
  filled = λ n a e. s.filled n a (h n a e);
  within = λ n a e. s.within n a (h n a e);
  apart = λ n x a b p e f. s.apart n x a b p (h n a e) (h x b f);
  longest = λ n x a b e f. s.longest n x a b (h n a e) (h x b f);
}
