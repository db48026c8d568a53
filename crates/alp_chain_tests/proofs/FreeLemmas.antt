-- resources and pages that nobody locked, and a node that was put
use Rattle.std.proofs.Common.{◌≡◌, ◌⊎◌, inl, inr, ℕ, ◌+◌, Bool, true, false, ◌&&◌, cond, eqb, Option, None, Some, nat_cmp, sym, ◌∙◌, ap, subst, eq-eqb, ne_eqb, refl}
use Rattle.std.proofs.lemmas.Bool.{cases_eq}
use Rattle.std.specs.FinMap as map
use Rattle.std.specs.FinMap.{get-empty}
use Rattle.alp_modes.specs.declared.Mode.{Mode}
use Rattle.alp_chain.specs.declared.node.NodeView.{NodeView}
use Rattle.alp_chain.specs.declared.node.Span.{Span}
use Rattle.alp_chain.specs.Chains.{Nodes, Chains, is_on}
use Rattle.alp_chain.specs.Spans.{run_of, run_in, runs, IsFree, is_among, AreAllSpans, KeepsOthers, LocksSpan}
use Rattle.alp_chain.proofs.KeyLemmas.{get_put}
use Rattle.alp_chain.proofs.OtherRuns.{others-runs}

-- ---- a resource that nobody locked

abbrev pub IsUnused : ℕ → Nodes → Type 0
IsUnused r nodes = (n : ℕ) → is_on r (map.get nodes n) ≡ false

pub unused-none : (r : ℕ) (nodes : Nodes) → nodes ≡ map.empty → IsUnused r nodes
unused-none r nodes e n = ap (λ (m : Nodes). is_on r (map.get m n)) e ∙ ap (is_on r) (get-empty nat_cmp n)

pub unused-kept : (r : ℕ) (nodes : Nodes) (k : ℕ) (w : NodeView) → (r ≡ w.resource → ⊥) → IsUnused r nodes → IsUnused r (map.insert nodes k w)
unused-kept r nodes k w other unused n = ap (is_on r) (get_put nodes k w n) ∙ pick (eqb n k) where
  pick : (b : Bool) → is_on r (cond b (Some w) (map.get nodes n)) ≡ false
  pick true = ne_eqb r w.resource other
  pick false = unused n

pub unused-not : {P : Type 0} (r : ℕ) (nodes : Nodes) (n : ℕ) → IsUnused r nodes → is_on r (map.get nodes n) ≡ true → P
unused-not r nodes n unused e = let wrong : true ≡ false = sym e ∙ unused n in absurd (cc)

pub unused-spans : (r : ℕ) (nodes : Nodes) → IsUnused r nodes → AreAllSpans r nodes
unused-spans r nodes unused n v e i = unused-not r nodes n unused (ap (is_on r) e ∙ eq-eqb r v.resource (sym i))

pub unused-free : (r t p : ℕ) (nodes : Nodes) → IsUnused r nodes → IsFree p (runs nodes r t)
unused-free r t p nodes unused n a e low high = no (map.get nodes n) (unused n) e where
  no : (o : Option NodeView) → is_on r o ≡ false → run_in r t o ≡ Some a → ⊥
  no None f g = let wrong : None ≡ Some a = g in absurd (cc)
  no (Some v) f g = let wrong : None ≡ Some a = sym (ap (λ (b : Bool). cond (b && eqb t v.trans) (run_of v.mode v.span) None) f) ∙ g in absurd (cc)

-- ---- a page that nobody locked

-- it stays so where a span without it is locked
pub free-kept : (r t p : ℕ) (s : Span) (m : Mode) (c d : Chains) → is_among s.first (s.first + s.count) p ≡ false → LocksSpan r t s m c d → KeepsOthers r t c d → ((u : ℕ) → IsFree p (runs c.nodes r u)) → (u : ℕ) → IsFree p (runs d.nodes r u)
free-kept r t p s m c d out l k free u = go (cases_eq u t) where
  go : (u ≡ t) ⊎ (u ≡ t → ⊥) → IsFree p (runs d.nodes r u)
  go (inl e) = subst (λ (x : ℕ). IsFree p (runs d.nodes r x)) (sym e) (l.free p out (free t))
  go (inr other) = λ n a e. free u n a (sym (others-runs r u r t c d k (λ g f. other f) n) ∙ e)

-- ---- a node that was put

pub put-view : (nodes : Nodes) (n : ℕ) (w : NodeView) → map.get (map.insert nodes n w) n ≡ Some w
put-view nodes n w = get_put nodes n w n ∙ ap (λ (b : Bool). cond b (Some w) (map.get nodes n)) (eq-eqb n n refl)
