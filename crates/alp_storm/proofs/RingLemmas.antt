-- what a ring keeps as one of its passes takes a turn
use Rattle.std.specs.Prelude.{slice_get, ◌⊎◌}
use Rattle.std.proofs.Common.{inl, inr, ◌≡◌, ◌≢◌, ℕ, zero, suc, ◌+◌, List, [], ◌∷◌, length, set, Some, refl, sym, ap, ◌∙◌, subst, arith}
use Rattle.std.proofs.Math.ListN.{length-set}
use mathlib.Core.List.{IsPrefix}
use Rattle.alp_monitor.specs.Passes.{IsHeld, number}
use Rattle.alp_monitor.specs.declared.monitor.Monitor.{Monitor}
use Rattle.alp_monitor.specs.declared.monitor.Pass.{Pass}
use Rattle.alp_carrier.specs.Takes.{IsLater}
use Rattle.alp_storm.proofs.Fronts.{begins_itself}
use Rattle.alp_storm.specs.Rings.{IsRing, IsTurned}
use Rattle.alp_storm.proofs.Lists.{same_some}
use Rattle.alp_storm.proofs.Sets.{get_set}

pub eq_or : (m n : ℕ) → (m ≡ n) ⊎ (m ≢ n)
eq_or zero zero = inl refl
eq_or zero (suc n) = inr (λ e. omega (arith, e))
eq_or (suc m) zero = inr (λ e. omega (arith, e))
eq_or (suc m) (suc n) = more (eq_or m n)
  where
    more : (m ≡ n) ⊎ (m ≢ n) → (suc m ≡ suc n) ⊎ (suc m ≢ suc n)
    more (inl e) = inl (ap suc e)
    more (inr ne) = inr (λ e. ne (omega (arith, e)))

module _ {S B E : Type 0} (base_of : S → B) where
  pub held_as : (m : Monitor S B E) (k : ℕ) (p : Pass S B E) → IsHeld base_of m k p → IsHeld base_of m (number p) p
  held_as m k p h = subst (λ n. IsHeld base_of m n p) (sym h.ready.number_is) h

  pub later_held : (m : Monitor S B E) (k : ℕ) (p q : Pass S B E) → IsHeld base_of m k p → IsLater base_of m p q → IsHeld base_of m k q
  later_held m k p q h l = subst (λ n. IsHeld base_of m n q) h.ready.number_is l.held

  -- a pass that did nothing
  pub later_same : (m : Monitor S B E) (k : ℕ) (p : Pass S B E) → IsHeld base_of m k p → IsLater base_of m p p
  later_same m k p h = record { held = held_as m k p h; begins = begins_itself _ }

  pub ring_set : (ms : List (Monitor S B E)) (k i : ℕ) (ps : List (Pass S B E)) (m : Monitor S B E) (q : Pass S B E) → slice_get ms i ≡ Some m → IsHeld base_of m k q → IsRing base_of ms k ps → IsRing base_of ms k (set ps i q)
  ring_set ms k i ps m q m_is held ring = record { long = length-set ps i q ∙ ring.long; held = helds }
    where
      helds : (j : ℕ) (n : Monitor S B E) (r : Pass S B E) → slice_get ms j ≡ Some n → slice_get (set ps i q) j ≡ Some r → IsHeld base_of n k r
      helds j n r at rat = go (get_set ps i j q r rat)
        where
          go : ((j ≡ i) × (r ≡ q)) ⊎ ((j ≢ i) × (slice_get ps j ≡ Some r)) → IsHeld base_of n k r
          go (inl (is, same)) =
              let n_is : m ≡ n = same_some m n (sym m_is ∙ (ap (λ x. slice_get ms x) (sym is) ∙ at)) in
              subst (λ (x : Pass S B E). IsHeld base_of n k x) (sym same) (subst (λ (x : Monitor S B E). IsHeld base_of x k q) n_is held)
          go (inr (ne, old)) = ring.held j n r at old

  -- a ring of which one pass took a turn
  pub ring_turned : (ms : List (Monitor S B E)) (k i : ℕ) (Turns : Monitor S B E → Pass S B E → Pass S B E → Type 0) (ps qs : List (Pass S B E)) → ((m : Monitor S B E) (p q : Pass S B E) → Turns m p q → IsLater base_of m p q)
      → IsTurned base_of ms i Turns ps qs → IsRing base_of ms k ps → IsRing base_of ms k qs
  ring_turned ms k i Turns ps qs later t ring =
      subst (λ (l : List (Pass S B E)). IsRing base_of ms k l) (sym t.now_is)
      (ring_set ms k i ps t.monitor t.new t.monitor_is (later_held t.monitor k t.old t.new (ring.held i t.monitor t.old t.monitor_is t.old_is) (later t.monitor t.old t.new t.went)) ring)
