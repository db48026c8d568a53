-- What one turn tells.
use Rattle.std.proofs.Common.{◌≡◌, ℕ, ◌+◌, ◌≤◌, List, [], ◌∷◌, ◌++◌, length, take, Some, Bool, true, false, sym, ap, ◌∙◌, subst, arith, length-append}
use Rattle.std.specs.Prelude.{if◌then◌else◌}
use mathlib.Core.List.{IsPrefix, append-nil}
use Rattle.alp_monitor.specs.History.{entries_in, turns_of}
use Rattle.alp_monitor.specs.Passes.{IsHeld, IsSamePass, IsOutside, number, front, turns, first_base, base_of_pass}
use Rattle.alp_monitor.specs.declared.monitor.Monitor.{Monitor}
use Rattle.alp_monitor.specs.declared.monitor.Pass.{Pass}
use Rattle.alp_carrier.specs.Sights.{Sight, IsArrival}
use Rattle.alp_carrier.specs.Takes.{IsLater}
use Rattle.alp_carrier.specs.Brings.{IsPrevented, HandsIn, IsMissed, nothing, one_came, one_missed, Brings, counted}
use Rattle.alp_carrier.specs.declared.steps.Delivery.{Delivery}
use Rattle.alp_carrier.specs.declared.taken.Taken.{Taken}
use Rattle.alp_carrier.proofs.Fronts.{begins_through, not_longer, same_entries, all_entries, same_some}

module _ {S B E : Type 0} (base_of : S → B) (m : Monitor S B E) where
  -- a pass before, inside and after a turn
  pub later_turn : (p q r : Pass S B E) → IsHeld base_of m (number p) p → IsSamePass p q → IsPrefix (front p) (front q) → IsSamePass q r → IsOutside r → IsPrefix (front q) (front r) → IsLater base_of m p r
  later_turn p q r h one begins_one two outside begins_two = record {
    held = record { ready = record { own = two.table ∙ (one.table ∙ h.ready.own); outside = outside; number_is = two.number ∙ one.number }; base = two.base ∙ (one.base ∙ h.base) };
    begins = begins_through (front p) (front q) (front r) begins_one begins_two;
  }

  pub base_there : (p : Pass S B E) (y : S) → IsHeld base_of m (number p) p → base_of_pass p ≡ Some (base_of y) → base_of y ≡ first_base base_of m
  base_there p y h e = same_some (base_of y) (first_base base_of m) (sym e ∙ h.base)

module _ {S B E : Type 0} (base_of : S → B) (sight : Sight B E) (m : Monitor S B E) (from : ℕ) (x : Taken) where
  -- A turn at the receiver: the pass d.pass went inside as p with a state of these entries, and left as q with those.
  pub brings_one : (took : Bool) (d : Delivery S B E) (p q : Pass S B E) (lost : ℕ) (b : B) (before now : List E) → IsLater base_of m d.pass q → IsPrefix (front d.pass) (front p) → b ≡ first_base base_of m → turns p ≡ turns d.pass → before ≡ entries_in (front p)
      → number q ≡ number p → IsPrefix (front p) (front q) → (now ≡ entries_in (front p) → front q ≡ front p) → ((e : E) → now ≡ entries_in (front p) ++ e ∷ [] → front q ≡ front p ++ (number p, e) ∷ [])
      → ((e : E) → now ≡ entries_in (front p) ++ e ∷ [] → turns q ≡ turns p ++ (length (front p), e) ∷ []) → HandsIn sight b from x before now took → lost ≡ (if took then d.lost else counted d.lost 1)
      → Brings base_of sight m from d (record { pass = q; lost = lost }) (x ∷ [])
  brings_one true d p q lost b before now later up base same was numbered begins none entry one (e, is, brought) lost_is =
      let t : ℕ × E = (length (front p), e) in
      let added : now ≡ entries_in (front p) ++ e ∷ [] = is ∙ ap (λ l. l ++ e ∷ []) was in
      let there : before ≡ take (length (front p)) (entries_in (front q)) = was ∙ (sym (all_entries (front p)) ∙ same_entries (front p) (front q) (length (front p)) begins (omega arith)) in
      let low : length (front d.pass) ≤ length (front p) = not_longer (front d.pass) (front p) (length (front d.pass)) up (omega arith) in
      record {
        later = later;
        more = t ∷ [];
        turns_are = one e added ∙ ap (λ l. l ++ t ∷ []) same;
        brought = one_came (length (front d.pass)) x t [] [] low (record {
          within = (let n = ap length (entry e added) ∙ length-append (front p) ((number p, e) ∷ []) in omega (arith, n));
          brought = subst (λ (y : B × List E). IsArrival sight y.0 from x.message x.seen y.1 e) (λ i. (base i, there i)) brought;
        }) (nothing (length (front p) + 1));
        missed = 0;
        missed_is = omega arith;
        lost_is = omega (arith, lost_is);
      }
  brings_one false d p q lost b before now later up base same was numbered begins none entry one (is, why) lost_is =
      let there : before ≡ take (length (front p)) (entries_in (front q)) = was ∙ (sym (all_entries (front p)) ∙ same_entries (front p) (front q) (length (front p)) begins (omega arith)) in
      let low : length (front d.pass) ≤ length (front p) = not_longer (front d.pass) (front p) (length (front d.pass)) up (omega arith) in
      let missed : IsMissed sight (first_base base_of m) from x (front q) = record {
        after = length (front p);
        within = not_longer (front p) (front q) (length (front p)) begins (omega arith);
        why = subst (λ (y : B × List E). IsPrevented sight y.0 from x y.1) (λ i. (base i, there i)) why;
      } in
      record {
        later = later;
        more = [];
        turns_are = (ap (λ k. turns_of k (front q)) numbered ∙ ap (turns_of (number p)) (none (is ∙ was))) ∙ (same ∙ sym (append-nil (turns d.pass)));
        brought = one_missed (length (front d.pass)) x [] [] missed low (nothing (length (front p)));
        missed = 1;
        missed_is = omega arith;
        lost_is = omega (arith, lost_is);
      }
