-- a carrier's errand
use Rattle.std.proofs.Common.{◌≡◌, ℕ, ◌+◌, List, [], length, set, Some, refl, sym, ap, ◌∙◌, subst}
use Rattle.std.specs.Prelude.{slice_get, Option, Vec}
use Rattle.alp_monitor.specs.Passes.{IsHeld, number}
use Rattle.alp_monitor.specs.declared.monitor.Monitor.{Monitor}
use Rattle.alp_monitor.specs.declared.monitor.Pass.{Pass}
use Rattle.alp_carrier.specs.Sights.{Sight}
use Rattle.alp_carrier.specs.Takes.{IsLater}
use Rattle.alp_carrier.specs.declared.route.Pair.{Pair}
use Rattle.alp_storm.specs.Logs.{Log}
use Rattle.alp_storm.specs.Rings.{IsRing}
use Rattle.alp_storm.specs.Errands.{HasCarriedOn, HasGone, HasCarriedTask, DidTask, IsDone}
use Rattle.alp_storm.specs.declared.errand.Errand.{Errand}
use Rattle.alp_storm.specs.declared.errand.Task.{Task}
use Rattle.alp_storm.specs.declared.errand.Task.TheVariants.{Work, Carry}
use Rattle.alp_storm.proofs.RingLemmas.{later_held, ring_set}

module _ {S B E : Type 0} (base_of : S → B) (log : Log B E) (sight : Sight B E) (seed : ℕ) (ms : List (Monitor S B E)) (k : ℕ) (ps : List (Pass S B E)) (ring : IsRing base_of ms k ps) (pair : Pair) where
  -- its passes may enter again
  gone_ring : (rs : List (Pass S B E)) (next lost : ℕ) → HasGone base_of sight seed ms pair ps rs next lost → IsRing base_of ms k rs
  gone_ring rs next lost h =
      let c = h.did.did in
      let s : IsHeld base_of h.sends k h.carried.sender =
      later_held base_of h.sends k h.sender h.carried.sender (ring.held h.here h.sends h.sender h.sends_is h.sender_is) (subst (λ (m : Monitor S B E). IsLater base_of m h.sender h.carried.sender) h.did.from_is c.sends) in
      let r : IsHeld base_of h.receives k h.carried.receiver =
      later_held base_of h.receives k h.receiver h.carried.receiver (ring.held h.there h.receives h.receiver h.receives_is h.receiver_is) (subst (λ (m : Monitor S B E). IsLater base_of m h.receiver h.carried.receiver) h.did.to_is c.brings.later) in
      subst (λ (l : List (Pass S B E)). IsRing base_of ms k l) (sym h.ring_is)
      (ring_set base_of ms k h.there (set ps h.here h.carried.sender) h.receives h.carried.receiver h.receives_is r (ring_set base_of ms k h.here ps h.sends h.carried.sender h.sends_is s ring))

  came : (t : Task) (rs : List (Pass S B E)) (next lost : ℕ) → HasCarriedTask base_of sight seed ms pair ps t rs → IsRing base_of ms k rs × DidTask base_of log sight seed ms k (Carry pair next lost) ps t rs
  came (Carry to next_now lost_now) rs next lost h = (gone_ring rs next_now lost_now h.1, h)
  came (Work j f) rs next lost h = absurd h

  pub carried_done : (t : Task) (rs : List (Pass S B E)) (before : Task) (next lost : ℕ) → before ≡ Carry pair next lost → HasCarriedTask base_of sight seed ms pair ps t rs → IsRing base_of ms k rs × DidTask base_of log sight seed ms k before ps t rs
  carried_done t rs before next lost is h = (let c = came t rs next lost h in (c.0, subst (λ (x : Task). DidTask base_of log sight seed ms k x ps t rs) (sym is) c.1))
