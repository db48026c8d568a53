-- One pass at each monitor, in the order of the monitors.
use Rattle.std.specs.Prelude.{◌≡◌, ℕ, ◌+◌, ◌≤◌, List, length, set, Option, Some, slice_get}
use Rattle.alp_monitor.specs.Passes.{IsHeld, turns, first_base}
use Rattle.alp_monitor.specs.declared.monitor.Monitor.{Monitor}
use Rattle.alp_monitor.specs.declared.monitor.Pass.{Pass}
use Rattle.alp_carrier.specs.Takes.{IsLater}

-- the server of this number is one of so many, which stands at that place
pub record StandsAt (servers server place : ℕ) : Type 0 where
  pub from_one : server ≡ place + 1
  pub to_last : server ≤ servers

module _ {S B E : Type 0} (base_of : S → B) where
  -- the passes with the number k, one at each monitor
  pub record IsRing (ms : List (Monitor S B E)) (k : ℕ) (ps : List (Pass S B E)) : Type 0 where
    pub long : length ps ≡ length ms
    pub held : (i : ℕ) (m : Monitor S B E) (p : Pass S B E) → slice_get ms i ≡ Some m → slice_get ps i ≡ Some p → IsHeld base_of m k p

  -- one of them took a turn, and the others did not
  pub record IsTurned (ms : List (Monitor S B E)) (i : ℕ) (Turns : Monitor S B E → Pass S B E → Pass S B E → Type 0) (before now : List (Pass S B E)) : Type 0 where
    pub monitor : Monitor S B E
    pub old : Pass S B E
    pub new : Pass S B E
    pub monitor_is : slice_get ms i ≡ Some monitor
    pub old_is : slice_get before i ≡ Some old
    pub now_is : now ≡ set before i new
    pub went : Turns monitor old new
