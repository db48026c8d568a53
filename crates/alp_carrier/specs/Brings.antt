-- What a carrier brings to the receiver.
use Rattle.std.specs.Prelude.{◌≡◌, ℕ, ◌+◌, ◌<◌, ◌≤◌, ◌^◌, max, min, Bool, true, false, List, [], ◌∷◌, ◌++◌, length, take}
use Rattle.alp_monitor.specs.History.{entries_in}
use Rattle.alp_monitor.specs.Passes.{turns, front, first_base}
use Rattle.alp_monitor.specs.declared.monitor.Monitor.{Monitor}
use Rattle.alp_carrier.specs.Sights.{Sight, IsArrival}
use Rattle.alp_carrier.specs.Takes.{IsLater}
use Rattle.alp_carrier.specs.declared.steps.Delivery.{Delivery}
use Rattle.alp_carrier.specs.declared.taken.Taken.{Taken}

module _ {B E : Type 0} (sight : Sight B E) (b : B) (from : ℕ) (x : Taken) where
  -- why a message cannot come after these entries
  pub data IsPrevented (es : List E) : Type 0 where
    shut : sight.is_shut b es → IsPrevented es
    starved : sight.is_starved b es from x.message → IsPrevented es
    ranks_end_here : 2 ^ 62 ≤ sight.last b es → IsPrevented es
    ranks_end_there : 2 ^ 62 ≤ x.seen → IsPrevented es

  -- it came, by one entry more, or it did not for a cause
  abbrev pub HandsIn : List E → List E → Bool → Type 0
  HandsIn before now true = (e : E) × (now ≡ before ++ e ∷ []) × IsArrival sight b from x.message x.seen before e
  HandsIn before now false = (now ≡ before) × IsPrevented before

  -- the turn, which stands at its place of the history, brought it
  pub record Came (history : List (ℕ × E)) (t : ℕ × E) : Type 0 where
    pub within : t.0 < length history
    pub brought : IsArrival sight b from x.message x.seen (take t.0 (entries_in history)) t.1

  -- it did not come after so many entries of the history, for a cause
  pub record IsMissed (history : List (ℕ × E)) : Type 0 where
    pub after : ℕ
    pub within : after ≤ length history
    pub why : IsPrevented (take after (entries_in history))

module _ {B E : Type 0} (sight : Sight B E) (b : B) (from : ℕ) (history : List (ℕ × E)) where
  -- From this place of the history on, one after the other: each message came by one of the turns, or was missed. There are no other turns.
  pub data AreBrought : ℕ → List Taken → List (ℕ × E) → Type 0 where
    nothing : (place : ℕ) → AreBrought place [] []
    one_came : (place : ℕ) (x : Taken) (t : ℕ × E) (xs : List Taken) (ts : List (ℕ × E)) → place ≤ t.0 → Came sight b from x history t
        → AreBrought (t.0 + 1) xs ts → AreBrought place (x ∷ xs) (t ∷ ts)
    one_missed : (place : ℕ) (x : Taken) (xs : List Taken) (ts : List (ℕ × E)) (m : IsMissed sight b from x history) → place ≤ m.after
        → AreBrought m.after xs ts → AreBrought place (x ∷ xs) ts

-- a count of 32 bits after so many more, which stays at its greatest number
abbrev pub counted : ℕ → ℕ → ℕ
counted before more = min (before + more) (max before 4294967295)

module _ {S B E : Type 0} (base_of : S → B) (sight : Sight B E) (m : Monitor S B E) (from : ℕ) where
  -- further turns of the pass brought these messages of the server, but for those that were missed
  pub record Brings (before now : Delivery S B E) (xs : List Taken) : Type 0 where
    pub later : IsLater base_of m before.pass now.pass
    pub more : List (ℕ × E)
    pub turns_are : turns now.pass ≡ turns before.pass ++ more
    pub brought : AreBrought sight (first_base base_of m) from (front now.pass) (length (front before.pass)) xs more
    pub missed : ℕ
    pub missed_is : length more + missed ≡ length xs
    pub lost_is : now.lost ≡ counted before.lost missed
