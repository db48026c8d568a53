-- What clauses say of a monitor, of its passes, and of what a pass knows.
use Rattle.std.specs.Prelude.{◌≡◌, ℕ, ◌^◌, ◌<◌, ◌≤◌, List, [], ◌∷◌, length, slice_get, Option, Some, None}
use mathlib.Core.List.{IsPrefix}
use Rattle.atomic_table.specs.declared.shared.Seat.{Seat}
use Rattle.alp_monitor.specs.History.{entries_in, turns_of, part}
use Rattle.alp_monitor.specs.declared.board.Part.{Part}
use Rattle.alp_monitor.specs.declared.board.View.{View}
use Rattle.alp_monitor.specs.declared.board.View.TheVariants.{Spent, Founder, Outside, Waiting, Inside}
use Rattle.alp_monitor.specs.declared.monitor.Monitor.{Monitor}
use Rattle.alp_monitor.specs.declared.monitor.Pass.{Pass}

module _ {B E : Type 0} where
  abbrev pub first_part : View B E → Part E
  first_part (Outside b (p ∷ ps)) = p
  first_part (Waiting b p) = p
  first_part (Inside b p) = p
  first_part v = part 0 []

  abbrev pub base_in : View B E → Option B
  base_in Spent = None
  base_in (Founder b n) = Some b
  base_in (Outside b ps) = Some b
  base_in (Waiting b p) = Some b
  base_in (Inside b p) = Some b

module _ {S B E : Type 0} where
  -- how many passes a monitor has
  abbrev pub pass_count : Monitor S B E → ℕ
  pass_count m = m.table.shared.key.1

  -- the base of the state that a monitor was made of
  abbrev pub first_base : (S → B) → Monitor S B E → B
  first_base base_of m = base_of m.table.shared.key.0.value

  -- it is a pass of this monitor, and so of no other
  abbrev pub IsPassOf : Monitor S B E → Pass S B E → Type 0
  IsPassOf m p = p.seat.table_id ≡ m.table.shared.table_id

  -- which of its monitor's passes it is, counted from 0
  abbrev pub number : Pass S B E → ℕ
  number p = (first_part p.seat.me.0).number

  -- the history that it saw last, each entry beside the number of the pass that made it
  abbrev pub front : Pass S B E → List (ℕ × E)
  front p = (first_part p.seat.me.0).front

  -- the entries that it made, each with its place in the history
  abbrev pub turns : Pass S B E → List (ℕ × E)
  turns p = turns_of (number p) (front p)

  -- the base of the state that its monitor was made of
  abbrev pub base_of_pass : Pass S B E → Option B
  base_of_pass p = base_in p.seat.me.0

  -- it may enter
  abbrev pub IsOutside : Pass S B E → Type 0
  IsOutside p = (b : B) × (own : Part E) × (p.seat.me ≡ (Outside b (own ∷ []), []))

  -- it entered, and the state is out with it
  abbrev pub IsInside : Pass S B E → Type 0
  IsInside p = (b : B) × (own : Part E) × (p.seat.me ≡ (Inside b own, (0, None) ∷ [])) × (length own.front ≤ 2 ^ 62)

  -- it is the pass of this monitor with the number k, and may enter
  pub record IsReady (m : Monitor S B E) (k : ℕ) (p : Pass S B E) : Type 0 where
    pub own : IsPassOf m p
    pub outside : IsOutside p
    pub number_is : number p ≡ k

  -- one pass before and after a call
  pub record IsSamePass (before now : Pass S B E) : Type 0 where
    pub table : now.seat.table_id ≡ before.seat.table_id
    pub number : number now ≡ number before
    pub base : base_of_pass now ≡ base_of_pass before

  -- nothing happened to it
  pub record IsUntouched (before now : Pass S B E) : Type 0 where
    pub table : now.seat.table_id ≡ before.seat.table_id
    pub id : now.seat.id ≡ before.seat.id
    pub me : now.seat.me ≡ before.seat.me

  -- they are passes of this monitor, and none is inside
  abbrev pub AreOutside : Monitor S B E → List (Pass S B E) → Type 0
  AreOutside m ps = (i : ℕ) (p : Pass S B E) → slice_get ps i ≡ Some p → IsPassOf m p × IsOutside p

  -- some pass of the list has the number
  abbrev pub HasNumber : List (Pass S B E) → ℕ → Type 0
  HasNumber ps k = (i : ℕ) × (p : Pass S B E) × (slice_get ps i ≡ Some p) × (number p ≡ k)

  -- each number of a pass of this monitor is there
  abbrev pub AreAll : Monitor S B E → List (Pass S B E) → Type 0
  AreAll m ps = (k : ℕ) → k < pass_count m → HasNumber ps k

  -- One history has these entries. It begins with the front of each pass and has its turns at their places; each of its entries is a turn of one of the passes, which have numbers of their own
  pub record IsMadeBy (ps : List (Pass S B E)) (entries : List E) : Type 0 where
    pub history : List (ℕ × E)
    pub told_is : entries_in history ≡ entries
    pub fronts : (i : ℕ) (p : Pass S B E) → slice_get ps i ≡ Some p → IsPrefix (front p) history
    pub turns_are : (i : ℕ) (p : Pass S B E) → slice_get ps i ≡ Some p → turns_of (number p) history ≡ turns p
    pub makers : (k : ℕ) (x : ℕ × E) → slice_get history k ≡ Some x → HasNumber ps x.0
    pub apart : (i j : ℕ) (p q : Pass S B E) → slice_get ps i ≡ Some p → slice_get ps j ≡ Some q → number p ≡ number q → i ≡ j

module _ {S B E : Type 0} (base_of : S → B) where
  -- it is the pass of this monitor with the number k, may enter, and shows the base of the state that the monitor was made of
  pub record IsHeld (m : Monitor S B E) (k : ℕ) (p : Pass S B E) : Type 0 where
    pub ready : IsReady m k p
    pub base : base_of_pass p ≡ Some (first_base base_of m)

  -- a new pass with this number, which made no turns and saw no history
  pub record IsFresh (m : Monitor S B E) (k : ℕ) (p : Pass S B E) : Type 0 where
    pub own : IsPassOf m p
    pub outside : IsOutside p
    pub base : base_of_pass p ≡ Some (first_base base_of m)
    pub number : number p ≡ k
    pub turns : turns p ≡ []
    pub front : front p ≡ []

  -- they are new passes of this monitor, numbered by their places
  abbrev pub AreFresh : Monitor S B E → List (Pass S B E) → Type 0
  AreFresh m ps = (k : ℕ) (p : Pass S B E) → slice_get ps k ≡ Some p → IsFresh m k p

  -- a seat that makes the passes of a monitor, and made n of them
  abbrev pub IsCounting : Monitor S B E → ℕ → Seat (Option S) (View B E) → Type 0
  IsCounting m n s = (s.table_id ≡ m.table.shared.table_id) × (s.me ≡ (Founder (first_base base_of m) n, []))

module _ {S B E : Type 0} (base_of : S → B) (entries_of : S → List E) where
  -- the pass goes inside with the state
  pub record Enters (before now : Pass S B E) (state : S) : Type 0 where
    pub same : IsSamePass before now
    pub inside : IsInside now
    pub base : base_of_pass before ≡ Some (base_of state)
    pub entries : entries_of state ≡ entries_in (front now)
    pub begins : IsPrefix (front before) (front now)
    pub turns : turns now ≡ turns before
