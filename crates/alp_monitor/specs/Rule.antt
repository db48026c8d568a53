-- The rule that every step at the table of a monitor keeps.
use Rattle.std.specs.Prelude.{◌≡◌, ℕ, ◌+◌, ◌*◌, ◌%◌, ◌^◌, ◌<◌, ◌≤◌, Bool, true, false, List, [], ◌∷◌, length, Option, Some}
use mathlib.Core.Option.{none, some}
use mathlib.Core.Option as maybe
use mathlib.Core.List.{IsPrefix}
use lib.ListN.{get_elem?}
use Rattle.atomic_table.specs.Table.{State}
use Rattle.alp_monitor.specs.History.{entries_in, turns_of}
use Rattle.alp_monitor.specs.declared.board.Part.{Part}
use Rattle.alp_monitor.specs.declared.board.View.{View}
use Rattle.alp_monitor.specs.declared.board.View.TheVariants.{Spent, Founder, Outside, Waiting, Inside}

module _ {B E : Type 0} where
  abbrev pub founding : B → View B E
  founding base = Founder base 0

  -- one for a pass that is counted as waiting
  abbrev pub waits_in : View B E → ℕ
  waits_in (Waiting b p) = 1
  waits_in v = 0

  -- how many passes are counted as waiting
  abbrev pub waiters : List (View B E) → ℕ
  waiters [] = 0
  waiters (v ∷ vs) = waits_in v + waiters vs

module _ {E : Type 0} (history : List (ℕ × E)) (made : ℕ) (owner : ℕ → ℕ) where
  -- Of the pass with this part: its front begins the history, which has no other turns of it, and the seat j alone has its number
  pub record IsPartOf (j : ℕ) (p : Part E) : Type 0 where
    pub begins : IsPrefix p.front history
    pub complete : turns_of p.number history ≡ turns_of p.number p.front
    pub numbered : p.number < made
    pub owned : owner p.number ≡ j

  -- the parts of the seat j, which have numbers of their own
  pub record ArePartsOf (j : ℕ) (ps : List (Part E)) : Type 0 where
    pub each : (i : ℕ) (p : Part E) → get_elem? ps i ≡ some p → IsPartOf j p
    pub apart : (i k : ℕ) (p q : Part E) → get_elem? ps i ≡ some p → get_elem? ps k ≡ some q → p.number ≡ q.number → i ≡ k

module _ {B E : Type 0} (history : List (ℕ × E)) (base : B) (made : ℕ) (owner : ℕ → ℕ) (busy : Bool) (holder : ℕ) where
  -- what the seat j may know
  abbrev pub Knows : ℕ → View B E → Type 0
  Knows j Spent = Unit {0}
  Knows j (Founder b n) = (b ≡ base) × (n ≡ made) × (j ≡ 0)
  Knows j (Outside b ps) = (b ≡ base) × ArePartsOf history made owner j ps
  Knows j (Waiting b p) = (b ≡ base) × IsPartOf history made owner j p
  Knows j (Inside b p) = (b ≡ base) × IsPartOf history made owner j p × (busy ≡ true) × (j ≡ holder) × (p.front ≡ history)

-- twice the number of the entries, and one more while the state is out
abbrev pub word_of : Bool → ℕ → ℕ
word_of true n = 2 * n + 1
word_of false n = 2 * n

module _ {S B E : Type 0} (base_of : S → B) (entries_of : S → List E) where
  -- the state is out exactly while a pass is inside. At home it has the base and the whole history
  abbrev pub IsHome : List (ℕ × E) → B → Bool → List (maybe.Option (Option S)) → Type 0
  IsHome history base true homes = homes ≡ none ∷ []
  IsHome history base false homes = (y : S) × (homes ≡ some (Some y) ∷ []) × (base_of y ≡ base) × (entries_of y ≡ entries_in history)

  -- base is that of the state which the monitor was made of, and passes the number of its passes
  pub record IsInTurns (base : B) (passes : ℕ) (s : State (Option S) (View B E)) : Type 0 where
    pub history : List (ℕ × E)
    pub made : ℕ
    -- the seat that has the number
    pub owner : ℕ → ℕ
    pub busy : Bool
    -- the seat that is inside, while one is
    pub holder : ℕ
    pub waiting : ℕ
    -- one where a pass that waits was woken and did not come back yet
    pub awake : ℕ
    pub words : s.words ≡ word_of busy (length history) ∷ waiting ∷ []
    -- the second word is twice the number of the passes that wait, and one more while one of them is awake
    pub waiting_is : waiting ≡ (2 * waiters s.views + awake) % 2 ^ 64
    pub one_awake : awake ≤ 1
    pub room : length history ≤ 2 ^ 62
    pub few : made ≤ passes
    pub named : (k : ℕ) (x : ℕ × E) → get_elem? history k ≡ some x → x.0 < made
    pub home : IsHome history base busy s.homes
    pub held : busy ≡ true → (b : B) × (p : Part E) × (get_elem? s.views holder ≡ some (Inside b p))
    pub each_seat : (j : ℕ) (v : View B E) → get_elem? s.views j ≡ some v → Knows history base made owner busy holder j v
