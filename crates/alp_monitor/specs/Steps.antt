-- What each step tells the pass that makes it.
use Rattle.std.specs.Prelude.{◌≡◌, ◌≢◌, ℕ, ◌+◌, ◌^◌, ◌≤◌, List, [], ◌∷◌, ◌++◌, map, drop, length, Option, Some}
use mathlib.Core.List.{IsPrefix}
use Rattle.atomic_table.specs.Table.{Me, Step}
use Rattle.alp_monitor.specs.History.{entries_in, turns_of, part}
use Rattle.alp_monitor.specs.declared.board.Part.{Part}
use Rattle.alp_monitor.specs.declared.board.View.{View}
use Rattle.alp_monitor.specs.declared.board.View.TheVariants.{Spent, Founder, Outside, Waiting, Inside}

module _ {B E : Type 0} where
  abbrev pub with_one_more : View B E → View B E
  with_one_more (Founder b n) = Founder b (n + 1)
  with_one_more v = v

  -- the pass that a founder makes next
  abbrev pub newcomer : View B E → View B E
  newcomer (Founder b n) = Outside b (part n [] ∷ [])
  newcomer v = Spent

  -- the parts that are taken in come first
  abbrev pub both_of : View B E → View B E → View B E
  both_of (Outside b ps) (Outside c qs) = Outside b (qs ++ ps)
  both_of v w = v

module _ {S V : Type 0} where
  -- the seat knows what it knew
  abbrev pub Stays : Step S → Me S V → ℕ → Me S V → Type 0
  Stays step before found now = now ≡ before

module _ {S B E : Type 0} where
  -- a pass that is outside is counted as waiting
  abbrev pub WaitsFrom : View B E → Me S (View B E) → Type 0
  WaitsFrom (Outside b (p ∷ [])) now = now ≡ (Waiting b p, [])
  WaitsFrom v now = Unit {0}

  abbrev pub BeginsWait : Step S → Me S (View B E) → ℕ → Me S (View B E) → Type 0
  BeginsWait step before found now = WaitsFrom before.0 now

  -- a pass that is counted is outside again
  abbrev pub ComesFrom : View B E → Me S (View B E) → Type 0
  ComesFrom (Waiting b p) now = now ≡ (Outside b (p ∷ []), [])
  ComesFrom v now = Unit {0}

  abbrev pub EndsWait : Step S → Me S (View B E) → ℕ → Me S (View B E) → Type 0
  EndsWait step before found now = ComesFrom before.0 now

module _ {S B E : Type 0} (base_of : S → B) (entries_of : S → List E) where
  -- a pass goes inside with the state y, whose history it sees whole
  pub record GoesIn (b : B) (p : Part E) (y : S) (q : Part E) : Type 0 where
    pub base : base_of y ≡ b
    pub entries : entries_of y ≡ entries_in q.front
    pub number : q.number ≡ p.number
    pub begins : IsPrefix p.front q.front
    pub turns : turns_of p.number q.front ≡ turns_of p.number p.front
    pub room : length q.front ≤ 2 ^ 62

  -- where the word is the one that was asked for the pass goes inside, and else it stays outside
  abbrev pub ClaimsFrom : ℕ → View B E → ℕ → Me (Option S) (View B E) → Type 0
  ClaimsFrom asked (Outside b (p ∷ [])) found now = (found ≡ asked → (y : S) × (q : Part E) × (now ≡ (Inside b q, (0, Some y) ∷ [])) × GoesIn b p y q) × (found ≢ asked → now ≡ (Outside b (p ∷ []), []))
  ClaimsFrom asked v found now = Unit {0}

  abbrev pub Claims : Step (Option S) → Me (Option S) (View B E) → ℕ → Me (Option S) (View B E) → Type 0
  Claims step before found now = ClaimsFrom step.first before.0 found now

module _ {E : Type 0} where
  abbrev pub made_by : ℕ → E → ℕ × E
  made_by k e = (k, e)

  -- the history, with the entries beyond it that the pass k brings home
  abbrev pub grown : ℕ → List (ℕ × E) → List E → List (ℕ × E)
  grown k history es = history ++ map (made_by k) (drop (length history) es)

module _ {S B E : Type 0} (entries_of : S → List E) where
  -- the pass leaves the state at home, and has seen its history
  abbrev pub SettlesFrom : View B E → List (ℕ × Option S) → Me (Option S) (View B E) → Type 0
  SettlesFrom (Inside b p) ((k, Some y) ∷ []) now = now ≡ (Outside b (part p.number (grown p.number p.front (entries_of y)) ∷ []), [])
  SettlesFrom v carried now = Unit {0}

  abbrev pub Settles : Step (Option S) → Me (Option S) (View B E) → ℕ → Me (Option S) (View B E) → Type 0
  Settles step before found now = SettlesFrom before.0 before.1 now
