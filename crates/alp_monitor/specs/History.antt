-- The history of a monitor: all entries in order, each beside the number of the pass that made it.
use Rattle.std.specs.Prelude.{◌≡◌, ℕ, suc, ◌<◌, ◌^◌, ◌==◌, ◌⊎◌, List, [], ◌∷◌, ◌++◌, map, length, if◌then◌else◌}
use Rattle.alp_monitor.specs.declared.board.Part.{Part}

-- at most one entry more, and that only where fewer than 2^62 stand before it
abbrev pub AddsAtMostOne : {E : Type 0} → List E → List E → Type 0
AddsAtMostOne {E} before now = (now ≡ before) ⊎ ((length before < 2 ^ 62) × ((e : E) × (now ≡ before ++ e ∷ [])))

module _ {E : Type 0} where
  abbrev pub entry_of : ℕ × E → E
  entry_of x = x.1

  -- the entries alone
  abbrev pub entries_in : List (ℕ × E) → List E
  entries_in history = map entry_of history

  -- the entries of the pass k in a history that begins at the place n, each with its place
  abbrev pub turns_from : ℕ → ℕ → List (ℕ × E) → List (ℕ × E)
  turns_from n k [] = []
  turns_from n k (x ∷ xs) = if x.0 == k then (n, x.1) ∷ turns_from (suc n) k xs else turns_from (suc n) k xs

  -- the turns of the pass k: the entries that it made, each with its place in the history
  abbrev pub turns_of : ℕ → List (ℕ × E) → List (ℕ × E)
  turns_of k history = turns_from 0 k history

  abbrev pub part : ℕ → List (ℕ × E) → Part E
  part k history = record { number = k; front = history }
