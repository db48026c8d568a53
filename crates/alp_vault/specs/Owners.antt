-- Owners' names, in rising order, when owners come.
use Rattle.std.specs.Prelude.{ℕ, List, [], ◌∷◌, Option, None, Some}
use Rattle.std.specs.FinMap.Entries.{by_order}
use Rattle.alp_base.specs.declared.key.Key.{Key}
use Rattle.alp_base.specs.declared.cell.Cell.{Cell}
use Rattle.alp_files.specs.Counts.{name_at}
use Rattle.alp_base.specs.Notes.{text_cmp}

-- the names with this one, where it is missing
abbrev pub with_name : List ℕ → List (List ℕ) → List (List ℕ)
with_name n [] = n ∷ []
with_name n (o ∷ os) = by_order (text_cmp n o) (n ∷ o ∷ os) (o ∷ os) (o ∷ with_name n os)

abbrev pub with_owner : Option (List ℕ) → List (List ℕ) → List (List ℕ)
with_owner None ns = ns
with_owner (Some n) ns = with_name n ns

-- the names with those of the owners that are put
abbrev pub with_owners : List (Key × Cell) → List (List ℕ) → List (List ℕ)
with_owners [] ns = ns
with_owners (p ∷ ps) ns = with_owners ps (with_owner (name_at p.0) ns)
