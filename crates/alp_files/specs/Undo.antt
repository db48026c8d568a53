-- Puts that are done together, and what takes them back.
use Rattle.std.specs.Prelude.{◌≡◌, List, [], ◌∷◌, map as list_map, Option}
use Rattle.std.specs.FinMap as map
use Rattle.alp_base.specs.declared.key.Key.{Key}
use Rattle.alp_base.specs.declared.cell.Cell.{Cell}
use Rattle.alp_files.specs.Cells.{Cells}
use Rattle.alp_files.specs.Edits.{Edit, Put}

-- cells and their keys, as edits
abbrev pub puts_of : List (Key × Cell) → List Edit
puts_of puts = list_map (λ p. Put p.0 p.1) puts

-- One put after the other led from the old cells to those of now; these are the keys, each with what stood there.
abbrev pub LedBy : Cells → List (Key × Option Cell) → Cells → Type 0
LedBy old [] now = now ≡ old
LedBy old (x ∷ xs) now = (c : Cell) × (x.1 ≡ map.get old x.0) × LedBy (map.insert old x.0 c) xs now
