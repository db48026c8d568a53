-- Batches that give names their values, and change nothing else.
use Rattle.std.specs.Prelude.{ℕ, List, [], ◌∷◌, zip}
use Rattle.alp_base.specs.declared.bytes.NoteChange.{NoteChange}
use Rattle.alp_batch.specs.declared.batch.Batch.{Batch}
use Rattle.alp_batch.specs.Batch.{puts_note}

-- the changes that give these names these values
abbrev pub puts : List (List ℕ × List ℕ) → List NoteChange
puts [] = []
puts (e ∷ es) = puts_note e ∷ puts es

-- names, and beside each its value
abbrev pub values_batch : List (List ℕ) → List (List ℕ) → Batch
values_batch names values = record { images = []; notes = puts (zip names values) }
