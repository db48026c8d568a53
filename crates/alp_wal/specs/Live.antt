-- The live notes of a log, and the record of them that a checkpoint writes.
use Rattle.std.specs.Prelude.{◌≡◌, ◌⊎◌, ◌≤◌, ℕ, ◌+◌, []}
use Rattle.std.specs.List.{AllByRecursion}
use Rattle.std.specs.FinMap as map
use Rattle.alp_base.specs.Notes.{Notes}
use Rattle.alp_batch.specs.declared.batch.Batch.{Batch}
use Rattle.alp_batch.specs.Batch.{IsShort, batch_length}
pub use Rattle.alp_batch.specs.Values.{puts}
use Rattle.alp_record.specs.Record.{body_pages}

-- the most notes that are live at once
abbrev pub most_notes : ℕ
most_notes = 65535

-- the batch whose changes make these notes of none
abbrev pub notes_batch : Notes → Batch
notes_batch notes = record { images = []; notes = puts (map.entries notes) }

-- the pages of a record with this batch
abbrev pub batch_pages : Batch → ℕ
batch_pages b = 1 + body_pages (batch_length b)

-- the pages of a record with the notes
abbrev pub notes_pages : Notes → ℕ
notes_pages notes = batch_pages (notes_batch notes)

-- notes that one batch can hold
pub record AreLive (notes : Notes) : Type 0 where
  pub few : map.len notes ≤ most_notes
  pub short : AllByRecursion IsShort (puts (map.entries notes))

-- there are none, or a record of them takes no more pages than the records from `first` up to `end`
abbrev pub AreWithin : ℕ → ℕ → Notes → Type 0
AreWithin first end notes = (notes ≡ map.empty) ⊎ (first + notes_pages notes ≤ end)

-- a record of the notes and then one of the batch go into an area of so many pages
abbrev pub BothFit : ℕ → Notes → Batch → Type 0
BothFit area notes batch = notes_pages notes + batch_pages batch ≤ area
