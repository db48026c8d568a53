-- The batch of a change.
use Rattle.std.specs.Prelude.{◌≤◌, ℕ, ◌*◌, List, map as list_map}
use Rattle.std.specs.List.{AllByRecursion}
use Rattle.std.specs.FinMap as map
use Rattle.alp_base.specs.Notes.{Notes}
use Rattle.alp_base.specs.declared.bytes.NoteChange.{NoteChange}
use Rattle.alp_batch.specs.declared.batch.Batch.{Batch}
use Rattle.alp_batch.specs.declared.batch.PageImage.{PageImage}
use Rattle.alp_base.specs.declared.change.Change.{Change}
use Rattle.alp_vault.specs.Volumes.{AreNoteChanges, FitsLog, changed_cells}
use Rattle.alp_volume.specs.Drafts.{Changed}
use Rattle.alp_wal.specs.State.{IsBelow}

abbrev pub image_of : ℕ × List ℕ → PageImage
image_of e = record { at = e.0; page = e.1 }

-- the pages of a plan, by rising places, and the changes of notes
abbrev pub batch_of : Changed → List NoteChange → Batch
batch_of pages notes = record { images = list_map image_of (map.entries pages); notes = notes }

-- A plan of at most four pages a changed cell, and changes of notes, for an area that has room for them.
pub record IsLoggable (server servers area : ℕ) (live : Notes) (change : Change) (pages : Changed) (notes : List NoteChange) : Type 0 where
  pub few : map.len pages ≤ 4 * changed_cells change
  pub noted : AreNoteChanges server servers live notes
  pub log : FitsLog area live change notes
  pub area_most : area ≤ 4096

-- all pages of a plan are home pages
abbrev pub AreBelow : ℕ → Changed → Type 0
AreBelow home pages = AllByRecursion (IsBelow home) (list_map image_of (map.entries pages))
