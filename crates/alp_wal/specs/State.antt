-- What a log holds, and what a batch makes of it.
use Rattle.std.specs.Prelude.{◌≤◌, ◌<◌, ℕ, List, [], ◌∷◌, slice_set}
use Rattle.std.specs.List.{AllByRecursion}
use Rattle.std.specs.FinMap as map
use Rattle.alp_disk.specs.Disk.{Image}
use Rattle.alp_batch.specs.declared.batch.PageImage.{PageImage}
use Rattle.alp_batch.specs.declared.batch.Batch.{Batch}
use Rattle.alp_base.specs.Notes.{Notes, notes_after}
use Rattle.alp_wal.specs.Live.{most_notes}

-- home pages in order, and notes by their names
pub record State : Type 0 where
  pub pages : Image
  pub notes : Notes

-- each image in place of the page that stood there
abbrev pub overlaid : Image → List PageImage → Image
overlaid pages [] = pages
overlaid pages (i ∷ is) = overlaid (slice_set pages i.at i.page) is

abbrev pub applied : State → Batch → State
applied state batch = record { pages = overlaid state.pages batch.images; notes = notes_after batch.notes state.notes }

abbrev pub IsBelow : ℕ → PageImage → Type 0
IsBelow home i = i.at < home

-- the batch changes home pages that are there, and leaves no more notes than may be live
pub record Suits (home : ℕ) (notes : Notes) (batch : Batch) : Type 0 where
  pub inside : AllByRecursion (IsBelow home) batch.images
  pub few : map.len (notes_after batch.notes notes) ≤ most_notes
