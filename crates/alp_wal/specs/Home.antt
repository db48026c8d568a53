-- Images are brought home.
use Rattle.std.specs.Prelude.{◌≡◌, ◌<◌, ℕ, ◌+◌, List, Option, Some, None, slice_index_or}
use Rattle.alp_disk.specs.Disk.{Image, page, SameBut}

-- the image of each home page, where there is one
abbrev pub Index : Type 0
Index = List (Option (List ℕ))

-- a home page of which the index has an image may differ, and none before the home pages
pub record SameUnlogged (first : ℕ) (index : Index) (old new : Image) : Type 0 where
  pub before : (q : ℕ) → q < first → page new q ≡ page old q
  pub home : (k : ℕ) → slice_index_or index k None ≡ None → page new (first + k) ≡ page old (first + k)

-- and the first n home pages are as the index has them
pub record BroughtHome (first n : ℕ) (index : Index) (old new : Image) : Type 0 where
  pub same : SameUnlogged first index old new
  pub home : (k : ℕ) (image : List ℕ) → k < n → slice_index_or index k None ≡ Some image → page new (first + k) ≡ image

-- one page may differ, if there is an image of it
abbrev pub MayDiffer : ℕ → Option (List ℕ) → Image → Image → Type 0
MayDiffer at None old new = new ≡ old
MayDiffer at (Some image) old new = SameBut at old new

-- one page is its image, if there is one
abbrev pub IsBrought : ℕ → Option (List ℕ) → Image → Image → Type 0
IsBrought at None old new = new ≡ old
IsBrought at (Some image) old new = (page new at ≡ image) × SameBut at old new
