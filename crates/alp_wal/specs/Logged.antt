-- Which home pages have an image in the records of the area.
use Rattle.std.specs.Prelude.{◌≡◌, ◌≤◌, ◌<◌, ℕ, ◌+◌, List, [], ◌∷◌, Some, None, length, slice_index_or}
use Rattle.alp_wal.specs.Home.{Index}

-- how many
abbrev pub images_in : Index → ℕ
images_in [] = 0
images_in (None ∷ index) = images_in index
images_in (Some image ∷ index) = images_in index + 1

-- the list has each page with an image, and home pages alone
pub record AreListed (logged : List ℕ) (index : Index) : Type 0 where
  pub each : (k : ℕ) (image : List ℕ) → slice_index_or index k None ≡ Some image → (j : ℕ) × (j < length logged) × (slice_index_or logged j 0 ≡ k)
  pub within : (j d : ℕ) → j < length logged → slice_index_or logged j d < length index

-- it has no more, and there is room for all
pub record IsWhole (logged : List ℕ) (room : ℕ) (index : Index) : Type 0 where
  pub listed : AreListed logged index
  pub few : length logged ≤ images_in index
  pub room_for_all : length index ≤ room
