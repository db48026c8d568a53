-- Counts that are kept beside a map of cells.
use Rattle.std.specs.Prelude.{◌≡◌, ℕ, if◌then◌else◌}
use Rattle.std.specs.FinMap as map
use Rattle.alp_base.specs.declared.key.Key.{Key}
use Rattle.alp_base.specs.declared.key.Key.TheVariants.{Leader, PageOf, OwnerOf}
use Rattle.alp_files.specs.Cells.{Cells}
use Rattle.alp_files.specs.Counts.{file_count_of, used_of, blocks_of, block_of}

-- these are the counts of the map
pub record AreCounts (files used : ℕ) (m : Cells) : Type 0 where
  pub of_files : files ≡ file_count_of m
  pub of_places : used ≡ used_of m

-- the places that a new cell at the key takes
abbrev pub places_with : Cells → Key → ℕ
places_with m (Leader f) = 1
places_with m (PageOf f n) = if map.contains_key (blocks_of (map.entries m)) (block_of f n) then 1 else 2
places_with m (OwnerOf name) = 0
