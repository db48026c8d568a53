-- What is counted of a map of cells: its files, its owners, and the places that it takes on a volume.
use Rattle.std.specs.Prelude.{◌≡◌, ◌≤◌, Bool, false, ◌&&◌, nat_le, ℕ, ◌+◌, ◌-◌, ◌%◌, sum_by, List, [], ◌∷◌, length, Option, None, Some}
use Rattle.std.specs.List.{filter_map}
use Rattle.std.specs.FinMap as map
use Rattle.std.specs.FinMap.{FinMap}
use Rattle.alp_base.specs.declared.ids.FileId.{FileId}
use Rattle.alp_base.specs.declared.key.Key.{Key}
use Rattle.alp_base.specs.declared.key.Key.TheVariants.{Leader, PageOf, OwnerOf}
use Rattle.alp_base.specs.Keys.{key_cmp}
use Rattle.alp_base.specs.declared.cell.Cell.{Cell}
use Rattle.alp_base.specs.declared.cell.TheConstants.{BLOCK_PAGES}
use Rattle.alp_files.specs.Cells.{Cells, same_file}

-- a file is a leader
abbrev pub files_at : Key → ℕ
files_at (Leader f) = 1
files_at (PageOf f n) = 0
files_at (OwnerOf name) = 0

abbrev pub file_count_of : Cells → ℕ
file_count_of m = sum_by (λ e. files_at e.0) (map.entries m)

-- a file's leader takes a place, and each page does
abbrev pub places_at : Key → ℕ
places_at (Leader f) = 1
places_at (PageOf f n) = 1
places_at (OwnerOf name) = 0

-- the block of a page, named by the first page number in it
abbrev pub block_of : FileId → ℕ → Key
block_of f n = PageOf f (n - n % BLOCK_PAGES)

abbrev pub Blocks : Type 0
Blocks = FinMap key_cmp (Unit {0})

abbrev pub with_block : Key → Blocks → Blocks
with_block (Leader f) blocks = blocks
with_block (PageOf f n) blocks = map.insert blocks (block_of f n) tt
with_block (OwnerOf name) blocks = blocks

-- the blocks that have a page
abbrev pub blocks_of : List (Key × Cell) → Blocks
blocks_of [] = map.empty
blocks_of (e ∷ es) = with_block e.0 (blocks_of es)

-- one for each file, one for each page, one for each block with a page
abbrev pub used_of : Cells → ℕ
used_of m = sum_by (λ e. places_at e.0) (map.entries m) + map.len (blocks_of (map.entries m))

-- whether a key is that of a page of the file, with at most this number
abbrev pub page_up_to : Option Key → FileId → ℕ → Bool
page_up_to None f last = false
page_up_to (Some (Leader g)) f last = false
page_up_to (Some (PageOf g n)) f last = same_file f g && nat_le n last
page_up_to (Some (OwnerOf name)) f last = false

-- a page of the file stands at a number from first to last
pub record APageStands (m : Cells) (f : FileId) (first last : ℕ) : Type 0 where
  pub number : ℕ
  pub within : (first ≤ number) × (number ≤ last)
  pub page : Cell
  pub stands : map.get m (PageOf f number) ≡ Some page

abbrev pub name_at : Key → Option (List ℕ)
name_at (Leader f) = None
name_at (PageOf f n) = None
name_at (OwnerOf name) = Some name

-- the owners' names, in rising order of their bytes
abbrev pub owner_names_of : Cells → List (List ℕ)
owner_names_of m = filter_map name_at (map.keys m)

abbrev pub owner_count_of : Cells → ℕ
owner_count_of m = length (owner_names_of m)
