-- Changes of a map of cells, and what they make of one cell.
use Rattle.std.specs.Prelude.{◌≡◌, ℕ, Bool, false, not, ◌&&◌, nat_le, List, [], ◌∷◌, Option, None, Some, if◌then◌else◌}
use Rattle.std.specs.Option.{option_or}
use Rattle.std.specs.FinMap as map
use Rattle.std.specs.Ordering.{eq_by_cmp}
use Rattle.alp_base.specs.declared.ids.FileId.{FileId}
use Rattle.alp_base.specs.declared.key.Key.{Key}
use Rattle.alp_base.specs.declared.key.Key.TheVariants.{Leader, PageOf, OwnerOf}
use Rattle.alp_base.specs.Keys.{key_cmp}
use Rattle.alp_base.specs.declared.cell.Cell.{Cell}
use Rattle.alp_files.specs.Cells.{Cells, View, same_file}

-- a file and its pages go, the pages from a number on go, a cell is put
pub data Edit : Type 0 where
  Drop : FileId → Edit
  Cut : FileId → ℕ → Edit
  Put : Key → Cell → Edit

-- whether a key is the leader or a page of the file
abbrev pub is_in_file : FileId → Key → Bool
is_in_file f (Leader g) = same_file f g
is_in_file f (PageOf g n) = same_file f g
is_in_file f (OwnerOf o) = false

-- whether a key is a page of the file from this number on
abbrev pub is_past : FileId → ℕ → Key → Bool
is_past f n (Leader g) = false
is_past f n (PageOf g i) = same_file f g && nat_le n i
is_past f n (OwnerOf o) = false

-- what an edit makes of the cell at a key
abbrev pub edit_at : Edit → Key → Option Cell → Option Cell
edit_at (Drop f) q old = if is_in_file f q then None else old
edit_at (Cut f n) q old = if is_past f n q then None else old
edit_at (Put k c) q old = if eq_by_cmp key_cmp q k then Some c else old

abbrev pub edits_at : List Edit → Key → Option Cell → Option Cell
edits_at [] q old = old
edits_at (e ∷ es) q old = edits_at es q (edit_at e q old)

-- what is seen after the edits
abbrev pub after : List Edit → View → View
after es m q = edits_at es q (m q)

-- puts laid over what is seen
abbrev pub over : Cells → View → View
over puts m q = option_or (map.get puts q) (m q)

-- the same of maps
abbrev pub edit_map : Edit → Cells → Cells
edit_map (Drop f) m = map.retain_keys m (λ k. not (is_in_file f k))
edit_map (Cut f n) m = map.retain_keys m (λ k. not (is_past f n k))
edit_map (Put k c) m = map.insert m k c

abbrev pub edits_map : List Edit → Cells → Cells
edits_map [] m = m
edits_map (e ∷ es) m = edits_map es (edit_map e m)

-- puts that changed from old to new changed what is seen through them by these edits, whatever is below them
abbrev pub ChangesBy : List Edit → Cells → Cells → Type 0
ChangesBy es old new = (m : View) → over new m ≡ after es (over old m)
