-- What memory has of a volume that is read part by part.
use Rattle.std.specs.Prelude.{◌≡◌, ◌≤◌, ◌<◌, ℕ, ◌+◌, ◌-◌, Bool, true, false, not, ◌&&◌, ◌==◌, nat_le, nat_lt, is_some, List, drop, length, slice_index_or, Option, None, Some, option_map, map as list_map, sum_by, if◌then◌else◌}
use Rattle.std.specs.Int.{bit_at}
use Rattle.std.specs.List.{enumerate_from, filter_map, flat_map, range_with_len}
use Rattle.std.specs.FinMap as map
use Rattle.std.specs.FinMap.{FinMap}
use Rattle.alp_base.specs.Notes.{text_cmp}
use Rattle.alp_base.specs.declared.ids.FileId.{FileId}
use Rattle.alp_base.specs.KeyLaws.{file_cmp}
use Rattle.alp_base.specs.declared.cell.OwnerRecord.{OwnerRecord}
use Rattle.alp_files.specs.Cells.{same_name}
use Rattle.alp_pages.specs.declared.leader.Leader.{Leader}
use Rattle.alp_tables.specs.Costs.{cost_to}
use Rattle.alp_tables.specs.declared.cost.Cost.{Cost}
use Rattle.alp_pages.specs.declared.entry.Entry.{Entry}
use Rattle.alp_tables.specs.declared.file_slot.FileSlot.{FileSlot}
use Rattle.alp_pages.specs.Counted.{bit}
use Rattle.alp_pages.specs.Nodes.{Node, LeaderOf, IndexOf, DataOf}
use Rattle.alp_pages.specs.Pages.{Pages, entry_in, row_in}
use Rattle.alp_pages.specs.Volume.{child_of}
use Rattle.alp_pages.specs.Damage.{Part, index_part, leader_at, cost_of, charge_in, Slot, OwnerRow, Name, parts_of, entry_there, owner_there, has_node, has_place, is_named, first_wrong, names_after}

-- files and owners as tables
abbrev pub Files : Type 0
Files = FinMap file_cmp FileSlot

abbrev pub Owners : Type 0
Owners = FinMap text_cmp ℕ

-- the directory's entries from this one on
unfoldable pub slots_from : ℕ → List Part
slots_from s = list_map Slot (range_with_len s (4096 - s))

-- the owners' rows from this one on
unfoldable pub rows_from : ℕ → List Part
rows_from r = list_map OwnerRow (range_with_len r (256 - r))

-- the leaders and index pages of the files in the entries from this one on
unfoldable pub files_from : Pages → ℕ → List Part
files_from at s = flat_map (λ x. parts_of at (entry_there (entry_in at x))) (range_with_len s (4096 - s))

-- the index pages that a leader's row names from this block on
abbrev pub blocks_from : FileId → ℕ → List ℕ → ℕ → List Part
blocks_from f size row b = filter_map (index_part f size) (enumerate_from b (drop b row))

-- The parts are in the grammar, and this holds of the names after them; or else this is the first page that is not.
abbrev pub IsJudged : ℕ → Pages → List Name → List Part → (List Name → Type 0) → Option ℕ → Type 0
IsJudged home at names parts P None = (first_wrong home at names parts ≡ None) × P (names_after at names parts)
IsJudged home at names parts P (Some place) = first_wrong home at names parts ≡ Some place

-- A place is free just where it may be named: it lies in the volume behind the owners' pages, and was not named yet.
pub record AreMarks (home : ℕ) (names : List Name) (taken : List Bool) : Type 0 where
  pub long : length taken ≡ home
  pub says : (p : ℕ) → slice_index_or taken p true ≡ not (nat_le 257 p && nat_lt p home && not (has_place p names))

-- a leader or an index page
abbrev pub IsParent : Node → Type 0
IsParent (LeaderOf f) = Unit {0}
IsParent (IndexOf f b) = Unit {0}
IsParent (DataOf f n) = ⊥

-- a leader or an index page, and none of the nodes that it may name is named
pub record AreFresh (k : Node) (names : List Name) : Type 0 where
  pub parent : IsParent k
  pub children : (j : ℕ) → has_node (child_of k j) names ≡ false

abbrev pub slot_of : FileSlot → ℕ
slot_of x = x.slot

-- the files are those of so many directory entries
pub record AreListed (home : ℕ) (at : Pages) (count : ℕ) (names : List Name) (files : Files) (slots : List Bool) : Type 0 where
  pub there : (s : ℕ) (e : Entry) → s < count → entry_there (entry_in at s) ≡ Some e → option_map slot_of (map.get files e.file) ≡ Some s
  pub back : (f : FileId) (x : FileSlot) → map.get files f ≡ Some x → (x.slot < count) × (entry_there (entry_in at x.slot) ≡ Some (record { file = f; place = x.place }))
  pub within : (f : FileId) (x : FileSlot) → map.get files f ≡ Some x → x.place < home
  pub leaders : (f : FileId) → has_node (LeaderOf f) names ≡ is_some (map.get files f)
  pub flags : (s : ℕ) → s < 4096 → slice_index_or slots s true ≡ (nat_lt s count && is_some (entry_there (entry_in at s)))

-- the owners are those of so many rows
pub record AreOwners (at : Pages) (count : ℕ) (owners : Owners) (rows : List Bool) : Type 0 where
  pub there : (r : ℕ) (o : OwnerRecord) → r < count → owner_there (row_in at r) ≡ Some o → map.get owners o.name ≡ Some r
  pub back : (name : List ℕ) (r : ℕ) → map.get owners name ≡ Some r → (r < count) × (is_named name (owner_there (row_in at r)) ≡ true)
  pub flags : (r : ℕ) → r < 256 → slice_index_or rows r true ≡ (nat_lt r count && is_some (owner_there (row_in at r)))

-- no page of the file is named but its leader
pub record IsUnread (names : List Name) (f : FileId) : Type 0 where
  pub index : (b : ℕ) → has_node (IndexOf f b) names ≡ false
  pub pages : (n : ℕ) → has_node (DataOf f n) names ≡ false

-- The pages of the files in so many directory entries are named, and no others; the blocks of a file are those that have
-- an index page.
pub record AreNamed (count : ℕ) (names : List Name) (files : Files) : Type 0 where
  pub later : (f : FileId) (x : FileSlot) → map.get files f ≡ Some x → count ≤ x.slot → IsUnread names f
  pub blocks : (f : FileId) (x : FileSlot) (b : ℕ) → map.get files f ≡ Some x → x.slot < count → b < 32 → bit_at x.blocks b ≡ bit (has_node (IndexOf f b) names)

-- what is kept of a file whose leader was read: its entry, its place, and the blocks that the leader's row names
pub record IsKept (old new : FileSlot) (row : List ℕ) : Type 0 where
  pub slot : new.slot ≡ old.slot
  pub place : new.place ≡ old.place
  pub blocks : (b : ℕ) → b < 32 → bit_at new.blocks b ≡ bit (not (slice_index_or row b 0 == 0))

-- ---- costs

-- the size of a file, and its owner
abbrev pub cost_in : Leader → Cost
cost_in l = record { owner = l.props.owner; size = l.props.size }

-- the sizes of the files in the entries from this one on that name the owner
unfoldable pub charge_from : Pages → ℕ → List ℕ → ℕ
charge_from at s name = sum_by (λ x. cost_of name (leader_at at (entry_there (entry_in at x)))) (range_with_len s (4096 - s))

-- the costs are those of all files that can be read
abbrev pub AreCosts : Pages → List Cost → Type 0
AreCosts at costs = (name : List ℕ) → sum_by (cost_to name) costs ≡ charge_in at name

-- all entries name places of the volume
abbrev pub AreWithin : ℕ → Pages → Type 0
AreWithin home at = (s : ℕ) (e : Entry) → s < 4096 → entry_there (entry_in at s) ≡ Some e → e.place < home
