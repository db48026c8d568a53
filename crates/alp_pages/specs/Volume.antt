-- Which cells home pages stand for.
use Rattle.std.specs.Prelude.{◌≡◌, ◌<◌, ℕ, ◌+◌, ◌*◌, ◌/◌, true, is_some, List, [], Option, None, Some, option_map, if◌then◌else◌}
use Rattle.std.specs.Option.{option_and_then}
use Rattle.std.specs.FinMap as map
use Rattle.alp_base.specs.declared.ids.FileId.{FileId}
use Rattle.alp_base.specs.declared.key.Key.TheVariants.{Leader, PageOf, OwnerOf}
use Rattle.alp_fields.specs.Forms.{whole}
use Rattle.alp_base.specs.declared.cell.Cell.{Cell}
use Rattle.alp_base.specs.declared.cell.Cell.TheVariants as cell
use Rattle.alp_base.specs.declared.cell.OwnerRecord.{OwnerRecord}
use Rattle.alp_files.specs.Cells.{Cells, View, same_file, owner_in}
use Rattle.alp_files.specs.Sound.{AreSound}
use Rattle.alp_pages.specs.declared.leader.Leader.{Leader as LeaderRecord}
use Rattle.alp_pages.specs.Leader.{leader_page}
use Rattle.alp_pages.specs.declared.entry.Entry.{Entry}
use Rattle.alp_pages.specs.Naming.{Naming, IsNaming, number_or_0}
use Rattle.alp_pages.specs.Nodes.{Node, LeaderOf, IndexOf, DataOf}
use Rattle.alp_pages.specs.Pages.{Pages, header_page, entry_in, row_in, index_page}
use Rattle.alp_pages.specs.Rows.{Kinds, SpellsRow}

-- which directory entry each file has, which row each owner, and which place each node
pub record Volume : Type 0 where
  pub slots : Naming FileId
  pub rows : Naming (List ℕ)
  pub places : Naming Node

-- ---- the kinds of nodes: a leader names 32 index pages, an index page 128 pages of data

abbrev pub child_of : Node → ℕ → Node
child_of (LeaderOf f) j = IndexOf f j
child_of (IndexOf f b) j = DataOf f (128 * b + j)
child_of (DataOf f n) j = DataOf f n

abbrev pub width_of : Node → ℕ
width_of (LeaderOf f) = 32
width_of (IndexOf f b) = 128
width_of (DataOf f n) = 0

-- a leader's row, where the leader is that file's
abbrev pub row_of_leader : FileId → Option LeaderRecord → Option (List ℕ)
row_of_leader f None = None
row_of_leader f (Some l) = if same_file l.file f then Some l.index else None

abbrev pub row_of_node : Node → List ℕ → Option (List ℕ)
row_of_node (LeaderOf f) bytes = row_of_leader f (whole leader_page bytes)
row_of_node (IndexOf f b) bytes = whole index_page bytes
row_of_node (DataOf f n) bytes = Some []

abbrev pub nodes : Kinds Node
nodes = record { child = child_of; width = width_of; row_of = row_of_node }

-- ---- what has an entry, a row or a place, by the cells

pub record IsShaped (home : ℕ) (v : Volume) (m : View) : Type 0 where
  pub slots : IsNaming 0 4096 v.slots
  pub rows : IsNaming 0 256 v.rows
  pub places : IsNaming 257 home v.places
  pub files : (f : FileId) → is_some (v.slots.of f) ≡ is_some (m (Leader f))
  pub owners : (o : List ℕ) → is_some (v.rows.of o) ≡ is_some (m (OwnerOf o))
  pub leaders : (f : FileId) → is_some (v.places.of (LeaderOf f)) ≡ is_some (m (Leader f))
  pub pages : (f : FileId) (n : ℕ) → is_some (v.places.of (DataOf f n)) ≡ is_some (m (PageOf f n))
  -- a block has an index page just where it has a page
  pub block : (f : FileId) (n p : ℕ) → v.places.of (DataOf f n) ≡ Some p → is_some (v.places.of (IndexOf f (n / 128))) ≡ true
  pub page : (f : FileId) (b p : ℕ) → v.places.of (IndexOf f b) ≡ Some p → (n : ℕ) × (n / 128 ≡ b) × (is_some (v.places.of (DataOf f n)) ≡ true)

-- ---- what the pages say

-- the entry of a file, with the place of its leader
abbrev pub entry_for : Volume → FileId → Entry
entry_for v f = record { file = f; place = number_or_0 (v.places.of (LeaderOf f)) }

-- the record of an owner, by its cell
abbrev pub record_for : View → List ℕ → Option OwnerRecord
record_for m name = owner_in (m (OwnerOf name))

-- the properties in a leader, as a cell
abbrev pub props_cell : LeaderRecord → Cell
props_cell l = cell.Leader l.props

-- the pages below home spell the volume, and its files and owners have these cells
pub record Spells (home : ℕ) (at : Pages) (v : Volume) (m : View) : Type 0 where
  pub shape : IsShaped home v m
  pub header : at 0 ≡ header_page
  pub directory : (slot : ℕ) → slot < 4096 → entry_in at slot ≡ Some (option_map (entry_for v) (v.slots.at slot))
  pub owners : (row : ℕ) → row < 256 → row_in at row ≡ Some (option_and_then (record_for m) (v.rows.at row))
  pub rows : (k : Node) (p : ℕ) → v.places.of k ≡ Some p → SpellsRow nodes v.places (at p) k
  pub leaders : (f : FileId) (p : ℕ) → v.places.of (LeaderOf f) ≡ Some p → m (Leader f) ≡ option_map props_cell (whole leader_page (at p))
  pub pages : (f : FileId) (n p : ℕ) → v.places.of (DataOf f n) ≡ Some p → m (PageOf f n) ≡ Some (cell.Page (at p))

-- These cells, and no others, are those that the pages below home stand for. They are well-formed files that are
-- charged for their sizes.
pub record StandFor (home : ℕ) (pages : Pages) (m : Cells) : Type 0 where
  pub volume : Volume
  pub spells : Spells home pages volume (map.get m)
  pub sound : AreSound m
