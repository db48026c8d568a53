-- What a page that is changed says, beside what the page said before.
use Rattle.std.specs.Prelude.{◌≡◌, ◌<◌, ◌≤◌, ℕ, Bool, true, false, is_some, ◌+◌, ◌/◌, ◌%◌, List, Option, None, Some, option_map, slice_index_or, slice_set, map as list_map}
use Rattle.alp_base.specs.declared.ids.FileId.{FileId}
use Rattle.alp_fields.specs.Forms.{whole}
use Rattle.alp_base.specs.declared.cell.OwnerRecord.{OwnerRecord}
use Rattle.alp_pages.specs.declared.leader.Leader.{Leader as LeaderRecord}
use Rattle.alp_pages.specs.Leader.{leader_page}
use Rattle.alp_pages.specs.declared.entry.Entry.{Entry}
use Rattle.alp_base.specs.declared.key.Key.TheVariants.{PageOf}
use Rattle.alp_files.specs.Cells.{same_file}
use Rattle.alp_files.specs.Edits.{Edit, Drop, Cut, is_past}
use Rattle.alp_pages.specs.Naming.{named, without}
use Rattle.alp_pages.specs.Nodes.{Node, LeaderOf, IndexOf, DataOf, file_of, same_node}
use Rattle.alp_pages.specs.Pages.{Pages, entry, index_page, part_of, read_row}
use Rattle.alp_pages.specs.Rows.{SpellsRow}
use Rattle.alp_pages.specs.Volume.{Volume, nodes, row_of_node, props_cell}

-- the record stands in that row, and the other row of the page is as it was
pub record HasRow (at : Pages) (bytes : List ℕ) (row : ℕ) (o : OwnerRecord) : Type 0 where
  pub own : read_row (part_of 256 (row % 2) bytes) ≡ Some (Some o)
  pub other : (j : ℕ) → (j ≡ row % 2 → ⊥) → part_of 256 j bytes ≡ part_of 256 j (at (129 + row / 2))

-- the entry stands in that slot, and the other slots of the page are as they were
pub record HasSlot (at : Pages) (bytes : List ℕ) (slot : ℕ) (e : Option Entry) : Type 0 where
  pub own : whole entry (part_of 16 (slot % 32) bytes) ≡ Some e
  pub other : (j : ℕ) → (j ≡ slot % 32 → ⊥) → part_of 16 j bytes ≡ part_of 16 j (at (1 + slot / 32))

-- whether a node belongs to the file
abbrev pub is_of : FileId → Node → Bool
is_of f k = same_file f (file_of k)

-- a volume without the file
abbrev pub volume_without : FileId → Volume → Volume
volume_without f v = record v { slots = without (same_file f) v.slots; places = without (is_of f) v.places }

-- an index page that names one place alone
pub record NamesOne (page : List ℕ) (slot place : ℕ) : Type 0 where
  pub row : List ℕ
  pub reads : whole index_page page ≡ Some row
  pub own : slice_index_or row slot 0 ≡ place
  pub none : (j : ℕ) → j < 128 → (j ≡ slot → ⊥) → slice_index_or row j 0 ≡ 0

-- a leader page that names the place of one more block, beside what it said before
pub record NamesBlock (f : FileId) (before bytes : List ℕ) (block place : ℕ) : Type 0 where
  pub old : LeaderRecord
  pub old_reads : whole leader_page before ≡ Some old
  pub old_row : row_of_node (LeaderOf f) before ≡ Some old.index
  pub row_is : row_of_node (LeaderOf f) bytes ≡ Some (slice_set old.index block place)
  pub props_are : option_map props_cell (whole leader_page before) ≡ option_map props_cell (whole leader_page bytes)

-- nothing stands at the place, which is one of the volume's
pub record IsFree (home : ℕ) (v : Volume) (place : ℕ) : Type 0 where
  pub free : v.places.at place ≡ None
  pub least : 257 ≤ place
  pub most : place < home

-- a volume in which that node stands at that place too
abbrev pub volume_with : Node → ℕ → Volume → Volume
volume_with k place v = record v { places = named same_node k place v.places }

-- a volume that also has the file, in that slot and with its leader at that place
abbrev pub volume_with_file : FileId → (slot place : ℕ) → Volume → Volume
volume_with_file f slot place v = record v { slots = named same_file f slot v.slots; places = named same_node (LeaderOf f) place v.places }

-- a leader page of the file that names no index page
pub record IsBareLeader (f : FileId) (page : List ℕ) (l : LeaderRecord) : Type 0 where
  pub reads : whole leader_page page ≡ Some l
  pub file : l.file ≡ f
  pub empty : (j : ℕ) → slice_index_or l.index j 0 ≡ 0

-- Pages from which some nodes are gone: those of the file's pages from that number on, and index pages whose blocks have
-- no other page. Each page of a node that is left names just what is left, and nothing else of it changed.
pub record IsCutOff (at new : Pages) (v : Volume) (f : FileId) (from : ℕ) (gone : Node → Bool) : Type 0 where
  pub files : (g : FileId) → gone (LeaderOf g) ≡ false
  pub data_ : (g : FileId) (n : ℕ) → gone (DataOf g n) ≡ is_past f from (PageOf g n)
  pub block : (g : FileId) (n p : ℕ) → gone (DataOf g n) ≡ false → v.places.of (DataOf g n) ≡ Some p → gone (IndexOf g (n / 128)) ≡ false
  pub page : (g : FileId) (b p : ℕ) → gone (IndexOf g b) ≡ false → v.places.of (IndexOf g b) ≡ Some p → (n : ℕ) × (n / 128 ≡ b) × (is_some (v.places.of (DataOf g n)) ≡ true) × (gone (DataOf g n) ≡ false)
  pub low : (p : ℕ) → p < 257 → new p ≡ at p
  pub rows : (k : Node) (p : ℕ) → gone k ≡ false → v.places.of k ≡ Some p → SpellsRow nodes (without gone v.places) (new p) k
  pub leaders : (g : FileId) (p : ℕ) → v.places.of (LeaderOf g) ≡ Some p → option_map props_cell (whole leader_page (new p)) ≡ option_map props_cell (whole leader_page (at p))
  pub pages : (g : FileId) (n p : ℕ) → gone (DataOf g n) ≡ false → v.places.of (DataOf g n) ≡ Some p → new p ≡ at p

-- a volume without those nodes
abbrev pub volume_cut : (Node → Bool) → Volume → Volume
volume_cut gone v = record v { places = without gone v.places }

-- ---- the edits of a change

abbrev pub drops_of : List FileId → List Edit
drops_of files = list_map Drop files

abbrev pub cuts_of : List (FileId × ℕ) → List Edit
cuts_of cuts = list_map (λ p. Cut p.0 p.1) cuts
