-- What memory keeps of a volume, against the volume that the pages spell.
use Rattle.std.specs.Prelude.{◌≡◌, ◌≤◌, ◌<◌, ℕ, ◌-◌, ◌++◌, Bool, true, false, is_some, length, replicate, slice_index_or, List, Option, None, Some, option_map}
use Rattle.std.specs.Int.{bit_at}
use Rattle.std.specs.FinMap as map
use Rattle.alp_base.specs.declared.ids.FileId.{FileId}
use Rattle.alp_volume.specs.declared.catalog.Catalog.{Catalog}
use Rattle.alp_tables.specs.declared.file_slot.FileSlot.{FileSlot}
use Rattle.alp_pages.specs.Counted.{bit}
use Rattle.alp_pages.specs.Nodes.{LeaderOf, IndexOf}
use Rattle.alp_volume.specs.Reached.{AreListed, AreMarks, AreNamed, AreOwners, slot_of}
use Rattle.alp_pages.specs.Damage.{Name}
use Rattle.alp_pages.specs.Pages.{Pages}
use Rattle.alp_pages.specs.Volume.{Volume}

abbrev pub leader_of : FileSlot → ℕ
leader_of x = x.place

-- There is a flag for each entry of the directory, each row of an owner, and each home page, and files and owners have
-- these. The pages before the first place are taken.
pub record IsCatalog (home : ℕ) (c : Catalog) : Type 0 where
  pub slots : length c.slots ≡ 4096
  pub rows : length c.rows ≡ 256
  pub places : length c.places ≡ home
  pub files : (f : FileId) (x : FileSlot) → map.get c.files f ≡ Some x → (x.slot < 4096) × (x.place < home)
  pub owners : (name : List ℕ) (r : ℕ) → map.get c.owners name ≡ Some r → r < 256
  pub head : (p : ℕ) → p < 257 → slice_index_or c.places p true ≡ true

-- memory has the entry of each file and the place of its leader, which of its blocks have an index page, the row of each
-- owner, and what is taken
pub record Knows (home : ℕ) (v : Volume) (c : Catalog) : Type 0 where
  pub slots : (f : FileId) → option_map slot_of (map.get c.files f) ≡ v.slots.of f
  pub leaders : (f : FileId) → option_map leader_of (map.get c.files f) ≡ v.places.of (LeaderOf f)
  pub blocks : (f : FileId) (x : FileSlot) (b : ℕ) → map.get c.files f ≡ Some x → b < 32 → bit_at x.blocks b ≡ bit (is_some (v.places.of (IndexOf f b)))
  pub rows : (name : List ℕ) → map.get c.owners name ≡ v.rows.of name
  pub entries_taken : (s : ℕ) → s < 4096 → slice_index_or c.slots s true ≡ is_some (v.slots.at s)
  pub rows_taken : (r : ℕ) → r < 256 → slice_index_or c.rows r true ≡ is_some (v.rows.at r)
  pub places_taken : (p : ℕ) → 257 ≤ p → p < home → slice_index_or c.places p true ≡ is_some (v.places.at p)
  pub head : (p : ℕ) → p < 257 → slice_index_or c.places p true ≡ true

-- what memory has of a volume before anything is read
pub record IsBlank (home : ℕ) (c : Catalog) : Type 0 where
  pub files : c.files ≡ map.empty
  pub owners : c.owners ≡ map.empty
  pub slots : c.slots ≡ replicate 4096 false
  pub rows : c.rows ≡ replicate 256 false
  pub places : c.places ≡ replicate 257 true ++ replicate (home - 257) false

-- what memory has of it once all parts are read
pub record IsRead (home : ℕ) (at : Pages) (names : List Name) (c : Catalog) : Type 0 where
  pub marks : AreMarks home names c.places
  pub listed : AreListed home at 4096 names c.files c.slots
  pub owned : AreOwners at 256 c.owners c.rows
  pub named : AreNamed 4096 names c.files
