-- Changes of what memory keeps of a volume, and how they are taken back.
use Rattle.std.specs.Prelude.{◌≡◌, ◌≤◌, ◌<◌, ℕ, Bool, true, false, length, slice_index_or, slice_set, List, [], ◌∷◌, None, IsSome}
use Rattle.std.specs.FinMap as map
use Rattle.alp_base.specs.declared.ids.FileId.{FileId}
use Rattle.alp_volume.specs.declared.catalog.Catalog.{Catalog}
use Rattle.alp_tables.specs.declared.file_slot.FileSlot.{FileSlot}
use Rattle.alp_volume.specs.declared.undo.Undo.{Undo}
use Rattle.alp_volume.specs.declared.undo.Undo.TheVariants.{PlaceTaken, PlaceFreed, FileKept, FileCame, FileWent, OwnerCame}

-- ---- single changes

abbrev pub with_place : ℕ → Bool → Catalog → Catalog
with_place p taken c = record c { places = slice_set c.places p taken }

abbrev pub with_slot : ℕ → Bool → Catalog → Catalog
with_slot s taken c = record c { slots = slice_set c.slots s taken }

abbrev pub with_row : ℕ → Bool → Catalog → Catalog
with_row r taken c = record c { rows = slice_set c.rows r taken }

abbrev pub with_file : FileId → FileSlot → Catalog → Catalog
with_file f x c = record c { files = map.insert c.files f x }

abbrev pub without_file : FileId → Catalog → Catalog
without_file f c = record c { files = map.remove c.files f }

abbrev pub with_owner : List ℕ → ℕ → Catalog → Catalog
with_owner name row c = record c { owners = map.insert c.owners name row }

abbrev pub without_owner : List ℕ → Catalog → Catalog
without_owner name c = record c { owners = map.remove c.owners name }

-- ---- taking back

-- what one change is taken back to
abbrev pub undo_one : Undo → Catalog → Catalog
undo_one (PlaceTaken p) c = with_place p false c
undo_one (PlaceFreed p) c = with_place p true c
undo_one (FileKept f x) c = with_file f x c
undo_one (FileCame f s) c = with_slot s false (without_file f c)
undo_one (FileWent f x) c = with_slot x.slot true (with_file f x c)
undo_one (OwnerCame name r) c = with_row r false (without_owner name c)

-- the numbers and names are those of the change
abbrev pub CanUndo : Undo → Catalog → Type 0
CanUndo (PlaceTaken p) c = p < length c.places
CanUndo (PlaceFreed p) c = slice_index_or c.places p true ≡ false
CanUndo (FileKept f x) c = IsSome (map.get c.files f)
CanUndo (FileCame f s) c = s < length c.slots
CanUndo (FileWent f x) c = (map.len c.files < 4096) × (map.get c.files f ≡ None) × (slice_index_or c.slots x.slot true ≡ false)
CanUndo (OwnerCame name r) c = r < length c.rows

-- all numbers below that one are taken
abbrev pub AreTakenBelow : ℕ → List Bool → Type 0
AreTakenBelow n flags = (q : ℕ) → q < n → slice_index_or flags q true ≡ true

-- the place, the entry or the row that a change took was the lowest that was free
abbrev pub TookLowest : Undo → Catalog → Type 0
TookLowest (PlaceTaken p) c = AreTakenBelow p c.places
TookLowest (PlaceFreed p) c = Unit {0}
TookLowest (FileKept f x) c = Unit {0}
TookLowest (FileCame f s) c = AreTakenBelow s c.slots
TookLowest (FileWent f x) c = Unit {0}
TookLowest (OwnerCame name r) c = AreTakenBelow r c.rows

-- The changes, the last one first, are taken back to the first catalog, and each took the lowest number that was free.
abbrev pub Leads : List Undo → Catalog → Catalog → Type 0
Leads [] c first = c ≡ first
Leads (u ∷ us) c first = (mid : Catalog) × Leads us c mid × CanUndo u mid × (undo_one u mid ≡ first) × TookLowest u first

-- further changes, which are taken back to wherever those before were
abbrev pub LeadsOn : List Undo → Catalog → List Undo → Catalog → Type 0
LeadsOn old c new d = (first : Catalog) → Leads old c first → Leads new d first

-- ---- the pages of a block

-- the places that a row names from this number on are places of the volume
abbrev pub AreFreeable : ℕ → List ℕ → List Bool → Type 0
AreFreeable first row taken = (j : ℕ) → first ≤ j → (slice_index_or row j 0 ≡ 0 → ⊥) → (257 ≤ slice_index_or row j 0) × (slice_index_or row j 0 < length taken)

-- those are free, and all others are as they were
pub record AreFreed (first : ℕ) (row : List ℕ) (old new : List Bool) : Type 0 where
  pub gone : (j : ℕ) → first ≤ j → (slice_index_or row j 0 ≡ 0 → ⊥) → slice_index_or new (slice_index_or row j 0) true ≡ false
  pub stay : (p : ℕ) → (p ≡ 0 → ⊥) → ((j : ℕ) → first ≤ j → slice_index_or row j 0 ≡ p → ⊥) → slice_index_or new p true ≡ slice_index_or old p true
  pub head : (p : ℕ) → p < 257 → slice_index_or new p true ≡ slice_index_or old p true
