-- The pages of a change in two parts: those at places that were free before it, and the others.
use Rattle.std.specs.Prelude.{ℕ, Bool, true, false, not, is_some, List, Option, None, Some, slice_index_or, if◌then◌else◌}
use Rattle.std.specs.List.{filter}
use Rattle.std.specs.FinMap as map
use Rattle.std.specs.FinMap.{FinMap}
use Rattle.std.specs.Ordering.{nat_cmp}
use Rattle.alp_volume.specs.declared.catalog.Catalog.{Catalog}
use Rattle.alp_volume.specs.declared.undo.Undo.{Undo}
use Rattle.alp_volume.specs.declared.undo.Undo.TheVariants.{PlaceTaken, PlaceFreed, FileKept, FileCame, FileWent, OwnerCame}
use Rattle.alp_volume.specs.Drafts.{Changed}

-- a place of the volume at which nothing stands
abbrev pub is_free : Catalog → ℕ → Bool
is_free c p = not (slice_index_or c.places p true)

-- the pages at places that are free in the catalog, by rising places
abbrev pub pages_at_free : Catalog → Changed → List (ℕ × List ℕ)
pages_at_free c pages = filter (λ e. is_free c e.0) (map.entries pages)

-- the others, by rising places
abbrev pub pages_at_taken : Catalog → Changed → List (ℕ × List ℕ)
pages_at_taken c pages = filter (λ e. not (is_free c e.0)) (map.entries pages)

-- ---- what was taken before a change

-- which places were taken before, of those that the change took or freed
abbrev pub Before : Type 0
Before = FinMap nat_cmp Bool

-- the first that is said of a place stays
abbrev pub said : ℕ → Bool → Before → Before
said p taken t = if is_some (map.get t p) then t else map.insert t p taken

abbrev pub with_undo : Undo → Before → Before
with_undo (PlaceTaken p) t = said p false t
with_undo (PlaceFreed p) t = said p true t
with_undo (FileKept f x) t = t
with_undo (FileCame f s) t = t
with_undo (FileWent f x) t = t
with_undo (OwnerCame name r) t = t

-- what is said of the place, and else what is now
abbrev pub said_or : Option Bool → Bool → Bool
said_or None now = now
said_or (Some taken) now = taken

-- a place that was free before, by what is said and what is now
abbrev pub was_free : Before → List Bool → ℕ → Bool
was_free t now p = not (said_or (map.get t p) (slice_index_or now p true))
