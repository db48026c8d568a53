-- What a checkpoint leaves, at each moment and at the end.
use Rattle.std.specs.Prelude.{◌≡◌, ◌⊎◌, ◌≤◌, ◌<◌, ℕ, ◌+◌, ◌-◌, List, [], ◌∷◌}
use Rattle.alp_disk.specs.Disk.{Image, page}
use Rattle.alp_anchor.specs.declared.anchor.Anchor.{Anchor}
use Rattle.alp_anchor.specs.Anchor.{Counts, next_anchor, after}
use Rattle.alp_record.specs.Record.{Records}
use Rattle.alp_wal.specs.Home.{SameUnlogged, BroughtHome}
use Rattle.alp_wal.specs.Reading.{area_first, area_end, home_first}
use Rattle.alp_wal.specs.Home.{Index}
use Rattle.alp_wal.specs.Live.{notes_pages}
use Rattle.alp_wal.specs.Wal.{anchor_of, index_of, end_of, room_of, notes_of, no_index}
use Rattle.alp_wal.specs.declared.wal.Wal.{Wal}

-- ---- the log turns to the other area

-- the anchor that names it
abbrev pub turned : Anchor → Anchor
turned a = next_anchor a (1 - a.area)

-- the pages of the area in use and the home pages are the same
pub record SameInUse (a : Anchor) (old new : Image) : Type 0 where
  pub area : (q : ℕ) → area_first a ≤ q → q < area_end a → page new q ≡ page old q
  pub home : (q : ℕ) → home_first a ≤ q → page new q ≡ page old q

-- the next anchor counts, its area has one record, with this body, and the home pages are the same
pub record Turned (n : ℕ) (a : Anchor) (body : List ℕ) (old new : Image) : Type 0 where
  pub counts : Counts n new (turned a)
  pub records : Records new (after a.generation) (area_end (turned a)) (area_first (turned a)) (body ∷ [])
  pub home : (q : ℕ) → home_first a ≤ q → page new q ≡ page old q

-- a crash while it turns
abbrev pub Turning : ℕ → Anchor → List ℕ → Image → Image → Type 0
Turning n a body old c = (Counts n c a × SameInUse a old c) ⊎ Turned n a body old c

-- ---- both

-- a crash while images are brought home, or when all are and the log turns
abbrev pub MovingOver : ℕ → Anchor → Index → List ℕ → Image → Image → Type 0
MovingOver n a index body old c = SameUnlogged (home_first a) index old c ⊎ ((h : Image) × BroughtHome (home_first a) a.sizes.home index old h × Turning n a body h c)

abbrev pub MovedOver : ℕ → Anchor → Index → List ℕ → Image → Image → Type 0
MovedOver n a index body old new = (h : Image) × BroughtHome (home_first a) a.sizes.home index old h × Turned n a body h new

-- ---- the log itself

-- where it was: its anchor, its index and its end
abbrev pub IsUnmoved : {D : Type 0} → Wal D → Wal D → Type 0
IsUnmoved old new = (anchor_of new ≡ anchor_of old) × (index_of new ≡ index_of old) × (end_of new ≡ end_of old)

-- in the other area, behind a record of the notes of before, and without images
abbrev pub HasTurned : {D : Type 0} → Wal D → Wal D → Type 0
HasTurned old new = (anchor_of new ≡ turned (anchor_of old)) × (index_of new ≡ no_index (anchor_of old).sizes.home) × (room_of new + notes_pages (notes_of old) ≡ (anchor_of old).sizes.area)
