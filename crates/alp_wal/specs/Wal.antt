-- What the struct of a log holds, and what is known of it.
use Rattle.std.specs.Prelude.{◌≡◌, ◌⊎◌, ◌≤◌, ℕ, ◌-◌, Bool, List, [], ◌∷◌, Some, None, slice_set, replicate, length}
use Rattle.alp_disk.specs.Disk.{Image}
use Rattle.alp_base.specs.Crashes.{Only}
use Rattle.alp_anchor.specs.declared.anchor.Anchor.{Anchor}
use Rattle.alp_anchor.specs.Anchor.{IsSound}
use Rattle.alp_batch.specs.declared.batch.PageImage.{PageImage}
use Rattle.alp_batch.specs.declared.batch.Batch.{Batch}
use Rattle.alp_batch.specs.Batch.{batch}
use Rattle.alp_record.specs.Record.{behind}
use Rattle.alp_base.specs.Notes.{Notes}
use Rattle.alp_notes.specs.Held.{Held}
use Rattle.alp_wal.specs.State.{State, applied}
use Rattle.alp_wal.specs.Live.{notes_pages, AreLive}
use Rattle.alp_wal.specs.Home.{Index}
use Rattle.alp_wal.specs.Reading.{area_first, area_end, home_pages, ReadsBy, Reads}
use Rattle.alp_wal.specs.declared.wal.Wal.{Wal}

-- ---- the index: the image of each home page in the records of the area, where it has one

-- each page, or its image
abbrev pub shown : Image → Index → Image
shown [] index = []
shown (p ∷ ps) [] = p ∷ shown ps []
shown (p ∷ ps) (None ∷ index) = p ∷ shown ps index
shown (p ∷ ps) (Some image ∷ index) = image ∷ shown ps index

abbrev pub indexed : Index → List PageImage → Index
indexed index [] = index
indexed index (i ∷ is) = indexed (slice_set index i.at (Some i.page)) is

-- without images
abbrev pub no_index : ℕ → Index
no_index home = replicate home None

-- the images of the batches that these bodies spell, laid over the first index in order, make the last
abbrev pub Logs : Index → List (List ℕ) → Index → Type 0
Logs first [] last = first ≡ last
Logs first (body ∷ bodies) last = (b : Batch) × (body ≡ batch.spell b) × batch.Fits b × Logs (indexed first b.images) bodies last

-- ---- the struct

abbrev pub disk_of : {D : Type 0} → Wal D → D
disk_of w = w.disk

abbrev pub anchor_of : {D : Type 0} → Wal D → Anchor
anchor_of w = w.anchor

abbrev pub end_of : {D : Type 0} → Wal D → ℕ
end_of w = w.end

abbrev pub notes_of : {D : Type 0} → Wal D → Notes
notes_of w = w.notes.notes

abbrev pub index_of : {D : Type 0} → Wal D → Index
index_of w = w.index

abbrev pub is_dead : {D : Type 0} → Wal D → Bool
is_dead w = w.dead

-- the notes, with the room that they have
abbrev pub held_notes : {D : Type 0} → Wal D → Held
held_notes w = w.notes

-- the pages of the area behind the last record
abbrev pub room_of : {D : Type 0} → Wal D → ℕ
room_of w = area_end (anchor_of w) - w.end

-- what the log holds over a disk that reads so
abbrev pub state_of : {D : Type 0} → Wal D → Image → State
state_of w image = record { pages = shown (home_pages image w.anchor) w.index; notes = w.notes.notes }

-- before a batch, or after it
abbrev pub BeforeOrAfter : ℕ → ℕ → ℕ → State → Batch → Image → Type 0
BeforeOrAfter server servers n state b c = Reads server servers n c state ⊎ Reads server servers n c (applied state b)

-- of the same server, with the same sizes
pub record IsSameVolume (a b : Anchor) : Type 0 where
  pub server : b.server ≡ a.server
  pub servers : b.servers ≡ a.servers
  pub sizes : b.sizes ≡ a.sizes

-- Holds on every disk of n pages.
pub record IsLog {D : Type 0} (n : ℕ) (w : Wal D) : Type 0 where
  pub anchor : IsSound n (anchor_of w)
  pub index : length (index_of w) ≡ (anchor_of w).sizes.home
  pub notes : AreLive (notes_of w)
  pub fits : notes_pages (notes_of w) ≤ (anchor_of w).sizes.area
  pub begun : area_first (anchor_of w) ≤ end_of w
  pub inside : end_of w ≤ area_end (anchor_of w)

-- Holds where the disk tells what it holds: a read gives a disk with the log's state, and so does a crash.
-- The index has the images of the present area, and no others.
pub record IsKnown {D : Type 0} (n : ℕ) (image : Image) (may_leave : Image → Type 0) (w : Wal D) : Type 0 where
  pub bodies : List (List ℕ)
  pub ends : behind (area_first (anchor_of w)) bodies ≡ end_of w
  pub by : ReadsBy n image (anchor_of w) bodies (state_of w image)
  pub logged : Logs (no_index (anchor_of w).sizes.home) bodies (index_of w)
  pub durable : Only image may_leave
