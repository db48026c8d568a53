-- What a disk stands for: its home pages under the records of the area that the anchor names.
use Rattle.std.specs.Prelude.{◌≡◌, ℕ, zero, suc, ◌+◌, ◌*◌, List, [], ◌∷◌}
use Rattle.std.specs.FinMap as map
use Rattle.alp_disk.specs.Disk.{Image, page}
use Rattle.alp_anchor.specs.Anchor.{Counts}
use Rattle.alp_anchor.specs.declared.anchor.Anchor.{Anchor}
use Rattle.alp_batch.specs.declared.batch.Batch.{Batch}
use Rattle.alp_batch.specs.Batch.{batch}
use Rattle.alp_record.specs.Record.{Records}
use Rattle.alp_wal.specs.State.{State, applied, Suits}

-- the body is the spelling of this batch, which suits the state that the records before it left
pub record Applies (home : ℕ) (state : State) (body : List ℕ) (b : Batch) : Type 0 where
  pub spelled : body ≡ batch.spell b
  pub fits : batch.Fits b
  pub suits : Suits home state.notes b

-- the batches of the bodies, applied in order to the first state, lead to the last
abbrev pub Leads : ℕ → State → List (List ℕ) → State → Type 0
Leads home first [] last = first ≡ last
Leads home first (body ∷ bodies) last = (b : Batch) × Applies home first body b × Leads home (applied first b) bodies last

-- the area in use, and the home pages
abbrev pub area_first : Anchor → ℕ
area_first a = 2 + a.area * a.sizes.area

abbrev pub area_end : Anchor → ℕ
area_end a = area_first a + a.sizes.area

abbrev pub home_first : Anchor → ℕ
home_first a = 2 + 2 * a.sizes.area

-- so many pages of the image from there on
abbrev pub pages_from : Image → ℕ → ℕ → Image
pages_from image first zero = []
pages_from image first (suc n) = page image first ∷ pages_from image (first + 1) n

abbrev pub home_pages : Image → Anchor → Image
home_pages image a = pages_from image (home_first a) a.sizes.home

-- before any record: the home pages as they stand, and no notes
abbrev pub bare : Image → Anchor → State
bare image a = record { pages = home_pages image a; notes = map.empty }

-- the anchor counts, and the open records of its area and generation lead from the bare home pages to the state
pub record ReadsBy (n : ℕ) (image : Image) (a : Anchor) (bodies : List (List ℕ)) (state : State) : Type 0 where
  pub counts : Counts n image a
  pub records : Records image a.generation (area_end a) (area_first a) bodies
  pub leads : Leads a.sizes.home (bare image a) bodies state

-- the reading of a disk of n pages for that server of so many
pub record Reads (server servers n : ℕ) (image : Image) (state : State) : Type 0 where
  pub anchor : Anchor
  pub bodies : List (List ℕ)
  pub server_is : anchor.server ≡ server
  pub servers_is : anchor.servers ≡ servers
  pub by : ReadsBy n image anchor bodies state
