-- Which disks are new, and why a store does not start on one.
use Rattle.std.specs.Prelude.{◌≡◌, ◌⊎◌, ◌≤◌, ◌<◌, ℕ, ◌+◌, ◌*◌, [], ◌∷◌, Some, length, MatchResult, Result, IfOk, IfErr}
use Rattle.std.specs.FinMap as map
use Rattle.alp_anchor.specs.Anchor.{Counts}
use Rattle.alp_base.specs.Crashes.{Only, LeavesOnly}
use Rattle.alp_base.specs.Pages.{zero_page}
use Rattle.alp_base.specs.Faults.{HasFaultCause, IsCountKept, IsOfVolume}
use Rattle.alp_base.specs.declared.faults.Sizes.{Sizes}
use Rattle.alp_base.specs.declared.faults.VaultFault.{VaultFault}
use Rattle.alp_base.specs.declared.faults.VaultFault.TheVariants.{OutOfMemory, Damaged}
use Rattle.alp_base.specs.declared.ids.FileId.{FileId}
use Rattle.alp_base.specs.declared.key.Key.TheVariants.{Leader}
use Rattle.alp_fields.specs.ClockNote.{clock_kept}
use Rattle.alp_base.specs.declared.cell.Cell.{Cell}
use Rattle.alp_batch.specs.declared.batch.Batch.{Batch}
use Rattle.alp_disk.specs.Disk.{Image, page}
use Rattle.alp_disk.specs.declared.disk.Disk.{Ghosts}
use Rattle.alp_format.specs.Format.{first_anchor, blank_state, Formatting}
use Rattle.alp_pages.specs.Damage.{damage_of}
use Rattle.alp_pages.specs.Pages.{Pages, header_page}
use Rattle.alp_vault.specs.Contents.{Contents}
use Rattle.alp_vault.specs.Volumes.{AreServerNotes}
use Rattle.alp_wal.specs.Mount.{WhyNotMounted}
use Rattle.alp_wal.specs.Reading.{Reads}
use Rattle.alp_wal.specs.State.{State, applied}
use Rattle.alp_wal.specs.Wal.{disk_of, anchor_of}
use Rattle.alp_wal.specs.declared.wal.Wal.{Wal}
use Rattle.alp_store.specs.Holding.{Holds, HoldsBy}
use Rattle.alp_store.specs.Told.{pages_of, contents_of}

-- its anchors are all zeros, and the sizes make up its n pages
pub record IsNew (sizes : Sizes) (n : ℕ) (image : Image) : Type 0 where
  pub size : n ≡ 2 + 2 * sizes.area + sizes.home
  pub first : page image 0 ≡ zero_page
  pub second : page image 1 ≡ zero_page

-- this page of the disk is its first damaged home page
pub record IsDamagedHome (sizes : Sizes) (pages : Pages) (place : ℕ) : Type 0 where
  pub page : ℕ
  pub wrong : damage_of sizes.home pages ≡ Some page
  pub there : place ≡ page + (2 + 2 * sizes.area)

-- it holds a volume of which that is the first damaged page
pub record IsDamagedVolume (server servers n : ℕ) (image : Image) (place : ℕ) : Type 0 where
  pub sizes : Sizes
  pub state : State
  pub reads : Reads server servers n image state
  pub long : length state.pages ≡ sizes.home
  pub total : 2 + 2 * sizes.area + sizes.home ≡ n
  pub damaged : IsDamagedHome sizes (pages_of state) place

-- notes are in the format of that server of so many, and files were given by it in epochs up to that of the clock's note
pub record AreOfServer (server servers : ℕ) (held : Contents) : Type 0 where
  pub notes : AreServerNotes server servers held.notes
  pub files : (f : FileId) (c : Cell) → map.get held.cells (Leader f) ≡ Some c → (f.server ≡ server) × (f.epoch ≤ (clock_kept held.notes).epoch)

-- a disk was mounted: the log holds what the disk's reading says, which is of its server, and has the anchor that counts there
pub record IsStarted {D : Type 0} (g : Ghosts D) (disk : D) (w : Wal D) : Type 0 where
  pub holds : HoldsBy g w (g.seen disk) (contents_of g w)
  pub own : AreOfServer (anchor_of w).server (anchor_of w).servers (contents_of g w)
  pub counts : Counts (g.size disk) (g.seen disk) (anchor_of w)

-- its anchors are all zeros, after a crash too
pub record HasNoAnchor {D : Type 0} (g : Ghosts D) (disk : D) : Type 0 where
  pub first : page (g.seen disk) 0 ≡ zero_page
  pub second : page (g.seen disk) 1 ≡ zero_page
  pub durable : Only (g.seen disk) (g.may_leave disk)

-- the header of a volume that holds nothing
abbrev pub header_batch : Batch
header_batch = record { images = record { at = 0; page = header_page } ∷ []; notes = [] }

-- a crash while a disk of n pages is made a volume: what it may leave of formatting, or a volume with its header
abbrev pub Making : (server servers n : ℕ) → Sizes → (Image → Type 0) → Image → Type 0
Making server servers n sizes may_leave c = Formatting server servers n sizes may_leave c ⊎ Reads server servers n c (applied (blank_state sizes.home) header_batch)

-- a crash while one is made new again behind that: the same, but for its anchors
pub record Unmaking (server servers n : ℕ) (sizes : Sizes) (may_leave : Image → Type 0) (c : Image) : Type 0 where
  pub made : Image
  pub making : Making server servers n sizes may_leave made
  pub behind : (q : ℕ) → 1 < q → page c q ≡ page made q

-- A new disk was made a volume of these sizes that holds nothing, under its first anchor, or its device refused; where memory
-- was not there, it is new again, after a crash too. A crash through the whole call leaves what is half made, and a disk that is
-- given back is such a one.
pub record HasFormatted {D T : Type 0} (g : Ghosts D) (log_in : T → Wal D) (server servers : ℕ) (sizes : Sizes) (disk : D) (result : Result T (D × VaultFault)) : Type 0 where
  pub empty : IfOk result (λ s. contents_of g (log_in s) ≡ record { cells = map.empty; notes = map.empty })
  pub anchor : IfOk result (λ s. anchor_of (log_in s) ≡ first_anchor server servers sizes)
  pub volume : IfErr result (λ e. IsOfVolume e.1)
  pub memory : IfErr result (λ e. e.1 ≡ OutOfMemory → IsNew sizes (g.size e.0) (g.seen e.0) × Only (g.seen e.0) (g.may_leave e.0))
  pub made : IfOk result (λ s. LeavesOnly g.left_since disk (disk_of (log_in s)) (Making server servers (g.size disk) sizes (g.may_leave disk)))
  pub refused : IfErr result (λ e. LeavesOnly g.left_since disk e.0 (Unmaking server servers (g.size disk) sizes (g.may_leave disk)))

-- it holds a volume whose notes or files are not those of the server
pub record IsForeign (server servers n : ℕ) (image : Image) : Type 0 where
  pub home : ℕ
  pub held : Contents
  pub holds : Holds server servers n home image held
  pub foreign : AreOfServer server servers held → ⊥

-- why the volume on a disk is not opened: it is not mounted, or a home page is damaged
abbrev pub WhyNotOpened : ℕ → ℕ → ℕ → Image → VaultFault → Type 0
WhyNotOpened server servers n image (Damaged place) = WhyNotMounted server servers n image (Damaged place) ⊎ IsDamagedVolume server servers n image place
WhyNotOpened server servers n image fault = WhyNotMounted server servers n image fault

-- why a store does not start on a disk that is not new: nor is it the server's
abbrev pub WhyNotStarted : ℕ → ℕ → ℕ → Image → VaultFault → Type 0
WhyNotStarted server servers n image (Damaged place) = WhyNotOpened server servers n image (Damaged place) ⊎ ((place ≡ 0) × IsForeign server servers n image)
WhyNotStarted server servers n image fault = WhyNotMounted server servers n image fault

-- The count of faults does not fall, moves only where the disk failed or was stopped, and each answer has its cause.
pub record HasOpenCause {D T : Type 0} (g : Ghosts D) (disk_in : T → D) (disk : D) (result : Result T (D × VaultFault)) : Type 0 where
  pub later : IfErr result (λ e. g.faults disk ≤ g.faults e.0)
  pub still : MatchResult result (λ s. g.faults (disk_in s) ≡ g.faults disk) (λ e. IsCountKept (g.faults disk) (g.faults e.0) e.1)
  pub cause : IfErr result (λ e. HasFaultCause (g.faults disk) (g.faults e.0) (g.allowance e.0) e.1)
