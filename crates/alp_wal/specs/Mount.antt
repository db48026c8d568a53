-- What a mount finds.
use Rattle.std.specs.Prelude.{◌≡◌, ◌⊎◌, ℕ, List, take, Bool, true, false, Result, IfOk, IfErr}
use Rattle.alp_base.specs.Faults.{HasFaultCause, IsCountKept}
use Rattle.alp_base.specs.declared.faults.VaultFault.{VaultFault}
use Rattle.alp_base.specs.declared.faults.VaultFault.TheVariants.{NotAVolume, Damaged, Failed, Stopped}
use Rattle.alp_base.specs.declared.faults.Halt.{Halt}
use Rattle.alp_base.specs.declared.faults.Halt.TheVariants.{Failed as HaltFailed, Stopped as HaltStopped}
use Rattle.alp_disk.specs.Disk.{Image, page}
use Rattle.alp_disk.specs.declared.disk.Disk.{Ghosts}
use Rattle.alp_anchor.specs.declared.anchor.Anchor.{Anchor}
use Rattle.alp_anchor.specs.Anchor.{Counts}
use Rattle.alp_anchor.specs.Read.{NoneOwn, Disagree}
use Rattle.alp_batch.specs.declared.batch.Batch.{Batch}
use Rattle.alp_record.specs.Record.{RecordAt, Stand, behind, IsDamaged}
use Rattle.alp_wal.specs.State.{State, applied}
use Rattle.alp_wal.specs.Reading.{Applies, Leads, area_first, area_end, home_pages, bare}
use Rattle.alp_wal.specs.Wal.{disk_of, shown, no_index, Logs}
use Rattle.alp_wal.specs.declared.found.Found.{Found}
use Rattle.alp_wal.specs.declared.wal.Wal.{Wal}

-- what was found so far, over a disk that reads so
abbrev pub found_state : Found → Image → State
found_state f image = record { pages = shown (home_pages image f.anchor) f.index; notes = f.notes.notes }

-- records with these bodies stand from the beginning of the area up to this page, and lead to the state
pub record LeadsTo (image : Image) (a : Anchor) (place : ℕ) (state : State) : Type 0 where
  pub bodies : List (List ℕ)
  pub stand : Stand image a.generation (area_end a) (area_first a) bodies
  pub here : behind (area_first a) bodies ≡ place
  pub leads : Leads a.sizes.home (bare image a) bodies state

-- records lead to what was found, and its index has the images of these and no others
pub record Finds (image : Image) (a : Anchor) (f : Found) : Type 0 where
  pub leads : LeadsTo image a f.end (found_state f image)
  pub logged : Logs (no_index a.sizes.home) leads.bodies f.index

-- no batch that suits the state is spelled so
abbrev pub AppliesNot : ℕ → State → List ℕ → Type 0
AppliesNot home state body = (b : Batch) → Applies home state body b → ⊥

-- the first record that is none: an open gate without a record of the generation, or a record whose body applies not
pub record IsBad (image : Image) (a : Anchor) (place : ℕ) : Type 0 where
  pub state : State
  pub before : LeadsTo image a place state
  pub why : IsDamaged image a.generation (area_end a) place ⊎ ((body : List ℕ) × RecordAt image a.generation (area_end a) place body × AppliesNot a.sizes.home state body)

-- the body was taken into the state, or applies not
pub record Taken (home : ℕ) (old : State) (body : List ℕ) (new : State) : Type 0 where
  pub batch : Batch
  pub applies : Applies home old body batch
  pub state : new ≡ applied old batch

abbrev pub TakenOrNot : ℕ → State → List ℕ → State → Bool → Type 0
TakenOrNot home old body new true = Taken home old body new
TakenOrNot home old body new false = AppliesNot home old body

abbrev pub halt_fault : Halt → VaultFault
halt_fault HaltFailed = Failed
halt_fault HaltStopped = Stopped

-- why no anchor counts: no page has one of this server, or two have that disagree
abbrev pub WhyNone : ℕ → ℕ → ℕ → Image → VaultFault → Type 0
WhyNone server servers n image (NotAVolume found) = (found ≡ take 24 (page image 0)) × NoneOwn server servers n (page image 0) × NoneOwn server servers n (page image 1)
WhyNone server servers n image (Damaged place) = (place ≡ 1) × Disagree server servers n image
WhyNone server servers n image other = Unit {0}

-- why a disk is not mounted: no anchor counts, or the first record that is none
abbrev pub WhyNotMounted : ℕ → ℕ → ℕ → Image → VaultFault → Type 0
WhyNotMounted server servers n image (Damaged place) =
    ((place ≡ 1) × Disagree server servers n image) ⊎ ((a : Anchor) × Counts n image a × (a.server ≡ server) × (a.servers ≡ servers) × IsBad image a place)
WhyNotMounted server servers n image fault = WhyNone server servers n image fault

-- Why a mount answers an error: it failed where the disk's count of faults rose, and was stopped where its allowance is spent then.
-- With any other answer the count is as before.
pub record HasMountCause {D : Type 0} (g : Ghosts D) (disk : D) (result : Result (Wal D) (D × VaultFault)) : Type 0 where
  pub no_fault : IfOk result (λ w. g.faults (disk_of w) ≡ g.faults disk)
  pub still : IfErr result (λ e. IsCountKept (g.faults disk) (g.faults e.0) e.1)
  pub cause : IfErr result (λ e. HasFaultCause (g.faults disk) (g.faults e.0) (g.allowance e.0) e.1)

-- a refusal that what the disk holds gives: no volume, or damage
abbrev pub IsOfDisk : VaultFault → Type 0
IsOfDisk (NotAVolume found) = Unit {0}
IsOfDisk (Damaged place) = Unit {0}
IsOfDisk other = ⊥

-- an answer that comes after the first sync
abbrev pub IsPastSync : VaultFault → Type 0
IsPastSync Failed = ⊥
IsPastSync Stopped = ⊥
IsPastSync other = Unit {0}
