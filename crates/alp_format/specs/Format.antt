-- What formatting makes of a disk.
use Rattle.std.specs.Prelude.{◌≡◌, ◌⊎◌, ◌<◌, ◌≤◌, ℕ, ◌+◌, ◌*◌, List, replicate}
use Rattle.std.specs.FinMap as map
use Rattle.alp_base.specs.Pages.{zero_page}
use Rattle.alp_base.specs.declared.faults.Sizes.{Sizes}
use Rattle.alp_base.specs.Causes.{Rose}
use Rattle.alp_base.specs.declared.allowance.Allowance.TheVariants.{Spent}
use Rattle.alp_base.specs.declared.faults.VaultFault.{VaultFault}
use Rattle.alp_base.specs.declared.faults.VaultFault.TheVariants.{Failed, Stopped, OutOfMemory, NotAVolume, Damaged}
use Rattle.alp_disk.specs.declared.disk.Disk.{Ghosts}
use Rattle.alp_disk.specs.Calls.{IsSameDevice}
use Rattle.alp_disk.specs.Disk.{Image, page}
use Rattle.alp_base.specs.Crashes.{After}
use Rattle.alp_anchor.specs.declared.anchor.Anchor.{Anchor}
use Rattle.alp_wal.specs.State.{State}
use Rattle.alp_wal.specs.Reading.{Reads}

-- pages of zeros, and no notes
abbrev pub blank_state : ℕ → State
blank_state home = record { pages = replicate home zero_page; notes = map.empty }

-- the anchor of a new volume
abbrev pub first_anchor : ℕ → ℕ → Sizes → Anchor
first_anchor server servers sizes = record { page = 0; generation = 1; area = 0; server = server; servers = servers; sizes = sizes }

-- the same pages behind the first header of the log, up to home
abbrev pub SameAreas : Sizes → Image → Image → Type 0
SameAreas sizes old new = (q : ℕ) → 2 < q → q < 2 + 2 * sizes.area → page new q ≡ page old q

-- the anchors, the first header of the log and the home pages are zeros
pub record IsCleared (sizes : Sizes) (image : Image) : Type 0 where
  pub gates : (q : ℕ) → q < 3 → page image q ≡ zero_page
  pub home : (k : ℕ) → k < sizes.home → page image (2 + 2 * sizes.area + k) ≡ zero_page

-- a crash while a disk is formatted: an earlier outcome with no other page of the log touched than its first header, or a new volume
abbrev pub Formatting : ℕ → ℕ → ℕ → Sizes → (Image → Type 0) → Image → Type 0
Formatting server servers n sizes may_leave c = After (SameAreas sizes) may_leave c ⊎ Reads server servers n c (blank_state sizes.home)

-- a disk that is given back, and why
pub record IsRefused {D : Type 0} (g : Ghosts D) (disk back : D) (fault : VaultFault) : Type 0 where
  pub below : IsSameDevice g disk back
  pub later : g.faults disk ≤ g.faults back
  pub failed : fault ≡ Failed → Rose (g.faults disk) (g.faults back)
  pub stopped : fault ≡ Stopped → g.allowance back ≡ Spent
  pub memory : fault ≡ OutOfMemory → back ≡ disk
  pub never_damaged : (place : ℕ) → fault ≡ Damaged place → ⊥
  pub never_no_volume : (found : List ℕ) → fault ≡ NotAVolume found → ⊥
