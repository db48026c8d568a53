-- What closing and opening the gate of a page leaves, at each moment and at the end.
use Rattle.std.specs.Prelude.{◌≡◌, ◌⊎◌, ℕ, List}
use Rattle.alp_disk.specs.Disk.{Image, page, SameBut, Torn}
use Rattle.alp_base.specs.Crashes.{Only}
use Rattle.alp_disk.specs.Gates.{IsClosed, HasOpenGate}

-- a crash while the gate of a page is closed: what was read, or that with another gate in place of an open one
abbrev pub Shutting : ℕ → Image → Image → Type 0
Shutting at seen c = (c ≡ seen) ⊎ (HasOpenGate (page seen at) × Torn at 0 1 seen c)

-- a crash while the disk is synced and a gate is closed: an earlier outcome, or what was read with another gate in place of an open one
abbrev pub Closing : ℕ → (Image → Type 0) → Image → Image → Type 0
Closing at may_leave seen c = may_leave c ⊎ (HasOpenGate (page seen at) × Torn at 0 1 seen c)

-- the page stands closed, all of it on the disk
pub record Closed (at : ℕ) (old new : Image) (may_leave : Image → Type 0) : Type 0 where
  pub gate : IsClosed (page new at)
  pub others : SameBut at old new
  pub durable : Only new may_leave

-- a crash while a closed page is written and opened: it is closed, or it is the new page
pub record Opening (at : ℕ) (full : List ℕ) (old c : Image) : Type 0 where
  pub others : SameBut at old c
  pub whole : IsClosed (page c at) ⊎ (page c at ≡ full)

-- the new page stands there, all of it on the disk
pub record Opened (at : ℕ) (full : List ℕ) (old new : Image) (may_leave : Image → Type 0) : Type 0 where
  pub whole : page new at ≡ full
  pub others : SameBut at old new
  pub durable : Only new may_leave
