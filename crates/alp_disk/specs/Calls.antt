-- What stays of a disk through a call on it.
use Rattle.std.specs.Prelude.{◌≡◌, ◌≤◌}
use Rattle.alp_base.specs.Allowances.{Spends}
use Rattle.alp_base.specs.Crashes.{NoMore, Adds}
use Rattle.alp_disk.specs.declared.disk.Disk.{Ghosts}

-- a call that reads: what a read gives stays, and a crash leaves no more
pub record OnlyRead {D : Type 0} (g : Ghosts D) (old new : D) : Type 0 where
  pub tells : g.tells new ≡ g.tells old
  pub size : g.size new ≡ g.size old
  pub seen : g.seen new ≡ g.seen old
  pub crash : NoMore (g.may_leave old) (g.may_leave new)
  pub time : Adds g.left_since old new (g.may_leave old)
  pub allowance : g.allowance new ≡ g.allowance old

-- a call that may sync and read: what a read gives stays, and a crash leaves no more
pub record Looked {D : Type 0} (g : Ghosts D) (old new : D) : Type 0 where
  pub tells : g.tells new ≡ g.tells old
  pub size : g.size new ≡ g.size old
  pub seen : g.seen new ≡ g.seen old
  pub crash : NoMore (g.may_leave old) (g.may_leave new)
  pub time : Adds g.left_since old new (g.may_leave old)
  pub allowance : Spends (g.allowance old) (g.allowance new)
  pub later : g.faults old ≤ g.faults new

-- a call that writes: the device still tells, or tells nothing, has as many pages, and spends its allowance
pub record IsSameDevice {D : Type 0} (g : Ghosts D) (old new : D) : Type 0 where
  pub tells : g.tells new ≡ g.tells old
  pub size : g.size new ≡ g.size old
  pub allowance : Spends (g.allowance old) (g.allowance new)
