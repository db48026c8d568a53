-- What a call leaves that only reads pages through buffers.
use Rattle.std.specs.Prelude.{◌≤◌, ℕ, Result, if◌then◌else◌}
use Rattle.alp_base.specs.declared.faults.VaultFault.{VaultFault}
use Rattle.alp_disk.specs.declared.disk.Disk.{Ghosts}
use Rattle.alp_disk.specs.Calls.{OnlyRead}
use Rattle.alp_wal.specs.Wal.{anchor_of, is_dead}
use Rattle.alp_wal.specs.Calls.{IsSameLog}
use Rattle.alp_pages.specs.Reading.{HasRead, HasReadAll}
use Rattle.alp_pool.specs.Pools.{log_of, device_of}
use Rattle.alp_pool.specs.declared.pool.Pool.{Pool}

-- how many pages are there to be read: none once the log has stopped
abbrev pub home_of : {D : Type 0} → Pool D → ℕ
home_of p = if is_dead (log_of p) then 0 else (anchor_of (log_of p)).sizes.home

-- the log is the same, and its disk was only read
pub record IsReadOn {D : Type 0} (g : Ghosts D) (old new : Pool D) : Type 0 where
  pub same : IsSameLog (log_of old) (log_of new)
  pub below : OnlyRead g (device_of old) (device_of new)
  pub later : g.faults (device_of old) ≤ g.faults (device_of new)

-- so a call left it, and failed for no other cause than a read that failed
abbrev pub HasReadPages : {D T : Type 0} → Ghosts D → Pool D → Pool D → Result T VaultFault → Type 0
HasReadPages g old new result = HasRead (IsReadOn g) (λ p. g.faults (device_of p)) (λ p. g.allowance (device_of p)) old new result

-- the same of a call that reads the whole volume, and may name a page that is damaged
abbrev pub HasReadPagesAll : {D T : Type 0} → Ghosts D → Pool D → Pool D → Result T VaultFault → Type 0
HasReadPagesAll g old new result = HasReadAll (IsReadOn g) (λ p. g.faults (device_of p)) (λ p. g.allowance (device_of p)) old new result
