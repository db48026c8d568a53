-- Why a call on the buffers answers an error.
use Rattle.std.specs.Prelude.{◌≡◌, ◌⊎◌, ◌≤◌, ◌↔◌, ℕ, Result, OnOk, IsErrOf, true, false}
use Rattle.alp_base.specs.Causes.{Rose}
use Rattle.alp_base.specs.declared.allowance.Allowance.TheVariants.{Spent}
use Rattle.alp_disk.specs.declared.disk.Disk.{Ghosts}
use Rattle.alp_batch.specs.declared.batch.Batch.{Batch}
use Rattle.alp_wal.specs.declared.fault.WalFault.{WalFault}
use Rattle.alp_wal.specs.declared.fault.WalFault.TheVariants.{Failed, Stopped, OutOfMemory, Full, Dead}
use Rattle.alp_wal.specs.Live.{BothFit}
use Rattle.alp_wal.specs.Wal.{anchor_of, notes_of, is_dead}
use Rattle.alp_wal.specs.Calls.{HasLogCause, IsAsBefore}
use Rattle.alp_pool.specs.Buffers.{IsResident}
use Rattle.alp_pool.specs.Pools.{log_of, buffers_of, device_of}
use Rattle.alp_pool.specs.declared.pool.Pool.{Pool}

-- Of a `get`: the device failed where its count of faults rose, and was stopped where its allowance is spent then; with any other
-- answer the count is as before. A page that is not resident is refused just where the log is dead.
pub record HasGetCause {D T : Type 0} (g : Ghosts D) (at : ℕ) (old new : Pool D) (result : Result T WalFault) : Type 0 where
  pub later : g.faults (device_of old) ≤ g.faults (device_of new)
  pub no_fault : OnOk result (g.faults (device_of new) ≡ g.faults (device_of old))
  pub failed : IsErrOf result Failed → Rose (g.faults (device_of old)) (g.faults (device_of new))
  pub stopped : IsErrOf result Stopped → g.allowance (device_of new) ≡ Spent
  pub memory : IsErrOf result OutOfMemory → g.faults (device_of new) ≡ g.faults (device_of old)
  pub dead : IsErrOf result Dead ↔ ((is_dead (log_of old) ≡ true) × (IsResident at (buffers_of old) → ⊥))
  pub never_full : IsErrOf result Full → ⊥

-- Of a `commit`: as the log's own; where a record is too large, want of memory may be answered in its place.
pub record HasPoolCause {D T : Type 0} (g : Ghosts D) (b : Batch) (old new : Pool D) (result : Result T WalFault) : Type 0 where
  pub log : HasLogCause g (log_of old) (log_of new) result
  pub full : IsErrOf result Full → BothFit (anchor_of (log_of old)).sizes.area (notes_of (log_of old)) b → ⊥
  pub too_large : is_dead (log_of old) ≡ false → (BothFit (anchor_of (log_of old)).sizes.area (notes_of (log_of old)) b → ⊥) → IsErrOf result Full ⊎ IsErrOf result OutOfMemory
  pub full_stays : IsErrOf result Full → new ≡ old
  pub memory : IsErrOf result OutOfMemory → IsAsBefore (log_of old) (log_of new)
