-- What the struct of the buffers holds, and what is known of it.
use Rattle.std.specs.Prelude.{◌≡◌, ℕ, IsTrue, false}
use Rattle.alp_disk.specs.declared.disk.Disk.{Ghosts}
use Rattle.alp_wal.specs.declared.wal.Wal.{Wal}
use Rattle.alp_wal.specs.State.{State}
use Rattle.alp_wal.specs.Wal.{disk_of, is_dead, state_of, IsLog, IsKnown}
use Rattle.alp_pool.specs.Buffers.{Buffers, AreBuffersOf}
use Rattle.alp_pool.specs.declared.pool.Pool.{Pool}

abbrev pub log_of : {D : Type 0} → Pool D → Wal D
log_of p = p.log

abbrev pub buffers_of : {D : Type 0} → Pool D → Buffers
buffers_of p = p.held.entries

abbrev pub capacity_of : {D : Type 0} → Pool D → ℕ
capacity_of p = p.held.cap

abbrev pub device_of : {D : Type 0} → Pool D → D
device_of p = disk_of (log_of p)

-- the pages and notes of the log, over what a read of its disk gives
abbrev pub held_by : {D : Type 0} → Ghosts D → Pool D → State
held_by g p = state_of (log_of p) (g.seen (device_of p))

-- The log is one, and is known while it is alive; where the disk tells, the buffers hold the log's pages, on a dead log too.
pub record IsPool {D : Type 0} (g : Ghosts D) (p : Pool D) : Type 0 where
  pub log : IsLog (g.size (device_of p)) (log_of p)
  pub known : IsTrue (g.tells (device_of p)) → is_dead (log_of p) ≡ false → IsKnown (g.size (device_of p)) (g.seen (device_of p)) (g.may_leave (device_of p)) (log_of p)
  pub buffers : IsTrue (g.tells (device_of p)) → AreBuffersOf (held_by g p).pages (buffers_of p)
