use Rattle.std.proofs.Common.{◌≤◌}
use Rattle.alp_pool.specs.Pools.{log_of, IsPool}
use Rattle.alp_wal.specs.Wal.{anchor_of}
use Rattle.alp_silent.specs.contracts.silent.SilentDisk.TheImpl as silent
use Rattle.alp_bench.proofs.buffers.warm.Given as goal

abbrev pub invariant-loop-at : goal.invariant-loop-at
invariant-loop-at l = record { pool : IsPool silent.ghosts l.pool; home : 512 ≤ (anchor_of (log_of l.pool)).sizes.home }
