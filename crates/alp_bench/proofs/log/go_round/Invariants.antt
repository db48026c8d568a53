use Rattle.alp_wal.specs.Wal.{disk_of, IsLog}
use Rattle.alp_silent.specs.contracts.silent.SilentDisk.TheImpl as silent
use Rattle.alp_bench.proofs.log.go_round.Given as goal

abbrev pub invariant-loop : goal.invariant-loop
invariant-loop l = IsLog (silent.ghosts.size (disk_of l.log)) l.log
