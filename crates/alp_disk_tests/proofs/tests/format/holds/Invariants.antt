use Rattle.std.proofs.Common.{◌≡◌, IsTrue, false}
use Rattle.alp_wal.specs.Wal.{disk_of, is_dead, IsLog, IsKnown}
use Rattle.alp_disk_tests.proofs.tests.format.holds.Given as goal

abbrev pub invariant-loop-at : goal.invariant-loop-at
invariant-loop-at g l = record {
  log : IsLog (g.D.Disk.size (disk_of l.wal)) l.wal;
  known : IsTrue (g.D.Disk.tells (disk_of l.wal)) → is_dead l.wal ≡ false → IsKnown (g.D.Disk.size (disk_of l.wal)) (g.D.Disk.seen (disk_of l.wal)) (g.D.Disk.may_leave (disk_of l.wal)) l.wal;
}
