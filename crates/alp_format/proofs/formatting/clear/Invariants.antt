use Rattle.std.proofs.Common.{◌≡◌, ◌*◌, IsTrue, replicate}
use Rattle.alp_base.specs.Crashes.{Follows, After, Adds}
use Rattle.alp_base.specs.Allowances.{Spends}
use Rattle.alp_disk.specs.Runs.{SameOutside, Holds}
use Rattle.alp_format.proofs.formatting.clear.Given as goal

abbrev pub invariant-loop-k : goal.invariant-loop-k
invariant-loop-k g l = record {
  written : IsTrue (g.D.Disk.tells l.fn.disk) → Holds l.first l.k (replicate (512 * l.count) 0) (g.D.Disk.seen l.fn.disk) (g.D.Disk.seen l.disk);
  crash : Follows (SameOutside l.first l.count) (g.D.Disk.may_leave l.fn.disk) (g.D.Disk.may_leave l.disk);
  any_moment : Adds g.D.Disk.left_since l.fn.disk l.disk (After (SameOutside l.first l.count) (g.D.Disk.may_leave l.fn.disk));
  tells : g.D.Disk.tells l.disk ≡ g.D.Disk.tells l.fn.disk;
  size : g.D.Disk.size l.disk ≡ g.D.Disk.size l.fn.disk;
  allowance : Spends (g.D.Disk.allowance l.fn.disk) (g.D.Disk.allowance l.disk);
  faults : g.D.Disk.faults l.disk ≡ g.D.Disk.faults l.fn.disk;
}
