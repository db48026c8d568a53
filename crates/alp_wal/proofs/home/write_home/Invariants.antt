use Rattle.std.proofs.Common.{◌≡◌, ◌≤◌, IsTrue}
use Rattle.alp_base.specs.Crashes.{Follows, After, Adds}
use Rattle.alp_base.specs.Allowances.{Spends}
use Rattle.alp_wal.specs.Home.{SameUnlogged}
use Rattle.alp_wal.proofs.Bringing.{BroughtListed}
use Rattle.alp_wal.proofs.home.write_home.Given as goal

abbrev pub invariant-loop-j : goal.invariant-loop-j
invariant-loop-j g l = record {
  written : IsTrue (g.D.Disk.tells l.fn.disk) → BroughtListed l.first l.logged l.j l.index (g.D.Disk.seen l.fn.disk) (g.D.Disk.seen l.disk);
  crash : Follows (SameUnlogged l.first l.index) (g.D.Disk.may_leave l.fn.disk) (g.D.Disk.may_leave l.disk);
  any_moment : Adds g.D.Disk.left_since l.fn.disk l.disk (After (SameUnlogged l.first l.index) (g.D.Disk.may_leave l.fn.disk));
  tells : g.D.Disk.tells l.disk ≡ g.D.Disk.tells l.fn.disk;
  size : g.D.Disk.size l.disk ≡ g.D.Disk.size l.fn.disk;
  allowance : Spends (g.D.Disk.allowance l.fn.disk) (g.D.Disk.allowance l.disk);
  faults : g.D.Disk.faults l.disk ≡ g.D.Disk.faults l.fn.disk;
}
