use Rattle.std.proofs.Common.{◌≡◌, ◌*◌, IsTrue, length}
use Rattle.alp_base.specs.Crashes.{NoMore, Adds}
use Rattle.alp_record.specs.Record.{Hold}
use Rattle.alp_record.proofs.body.read_pages.Given as goal

abbrev pub invariant-loop-k : goal.invariant-loop-k
invariant-loop-k g l = record {
  held : IsTrue (g.D.Disk.tells l.fn.disk) → Hold (g.D.Disk.seen l.fn.disk) l.first l.k l.bytes.items;
  long : length l.bytes.items ≡ 512 * l.k;
  tells : g.D.Disk.tells l.disk ≡ g.D.Disk.tells l.fn.disk;
  size : g.D.Disk.size l.disk ≡ g.D.Disk.size l.fn.disk;
  seen : g.D.Disk.seen l.disk ≡ g.D.Disk.seen l.fn.disk;
  crash : NoMore (g.D.Disk.may_leave l.fn.disk) (g.D.Disk.may_leave l.disk);
  time : Adds g.D.Disk.left_since l.fn.disk l.disk (g.D.Disk.may_leave l.fn.disk);
  allowance : g.D.Disk.allowance l.disk ≡ g.D.Disk.allowance l.fn.disk;
  faults : g.D.Disk.faults l.disk ≡ g.D.Disk.faults l.fn.disk;
}
