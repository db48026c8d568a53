use Rattle.std.proofs.Common.{◌≡◌, ◌≤◌, ◌+◌, IsTrue, length}
use Rattle.alp_base.specs.Crashes.{NoMore, Adds}
use Rattle.alp_wal.specs.Live.{AreLive, AreWithin}
use Rattle.alp_wal.specs.Reading.{area_first, area_end}
use Rattle.alp_wal.specs.Mount.{Finds}
use Rattle.alp_wal.proofs.mounting.replay.Given as goal

abbrev pub invariant-loop : goal.invariant-loop
invariant-loop g l = record {
  finds : IsTrue (g.D.Disk.tells l.fn.disk) → Finds (g.D.Disk.seen l.fn.disk) l.fn.found.anchor l.found;
  grown : l.fn.found.end + l.counter ≤ l.found.end;
  inside : l.found.end ≤ area_end l.fn.found.anchor;
  anchor : l.found.anchor ≡ l.fn.found.anchor;
  index : length l.found.index ≡ l.fn.found.anchor.sizes.home;
  live : AreLive l.found.notes.notes;
  within : AreWithin (area_first l.fn.found.anchor) l.found.end l.found.notes.notes;
  tells : g.D.Disk.tells l.disk ≡ g.D.Disk.tells l.fn.disk;
  size : g.D.Disk.size l.disk ≡ g.D.Disk.size l.fn.disk;
  seen : g.D.Disk.seen l.disk ≡ g.D.Disk.seen l.fn.disk;
  crash : NoMore (g.D.Disk.may_leave l.fn.disk) (g.D.Disk.may_leave l.disk);
  time : Adds g.D.Disk.left_since l.fn.disk l.disk (g.D.Disk.may_leave l.fn.disk);
  allowance : g.D.Disk.allowance l.disk ≡ g.D.Disk.allowance l.fn.disk;
  faults : g.D.Disk.faults l.disk ≡ g.D.Disk.faults l.fn.disk;
}
