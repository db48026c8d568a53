use Rattle.std.proofs.Common.{◌≡◌, ◌≤◌, ◌+◌, ◌++◌, [], length, map}
use Rattle.std.specs.Vec.{vec_capacity}
use Rattle.alp_storm.specs.Storms.{AreRooms, AreOpen, task_of, carriers_to}
use Rattle.alp_storm.proofs.storming.put_carriers_from.Given as goal

abbrev pub invariant-loop-place : goal.invariant-loop-place
invariant-loop-place g l = record {
  rooms : AreRooms l.rings.items l.servers;
  rings : length l.fn.rings.items ≤ length l.rings.items + l.place;
  opened : AreOpen g.S.Story.base l.servers [] l.errands.items;
  capacity : vec_capacity l.errands ≡ vec_capacity l.fn.errands;
  many : length l.errands.items ≤ length l.fn.errands.items + l.place;
  tasks : map task_of l.errands.items ≡ map task_of l.fn.errands.items ++ carriers_to l.from l.first l.place;
}
