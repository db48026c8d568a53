use Rattle.std.proofs.Common.{◌≡◌, ◌≤◌, ◌+◌, ◌*◌, ◌++◌, [], length, map, take}
use Rattle.std.specs.Vec.{vec_capacity}
use Rattle.alp_storm.specs.Storms.{AreRooms, AreOpen, task_of, carriers_from, end_of}
use Rattle.alp_storm.proofs.storming.put_carriers.Given as goal

abbrev pub invariant-loop-place : goal.invariant-loop-place
invariant-loop-place g l = record {
  rooms : AreRooms l.rings.items (length l.states);
  rings : length l.fn.rings.items ≤ length l.rings.items + 8 * l.place;
  opened : AreOpen g.S.Story.base (length l.states) [] l.errands.items;
  capacity : vec_capacity l.errands ≡ vec_capacity l.fn.errands;
  many : length l.errands.items ≤ length l.fn.errands.items + 8 * l.place;
  tasks : map task_of l.errands.items ≡ map task_of l.fn.errands.items ++ carriers_from (length l.states) 0 (take l.place (map (end_of g.S.Story.base g.S.Station.sight) l.states));
}
