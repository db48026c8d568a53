use Rattle.std.proofs.Common.{◌≡◌, ◌≤◌, ◌+◌, ◌++◌, [], length, map}
use Rattle.std.specs.Vec.{vec_capacity}
use Rattle.alp_storm.specs.Storms.{AreRooms, AreOpen, task_of, work}
use Rattle.alp_storm.proofs.storming.put_workers.Given as goal

abbrev pub invariant-loop-job : goal.invariant-loop-job
invariant-loop-job g l = record {
  rooms : AreRooms l.rings.items l.servers;
  rings : length l.rings.items + length l.fn.jobs.items ≡ length l.fn.rings.items + length l.job-iterator.rest.items;
  opened : AreOpen g.S.Story.base l.servers [] l.errands.items;
  capacity : vec_capacity l.errands ≡ vec_capacity l.fn.errands;
  many : length l.errands.items + length l.job-iterator.rest.items ≡ length l.fn.errands.items + length l.fn.jobs.items;
  tasks : map task_of l.errands.items ++ map work l.job-iterator.rest.items ≡ map task_of l.fn.errands.items ++ map work l.fn.jobs.items;
}
