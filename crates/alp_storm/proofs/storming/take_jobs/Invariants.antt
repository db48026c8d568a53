use Rattle.std.proofs.Common.{◌≡◌, ◌≤◌, ◌+◌, ◌++◌, length, map}
use Rattle.std.specs.Vec.{vec_capacity}
use Rattle.alp_storm.specs.Storms.{task_of, jobs_in, first_fault, or_else}
use Rattle.alp_storm.proofs.storming.take_jobs.Given as goal

abbrev pub invariant-loop-errand : goal.invariant-loop-errand
invariant-loop-errand g l = record {
  jobs : l.jobs.items ++ jobs_in (map task_of l.errand-iterator.rest.items) ≡ l.fn.jobs.items ++ jobs_in (map task_of l.fn.done.items);
  room : length l.jobs.items + length (jobs_in (map task_of l.errand-iterator.rest.items)) ≤ vec_capacity l.jobs;
  first : or_else l.first (first_fault (map task_of l.errand-iterator.rest.items)) ≡ first_fault (map task_of l.fn.done.items);
}
