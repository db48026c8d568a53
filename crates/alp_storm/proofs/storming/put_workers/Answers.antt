use Rattle.std.specs.Prelude.{map}
use Rattle.std.proofs.Common.{◌≡◌, ◌+◌, ◌≤◌, ◌++◌, List, [], length, refl, sym, ap, ◌∙◌, arith, length-append}
use Rattle.std.proofs.lemmas.List.{nil_from_length}
use mathlib.Core.List.{append-nil}
use Rattle.alp_jobs.specs.States.{JobState}
use Rattle.alp_storm.specs.Storms.{task_of, work}
use Rattle.alp_storm.proofs.JobLemmas.{works_step}
use Rattle.alp_storm.proofs.storming.put_workers.Goals as goal

pub put_worker-requires-clause-rings : goal.put_worker-requires-clause-rings
put_worker-requires-clause-rings g c =
    let i = c.loop-job.invariant in
    let n = ap (λ (l : List JobState). length l) c.in-Some.ensures.steps.0 in
    let r = i.rings in
    let q = c.requires.rings.1 in
    (i.rooms, omega (arith, n, r, q))

pub put_worker-requires-clause-errands : goal.put_worker-requires-clause-errands
put_worker-requires-clause-errands g c =
    let i = c.loop-job.invariant in
    let n = ap (λ (l : List JobState). length l) c.in-Some.ensures.steps.0 in
    let m = i.many in
    let k = i.capacity in
    let q = c.requires.errands.1 in
    (i.opened, omega (arith, n, m, k, q))

pub loop-job-preserved : goal.loop-job-preserved
loop-job-preserved g c =
    let i = c.loop-job.invariant in
    let n = ap (λ (l : List JobState). length l) c.in-Some.ensures.steps.0 in
    let r = i.rings in
    let m = i.many in
    let k = i.capacity in
    let e = c.put_worker.ensures in
    let er = e.rings.1 in
    let ec = e.room.0 in
    let em = e.room.1 in
    record {
      rooms = e.rings.0;
      rings = omega (arith, n, r, er);
      opened = e.open;
      capacity = ec ∙ k;
      many = omega (arith, n, m, em);
      tasks = works_step (map task_of c.loop-job.errands.items) (map task_of c.put_worker.new.errands.items) _ work c.loop-job.job-iterator.rest.items c.next.new.self.rest.items c.in-Some.job c.in-Some.ensures.steps.0 e.tasks i.tasks;
    }
