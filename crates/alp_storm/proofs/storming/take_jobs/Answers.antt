use Rattle.std.specs.Prelude.{map}
use Rattle.std.proofs.Common.{◌≡◌, ◌+◌, ◌≤◌, List, [], length, refl, sym, ap, ◌∙◌, arith, length-append}
use Rattle.std.proofs.lemmas.List.{nil_from_length}
use mathlib.Core.List.{append-nil}
use Rattle.alp_storm.specs.Storms.{task_of, job_in, jobs_in, first_fault, or_else}
use Rattle.alp_storm.specs.declared.errand.Errand.{Errand}
use Rattle.alp_storm.proofs.JobLemmas.{or_none, jobs_step, first_step, room_step}
use Rattle.alp_storm.proofs.storming.take_jobs.Goals as goal

pub take_job-first-requires : goal.take_job-first-requires
take_job-first-requires g c = record { room = (let r = c.loop-errand.invariant.room in let s = room_step c.loop-errand.errand-iterator.rest.items c.next.new.self.rest.items c.in-Some.errand c.in-Some.ensures.steps.0 in omega (arith, r, s)) }

pub loop-errand-preserved : goal.loop-errand-preserved
loop-errand-preserved g c =
    let rest = c.loop-errand.errand-iterator.rest.items in
    let more = c.next.new.self.rest.items in
    let s = room_step rest more c.in-Some.errand c.in-Some.ensures.steps.0 in
    let r = c.loop-errand.invariant.room in
    let n = ap (λ l. length l) c.take_job-first.ensures.jobs ∙ length-append c.loop-errand.jobs.items (job_in c.in-Some.errand.task) in
    let cap = c.take_job-first.ensures.room in
    record {
      jobs = jobs_step c.args.done.items rest more c.in-Some.errand c.loop-errand.jobs.items c.take_job-first.new.jobs.items _ c.in-Some.ensures.steps.0 c.take_job-first.ensures.jobs c.loop-errand.invariant.jobs;
      room = omega (arith, r, s, n, cap);
      first = first_step rest more c.in-Some.errand c.loop-errand.first c.take_job-first.result _ c.in-Some.ensures.steps.0 c.take_job-first.ensures.first c.loop-errand.invariant.first;
    }
