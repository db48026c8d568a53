use Rattle.std.specs.Prelude.{map}
use Rattle.std.proofs.Common.{rules, ◌≡◌, ◌+◌, ◌<◌, ◌≤◌, ◌++◌, [], length, refl, sym, ap, ◌∙◌, subst, arith, List}
use Rattle.std.specs.Vec.{vec_len, vec_capacity}
use Rattle.alp_monitor.specs.declared.monitor.Monitor.{Monitor}
use Rattle.alp_storm.specs.Errands.{AreDone}
use Rattle.alp_storm.specs.Storms.{task_of, jobs_in, first_fault, or_else, IsDownFault}
use Rattle.alp_storm.proofs.RunLemmas.{same_tasks, done_jobs, done_rings}
use Rattle.alp_storm.proofs.storming.run_open.Goals as goal

pub close_all-requires-clause-rings : goal.close_all-requires-clause-rings
close_all-requires-clause-rings g c =
    let e : c.as_slice.result.now ≡ c.args.lists.monitors.items = search rules in
    done_rings g.S.Story.base g.S.Host.log g.S.Station.sight c.args.plan.seed c.args.lists.monitors.items c.args.lists.errands.items c.run_in_threads-done.result.items
    (subst (λ (ms : List (Monitor g.row.S.Denot g.row.S-Base.Denot g.row.S-Entry.Denot)). AreDone g.S.Story.base g.S.Host.log g.S.Station.sight c.args.plan.seed ms c.args.lists.errands.items c.run_in_threads-done.result.items) e c.run_in_threads-done.ensures.back)

pub close_all-requires-clause-counts : goal.close_all-requires-clause-counts
close_all-requires-clause-counts g c = λ i m at.
    let v : vec_len c.run_in_threads-done.result ≡ length c.run_in_threads-done.result.items = search rules in
    c.requires.counts.0 i m at ∙ sym (v ∙ c.run_in_threads-done.ensures.back.long)

pub close_all-requires-clause-rooms : goal.close_all-requires-clause-rooms
close_all-requires-clause-rooms g c =
    let v : vec_len c.run_in_threads-done.result ≡ length c.run_in_threads-done.result.items = search rules in
    let n : vec_len c.run_in_threads-done.result ≡ length c.args.lists.errands.items = v ∙ c.run_in_threads-done.ensures.back.long in
    (search rules, λ i w at. (let r = c.requires.counts.2 i w at in let q = r.2 in (r.0, r.1, omega (arith, n, q))))

pub take_jobs-requires : goal.take_jobs-requires
take_jobs-requires g c =
    let e : c.as_slice.result.now ≡ c.args.lists.monitors.items = search rules in
    let did = subst (λ (ms : List (Monitor g.row.S.Denot g.row.S-Base.Denot g.row.S-Entry.Denot)). AreDone g.S.Story.base g.S.Host.log g.S.Station.sight c.args.plan.seed ms c.args.lists.errands.items c.run_in_threads-done.result.items) e c.run_in_threads-done.ensures.back in
    let tasks = same_tasks c.run_in_threads-done.result.items c.close_all.new.errands.items c.close_all.ensures.tasks (search rules) in
    let many = ap (λ l. length (jobs_in l)) tasks in
    let jobs = done_jobs g.S.Story.base g.S.Host.log g.S.Station.sight c.args.plan.seed c.args.lists.monitors.items c.args.lists.errands.items c.run_in_threads-done.result.items did in
    let none : length c.args.lists.jobs.items ≡ 0 = ap (λ l. length l) c.requires.jobs.0 in
    let cap = c.requires.jobs.1 in
    record { room = omega (arith, many, jobs, none, cap) }

pub returns : goal.returns
returns g c =
    let e : c.as_slice.result.now ≡ c.args.lists.monitors.items = search rules in
    let e2 : c.as_slice-2.result.now ≡ c.close_all.new.states.items = search rules in
    let did = subst (λ (ms : List (Monitor g.row.S.Denot g.row.S-Base.Denot g.row.S-Entry.Denot)). AreDone g.S.Story.base g.S.Host.log g.S.Station.sight c.args.plan.seed ms c.args.lists.errands.items c.run_in_threads-done.result.items) e c.run_in_threads-done.ensures.back in
    let tasks = same_tasks c.run_in_threads-done.result.items c.close_all.new.errands.items c.close_all.ensures.tasks (search rules) in
    record {
      done = c.run_in_threads-done.result.items;
      long = search rules;
      did = did;
      closed = c.close_all.ensures.closed;
      jobs_are = c.take_jobs.ensures.jobs ∙ (ap (λ l. l ++ jobs_in (map task_of c.close_all.new.errands.items)) c.requires.jobs.0 ∙ ap (λ l. jobs_in l) tasks);
      later = c.find_down.result;
      fault_is = c.or_other-fault.ensures ∙ ap (λ f. or_else f c.find_down.result) (c.take_jobs.ensures.first ∙ ap (λ l. first_fault l) tasks);
      later_is = subst (λ (l : List g.row.S.Denot). IsDownFault g.S.Story.base g.S.Story.entries g.S.Host.log g.S.Station.sight l c.find_down.result) e2 c.find_down.ensures;
    }
