use Rattle.std.specs.Prelude.{map}
use Rattle.std.proofs.Common.{rules, ◌≡◌, ◌+◌, ◌<◌, ◌≤◌, ◌++◌, [], length, refl, sym, ap, ◌∙◌, subst, arith}
use Rattle.std.specs.Vec.{vec_len, vec_capacity}
use Rattle.alp_storm.specs.Storms.{AreOpen, task_of, jobs_in, stormed, refused}
use Rattle.alp_storm.proofs.TaskLemmas.{are_due}
use Rattle.alp_storm.proofs.RunLemmas.{same_tasks, kept_bases, begun_jobs}
use Rattle.alp_storm.proofs.storming.run_over.Goals as goal

pub take_jobs-requires : goal.take_jobs-requires
take_jobs-requires g c =
    let l = c.requires.loaded in
    let jobs = ap (λ x. length x) (begun_jobs g.S.Story.base g.S.Station.sight c.args.states.items l.0 c.args.lists.errands.items c.open_all.new.errands.items c.open_all.ensures.tasks (search rules) l.1.tasks) in
    let none : length c.args.lists.jobs.items ≡ 0 = ap (λ x. length x) l.1.jobs_room.0 in
    let cap = l.1.jobs_room.1 in
    record { room = omega (arith, jobs, none, cap) }

pub returns-in-Err-clause-storm : goal.returns-in-Err-clause-storm
returns-in-Err-clause-storm g c = λ jobs loaded ready.
    refused refl c.in-Err.ensures.err.1
    (c.take_jobs.ensures.jobs ∙ (ap (λ x. x ++ jobs_in (map task_of c.open_all.new.errands.items)) loaded.jobs_room.0
    ∙ begun_jobs g.S.Story.base g.S.Station.sight c.args.states.items jobs c.args.lists.errands.items c.open_all.new.errands.items c.open_all.ensures.tasks (search rules) loaded.tasks))

pub run_open-requires-clause-due : goal.run_open-requires-clause-due
run_open-requires-clause-due g c κs within =
    let o = c.in_default.ensures.ok in
    let l = c.requires.loaded in
    let n : c.len-servers.result ≡ length c.args.states.items = search rules in
    are_due g.S.Story.base g.S.Station.sight c.args.states.items l.0 c.open_all.new.monitors.items c.args.lists.errands.items c.open_all.new.errands.items o.monitors_long o.of
    (subst (λ k. AreOpen g.S.Story.base k c.open_all.new.monitors.items c.open_all.new.errands.items) n o.open_are) o.tasks (search rules) l.1.tasks l.2

pub run_open-requires-clause-counts : goal.run_open-requires-clause-counts
run_open-requires-clause-counts g c κs within = (let o = c.in_default.ensures.ok in (o.counts, o.rooms_long ∙ sym o.monitors_long, o.rooms_are))

pub run_open-requires-clause-jobs : goal.run_open-requires-clause-jobs
run_open-requires-clause-jobs g c κs within =
    let l = c.requires.loaded in
    let jobs = ap (λ x. length x) (begun_jobs g.S.Story.base g.S.Station.sight c.args.states.items l.0 c.args.lists.errands.items c.open_all.new.errands.items c.open_all.ensures.tasks (search rules) l.1.tasks) in
    let cap = l.1.jobs_room.1 in
    (l.1.jobs_room.0, omega (arith, jobs, cap))

pub returns-clause-bases : goal.returns-clause-bases
returns-clause-bases g c =
    let o = c.in_default.ensures.ok in
    kept_bases g.S.Story.base g.S.Story.entries c.open_all.new.monitors.items c.run_open.ensures.done c.args.states.items c.run_open.result.states.items o.of o.monitors_long c.run_open.ensures.closed

pub returns-clause-storm : goal.returns-clause-storm
returns-clause-storm g c = λ jobs loaded ready.
    let o = c.in_default.ensures.ok in
    stormed (record {
      monitors = c.open_all.new.monitors.items;
      begun = c.open_all.new.errands.items;
      long = o.monitors_long;
      of = o.of;
      tasks = same_tasks c.args.lists.errands.items c.open_all.new.errands.items c.open_all.ensures.tasks (search rules) ∙ loaded.tasks;
      fresh = λ k d at. (let x = o.open_are k d at in (x.ring, x.fresh));
      ran = c.run_open.ensures;
    })
