use Rattle.std.specs.Prelude.{map}
use Rattle.std.proofs.Common.{rules, ◌≡◌, ◌+◌, ◌<◌, ◌≤◌, ◌++◌, [], List, length, ap, ◌∙◌, subst, arith, length-append}
use Rattle.std.specs.Vec.{vec_len, vec_capacity}
use lib.ListN.{length-map}
use Rattle.alp_storm.specs.Lists.{IsRoomFor}
use Rattle.alp_storm.specs.Storms.{AreOpen, task_of, work, carriers_from, end_of, tasks_for}
use Rattle.alp_storm.specs.declared.errand.Errand.{Errand}
use Rattle.alp_storm.proofs.storming.storm.Goals as goal

pub returns-clause-storm : goal.returns-clause-storm
returns-clause-storm g c =
    let room : IsRoomFor (length c.args.jobs.items) (length c.args.states.items) c.in-Ok.lists = search rules in
    let carriers = carriers_from (length c.args.states.items) 0 (map (end_of g.S.Story.base g.S.Station.sight) c.args.states.items) in
    let works : map task_of c.put_workers.new.errands.items ≡ map work c.args.jobs.items =
    c.put_workers.ensures.tasks ∙ ap (λ (l : List (Errand g.row.S.Denot g.row.S-Base.Denot g.row.S-Entry.Denot)). map task_of l ++ map work c.args.jobs.items) room.errands.0 in
    let added : map task_of c.put_carriers.new.errands.items ≡ map task_of c.put_workers.new.errands.items ++ carriers_from (length c.args.states.items) 0 (map (end_of g.S.Story.base g.S.Station.sight) c.args.states.items) = search rules in
    let tasks : map task_of c.put_carriers.new.errands.items ≡ tasks_for g.S.Story.base g.S.Station.sight c.args.states.items c.args.jobs.items = added ∙ ap (λ l. l ++ carriers) works in
    let none : length c.in-Ok.lists.errands.items ≡ 0 = ap (λ l. length l) room.errands.0 in
    let workers = c.put_workers.ensures.room.1 in
    let all = c.put_carriers.ensures.room.1 in
    let done = room.done.2 in
    let few = c.requires.jobs.1 in
    let one = c.requires.jobs.0 in
    let long = ap (λ l. length l) tasks in
    let parts = length-append (map work c.args.jobs.items) carriers in
    let jobs_long = length-map c.args.jobs.items work in
    let errands_long = length-map c.put_carriers.new.errands.items task_of in
    let slice : length c.as_slice.result.now ≡ length c.args.states.items = search rules in
    let opened : AreOpen g.S.Story.base (length c.args.states.items) [] c.put_carriers.new.errands.items = subst (λ n. AreOpen g.S.Story.base n [] c.put_carriers.new.errands.items) slice c.put_carriers.ensures.open in
    c.run_over.ensures.storm c.args.jobs.items (record {
      errands = opened;
      tasks = tasks;
      done = (room.done.0, room.done.1, omega (arith, all, workers, none, done));
      monitors = room.monitors;
      rooms = room.rooms;
      jobs_room = room.jobs_room;
      some = (omega (arith, long, parts, jobs_long, errands_long, one), omega (arith, all, workers, none, few));
    }) c.requires.jobs.2
