use Rattle.std.proofs.Common.{rules, ◌≡◌, ◌++◌, ◌∷◌, [], length, arith, ap, ◌∙◌, sym, subst, refl}
use Rattle.std.specs.Prelude.{slice_get}
use Rattle.alp_storm.proofs.Lists.{get_last}
use Rattle.std.specs.Vec.{vec_len}
use Rattle.alp_storm.specs.Storms.{IsClosed, AllCount, AreRooms}
use Rattle.alp_storm.proofs.Closes.{own, every, left, closed, closed_before, counts_left, room_last, rooms_left, tasks_gathered, have_last}
use Rattle.alp_storm.proofs.opening.close_last.Goals as goal

pub gather-requires-clause-room : goal.gather-requires-clause-room
gather-requires-clause-room g c = room_last c.args.rooms.now.items c.pop-2.new.self.items c.in-Some-pop.room (vec_len c.args.errands.now) c.in-Some-pop.ensures.items c.requires.rooms.1

pub close-requires-clause-own : goal.close-requires-clause-own
close-requires-clause-own g c =
    own g.S.Story.base g.S.Story.entries c.args.monitors.now.items c.pop.new.self.items c.in-Some.monitor c.args.errands.now.items c.gather.new.errands.items c.gather.new.room.items c.in-Some.ensures.items c.requires.rings c.gather.ensures.each (search rules) (search rules)

pub close-requires-clause-all : goal.close-requires-clause-all
close-requires-clause-all g c =
    every g.S.Story.base g.S.Story.entries c.args.monitors.now.items c.pop.new.self.items c.in-Some.monitor c.args.errands.now.items c.gather.new.errands.items c.gather.new.room.items c.in-Some.ensures.items c.requires.rings c.gather.ensures.each (search rules) (search rules)
    (let e = c.requires.counts (length c.pop.new.self.items) c.in-Some.monitor (ap (λ l. slice_get l (length c.pop.new.self.items)) c.in-Some.ensures.items ∙ get_last c.pop.new.self.items c.in-Some.monitor (length c.pop.new.self.items) refl) in let l : vec_len c.args.errands.now ≡ length c.args.errands.now.items = search rules in e ∙ l)

pub returns-clause-others : goal.returns-clause-others
returns-clause-others g c = (
  c.in-Some.monitor,
  c.in-Some.ensures.items,
  subst (λ n. IsClosed g.S.Story.base g.S.Story.entries c.in-Some.monitor n c.args.errands.now.items c.close.result) (search rules)
      (closed g.S.Story.base g.S.Story.entries c.args.monitors.now.items c.pop.new.self.items c.in-Some.monitor c.args.errands.now.items c.gather.new.errands.items c.gather.new.room.items c.in-Some.ensures.items c.requires.rings c.gather.ensures.each (search rules) (search rules) c.close.result c.close.ensures.base c.close.ensures.history),
)

pub returns-clause-rings : goal.returns-clause-rings
returns-clause-rings g c =
    left g.S.Story.base g.S.Story.entries c.args.monitors.now.items c.pop.new.self.items c.in-Some.monitor c.args.errands.now.items c.gather.new.errands.items c.gather.new.room.items c.in-Some.ensures.items c.requires.rings c.gather.ensures.each (search rules) (search rules)

pub returns-clause-counts : goal.returns-clause-counts
returns-clause-counts g c =
    let counts : AllCount c.pop.new.self.items (vec_len c.args.errands.now) = counts_left g.S.Story.base g.S.Story.entries c.args.monitors.now.items c.pop.new.self.items c.in-Some.monitor c.args.errands.now.items c.gather.new.errands.items c.gather.new.room.items c.in-Some.ensures.items c.requires.rings c.gather.ensures.each (search rules) (search rules) (vec_len c.args.errands.now) c.requires.counts in
    subst (λ n. AllCount c.pop.new.self.items n) (sym c.gather.ensures.count.0) counts

pub returns-clause-rooms : goal.returns-clause-rooms
returns-clause-rooms g c =
    subst (λ n. AreRooms c.pop-2.new.self.items n) (sym c.gather.ensures.count.0) (rooms_left c.args.rooms.now.items c.pop-2.new.self.items c.in-Some-pop.room (vec_len c.args.errands.now) c.in-Some-pop.ensures.items c.requires.rooms.1)

pub returns-clause-before : goal.returns-clause-before
returns-clause-before g c =
    closed_before g.S.Story.base g.S.Story.entries c.args.monitors.now.items c.pop.new.self.items c.in-Some.monitor c.args.errands.now.items c.gather.new.errands.items c.gather.new.room.items c.in-Some.ensures.items c.requires.rings c.gather.ensures.each (search rules) (search rules)

pub returns-clause-tasks : goal.returns-clause-tasks
returns-clause-tasks g c = tasks_gathered c.args.errands.now.items c.gather.new.errands.items c.gather.new.room.items c.gather.ensures.each (search rules) (search rules)

pub gather-requires-clause-rings : goal.gather-requires-clause-rings
gather-requires-clause-rings g c = have_last g.S.Story.base c.args.monitors.now.items c.args.errands.now.items c.requires.rings (search rules)
