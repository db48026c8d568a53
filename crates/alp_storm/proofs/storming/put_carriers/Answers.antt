use Rattle.std.specs.Prelude.{map, min, slice_get, slice_index_or, Some}
use Rattle.std.proofs.Common.{rules, ◌≡◌, ◌+◌, ◌*◌, ◌<◌, ◌≤◌, ◌++◌, [], length, refl, sym, ap, ◌∙◌, arith}
use Rattle.std.specs.Vec.{vec_capacity}
use Rattle.alp_storm.specs.Storms.{AreRooms, AreOpen, task_of, carriers_to}
use Rattle.alp_storm.proofs.Lists.{get_of_or}
use Rattle.alp_storm.proofs.CarrierLemmas.{carriers_more}
use Rattle.alp_storm.proofs.storming.put_carriers.Goals as goal

pub loop-place-preserved : goal.loop-place-preserved
loop-place-preserved g c =
    let i = c.loop-place.invariant in
    let e = c.put_carriers_from.ensures in
    let y = c.index-states-from.result in
    let low : c.loop-place.place < length c.args.states.now = search rules in
    let is : y ≡ slice_index_or c.args.states.now c.loop-place.place y = search rules in
    let at : slice_get c.args.states.now c.loop-place.place ≡ Some y = get_of_or c.args.states.now c.loop-place.place y low is in
    let added : map task_of c.put_carriers_from.new.errands.items ≡ map task_of c.loop-place.errands.items ++ carriers_to (c.loop-place.place + 1) c.sent_count-first.result (length c.args.states.now) = search rules in
    record {
      rooms = search rules;
      rings = search rules;
      opened = search rules;
      capacity = e.room.0 ∙ i.capacity;
      many = search rules;
      tasks = carriers_more g.S.Story.base g.S.Station.sight c.args.states.now (length c.args.states.now) c.loop-place.place c.sent_count-first.result y (map task_of c.args.errands.now.items) (map task_of c.loop-place.errands.items) (map task_of c.put_carriers_from.new.errands.items) at
          (c.sent_count-first.ensures ∙ ap (λ l. min (length (g.S.Station.sight.sent (g.S.Story.base y) l)) 4294967295) (c.requires.empty c.loop-place.place y at)) i.tasks added;
    }
