use Rattle.std.proofs.Common.{◌<◌}
use Rattle.alp_volume.proofs.PutLaws.{free_place}
use Rattle.alp_volume.proofs.put_file.take_file.Goals as goal

pub returns-in_err-slot-clause-sized : goal.returns-in_err-slot-clause-sized
returns-in_err-slot-clause-sized c home sized = c.take_entry.ensures.sized home (free_place home c.args.catalog.now c.in_ok-place.place sized c.in_ok-place.ensures.free).1 (c.take_place.ensures.sized home sized)

pub returns-clause-sized : goal.returns-clause-sized
returns-clause-sized c home sized = c.take_entry.ensures.sized home (free_place home c.args.catalog.now c.in_ok-place.place sized c.in_ok-place.ensures.free).1 (c.take_place.ensures.sized home sized)
