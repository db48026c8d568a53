use Rattle.alp_volume.specs.declared.undo.Undo.TheVariants as undo
use Rattle.alp_volume.proofs.UndoLaws.{led_on, place_taken}
use Rattle.alp_volume.proofs.catalog.Catalog.take_place.Goals as goal

pub returns-clause-back : goal.returns-clause-back
returns-clause-back c first led =
    let p = c.in-Some.place in
    led_on c.args.undos.now.items c.reserve.new.self.items c.push_reserved.new.self.items (undo.PlaceTaken p) (record c.args.self.now { places = c.take.new.self }) first c.in_ok-reserve.ensures.items c.push_reserved.ensures.items
    (place_taken c.args.undos.now.items c.args.self.now p c.take.new.self c.in-Some.ensures.free c.in-Some.ensures.lowest c.in-Some.ensures.taken first led)
