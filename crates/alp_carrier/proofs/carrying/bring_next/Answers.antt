use Rattle.std.proofs.Common.{refl}
use Rattle.std.specs.Prelude.{option_to_list}
use Rattle.alp_carrier.specs.Plans.{brought_by}
use Rattle.alp_carrier.proofs.BringLemmas.{brings_both}
use Rattle.alp_carrier.proofs.WayLemmas.{has_rolled}
use Rattle.alp_carrier.proofs.carrying.bring_next.Goals as goal

pub returns : goal.returns
returns g c =
    has_rolled g.S.Story.base g.S.Station.sight c.args.monitor.now c.args.from c.args.x c.roll_fate-fate.result c.args.way _ c.requires.timely c.roll_fate-fate.ensures.fate refl refl c.roll_fate-fate.ensures.dice c.delay.ensures
    (brings_both g.S.Story.base g.S.Station.sight c.args.monitor.now c.args.from c.args.way.delivery c.bring_by-delivery.result c.bring_delayed-delivery.result (brought_by c.roll_fate-fate.result c.args.x) (option_to_list c.args.way.delayed) c.bring_by-delivery.ensures
    c.bring_delayed-delivery.ensures)
