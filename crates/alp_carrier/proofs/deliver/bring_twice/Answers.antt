use Rattle.std.specs.Prelude.{[], ◌∷◌}
use Rattle.alp_carrier.proofs.BringLemmas.{brings_both}
use Rattle.alp_carrier.proofs.deliver.bring_twice.Goals as goal

pub returns : goal.returns
returns g c =
    brings_both g.S.Story.base g.S.Station.sight c.args.monitor.now c.args.from c.args.delivery c.bring-delivery.result c.bring.result (c.args.x.now ∷ []) (c.args.x.now ∷ []) c.bring-delivery.ensures c.bring.ensures
