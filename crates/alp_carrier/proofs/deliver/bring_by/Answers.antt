use Rattle.std.proofs.Common.{sym, subst}
use Rattle.alp_carrier.specs.Plans.{brought_by}
use Rattle.alp_carrier.specs.Brings.{Brings}
use Rattle.alp_carrier.proofs.BringLemmas.{brings_none}
use Rattle.alp_carrier.proofs.deliver.bring_by.Goals as goal

pub returns-in-Lost : goal.returns-in-Lost
returns-in-Lost g c =
    subst (λ f. Brings g.S.Story.base g.S.Station.sight c.args.monitor.now c.args.from c.args.delivery c.args.delivery (brought_by f c.args.x.now)) (sym c.in-Lost.is) (brings_none g.S.Story.base g.S.Station.sight c.args.monitor.now c.args.from c.args.delivery c.requires.held)

pub returns-in-Delayed : goal.returns-in-Delayed
returns-in-Delayed g c =
    subst (λ f. Brings g.S.Story.base g.S.Station.sight c.args.monitor.now c.args.from c.args.delivery c.args.delivery (brought_by f c.args.x.now)) (sym c.in-Delayed.is) (brings_none g.S.Story.base g.S.Station.sight c.args.monitor.now c.args.from c.args.delivery c.requires.held)
