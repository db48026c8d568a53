use Rattle.alp_storm.proofs.ErrandLemmas.{carried_done}
use Rattle.alp_storm.proofs.errand.Errand.run.Goals as goal

pub returns-in-Carry : goal.returns-in-Carry
returns-in-Carry g c =
    let done = carried_done g.S.Story.base g.S.Host.log g.S.Station.sight c.args.scene.now.plan.seed c.args.scene.now.monitors.now c.args.number c.args.self.ring.items c.requires.ring_is c.in-Carry.pair c.carry_by.result.task c.carry_by.result.ring.items c.args.self.task c.in-Carry.next c.in-Carry.lost c.in-Carry.is c.carry_by.ensures in
    record { ring_is = done.0; did = done.1 }
