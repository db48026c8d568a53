use Rattle.alp_carrier.proofs.TurnLemmas.{brings_one, later_turn, base_there}
use Rattle.alp_carrier.proofs.steps.bring.Goals as goal

pub returns : goal.returns
returns g c =
    brings_one g.S.Story.base g.S.Station.sight c.args.monitor.now c.args.from c.args.x.now c.hand_in-came.result c.args.delivery c.enter-turn.result.pass c.leave.result c.count_missed.result _ _ _
    (later_turn g.S.Story.base c.args.monitor.now c.args.delivery.pass c.enter-turn.result.pass c.leave.result c.requires.held c.enter-turn.ensures.pass.0 c.enter-turn.ensures.front c.leave.ensures.pass.0 c.leave.ensures.pass.1 c.leave.ensures.front)
    c.enter-turn.ensures.front (base_there g.S.Story.base c.args.monitor.now c.args.delivery.pass c.enter-turn.result.state c.requires.held c.enter-turn.ensures.base) c.enter-turn.ensures.turns c.enter-turn.ensures.history c.leave.ensures.pass.0.number c.leave.ensures.front
    c.leave.ensures.none c.leave.ensures.entry c.leave.ensures.turn c.hand_in-came.ensures.entries c.count_missed.ensures
