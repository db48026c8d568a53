use Rattle.alp_carrier.specs.OnWay.{IsReadyToGo, IsOnWay}
use Rattle.alp_carrier.proofs.carrying.carry.Given as goal

abbrev pub invariant-loop : goal.invariant-loop
invariant-loop g l = IsReadyToGo g.S.Story.base g.S.Station.sight l.fn.route l.way × IsOnWay g.S.Story.base g.S.Station.sight l.fn.route l.fn.plan.seed l.fn.sender l.fn.receiver l.way
