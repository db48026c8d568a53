use Rattle.std.proofs.Common.{◌≡◌, drop}
use Rattle.std.specs.Prelude.{Option}
use Rattle.alp_storm.specs.Storms.{IsDownFault}
use Rattle.alp_storm.specs.declared.fault.StormFault.{StormFault}
use Rattle.alp_storm.proofs.storming.find_down.Given as goal

abbrev pub invariant-loop-state : goal.invariant-loop-state
invariant-loop-state g l = (f : Option StormFault) → IsDownFault g.S.Story.base g.S.Story.entries g.S.Host.log g.S.Station.sight (drop l.state-index l.states) f → IsDownFault g.S.Story.base g.S.Story.entries g.S.Host.log g.S.Station.sight l.states f
