use Rattle.alp_merge.proofs.CarriedLemmas.{carriers}
use Rattle.alp_merge.proofs.laws.carriers_take_turns.Goals as goal

pub returns : goal.returns
returns g c = carriers g.S.Story.base g.S.Station.sight
