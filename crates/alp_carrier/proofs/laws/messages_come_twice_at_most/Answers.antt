use Rattle.alp_carrier.proofs.ClaimLemmas.{brings_twice}
use Rattle.alp_carrier.proofs.laws.messages_come_twice_at_most.Goals as goal

pub returns : goal.returns
returns g c = brings_twice g.S.Story.base g.S.Station.sight
