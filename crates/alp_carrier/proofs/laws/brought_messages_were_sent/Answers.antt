use Rattle.alp_carrier.proofs.ClaimLemmas.{brings_sent}
use Rattle.alp_carrier.proofs.laws.brought_messages_were_sent.Goals as goal

pub returns : goal.returns
returns g c = brings_sent g.S.Story.base g.S.Station.sight
