use Rattle.alp_merge.proofs.StormLemmas.{threads_storm}
use Rattle.alp_merge.proofs.laws.threads_make_a_storm.Goals as goal

pub returns : goal.returns
returns g c = threads_storm g.S.Station.sight
