use Rattle.alp_cluster.proofs.StationLemmas.{last_index}
use Rattle.alp_cluster.proofs.station.last_of.Goals as goal

pub returns-in-len1-up : goal.returns-in-len1-up
returns-in-len1-up c = last_index c.args.ranks.now
