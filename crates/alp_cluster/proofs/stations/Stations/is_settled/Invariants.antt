use Rattle.alp_cluster.proofs.OpenLemmas.{RestTo}
use Rattle.alp_cluster.proofs.stations.Stations.is_settled.Given as goal

abbrev pub invariant-loop-station : goal.invariant-loop-station
invariant-loop-station g l = RestTo g.V.Vault l.station-index l.self.all.items
