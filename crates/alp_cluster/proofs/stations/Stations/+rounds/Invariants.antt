use Rattle.alp_cluster.proofs.stations.Stations.+rounds.Given as goal

abbrev pub decreases-rounds : goal.decreases-rounds
decreases-rounds g l = l.most
