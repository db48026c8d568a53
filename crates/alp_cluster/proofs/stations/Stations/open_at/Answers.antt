use Rattle.alp_cluster.proofs.LoopLemmas.{stands_there}
use Rattle.alp_cluster.proofs.OpenLemmas.{finds_open}
use Rattle.alp_cluster.proofs.stations.Stations.open_at.Goals as goal

pub node-requires : goal.node-requires
node-requires g c = record { stands = stands_there g.V.Vault c.args.self.now c.requires.on c.args.server c.requires.server c.at.result.now c.at.ensures }

pub returns : goal.returns
returns g c =
    finds_open g.V.Vault c.args.self.now c.requires.on c.args.server c.requires.server c.at.result.now c.at.ensures c.node.result.now c.node.ensures.is c.open_part.result c.open_part.ensures
