use Rattle.std.proofs.lemmas.Result.{on_ok_weaker}
use Rattle.alp_cluster.proofs.RunLemmas.{settled_down}
use Rattle.alp_cluster.proofs.cluster.Cluster.settle.Goals as goal

pub returns-clause-rest : goal.returns-clause-rest
returns-clause-rest g c = on_ok_weaker c.settle.result (λ d. settled_down g.V.Vault c.args.self.now.parties.stations c.settle.new.self d) c.settle.ensures.did
