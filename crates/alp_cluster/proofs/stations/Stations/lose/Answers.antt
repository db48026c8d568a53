use Rattle.std.proofs.Common.{sym, ◌∙◌}
use Rattle.alp_cluster.proofs.CarryLemmas.{lost}
use Rattle.alp_cluster.proofs.TakeLemmas.{gone_same, rank_is}
use Rattle.alp_cluster.proofs.stations.Stations.lose.Goals as goal

pub returns-clause-gone : goal.returns-clause-gone
returns-clause-gone g c = gone_same g.V.Vault (Unit {0}) c.args.self.now c.take.new.self tt c.take.ensures.all

pub returns-clause-did : goal.returns-clause-did
returns-clause-did g c =
    lost g.V.Vault c.args.self.now c.args.from c.args.to c.requires.apart c.take.new.self c.last_rank-seen.result c.take.ensures.on c.take.ensures.all
    (c.last_rank-seen.ensures ∙ sym (rank_is g.V.Vault c.args.self.now c.requires.on c.args.from c.requires.apart.sender c.at.result.now c.at.ensures)) c.take.ensures.taken
