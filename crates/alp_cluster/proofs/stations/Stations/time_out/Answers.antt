use Rattle.std.proofs.Common.{refl}
use Rattle.alp_course.specs.Happens.{timed_out}
use Rattle.alp_cluster.proofs.DidLemmas.{gone_none}
use Rattle.alp_cluster.proofs.stations.Stations.time_out.Goals as goal

pub returns-in_default-clause-gone : goal.returns-in_default-clause-gone
returns-in_default-clause-gone g c = gone_none g.V.Vault (Unit {0}) c.args.self.now tt

pub happen-requires-clause-event : goal.happen-requires-clause-event
happen-requires-clause-event g c = (timed_out c.in-Some.trans, refl)
