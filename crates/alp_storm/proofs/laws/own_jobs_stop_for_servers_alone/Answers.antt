use Rattle.alp_storm.proofs.CauseLemmas.{for_servers}
use Rattle.alp_storm.proofs.laws.own_jobs_stop_for_servers_alone.Goals as goal

pub returns : goal.returns
returns g c = for_servers g.S.Story.base g.S.Host.log
