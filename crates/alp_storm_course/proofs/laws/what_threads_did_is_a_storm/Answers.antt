use Rattle.alp_storm_course.proofs.JoinLemmas.{did_a_storm}
use Rattle.alp_storm_course.proofs.laws.what_threads_did_is_a_storm.Goals as goal

pub returns : goal.returns
returns g c = did_a_storm g.S.Story.base g.S.Story.entries g.S.Host.log g.S.Station.sight
