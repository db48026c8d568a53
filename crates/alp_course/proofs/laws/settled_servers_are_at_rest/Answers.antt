use Rattle.alp_course.proofs.RestingLemmas.{resting}
use Rattle.alp_course.proofs.laws.settled_servers_are_at_rest.Goals as goal

pub returns : goal.returns
returns c = resting
