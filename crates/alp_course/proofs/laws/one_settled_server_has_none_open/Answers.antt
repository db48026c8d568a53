use Rattle.alp_course.proofs.ClosedLemmas.{settled_closed}
use Rattle.alp_course.proofs.laws.one_settled_server_has_none_open.Goals as goal

pub returns : goal.returns
returns c = settled_closed
