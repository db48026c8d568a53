use Rattle.alp_course.proofs.TakenLemmas.{taken_all}
use Rattle.alp_course.proofs.laws.settled_servers_have_all_messages.Goals as goal

pub returns : goal.returns
returns c r after xs settles course = taken_all r after xs settles course
