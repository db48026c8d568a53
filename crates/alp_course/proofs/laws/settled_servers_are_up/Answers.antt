use Rattle.alp_course.proofs.UpLemmas.{lifting_up}
use Rattle.alp_course.proofs.laws.settled_servers_are_up.Goals as goal

pub returns : goal.returns
returns c r after xs settles course = lifting_up r after xs settles course
