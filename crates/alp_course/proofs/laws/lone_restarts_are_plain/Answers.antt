use Rattle.alp_course.proofs.PlainLemmas.{plain}
use Rattle.alp_course.proofs.laws.lone_restarts_are_plain.Goals as goal

pub returns : goal.returns
returns c = plain
