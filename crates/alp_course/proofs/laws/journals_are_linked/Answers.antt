use Rattle.alp_course.proofs.LinkLemmas.{linking}
use Rattle.alp_course.proofs.laws.journals_are_linked.Goals as goal

pub returns : goal.returns
returns c r after xs handed first course = linking r after xs handed first course
