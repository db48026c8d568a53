use Rattle.alp_merge.proofs.ClosedLemmas.{storms}
use Rattle.alp_merge.proofs.laws.storms_are_courses.Goals as goal

pub returns : goal.returns
returns c = storms
