use Rattle.alp_course.proofs.MidwayLemmas.{keeping}
use Rattle.alp_course.proofs.laws.runs_stay_midway.Goals as goal

pub returns : goal.returns
returns c = keeping
