use Rattle.alp_course.proofs.LoneLemmas.{alone}
use Rattle.alp_course.proofs.laws.one_server_runs_alone.Goals as goal

pub returns : goal.returns
returns c r after xs s single course = alone r after xs s single course
