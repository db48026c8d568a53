use Rattle.alp_regain.proofs.ChargeLemmas.{charges_follow}
use Rattle.alp_regain.proofs.laws.charges_follow_leaders.Goals as goal

pub returns : goal.returns
returns c = λ i m files fit. charges_follow i m files.kinds fit
