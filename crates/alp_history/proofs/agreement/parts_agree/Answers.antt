use Rattle.alp_history.proofs.Agreed.{agreement}
use Rattle.alp_history.proofs.agreement.parts_agree.Goals as goal

pub returns : goal.returns
returns c = agreement
