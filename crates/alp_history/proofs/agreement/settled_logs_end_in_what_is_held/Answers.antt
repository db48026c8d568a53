use Rattle.alp_history.proofs.AtRest.{settling}
use Rattle.alp_history.proofs.agreement.settled_logs_end_in_what_is_held.Goals as goal

pub returns : goal.returns
returns c = settling
