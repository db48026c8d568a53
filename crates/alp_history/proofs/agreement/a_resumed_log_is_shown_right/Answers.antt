use Rattle.alp_history.proofs.ResumedProper.{shown}
use Rattle.alp_history.proofs.agreement.a_resumed_log_is_shown_right.Goals as goal

pub returns : goal.returns
returns c = shown
