use Rattle.alp_history.proofs.WrongLogs.{wrong}
use Rattle.alp_history.proofs.agreement.wrong_logs_are_refused.Goals as goal

pub returns : goal.returns
returns c = wrong
