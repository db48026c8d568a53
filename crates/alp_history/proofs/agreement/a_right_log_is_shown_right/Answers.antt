use Rattle.alp_history.proofs.RightProper.{proper}
use Rattle.alp_history.proofs.RightClients.{clients, kept}
use Rattle.alp_history.proofs.RightHistory.{written}
use Rattle.alp_history.proofs.agreement.a_right_log_is_shown_right.Goals as goal

pub returns : goal.returns
returns c = record { proper = proper; clients = clients; promises = kept; history = written }
