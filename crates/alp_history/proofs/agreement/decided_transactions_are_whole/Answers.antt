use Rattle.alp_history.proofs.Wholes.{wholeness}
use Rattle.alp_history.proofs.agreement.decided_transactions_are_whole.Goals as goal

pub returns : goal.returns
returns c = wholeness
