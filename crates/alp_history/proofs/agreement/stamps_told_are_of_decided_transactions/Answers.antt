use Rattle.alp_history.proofs.Tells.{tellings}
use Rattle.alp_history.proofs.agreement.stamps_told_are_of_decided_transactions.Goals as goal

pub returns : goal.returns
returns c = tellings
