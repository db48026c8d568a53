use Rattle.alp_history.proofs.Promises.{promises}
use Rattle.alp_history.proofs.agreement.promises_are_kept.Goals as goal

pub returns : goal.returns
returns c = promises
