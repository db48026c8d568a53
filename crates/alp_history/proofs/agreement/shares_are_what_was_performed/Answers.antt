use Rattle.alp_history.proofs.Shared.{sharing}
use Rattle.alp_history.proofs.agreement.shares_are_what_was_performed.Goals as goal

pub returns : goal.returns
returns c = sharing
