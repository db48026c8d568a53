use Rattle.alp_history.proofs.Wrong.{refused}
use Rattle.alp_history.proofs.agreement.wrong_journals_are_refused.Goals as goal

pub returns : goal.returns
returns c = refused
