use Rattle.alp_history.proofs.RightJournals.{lawful}
use Rattle.alp_history.proofs.agreement.right_journals_are_lawful.Goals as goal

pub returns : goal.returns
returns c = lawful
