use Rattle.alp_worker.proofs.MoveLemmas.{follows}
use Rattle.alp_worker.proofs.laws.joins_follow_the_journal.Goals as goal

pub returns : goal.returns
returns c s k d move h = follows s k h d move
