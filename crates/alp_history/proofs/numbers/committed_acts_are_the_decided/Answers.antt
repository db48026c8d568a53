use Rattle.alp_history.proofs.CommittedActs.{commits}
use Rattle.alp_history.proofs.numbers.committed_acts_are_the_decided.Goals as goal

pub returns : goal.returns
returns c = commits
