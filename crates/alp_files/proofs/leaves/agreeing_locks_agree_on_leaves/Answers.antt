use Rattle.alp_files.proofs.HoldingLemmas.{agreement-of-leaves}
use Rattle.alp_files.proofs.leaves.agreeing_locks_agree_on_leaves.Goals as goal

pub returns : goal.returns
returns c = agreement-of-leaves
