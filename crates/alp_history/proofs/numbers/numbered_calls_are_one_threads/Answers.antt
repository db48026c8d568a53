use Rattle.alp_history.proofs.OneThread.{numbering}
use Rattle.alp_history.proofs.numbers.numbered_calls_are_one_threads.Goals as goal

pub returns : goal.returns
returns c = numbering
