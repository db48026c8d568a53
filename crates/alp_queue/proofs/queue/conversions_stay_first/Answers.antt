use Rattle.alp_queue.proofs.FirstLemmas.{stays-first}
use Rattle.alp_queue.proofs.queue.conversions_stay_first.Goals as goal

pub returns : goal.returns
returns c = stays-first
