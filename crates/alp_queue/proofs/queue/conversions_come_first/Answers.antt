use Rattle.alp_queue.proofs.LineLemmas.{by-arrival}
use Rattle.alp_queue.proofs.queue.conversions_come_first.Goals as goal

pub returns : goal.returns
returns c = by-arrival
