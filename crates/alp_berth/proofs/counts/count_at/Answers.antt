use Rattle.alp_berth.proofs.CountLemmas.{get_or_there}
use Rattle.alp_berth.proofs.counts.count_at.Goals as goal

pub returns : goal.returns
returns c = get_or_there c.args.counts.now c.args.at 0 c.requires
