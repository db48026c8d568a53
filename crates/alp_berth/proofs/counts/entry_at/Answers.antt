use Rattle.alp_berth.proofs.CountLemmas.{get_of_or}
use Rattle.alp_berth.proofs.counts.entry_at.Goals as goal

pub returns : goal.returns
returns c = get_of_or c.args.entries.now c.args.at c.index-entries-at.result c.requires c.index-entries-at.is
