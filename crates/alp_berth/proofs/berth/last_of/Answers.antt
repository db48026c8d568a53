use Rattle.alp_berth.proofs.EntryLemmas.{last_index}
use Rattle.alp_berth.proofs.berth.last_of.Goals as goal

pub returns-in-len1-up : goal.returns-in-len1-up
returns-in-len1-up c = last_index c.args.ranks.now
