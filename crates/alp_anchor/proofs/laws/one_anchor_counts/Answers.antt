use Rattle.alp_anchor.proofs.Choices.{counts_once}
use Rattle.alp_anchor.proofs.laws.one_anchor_counts.Goals as goal

pub returns : goal.returns
returns c = counts_once
