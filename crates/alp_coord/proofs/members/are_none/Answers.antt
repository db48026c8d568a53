use Rattle.std.proofs.Common.{◌∙◌}
use Rattle.alp_coord.proofs.MemberLemmas.{none-length}
use Rattle.alp_coord.proofs.members.are_none.Goals as goal

pub returns : goal.returns
returns c = c.is_empty.ensures ∙ none-length c.args.members.now
