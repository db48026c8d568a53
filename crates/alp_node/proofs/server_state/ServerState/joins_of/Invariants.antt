use Rattle.std.proofs.Common.{◌≡◌, ◌++◌, drop}
use Rattle.alp_coord.specs.Members.{joins}
use Rattle.alp_node.proofs.server_state.ServerState.joins_of.Given as goal

abbrev pub invariant-loop-member : goal.invariant-loop-member
invariant-loop-member g l = l.joins.items ++ joins (drop l.member-index l.members) ≡ joins l.members
