use Rattle.std.specs.Prelude.{map as list_map}
use Rattle.std.proofs.Common.{◌≡◌, ◌++◌, drop}
use Rattle.alp_node.specs.Noted.{size_in}
use Rattle.alp_node.proofs.server_state.ServerState.ready_sum.Given as goal

abbrev pub invariant-loop-trans : goal.invariant-loop-trans
invariant-loop-trans g l = l.sizes.items ++ list_map (size_in l.self.lives) (drop l.trans-index l.trans-items) ≡ list_map (size_in l.self.lives) l.trans-items
