use Rattle.std.proofs.Common.{◌≡◌, ◌++◌}
use Rattle.alp_node.proofs.blocks.keys_in.Given as goal

abbrev pub invariant-loop-key : goal.invariant-loop-key
invariant-loop-key l = l.list.items ++ l.key-iterator ≡ l.keys.keys
