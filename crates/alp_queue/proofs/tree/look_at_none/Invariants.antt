use Rattle.std.proofs.Common.{◌≡◌, ◌++◌, drop}
use Rattle.std.proofs.Common.{map as list_map}
use Rattle.alp_queue.specs.Rises.{unheld}
use Rattle.alp_queue.proofs.tree.look_at_none.Given as goal

abbrev pub invariant-loop-resource : goal.invariant-loop-resource
invariant-loop-resource l = l.found.items ++ list_map unheld (drop l.resource-index l.asked) ≡ l.fn.found.items ++ list_map unheld l.asked
