use Rattle.std.specs.Prelude.{map as list_map}
use Rattle.std.proofs.Common.{◌≡◌, ◌++◌, drop}
use Rattle.alp_node.specs.Found.{join_of}
use Rattle.alp_node.proofs.found.numbers_of.Given as goal

abbrev pub invariant-loop-part : goal.invariant-loop-part
invariant-loop-part l = l.numbers.items ++ list_map join_of (drop l.part-index l.parts) ≡ list_map join_of l.parts
