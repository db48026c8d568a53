use Rattle.std.specs.Prelude.{map as list_map}
use Rattle.std.proofs.Common.{◌≡◌, ◌++◌, drop}
use Rattle.alp_node.specs.Found.{ready_of}
use Rattle.alp_node.proofs.found.ready_joins.Given as goal

abbrev pub invariant-loop-part : goal.invariant-loop-part
invariant-loop-part l = l.joins.items ++ list_map ready_of (drop l.part-index l.parts) ≡ list_map ready_of l.parts
