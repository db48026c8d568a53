use Rattle.std.specs.Prelude.{map as list_map}
use Rattle.std.proofs.Common.{◌≡◌, ◌++◌, drop}
use Rattle.alp_node.specs.Found.{stamp_of}
use Rattle.alp_node.proofs.found.stamps_of.Given as goal

abbrev pub invariant-loop-decision : goal.invariant-loop-decision
invariant-loop-decision l = l.stamps.items ++ list_map stamp_of (drop l.decision-index l.decisions) ≡ list_map stamp_of l.decisions
