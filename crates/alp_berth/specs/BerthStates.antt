-- A berth as contracts see it.
use Rattle.std.specs.Prelude.{ℕ, List}
use Rattle.alp_node.specs.NodeStates.{NodeState}
use Rattle.alp_berth.specs.declared.made.Made.{Made}

-- its server, the ranks of the server's entries, and what stood as it was made
pub record BerthState (V : Type 0) : Type 0 where
  pub node : NodeState V
  pub ranks : List ℕ
  pub made : Made V
