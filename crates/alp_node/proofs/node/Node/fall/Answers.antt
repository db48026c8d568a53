use Rattle.alp_node.specs.NodeStates.{NodeState}
use Rattle.alp_node.proofs.DownLemmas.{fallen_as}
use Rattle.alp_node.proofs.node.Node.fall.Goals as goal

pub invariant_of-result : goal.invariant_of-result
invariant_of-result g c =
    let n : NodeState g.row.V.Denot = record { opening = c.self.inside.opening; kept = c.self.inside.kept; journal = c.self.inside.journal } in
    fallen_as g.V.Vault n c.power_off.result c.self.invariant c.power_off.ensures.kept c.power_off.ensures.left c.power_off.ensures.rests c.power_off.ensures.allowance
