use Rattle.alp_node.specs.NodeStates.{NodeState}
use Rattle.alp_node.proofs.StopLemmas.{stopped_kept}
use Rattle.alp_node.proofs.node.Node.stop_after.Goals as goal

pub invariant_of-self : goal.invariant_of-self
invariant_of-self g c =
    let old : NodeState g.row.V.Denot = record { opening = c.self.inside.opening; kept = c.self.inside.kept; journal = c.self.inside.journal } in
    stopped_kept g.V.Vault old c.stop_after.new.self c.self.invariant c.stop_after.ensures.kept c.stop_after.ensures.serves c.stop_after.ensures.held c.stop_after.ensures.crash
