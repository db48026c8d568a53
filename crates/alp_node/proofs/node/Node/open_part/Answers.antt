use Rattle.std.specs.Prelude.{IsTrue, Option}
use Rattle.std.proofs.Common.{sym, subst}
use Rattle.alp_base.specs.declared.ids.TransId.{TransId}
use Rattle.alp_node.specs.NodeStates.{NodeState}
use Rattle.alp_node.specs.Nodes.{start_in, state_of}
use Rattle.alp_node.specs.Opens.{IsLeastOpen}
use Rattle.alp_node.proofs.LeastOpens.{open_said}
use Rattle.alp_node.proofs.node.Node.open_part.Goals as goal

pub returns : goal.returns
returns g c =
    let G = g.V.Vault in
    let n : NodeState g.row.V.Denot = record { opening = c.self.inside.opening; kept = c.self.inside.kept; journal = c.self.inside.journal } in
    subst (λ (m : NodeState g.row.V.Denot). IsTrue (G.tells m.kept.vault) → IsLeastOpen (state_of (start_in G m) m.journal) c.lesser.result) c.self.view_is
    (λ told. subst (λ (x : Option TransId). IsLeastOpen (state_of (start_in G n) n.journal) x) (sym c.lesser.ensures)
    (open_said G n c.least_running-own.result c.least_open.result c.self.invariant c.least_running-own.ensures c.least_open.ensures.same told))
