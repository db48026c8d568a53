use Rattle.std.proofs.Common.{refl, subst}
use Rattle.alp_node.specs.DownStates.{DownState}
use Rattle.alp_node.specs.NodeStates.{NodeState}
use Rattle.alp_node.specs.Downs.{HasEntered, HasRestarted, IsStillDown}
use Rattle.alp_node.proofs.DownLemmas.{restarted_kept, has_restarted, still_fallen, still_down}
use Rattle.alp_node.proofs.down.Down.restart.Goals as goal

pub enter_epoch-requires-clause-number : goal.enter_epoch-requires-clause-number
enter_epoch-requires-clause-number g c = (c.self.invariant.number, c.self.invariant.all)

pub invariant_of-result : goal.invariant_of-result
invariant_of-result g c =
    let G = g.V.Vault in
    let d : DownState g.row.V.Denot = record { opening = c.self.inside.opening; vault = c.self.inside.vault; journal = c.self.inside.journal; server = c.self.inside.server; servers = c.self.inside.servers; epoch = c.self.inside.epoch } in
    let k = c.in-Ok.kept in
    let n : NodeState g.row.V.Denot = record { opening = c.self.inside.opening; kept = k; journal = c.enter_epoch.new.journal } in
    let e : HasEntered G d.server d.servers d.epoch d.vault d.journal n.journal k = c.in-Ok.ensures.epoch in
    restarted_kept G d n e.clock e.all c.self.invariant e.begun e.state refl e.journal c.knows-in-Ok.ensures.limits.area_least
    (λ told. c.knows-in-Ok.ensures.fitting (G.held k.vault) told (c.knows-in-Ok.ensures.as_held told e.begun.serving)) (λ told. c.knows-in-Ok.ensures.settled told e.begun.serving)

pub returns-in-Ok : goal.returns-in-Ok
returns-in-Ok g c =
    let G = g.V.Vault in
    let d : DownState g.row.V.Denot = record { opening = c.self.inside.opening; vault = c.self.inside.vault; journal = c.self.inside.journal; server = c.self.inside.server; servers = c.self.inside.servers; epoch = c.self.inside.epoch } in
    let k = c.in-Ok.kept in
    let n : NodeState g.row.V.Denot = record { opening = c.self.inside.opening; kept = k; journal = c.enter_epoch.new.journal } in
    let e : HasEntered G d.server d.servers d.epoch d.vault d.journal n.journal k = c.in-Ok.ensures.epoch in
    subst (λ (x : DownState g.row.V.Denot). HasRestarted G x n) c.self.view_is (has_restarted G d n e.clock e.all c.self.invariant e.begun e.state refl e.journal)

pub invariant_of-down : goal.invariant_of-down
invariant_of-down g c =
    let G = g.V.Vault in
    let d : DownState g.row.V.Denot = record { opening = c.self.inside.opening; vault = c.self.inside.vault; journal = c.self.inside.journal; server = c.self.inside.server; servers = c.self.inside.servers; epoch = c.self.inside.epoch } in
    still_fallen G d c.in-Err.vault c.enter_epoch.new.journal c.in-Err.fault c.in-Err.ensures.journal c.self.invariant c.in-Err.ensures.epoch

pub returns-in-Err : goal.returns-in-Err
returns-in-Err g c =
    let G = g.V.Vault in
    let d : DownState g.row.V.Denot = record { opening = c.self.inside.opening; vault = c.self.inside.vault; journal = c.self.inside.journal; server = c.self.inside.server; servers = c.self.inside.servers; epoch = c.self.inside.epoch } in
    subst (λ (x : DownState g.row.V.Denot). IsStillDown G x (record d { vault = c.in-Err.vault; journal = c.enter_epoch.new.journal }) c.in-Err.fault) c.self.view_is
    (still_down G d c.in-Err.vault c.enter_epoch.new.journal c.in-Err.fault c.in-Err.ensures.journal c.self.invariant c.in-Err.ensures.epoch c.in-Err.ensures.end)
