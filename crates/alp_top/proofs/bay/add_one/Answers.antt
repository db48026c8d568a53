use Rattle.std.specs.Prelude.{IsTrue, Option}
use Rattle.std.proofs.Common.{inr, ◌≡◌, ◌≤◌, ℕ, refl, sym, ◌∙◌, ap, subst, arith}
use Rattle.alp_script.specs.Accepted.{servers_said}
use Rattle.alp_script.specs.Volumes.{sizes_said}
use Rattle.alp_node.specs.NodeStates.{NodeState}
use Rattle.alp_store.specs.contracts.store.StoreVault.TheImpl as store_vault
use Rattle.alp_disk.specs.contracts.fuse.Fuse.{the_row}
use Rattle.alp_disk.specs.contracts.fuse.FuseDisk.TheImpl as fuse_disk
use Rattle.alp_top.specs.Volumes.{pages_of, IsWanting}
use Rattle.alp_top.proofs.BackLemmas.{wanting_back}
use Rattle.alp_top.proofs.RefusedLemmas.{err_of, told_of}
use Rattle.alp_top.proofs.bay.add_one.Goals as goal

pub give-requires-clause-server : goal.give-requires-clause-server
give-requires-clause-server g c κs lives =
    let most : servers_said c.args.lines.now ≤ 8 = c.requires.accepted.most in
    (c.requires.server.0, omega (arith, c.requires.server.1, c.requires.servers, most))

pub give-requires-clause-told : goal.give-requires-clause-told
give-requires-clause-told g c κs lives told =
    let F = fuse_disk.ghosts g.row.B-Device g.B.Device.Disk g.B.Device.Disk-dict g.B.Device.Destruct-dict in
    let V = store_vault.ghosts (the_row g.row.B-Device g.B.Device.Disk) F fuse_disk.no_dict fuse_disk.no_dict in
    let one = c.in_ok-node.ensures.begun in
    let at = ap (λ p. p.1) c.into_parts-vault.ensures ∙ ap (λ (n : NodeState _). n.kept.vault) c.in-Err.ensures.back in
    subst (λ v. IsTrue (V.tells v)) (sym at) (subst IsTrue (sym one.is.started.telling) (one.is.told (subst IsTrue c.in_ok-node.ensures.tells told)))

pub returns-in_err-node-clause-refused : goal.returns-in_err-node-clause-refused
returns-in_err-node-clause-refused g c = err_of _ _ c.from_residual.result c.from_residual.ensures.0 c.from_residual.ensures.1 c.in_err-node.ensures.refused

pub returns-in_err-node-clause-bay : goal.returns-in_err-node-clause-bay
returns-in_err-node-clause-bay g c = told_of _ _ _ c.from_residual.result c.from_residual.ensures.0 c.from_residual.ensures.1 c.in_err-node.ensures.bay

pub returns-in-Ok-clause-begun : goal.returns-in-Ok-clause-begun
returns-in-Ok-clause-begun g c = record { node = c.in_ok-node.node; begun = c.in_ok-node.ensures.begun; added = c.in-Ok.ensures.added }

pub returns-in-Err-clause-refused : goal.returns-in-Err-clause-refused
returns-in-Err-clause-refused g c =
    let h = g.B.Device.Disk in
    let F = fuse_disk.ghosts g.row.B-Device g.B.Device.Disk g.B.Device.Disk-dict g.B.Device.Destruct-dict in
    let V = store_vault.ghosts (the_row g.row.B-Device g.B.Device.Disk) F fuse_disk.no_dict fuse_disk.no_dict in
    let one = c.in_ok-node.ensures.begun in
    let n = c.in_ok-node.node in
    let at = ap (λ p. p.1) c.into_parts-vault.ensures ∙ ap (λ (m : NodeState _). m.kept.vault) c.in-Err.ensures.back in
    let placed = c.give.ensures.given in
    let back : IsTrue (g.B.Bay.tells c.args.bay.now) → IsWanting h (sizes_said c.args.lines.now c.args.server) c.args.server (servers_said c.args.lines.now) one.disk placed.device = (λ told.
    let its = one.is.told told in
    let tells : IsTrue (V.tells c.into_parts-vault.result.1) = subst (λ v. IsTrue (V.tells v)) (sym at) (subst IsTrue (sym one.is.started.telling) its) in
    let serves : IsTrue (V.serves c.into_parts-vault.result.1) = subst (λ v. IsTrue (V.serves v)) (sym at) (one.is.started.on.kept.ready.serving one.is.started.idle.up) in
    wanting_back V h (sizes_said c.args.lines.now c.args.server) c.args.server (servers_said c.args.lines.now) n c.into_parts-vault.result.1 one.disk placed.device one.is.started its at (c.knows.ensures.settled tells serves) placed.back) in
    record {
      refused = λ told. inr (record {
        taken = one.disk;
        from_there = one.is.was told;
        given = placed.device;
        there = (placed.filled (subst IsTrue (sym c.in_ok-node.ensures.tells) told)).here;
        size = placed.back.sized ∙ ap (λ v. pages_of (V.volume v)) at ∙ sym one.is.started.sized;
        later = (let now = placed.back.faults ∙ ap V.faults at ∙ one.is.started.faults in omega (arith, now));
        left = back told;
      });
      others = λ told k away. (placed.filled (subst IsTrue (sym c.in_ok-node.ensures.tells) told)).others k away ∙ one.others told k away;
      of_server = tt;
    }
