use Rattle.std.specs.Prelude.{IsTrue, Some}
use Rattle.std.proofs.Common.{◌≡◌, ◌≤◌, ℕ, refl, sym, ◌∙◌, ap, subst, arith}
use Rattle.alp_disk.specs.contracts.fuse.Fuse.{the_row}
use Rattle.alp_disk.specs.contracts.fuse.FuseDisk.TheImpl as fuse_disk
use Rattle.alp_store.specs.contracts.store.StoreVault.TheImpl as store_vault
use Rattle.alp_base.specs.declared.allowance.Allowance.TheVariants.{Free}
use Rattle.alp_cluster.specs.Servers.{IsOn}
use Rattle.alp_cluster.specs.Station.{HasVault}
use Rattle.alp_cluster.specs.declared.server.Server.TheVariants.{Up}
use Rattle.alp_top.specs.Disks.{IsElsewhere, GoesOn}
use Rattle.alp_top.proofs.CloseOneLemmas.{closed_over, closed_now, goes_now, station_put}
use Rattle.alp_top.proofs.GivenLemmas.{up_vault}
use Rattle.alp_top.proofs.PlayedOutLemmas.{some_same}
use Rattle.alp_top.proofs.SeveralLemmas.{one_node}
use Rattle.alp_top.proofs.bay.close_one.Goals as goal

-- ---- a fault came before

pub vault_of-requires : goal.vault_of-requires
vault_of-requires g c = (let rest = c.requires.at_rest in record { stands = (rest.node.kept.vault, subst (λ o. HasVault o rest.node.kept.vault) (sym rest.stands) refl) })

pub give-requires-clause-told : goal.give-requires-clause-told
give-requires-clause-told g c κs lives told =
    let G = store_vault.ghosts (the_row g.row.B-Device g.B.Device.Disk) (fuse_disk.ghosts g.row.B-Device g.B.Device.Disk g.B.Device.Disk-dict g.B.Device.Destruct-dict) fuse_disk.no_dict fuse_disk.no_dict in
    let rest = c.requires.at_rest in
    subst (λ v. IsTrue (G.tells v)) (sym (up_vault c.args.station.server rest.node c.vault_of.result rest.stands c.vault_of.ensures.vault)) (rest.told told)

pub returns-in-Err-clause-closed : goal.returns-in-Err-clause-closed
returns-in-Err-clause-closed g c servers most away =
    closed_over _ g.B.Device.Disk (g.B.Bay.tells c.args.bay.now) servers c.args.server (g.B.Bay.at c.args.bay.now) (g.B.Bay.at c.give.new.bay) c.args.station c.requires.at_rest c.in-Err.fault c.vault_of.result c.vault_of.ensures.vault c.give.ensures.given
    (subst (λ e. IsElsewhere servers c.args.server e) c.in-Err.is away)

-- ---- the server is up

pub into_parts-up-requires : goal.into_parts-up-requires
into_parts-up-requires g c = (let rest = c.requires.at_rest in record { there = (rest.node.kept.vault, subst (λ o. HasVault o rest.node.kept.vault) (sym rest.stands) refl) })

pub unreachable-requires : goal.unreachable-requires
unreachable-requires g c = (let rest = c.requires.at_rest in c.in_default-up.not-Up rest.node (some_same c.into_parts-up.result.0 (Up rest.node) (sym c.into_parts-up.ensures.server ∙ rest.stands)))

pub end_node-vault-requires-clause-on : goal.end_node-vault-requires-clause-on
end_node-vault-requires-clause-on g c =
    let G = store_vault.ghosts (the_row g.row.B-Device g.B.Device.Disk) (fuse_disk.ghosts g.row.B-Device g.B.Device.Disk g.B.Device.Disk-dict g.B.Device.Destruct-dict) fuse_disk.no_dict fuse_disk.no_dict in
    let rest = c.requires.at_rest in
    subst (λ n. IsOn G n) (one_node c.args.station.server rest.node c.in-Up.node rest.stands (c.into_parts-up.ensures.server ∙ ap (λ s. Some s) c.in-Up.is)) rest.on

pub end_node-vault-requires-clause-up : goal.end_node-vault-requires-clause-up
end_node-vault-requires-clause-up g c =
    let rest = c.requires.at_rest in
    sym (ap (λ n. n.kept.is_down) (one_node c.args.station.server rest.node c.in-Up.node rest.stands (c.into_parts-up.ensures.server ∙ ap (λ s. Some s) c.in-Up.is))) ∙ rest.up

pub end_node-vault-requires-clause-free : goal.end_node-vault-requires-clause-free
end_node-vault-requires-clause-free g c =
    let G = store_vault.ghosts (the_row g.row.B-Device g.B.Device.Disk) (fuse_disk.ghosts g.row.B-Device g.B.Device.Disk g.B.Device.Disk-dict g.B.Device.Destruct-dict) fuse_disk.no_dict fuse_disk.no_dict in
    let rest = c.requires.at_rest in
    subst (λ n. G.allowance n.kept.vault ≡ Free) (one_node c.args.station.server rest.node c.in-Up.node rest.stands (c.into_parts-up.ensures.server ∙ ap (λ s. Some s) c.in-Up.is)) rest.free

pub give-requires-2-clause-told : goal.give-requires-2-clause-told
give-requires-2-clause-told g c κs lives told =
    let G = store_vault.ghosts (the_row g.row.B-Device g.B.Device.Disk) (fuse_disk.ghosts g.row.B-Device g.B.Device.Disk g.B.Device.Disk-dict g.B.Device.Destruct-dict) fuse_disk.no_dict fuse_disk.no_dict in
    let rest = c.requires.at_rest in
    subst IsTrue (sym c.end_node-vault.ensures.gone.same.telling)
    (subst (λ n. IsTrue (G.tells n.kept.vault)) (one_node c.args.station.server rest.node c.in-Up.node rest.stands (c.into_parts-up.ensures.server ∙ ap (λ s. Some s) c.in-Up.is)) (rest.told told))

pub returns-clause-closed : goal.returns-clause-closed
returns-clause-closed g c servers most away =
    let stands = c.into_parts-up.ensures.server ∙ ap (λ s. Some s) c.in-Up.is in
    closed_now _ g.B.Device.Disk (g.B.Bay.tells c.args.bay.now) servers c.args.server (g.B.Bay.at c.args.bay.now) (g.B.Bay.at c.give-2.new.bay) c.args.station c.requires.at_rest c.in-Up.node c.end_node-vault.result.0 c.end_node-vault.result.1 stands
    c.end_node-vault.ensures.gone c.end_node-vault.ensures.looked c.requires.server.0 most c.give-2.ensures.given

pub returns-clause-goes : goal.returns-clause-goes
returns-clause-goes g c servers most =
    let G = store_vault.ghosts (the_row g.row.B-Device g.B.Device.Disk) (fuse_disk.ghosts g.row.B-Device g.B.Device.Disk g.B.Device.Disk-dict g.B.Device.Destruct-dict) fuse_disk.no_dict fuse_disk.no_dict in
    let stands = c.into_parts-up.ensures.server ∙ ap (λ s. Some s) c.in-Up.is in
    subst (λ e. GoesOn servers c.args.server e c.end_node-vault.result.1) (sym c.in_default.is)
    (goes_now G g.B.Device.Disk (g.B.Bay.tells c.args.bay.now) servers c.args.server (g.B.Bay.at c.args.bay.now) (g.B.Bay.at c.give-2.new.bay) c.args.station c.requires.at_rest c.in-Up.node c.end_node-vault.result.0 c.end_node-vault.result.1 stands
    c.end_node-vault.ensures.gone c.end_node-vault.ensures.looked c.in_default.field-0 c.requires.server.0 most)

pub returns-clause-looks : goal.returns-clause-looks
returns-clause-looks g c = c.end_node-vault.ensures.looked.ends

pub returns-clause-rest : goal.returns-clause-rest
returns-clause-rest g c =
    station_put _ c.args.station c.in-Up.node c.end_node-vault.result.1 c.args.rests.now c.end_node-vault.new.rests c.into_parts-up.result.1.items (c.into_parts-up.ensures.server ∙ ap (λ s. Some s) c.in-Up.is) (ap (λ v. v.items) c.into_parts-up.ensures.ranks) c.end_node-vault.ensures.rest
