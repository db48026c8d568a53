use Rattle.std.specs.Prelude.{Bool, Option, IsTrue}
use Rattle.std.proofs.Common.{rules, ◌≡◌, ◌≤◌, ◌<◌, ◌+◌, ℕ, List, length, length-append, refl, sym, ◌∙◌, ap, subst, arith}
use Rattle.alp_disk.specs.contracts.fuse.Fuse.{the_row}
use Rattle.alp_disk.specs.contracts.fuse.FuseDisk.TheImpl as fuse_disk
use Rattle.alp_store.specs.contracts.store.StoreVault.TheImpl as store_vault
use Rattle.alp_cluster.specs.declared.station.Station.{Station}
use Rattle.alp_top.specs.Disks.{AreHeld, IsHeld, IsGivenAt}
use Rattle.alp_top.proofs.GivenLemmas.{one_vault}
use Rattle.alp_top.proofs.LeaveLemmas.{held_last, leaving_none, leaving_more, all_left}
use Rattle.alp_top.proofs.bay.leave_all.Goals as goal

pub loop-station-init : goal.loop-station-init
loop-station-init g c = record {
  going = leaving_none _ g.B.Device.Disk (g.B.Bay.tells c.args.bay.now) c.args.stations.items (g.B.Bay.at c.args.bay.now) c.requires.held;
  few = c.requires.few;
  tells = refl;
  chosen = refl;
  faults = refl;
}

pub overflow_cast-server : goal.overflow_cast-server
overflow_cast-server g c =
    let long : length c.loop-station.stations.items ≡ length c.pop.new.self.items + 1 = ap length c.in-Some.ensures.items ∙ length-append c.pop.new.self.items _ in
    omega (arith, c.len.ensures, long, c.loop-station.invariant.few)

pub overflow_add-server : goal.overflow_add-server
overflow_add-server g c =
    let long : length c.loop-station.stations.items ≡ length c.pop.new.self.items + 1 = ap length c.in-Some.ensures.items ∙ length-append c.pop.new.self.items _ in
    omega (arith, c.len.ensures, long, c.loop-station.invariant.few)

pub vault_of-requires : goal.vault_of-requires
vault_of-requires g c =
    let G = store_vault.ghosts (the_row g.row.B-Device g.B.Device.Disk) (fuse_disk.ghosts g.row.B-Device g.B.Device.Disk g.B.Device.Disk-dict g.B.Device.Destruct-dict) fuse_disk.no_dict fuse_disk.no_dict in
    let one : IsHeld G (g.B.Bay.tells c.args.bay.now) c.in-Some.station = (held_last G (g.B.Bay.tells c.args.bay.now) c.pop.new.self.items c.in-Some.station (subst (AreHeld G (g.B.Bay.tells c.args.bay.now)) c.in-Some.ensures.items c.loop-station.invariant.going.held)).1 in
    record { stands = (one.vault, one.its) }

pub give-requires-clause-server : goal.give-requires-clause-server
give-requires-clause-server g c κs lives =
    let long : length c.loop-station.stations.items ≡ length c.pop.new.self.items + 1 = ap length c.in-Some.ensures.items ∙ length-append c.pop.new.self.items _ in
    (omega arith, omega (arith, c.len.ensures, long, c.loop-station.invariant.few))

pub give-requires-clause-told : goal.give-requires-clause-told
give-requires-clause-told g c κs lives told =
    let G = store_vault.ghosts (the_row g.row.B-Device g.B.Device.Disk) (fuse_disk.ghosts g.row.B-Device g.B.Device.Disk g.B.Device.Disk-dict g.B.Device.Destruct-dict) fuse_disk.no_dict fuse_disk.no_dict in
    let one : IsHeld G (g.B.Bay.tells c.args.bay.now) c.in-Some.station = (held_last G (g.B.Bay.tells c.args.bay.now) c.pop.new.self.items c.in-Some.station (subst (AreHeld G (g.B.Bay.tells c.args.bay.now)) c.in-Some.ensures.items c.loop-station.invariant.going.held)).1 in
    subst (λ v. IsTrue (G.tells v)) (one_vault c.in-Some.station.server one.vault c.vault_of.result one.its c.vault_of.ensures.vault) (one.told (subst IsTrue c.loop-station.invariant.tells told))

pub loop-station-preserved : goal.loop-station-preserved
loop-station-preserved g c =
    let G = store_vault.ghosts (the_row g.row.B-Device g.B.Device.Disk) (fuse_disk.ghosts g.row.B-Device g.B.Device.Disk g.B.Device.Disk-dict g.B.Device.Destruct-dict) fuse_disk.no_dict fuse_disk.no_dict in
    let h = g.B.Device.Disk in
    let tells : Bool = g.B.Bay.tells c.args.bay.now in
    let was : ℕ → Option g.row.B-Device.Denot = g.B.Bay.at c.loop-station.bay in
    let now : ℕ → Option g.row.B-Device.Denot = g.B.Bay.at c.give.new.bay in
    let long : length c.loop-station.stations.items ≡ length c.pop.new.self.items + 1 = ap length c.in-Some.ensures.items ∙ length-append c.pop.new.self.items _ in
    let place : c.len.result + 1 ≡ length c.pop.new.self.items + 1 = omega (arith, c.len.ensures) in
    record {
      going =
          leaving_more G h tells c.args.stations.items (g.B.Bay.at c.args.bay.now) c.loop-station.stations.items c.pop.new.self.items c.in-Some.station c.vault_of.result was now c.loop-station.invariant.going c.in-Some.ensures.items c.vault_of.ensures.vault c.vault_of.ensures.known
          (subst (λ (k : ℕ). IsGivenAt G h tells was now k c.vault_of.result) place (subst (λ (b : Bool). IsGivenAt G h b was now (c.len.result + 1) c.vault_of.result) c.loop-station.invariant.tells c.give.ensures.given));
      few = omega (arith, long, c.loop-station.invariant.few);
      tells = c.give.ensures.tells ∙ c.loop-station.invariant.tells;
      chosen = c.give.ensures.chosen ∙ c.loop-station.invariant.chosen;
      faults = c.give.ensures.faults ∙ c.loop-station.invariant.faults;
    }

pub returns-clause-left : goal.returns-clause-left
returns-clause-left g c =
    all_left _ g.B.Device.Disk (g.B.Bay.tells c.args.bay.now) c.args.stations.items (g.B.Bay.at c.args.bay.now) c.loop-station.stations.items (g.B.Bay.at c.loop-station.bay) c.loop-station.invariant.going
    (search rules)

pub returns-clause-tells : goal.returns-clause-tells
returns-clause-tells g c = c.loop-station.invariant.tells

pub returns-clause-chosen : goal.returns-clause-chosen
returns-clause-chosen g c = c.loop-station.invariant.chosen

pub returns-clause-faults : goal.returns-clause-faults
returns-clause-faults g c = c.loop-station.invariant.faults
