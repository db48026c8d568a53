use Rattle.std.specs.Prelude.{Bool, Option}
use Rattle.std.proofs.Common.{rules, ◌≡◌, ◌≤◌, ◌<◌, ◌+◌, ℕ, length, length-append, refl, sym, ◌∙◌, ap, subst, arith}
use Rattle.alp_disk.specs.contracts.fuse.Fuse.{the_row}
use Rattle.alp_disk.specs.contracts.fuse.FuseDisk.TheImpl as fuse_disk
use Rattle.alp_store.specs.contracts.store.StoreVault.TheImpl as store_vault
use Rattle.alp_top.specs.Looks.{OnlyLooks}
use Rattle.alp_top.specs.Disks.{IsAtRest, AreAtRest, IsElsewhere, IsClosedHere, GoesOn}
use Rattle.alp_top.proofs.CloseLemmas.{rest_last, closing_none, closing_more, closed_ok, closed_err, all_kept}
use Rattle.alp_top.proofs.bay.close_all.Goals as goal

pub loop-station-init : goal.loop-station-init
loop-station-init g c = record {
  going = closing_none _ g.B.Device.Disk (g.B.Bay.tells c.args.bay.now) c.args.stations.items (g.B.Bay.at c.args.bay.now) _ c.new-rests.result c.requires.at_rest c.new-rests.ensures;
  looks = tt;
  few = c.requires.few;
  tells = refl;
  chosen = refl;
  faults = refl;
}

pub overflow_cast-server : goal.overflow_cast-server
overflow_cast-server g c =
    let long : length c.loop-station.stations.items ≡ length c.pop.new.self.items + 1 = ap length c.in-Some.ensures.items ∙ length-append c.pop.new.self.items _ in
    omega (arith, c.len.ensures, long, c.loop-station.invariant.few)

pub overflow_add-server : goal.overflow_add-server
overflow_add-server g c =
    let long : length c.loop-station.stations.items ≡ length c.pop.new.self.items + 1 = ap length c.in-Some.ensures.items ∙ length-append c.pop.new.self.items _ in
    omega (arith, c.len.ensures, long, c.loop-station.invariant.few)

pub close_one-ended-requires-clause-server : goal.close_one-ended-requires-clause-server
close_one-ended-requires-clause-server g c κs lives =
    let long : length c.loop-station.stations.items ≡ length c.pop.new.self.items + 1 = ap length c.in-Some.ensures.items ∙ length-append c.pop.new.self.items _ in
    (omega arith, omega (arith, c.len.ensures, long, c.loop-station.invariant.few))

pub close_one-ended-requires-clause-at_rest : goal.close_one-ended-requires-clause-at_rest
close_one-ended-requires-clause-at_rest g c κs lives =
    let G = store_vault.ghosts (the_row g.row.B-Device g.B.Device.Disk) (fuse_disk.ghosts g.row.B-Device g.B.Device.Disk g.B.Device.Disk-dict g.B.Device.Destruct-dict) fuse_disk.no_dict fuse_disk.no_dict in
    let tells : Bool = g.B.Bay.tells c.args.bay.now in
    let rest : IsAtRest G tells (1 + length c.pop.new.self.items) c.in-Some.station = (rest_last G tells 1 c.pop.new.self.items c.in-Some.station (subst (AreAtRest G tells 1) c.in-Some.ensures.items c.loop-station.invariant.going.ready)).1 in
    let place : 1 + length c.pop.new.self.items ≡ c.len.result + 1 = omega (arith, c.len.ensures) in
    subst (λ (b : Bool). IsAtRest G b (c.len.result + 1) c.in-Some.station) (sym c.loop-station.invariant.tells) (subst (λ (k : ℕ). IsAtRest G tells k c.in-Some.station) place rest)

pub close_one-ended-requires-clause-looks : goal.close_one-ended-requires-clause-looks
close_one-ended-requires-clause-looks g c κs lives = c.loop-station.invariant.looks

pub loop-station-preserved : goal.loop-station-preserved
loop-station-preserved g c =
    let G = store_vault.ghosts (the_row g.row.B-Device g.B.Device.Disk) (fuse_disk.ghosts g.row.B-Device g.B.Device.Disk g.B.Device.Disk-dict g.B.Device.Destruct-dict) fuse_disk.no_dict fuse_disk.no_dict in
    let h = g.B.Device.Disk in
    let tells : Bool = g.B.Bay.tells c.args.bay.now in
    let was : ℕ → Option g.row.B-Device.Denot = g.B.Bay.at c.loop-station.bay in
    let now : ℕ → Option g.row.B-Device.Denot = g.B.Bay.at c.close_one-ended.new.bay in
    let many : ℕ = length c.args.stations.items in
    let long : length c.loop-station.stations.items ≡ length c.pop.new.self.items + 1 = ap length c.in-Some.ensures.items ∙ length-append c.pop.new.self.items _ in
    let place : c.len.result + 1 ≡ length c.pop.new.self.items + 1 = omega (arith, c.len.ensures) in
    record {
      going =
          closing_more G h tells c.args.stations.items (g.B.Bay.at c.args.bay.now) c.loop-station.stations.items c.pop.new.self.items c.in-Some.station was now c.loop-station.ended c.close_one-ended.result c.loop-station.rests c.close_one-ended.new.rests
          c.loop-station.invariant.going c.in-Some.ensures.items
          (λ most away.
          subst (λ (k : ℕ). IsClosedHere G h tells many was now c.close_one-ended.result k c.in-Some.station) place
          (subst (λ (b : Bool). IsClosedHere G h b many was now c.close_one-ended.result (c.len.result + 1) c.in-Some.station) c.loop-station.invariant.tells
          (c.close_one-ended.ensures.closed many (omega (arith, most, place)) (subst (λ (k : ℕ). IsElsewhere many k c.loop-station.ended) (sym place) away))))
          (λ most. subst (λ (k : ℕ). GoesOn many k c.loop-station.ended c.close_one-ended.result) place (c.close_one-ended.ensures.goes many (omega (arith, most, place)))) c.close_one-ended.ensures.rest;
      looks = c.close_one-ended.ensures.looks;
      few = omega (arith, long, c.loop-station.invariant.few);
      tells = c.close_one-ended.ensures.tells ∙ c.loop-station.invariant.tells;
      chosen = c.close_one-ended.ensures.chosen ∙ c.loop-station.invariant.chosen;
      faults = c.close_one-ended.ensures.faults ∙ c.loop-station.invariant.faults;
    }

pub returns-in-Ok-clause-closed : goal.returns-in-Ok-clause-closed
returns-in-Ok-clause-closed g c = closed_ok _ g.B.Device.Disk (g.B.Bay.tells c.args.bay.now) c.args.stations.items (g.B.Bay.at c.args.bay.now) c.loop-station.stations.items (g.B.Bay.at c.loop-station.bay) c.loop-station.ended c.in-Ok.field-0 c.loop-station.rests c.loop-station.rests c.loop-station.invariant.going (search rules) c.in-Ok.is

pub returns-clause-closed : goal.returns-clause-closed
returns-clause-closed g c = closed_err _ g.B.Device.Disk (g.B.Bay.tells c.args.bay.now) c.args.stations.items (g.B.Bay.at c.args.bay.now) c.loop-station.stations.items (g.B.Bay.at c.loop-station.bay) c.loop-station.ended c.in-Err.fault c.loop-station.rests c.loop-station.invariant.going (search rules) c.in-Err.is

pub returns-in-Ok-clause-rests : goal.returns-in-Ok-clause-rests
returns-in-Ok-clause-rests g c = all_kept _ g.B.Device.Disk (g.B.Bay.tells c.args.bay.now) c.args.stations.items (g.B.Bay.at c.args.bay.now) c.loop-station.stations.items (g.B.Bay.at c.loop-station.bay) c.loop-station.ended c.in-Ok.field-0 c.loop-station.rests c.loop-station.invariant.going (search rules) c.in-Ok.is

pub returns-clause-looks : goal.returns-clause-looks
returns-clause-looks g c = subst (λ r. OnlyLooks r) c.in-Err.is c.loop-station.invariant.looks
