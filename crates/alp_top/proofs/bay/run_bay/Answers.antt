use Rattle.std.specs.Prelude.{Bool, IsTrue, Option, Err}
use Rattle.std.specs.Option.{option_map}
use Rattle.std.proofs.Common.{inl, inr, ◌≡◌, ◌≤◌, ℕ, length, sym, ◌∙◌, ap, subst, arith}
use Rattle.alp_disk.specs.contracts.fuse.Fuse.{the_row}
use Rattle.alp_disk.specs.contracts.fuse.FuseDisk.TheImpl as fuse_disk
use Rattle.alp_store.specs.contracts.store.StoreVault.TheImpl as store_vault
use Rattle.alp_script.specs.Accepted.{servers_said}
use Rattle.alp_top.specs.Disks.{HaveBegun}
use Rattle.alp_top.specs.Faults.{played}
use Rattle.alp_top.specs.Limits.{IsEndTold}
use Rattle.alp_top.specs.Endings.{shown_text}
use Rattle.alp_top.specs.Besides.{IsRunOf}
use Rattle.alp_top.specs.Volumes.{HasRunCause, IsOfServers, IsBayFault}
use Rattle.alp_top.specs.declared.fault.NoReport.TheVariants as fault
use Rattle.alp_top.proofs.EndedLemmas.{bay_unended, start_unended}
use Rattle.alp_top.proofs.GivenLemmas.{bay_ended, start_ended}
use Rattle.alp_top.proofs.RefusedLemmas.{err_of, told_of, untaken, bay_counted, bay_folder, folder_taken}
use Rattle.alp_top.proofs.RunLemmas.{bay_uncounted, play_still, start_counted, begins_new, close_unended, fell_few, fell_held, fell_counted, fell_told, fell_ended, rest_few, rest_all, close_counted, close_ended, wanting_ended, went_well, went_through, some_held, some_few, cause_moved, left_moved, closed_moved, held_moved, rest_moved, rests_moved, report_moved}
use Rattle.alp_top.proofs.bay.run_bay.Goals as goal

-- ---- the bay has no such folder

pub returns-in_err-choose-clause-cause : goal.returns-in_err-choose-clause-cause
returns-in_err-choose-clause-cause g c asked =
    err_of _ _ c.from_residual.result c.from_residual.ensures.0 c.from_residual.ensures.1
    (bay_ended g.B.Device.Disk c.args.lines.now (g.B.Bay.at c.args.bay.now) (g.B.Bay.at c.choose.new.self) c.in_err-choose.field-0.0 _ _ c.requires.accepted.least (λ n. ap (λ (places : ℕ → Option g.row.B-Device.Denot). places n) c.choose.ensures.places) (untaken _ _ c.in_err-choose.field-0.0 c.in_err-choose.ensures.cause))

pub returns-in_err-choose-clause-chosen : goal.returns-in_err-choose-clause-chosen
returns-in_err-choose-clause-chosen g c = bay_folder c.in_err-choose.field-0.0 c.from_residual.result c.from_residual.ensures.0 c.from_residual.ensures.1 _ _ _ (inr c.in_err-choose.ensures.refused)

pub returns-in_err-choose-clause-counted : goal.returns-in_err-choose-clause-counted
returns-in_err-choose-clause-counted g c =
    err_of _ _ c.from_residual.result c.from_residual.ensures.0 c.from_residual.ensures.1 (bay_uncounted g.B.Device.Disk (servers_said c.args.lines.now) c.in_err-choose.field-0.0)

pub returns-in_err-choose-clause-ended : goal.returns-in_err-choose-clause-ended
returns-in_err-choose-clause-ended g c =
    err_of _ _ c.from_residual.result c.from_residual.ensures.0 c.from_residual.ensures.1 (bay_unended c.args.lines.now c.in_err-choose.field-0.0)

pub returns-in_err-choose-clause-bay : goal.returns-in_err-choose-clause-bay
returns-in_err-choose-clause-bay g c = told_of _ _ _ c.from_residual.result c.from_residual.ensures.0 c.from_residual.ensures.1 (bay_counted _ _ c.in_err-choose.field-0.0 c.in_err-choose.ensures.cause)

-- ---- a server was not started

pub leave_all-requires-clause-held : goal.leave_all-requires-clause-held
leave_all-requires-clause-held g c κs lives =
    held_moved _ _ (g.B.Bay.tells c.choose.new.self) _ c.start_all.new.cluster.parties.stations.all.items (sym c.start_all.ensures.tells) (ap (λ v. v.items) c.into_parts-stations.ensures.stations)
    (some_held _ g.B.Device.Disk (g.B.Bay.tells c.choose.new.self) c.args.lines.now _ _ _ _ c.in-Err.fault c.start_all.new.cluster c.in-Err.ensures.some)

pub leave_all-requires-clause-few : goal.leave_all-requires-clause-few
leave_all-requires-clause-few g c κs lives =
    let G = store_vault.ghosts (the_row g.row.B-Device g.B.Device.Disk) (fuse_disk.ghosts g.row.B-Device g.B.Device.Disk g.B.Device.Disk-dict g.B.Device.Destruct-dict) fuse_disk.no_dict fuse_disk.no_dict in
    let few : length c.start_all.new.cluster.parties.stations.all.items ≤ 8 = some_few G g.B.Device.Disk (g.B.Bay.tells c.choose.new.self) c.args.lines.now _ _ _ _ c.in-Err.fault c.start_all.new.cluster c.requires.accepted.most c.in-Err.ensures.some in
    let same : length c.into_parts-stations.result.0.items ≡ length c.start_all.new.cluster.parties.stations.all.items = ap (λ v. length v.items) c.into_parts-stations.ensures.stations in
    omega (arith, few, same)

pub returns-in-Err-clause-cause : goal.returns-in-Err-clause-cause
returns-in-Err-clause-cause g c asked =
    let G = store_vault.ghosts (the_row g.row.B-Device g.B.Device.Disk) (fuse_disk.ghosts g.row.B-Device g.B.Device.Disk g.B.Device.Disk-dict g.B.Device.Destruct-dict) fuse_disk.no_dict fuse_disk.no_dict in
    let told : IsTrue (g.B.Bay.tells c.choose.new.self) = elim asked [
      | inl none ↦ g.met.B.Bay.told c.choose.new.self (c.in_ok-choose.ensures.named ∙ ap (option_map (λ (name : _). name.now)) none)
      | inr tells ↦ subst IsTrue (c.leave_all.ensures.tells ∙ c.start_all.ensures.tells) tells
    ] in
    cause_moved g.B.Device.Disk c.args.lines.now (g.B.Bay.at c.choose.new.self) (g.B.Bay.at c.args.bay.now) (g.B.Bay.at c.leave_all.new.bay) (g.B.Bay.faults c.choose.new.self) _ (g.B.Bay.faults c.start_all.new.bay) _ c.in-Err.fault
    c.choose.ensures.places c.in_ok-choose.ensures.cause.still (sym c.leave_all.ensures.faults)
    (start_ended G g.B.Device.Disk (g.B.Bay.tells c.choose.new.self) told c.args.lines.now (g.B.Bay.at c.choose.new.self) (g.B.Bay.at c.start_all.new.bay) (g.B.Bay.at c.leave_all.new.bay) _ _ c.in-Err.fault c.start_all.new.cluster c.in-Err.ensures.some
    (left_moved G g.B.Device.Disk (g.B.Bay.tells c.start_all.new.bay) (g.B.Bay.tells c.choose.new.self) c.into_parts-stations.result.0.items c.start_all.new.cluster.parties.stations.all.items _ _ c.start_all.ensures.tells (ap (λ v. v.items) c.into_parts-stations.ensures.stations) c.leave_all.ensures.left))

pub returns-in-Err-clause-counted : goal.returns-in-Err-clause-counted
returns-in-Err-clause-counted g c = (let some = c.in-Err.ensures.some in start_counted g.B.Device.Disk (servers_said c.args.lines.now) some.count c.in-Err.fault some.few some.next_one.of_server)

pub returns-in-Err-clause-ended : goal.returns-in-Err-clause-ended
returns-in-Err-clause-ended g c = (let some = c.in-Err.ensures.some in start_unended g.B.Device.Disk c.args.lines.now some.count c.in-Err.fault some.few some.next_one.of_server)

pub returns-in-Err-clause-chosen : goal.returns-in-Err-clause-chosen
returns-in-Err-clause-chosen g c = folder_taken {U = Unit {0}} (Err c.in-Err.fault) _ _ _ (c.leave_all.ensures.chosen ∙ c.start_all.ensures.chosen ∙ c.in_ok-choose.ensures.named)

pub returns-in-Err-clause-bay : goal.returns-in-Err-clause-bay
returns-in-Err-clause-bay g c =
    subst (λ (m : ℕ). IsBayFault c.in-Err.fault m (g.B.Bay.faults c.leave_all.new.bay)) c.in_ok-choose.ensures.cause.still (subst (λ (m : ℕ). IsBayFault c.in-Err.fault (g.B.Bay.faults c.choose.new.self) m) (sym c.leave_all.ensures.faults) c.in-Err.ensures.bay)

-- ---- it ended while it was played

pub play_out-requires-clause-new : goal.play_out-requires-clause-new
play_out-requires-clause-new g c =
    let G = store_vault.ghosts (the_row g.row.B-Device g.B.Device.Disk) (fuse_disk.ghosts g.row.B-Device g.B.Device.Disk g.B.Device.Disk-dict g.B.Device.Destruct-dict) fuse_disk.no_dict fuse_disk.no_dict in
    let t : Bool = g.B.Bay.tells c.choose.new.self in
    let one : ℕ → Option g.row.B-Device.Denot = g.B.Bay.at c.choose.new.self in
    let two : ℕ → Option g.row.B-Device.Denot = g.B.Bay.at c.start_all.new.bay in
    let old = c.start_all.new.cluster in
    let begun : HaveBegun G g.B.Device.Disk t c.args.lines.now (servers_said c.args.lines.now) one two old = subst (λ (m : ℕ). HaveBegun G g.B.Device.Disk t c.args.lines.now m one two old) c.servers_of.ensures c.in_default.ensures.begun in
    begins_new G g.B.Device.Disk t c.args.lines.now c.requires.accepted.least c.requires.accepted.most one two two old begun

pub leave_all-requires-in-Err-play_out-clause-held : goal.leave_all-requires-in-Err-play_out-clause-held
leave_all-requires-in-Err-play_out-clause-held g c κs lives =
    let G = store_vault.ghosts (the_row g.row.B-Device g.B.Device.Disk) (fuse_disk.ghosts g.row.B-Device g.B.Device.Disk g.B.Device.Disk-dict g.B.Device.Destruct-dict) fuse_disk.no_dict fuse_disk.no_dict in
    let t : Bool = g.B.Bay.tells c.choose.new.self in
    let one : ℕ → Option g.row.B-Device.Denot = g.B.Bay.at c.choose.new.self in
    let two : ℕ → Option g.row.B-Device.Denot = g.B.Bay.at c.start_all.new.bay in
    let old = c.start_all.new.cluster in
    let begun : HaveBegun G g.B.Device.Disk t c.args.lines.now (servers_said c.args.lines.now) one two old = subst (λ (m : ℕ). HaveBegun G g.B.Device.Disk t c.args.lines.now m one two old) c.servers_of.ensures c.in_default.ensures.begun in
    held_moved _ _ t _ c.play_out.new.self.parties.stations.all.items (sym c.start_all.ensures.tells) (ap (λ v. v.items) c.into_parts-stations-in-Err-play_out.ensures.stations)
    (fell_held G g.B.Device.Disk t c.args.lines.now c.requires.accepted.least c.requires.accepted.most one two two old begun c.play_out.new.self.parties.stations c.in-Err-play_out.fault c.in-Err-play_out.ensures.gone)

pub leave_all-requires-in-Err-play_out-clause-few : goal.leave_all-requires-in-Err-play_out-clause-few
leave_all-requires-in-Err-play_out-clause-few g c κs lives =
    let G = store_vault.ghosts (the_row g.row.B-Device g.B.Device.Disk) (fuse_disk.ghosts g.row.B-Device g.B.Device.Disk g.B.Device.Disk-dict g.B.Device.Destruct-dict) fuse_disk.no_dict fuse_disk.no_dict in
    let t : Bool = g.B.Bay.tells c.choose.new.self in
    let one : ℕ → Option g.row.B-Device.Denot = g.B.Bay.at c.choose.new.self in
    let two : ℕ → Option g.row.B-Device.Denot = g.B.Bay.at c.start_all.new.bay in
    let old = c.start_all.new.cluster in
    let begun : HaveBegun G g.B.Device.Disk t c.args.lines.now (servers_said c.args.lines.now) one two old = subst (λ (m : ℕ). HaveBegun G g.B.Device.Disk t c.args.lines.now m one two old) c.servers_of.ensures c.in_default.ensures.begun in
    let few : length c.play_out.new.self.parties.stations.all.items ≤ 8 = fell_few G g.B.Device.Disk t c.args.lines.now c.requires.accepted.least c.requires.accepted.most one two two old begun c.play_out.new.self.parties.stations c.in-Err-play_out.fault c.in-Err-play_out.ensures.gone in
    let same : length c.into_parts-stations-in-Err-play_out.result.0.items ≡ length c.play_out.new.self.parties.stations.all.items = ap (λ v. length v.items) c.into_parts-stations-in-Err-play_out.ensures.stations in
    omega (arith, few, same)

pub returns-in-Err-play_out-clause-cause : goal.returns-in-Err-play_out-clause-cause
returns-in-Err-play_out-clause-cause g c asked =
    let G = store_vault.ghosts (the_row g.row.B-Device g.B.Device.Disk) (fuse_disk.ghosts g.row.B-Device g.B.Device.Disk g.B.Device.Disk-dict g.B.Device.Destruct-dict) fuse_disk.no_dict fuse_disk.no_dict in
    let t : Bool = g.B.Bay.tells c.choose.new.self in
    let one : ℕ → Option g.row.B-Device.Denot = g.B.Bay.at c.choose.new.self in
    let two : ℕ → Option g.row.B-Device.Denot = g.B.Bay.at c.start_all.new.bay in
    let old = c.start_all.new.cluster in
    let begun : HaveBegun G g.B.Device.Disk t c.args.lines.now (servers_said c.args.lines.now) one two old = subst (λ (m : ℕ). HaveBegun G g.B.Device.Disk t c.args.lines.now m one two old) c.servers_of.ensures c.in_default.ensures.begun in
    let three : ℕ → Option g.row.B-Device.Denot = g.B.Bay.at c.leave_all-in-Err-play_out.new.bay in
    let told : IsTrue (g.B.Bay.tells c.choose.new.self) = elim asked [
      | inl none ↦ g.met.B.Bay.told c.choose.new.self (c.in_ok-choose.ensures.named ∙ ap (option_map (λ (name : _). name.now)) none)
      | inr tells ↦ subst IsTrue (c.leave_all-in-Err-play_out.ensures.tells ∙ c.start_all.ensures.tells) tells
    ] in
    subst (HasRunCause g.B.Device.Disk c.args.lines.now (g.B.Bay.at c.args.bay.now) three (g.B.Bay.faults c.args.bay.now) (g.B.Bay.faults c.leave_all-in-Err-play_out.new.bay)) (sym c.from.ensures)
    (subst (λ (b : ℕ → Option g.row.B-Device.Denot). HasRunCause g.B.Device.Disk c.args.lines.now b three (g.B.Bay.faults c.args.bay.now) (g.B.Bay.faults c.leave_all-in-Err-play_out.new.bay) (played c.in-Err-play_out.fault)) c.choose.ensures.places
    (fell_ended G g.B.Device.Disk t c.args.lines.now c.requires.accepted.least c.requires.accepted.most one two three old begun c.play_out.new.self.parties.stations c.in-Err-play_out.fault c.in-Err-play_out.ensures.gone
    (left_moved G g.B.Device.Disk (g.B.Bay.tells c.start_all.new.bay) t c.into_parts-stations-in-Err-play_out.result.0.items c.play_out.new.self.parties.stations.all.items two three c.start_all.ensures.tells (ap (λ v. v.items) c.into_parts-stations-in-Err-play_out.ensures.stations) c.leave_all-in-Err-play_out.ensures.left)
    told (g.B.Bay.faults c.args.bay.now) (g.B.Bay.faults c.leave_all-in-Err-play_out.new.bay) c.play_out.new.self.lists.items c.in-Err-play_out.ensures.ended c.in-Err-play_out.ensures.left c.in-Err-play_out.ensures.calm_left))

pub returns-in-Err-play_out-clause-counted : goal.returns-in-Err-play_out-clause-counted
returns-in-Err-play_out-clause-counted g c =
    let G = store_vault.ghosts (the_row g.row.B-Device g.B.Device.Disk) (fuse_disk.ghosts g.row.B-Device g.B.Device.Disk g.B.Device.Disk-dict g.B.Device.Destruct-dict) fuse_disk.no_dict fuse_disk.no_dict in
    let t : Bool = g.B.Bay.tells c.choose.new.self in
    let one : ℕ → Option g.row.B-Device.Denot = g.B.Bay.at c.choose.new.self in
    let two : ℕ → Option g.row.B-Device.Denot = g.B.Bay.at c.start_all.new.bay in
    let old = c.start_all.new.cluster in
    let begun : HaveBegun G g.B.Device.Disk t c.args.lines.now (servers_said c.args.lines.now) one two old = subst (λ (m : ℕ). HaveBegun G g.B.Device.Disk t c.args.lines.now m one two old) c.servers_of.ensures c.in_default.ensures.begun in
    let three : ℕ → Option g.row.B-Device.Denot = g.B.Bay.at c.leave_all-in-Err-play_out.new.bay in
    subst (IsOfServers g.B.Device.Disk (servers_said c.args.lines.now)) (sym c.from.ensures)
    (fell_counted G g.B.Device.Disk t c.args.lines.now c.requires.accepted.least c.requires.accepted.most one two three old begun c.play_out.new.self.parties.stations c.in-Err-play_out.fault c.in-Err-play_out.ensures.gone
    (left_moved G g.B.Device.Disk (g.B.Bay.tells c.start_all.new.bay) t c.into_parts-stations-in-Err-play_out.result.0.items c.play_out.new.self.parties.stations.all.items two three c.start_all.ensures.tells (ap (λ v. v.items) c.into_parts-stations-in-Err-play_out.ensures.stations) c.leave_all-in-Err-play_out.ensures.left))

pub returns-in-Err-play_out-clause-ended : goal.returns-in-Err-play_out-clause-ended
returns-in-Err-play_out-clause-ended g c =
    let G = store_vault.ghosts (the_row g.row.B-Device g.B.Device.Disk) (fuse_disk.ghosts g.row.B-Device g.B.Device.Disk g.B.Device.Disk-dict g.B.Device.Destruct-dict) fuse_disk.no_dict fuse_disk.no_dict in
    let t : Bool = g.B.Bay.tells c.choose.new.self in
    let one : ℕ → Option g.row.B-Device.Denot = g.B.Bay.at c.choose.new.self in
    let two : ℕ → Option g.row.B-Device.Denot = g.B.Bay.at c.start_all.new.bay in
    let old = c.start_all.new.cluster in
    let begun : HaveBegun G g.B.Device.Disk t c.args.lines.now (servers_said c.args.lines.now) one two old = subst (λ (m : ℕ). HaveBegun G g.B.Device.Disk t c.args.lines.now m one two old) c.servers_of.ensures c.in_default.ensures.begun in
    let three : ℕ → Option g.row.B-Device.Denot = g.B.Bay.at c.leave_all-in-Err-play_out.new.bay in
    subst (IsEndTold c.args.lines.now) (sym c.from.ensures)
    (fell_told G g.B.Device.Disk t c.args.lines.now c.requires.accepted.least c.requires.accepted.most one two three old begun c.play_out.new.self.parties.stations c.in-Err-play_out.fault c.in-Err-play_out.ensures.gone
    (left_moved G g.B.Device.Disk (g.B.Bay.tells c.start_all.new.bay) t c.into_parts-stations-in-Err-play_out.result.0.items c.play_out.new.self.parties.stations.all.items two three c.start_all.ensures.tells (ap (λ v. v.items) c.into_parts-stations-in-Err-play_out.ensures.stations) c.leave_all-in-Err-play_out.ensures.left)
    c.play_out.new.self.lists.items c.in-Err-play_out.ensures.ended)

pub returns-in-Err-play_out-clause-chosen : goal.returns-in-Err-play_out-clause-chosen
returns-in-Err-play_out-clause-chosen g c = folder_taken {U = Unit {0}} (Err c.from.result) _ _ _ (c.leave_all-in-Err-play_out.ensures.chosen ∙ c.start_all.ensures.chosen ∙ c.in_ok-choose.ensures.named)

pub returns-in-Err-play_out-clause-bay : goal.returns-in-Err-play_out-clause-bay
returns-in-Err-play_out-clause-bay g c =
    subst (λ f. IsBayFault f (g.B.Bay.faults c.args.bay.now) (g.B.Bay.faults c.leave_all-in-Err-play_out.new.bay)) (sym c.from.ensures)
    (play_still c.in-Err-play_out.fault _ _ (c.leave_all-in-Err-play_out.ensures.faults ∙ c.in_default.ensures.bay ∙ c.in_ok-choose.ensures.cause.still))

-- ---- it was played

pub close_all-requires-clause-at_rest : goal.close_all-requires-clause-at_rest
close_all-requires-clause-at_rest g c κs lives =
    let G = store_vault.ghosts (the_row g.row.B-Device g.B.Device.Disk) (fuse_disk.ghosts g.row.B-Device g.B.Device.Disk g.B.Device.Disk-dict g.B.Device.Destruct-dict) fuse_disk.no_dict fuse_disk.no_dict in
    let t : Bool = g.B.Bay.tells c.choose.new.self in
    let one : ℕ → Option g.row.B-Device.Denot = g.B.Bay.at c.choose.new.self in
    let two : ℕ → Option g.row.B-Device.Denot = g.B.Bay.at c.start_all.new.bay in
    let old = c.start_all.new.cluster in
    let begun : HaveBegun G g.B.Device.Disk t c.args.lines.now (servers_said c.args.lines.now) one two old = subst (λ (m : ℕ). HaveBegun G g.B.Device.Disk t c.args.lines.now m one two old) c.servers_of.ensures c.in_default.ensures.begun in
    rest_moved _ _ t _ c.play_out.new.self.parties.stations.all.items (sym c.start_all.ensures.tells) (ap (λ v. v.items) c.into_parts-stations-2.ensures.stations)
    (rest_all G g.B.Device.Disk t c.args.lines.now c.requires.accepted.least c.requires.accepted.most one two two old begun c.play_out.new.self.parties.stations c.in_default-play_out.ensures.gone _ _ c.in_default-play_out.ensures.played)

pub close_all-requires-clause-few : goal.close_all-requires-clause-few
close_all-requires-clause-few g c κs lives =
    let G = store_vault.ghosts (the_row g.row.B-Device g.B.Device.Disk) (fuse_disk.ghosts g.row.B-Device g.B.Device.Disk g.B.Device.Disk-dict g.B.Device.Destruct-dict) fuse_disk.no_dict fuse_disk.no_dict in
    let t : Bool = g.B.Bay.tells c.choose.new.self in
    let one : ℕ → Option g.row.B-Device.Denot = g.B.Bay.at c.choose.new.self in
    let two : ℕ → Option g.row.B-Device.Denot = g.B.Bay.at c.start_all.new.bay in
    let old = c.start_all.new.cluster in
    let begun : HaveBegun G g.B.Device.Disk t c.args.lines.now (servers_said c.args.lines.now) one two old = subst (λ (m : ℕ). HaveBegun G g.B.Device.Disk t c.args.lines.now m one two old) c.servers_of.ensures c.in_default.ensures.begun in
    let few : length c.play_out.new.self.parties.stations.all.items ≤ 8 = rest_few G g.B.Device.Disk t c.args.lines.now c.requires.accepted.least c.requires.accepted.most one two two old begun c.play_out.new.self.parties.stations c.in_default-play_out.ensures.gone in
    let same : length c.into_parts-stations-2.result.0.items ≡ length c.play_out.new.self.parties.stations.all.items = ap (λ v. length v.items) c.into_parts-stations-2.ensures.stations in
    omega (arith, few, same)

pub returns-in_err-rests-clause-cause : goal.returns-in_err-rests-clause-cause
returns-in_err-rests-clause-cause g c asked =
    let G = store_vault.ghosts (the_row g.row.B-Device g.B.Device.Disk) (fuse_disk.ghosts g.row.B-Device g.B.Device.Disk g.B.Device.Disk-dict g.B.Device.Destruct-dict) fuse_disk.no_dict fuse_disk.no_dict in
    let t : Bool = g.B.Bay.tells c.choose.new.self in
    let one : ℕ → Option g.row.B-Device.Denot = g.B.Bay.at c.choose.new.self in
    let two : ℕ → Option g.row.B-Device.Denot = g.B.Bay.at c.start_all.new.bay in
    let old = c.start_all.new.cluster in
    let begun : HaveBegun G g.B.Device.Disk t c.args.lines.now (servers_said c.args.lines.now) one two old = subst (λ (m : ℕ). HaveBegun G g.B.Device.Disk t c.args.lines.now m one two old) c.servers_of.ensures c.in_default.ensures.begun in
    let three : ℕ → Option g.row.B-Device.Denot = g.B.Bay.at c.close_all.new.bay in
    let told : IsTrue (g.B.Bay.tells c.choose.new.self) = elim asked [
      | inl none ↦ g.met.B.Bay.told c.choose.new.self (c.in_ok-choose.ensures.named ∙ ap (option_map (λ (name : _). name.now)) none)
      | inr tells ↦ subst IsTrue (c.close_all.ensures.tells ∙ c.start_all.ensures.tells) tells
    ] in
    err_of _ _ c.from_residual-in_err-rests.result c.from_residual-in_err-rests.ensures.0 c.from_residual-in_err-rests.ensures.1
    (subst (λ (b : ℕ → Option g.row.B-Device.Denot). HasRunCause g.B.Device.Disk c.args.lines.now b three (g.B.Bay.faults c.args.bay.now) (g.B.Bay.faults c.close_all.new.bay) (played c.in_err-rests.field-0.0)) c.choose.ensures.places
    (close_ended G g.B.Device.Disk t c.args.lines.now c.requires.accepted.least c.requires.accepted.most one two three old begun c.play_out.new.self.parties.stations c.in_default-play_out.ensures.gone c.in_err-rests.field-0.0
    (closed_moved G g.B.Device.Disk (g.B.Bay.tells c.start_all.new.bay) t c.into_parts-stations-2.result.0.items c.play_out.new.self.parties.stations.all.items two three _ c.start_all.ensures.tells (ap (λ v. v.items) c.into_parts-stations-2.ensures.stations) c.in_err-rests.ensures.closed)
    told _ _ c.play_out.new.self.lists.items c.play_out.new.self.text.items c.in_default-play_out.ensures.played c.in_default-play_out.ensures.openings c.in_default-play_out.ensures.calm c.in_err-rests.ensures.looks))

pub returns-in_err-rests-clause-counted : goal.returns-in_err-rests-clause-counted
returns-in_err-rests-clause-counted g c =
    let G = store_vault.ghosts (the_row g.row.B-Device g.B.Device.Disk) (fuse_disk.ghosts g.row.B-Device g.B.Device.Disk g.B.Device.Disk-dict g.B.Device.Destruct-dict) fuse_disk.no_dict fuse_disk.no_dict in
    let t : Bool = g.B.Bay.tells c.choose.new.self in
    let one : ℕ → Option g.row.B-Device.Denot = g.B.Bay.at c.choose.new.self in
    let two : ℕ → Option g.row.B-Device.Denot = g.B.Bay.at c.start_all.new.bay in
    let old = c.start_all.new.cluster in
    let begun : HaveBegun G g.B.Device.Disk t c.args.lines.now (servers_said c.args.lines.now) one two old = subst (λ (m : ℕ). HaveBegun G g.B.Device.Disk t c.args.lines.now m one two old) c.servers_of.ensures c.in_default.ensures.begun in
    let three : ℕ → Option g.row.B-Device.Denot = g.B.Bay.at c.close_all.new.bay in
    err_of _ _ c.from_residual-in_err-rests.result c.from_residual-in_err-rests.ensures.0 c.from_residual-in_err-rests.ensures.1
    (close_counted G g.B.Device.Disk t c.args.lines.now c.requires.accepted.least c.requires.accepted.most one two three old begun c.play_out.new.self.parties.stations c.in_default-play_out.ensures.gone c.in_err-rests.field-0.0
    (closed_moved G g.B.Device.Disk (g.B.Bay.tells c.start_all.new.bay) t c.into_parts-stations-2.result.0.items c.play_out.new.self.parties.stations.all.items two three _ c.start_all.ensures.tells (ap (λ v. v.items) c.into_parts-stations-2.ensures.stations) c.in_err-rests.ensures.closed))

pub returns-in_err-rests-clause-ended : goal.returns-in_err-rests-clause-ended
returns-in_err-rests-clause-ended g c =
    err_of _ _ c.from_residual-in_err-rests.result c.from_residual-in_err-rests.ensures.0 c.from_residual-in_err-rests.ensures.1 (close_unended c.args.lines.now c.in_err-rests.field-0.0 c.in_err-rests.ensures.looks)

pub returns-in_err-rests-clause-chosen : goal.returns-in_err-rests-clause-chosen
returns-in_err-rests-clause-chosen g c = folder_taken c.from_residual-in_err-rests.result _ _ _ (c.close_all.ensures.chosen ∙ c.start_all.ensures.chosen ∙ c.in_ok-choose.ensures.named)

pub returns-in_err-rests-clause-bay : goal.returns-in_err-rests-clause-bay
returns-in_err-rests-clause-bay g c =
    told_of _ _ _ c.from_residual-in_err-rests.result c.from_residual-in_err-rests.ensures.0 c.from_residual-in_err-rests.ensures.1
    (play_still c.in_err-rests.field-0.0 _ _ (c.close_all.ensures.faults ∙ c.in_default.ensures.bay ∙ c.in_ok-choose.ensures.cause.still))

pub returns-in_err-report-clause-cause : goal.returns-in_err-report-clause-cause
returns-in_err-report-clause-cause g c asked =
    let G = store_vault.ghosts (the_row g.row.B-Device g.B.Device.Disk) (fuse_disk.ghosts g.row.B-Device g.B.Device.Disk g.B.Device.Disk-dict g.B.Device.Destruct-dict) fuse_disk.no_dict fuse_disk.no_dict in
    let t : Bool = g.B.Bay.tells c.choose.new.self in
    let one : ℕ → Option g.row.B-Device.Denot = g.B.Bay.at c.choose.new.self in
    let two : ℕ → Option g.row.B-Device.Denot = g.B.Bay.at c.start_all.new.bay in
    let old = c.start_all.new.cluster in
    let begun : HaveBegun G g.B.Device.Disk t c.args.lines.now (servers_said c.args.lines.now) one two old = subst (λ (m : ℕ). HaveBegun G g.B.Device.Disk t c.args.lines.now m one two old) c.servers_of.ensures c.in_default.ensures.begun in
    let three : ℕ → Option g.row.B-Device.Denot = g.B.Bay.at c.close_all.new.bay in
    let told : IsTrue (g.B.Bay.tells c.choose.new.self) = elim asked [
      | inl none ↦ g.met.B.Bay.told c.choose.new.self (c.in_ok-choose.ensures.named ∙ ap (option_map (λ (name : _). name.now)) none)
      | inr tells ↦ subst IsTrue (c.close_all.ensures.tells ∙ c.start_all.ensures.tells) tells
    ] in
    err_of _ fault.OutOfMemory c.from_residual-in_err-report.result c.from_residual-in_err-report.ensures.0 c.from_residual-in_err-report.ensures.1
    (subst (λ (b : ℕ → Option g.row.B-Device.Denot). HasRunCause g.B.Device.Disk c.args.lines.now b three (g.B.Bay.faults c.args.bay.now) (g.B.Bay.faults c.close_all.new.bay) fault.OutOfMemory) c.choose.ensures.places
    (wanting_ended G g.B.Device.Disk t c.args.lines.now c.requires.accepted.least c.requires.accepted.most one two three old begun c.play_out.new.self.parties.stations c.in_default-play_out.ensures.gone c.in_ok-rests.rests
    (closed_moved G g.B.Device.Disk (g.B.Bay.tells c.start_all.new.bay) t c.into_parts-stations-2.result.0.items c.play_out.new.self.parties.stations.all.items two three _ c.start_all.ensures.tells (ap (λ v. v.items) c.into_parts-stations-2.ensures.stations) c.in_ok-rests.ensures.closed)
    told (g.B.Bay.faults c.args.bay.now) (g.B.Bay.faults c.close_all.new.bay) c.play_out.new.self.lists.items c.play_out.new.self.text.items c.in_default-play_out.ensures.played c.in_default-play_out.ensures.openings c.in_default-play_out.ensures.calm))

pub returns-in_err-report-clause-ended : goal.returns-in_err-report-clause-ended
returns-in_err-report-clause-ended g c = err_of (IsEndTold c.args.lines.now) fault.OutOfMemory c.from_residual-in_err-report.result c.from_residual-in_err-report.ensures.0 c.from_residual-in_err-report.ensures.1 tt

pub returns-in_err-report-clause-chosen : goal.returns-in_err-report-clause-chosen
returns-in_err-report-clause-chosen g c = folder_taken c.from_residual-in_err-report.result _ _ _ (c.close_all.ensures.chosen ∙ c.start_all.ensures.chosen ∙ c.in_ok-choose.ensures.named)

pub returns-in_err-report-clause-bay : goal.returns-in_err-report-clause-bay
returns-in_err-report-clause-bay g c =
    told_of _ _ fault.OutOfMemory c.from_residual-in_err-report.result c.from_residual-in_err-report.ensures.0 c.from_residual-in_err-report.ensures.1
    (c.close_all.ensures.faults ∙ c.in_default.ensures.bay ∙ c.in_ok-choose.ensures.cause.still)

pub returns-clause-ran : goal.returns-clause-ran
returns-clause-ran g c asked =
    let G = store_vault.ghosts (the_row g.row.B-Device g.B.Device.Disk) (fuse_disk.ghosts g.row.B-Device g.B.Device.Disk g.B.Device.Disk-dict g.B.Device.Destruct-dict) fuse_disk.no_dict fuse_disk.no_dict in
    let t : Bool = g.B.Bay.tells c.choose.new.self in
    let one : ℕ → Option g.row.B-Device.Denot = g.B.Bay.at c.choose.new.self in
    let two : ℕ → Option g.row.B-Device.Denot = g.B.Bay.at c.start_all.new.bay in
    let old = c.start_all.new.cluster in
    let begun : HaveBegun G g.B.Device.Disk t c.args.lines.now (servers_said c.args.lines.now) one two old = subst (λ (m : ℕ). HaveBegun G g.B.Device.Disk t c.args.lines.now m one two old) c.servers_of.ensures c.in_default.ensures.begun in
    let three : ℕ → Option g.row.B-Device.Denot = g.B.Bay.at c.close_all.new.bay in
    let last = c.play_out.new.self in
    let told : IsTrue (g.B.Bay.tells c.choose.new.self) = elim asked [
      | inl none ↦ g.met.B.Bay.told c.choose.new.self (c.in_ok-choose.ensures.named ∙ ap (option_map (λ (name : _). name.now)) none)
      | inr tells ↦ subst IsTrue (c.close_all.ensures.tells ∙ c.start_all.ensures.tells) tells
    ] in
    subst (λ (b : ℕ → Option g.row.B-Device.Denot). IsRunOf G g.B.Device.Disk c.args.shows c.args.lines.now c.in_ok-report.field-0.log c.in_ok-report.field-0.text.items b three) c.choose.ensures.places
    (went_well G g.B.Device.Disk t c.args.lines.now c.requires.accepted.least c.requires.accepted.most one two three old begun last.parties.stations c.in_default-play_out.ensures.gone c.in_ok-rests.rests
    (closed_moved G g.B.Device.Disk (g.B.Bay.tells c.start_all.new.bay) t c.into_parts-stations-2.result.0.items last.parties.stations.all.items two three _ c.start_all.ensures.tells (ap (λ v. v.items) c.into_parts-stations-2.ensures.stations) c.in_ok-rests.ensures.closed)
    last.lists.items last.text.items c.in_ok-report.field-0.text.items c.in_ok-report.field-0.log c.in_ok-rests.rests c.requires.accepted.rises c.in_default-play_out.ensures.played
    (rests_moved G c.into_parts-stations-2.result.0.items last.parties.stations.all.items c.in_ok-rests.rests (ap (λ v. v.items) c.into_parts-stations-2.ensures.stations) c.in_ok-rests.ensures.rests)
    c.args.shows
    (report_moved c.in_ok-rests.rests c.into_parts-stations-2.result.1.items last.lists.items c.shown.result.items (shown_text c.args.shows last.text.items) c.in_ok-report.field-0.log c.in_ok-report.field-0.text.items (ap (λ v. v.items) c.into_parts-stations-2.ensures.parts.0)
    (c.shown.ensures ∙ ap (λ v. shown_text c.args.shows v.items) c.into_parts-stations-2.ensures.parts.1) c.in_ok-report.ensures)
    told c.in_default-play_out.ensures.openings c.in_default-play_out.ensures.calm)

pub returns-clause-through : goal.returns-clause-through
returns-clause-through g c =
    let G = store_vault.ghosts (the_row g.row.B-Device g.B.Device.Disk) (fuse_disk.ghosts g.row.B-Device g.B.Device.Disk g.B.Device.Disk-dict g.B.Device.Destruct-dict) fuse_disk.no_dict fuse_disk.no_dict in
    let t : Bool = g.B.Bay.tells c.choose.new.self in
    let one : ℕ → Option g.row.B-Device.Denot = g.B.Bay.at c.choose.new.self in
    let two : ℕ → Option g.row.B-Device.Denot = g.B.Bay.at c.start_all.new.bay in
    let old = c.start_all.new.cluster in
    let begun : HaveBegun G g.B.Device.Disk t c.args.lines.now (servers_said c.args.lines.now) one two old = subst (λ (m : ℕ). HaveBegun G g.B.Device.Disk t c.args.lines.now m one two old) c.servers_of.ensures c.in_default.ensures.begun in
    let three : ℕ → Option g.row.B-Device.Denot = g.B.Bay.at c.close_all.new.bay in
    let last = c.play_out.new.self in
    went_through G g.B.Device.Disk t c.args.lines.now c.requires.accepted.least c.requires.accepted.most one two three old begun last.parties.stations c.in_default-play_out.ensures.gone c.in_ok-rests.rests
    (closed_moved G g.B.Device.Disk (g.B.Bay.tells c.start_all.new.bay) t c.into_parts-stations-2.result.0.items last.parties.stations.all.items two three _ c.start_all.ensures.tells (ap (λ v. v.items) c.into_parts-stations-2.ensures.stations) c.in_ok-rests.ensures.closed)
    last.lists.items last.text.items c.in_ok-report.field-0.text.items c.in_ok-report.field-0.log c.in_ok-rests.rests c.requires.accepted.rises c.in_default-play_out.ensures.played
    (rests_moved G c.into_parts-stations-2.result.0.items last.parties.stations.all.items c.in_ok-rests.rests (ap (λ v. v.items) c.into_parts-stations-2.ensures.stations) c.in_ok-rests.ensures.rests)
    c.args.shows
    (report_moved c.in_ok-rests.rests c.into_parts-stations-2.result.1.items last.lists.items c.shown.result.items (shown_text c.args.shows last.text.items) c.in_ok-report.field-0.log c.in_ok-report.field-0.text.items (ap (λ v. v.items) c.into_parts-stations-2.ensures.parts.0)
    (c.shown.ensures ∙ ap (λ v. shown_text c.args.shows v.items) c.into_parts-stations-2.ensures.parts.1) c.in_ok-report.ensures)

pub returns-clause-chosen : goal.returns-clause-chosen
returns-clause-chosen g c = c.close_all.ensures.chosen ∙ c.start_all.ensures.chosen ∙ c.in_ok-choose.ensures.named

pub returns-clause-bay : goal.returns-clause-bay
returns-clause-bay g c = c.close_all.ensures.faults ∙ c.in_default.ensures.bay ∙ c.in_ok-choose.ensures.cause.still
