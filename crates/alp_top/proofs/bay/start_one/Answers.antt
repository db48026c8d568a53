use Rattle.std.specs.Prelude.{IsTrue, Option}
use Rattle.std.proofs.Common.{inr, ◌≡◌, ◌≤◌, ℕ, refl, sym, ◌∙◌, ap, subst, arith}
use Rattle.alp_base.specs.declared.faults.Sizes.{Sizes}
use Rattle.alp_bay.specs.Bays.{IsTaken}
use Rattle.alp_disk.specs.contracts.fuse.Fuse.{the_row}
use Rattle.alp_disk.specs.contracts.fuse.FuseDisk.TheImpl as fuse_disk
use Rattle.alp_script.specs.Accepted.{servers_said}
use Rattle.alp_script.specs.Volumes.{sizes_said}
use Rattle.alp_store.specs.contracts.store.StoreVault.TheImpl as store_vault
use Rattle.alp_top.specs.Disks.{ShowAlike, IsStarted, IsCountedStart}
use Rattle.alp_top.specs.Volumes.{pages_of, WhyNotBegun}
use Rattle.alp_top.specs.declared.fault.NoReport.TheVariants as fault
use Rattle.alp_top.proofs.AlikeLemmas.{started_alike, cause_alike, counted_alike, returned_alike}
use Rattle.alp_top.proofs.RefusedLemmas.{err_of, told_of, bay_refused, bay_counted, disk_still}
use Rattle.alp_top.proofs.bay.start_one.Goals as goal

pub take-requires-clause-server : goal.take-requires-clause-server
take-requires-clause-server g c =
    let most : servers_said c.args.lines.now ≤ 8 = c.requires.accepted.most in
    (c.requires.server.0, omega (arith, c.requires.server.1, c.requires.servers, most))

pub start-requires-clause-server : goal.start-requires-clause-server
start-requires-clause-server g c =
    let most : servers_said c.args.lines.now ≤ 8 = c.requires.accepted.most in
    record { first = c.requires.server.0; among = c.requires.server.1; most = omega (arith, c.requires.servers, most) }

pub give_disk-requires-clause-server : goal.give_disk-requires-clause-server
give_disk-requires-clause-server g c κs lives =
    let most : servers_said c.args.lines.now ≤ 8 = c.requires.accepted.most in
    (c.requires.server.0, omega (arith, c.requires.server.1, c.requires.servers, most))

pub give_disk-requires-clause-told : goal.give_disk-requires-clause-told
give_disk-requires-clause-told g c κs lives told =
    let took = c.in_ok-device.ensures in
    subst IsTrue (sym (c.in-Err.ensures.tells ∙ c.new.ensures.tells)) (took.told (subst IsTrue took.tells told))

-- ---- the bay gave none

pub returns-in_err-device-clause-refused : goal.returns-in_err-device-clause-refused
returns-in_err-device-clause-refused g c =
    err_of _ _ c.from_residual.result c.from_residual.ensures.0 c.from_residual.ensures.1
    (bay_refused g.B.Device.Disk (g.B.Bay.tells c.args.bay.now) c.args.lines.now c.args.server (g.B.Bay.at c.args.bay.now) (g.B.Bay.at c.take.new.self) _ _ c.in_err-device.field-0.0 c.in_err-device.ensures.cause c.in_err-device.ensures.refused)

pub returns-in_err-device-clause-bay : goal.returns-in_err-device-clause-bay
returns-in_err-device-clause-bay g c = told_of _ _ _ c.from_residual.result c.from_residual.ensures.0 c.from_residual.ensures.1 (bay_counted _ _ c.in_err-device.field-0.0 c.in_err-device.ensures.cause)

-- ---- the server was started

pub returns-in-Ok-clause-begun : goal.returns-in-Ok-clause-begun
returns-in-Ok-clause-begun g c =
    let h = g.B.Device.Disk in
    let F = fuse_disk.ghosts g.row.B-Device g.B.Device.Disk g.B.Device.Disk-dict g.B.Device.Destruct-dict in
    let G = store_vault.ghosts (the_row g.row.B-Device g.B.Device.Disk) (fuse_disk.ghosts g.row.B-Device g.B.Device.Disk g.B.Device.Disk-dict g.B.Device.Destruct-dict) fuse_disk.no_dict fuse_disk.no_dict in
    let took = c.in_ok-device.ensures in
    let S : Sizes = sizes_said c.args.lines.now c.args.server in
    let taken : ShowAlike F h c.new.result c.in_ok-device.device = record {
      telling = sym c.new.ensures.tells;
      size = sym c.new.ensures.size;
      seen = sym c.new.ensures.seen;
      faults = sym c.new.ensures.faults;
      leaves = record { no_more = c.new.ensures.crash.no_fewer; no_fewer = c.new.ensures.crash.no_more };
    } in
    record {
      disk = c.in_ok-device.device;
      is = record {
        started =
            subst (λ (z : Sizes). IsStarted G h z c.args.server (servers_said c.args.lines.now) c.in_ok-device.device c.in-Ok.node) c.sizes_of-sizes.ensures
            (subst (λ (m : ℕ). IsStarted G h c.sizes_of-sizes.result c.args.server m c.in_ok-device.device c.in-Ok.node) c.requires.servers (started_alike F h c.new.result c.in_ok-device.device taken G c.sizes_of-sizes.result c.args.server c.args.servers c.in-Ok.node c.in-Ok.ensures.started));
        told = took.told;
        was = λ told.
            subst (λ (m : ℕ). IsTaken h (g.B.Bay.at c.args.bay.now c.args.server) m c.in_ok-device.device) (c.pages_of.ensures ∙ ap pages_of c.sizes_of-sizes.ensures) (took.taken told);
      };
      others = λ told k away. (took.emptied told).others k away;
    }

-- ---- it was not

pub returns-in-Err-clause-refused : goal.returns-in-Err-clause-refused
returns-in-Err-clause-refused g c =
    let h = g.B.Device.Disk in
    let F = fuse_disk.ghosts g.row.B-Device g.B.Device.Disk g.B.Device.Disk-dict g.B.Device.Destruct-dict in
    let took = c.in_ok-device.ensures in
    let S : Sizes = sizes_said c.args.lines.now c.args.server in
    let taken : ShowAlike F h c.new.result c.in_ok-device.device = record {
      telling = sym c.new.ensures.tells;
      size = sym c.new.ensures.size;
      seen = sym c.new.ensures.seen;
      faults = sym c.new.ensures.faults;
      leaves = record { no_more = c.new.ensures.crash.no_fewer; no_fewer = c.new.ensures.crash.no_more };
    } in
    let placed = c.give_disk.ensures.given in
    let x = c.in-Err.ensures in
    record {
      refused = λ told. inr (
          returned_alike F h S c.new.result c.in-Err.disk c.in_ok-device.device placed.device taken placed.alike (g.B.Bay.at c.args.bay.now c.args.server) (g.B.Bay.at c.give_disk.new.bay c.args.server)
          (subst (λ (m : ℕ). IsTaken h (g.B.Bay.at c.args.bay.now c.args.server) m c.in_ok-device.device) (c.pages_of.ensures ∙ ap pages_of c.sizes_of-sizes.ensures) (took.taken told)) (placed.filled (subst IsTrue (sym took.tells) told)).here x.size x.later _
          (cause_alike F h S c.new.result c.in-Err.disk c.in_ok-device.device placed.device taken placed.alike c.args.server (servers_said c.args.lines.now) c.in-Err.fault
          (subst (λ (m : ℕ). WhyNotBegun F S c.args.server m c.in-Err.fault c.new.result c.in-Err.disk) c.requires.servers
          (subst (λ (z : Sizes). WhyNotBegun F z c.args.server c.args.servers c.in-Err.fault c.new.result c.in-Err.disk) c.sizes_of-sizes.ensures (x.cause (subst IsTrue (sym c.new.ensures.tells) (took.told told))))))
          );
      others = λ told k away. (placed.filled (subst IsTrue (sym took.tells) told)).others k away ∙ (took.emptied told).others k away;
      of_server = counted_alike F h S c.new.result c.in-Err.disk c.in_ok-device.device placed.device taken placed.alike c.args.server c.in-Err.fault x.counted;
    }

pub returns-in-Err-clause-bay : goal.returns-in-Err-clause-bay
returns-in-Err-clause-bay g c =
    disk_still g.B.Device.Disk c.args.server c.in-Err.fault _ _ (c.give_disk.ensures.faults ∙ c.in_ok-device.ensures.cause.still)
    (λ is. subst (λ f. IsCountedStart c.args.server f (g.B.Device.Disk.faults c.new.result.inner) (g.B.Device.Disk.faults c.in-Err.disk.inner)) is c.in-Err.ensures.counted)
