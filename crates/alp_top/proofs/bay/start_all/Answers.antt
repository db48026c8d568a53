use Rattle.std.specs.Prelude.{IsTrue}
use Rattle.std.proofs.Common.{◌≡◌, ◌≤◌, ◌<◌, ◌+◌, ℕ, refl, sym, ◌∙◌, ap, subst, arith}
use Rattle.alp_disk.specs.contracts.fuse.Fuse.{the_row}
use Rattle.alp_disk.specs.contracts.fuse.FuseDisk.TheImpl as fuse_disk
use Rattle.alp_store.specs.contracts.store.StoreVault.TheImpl as store_vault
use Rattle.alp_script.specs.Accepted.{servers_said}
use Rattle.alp_top.specs.Disks.{HaveBegun}
use Rattle.alp_top.specs.Volumes.{IsBayFault}
use Rattle.alp_top.proofs.RefusedLemmas.{err_of, told_of}
use Rattle.alp_top.proofs.StartedLemmas.{begun_none, begun_more, begun_some}
use Rattle.alp_top.proofs.bay.start_all.Goals as goal

pub loop-at-init : goal.loop-at-init
loop-at-init g c = record {
  begun = begun_none _ g.B.Device.Disk (g.B.Bay.tells c.args.bay.now) c.args.lines.now (g.B.Bay.at c.args.bay.now) c.args.cluster.now c.requires.none;
  tells = refl;
  chosen = refl;
  faults = refl;
}

pub overflow_add-at : goal.overflow_add-at
overflow_add-at g c =
    let most : servers_said c.args.lines.now ≤ 8 = c.requires.accepted.most in
    let low = c.loop-at-test.true in
    omega (arith, low, c.requires.servers, most)

pub add_one-requires-clause-server : goal.add_one-requires-clause-server
add_one-requires-clause-server g c κs lives = (let low = c.loop-at-test.true in (omega arith, omega (arith, low)))

pub returns-in_err-add_one-clause-some : goal.returns-in_err-add_one-clause-some
returns-in_err-add_one-clause-some g c =
    let low = c.loop-at-test.true in
    err_of _ _ c.from_residual.result c.from_residual.ensures.0 c.from_residual.ensures.1
    (begun_some _ g.B.Device.Disk (g.B.Bay.tells c.args.bay.now) c.args.lines.now c.loop-at.at (g.B.Bay.at c.args.bay.now) (g.B.Bay.at c.loop-at.bay) (g.B.Bay.at c.add_one.new.bay) _ _ _ _ c.in_err-add_one.field-0.0 c.loop-at.cluster c.add_one.new.cluster c.loop-at.invariant.tells c.loop-at.invariant.faults
    (omega (arith, low, c.requires.servers)) c.in_err-add_one.ensures.still c.loop-at.invariant.begun c.in_err-add_one.ensures.refused)

pub returns-in_err-add_one-clause-tells : goal.returns-in_err-add_one-clause-tells
returns-in_err-add_one-clause-tells g c = c.in_err-add_one.ensures.tells ∙ c.loop-at.invariant.tells

pub returns-in_err-add_one-clause-chosen : goal.returns-in_err-add_one-clause-chosen
returns-in_err-add_one-clause-chosen g c = c.in_err-add_one.ensures.chosen ∙ c.loop-at.invariant.chosen

pub returns-in_err-add_one-clause-bay : goal.returns-in_err-add_one-clause-bay
returns-in_err-add_one-clause-bay g c =
    told_of _ _ _ c.from_residual.result c.from_residual.ensures.0 c.from_residual.ensures.1 (subst (λ (m : ℕ). IsBayFault c.in_err-add_one.field-0.0 m (g.B.Bay.faults c.add_one.new.bay)) c.loop-at.invariant.faults c.in_err-add_one.ensures.bay)

pub loop-at-preserved : goal.loop-at-preserved
loop-at-preserved g c = record {
  begun = begun_more _ g.B.Device.Disk (g.B.Bay.tells c.args.bay.now) c.args.lines.now c.loop-at.at (g.B.Bay.at c.args.bay.now) (g.B.Bay.at c.loop-at.bay) (g.B.Bay.at c.add_one.new.bay) _ c.loop-at.cluster c.add_one.new.cluster c.loop-at.invariant.tells c.loop-at.invariant.begun c.in_ok-add_one.ensures.begun;
  tells = c.in_ok-add_one.ensures.tells ∙ c.loop-at.invariant.tells;
  chosen = c.in_ok-add_one.ensures.chosen ∙ c.loop-at.invariant.chosen;
  faults = c.in_ok-add_one.ensures.bay ∙ c.loop-at.invariant.faults;
}

pub returns-clause-begun : goal.returns-clause-begun
returns-clause-begun g c =
    let G = store_vault.ghosts (the_row g.row.B-Device g.B.Device.Disk) (fuse_disk.ghosts g.row.B-Device g.B.Device.Disk g.B.Device.Disk-dict g.B.Device.Destruct-dict) fuse_disk.no_dict fuse_disk.no_dict in
    let low = c.loop-at-test.false in
    let high = c.loop-at.auto.at-end in
    let same : c.loop-at.at ≡ c.args.servers = omega (arith, low, high) in
    subst (λ (m : ℕ). HaveBegun G g.B.Device.Disk (g.B.Bay.tells c.args.bay.now) c.args.lines.now m (g.B.Bay.at c.args.bay.now) (g.B.Bay.at c.loop-at.bay) c.loop-at.cluster) same c.loop-at.invariant.begun

pub returns-clause-tells : goal.returns-clause-tells
returns-clause-tells g c = c.loop-at.invariant.tells

pub returns-clause-chosen : goal.returns-clause-chosen
returns-clause-chosen g c = c.loop-at.invariant.chosen

pub returns-clause-bay : goal.returns-clause-bay
returns-clause-bay g c = c.loop-at.invariant.faults
