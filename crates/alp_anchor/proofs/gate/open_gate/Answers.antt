use Rattle.std.proofs.Common.{IsTrue, sym, subst}
use Rattle.alp_disk.proofs.Moments.{adds_more, adds_weaker}
use Rattle.alp_anchor.specs.Gate.{Opening}
use Rattle.alp_anchor.proofs.Gates.{on_ok_both, stage_crash, gate_crash, is_opened}
use Rattle.alp_anchor.proofs.gate.open_gate.Goals as goal

pub returns-clause-opened : goal.returns-clause-opened
returns-clause-opened g c told =
    let told2 = subst IsTrue (sym c.stage.ensures.tells) told in
    let is = g.met.D.Disk.is_image c.args.disk.now told in
    on_ok_both c.write_synced.result _ _ _
    (λ put only. is_opened _ _ c.args.at c.args.page.now is c.requires.at c.stage.ensures.whole c.requires.gate (c.requires.closed told) _ _ _ only (c.in_ok-stage.ensures.written told) put)
    (c.write_synced.ensures.written told2) (c.write_synced.ensures.durable told2)

pub returns-clause-any_moment : goal.returns-clause-any_moment
returns-clause-any_moment g c told =
    let l = g.D.Disk.left_since in
    let P = Opening c.args.at c.args.page.now (g.D.Disk.seen c.args.disk.now) in
    let is = g.met.D.Disk.is_image c.args.disk.now told in
    let first = stage_crash _ _ c.args.at c.args.page.now is c.requires.at c.stage.ensures.whole c.requires.gate (c.requires.closed told) (g.D.Disk.may_leave c.args.disk.now) (c.requires.durable told) in
    let second = gate_crash _ _ c.args.at c.args.page.now is c.requires.at c.stage.ensures.whole c.requires.gate (c.requires.closed told) _ (g.D.Disk.may_leave c.stage.new.disk) (c.in_ok-stage.ensures.written told) (c.in_ok-stage.ensures.durable told) in
    adds_more l _ _ _ P _ (adds_weaker l _ _ _ P c.stage.ensures.any_moment first) c.write_synced.ensures.any_moment second
