use Rattle.std.proofs.Common.{◌+◌, length, IsTrue, sym, ◌∙◌, subst, arith}
use Rattle.alp_base.proofs.AllowanceLemmas.{spends_then}
use Rattle.alp_base.specs.Crashes.{After}
use Rattle.alp_disk.proofs.Moments.{adds_more, adds_weaker}
use Rattle.alp_record.specs.Record.{body_pages}
use Rattle.alp_record.specs.Adding.{Behind}
use Rattle.alp_record.proofs.Bodies.{on_ok}
use Rattle.alp_record.proofs.Stages.{slice_rest, slice_whole, after_body, after_header, staged_is}
use Rattle.alp_record.proofs.add.stage.Goals as goal

pub returns-clause-staged : goal.returns-clause-staged
returns-clause-staged g c told =
    let told2 = subst IsTrue (sym c.write_body.ensures.tells) told in
    let is = g.met.D.Disk.is_image c.write_body.new.disk told2 in
    let rest = slice_rest _ _ (c.bytes.ensures.same ∙ c.header_page-head.ensures) in
    let whole = slice_whole c.bytes.result.now c.bytes.ensures.whole in
    on_ok c.write.result _ _
    (λ written. staged_is c.args.generation c.args.at _ c.args.body.now _ _ _ _ is (omega (arith, c.requires.room, c.write_body.ensures.size)) (c.in_ok-write_body.ensures.written told) rest whole written)
    (c.write.ensures.written told2)

pub returns-clause-crash : goal.returns-clause-crash
returns-clause-crash g c = after_header c.args.at (body_pages (length c.args.body.now)) _ _ _ _ c.write_body.ensures.crash c.write.ensures.crash

pub returns-clause-any_moment : goal.returns-clause-any_moment
returns-clause-any_moment g c =
    let l = g.D.Disk.left_since in
    let n = body_pages (length c.args.body.now) in
    let was = g.D.Disk.may_leave c.args.disk.now in
    let P = After (Behind c.args.at (1 + n)) was in
    adds_more l _ _ _ P _ (adds_weaker l _ _ _ P c.write_body.ensures.any_moment (after_body c.args.at n was)) c.write.ensures.time
    (after_header c.args.at n _ _ _ _ c.write_body.ensures.crash c.write.ensures.crash)

pub returns-clause-allowance : goal.returns-clause-allowance
returns-clause-allowance g c = spends_then _ _ _ c.write_body.ensures.allowance c.write.ensures.allowance
