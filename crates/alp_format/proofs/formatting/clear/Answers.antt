use Rattle.std.proofs.Common.{◌*◌, IsTrue, sym, ◌∙◌, subst, arith, replicate}
use Rattle.alp_disk.proofs.Moments.{adds_more}
use Rattle.alp_base.proofs.AllowanceLemmas.{spends_then}
use Rattle.alp_disk.proofs.RunLemmas.{follows_torn, holds_next}
use Rattle.alp_format.proofs.Formats.{zeros_at}
use Rattle.alp_format.proofs.formatting.clear.Goals as goal

pub returns-in_err-write-clause-crash : goal.returns-in_err-write-clause-crash
returns-in_err-write-clause-crash g c = follows_torn _ _ _ _ _ _ _ c.loop-k-test.true c.loop-k.invariant.crash c.write.ensures.crash

pub returns-in_err-write-clause-any_moment : goal.returns-in_err-write-clause-any_moment
returns-in_err-write-clause-any_moment g c =
    adds_more g.D.Disk.left_since _ _ _ _ _ c.loop-k.invariant.any_moment c.write.ensures.time (follows_torn _ _ _ _ _ _ _ c.loop-k-test.true c.loop-k.invariant.crash c.write.ensures.crash)

pub loop-k-preserved : goal.loop-k-preserved
loop-k-preserved g c =
    let before = c.loop-k.invariant in
    let crash = follows_torn _ _ _ _ _ _ _ c.loop-k-test.true before.crash c.write.ensures.crash in
    record {
      written = λ told. let told2 = subst IsTrue (sym before.tells) told in
          holds_next c.args.first c.loop-k.k _ (replicate (512 * c.args.count) 0) c.bytes.result.now _ _ _ (before.written told) (g.met.D.Disk.is_image c.loop-k.disk told2) (omega (arith, c.requires, c.loop-k-test.true, before.size)) (c.bytes.ensures.same ∙ c.zero-blank.ensures ∙ sym (zeros_at c.args.count c.loop-k.k c.loop-k-test.true)) c.bytes.ensures.whole (c.in_ok-write.ensures.written told2);
      crash = crash;
      any_moment = adds_more g.D.Disk.left_since _ _ _ _ _ before.any_moment c.write.ensures.time crash;
      tells = c.write.ensures.tells ∙ before.tells;
      size = c.write.ensures.size ∙ before.size;
      allowance = spends_then _ _ _ before.allowance c.write.ensures.allowance;
      faults = c.in_ok-write.ensures.cause.no_fault ∙ before.faults;
    }
