use Rattle.std.proofs.Common.{◌≡◌, ◌≤◌, ◌-◌, length, sym, ◌∙◌, arith}
use Rattle.alp_report.proofs.PageLemmas.{cut_zero, cut_last, shown_none}
use Rattle.alp_report.proofs.pages.shown.Goals as goal
use Rattle.alp_report.proofs.pages.shown.Goals.{then-loop-len-test+else-bytes-len-eq0, else-loop-len-test}

pub loop-len-preserved : goal.loop-len-preserved
loop-len-preserved c =
    let low : c.loop-len.len - 1 ≤ length c.args.bytes.now = omega arith in
    (low, cut_zero c.args.bytes.now c.loop-len.len c.loop-len-test.true c.loop-len.invariant.0 c.if-bytes-len-eq0.true ∙ c.loop-len.invariant.1)

pub returns : goal.returns
returns c =
    elim c.loop-len-test.branch [
      | then-loop-len-test+else-bytes-len-eq0 w ↦ sym (cut_last c.args.bytes.now c.loop-len.len w.loop-len-test.true c.loop-len.invariant.0 w.if-bytes-len-eq0.false) ∙ c.loop-len.invariant.1
      | else-loop-len-test w ↦ let none : c.loop-len.len ≡ 0 = omega arith in shown_none c.args.bytes.now c.loop-len.len none ∙ c.loop-len.invariant.1
    ]
