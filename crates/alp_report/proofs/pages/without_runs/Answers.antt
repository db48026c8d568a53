use Rattle.std.specs.Cmp.Lexicographic.{same_text}
use Rattle.std.proofs.Common.{◌≡◌, ◌≤◌, ◌-◌, ℕ, List, length, take, drop, replicate, sym, ◌∙◌, arith}
use Rattle.alp_report.proofs.PageLemmas.{cut_zeros}
use Rattle.alp_report.proofs.pages.without_runs.Goals as goal

pub loop-len-preserved : goal.loop-len-preserved
loop-len-preserved c =
    let bytes = c.args.bytes.now in
    let n = c.loop-len.len in
    let low : n - 64 ≤ length bytes = omega (arith, c.loop-len.invariant.0) in
    let zeros : take (n - (n - 64)) (drop (n - 64) bytes) ≡ replicate 64 0 = same_text (take (n - (n - 64)) (drop (n - 64) bytes)) c.as_slice.result.now c.if-eq.ensures ∙ c.as_slice.ensures in
    (low, cut_zeros bytes n 64 c.loop-len-test.true zeros ∙ c.loop-len.invariant.1)
