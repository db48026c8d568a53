use Rattle.std.specs.Prelude.{◌+◌, ◌/◌}
use Rattle.std.proofs.Common.{refl, arith}
use Rattle.alp_drill.proofs.StepLemmas.{adds_none, rounds_more, rounds_end}
use Rattle.alp_drill.proofs.rounds.rounds.Goals as goal

pub loop-number-init : goal.loop-number-init
loop-number-init c = adds_none c.args.script.now.items _ _ refl

pub loop-number-preserved : goal.loop-number-preserved
loop-number-preserved c = rounds_more c.args.pages.now (c.args.size / 6 + 1) c.loop-number.number _ _ _ _ _ _ c.loop-number.invariant c.in_ok-round.ensures

pub returns : goal.returns
returns c = rounds_end c.args.pages.now c.args.size c.loop-number.number _ _ _ _ (omega (arith, c.loop-number.auto.number-end, c.loop-number-test.false)) c.loop-number.invariant
