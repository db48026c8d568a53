use Rattle.std.proofs.Common.{arith}
use Rattle.alp_drill.proofs.StepLemmas.{adds_none, job_more, job_end}
use Rattle.alp_drill.proofs.storms.add_job.Goals as goal

pub loop-number-init : goal.loop-number-init
loop-number-init c = adds_none c.args.script.now.items _ _ c.dice_of-dice.ensures

pub loop-number-preserved : goal.loop-number-preserved
loop-number-preserved c =
    job_more c.args.pages.now c.args.storm c.args.client c.loop-number.number _ _ _ _ _ _ _ c.turn_of-turn.ensures.turn c.loop-number.invariant c.in_ok-transaction.ensures

pub returns : goal.returns
returns c =
    job_end c.args.pages.now c.args.storm c.args.client c.loop-number.number _ _ _ (omega (arith, c.loop-number.auto.number-end, c.loop-number-test.false)) c.requires.files.same
    c.loop-number.invariant
