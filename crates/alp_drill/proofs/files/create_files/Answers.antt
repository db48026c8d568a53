use Rattle.std.proofs.Common.{arith}
use Rattle.alp_drill.proofs.StepLemmas.{none_yet, groups_more, groups_end}
use Rattle.alp_drill.proofs.files.create_files.Goals as goal

pub loop-number-init : goal.loop-number-init
loop-number-init c = none_yet c.args.script.now.items

pub loop-number-preserved : goal.loop-number-preserved
loop-number-preserved c = groups_more c.args.shape c.args.pages.now c.loop-number.number _ _ _ c.loop-number.invariant c.in_ok-create_group.ensures

pub returns : goal.returns
returns c = groups_end c.args.shape c.args.pages.now c.loop-number.number _ _ (omega (arith, c.loop-number.auto.number-end, c.loop-number-test.false)) c.loop-number.invariant
