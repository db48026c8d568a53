use Rattle.std.proofs.Common.{arith}
use Rattle.alp_drill.proofs.StepLemmas.{none_yet, owners_at_more, owners_at_end}
use Rattle.alp_drill.proofs.setup.make_owners_at.Goals as goal

pub loop-i-init : goal.loop-i-init
loop-i-init c = none_yet c.args.script.now.items

pub loop-i-preserved : goal.loop-i-preserved
loop-i-preserved c = owners_at_more c.args.server c.loop-i.i _ _ _ c.loop-i.invariant c.in_ok-make_owner.ensures

pub returns : goal.returns
returns c = owners_at_end c.args.owners c.args.server c.loop-i.i _ _ (omega (arith, c.loop-i.auto.i-end, c.loop-i-test.false)) c.loop-i.invariant
