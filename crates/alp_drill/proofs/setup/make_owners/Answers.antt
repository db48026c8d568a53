use Rattle.std.proofs.Common.{arith}
use Rattle.alp_drill.proofs.StepLemmas.{owners_more, owners_end}
use Rattle.alp_drill.proofs.setup.make_owners.Goals as goal

pub loop-i-preserved : goal.loop-i-preserved
loop-i-preserved c = owners_more c.args.shape.owners c.loop-i.i _ _ _ c.loop-i.invariant c.in_ok-make_owners_at.ensures

pub returns : goal.returns
returns c = owners_end c.args.shape c.loop-i.i _ _ _ (omega (arith, c.loop-i.auto.i-end, c.loop-i-test.false)) c.loop-i.invariant c.in_ok-add-2.ensures
