use Rattle.std.proofs.Common.{arith}
use Rattle.alp_drill.proofs.StepLemmas.{declare_more, declare_end}
use Rattle.alp_drill.proofs.setup.declare.Goals as goal

pub loop-i-preserved : goal.loop-i-preserved
loop-i-preserved c = declare_more c.loop-i.i _ _ _ c.loop-i.invariant c.in_ok-declare_client.ensures

pub returns : goal.returns
returns c = declare_end c.args.owners c.loop-i.i _ _ (omega (arith, c.loop-i.auto.i-end, c.loop-i-test.false)) c.loop-i.invariant
