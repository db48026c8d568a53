use Rattle.std.proofs.Common.{arith}
use Rattle.alp_drill.proofs.StepLemmas.{adds_none, visits_more, visits_end}
use Rattle.alp_drill.proofs.transactions.visits.Goals as goal

pub loop-init : goal.loop-init
loop-init c = adds_none c.args.script.now.items _ _ c.roll-more.ensures.dice

pub loop-preserved : goal.loop-preserved
loop-preserved c = visits_more c.args.pages.now c.args.turn c.loop.counter _ _ _ _ _ _ c.loop.invariant c.in_ok-visit.ensures

pub returns : goal.returns
returns c =
    visits_end c.args.pages.now c.args.turn c.roll-more.result c.loop.counter _ _ _ _ c.roll-more.ensures.value (omega (arith, c.loop.auto.counter-end, c.loop-test.false)) c.loop.invariant
