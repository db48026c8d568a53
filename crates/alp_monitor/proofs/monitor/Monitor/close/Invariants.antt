use Rattle.alp_monitor.proofs.Passes.{Gathered}
use Rattle.alp_monitor.proofs.monitor.Monitor.close.Given as goal

abbrev pub invariant-loop-pass : goal.invariant-loop-pass
invariant-loop-pass g l = Gathered l.fn.self l.keeper l.fn.passes.items l.passes.items

abbrev pub decreases-loop-pass : goal.decreases-loop-pass
decreases-loop-pass g l = goal.left-loop-pass g l
