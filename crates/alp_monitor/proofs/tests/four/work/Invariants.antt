use Rattle.alp_monitor.specs.Passes.{IsReady, number}
use Rattle.alp_monitor.proofs.tests.four.work.Given as goal

abbrev pub invariant-loop-number : goal.invariant-loop-number
invariant-loop-number g l = IsReady l.fn.monitor (number l.fn.pass) l.pass
