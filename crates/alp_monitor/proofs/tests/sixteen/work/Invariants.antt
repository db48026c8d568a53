use Rattle.alp_monitor.specs.Passes.{IsReady, number}
use Rattle.alp_monitor.proofs.tests.sixteen.work.Given as goal

abbrev pub invariant-loop-number : goal.invariant-loop-number
invariant-loop-number g l = IsReady l.left (number l.fn.passes.0) l.on_left × IsReady l.right (number l.fn.passes.1) l.on_right
