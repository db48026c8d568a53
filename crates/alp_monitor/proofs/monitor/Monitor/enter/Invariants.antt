use Rattle.alp_monitor.specs.Passes.{IsUntouched}
use Rattle.alp_monitor.proofs.monitor.Monitor.enter.Given as goal

abbrev pub invariant-loop : goal.invariant-loop
invariant-loop g l = IsUntouched l.fn.pass l.pass
