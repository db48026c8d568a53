use Rattle.alp_monitor.specs.Passes.{IsHeld, number}
use Rattle.alp_carrier_tests.specs.Depots.{is_open_of}
use Rattle.alp_carrier_tests.proofs.tests.send_forty_each.Given as goal

abbrev pub invariant-loop-message : goal.invariant-loop-message
invariant-loop-message g l = IsHeld is_open_of l.fn.monitor (number l.fn.pass) l.pass
