use Rattle.alp_monitor.specs.Passes.{IsPassOf, IsOutside}
use Rattle.alp_bench_monitor.proofs.counter.take_turns.Given as goal

abbrev pub invariant-loop : goal.invariant-loop
invariant-loop g l = IsPassOf l.fn.monitor l.pass × IsOutside l.pass
