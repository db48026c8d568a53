use Rattle.std.specs.Prelude.{true, false, replicate, ◌++◌}
use Rattle.std.proofs.Common.{◌≡◌, ◌-◌}
use Rattle.alp_tables.proofs.free.Free.behind.Given as goal

abbrev pub invariant-loop-number : goal.invariant-loop-number
invariant-loop-number l = l.free ≡ replicate l.number true ++ replicate (l.count - l.number) false
