use Rattle.std.proofs.Common.{◌≡◌}
use Rattle.std.specs.List.{find}
use Rattle.alp_locks.specs.Asks.{disagrees}
use Rattle.alp_locks.proofs.holders.holder_in.Given as goal

abbrev pub invariant-loop-other : goal.invariant-loop-other
invariant-loop-other l = find (disagrees l.trans (l.resource, l.mode)) l.locks.entries ≡ find (disagrees l.trans (l.resource, l.mode)) l.other-iterator
