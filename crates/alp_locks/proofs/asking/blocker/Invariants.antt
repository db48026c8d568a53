use Rattle.std.proofs.Common.{◌≡◌, drop}
use Rattle.alp_locks.specs.Asks.{blocker}
use Rattle.alp_locks.proofs.asking.blocker.Given as goal

abbrev pub invariant-loop-resource : goal.invariant-loop-resource
invariant-loop-resource l = blocker l.holders l.trans (drop l.resource-index l.rises) ≡ blocker l.holders l.trans l.rises
