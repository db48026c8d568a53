use Rattle.std.proofs.Common.{◌≡◌, drop}
use Rattle.std.specs.FinMap as map
use Rattle.alp_locks.specs.Asks.{joined}
use Rattle.alp_locks.proofs.asking.asked_modes.Given as goal

abbrev pub invariant-loop-resource : goal.invariant-loop-resource
invariant-loop-resource l = joined l.modes (drop l.resource-index l.needs) ≡ joined map.empty l.needs
