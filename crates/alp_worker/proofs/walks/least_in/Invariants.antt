use Rattle.std.specs.Prelude.{None}
use Rattle.std.proofs.Common.{◌≡◌, drop}
use Rattle.alp_worker.specs.Walks.{least_from}
use Rattle.alp_worker.proofs.walks.least_in.Given as goal

abbrev pub invariant-loop-live : goal.invariant-loop-live
invariant-loop-live l = least_from l.least (drop l.live-index l.lives) ≡ least_from None l.lives
