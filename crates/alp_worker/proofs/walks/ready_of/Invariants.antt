use Rattle.std.proofs.Common.{◌≡◌, ◌++◌, drop}
use Rattle.alp_worker.specs.Walks.{ready_in}
use Rattle.alp_worker.proofs.walks.ready_of.Given as goal

abbrev pub invariant-loop-live : goal.invariant-loop-live
invariant-loop-live l = l.ready.items ++ ready_in (drop l.live-index l.lives) ≡ ready_in l.lives
