use Rattle.std.proofs.Common.{◌≡◌, ◌++◌, drop}
use Rattle.alp_worker.specs.Walks.{open_of}
use Rattle.alp_worker.proofs.walks.open_in.Given as goal

abbrev pub invariant-loop-live : goal.invariant-loop-live
invariant-loop-live l = l.open.items ++ open_of l.trans (drop l.live-index l.lives) ≡ open_of l.trans l.lives
