use Rattle.std.proofs.Common.{◌≡◌, ◌++◌, drop}
use Rattle.alp_worker.specs.Again.{inquiries_in}
use Rattle.alp_worker.proofs.again.inquiries_in.Given as goal

abbrev pub invariant-loop-live : goal.invariant-loop-live
invariant-loop-live l = l.out.items ++ inquiries_in l.servers l.here (drop l.live-index l.lives) ≡ inquiries_in l.servers l.here l.lives
