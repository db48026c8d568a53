use Rattle.std.proofs.Common.{◌≡◌, drop}
use Rattle.alp_queue.specs.Reach.{reach_of}
use Rattle.alp_queue.proofs.locks.reached.Given as goal

abbrev pub invariant-loop-mode : goal.invariant-loop-mode
invariant-loop-mode l = reach_of l.reach (drop l.mode-index l.modes) ≡ reach_of l.fn.reach l.modes
