use Rattle.std.proofs.Common.{length}
use Rattle.alp_queue.proofs.tree.+grown.Given as goal

abbrev pub decreases-grown : goal.decreases-grown
decreases-grown l = length l.modes.now
