use Rattle.std.proofs.Common.{length}
use Rattle.alp_node.proofs.FoundLives.{AreTaken}
use Rattle.alp_node.proofs.found.lives_of.Given as goal

abbrev pub invariant-loop-one : goal.invariant-loop-one
invariant-loop-one l = AreTaken l.fn.parts.items l.parts.items l.lives

abbrev pub decreases-loop-one : goal.decreases-loop-one
decreases-loop-one l = length l.parts.items
