use Rattle.std.proofs.Common.{length}
use Rattle.alp_files.specs.Cells.{Cells}
use Rattle.alp_files.specs.Undo.{LedBy}
use Rattle.alp_vault.proofs.puts.take_back.Given as goal

abbrev pub invariant-loop-key : goal.invariant-loop-key
invariant-loop-key l = (m : Cells) → LedBy m l.fn.before.items l.fn.cells → LedBy m l.before.items l.cells

abbrev pub decreases-loop-key : goal.decreases-loop-key
decreases-loop-key l = length l.before.items
