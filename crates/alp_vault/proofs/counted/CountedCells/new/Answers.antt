use Rattle.std.proofs.Common.{sym, subst}
use Rattle.alp_files.specs.Cells.{Cells}
use Rattle.alp_vault.specs.Counted.{AreCounts}
use Rattle.alp_vault.proofs.CountLemmas.{counts-none}
use Rattle.alp_vault.proofs.counted.CountedCells.new.Goals as goal

pub invariant_of-result : goal.invariant_of-result
invariant_of-result c = subst (λ (m : Cells). AreCounts 0 0 m) (sym c.new.ensures) counts-none
