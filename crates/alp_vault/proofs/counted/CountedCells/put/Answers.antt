use Rattle.std.proofs.Common.{sym, subst}
use Rattle.alp_files.specs.Cells.{Cells}
use Rattle.alp_vault.specs.Counted.{AreCounts}
use Rattle.alp_vault.proofs.CountLemmas.{something_there, counts-same}
use Rattle.alp_vault.proofs.counted.CountedCells.put.Goals as goal

pub invariant_of-self-2 : goal.invariant_of-self-2
invariant_of-self-2 c =
    let there = something_there c.get.result _ c.get.ensures c.if-is_none.ensures in
    subst (λ (m : Cells). AreCounts c.self.inside.files c.self.inside.used m) (sym c.in_ok-old.ensures.ok)
    (counts-same c.self.inside.files c.self.inside.used c.self.inside.cells c.args.key c.args.cell there.0 c.self.invariant there.1)
