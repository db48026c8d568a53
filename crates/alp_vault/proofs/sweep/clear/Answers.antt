use Rattle.std.specs.FinMap as map
use Rattle.std.proofs.Common.{ap, ◌∙◌, is_some}
use Rattle.alp_files.specs.Cells.{Cells}
use Rattle.alp_vault.proofs.SweepLemmas.{one_cleared, one_kept}
use Rattle.alp_vault.proofs.CountLemmas.{nothing_there, something_there}
use Rattle.alp_vault.proofs.sweep.clear.Goals as goal

pub returns-then-is_none : goal.returns-then-is_none
returns-then-is_none c q =
    ap (λ (m : Cells). map.get m q) c.remove.ensures
    ∙ one_cleared c.args.cells.now c.args.kept.now c.args.key.now q (ap is_some (nothing_there c.get.result _ c.get.ensures c.if-is_none.ensures))

pub returns-else-is_none : goal.returns-else-is_none
returns-else-is_none c q = one_kept c.args.cells.now c.args.kept.now c.args.key.now q (ap is_some (something_there c.get.result _ c.get.ensures c.if-is_none.ensures).1)
