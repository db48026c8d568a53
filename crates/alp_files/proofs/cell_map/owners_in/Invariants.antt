use Rattle.std.proofs.Common.{◌≡◌, ◌++◌, Some}
use Rattle.std.specs.List.{filter_map}
use Rattle.std.specs.BTreeMap.{values}
use Rattle.alp_base.specs.declared.cell.Cell.{Cell}
use Rattle.alp_files.specs.Cells.{owner_in}
use Rattle.alp_files.proofs.cell_map.owners_in.Given as goal

abbrev pub invariant-loop-cell : goal.invariant-loop-cell
invariant-loop-cell l = l.owners.items ++ filter_map (λ (c : Cell). owner_in (Some c)) l.cell-iterator ≡ filter_map (λ (c : Cell). owner_in (Some c)) (values l.cells)
