use Rattle.std.proofs.Common.{◌≡◌, ◌++◌}
use Rattle.std.specs.List.{filter_map}
use Rattle.std.specs.BTreeMap.{values}
use Rattle.alp_files.specs.Cells.{size_in}
use Rattle.alp_files.proofs.cell_map.sizes_in.Given as goal

abbrev pub invariant-loop-cell : goal.invariant-loop-cell
invariant-loop-cell l = l.sizes.items ++ filter_map size_in l.cell-iterator ≡ filter_map size_in (values l.cells)
