use Rattle.std.specs.List.{filter_map}
use Rattle.std.proofs.Common.{ap, sym, ◌∙◌}
use Rattle.alp_files.specs.Cells.{size_in, sizes_of}
use Rattle.alp_files.proofs.CellMapLemmas.{values_back}
use Rattle.alp_files.proofs.cell_map.CellMap.sizes.Goals as goal

pub returns : goal.returns
returns c =
    c.in_ok-sizes.ensures.sizes ∙ ap (filter_map size_in) (sym (values_back c.self.inside.cells.entries c.in_ok-sizes.ensures.rising)) ∙ ap sizes_of c.self.view_is
