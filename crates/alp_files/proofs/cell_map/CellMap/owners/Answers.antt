use Rattle.std.specs.List.{filter_map}
use Rattle.std.proofs.Common.{Some, ap, sym, ◌∙◌}
use Rattle.alp_base.specs.declared.cell.Cell.{Cell}
use Rattle.alp_files.specs.Cells.{owner_in, owners_of}
use Rattle.alp_files.proofs.CellMapLemmas.{values_back}
use Rattle.alp_files.proofs.cell_map.CellMap.owners.Goals as goal

pub returns : goal.returns
returns c =
    c.in_ok-owners.ensures.owners ∙ ap (filter_map (λ (x : Cell). owner_in (Some x))) (sym (values_back c.self.inside.cells.entries c.in_ok-owners.ensures.rising)) ∙ ap owners_of c.self.view_is
