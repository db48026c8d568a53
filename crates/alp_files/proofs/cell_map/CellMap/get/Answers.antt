use Rattle.std.proofs.Common.{ap, sym, ◌∙◌}
use Rattle.std.specs.FinMap as map
use Rattle.alp_files.proofs.CellMapLemmas.{get_cell}
use Rattle.alp_files.proofs.cell_map.CellMap.get.Goals as goal

pub returns : goal.returns
returns c = c.get.ensures.value ∙ sym (get_cell c.self.inside.cells.entries c.args.key.now) ∙ ap (λ m. map.get m c.args.key.now) c.self.view_is
