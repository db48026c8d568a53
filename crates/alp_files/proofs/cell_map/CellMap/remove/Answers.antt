use Rattle.std.proofs.Common.{ap, ◌∙◌}
use Rattle.std.specs.FinMap as map
use Rattle.alp_files.proofs.CellMapLemmas.{one_removal}
use Rattle.alp_files.proofs.cell_map.CellMap.remove.Goals.{in-Some+in-Leader-1, in-Some+in-Page-1, in-Some+in-Owner-1, in-None-1}
use Rattle.alp_files.proofs.cell_map.CellMap.remove.Goals as goal

pub returns : goal.returns
returns c =
    one_removal c.self.inside.cells.entries c.remove.new.self.entries c.args.key.now c.remove.ensures.updates.0
    ∙ ap (λ m. map.remove m c.args.key.now) c.self.view_is
