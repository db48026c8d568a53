use Rattle.std.proofs.Common.{ap, ◌∙◌}
use Rattle.std.specs.FinMap as map
use Rattle.alp_files.proofs.CellMapLemmas.{one_put}
use Rattle.alp_files.proofs.cell_map.CellMap.put.Goals as goal

pub returns-clause-ok : goal.returns-clause-ok
returns-clause-ok c =
    one_put c.self.inside.cells.entries c.insert.new.self.entries c.args.key c.args.cell c.in_ok-insert.ensures.updates.0
    ∙ ap (λ m. map.insert m c.args.key c.args.cell) c.self.view_is
