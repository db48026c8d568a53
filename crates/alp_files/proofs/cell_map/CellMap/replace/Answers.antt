use Rattle.std.proofs.Common.{ap, sym, ◌∙◌}
use Rattle.std.specs.FinMap as map
use Rattle.alp_files.proofs.CellMapLemmas.{one_put, get_cell}
use Rattle.alp_files.proofs.UndoLemmas.{on_err}
use Rattle.alp_files.proofs.cell_map.CellMap.replace.Goals as goal

pub returns-in_err-old-clause-absent : goal.returns-in_err-old-clause-absent
returns-in_err-old-clause-absent c =
    on_err c.from_residual.result _ (ap (λ m. map.get m c.args.key) (sym c.self.view_is) ∙ get_cell c.self.inside.cells.entries c.args.key ∙ c.in_err-old.ensures.absent)

pub returns-clause-ok : goal.returns-clause-ok
returns-clause-ok c =
    one_put c.self.inside.cells.entries c.insert.new.self.entries c.args.key c.args.cell c.in_ok-old.ensures.updates.0
    ∙ ap (λ m. map.insert m c.args.key c.args.cell) c.self.view_is

pub returns-clause-old : goal.returns-clause-old
returns-clause-old c = c.in_ok-old.ensures.old ∙ sym (get_cell c.self.inside.cells.entries c.args.key) ∙ ap (λ m. map.get m c.args.key) c.self.view_is
