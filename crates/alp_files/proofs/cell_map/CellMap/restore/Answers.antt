use Rattle.std.proofs.Common.{sym, ◌∙◌}
use Rattle.alp_files.proofs.UndoLemmas.{put_over, one_removed}
use Rattle.alp_files.proofs.cell_map.CellMap.restore.Goals.{in-Some+in-Leader-1, in-Some+in-Page-1, in-Some+in-Owner-1, in-None-1}
use Rattle.alp_files.proofs.cell_map.CellMap.restore.Goals as goal

pub returns-in-Some : goal.returns-in-Some
returns-in-Some c m cell stood put =
    put_over m c.args.self.now c.replace.new.self c.args.key cell c.in-Some.cell (sym c.in-Some.is ∙ stood) put c.replace.result c.replace.ensures.ok c.replace.ensures.absent

pub returns-in-None : goal.returns-in-None
returns-in-None c m cell stood put =
    let gone = one_removed m c.self.inside.cells.entries c.remove.new.self.entries c.args.key cell (sym stood ∙ c.in-None.is) (c.self.view_is ∙ put) c.remove.ensures.updates.0 in
    elim c.match-remove.branch [
      | in-Some+in-Leader-1 w ↦ w.self-is ∙ gone
      | in-Some+in-Page-1 w ↦ w.self-is ∙ gone
      | in-Some+in-Owner-1 w ↦ w.self-is ∙ gone
      | in-None-1 w ↦ w.self-is ∙ gone
    ]
