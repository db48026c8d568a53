use Rattle.std.specs.Prelude.{filter}
use Rattle.std.specs.FinMap as map
use Rattle.std.proofs.Common.{List, ap, sym, ◌∙◌}
use Rattle.alp_base.specs.declared.key.Key.{Key}
use Rattle.alp_base.specs.declared.cell.Cell.{Cell}
use Rattle.alp_files.specs.Edits.{is_in_file}
use Rattle.alp_files.specs.Cells.{Cells}
use Rattle.alp_files.proofs.CellMapLemmas.{entries_back}
use Rattle.alp_files.proofs.cell_map.CellMap.copies_of.Goals as goal

pub returns : goal.returns
returns c =
    c.in_ok-copies.ensures.copies
    ∙ ap (filter (λ (e : Key × Cell). is_in_file c.args.file e.0)) (sym (entries_back c.self.inside.cells.entries c.in_ok-copies.ensures.rising))
    ∙ ap (λ (m : Cells). filter (λ (e : Key × Cell). is_in_file c.args.file e.0) (map.entries m)) c.self.view_is
