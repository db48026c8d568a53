use Rattle.std.specs.Prelude.{map as list_map}
use Rattle.std.specs.Ordering.{eq_by_cmp}
use Rattle.std.specs.List.{IsDistinct}
use Rattle.std.proofs.Common.{List, ap, sym, subst, ◌∙◌}
use Rattle.std.proofs.lemmas.Map.Keys.{IsDistinct-from_sorted}
use Rattle.std.specs.FinMap as map
use Rattle.alp_base.specs.declared.key.Key.{Key}
use Rattle.alp_base.specs.Keys.{key_cmp}
use Rattle.alp_base.specs.declared.cell.Cell.{Cell}
use Rattle.alp_files.specs.Cells.{Cells}
use Rattle.alp_files.specs.Edits.{edits_map, over}
use Rattle.alp_files.specs.Undo.{puts_of}
use Rattle.alp_files.proofs.CellMapLemmas.{entries_back}
use Rattle.alp_files.proofs.UndoLemmas.{tree_over}
use Rattle.alp_files.proofs.cell_map.CellMap.copies.Goals as goal

pub returns-clause-over : goal.returns-clause-over
returns-clause-over c m =
    ap (λ (xs : List (Key × Cell)). map.get (edits_map (puts_of xs) m)) c.in_ok-copies.ensures.copies
    ∙ tree_over c.self.inside.cells.entries m c.in_ok-copies.ensures.rising
    ∙ ap (λ (n : Cells). over n (map.get m)) c.self.view_is

pub returns-clause-once : goal.returns-clause-once
returns-clause-once c =
    subst (λ (xs : List (Key × Cell)). IsDistinct (eq_by_cmp key_cmp) (list_map (λ (e : Key × Cell). e.0) xs)) (sym c.in_ok-copies.ensures.copies)
    (IsDistinct-from_sorted key_cmp (list_map (λ (e : Key × Cell). e.0) c.self.inside.cells.entries) c.in_ok-copies.ensures.rising)

pub returns-clause-entries : goal.returns-clause-entries
returns-clause-entries c =
    c.in_ok-copies.ensures.copies
    ∙ sym (entries_back c.self.inside.cells.entries c.in_ok-copies.ensures.rising)
    ∙ ap map.entries c.self.view_is
