use Rattle.std.specs.Prelude.{not}
use Rattle.std.specs.FinMap as map
use Rattle.std.proofs.Common.{ap, ◌∙◌, rules}
use Rattle.std.proofs.lemmas.Map.Made.{filter_same_pairs}
use Rattle.alp_base.specs.declared.key.Key.{Key}
use Rattle.alp_base.specs.declared.cell.Cell.{Cell}
use Rattle.alp_files.specs.Cells.{Cells}
use Rattle.alp_files.specs.Edits.{is_past}
use Rattle.alp_files.proofs.CellMapLemmas.{kept_entries}
use Rattle.alp_files.proofs.cell_map.CellMap.remove_pages.Goals as goal

pub returns : goal.returns
returns c =
    ap map.from_entries (filter_same_pairs _ (λ (e : Key × Cell). not (is_past c.args.file c.args.first e.0)) _ (λ k v b w f' t. search rules) _ _ c.retain.ensures.filtered)
    ∙ kept_entries (λ (k : Key). not (is_past c.args.file c.args.first k)) c.self.inside.cells.entries
    ∙ ap (λ (m : Cells). map.retain_keys m (λ k. not (is_past c.args.file c.args.first k))) c.self.view_is
