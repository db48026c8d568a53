use Rattle.std.proofs.Common.{◌≡◌, ◌∙◌, Some, List, sym, ap, subst}
use Rattle.std.specs.FinMap as map
use Rattle.std.specs.List.Sorted.{IsStrictlySortedBy}
use Rattle.alp_base.specs.declared.ids.FileId.{FileId}
use Rattle.alp_base.specs.KeyLaws.{file_cmp, exact_files}
use Rattle.alp_tables.specs.Tables.{IsAt, IsPlace, rows_in}
use Rattle.alp_tables.proofs.Tables.{files_total, keys_rise, value_there, no_value}
use Rattle.alp_tables.proofs.files.FileTable.get.Goals as goal

pub find-requires-clause-rising : goal.find-requires-clause-rising
find-requires-clause-rising c = subst (IsStrictlySortedBy file_cmp) (sym c.as_slice.ensures.value) (keys_rise files_total exact_files c.self.inside.ids.items c.self.inside.slots.items c.self.invariant.rows)

pub returns-in-Ok : goal.returns-in-Ok
returns-in-Ok c =
    let here : IsAt file_cmp c.args.file c.self.inside.ids.items c.in-Ok.at = subst (λ (ks : List FileId). IsAt file_cmp c.args.file ks c.in-Ok.at) c.as_slice.ensures.value c.in-Ok.ensures.found in
    ap Some c.index.ensures
    ∙ value_there files_total exact_files c.self.inside.ids.items c.self.inside.slots.items c.args.file c.index.result.now c.in-Ok.at c.self.invariant.rows here
    ∙ ap (λ m. map.get m c.args.file) c.self.view_is

pub returns-in-Err : goal.returns-in-Err
returns-in-Err c =
    let gap : IsPlace file_cmp c.args.file c.self.inside.ids.items c.in-Err.field-0 = subst (λ (ks : List FileId). IsPlace file_cmp c.args.file ks c.in-Err.field-0) c.as_slice.ensures.value c.in-Err.ensures.absent in
    no_value files_total exact_files c.self.inside.ids.items c.self.inside.slots.items c.args.file c.in-Err.field-0 c.self.invariant.rows gap
    ∙ ap (λ m. map.get m c.args.file) c.self.view_is
