use Rattle.std.proofs.Common.{◌≡◌, ◌∙◌, Some, None, List, sym, ap, subst}
use Rattle.std.specs.Prelude.{is_some, true, false}
use Rattle.std.specs.FinMap as map
use Rattle.std.specs.List.Sorted.{IsStrictlySortedBy}
use Rattle.alp_base.specs.declared.ids.FileId.{FileId}
use Rattle.alp_base.specs.KeyLaws.{file_cmp, exact_files}
use Rattle.alp_tables.specs.Tables.{IsAt, IsPlace, rows_in}
use Rattle.alp_tables.proofs.Tables.{files_total, keys_rise, no_value, set_row}
use Rattle.alp_tables.proofs.files.FileTable.put.Goals as goal

pub find-requires-clause-rising : goal.find-requires-clause-rising
find-requires-clause-rising c = subst (IsStrictlySortedBy file_cmp) (sym c.as_slice.ensures.value) (keys_rise files_total exact_files c.self.inside.ids.items c.self.inside.slots.items c.self.invariant.rows)

pub invariant_of-self : goal.invariant_of-self
invariant_of-self c =
    let here : IsAt file_cmp c.args.file c.self.inside.ids.items c.in-Ok.at = subst (λ (ks : List FileId). IsAt file_cmp c.args.file ks c.in-Ok.at) c.as_slice.ensures.value c.in-Ok.ensures.found in
    record {
      rows = (set_row files_total exact_files c.self.inside.ids.items c.self.inside.slots.items c.args.file c.args.slot c.in-Ok.at c.self.invariant.rows here).rows;
      few = c.self.invariant.few;
      keys_fit = c.self.invariant.keys_fit;
      values_fit = c.self.invariant.values_fit;
    }

pub returns-in-Ok : goal.returns-in-Ok
returns-in-Ok c =
    let here : IsAt file_cmp c.args.file c.self.inside.ids.items c.in-Ok.at = subst (λ (ks : List FileId). IsAt file_cmp c.args.file ks c.in-Ok.at) c.as_slice.ensures.value c.in-Ok.ensures.found in
    (set_row files_total exact_files c.self.inside.ids.items c.self.inside.slots.items c.args.file c.args.slot c.in-Ok.at c.self.invariant.rows here).shows
    ∙ ap (λ m. map.insert m c.args.file c.args.slot) c.self.view_is

pub returns-in-Err : goal.returns-in-Err
returns-in-Err c =
    let gap : IsPlace file_cmp c.args.file c.self.inside.ids.items c.in-Err.field-0 = subst (λ (ks : List FileId). IsPlace file_cmp c.args.file ks c.in-Err.field-0) c.as_slice.ensures.value c.in-Err.ensures.absent in
    let none : None ≡ map.get c.args.self.now c.args.file = no_value files_total exact_files c.self.inside.ids.items c.self.inside.slots.items c.args.file c.in-Err.field-0 c.self.invariant.rows gap ∙ ap (λ m. map.get m c.args.file) c.self.view_is in
    let wrong : false ≡ true = ap is_some none ∙ c.requires in
    cc
