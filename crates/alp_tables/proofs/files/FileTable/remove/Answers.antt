use Rattle.std.proofs.Common.{◌≡◌, ◌∙◌, ◌≤◌, ◌<◌, Some, None, List, length, ℕ, sym, ap, subst, arith}
use Rattle.std.specs.FinMap as map
use Rattle.std.specs.Prelude.{is_some, true, false}
use Rattle.std.specs.List.{remove}
use Rattle.std.specs.List.Sorted.{IsStrictlySortedBy}
use Rattle.std.proofs.lemmas.List.Edits.{length-remove}
use Rattle.alp_base.specs.declared.ids.FileId.{FileId}
use Rattle.alp_base.specs.KeyLaws.{file_cmp, exact_files}
use Rattle.alp_tables.specs.Tables.{IsAt, IsPlace, rows_in}
use Rattle.alp_tables.proofs.Tables.{files_total, keys_rise, nothing_goes, no_value, len_shown, remove_row}
use Rattle.alp_tables.proofs.files.FileTable.remove.Goals as goal

pub find-requires-clause-rising : goal.find-requires-clause-rising
find-requires-clause-rising c = subst (IsStrictlySortedBy file_cmp) (sym c.as_slice.ensures.value) (keys_rise files_total exact_files c.self.inside.ids.items c.self.inside.slots.items c.self.invariant.rows)

pub invariant_of-self : goal.invariant_of-self
invariant_of-self c =
    let here : IsAt file_cmp c.args.file c.self.inside.ids.items c.in-Ok.at = subst (λ (ks : List FileId). IsAt file_cmp c.args.file ks c.in-Ok.at) c.as_slice.ensures.value c.in-Ok.ensures.found in
    record {
      rows = rw (c.remove.ensures.items, c.remove-in-Ok.ensures.items) (remove_row files_total exact_files c.self.inside.ids.items c.self.inside.slots.items c.args.file c.in-Ok.at c.self.invariant.rows here).rows;
      few = subst (λ (ks : List FileId). length ks ≤ 4096) (sym c.remove.ensures.items) (omega (arith, length-remove c.self.inside.ids.items c.in-Ok.at here.within, c.self.invariant.few));
      keys_fit = omega (arith, c.remove.ensures.capacity, c.self.invariant.keys_fit);
      values_fit = omega (arith, c.remove-in-Ok.ensures.capacity, c.self.invariant.values_fit);
    }

pub returns-in-Ok-clause-gone : goal.returns-in-Ok-clause-gone
returns-in-Ok-clause-gone c =
    let here : IsAt file_cmp c.args.file c.self.inside.ids.items c.in-Ok.at = subst (λ (ks : List FileId). IsAt file_cmp c.args.file ks c.in-Ok.at) c.as_slice.ensures.value c.in-Ok.ensures.found in
    (λ i. rows_in file_cmp (c.remove.ensures.items i) (c.remove-in-Ok.ensures.items i))
    ∙ (remove_row files_total exact_files c.self.inside.ids.items c.self.inside.slots.items c.args.file c.in-Ok.at c.self.invariant.rows here).shows
    ∙ ap (λ m. map.remove m c.args.file) c.self.view_is

pub returns-in-Err-clause-gone : goal.returns-in-Err-clause-gone
returns-in-Err-clause-gone c =
    let gap : IsPlace file_cmp c.args.file c.self.inside.ids.items c.in-Err.field-0 = subst (λ (ks : List FileId). IsPlace file_cmp c.args.file ks c.in-Err.field-0) c.as_slice.ensures.value c.in-Err.ensures.absent in
    sym c.self.view_is
    ∙ nothing_goes files_total exact_files c.self.inside.ids.items c.self.inside.slots.items c.args.file c.in-Err.field-0 c.self.invariant.rows gap
    ∙ ap (λ m. map.remove m c.args.file) c.self.view_is

pub returns-in-Ok-clause-few : goal.returns-in-Ok-clause-few
returns-in-Ok-clause-few c _ =
    let ids = c.self.inside.ids.items in
    let slots = c.self.inside.slots.items in
    let here : IsAt file_cmp c.args.file ids c.in-Ok.at = subst (λ (ks : List FileId). IsAt file_cmp c.args.file ks c.in-Ok.at) c.as_slice.ensures.value c.in-Ok.ensures.found in
    let rows = (remove_row files_total exact_files ids slots c.args.file c.in-Ok.at c.self.invariant.rows here).rows in
    let count : length (remove ids c.in-Ok.at) ≡ map.len (rows_in file_cmp (remove ids c.in-Ok.at) (remove slots c.in-Ok.at)) = len_shown files_total exact_files (remove ids c.in-Ok.at) (remove slots c.in-Ok.at) rows in
    let shown : map.len (rows_in file_cmp c.remove.new.self.items c.remove-in-Ok.new.self.items) ≡ map.len (rows_in file_cmp (remove ids c.in-Ok.at) (remove slots c.in-Ok.at)) = λ i. map.len (rows_in file_cmp (c.remove.ensures.items i) (c.remove-in-Ok.ensures.items i)) in
    subst (λ (n : ℕ). n < 4096) (sym (shown ∙ sym count)) (omega (arith, length-remove ids c.in-Ok.at here.within, c.self.invariant.few))

pub returns-in-Err-clause-few : goal.returns-in-Err-clause-few
returns-in-Err-clause-few c there =
    let gap : IsPlace file_cmp c.args.file c.self.inside.ids.items c.in-Err.field-0 = subst (λ (ks : List FileId). IsPlace file_cmp c.args.file ks c.in-Err.field-0) c.as_slice.ensures.value c.in-Err.ensures.absent in
    let none : None ≡ map.get c.args.self.now c.args.file = no_value files_total exact_files c.self.inside.ids.items c.self.inside.slots.items c.args.file c.in-Err.field-0 c.self.invariant.rows gap ∙ ap (λ m. map.get m c.args.file) c.self.view_is in
    let wrong : false ≡ true = ap is_some none ∙ there in
    cc
