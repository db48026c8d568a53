use Rattle.std.proofs.Common.{◌≡◌, ◌∙◌, ◌<◌, ◌≤◌, Some, List, Bool, not, if◌then◌else◌, length, sym, ap, subst, arith}
use Rattle.std.specs.Prelude.{is_some}
use Rattle.std.specs.FinMap as map
use Rattle.std.specs.List.{insert}
use Rattle.std.proofs.lemmas.List.Edits.{length-insert}
use Rattle.std.specs.List.Sorted.{IsStrictlySortedBy}
use Rattle.alp_base.specs.declared.ids.FileId.{FileId}
use Rattle.alp_base.specs.KeyLaws.{file_cmp, exact_files}
use Rattle.alp_tables.specs.Tables.{IsAt, IsPlace, rows_in}
use Rattle.alp_tables.proofs.Tables.{files_total, keys_rise, value_there, no_value, insert_row, len_shown}
use Rattle.alp_tables.proofs.files.FileTable.add.Goals as goal

pub find-requires-clause-rising : goal.find-requires-clause-rising
find-requires-clause-rising c = subst (IsStrictlySortedBy file_cmp) (sym c.as_slice.ensures.value) (keys_rise files_total exact_files c.self.inside.ids.items c.self.inside.slots.items c.self.invariant.rows)

pub invariant_of-self : goal.invariant_of-self
invariant_of-self c =
    let gap : IsPlace file_cmp c.args.file c.self.inside.ids.items c.in-Err.at = subst (λ (ks : List FileId). IsPlace file_cmp c.args.file ks c.in-Err.at) c.as_slice.ensures.value c.in-Err.ensures.absent in
    let count = len_shown files_total exact_files c.self.inside.ids.items c.self.inside.slots.items c.self.invariant.rows ∙ ap map.len c.self.view_is in
    let paired = c.self.invariant.rows.paired in
    let ids : c.insert.new.self.items ≡ insert c.self.inside.ids.items c.in-Err.at c.args.file = c.insert.ensures.items ∙ ap (λ (b : Bool). if b then insert c.self.inside.ids.items c.in-Err.at c.args.file else c.self.inside.ids.items) (c.insert.ensures.succeeds (omega (arith, c.self.inside.ids.ok))) in
    let slots : c.insert-in-Err.new.self.items ≡ insert c.self.inside.slots.items c.in-Err.at c.args.slot = c.insert-in-Err.ensures.items ∙ ap (λ (b : Bool). if b then insert c.self.inside.slots.items c.in-Err.at c.args.slot else c.self.inside.slots.items) (c.insert-in-Err.ensures.succeeds (omega (arith, c.self.inside.slots.ok))) in
    record {
      rows = rw (ids, slots) (insert_row files_total exact_files c.self.inside.ids.items c.self.inside.slots.items c.args.file c.args.slot c.in-Err.at c.self.invariant.rows gap).rows;
      few = subst (λ (ks : List FileId). length ks ≤ 4096) (sym ids) (omega (arith, length-insert c.self.inside.ids.items c.in-Err.at c.args.file gap.within, count, c.requires));
      keys_fit = omega (arith, c.insert.ensures.capacity, c.self.invariant.keys_fit);
      values_fit = omega (arith, c.insert-in-Err.ensures.capacity, c.self.invariant.values_fit);
    }

pub returns-in-Ok-clause-new : goal.returns-in-Ok-clause-new
returns-in-Ok-clause-new c =
    let here : IsAt file_cmp c.args.file c.self.inside.ids.items c.in-Ok.field-0 = subst (λ (ks : List FileId). IsAt file_cmp c.args.file ks c.in-Ok.field-0) c.as_slice.ensures.value c.in-Ok.ensures.found in
    ap (λ o. not (is_some o)) (value_there files_total exact_files c.self.inside.ids.items c.self.inside.slots.items c.args.file c.args.slot c.in-Ok.field-0 c.self.invariant.rows here ∙ ap (λ m. map.get m c.args.file) c.self.view_is)

pub returns-in-Err-clause-new : goal.returns-in-Err-clause-new
returns-in-Err-clause-new c =
    let gap : IsPlace file_cmp c.args.file c.self.inside.ids.items c.in-Err.at = subst (λ (ks : List FileId). IsPlace file_cmp c.args.file ks c.in-Err.at) c.as_slice.ensures.value c.in-Err.ensures.absent in
    ap (λ o. not (is_some o)) (no_value files_total exact_files c.self.inside.ids.items c.self.inside.slots.items c.args.file c.in-Err.at c.self.invariant.rows gap ∙ ap (λ m. map.get m c.args.file) c.self.view_is)

pub returns-in-Err-clause-added : goal.returns-in-Err-clause-added
returns-in-Err-clause-added c _ =
    let gap : IsPlace file_cmp c.args.file c.self.inside.ids.items c.in-Err.at = subst (λ (ks : List FileId). IsPlace file_cmp c.args.file ks c.in-Err.at) c.as_slice.ensures.value c.in-Err.ensures.absent in
    let count = len_shown files_total exact_files c.self.inside.ids.items c.self.inside.slots.items c.self.invariant.rows ∙ ap map.len c.self.view_is in
    let paired = c.self.invariant.rows.paired in
    let ids : c.insert.new.self.items ≡ insert c.self.inside.ids.items c.in-Err.at c.args.file = c.insert.ensures.items ∙ ap (λ (b : Bool). if b then insert c.self.inside.ids.items c.in-Err.at c.args.file else c.self.inside.ids.items) (c.insert.ensures.succeeds (omega (arith, c.self.inside.ids.ok))) in
    let slots : c.insert-in-Err.new.self.items ≡ insert c.self.inside.slots.items c.in-Err.at c.args.slot = c.insert-in-Err.ensures.items ∙ ap (λ (b : Bool). if b then insert c.self.inside.slots.items c.in-Err.at c.args.slot else c.self.inside.slots.items) (c.insert-in-Err.ensures.succeeds (omega (arith, c.self.inside.slots.ok))) in
    (λ i. rows_in file_cmp (ids i) (slots i))
    ∙ (insert_row files_total exact_files c.self.inside.ids.items c.self.inside.slots.items c.args.file c.args.slot c.in-Err.at c.self.invariant.rows gap).shows
    ∙ ap (λ m. map.insert m c.args.file c.args.slot) c.self.view_is
