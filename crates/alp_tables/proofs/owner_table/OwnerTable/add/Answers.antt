use Rattle.std.proofs.Common.{◌≡◌, ◌∙◌, ◌<◌, ◌≤◌, Some, List, ℕ, Bool, not, if◌then◌else◌, length, sym, ap, subst, arith}
use Rattle.std.specs.Prelude.{is_some}
use Rattle.std.specs.FinMap as map
use Rattle.std.specs.List.{insert}
use Rattle.std.proofs.lemmas.List.Edits.{length-insert}
use Rattle.std.specs.List.Sorted.{IsStrictlySortedBy}
use Rattle.std.specs.Cmp.Lexicographic.{nat_list_cmp_total}
use Rattle.std.proofs.lemmas.Map.Lookups.{exact_bytes}
use Rattle.alp_base.specs.Notes.{text_cmp}
use Rattle.alp_tables.specs.Tables.{IsAt, IsPlace, rows_in}
use Rattle.alp_tables.proofs.Tables.{keys_rise, value_there, no_value, insert_row, len_shown}
use Rattle.alp_tables.proofs.owner_table.OwnerTable.add.Goals as goal

pub find-requires-clause-rising : goal.find-requires-clause-rising
find-requires-clause-rising c = subst (IsStrictlySortedBy text_cmp) (sym c.as_slice.ensures.value) (keys_rise nat_list_cmp_total exact_bytes c.self.inside.names.items c.self.inside.rows.items c.self.invariant.rows)

pub invariant_of-self : goal.invariant_of-self
invariant_of-self c =
    let gap : IsPlace text_cmp c.args.name c.self.inside.names.items c.in-Err.at = subst (λ (ks : List (List ℕ)). IsPlace text_cmp c.args.name ks c.in-Err.at) c.as_slice.ensures.value c.in-Err.ensures.absent in
    let count = len_shown nat_list_cmp_total exact_bytes c.self.inside.names.items c.self.inside.rows.items c.self.invariant.rows ∙ ap map.len c.self.view_is in
    let paired = c.self.invariant.rows.paired in
    let ids : c.insert.new.self.items ≡ insert c.self.inside.names.items c.in-Err.at c.args.name = c.insert.ensures.items ∙ ap (λ (b : Bool). if b then insert c.self.inside.names.items c.in-Err.at c.args.name else c.self.inside.names.items) (c.insert.ensures.succeeds (omega (arith, c.self.inside.names.ok))) in
    let slots : c.insert-in-Err.new.self.items ≡ insert c.self.inside.rows.items c.in-Err.at c.args.row = c.insert-in-Err.ensures.items ∙ ap (λ (b : Bool). if b then insert c.self.inside.rows.items c.in-Err.at c.args.row else c.self.inside.rows.items) (c.insert-in-Err.ensures.succeeds (omega (arith, c.self.inside.rows.ok))) in
    record {
      rows = rw (ids, slots) (insert_row nat_list_cmp_total exact_bytes c.self.inside.names.items c.self.inside.rows.items c.args.name c.args.row c.in-Err.at c.self.invariant.rows gap).rows;
      few = subst (λ (ks : List (List ℕ)). length ks ≤ 256) (sym ids) (omega (arith, length-insert c.self.inside.names.items c.in-Err.at c.args.name gap.within, count, c.requires));
      keys_fit = omega (arith, c.insert.ensures.capacity, c.self.invariant.keys_fit);
      values_fit = omega (arith, c.insert-in-Err.ensures.capacity, c.self.invariant.values_fit);
    }

pub returns-in-Ok-clause-new : goal.returns-in-Ok-clause-new
returns-in-Ok-clause-new c =
    let here : IsAt text_cmp c.args.name c.self.inside.names.items c.in-Ok.field-0 = subst (λ (ks : List (List ℕ)). IsAt text_cmp c.args.name ks c.in-Ok.field-0) c.as_slice.ensures.value c.in-Ok.ensures.found in
    ap (λ o. not (is_some o)) (value_there nat_list_cmp_total exact_bytes c.self.inside.names.items c.self.inside.rows.items c.args.name c.args.row c.in-Ok.field-0 c.self.invariant.rows here ∙ ap (λ m. map.get m c.args.name) c.self.view_is)

pub returns-in-Err-clause-new : goal.returns-in-Err-clause-new
returns-in-Err-clause-new c =
    let gap : IsPlace text_cmp c.args.name c.self.inside.names.items c.in-Err.at = subst (λ (ks : List (List ℕ)). IsPlace text_cmp c.args.name ks c.in-Err.at) c.as_slice.ensures.value c.in-Err.ensures.absent in
    ap (λ o. not (is_some o)) (no_value nat_list_cmp_total exact_bytes c.self.inside.names.items c.self.inside.rows.items c.args.name c.in-Err.at c.self.invariant.rows gap ∙ ap (λ m. map.get m c.args.name) c.self.view_is)

pub returns-in-Err-clause-added : goal.returns-in-Err-clause-added
returns-in-Err-clause-added c _ =
    let gap : IsPlace text_cmp c.args.name c.self.inside.names.items c.in-Err.at = subst (λ (ks : List (List ℕ)). IsPlace text_cmp c.args.name ks c.in-Err.at) c.as_slice.ensures.value c.in-Err.ensures.absent in
    let count = len_shown nat_list_cmp_total exact_bytes c.self.inside.names.items c.self.inside.rows.items c.self.invariant.rows ∙ ap map.len c.self.view_is in
    let paired = c.self.invariant.rows.paired in
    let ids : c.insert.new.self.items ≡ insert c.self.inside.names.items c.in-Err.at c.args.name = c.insert.ensures.items ∙ ap (λ (b : Bool). if b then insert c.self.inside.names.items c.in-Err.at c.args.name else c.self.inside.names.items) (c.insert.ensures.succeeds (omega (arith, c.self.inside.names.ok))) in
    let slots : c.insert-in-Err.new.self.items ≡ insert c.self.inside.rows.items c.in-Err.at c.args.row = c.insert-in-Err.ensures.items ∙ ap (λ (b : Bool). if b then insert c.self.inside.rows.items c.in-Err.at c.args.row else c.self.inside.rows.items) (c.insert-in-Err.ensures.succeeds (omega (arith, c.self.inside.rows.ok))) in
    (λ i. rows_in text_cmp (ids i) (slots i))
    ∙ (insert_row nat_list_cmp_total exact_bytes c.self.inside.names.items c.self.inside.rows.items c.args.name c.args.row c.in-Err.at c.self.invariant.rows gap).shows
    ∙ ap (λ m. map.insert m c.args.name c.args.row) c.self.view_is

pub find-requires-clause-exact : goal.find-requires-clause-exact
find-requires-clause-exact c = exact_bytes
