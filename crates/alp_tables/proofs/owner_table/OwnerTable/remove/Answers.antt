use Rattle.std.proofs.Common.{◌≡◌, ◌∙◌, ◌≤◌, Some, None, List, ℕ, length, sym, ap, subst, arith}
use Rattle.std.specs.FinMap as map
use Rattle.std.specs.List.Sorted.{IsStrictlySortedBy}
use Rattle.std.specs.Cmp.Lexicographic.{nat_list_cmp_total}
use Rattle.std.proofs.lemmas.List.Edits.{length-remove}
use Rattle.std.proofs.lemmas.Map.Lookups.{exact_bytes}
use Rattle.alp_base.specs.Notes.{text_cmp}
use Rattle.alp_tables.specs.Tables.{IsAt, IsPlace, rows_in}
use Rattle.alp_tables.proofs.Tables.{keys_rise, nothing_goes, remove_row}
use Rattle.alp_tables.proofs.owner_table.OwnerTable.remove.Goals as goal

pub find-requires-clause-exact : goal.find-requires-clause-exact
find-requires-clause-exact c = exact_bytes

pub find-requires-clause-rising : goal.find-requires-clause-rising
find-requires-clause-rising c = subst (IsStrictlySortedBy text_cmp) (sym c.as_slice.ensures.value) (keys_rise nat_list_cmp_total exact_bytes c.self.inside.names.items c.self.inside.rows.items c.self.invariant.rows)

pub invariant_of-self : goal.invariant_of-self
invariant_of-self c =
    let here : IsAt text_cmp c.args.name.now c.self.inside.names.items c.in-Ok.at = subst (λ (ks : List (List ℕ)). IsAt text_cmp c.args.name.now ks c.in-Ok.at) c.as_slice.ensures.value c.in-Ok.ensures.found in
    record {
      rows = rw (c.remove.ensures.items, c.remove-in-Ok.ensures.items) (remove_row nat_list_cmp_total exact_bytes c.self.inside.names.items c.self.inside.rows.items c.args.name.now c.in-Ok.at c.self.invariant.rows here).rows;
      few = subst (λ (ks : List (List ℕ)). length ks ≤ 256) (sym c.remove.ensures.items) (omega (arith, length-remove c.self.inside.names.items c.in-Ok.at here.within, c.self.invariant.few));
      keys_fit = omega (arith, c.remove.ensures.capacity, c.self.invariant.keys_fit);
      values_fit = omega (arith, c.remove-in-Ok.ensures.capacity, c.self.invariant.values_fit);
    }

pub returns-in-Ok : goal.returns-in-Ok
returns-in-Ok c =
    let here : IsAt text_cmp c.args.name.now c.self.inside.names.items c.in-Ok.at = subst (λ (ks : List (List ℕ)). IsAt text_cmp c.args.name.now ks c.in-Ok.at) c.as_slice.ensures.value c.in-Ok.ensures.found in
    (λ i. rows_in text_cmp (c.remove.ensures.items i) (c.remove-in-Ok.ensures.items i))
    ∙ (remove_row nat_list_cmp_total exact_bytes c.self.inside.names.items c.self.inside.rows.items c.args.name.now c.in-Ok.at c.self.invariant.rows here).shows
    ∙ ap (λ m. map.remove m c.args.name.now) c.self.view_is

pub returns-in-Err : goal.returns-in-Err
returns-in-Err c =
    let gap : IsPlace text_cmp c.args.name.now c.self.inside.names.items c.in-Err.field-0 = subst (λ (ks : List (List ℕ)). IsPlace text_cmp c.args.name.now ks c.in-Err.field-0) c.as_slice.ensures.value c.in-Err.ensures.absent in
    sym c.self.view_is
    ∙ nothing_goes nat_list_cmp_total exact_bytes c.self.inside.names.items c.self.inside.rows.items c.args.name.now c.in-Err.field-0 c.self.invariant.rows gap
    ∙ ap (λ m. map.remove m c.args.name.now) c.self.view_is
