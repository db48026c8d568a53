use Rattle.std.proofs.Common.{◌≡◌, ◌∙◌, Some, List, ℕ, sym, ap, subst}
use Rattle.std.specs.FinMap as map
use Rattle.std.specs.List.Sorted.{IsStrictlySortedBy}
use Rattle.std.specs.Cmp.Lexicographic.{nat_list_cmp_total}
use Rattle.std.proofs.lemmas.Map.Lookups.{exact_bytes}
use Rattle.alp_base.specs.Notes.{text_cmp}
use Rattle.alp_tables.specs.Tables.{IsAt, IsPlace, rows_in}
use Rattle.alp_tables.proofs.Tables.{keys_rise, value_there, no_value}
use Rattle.alp_tables.proofs.owner_table.OwnerTable.get.Goals as goal

pub find-requires-clause-rising : goal.find-requires-clause-rising
find-requires-clause-rising c = subst (IsStrictlySortedBy text_cmp) (sym c.as_slice.ensures.value) (keys_rise nat_list_cmp_total exact_bytes c.self.inside.names.items c.self.inside.rows.items c.self.invariant.rows)

pub returns-in-Ok : goal.returns-in-Ok
returns-in-Ok c =
    let here : IsAt text_cmp c.args.name.now c.self.inside.names.items c.in-Ok.at = subst (λ (ks : List (List ℕ)). IsAt text_cmp c.args.name.now ks c.in-Ok.at) c.as_slice.ensures.value c.in-Ok.ensures.found in
    ap Some c.index.ensures
    ∙ value_there nat_list_cmp_total exact_bytes c.self.inside.names.items c.self.inside.rows.items c.args.name.now c.index.result.now c.in-Ok.at c.self.invariant.rows here
    ∙ ap (λ m. map.get m c.args.name.now) c.self.view_is

pub returns-in-Err : goal.returns-in-Err
returns-in-Err c =
    let gap : IsPlace text_cmp c.args.name.now c.self.inside.names.items c.in-Err.field-0 = subst (λ (ks : List (List ℕ)). IsPlace text_cmp c.args.name.now ks c.in-Err.field-0) c.as_slice.ensures.value c.in-Err.ensures.absent in
    no_value nat_list_cmp_total exact_bytes c.self.inside.names.items c.self.inside.rows.items c.args.name.now c.in-Err.field-0 c.self.invariant.rows gap
    ∙ ap (λ m. map.get m c.args.name.now) c.self.view_is

pub find-requires-clause-exact : goal.find-requires-clause-exact
find-requires-clause-exact c = exact_bytes
