use Rattle.std.specs.List.{AllByRecursion}
use Rattle.std.specs.List.Sorted.{IsStableByKey, IsNonDecreasingBy}
use Rattle.std.specs.Ordering.{nat_cmp}
use Rattle.std.proofs.Common.{◌≡◌, List, All, true, rules, sym, subst}
use Rattle.std.proofs.lemmas.List.Elements.{recursion_from_All}
use Rattle.std.proofs.lemmas.List.Sorted.{answers_always, IsNonDecreasingBy-from_sort_by_key}
use Rattle.alp_base.specs.declared.key.Key.{Key}
use Rattle.alp_base.specs.declared.cell.Cell.{Cell}
use Rattle.alp_fields.specs.Fields.{FitsKey}
use Rattle.alp_fields.specs.ChangeField.{placed}
use Rattle.alp_fields.specs.Rising.{rise}
use Rattle.alp_ready.specs.NoteOrder.{put_number}
use Rattle.alp_ready.proofs.RiseLemmas.{puts_rise}
use Rattle.alp_ready.proofs.noted.noted_puts.Goals as goal

pub returns-clause-rises : goal.returns-clause-rises
returns-clause-rises c =
    let es : List (Key × Cell) = c.args.puts.items in
    let fs : List (Key × Cell) = c.sort_by_key.new.self.items in
    let stable : IsStableByKey put_number nat_cmp es fs = c.sort_by_key.ensures.stable put_number (answers_always _ _ _ (λ f a r g h. search rules)) in
    let low : IsNonDecreasingBy put_number fs = IsNonDecreasingBy-from_sort_by_key put_number fs c.in_ok-sort_by_key.ensures.sorted (λ a r q k. search rules) in
    let all : AllByRecursion (λ (e : Key × Cell). FitsKey e.0) fs =
    recursion_from_All (λ (e : Key × Cell). FitsKey e.0) fs (subst (λ (xs : List (Key × Cell)). All (λ (e : Key × Cell). FitsKey e.0) xs) c.as_slice.ensures.value c.fit_puts.ensures) in
    subst (λ (xs : List (Key × Cell)). rise placed xs ≡ true) (sym c.new.ensures) (puts_rise es fs all c.requires low stable)

pub returns-clause-stable : goal.returns-clause-stable
returns-clause-stable c =
    let es : List (Key × Cell) = c.args.puts.items in
    let fs : List (Key × Cell) = c.sort_by_key.new.self.items in
    let stable : IsStableByKey put_number nat_cmp es fs = c.sort_by_key.ensures.stable put_number (answers_always _ _ _ (λ f a r g h. search rules)) in
    subst (λ (xs : List (Key × Cell)). IsStableByKey put_number nat_cmp es xs) (sym c.new.ensures) stable
