use Rattle.std.specs.List.{AllByRecursion}
use Rattle.std.specs.List.Sorted.{IsStableByKey, IsNonDecreasingBy}
use Rattle.std.specs.Ordering.{nat_cmp}
use Rattle.std.proofs.Common.{◌≡◌, List, All, true, rules, ap, sym, subst, ◌∙◌}
use Rattle.std.proofs.lemmas.List.Elements.{recursion_from_All}
use Rattle.std.proofs.lemmas.List.Sorted.{answers_always, IsNonDecreasingBy-from_sort_by_key}
use Rattle.alp_base.specs.declared.key.Resource.{Resource}
use Rattle.alp_modes.specs.declared.Mode.{Mode}
use Rattle.alp_files.specs.Holdings.{held_by}
use Rattle.alp_fields.specs.Fields.{FitsResource}
use Rattle.alp_fields.specs.ReadyNote.{lock}
use Rattle.alp_fields.specs.Rising.{rise}
use Rattle.alp_ready.specs.NoteOrder.{lock_number}
use Rattle.alp_ready.proofs.RiseLemmas.{locks_rise}
use Rattle.alp_ready.proofs.BackLemmas.{same_held, held_found}
use Rattle.alp_ready.proofs.noted.noted_locks.Goals as goal

pub returns-clause-rises : goal.returns-clause-rises
returns-clause-rises c =
    let es : List (Resource × Mode) = c.args.locks.items in
    let fs : List (Resource × Mode) = c.sort_by_key.new.self.items in
    let stable : IsStableByKey lock_number nat_cmp es fs = c.sort_by_key.ensures.stable lock_number (answers_always _ _ _ (λ f a r g h. search rules)) in
    let low : IsNonDecreasingBy lock_number fs = IsNonDecreasingBy-from_sort_by_key lock_number fs c.in_ok-sort_by_key.ensures.sorted (λ a r q k. search rules) in
    let all : AllByRecursion (λ (e : Resource × Mode). FitsResource e.0) fs =
    recursion_from_All (λ (e : Resource × Mode). FitsResource e.0) fs (subst (λ (xs : List (Resource × Mode)). All (λ (e : Resource × Mode). FitsResource e.0) xs) c.as_slice.ensures.value c.fit_locks.ensures) in
    subst (λ (xs : List (Resource × Mode)). rise lock xs ≡ true) (sym c.new.ensures) (locks_rise es fs all c.requires low stable)

pub returns-clause-held : goal.returns-clause-held
returns-clause-held c r =
    let es : List (Resource × Mode) = c.args.locks.items in
    let fs : List (Resource × Mode) = c.sort_by_key.new.self.items in
    let stable : IsStableByKey lock_number nat_cmp es fs = c.sort_by_key.ensures.stable lock_number (answers_always _ _ _ (λ f a r g h. search rules)) in
    ap (λ (xs : List (Resource × Mode)). held_by xs r) c.new.ensures ∙ same_held es fs stable r ∙ held_found r es c.requires
