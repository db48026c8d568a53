-- the first of ids that rise, of which something holds, is the least
use Rattle.std.specs.Prelude.{cond, Bool, true, false, ◌||◌, find, Option, None, Some}
use Rattle.std.specs.List.{AllByRecursion}
use Rattle.std.specs.List.Sorted.{IsStrictlySortedBy}
use Rattle.std.specs.declared.cmp.Ordering.{Ordering}
use Rattle.std.specs.declared.cmp.Ordering.TheVariants.{Less, Equal, Greater}
use Rattle.std.specs.Ordering.{is_eq, is_lt, ordering_reverse}
use Rattle.std.specs.Cmp.{eq_by_cmp_equiv}
use Rattle.std.proofs.Common.{◌≡◌, List, [], ◌∷◌, refl, sym, ◌∙◌, ap, subst}
use Rattle.alp_base.specs.declared.ids.TransId.{TransId}
use Rattle.alp_base.specs.Orders.{trans_cmp, transactions_total}
use Rattle.alp_journal.specs.Ids.{same_trans}
use Rattle.alp_journal.proofs.IdLemmas.{same_trans-true}
use Rattle.alp_coord.specs.declared.coordinator.Coordinator.{Coordinator}
use Rattle.alp_coord.specs.Coordinators.{settled_in, fate_in, open_ids, is_running_fate, IsLeastRunning}
use Rattle.alp_coord.specs.Ticks.{has_trans}
use Rattle.alp_coord.proofs.TickLemmas.{closed_fate, never}
use Rattle.alp_coord.proofs.WordLemmas.{settled_runs}

tied-level : (o : Ordering) → is_eq o ≡ true → is_lt o ≡ false
tied-level Less h = cc
tied-level Equal h = refl
tied-level Greater h = cc

-- one is not less than itself
level : (t : TransId) → is_lt (trans_cmp t t) ≡ false
level t = tied-level (trans_cmp t t) ((eq_by_cmp_equiv transactions_total).refl t)

above : (t u : TransId) → trans_cmp t u ≡ Less → is_lt (trans_cmp u t) ≡ false
above t u h = ap is_lt (transactions_total.antisymm u t ∙ ap ordering_reverse h)

-- all behind one are greater
behind : (t u : TransId) (ts : List TransId) → AllByRecursion (λ y. trans_cmp t y ≡ Less) ts → has_trans u ts ≡ true → trans_cmp t u ≡ Less
behind t u [] h there = cc
behind t u (x ∷ ts) h there = go (same_trans x u) refl there (behind t u ts h.1)
  where
    go : (b : Bool) → same_trans x u ≡ b → (b || has_trans u ts) ≡ true → (has_trans u ts ≡ true → trans_cmp t u ≡ Less) → trans_cmp t u ≡ Less
    go true e i k = subst (λ (v : TransId). trans_cmp t v ≡ Less) (same_trans-true x u e) h.0
    go false e i k = k i

-- it holds of t, and of none that is there and less
abbrev IsFirst : (TransId → Bool) → List TransId → TransId → Type 0
IsFirst p ts t = (p t ≡ true) × ((u : TransId) → has_trans u ts ≡ true → p u ≡ true → is_lt (trans_cmp u t) ≡ false)

module _ (p : TransId → Bool) where
  pub first_none : (ts : List TransId) → find p ts ≡ None → (t : TransId) → has_trans t ts ≡ true → p t ≡ false
  first_none [] none t there = cc
  first_none (u ∷ ts) none t there = go (p u) refl none (λ i. first_none ts i t)
    where
      here : p u ≡ false → (b : Bool) → same_trans u t ≡ b → (b || has_trans t ts) ≡ true → (has_trans t ts ≡ true → p t ≡ false) → p t ≡ false
      here away true e i k = ap p (sym (same_trans-true u t e)) ∙ away
      here away false e i k = k i

      go : (b : Bool) → p u ≡ b → cond {A = Option TransId} b (Some u) (find p ts) ≡ None → (find p ts ≡ None → has_trans t ts ≡ true → p t ≡ false) → p t ≡ false
      go true e i k = cc
      go false e i k = here e (same_trans u t) refl there (k i)

  pub first_some : (ts : List TransId) → IsStrictlySortedBy trans_cmp ts → (t : TransId) → find p ts ≡ Some t → IsFirst p ts t
  unfolding IsStrictlySortedBy
  first_some [] rises t is = cc
  first_some (x ∷ ts) rises t is = go (p x) refl is (first_some ts rises.1 t)
    where
      least : (u : TransId) (b : Bool) → same_trans x u ≡ b → (b || has_trans u ts) ≡ true → is_lt (trans_cmp u x) ≡ false
      least u true e i = subst (λ (v : TransId). is_lt (trans_cmp v x) ≡ false) (same_trans-true x u e) (level x)
      least u false e i = above x u (behind x u ts rises.0 i)

      later : p x ≡ false → IsFirst p ts t → (u : TransId) (b : Bool) → same_trans x u ≡ b → (b || has_trans u ts) ≡ true → p u ≡ true → is_lt (trans_cmp u t) ≡ false
      later away rest u true e i passes = never (p u) (ap p (sym (same_trans-true x u e)) ∙ away) passes
      later away rest u false e i passes = rest.1 u i passes

      go : (b : Bool) → p x ≡ b → cond {A = Option TransId} b (Some x) (find p ts) ≡ Some t → (find p ts ≡ Some t → IsFirst p ts t) → IsFirst p (x ∷ ts) t
      go true e i k =
          let same : x ≡ t = cc in
          subst (IsFirst p (x ∷ ts)) same (e, λ u there passes. least u (same_trans x u) refl there)
      go false e i k =
          let rest : IsFirst p ts t = k i in
          (rest.0, λ u there passes. later e rest u (same_trans x u) refl there passes)

-- ---- of a coordinator

pub least_first : (s : Coordinator) (x : Option TransId) → IsStrictlySortedBy trans_cmp (open_ids s) → x ≡ find (λ t. is_running_fate (fate_in s t)) (open_ids s) → IsLeastRunning s x
least_first s None rises is = λ t. go t (has_trans t (open_ids s)) refl
  where
    go : (t : TransId) (b : Bool) → has_trans t (open_ids s) ≡ b → is_running_fate (fate_in s t) ≡ false
    go t true e = first_none (λ t. is_running_fate (fate_in s t)) (open_ids s) (sym is) t e
    go t false e = ap is_running_fate (closed_fate s t e) ∙ settled_runs t (settled_in s t)
least_first s (Some t) rises is = (found.0, λ u runs. go u runs (has_trans u (open_ids s)) refl)
  where
    found : IsFirst (λ t. is_running_fate (fate_in s t)) (open_ids s) t
    found = first_some (λ t. is_running_fate (fate_in s t)) (open_ids s) rises t (sym is)

    go : (u : TransId) → is_running_fate (fate_in s u) ≡ true → (b : Bool) → has_trans u (open_ids s) ≡ b → is_lt (trans_cmp u t) ≡ false
    go u runs true e = found.1 u e runs
    go u runs false e = never (is_running_fate (fate_in s u)) (ap is_running_fate (closed_fate s u e) ∙ settled_runs u (settled_in s u)) runs
