-- what live transactions come to, and what all come to that began
use Rattle.std.specs.Prelude.{cond, Bool, true, false, not, ◌||◌, Option, None, Some, sum_by}
use Rattle.std.specs.FinMap as map
use Rattle.std.specs.FinMap.{same_map}
use Rattle.std.proofs.Common.{◌≡◌, ℕ, ◌+◌, List, [], ◌∷◌, refl, sym, ◌∙◌, ap, arith}
use Rattle.std.proofs.lemmas.Bool.{and_parts}
use Rattle.alp_base.specs.declared.ids.TransId.{TransId}
use Rattle.alp_base.specs.Orders.{trans_cmp, transactions_total, exact_transactions}
use Rattle.alp_files.proofs.SumLemmas.{weight_at, sum-insert, sum_of-nothing}
use Rattle.alp_journal.specs.Ids.{same_trans}
use Rattle.alp_journal.specs.Account.{has_trans, are_trans_apart}
use Rattle.alp_journal.proofs.IdLemmas.{same_trans-true, same_trans-itself}
use Rattle.alp_node.proofs.MapLemmas.{get_put, get_gone}

later : (a b : Bool) → b ≡ true → (a || b) ≡ true
later true b e = refl
later false b e = e

-- one of a map's values weighed, if it is there
abbrev pub weigh : {X : Type 0} → (X → ℕ) → Option X → ℕ
weigh g None = 0
weigh g (Some x) = g x

module _ {X : Type 0} (g : X → ℕ) where
  abbrev pub all_in : map.FinMap trans_cmp X → ℕ
  all_in m = sum_by (λ (e : TransId × X). g e.1) (map.entries m)

  -- with one taken out the others are left
  pub taken : (m : map.FinMap trans_cmp X) (t : TransId) (x : X) → map.get m t ≡ Some x → all_in (map.remove m t) + g x ≡ all_in m
  taken m t x there =
      let back : map.insert (map.remove m t) t x ≡ m = same_map transactions_total exact_transactions _ _ (λ u. get_put (map.remove m t) t x u ∙ ap (cond {A = Option X} (same_trans u t) (Some x)) (get_gone m t u) ∙ go u (same_trans u t) refl) in
      let none : map.get (map.remove m t) t ≡ None = get_gone m t t ∙ ap (λ (b : Bool). cond {A = Option X} b None (map.get m t)) (same_trans-itself t) in
      let nothing : weight_at (λ (e : TransId × X). g e.1) t (map.get (map.remove m t) t) ≡ 0 = ap (weight_at (λ (e : TransId × X). g e.1) t) none in
      let put = sum-insert transactions_total exact_transactions (λ (e : TransId × X). g e.1) (map.remove m t) t x in
      let same : all_in (map.insert (map.remove m t) t x) ≡ all_in m = ap all_in back in
      omega (arith, nothing, put, same)
    where
      go : (u : TransId) (b : Bool) → same_trans u t ≡ b → cond {A = Option X} b (Some x) (cond {A = Option X} b None (map.get m u)) ≡ map.get m u
      go u true e = sym (ap (map.get m) (same_trans-true u t e) ∙ there)
      go u false e = refl

-- what ids in a list come to
abbrev pub sum_list : (TransId → ℕ) → List TransId → ℕ
sum_list f [] = 0
sum_list f (t ∷ ts) = f t + sum_list f ts

sum_same : (f g : TransId → ℕ) (ts : List TransId) → ((t : TransId) → has_trans t ts ≡ true → f t ≡ g t) → sum_list f ts ≡ sum_list g ts
sum_same f g [] same = refl
sum_same f g (t ∷ ts) same =
    let here : f t ≡ g t = same t (ap (λ (b : Bool). b || has_trans t ts) (same_trans-itself t)) in
    let rest : sum_list f ts ≡ sum_list g ts = sum_same f g ts (λ u e. same u (later (same_trans t u) (has_trans u ts) e)) in
    omega (arith, here, rest)

-- what ids that are named once come to, where just they are there
sum_once : {X : Type 0} (g : X → ℕ) (ts : List TransId) (m : map.FinMap trans_cmp X) → are_trans_apart ts ≡ true → ((t : TransId) (x : X) → map.get m t ≡ Some x → has_trans t ts ≡ true) → sum_list (λ t. weigh g (map.get m t)) ts ≡ all_in g m
sum_once {X} g [] m apart only = sym (sum_of-nothing transactions_total exact_transactions (λ (e : TransId × X). g e.1) m (λ t x is. (let wrong : false ≡ true = only t x is in cc)))
sum_once {X} g (t ∷ ts) m apart only = go (sum_once g ts) (map.get m t) refl
  where
    both : (not (has_trans t ts) ≡ true) × (are_trans_apart ts ≡ true)
    both = and_parts (not (has_trans t ts)) (are_trans_apart ts) apart

    -- the first is not named again
    away : (u : TransId) → has_trans u ts ≡ true → same_trans u t ≡ false
    away u there = at (same_trans u t) refl
      where
        at : (b : Bool) → same_trans u t ≡ b → b ≡ false
        at false e = refl
        at true e = let wrong : false ≡ true = sym (ap (λ (v : TransId). not (has_trans v ts)) (sym (same_trans-true u t e)) ∙ ap not there) ∙ both.0 in cc

    -- another is named later
    named : (u : TransId) → same_trans u t ≡ false → (same_trans t u || has_trans u ts) ≡ true → has_trans u ts ≡ true
    named u apart_of e = at (same_trans t u) refl e
      where
        at : (b : Bool) → same_trans t u ≡ b → (b || has_trans u ts) ≡ true → has_trans u ts ≡ true
        at false f e = e
        at true f e = let wrong : true ≡ false = sym (ap (same_trans u) (same_trans-true t u f) ∙ same_trans-itself u) ∙ apart_of in cc

    go : ((m : map.FinMap trans_cmp X) → are_trans_apart ts ≡ true → ((u : TransId) (x : X) → map.get m u ≡ Some x → has_trans u ts ≡ true) → sum_list (λ u. weigh g (map.get m u)) ts ≡ all_in g m)
        → (o : Option X) → map.get m t ≡ o → weigh g (map.get m t) + sum_list (λ u. weigh g (map.get m u)) ts ≡ all_in g m
    go rec None e =
        let nothing : weigh g (map.get m t) ≡ 0 = ap (weigh g) e in
        let rest : sum_list (λ u. weigh g (map.get m u)) ts ≡ all_in g m = rec m both.1 (λ u x is. named u (other u x is (same_trans u t) refl) (only u x is)) in
        omega (arith, nothing, rest)
      where
        other : (u : TransId) (x : X) → map.get m u ≡ Some x → (b : Bool) → same_trans u t ≡ b → b ≡ false
        other u x is false f = refl
        other u x is true f = let wrong : None ≡ Some x = sym e ∙ ap (map.get m) (sym (same_trans-true u t f)) ∙ is in cc
    go rec (Some x) e =
        let here : weigh g (map.get m t) ≡ g x = ap (weigh g) e in
        let rest : sum_list (λ u. weigh g (map.get (map.remove m t) u)) ts ≡ all_in g (map.remove m t) = rec (map.remove m t) both.1 (λ u y is. narrow u y (same_trans u t) refl (sym (get_gone m t u) ∙ is)) in
        let same : sum_list (λ u. weigh g (map.get (map.remove m t) u)) ts ≡ sum_list (λ u. weigh g (map.get m u)) ts =
        sum_same (λ u. weigh g (map.get (map.remove m t) u)) (λ u. weigh g (map.get m u)) ts (λ u there. ap (weigh g) (get_gone m t u ∙ ap (λ (b : Bool). cond {A = Option X} b None (map.get m u)) (away u there))) in
        omega (arith, here, rest, same, taken g m t x e)
      where
        narrow : (u : TransId) (y : X) (b : Bool) → same_trans u t ≡ b → cond {A = Option X} b None (map.get m u) ≡ Some y → has_trans u ts ≡ true
        narrow u y true f is = let wrong : None ≡ Some y = is in cc
        narrow u y false f is = named u f (only u y is)

-- what they come to, by another measure
pub sum_there : {X : Type 0} (g : X → ℕ) (f : TransId → ℕ) (ts : List TransId) (m : map.FinMap trans_cmp X) → are_trans_apart ts ≡ true → ((t : TransId) (x : X) → map.get m t ≡ Some x → has_trans t ts ≡ true)
    → ((t : TransId) → f t ≡ weigh g (map.get m t)) → sum_list f ts ≡ all_in g m
sum_there {X} g f ts m apart only same = sum_same f (λ t. weigh g (map.get m t)) ts (λ t there. same t) ∙ sum_once g ts m apart only
