-- all nodes of a transaction taken off, one after another
use Rattle.std.proofs.Common.{◌≡◌, ◌⊎◌, inl, inr, ℕ, ◌+◌, ◌≤◌, Bool, true, false, cond, not, eqb, List, [], ◌∷◌, Option, None, Some, is_some, IsSome, slice_get, length, filter, refl, sym, ◌∙◌, ap, subst, eq-eqb, ne_eqb, arith}
use Rattle.std.proofs.lemmas.Bool.{eqb-true, eqb-false}
use Rattle.std.specs.FinMap as map
use Rattle.alp_chain.specs.declared.node.NodeView.{NodeView}
use Rattle.alp_chain.specs.Linked.{times, without}
use Rattle.alp_chain.specs.Lists.{list_at, taken_off}
use Rattle.alp_chain.specs.Chains.{Chains, has, is_of, StandOnce, removed, removed_as}
use Rattle.alp_chain.proofs.KeyLemmas.{get_cut}
use Rattle.alp_chain.proofs.TimesLemmas.{here, later, length-without}
use Rattle.alp_chain.proofs.ShowLemmas.{list-with_list}

-- a node that stays when the transaction goes
abbrev pub stays : Chains → ℕ → ℕ → Bool
stays c t n = not (is_of t (map.get c.nodes n))

-- some nodes of the transaction are gone, and nothing else
pub record IsPartway (t : ℕ) (c d : Chains) : Type 0 where
  pub nodes : (n : ℕ) → (map.get d.nodes n ≡ map.get c.nodes n) ⊎ ((map.get d.nodes n ≡ None) × (is_of t (map.get c.nodes n) ≡ true))
  pub on : (r : ℕ) → filter (stays c t) (list_at d.on r) ≡ filter (stays c t) (list_at c.on r)
  pub of : (k : ℕ) → (k ≡ t → ⊥) → list_at d.of k ≡ list_at c.of k
  pub spare : d.spare ≡ c.spare

pub partway-none : (t : ℕ) (c : Chains) → IsPartway t c c
partway-none t c = record { nodes = λ n. inl refl; on = λ r. refl; of = λ k h. refl; spare = refl }

-- ---- lists

filtered_step : (p : ℕ → Bool) (n x : ℕ) (xs ws : List ℕ) (u b : Bool) → eqb n x ≡ u → p x ≡ b → p n ≡ false → filter p ws ≡ filter p xs → filter p (cond (not u) (x ∷ ws) ws) ≡ cond b (x ∷ filter p xs) (filter p xs)
filtered_step p n x xs ws true true e f h ih = let same : p x ≡ false = ap p (sym (eqb-true n x e)) ∙ h in absurd (cc)
filtered_step p n x xs ws true false e f h ih = ih
filtered_step p n x xs ws false true e f h ih = ap (λ (b : Bool). cond b (x ∷ filter p ws) (filter p ws)) f ∙ ap (λ (ys : List ℕ). x ∷ ys) ih
filtered_step p n x xs ws false false e f h ih = ap (λ (b : Bool). cond b (x ∷ filter p ws) (filter p ws)) f ∙ ih

-- what a filter leaves out need not be there
pub filter-without : (p : ℕ → Bool) (n : ℕ) (xs : List ℕ) → p n ≡ false → filter p (without n xs) ≡ filter p xs
filter-without p n [] h = refl
filter-without p n (x ∷ xs) h = filtered_step p n x xs (without n xs) (eqb n x) (p x) refl refl h (filter-without p n xs h)

kept_step : (x : ℕ) (xs ys : List ℕ) (b : Bool) → b ≡ true → ys ≡ xs → cond b (x ∷ ys) ys ≡ x ∷ xs
kept_step x xs ys true e f = ap (λ (zs : List ℕ). x ∷ zs) f
kept_step x xs ys false e f = absurd (cc)

-- a filter that all pass
pub filter-all : (p : ℕ → Bool) (xs : List ℕ) → ((n : ℕ) → 1 ≤ times n xs → p n ≡ true) → filter p xs ≡ xs
filter-all p [] h = refl
filter-all p (x ∷ xs) h = kept_step x xs (filter p xs) (p x) (h x (here x xs)) (filter-all p xs (λ n m. h n (later n x xs m)))

pub first_in_list : (n : ℕ) (xs : List ℕ) → slice_get xs 0 ≡ Some n → 1 ≤ times n xs
first_in_list n [] e = absurd (cc)
first_in_list n (x ∷ xs) e = let same : x ≡ n = cc in subst (λ (y : ℕ). 1 ≤ times n (y ∷ xs)) (sym same) (here n xs)

pub no_first : (xs : List ℕ) → slice_get xs 0 ≡ None → xs ≡ []
no_first [] e = refl
no_first (x ∷ xs) e = absurd (cc)

-- ---- one more

pub record IsNodeOf (c : Chains) (t n : ℕ) : Type 0 where
  pub view : NodeView
  pub there : map.get c.nodes n ≡ Some view
  pub owned : t ≡ view.trans

owner : (c : Chains) (t n : ℕ) (o : Option NodeView) → map.get c.nodes n ≡ o → 1 ≤ cond (is_of t o) 1 0 → IsNodeOf c t n
owner c t n None e h = absurd (omega arith)
owner c t n (Some v) e h = go (eqb t v.trans) refl h where
  go : (b : Bool) → eqb t v.trans ≡ b → 1 ≤ cond b 1 0 → IsNodeOf c t n
  go true f g = record { view = v; there = e; owned = eqb-true t v.trans f }
  go false f g = absurd (omega arith)

-- who stands on the list of a transaction is its node
pub held-by : (c : Chains) (t n : ℕ) → StandOnce c → 1 ≤ times n (list_at c.of t) → IsNodeOf c t n
held-by c t n s h = owner c t n (map.get c.nodes n) refl (subst (λ (x : ℕ). 1 ≤ x) (s.of t n) h)

pub held-some : (c : Chains) (t n : ℕ) → IsNodeOf c t n → IsSome (map.get c.nodes n)
held-some c t n h = ap is_some h.there

held_is : (c : Chains) (t n : ℕ) (h : IsNodeOf c t n) → is_of t (map.get c.nodes n) ≡ true
held_is c t n h = ap (is_of t) h.there ∙ eq-eqb t h.view.trans h.owned

pub removed-is : (c : Chains) (t n : ℕ) (h : IsNodeOf c t n) → removed c n ≡ removed_as c n (Some h.view)
removed-is c t n h = ap (removed_as c n) h.there

choice : {X : Type 0} (b : Bool) (x y : X) → b ≡ false → cond b x y ≡ y
choice true x y e = absurd (cc)
choice false x y e = refl

taking : {X : Type 0} (b : Bool) (x y : X) → b ≡ true → cond b x y ≡ x
taking true x y e = refl
taking false x y e = absurd (cc)

module _ (t n : ℕ) (c d : Chains) (p : IsPartway t c d) (s : StandOnce d) (first : slice_get (list_at d.of t) 0 ≡ Some n) where
  pub it : IsNodeOf d t n
  it = held-by d t n s (first_in_list n (list_at d.of t) first)

  -- it was a node of the transaction from the start
  was : is_of t (map.get c.nodes n) ≡ true
  was = elim (p.nodes n) [
    | inl same ↦ ap (is_of t) (sym same) ∙ held_is d t n it
    | inr gone ↦ gone.1
  ]

  next_nodes : (m : ℕ) → (map.get (map.remove d.nodes n) m ≡ map.get c.nodes m) ⊎ ((map.get (map.remove d.nodes n) m ≡ None) × (is_of t (map.get c.nodes m) ≡ true))
  next_nodes m = go (eqb m n) refl (p.nodes m) where
    go : (b : Bool) → eqb m n ≡ b → (map.get d.nodes m ≡ map.get c.nodes m) ⊎ ((map.get d.nodes m ≡ None) × (is_of t (map.get c.nodes m) ≡ true))
        → (map.get (map.remove d.nodes n) m ≡ map.get c.nodes m) ⊎ ((map.get (map.remove d.nodes n) m ≡ None) × (is_of t (map.get c.nodes m) ≡ true))
    go true e was_it = inr (get_cut d.nodes n m ∙ taking (eqb m n) None (map.get d.nodes m) e, ap (λ (x : ℕ). is_of t (map.get c.nodes x)) (eqb-true m n e) ∙ was)
    go false e (inl same) = inl (get_cut d.nodes n m ∙ choice (eqb m n) None (map.get d.nodes m) e ∙ same)
    go false e (inr gone) = inr (get_cut d.nodes n m ∙ choice (eqb m n) None (map.get d.nodes m) e ∙ gone.0, gone.1)

  next_on : (r : ℕ) → filter (stays c t) (list_at (taken_off d.on it.view.resource n) r) ≡ filter (stays c t) (list_at c.on r)
  next_on r =
      ap (filter (stays c t)) (list-with_list d.on it.view.resource (without n (list_at d.on it.view.resource)) r)
      ∙ go (eqb r it.view.resource) refl
    where
      go : (b : Bool) → eqb r it.view.resource ≡ b → filter (stays c t) (cond b (without n (list_at d.on it.view.resource)) (list_at d.on r)) ≡ filter (stays c t) (list_at c.on r)
      go true e =
          filter-without (stays c t) n (list_at d.on it.view.resource) (ap not was)
          ∙ ap (λ (x : ℕ). filter (stays c t) (list_at d.on x)) (sym (eqb-true r it.view.resource e)) ∙ p.on r
      go false e = p.on r

  next_of : (k : ℕ) → (k ≡ t → ⊥) → list_at (taken_off d.of it.view.trans n) k ≡ list_at c.of k
  next_of k other =
      list-with_list d.of it.view.trans (without n (list_at d.of it.view.trans)) k
      ∙ choice (eqb k it.view.trans) (without n (list_at d.of it.view.trans)) (list_at d.of k) (ne_eqb k it.view.trans (λ e. other (e ∙ sym it.owned)))
      ∙ p.of k other

  pub partway-more : IsPartway t c (removed d n)
  partway-more = subst (IsPartway t c) (sym (removed-is d t n it)) (record { nodes = next_nodes; on = next_on; of = next_of; spare = p.spare })

  -- its list is shorter by one
  pub shorter : length (list_at (removed d n).of t) + 1 ≡ length (list_at d.of t)
  shorter =
      let one : times n (list_at d.of t) ≡ 1 = s.of t n ∙ ap (λ (b : Bool). cond b 1 0) (held_is d t n it) in
      let rest : list_at (removed d n).of t ≡ without n (list_at d.of t) =
      ap (λ (e : Chains). list_at e.of t) (removed-is d t n it)
      ∙ list-with_list d.of it.view.trans (without n (list_at d.of it.view.trans)) t
      ∙ taking (eqb t it.view.trans) (without n (list_at d.of it.view.trans)) (list_at d.of t) (eq-eqb t it.view.trans it.owned)
      ∙ ap (λ (x : ℕ). without n (list_at d.of x)) (sym it.owned) in
      let count : length (list_at (removed d n).of t) ≡ length (without n (list_at d.of t)) = ap length rest in
      omega (arith, length-without n (list_at d.of t))

-- ---- all of them

module _ (t : ℕ) (c d : Chains) (p : IsPartway t c d) (s : StandOnce d) (done : slice_get (list_at d.of t) 0 ≡ None) where
  empty : list_at d.of t ≡ []
  empty = no_first (list_at d.of t) done

  not_of : (n : ℕ) → is_of t (map.get d.nodes n) ≡ true → ⊥
  not_of n h =
      let some : times n (list_at d.of t) ≡ 1 = s.of t n ∙ ap (λ (b : Bool). cond b 1 0) h in
      let none : times n (list_at d.of t) ≡ 0 = ap (times n) empty in
      omega arith

  pub all-nodes : (n : ℕ) → map.get d.nodes n ≡ cond (is_of t (map.get c.nodes n)) None (map.get c.nodes n)
  all-nodes n = go (p.nodes n) (is_of t (map.get c.nodes n)) refl where
    go : (map.get d.nodes n ≡ map.get c.nodes n) ⊎ ((map.get d.nodes n ≡ None) × (is_of t (map.get c.nodes n) ≡ true)) → (b : Bool) → is_of t (map.get c.nodes n) ≡ b
        → map.get d.nodes n ≡ cond b None (map.get c.nodes n)
    go (inl same) true e = absurd (not_of n (ap (is_of t) same ∙ e))
    go (inl same) false e = same
    go (inr gone) true e = gone.0
    go (inr gone) false e = let yes : is_of t (map.get c.nodes n) ≡ true = gone.1 in absurd (cc)

  stay_all : (r n : ℕ) → 1 ≤ times n (list_at d.on r) → stays c t n ≡ true
  stay_all r n h = go (p.nodes n) (is_of t (map.get c.nodes n)) refl where
    present : map.get d.nodes n ≡ None → ⊥
    present e =
        let none : times n (list_at d.on r) ≡ 0 = s.on r n ∙ ap (λ (o : Option NodeView). cond (has (λ w. w.resource) r o) 1 0) e in
        omega arith

    go : (map.get d.nodes n ≡ map.get c.nodes n) ⊎ ((map.get d.nodes n ≡ None) × (is_of t (map.get c.nodes n) ≡ true)) → (b : Bool) → is_of t (map.get c.nodes n) ≡ b → not b ≡ true
    go (inl same) true e = absurd (not_of n (ap (is_of t) same ∙ e))
    go (inl same) false e = refl
    go (inr gone) b e = absurd (present gone.0)

  pub all-on : (r : ℕ) → list_at d.on r ≡ filter (stays c t) (list_at c.on r)
  all-on r = sym (filter-all (stays c t) (list_at d.on r) (stay_all r)) ∙ p.on r

  pub all-of : (k : ℕ) → list_at d.of k ≡ cond (eqb k t) [] (list_at c.of k)
  all-of k = go (eqb k t) refl where
    go : (b : Bool) → eqb k t ≡ b → list_at d.of k ≡ cond b [] (list_at c.of k)
    go true e = ap (list_at d.of) (eqb-true k t e) ∙ empty
    go false e = p.of k (eqb-false k t e)

  pub all-counted : length (list_at d.of t) ≡ 0
  all-counted = ap length empty
