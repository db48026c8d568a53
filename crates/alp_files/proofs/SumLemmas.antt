-- sums over the entries of a finite map, where its order is total and only equal keys tie
use Rattle.std.proofs.Math.Dec.{T}
use Rattle.std.specs.Prelude.{Option, None, Some, cond, Bool, true, false, not, ◌&&◌, sum_by}
use Rattle.std.specs.FinMap as map
use Rattle.std.specs.FinMap.{FinMap, entries-insert, entries_sorted, get-entries, get-retain_keys, find, is_sorted}
use Rattle.std.specs.FinMap.Entries.{put, where_key, by_order, below_all, same_entries, is_sorted-where_key, find-where_key}
use Rattle.std.specs.Ordering.{eq_by_cmp, is_eq, is_lt}
use Rattle.std.specs.Cmp.{IsTotalOrder, eq_by_cmp_equiv}
use Rattle.std.specs.declared.cmp.Ordering.{Ordering}
use Rattle.std.specs.declared.cmp.Ordering.TheVariants.{Less, Equal, Greater}
use Rattle.std.proofs.Common.{◌≡◌, ℕ, ◌+◌, List, [], ◌∷◌, refl, sym, ◌∙◌, ap, subst, arith}
use Rattle.std.proofs.lemmas.List.Sums.{sum_by-cons}
use Rattle.std.proofs.lemmas.Map.Lookups.{CmpEqualImpliesEq}
use Rattle.std.proofs.lemmas.Map.Views.{tells_apart}

and-left : (a b : Bool) → T (a && b) → T a
and-left true b h = tt
and-left false b h = absurd h

and-right : (a b : Bool) → T (a && b) → T b
and-right true b h = h
and-right false b h = absurd h

and-both : (a b : Bool) → T a → T b → T (a && b)
and-both true b g h = h
and-both false b g h = absurd g

is-less : (r : Ordering) → T (is_lt r) → r ≡ Less
is-less Less h = refl
is-less Equal h = absurd h
is-less Greater h = absurd h

-- what stands at a key, weighed
abbrev pub weight_at : {K X : Type 0} → (K × X → ℕ) → K → Option X → ℕ
weight_at w k None = 0
weight_at w k (Some x) = w (k, x)

-- the sum over a map's entries
abbrev pub sum_of : {K X : Type 0} {R : K → K → Ordering} → (K × X → ℕ) → FinMap R X → ℕ
sum_of w m = sum_by w (map.entries m)

module _ {K X : Type 0} {R : K → K → Ordering} (total : IsTotalOrder R) (exact : CmpEqualImpliesEq R) where
  find-below : (q : K) (es : List (K × X)) → T (below_all R q es) → find R q es ≡ None
  find-below q [] h = refl
  find-below q (e ∷ es) h = ap (λ r. cond (is_eq r) (Some e.1) (find R q es)) (is-less (R q e.0) (and-left _ _ h)) ∙ find-below q es (and-right _ _ h)

  below-less : (x y : K) (es : List (K × X)) → R x y ≡ Less → T (below_all R y es) → T (below_all R x es)
  below-less x y [] p h = tt
  below-less x y (e ∷ es) p h = and-both _ _ (subst (λ r. T (is_lt r)) (sym (total.trans x y e.0 p (is-less (R y e.0) (and-left _ _ h)))) tt) (below-less x y es p (and-right _ _ h))

  -- one entry more
  sum-put : (w : K × X → ℕ) (k : K) (v : X) (es : List (K × X)) → T (is_sorted R es) → sum_by w (put R k v es) + weight_at w k (find R k es) ≡ sum_by w es + w (k, v)
  sum-put w k v [] h = omega arith
  sum-put w k v (e ∷ es) h = go (R k e.0) refl (sum-put w k v es (and-right _ _ h))
    where
      go : (r : Ordering) → R k e.0 ≡ r → sum_by w (put R k v es) + weight_at w k (find R k es) ≡ sum_by w es + w (k, v)
          → sum_by w (by_order r ((k, v) ∷ e ∷ es) ((e.0, v) ∷ es) (e ∷ put R k v es)) + weight_at w k (cond (is_eq r) (Some e.1) (find R k es)) ≡ sum_by w (e ∷ es) + w (k, v)
      go Less p i =
          let none : find R k es ≡ None = find-below k es (below-less k e.0 es p (and-left _ _ h)) in
          let nothing : weight_at w k (find R k es) ≡ 0 = ap (weight_at w k) none in
          omega (arith, nothing, sum_by-cons w (k, v) (e ∷ es))
      go Equal p i =
          let new : w (k, v) ≡ w (e.0, v) = ap (λ x. w (x, v)) (exact k e.0 p) in
          let old : w (k, e.1) ≡ w e = ap (λ x. w (x, e.1)) (exact k e.0 p) in
          omega (arith, new, old, sum_by-cons w (e.0, v) es, sum_by-cons w e es)
      go Greater p i = omega (arith, i, sum_by-cons w e (put R k v es), sum_by-cons w e es)

  -- the entries that stay and those that go
  sum-where : (w : K × X → ℕ) (p : K → Bool) (es : List (K × X)) → sum_by w (where_key R (λ k. not (p k)) es) + sum_by (λ e. cond (p e.0) (w e) 0) es ≡ sum_by w es
  sum-where w p [] = refl
  sum-where w p (e ∷ es) = go (p e.0) refl (sum-where w p es)
    where
      gone : K × X → ℕ
      gone x = cond (p x.0) (w x) 0

      go : (b : Bool) → p e.0 ≡ b → sum_by w (where_key R (λ k. not (p k)) es) + sum_by gone es ≡ sum_by w es
          → sum_by w (cond (not b) (e ∷ where_key R (λ k. not (p k)) es) (where_key R (λ k. not (p k)) es)) + sum_by gone (e ∷ es) ≡ sum_by w (e ∷ es)
      go true t i = let here : gone e ≡ w e = ap (λ b. cond b (w e) 0) t in omega (arith, i, here, sum_by-cons gone e es, sum_by-cons w e es)
      go false t i =
          let here : gone e ≡ 0 = ap (λ b. cond b (w e) 0) t in
          omega (arith, i, here, sum_by-cons gone e es, sum_by-cons w e es, sum_by-cons w e (where_key R (λ k. not (p k)) es))

  -- what is found behind the first entry is found in all
  found-behind : (e : K × X) (es : List (K × X)) → T (is_sorted R (e ∷ es)) → (k : K) (x : X) → find R k es ≡ Some x → find R k (e ∷ es) ≡ Some x
  found-behind e es h k x is = go (eq_by_cmp R k e.0) refl
    where
      go : (b : Bool) → eq_by_cmp R k e.0 ≡ b → cond b (Some e.1) (find R k es) ≡ Some x
      go true t =
          let same : k ≡ e.0 = tells_apart exact k e.0 t in
          let none : find R k es ≡ None = find-below k es (subst (λ (y : K). T (below_all R y es)) (sym same) (and-left _ _ h)) in
          let wrong : Some x ≡ None = sym is ∙ none in cc
      go false t = is

  found-first : (e : K × X) (es : List (K × X)) → find R e.0 (e ∷ es) ≡ Some e.1
  found-first e es = ap (λ b. cond b (Some e.1) (find R e.0 es)) ((eq_by_cmp_equiv total).refl e.0)

  -- entries that weigh nothing
  sum-nothing : (w : K × X → ℕ) (es : List (K × X)) → T (is_sorted R es) → ((k : K) (x : X) → find R k es ≡ Some x → w (k, x) ≡ 0) → sum_by w es ≡ 0
  sum-nothing w [] h light = refl
  sum-nothing w (e ∷ es) h light =
      omega (arith, sum_by-cons w e es, light e.0 e.1 (found-first e es), sum-nothing w es (and-right _ _ h) (λ k x is. light k x (found-behind e es h k x is)))

  -- entries of which one alone weighs
  sum-single : (w : K × X → ℕ) (q : K) (es : List (K × X)) → T (is_sorted R es) → ((k : K) (x : X) → find R k es ≡ Some x → eq_by_cmp R q k ≡ false → w (k, x) ≡ 0) → sum_by w es ≡ weight_at w q (find R q es)
  sum-single w q [] h light = refl
  sum-single w q (e ∷ es) h light = go (eq_by_cmp R q e.0) refl (sum-single w q es (and-right _ _ h) behind)
    where
      behind : (k : K) (x : X) → find R k es ≡ Some x → eq_by_cmp R q k ≡ false → w (k, x) ≡ 0
      behind k x is = light k x (found-behind e es h k x is)

      go : (b : Bool) → eq_by_cmp R q e.0 ≡ b → sum_by w es ≡ weight_at w q (find R q es) → sum_by w (e ∷ es) ≡ weight_at w q (cond b (Some e.1) (find R q es))
      go true t i =
          let same : q ≡ e.0 = tells_apart exact q e.0 t in
          let none : find R q es ≡ None = find-below q es (subst (λ (y : K). T (below_all R y es)) (sym same) (and-left _ _ h)) in
          let nothing : weight_at w q (find R q es) ≡ 0 = ap (weight_at w q) none in
          let here : w (q, e.1) ≡ w e = ap (λ y. w (y, e.1)) same in
          omega (arith, sum_by-cons w e es, here, nothing, i)
      go false t i = omega (arith, sum_by-cons w e es, light e.0 e.1 (found-first e es) t, i)

  -- ---- the same of maps

  -- the entries of `retain_keys`
  pub entries-retain_keys : (m : FinMap R X) (p : K → Bool) → map.entries (map.retain_keys m p) ≡ where_key R p (map.entries m)
  entries-retain_keys m p =
      let alike : (q x : K) → R q x ≡ Equal → p x ≡ p q = λ q x e. ap p (sym (exact q x e)) in
      same_entries R total exact _ _ (entries_sorted (map.retain_keys m p)) (is_sorted-where_key R p (map.entries m) (entries_sorted m))
      (λ q. sym (get-entries (map.retain_keys m p) q) ∙ get-retain_keys m p q (alike q) ∙ ap (λ x. cond (p q) x None) (get-entries m q) ∙ sym (find-where_key R p q (alike q) (map.entries m)))

  -- what is weighed after an insertion
  pub sum-insert : (w : K × X → ℕ) (m : FinMap R X) (k : K) (v : X) → sum_of w (map.insert m k v) + weight_at w k (map.get m k) ≡ sum_of w m + w (k, v)
  sum-insert w m k v =
      let new : sum_of w (map.insert m k v) ≡ sum_by w (put R k v (map.entries m)) = ap (sum_by w) (entries-insert total m k v) in
      let old : weight_at w k (map.get m k) ≡ weight_at w k (find R k (map.entries m)) = ap (weight_at w k) (get-entries m k) in
      omega (arith, new, old, sum-put w k v (map.entries m) (entries_sorted m))

  -- what is weighed after some keys went
  pub sum-retain_keys : (w : K × X → ℕ) (m : FinMap R X) (p : K → Bool) → sum_of w (map.retain_keys m (λ k. not (p k))) + sum_of (λ e. cond (p e.0) (w e) 0) m ≡ sum_of w m
  sum-retain_keys w m p =
      let left : sum_of w (map.retain_keys m (λ k. not (p k))) ≡ sum_by w (where_key R (λ k. not (p k)) (map.entries m)) = ap (sum_by w) (entries-retain_keys m (λ k. not (p k))) in
      omega (arith, left, sum-where w p (map.entries m))

  -- a map in which nothing weighs
  pub sum_of-nothing : (w : K × X → ℕ) (m : FinMap R X) → ((k : K) (x : X) → map.get m k ≡ Some x → w (k, x) ≡ 0) → sum_of w m ≡ 0
  sum_of-nothing w m light = sum-nothing w (map.entries m) (entries_sorted m) (λ k x is. light k x (get-entries m k ∙ is))

  -- a map in which one key alone weighs
  pub sum_of-single : (w : K × X → ℕ) (q : K) (m : FinMap R X) → ((k : K) (x : X) → map.get m k ≡ Some x → eq_by_cmp R q k ≡ false → w (k, x) ≡ 0) → sum_of w m ≡ weight_at w q (map.get m q)
  sum_of-single w q m light = sum-single w q (map.entries m) (entries_sorted m) (λ k x is. light k x (get-entries m k ∙ is)) ∙ ap (weight_at w q) (sym (get-entries m q))
