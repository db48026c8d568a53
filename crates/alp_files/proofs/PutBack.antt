-- an entry that was put into a map, put back as it was; where the order of its keys is total and only equal keys tie
use Rattle.std.specs.Prelude.{Option, None, Some, cond, Bool, true, false, Result, Ok, Err, OnOk, OnErr}
use Rattle.std.specs.declared.cmp.Ordering.{Ordering}
use Rattle.std.specs.declared.cmp.Ordering.TheVariants.{Less, Equal, Greater}
use Rattle.std.specs.Cmp.{IsTotalOrder, eq_by_cmp_equiv}
use Rattle.std.specs.Ordering.{eq_by_cmp, is_eq}
use Rattle.std.specs.FinMap as map
use Rattle.std.specs.FinMap.{FinMap, get-insert, get-remove, same_map}
use Rattle.std.proofs.Common.{◌≡◌, refl, sym, ◌∙◌, ap}
use Rattle.std.proofs.lemmas.Map.Lookups.{CmpEqualImpliesEq}

cond_twice : {A : Type 0} (b : Bool) (x y z : A) → cond b x (cond b y z) ≡ cond b x z
cond_twice true x y z = refl
cond_twice false x y z = refl

pub err_then : {T E : Type 0} (r : Result T E) (P Q : Type 0) → OnErr r P → (P → Q) → OnErr r Q
err_then (Ok x) P Q p f = tt
err_then (Err e) P Q p f = f p

module _ {K X : Type 0} {R : K → K → Ordering} (total : IsTotalOrder R) (exact : CmpEqualImpliesEq R) where
  pub insert_twice : (m : FinMap R X) (k : K) (c d : X) → map.insert (map.insert m k c) k d ≡ map.insert m k d
  insert_twice m k c d = same_map total exact _ _ (λ q.
      get-insert total (map.insert m k c) k d q
      ∙ ap (cond (eq_by_cmp R q k) (Some d)) (get-insert total m k c q)
      ∙ cond_twice (eq_by_cmp R q k) (Some d) (Some c) (map.get m q)
      ∙ sym (get-insert total m k d q))

  pub insert_same : (m : FinMap R X) (k : K) (d : X) → Some d ≡ map.get m k → map.insert m k d ≡ m
  insert_same m k d h = same_map total exact _ _ (λ q. get-insert total m k d q ∙ go q (R q k) refl)
    where
      go : (q : K) (o : Ordering) → R q k ≡ o → cond (is_eq o) (Some d) (map.get m q) ≡ map.get m q
      go q Equal e = h ∙ ap (map.get m) (sym (exact q k e))
      go q Less e = refl
      go q Greater e = refl

  pub insert_there : (m : FinMap R X) (k : K) (c : X) → map.get (map.insert m k c) k ≡ Some c
  insert_there m k c = get-insert total m k c k ∙ ap (λ (b : Bool). cond b (Some c) (map.get m k)) ((eq_by_cmp_equiv total).refl k)

  -- what stood there, put there again
  pub put_back : (m now new : FinMap R X) (k : K) (c d : X) → Some d ≡ map.get m k → now ≡ map.insert m k c
      → {E : Type 0} (r : Result (Option X) E) → OnOk r (new ≡ map.insert now k d) → OnErr r (map.get now k ≡ None) → new ≡ m
  put_back m now new k c d stood put (Ok x) ok absent = ok ∙ ap (λ (x : FinMap R X). map.insert x k d) put ∙ insert_twice m k c d ∙ insert_same m k d stood
  put_back m now new k c d stood put (Err e) ok absent =
      let there : map.get now k ≡ Some c = ap (λ (x : FinMap R X). map.get x k) put ∙ insert_there m k c in
      let wrong : None ≡ Some c = sym absent ∙ there in
      cc

  -- where nothing stood, taken away again
  pub taken_away : (m : FinMap R X) (k : K) (c : X) → None ≡ map.get m k → map.remove (map.insert m k c) k ≡ m
  taken_away m k c none = same_map total exact _ _ (λ q.
      get-remove total (map.insert m k c) k q
      ∙ ap (cond (eq_by_cmp R q k) None) (get-insert total m k c q)
      ∙ go q (R q k) refl)
    where
      go : (q : K) (o : Ordering) → R q k ≡ o → cond (is_eq o) None (cond (is_eq o) (Some c) (map.get m q)) ≡ map.get m q
      go q Equal e = none ∙ ap (map.get m) (sym (exact q k e))
      go q Less e = refl
      go q Greater e = refl
