-- the orders of words and of ids are total, and only equal keys tie; and a put is taken back
use Rattle.std.specs.Prelude.{Option, None, Some, IsSome, cond, Bool, true, false, Result, Ok, Err, OnOk, OnErr}
use Rattle.std.specs.declared.cmp.Ordering.{Ordering}
use Rattle.std.specs.declared.cmp.Ordering.TheVariants.{Less, Equal, Greater}
use Rattle.std.specs.Cmp.{IsTotalOrder, eq_by_cmp_equiv}
use Rattle.std.specs.Cmp.Lexicographic.{nat_list_cmp_total as bytes_total}
use Rattle.std.specs.Ordering.{eq_by_cmp, is_eq}
use Rattle.std.specs.FinMap as map
use Rattle.std.specs.FinMap.{get-insert, get-remove, same_map}
use Rattle.std.proofs.Common.{◌≡◌, ℕ, List, refl, sym, ◌∙◌, ap, subst}
use Rattle.std.proofs.lemmas.Map.Lookups.{CmpEqualImpliesEq, exact_bytes as bytes_exact}
use Rattle.alp_base.specs.contracts.ids.FileIdOrd.TheImpl.Laws as id_laws
use Rattle.alp_base.specs.KeyLaws.{file_cmp, exact_files as ids_exact}
use Rattle.alp_session.specs.Maps.{name_cmp, WordMap}
use Rattle.alp_session.specs.declared.meaning.Meaning.{Meaning}

pub nat_list_cmp_total : IsTotalOrder name_cmp
nat_list_cmp_total = bytes_total

pub exact_bytes : CmpEqualImpliesEq name_cmp
exact_bytes = bytes_exact

pub files_total : IsTotalOrder file_cmp
files_total = id_laws.total-law

pub exact_files : CmpEqualImpliesEq file_cmp
exact_files = ids_exact

-- ---- an entry put, and what stood there put back

cond_twice : {A : Type 0} (b : Bool) (x y z : A) → cond b x (cond b y z) ≡ cond b x z
cond_twice true x y z = refl
cond_twice false x y z = refl

-- a put that is refused only where nothing stands is none where something does
pub put_stood : {K X : Type 0} {R : K → K → Ordering} (m new : map.FinMap R X) (k : K) (d : X) → IsSome (map.get m k) → {A E : Type 0} (r : Result A E) → OnOk r (new ≡ map.insert m k d) → OnErr r (map.get m k ≡ None)
    → new ≡ map.insert m k d
put_stood {K} {X} {R} m new k d some (Ok x) ok absent = ok
put_stood {K} {X} {R} m new k d some (Err e) ok absent = let wrong : false ≡ true = subst (λ (o : Option X). IsSome o) absent some in cc

at_itself : {K : Type 0} {R : K → K → Ordering} → IsTotalOrder R → (k : K) → eq_by_cmp R k k ≡ true
at_itself total k = (eq_by_cmp_equiv total).refl k

module _ {K X : Type 0} {R : K → K → Ordering} (total : IsTotalOrder R) (exact : CmpEqualImpliesEq R) where
  put_twice : (m : map.FinMap R X) (k : K) (c d : X) → map.insert (map.insert m k c) k d ≡ map.insert m k d
  put_twice m k c d = same_map total exact _ _ (λ q.
      get-insert total (map.insert m k c) k d q
      ∙ ap (cond (eq_by_cmp R q k) (Some d)) (get-insert total m k c q)
      ∙ cond_twice (eq_by_cmp R q k) (Some d) (Some c) (map.get m q)
      ∙ sym (get-insert total m k d q))

  put_same : (m : map.FinMap R X) (k : K) (d : X) → Some d ≡ map.get m k → map.insert m k d ≡ m
  put_same m k d h = same_map total exact _ _ (λ q. get-insert total m k d q ∙ go q (R q k) refl)
    where
      go : (q : K) (o : Ordering) → R q k ≡ o → cond (is_eq o) (Some d) (map.get m q) ≡ map.get m q
      go q Equal e = h ∙ ap (map.get m) (sym (exact q k e))
      go q Less e = refl
      go q Greater e = refl

  -- what stood there, put again
  pub put_back : (m now : map.FinMap R X) (k : K) (c d : X) → Some d ≡ map.get m k → now ≡ map.insert m k c → map.insert now k d ≡ m
  put_back m now k c d stood put = ap (λ (x : map.FinMap R X). map.insert x k d) put ∙ put_twice m k c d ∙ put_same m k d stood

  -- where something is put, something stands
  pub put_stands : (m now : map.FinMap R X) (k : K) (c : X) → now ≡ map.insert m k c → map.get now k ≡ Some c
  put_stands m now k c put =
      ap (λ (x : map.FinMap R X). map.get x k) put ∙ get-insert total m k c k ∙ ap (λ (b : Bool). cond b (Some c) (map.get m k)) (at_itself total k)

  -- and so it is behind another put
  pub put_again : (m now new : map.FinMap R X) (k : K) (c d : X) → Some d ≡ map.get m k → now ≡ map.insert m k c
      → {A E : Type 0} (r : Result A E) → OnOk r (new ≡ map.insert now k d) → OnErr r (map.get now k ≡ None) → new ≡ m
  put_again m now new k c d stood put (Ok x) ok absent = ok ∙ put_back m now k c d stood put
  put_again m now new k c d stood put (Err e) ok absent =
      let wrong : None ≡ Some c = sym absent ∙ put_stands m now k c put in
      cc

  -- something put where nothing stood, taken away
  pub put_away : (m : map.FinMap R X) (k : K) (c : X) → None ≡ map.get m k → map.remove (map.insert m k c) k ≡ m
  put_away m k c none = same_map total exact _ _ (λ q.
      get-remove total (map.insert m k c) k q
      ∙ ap (cond (eq_by_cmp R q k) None) (get-insert total m k c q)
      ∙ go q (R q k) refl)
    where
      go : (q : K) (o : Ordering) → R q k ≡ o → cond (is_eq o) None (cond (is_eq o) (Some c) (map.get m q)) ≡ map.get m q
      go q Equal e = none ∙ ap (map.get m) (sym (exact q k e))
      go q Less e = refl
      go q Greater e = refl

-- what a word stood for, bound again
pub bound_back : (m now new : WordMap) (k : List ℕ) (c d : Meaning) → Some d ≡ map.get m k → now ≡ map.insert m k c
    → {E : Type 0} (r : Result (Option Meaning) E) → OnOk r (new ≡ map.insert now k d) → OnErr r (map.get now k ≡ None) → new ≡ m
bound_back m now new k c d stood put r ok absent = put_again nat_list_cmp_total exact_bytes m now new k c d stood put r ok absent

-- a word that stood for nothing, unbound
pub unbound : (m : WordMap) (k : List ℕ) (c : Meaning) → None ≡ map.get m k → map.remove (map.insert m k c) k ≡ m
unbound m k c none = put_away nat_list_cmp_total exact_bytes m k c none
