-- How many pages a change has.
use Rattle.std.specs.Prelude.{Bool, true, false, cond, Option, None, Some, Result, Ok, Err, OnOk, OnErr}
use Rattle.std.specs.Ordering.{nat_cmp, eq_by_cmp}
use Rattle.std.specs.Cmp.{nat_cmp_total}
use Rattle.std.specs.FinMap as map
use Rattle.std.specs.FinMap.{get-insert, get-remove, len-insert, len-remove, same_map, nat_cmp-IsAntisymmetric}
use Rattle.std.proofs.Common.{◌≡◌, ℕ, ◌+◌, ◌≤◌, ◌-◌, List, refl, sym, ◌∙◌, ap, subst, arith}
use Rattle.std.proofs.lemmas.Map.Views.{tells_apart}
use Rattle.alp_volume.specs.Drafts.{Changed, len_beside}

pub len_put : (m : Changed) (p : ℕ) (bytes : List ℕ) → map.len (map.insert m p bytes) ≤ map.len m + 1
len_put m p bytes = go (map.contains_key m p) (len-insert nat_cmp_total m p bytes)
  where
    go : (t : Bool) → map.len (map.insert m p bytes) ≡ cond t (map.len m) (map.len m + 1) → map.len (map.insert m p bytes) ≤ map.len m + 1
    go true e = omega arith
    go false e = omega arith

-- a put that may fail
pub len_after : {T E : Type 0} (r : Result T E) (old new : Changed) (p : ℕ) (bytes : List ℕ) → OnOk r (new ≡ map.insert old p bytes) → OnErr r (new ≡ old) → map.len new ≤ map.len old + 1
len_after (Ok x) old new p bytes put same = subst (λ (m : Changed). map.len m ≤ map.len old + 1) (sym put) (len_put old p bytes)
len_after (Err e) old new p bytes put same = subst (λ (m : Changed). map.len m ≤ map.len old + 1) (sym same) (omega arith)

pub len_gone : (m : Changed) (p : ℕ) → map.len (map.remove m p) ≤ map.len m
len_gone m p = go (map.contains_key m p) (len-remove nat_cmp_total m p)
  where
    go : (t : Bool) → map.len (map.remove m p) ≡ cond t (map.len m - 1) (map.len m) → map.len (map.remove m p) ≤ map.len m
    go true e = omega arith
    go false e = omega arith

-- one page more than beside one
pub len_around : (m : Changed) (p : ℕ) → map.len m ≤ len_beside p m + 1
len_around m p = go (map.contains_key m p) (len-remove nat_cmp_total m p)
  where
    go : (t : Bool) → map.len (map.remove m p) ≡ cond t (map.len m - 1) (map.len m) → map.len m ≤ map.len (map.remove m p) + 1
    go true e = omega arith
    go false e = omega arith

pub beside_own : (m : Changed) (p : ℕ) (bytes : List ℕ) → len_beside p (map.insert m p bytes) ≡ len_beside p m
beside_own m p bytes = ap map.len (same_map nat_cmp_total nat_cmp-IsAntisymmetric (map.remove (map.insert m p bytes) p) (map.remove m p) (λ q. get-remove nat_cmp_total (map.insert m p bytes) p q ∙ go q (eq_by_cmp nat_cmp q p) refl ∙ sym (get-remove nat_cmp_total m p q)))
  where
    go : (q : ℕ) (t : Bool) → eq_by_cmp nat_cmp q p ≡ t → cond t None (map.get (map.insert m p bytes) q) ≡ cond t None (map.get m q)
    go q true e = refl
    go q false e = get-insert nat_cmp_total m p bytes q ∙ ap (λ (t : Bool). cond t (Some bytes) (map.get m q)) e

pub beside_more : (m : Changed) (p i : ℕ) (bytes : List ℕ) → len_beside p (map.insert m i bytes) ≤ len_beside p m + 1
beside_more m p i bytes = go (eq_by_cmp nat_cmp i p) refl
  where
    same_at : eq_by_cmp nat_cmp i p ≡ false → (q : ℕ) (t : Bool) → eq_by_cmp nat_cmp q p ≡ t → (u : Bool) → eq_by_cmp nat_cmp q i ≡ u → cond t None (cond u (Some bytes) (map.get m q)) ≡ cond u (Some bytes) (cond t None (map.get m q))
    same_at ne q true e true d = (
        let one = tells_apart nat_cmp-IsAntisymmetric q p e in
        let two = tells_apart nat_cmp-IsAntisymmetric q i d in
        let yes : eq_by_cmp nat_cmp i p ≡ true = ap (λ (x : ℕ). eq_by_cmp nat_cmp x p) (sym two) ∙ e in
        cc
        )
    same_at ne q true e false d = refl
    same_at ne q false e u d = refl

    at : eq_by_cmp nat_cmp i p ≡ false → (q : ℕ) → map.get (map.remove (map.insert m i bytes) p) q ≡ map.get (map.insert (map.remove m p) i bytes) q
    at ne q =
        get-remove nat_cmp_total (map.insert m i bytes) p q ∙ ap (cond (eq_by_cmp nat_cmp q p) None) (get-insert nat_cmp_total m i bytes q) ∙ same_at ne q (eq_by_cmp nat_cmp q p) refl (eq_by_cmp nat_cmp q i) refl
        ∙ sym (get-insert nat_cmp_total (map.remove m p) i bytes q ∙ ap (cond (eq_by_cmp nat_cmp q i) (Some bytes)) (get-remove nat_cmp_total m p q))

    go : (t : Bool) → eq_by_cmp nat_cmp i p ≡ t → len_beside p (map.insert m i bytes) ≤ len_beside p m + 1
    go true e =
        let same : i ≡ p = tells_apart nat_cmp-IsAntisymmetric i p e in
        let own : len_beside p (map.insert m i bytes) ≡ len_beside p m = ap (λ (x : ℕ). len_beside p (map.insert m x bytes)) same ∙ beside_own m p bytes in
        omega (arith, own)
    go false e =
        let moved : len_beside p (map.insert m i bytes) ≡ map.len (map.insert (map.remove m p) i bytes) = ap map.len (same_map nat_cmp_total nat_cmp-IsAntisymmetric (map.remove (map.insert m i bytes) p) (map.insert (map.remove m p) i bytes) (at e)) in
        omega (arith, moved, len_put (map.remove m p) i bytes)

-- a put that may fail
pub beside_after : {T E : Type 0} (r : Result T E) (old new : Changed) (p : ℕ) (bytes : List ℕ) → OnOk r (new ≡ map.insert old p bytes) → OnErr r (new ≡ old) → len_beside p new ≡ len_beside p old
beside_after (Ok x) old new p bytes put same = ap (len_beside p) put ∙ beside_own old p bytes
beside_after (Err e) old new p bytes put same = ap (len_beside p) same

pub beside_put : {T E : Type 0} (r : Result T E) (old new : Changed) (p i : ℕ) (bytes : List ℕ) → OnOk r (new ≡ map.insert old i bytes) → OnErr r (new ≡ old) → len_beside p new ≤ len_beside p old + 1
beside_put (Ok x) old new p i bytes put same = subst (λ (m : Changed). len_beside p m ≤ len_beside p old + 1) (sym put) (beside_more old p i bytes)
beside_put (Err e) old new p i bytes put same = subst (λ (m : Changed). len_beside p m ≤ len_beside p old + 1) (sym same) (omega arith)
