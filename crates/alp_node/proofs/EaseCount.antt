-- how many of some blocks a part puts pages in, one put after the other
use Rattle.std.specs.Prelude.{cond, Bool, true, false, ◌&&◌, ◌||◌, filter}
use Rattle.std.specs.List.{AllByRecursion, list_any}
use Rattle.std.specs.Ordering.{eq_by_cmp}
use Rattle.std.specs.Cmp.{eq_by_cmp_equiv}
use Rattle.std.proofs.Common.{◌≡◌, ℕ, ◌+◌, List, [], ◌∷◌, length, refl, sym, ◌∙◌, ap, arith}
use Rattle.alp_base.specs.declared.key.Key.{Key}
use Rattle.alp_base.specs.Keys.{key_cmp}
use Rattle.alp_base.specs.KeyLaws.{keys_total}
use Rattle.alp_files.proofs.SameLemmas.{same_key-true, same_key-itself}
use Rattle.alp_node.proofs.KeysOnce.{AreOnce}

abbrev pub same : Key → Key → Bool
same = eq_by_cmp key_cmp

abbrev pub among : List Key → Key → Bool
among ks k = list_any (same k) ks

or_left : (a b : Bool) → (a || b) ≡ false → a ≡ false
or_left true b h = h
or_left false b h = refl

or_right : (a b : Bool) → (a || b) ≡ false → b ≡ false
or_right true b h = let wrong : true ≡ false = h in cc
or_right false b h = h

-- what is so of each that is among them
pub all_among : (P : Key → Type 0) (ks : List Key) → ((k : Key) → among ks k ≡ true → P k) → AllByRecursion P ks
all_among P [] each = tt
all_among P (k ∷ ks) each = (
  each k (ap (λ (b : Bool). b || among ks k) (same_key-itself k)),
  all_among P ks (λ q there. each q (ap (λ (b : Bool). same q k || b) there ∙ last (same q k))),
)
  where
    last : (b : Bool) → (b || true) ≡ true
    last true = refl
    last false = refl

pub filter_same : (p q : Key → Bool) (ks : List Key) → AllByRecursion (λ k. p k ≡ q k) ks → filter p ks ≡ filter q ks
filter_same p q [] h = refl
filter_same p q (k ∷ ks) h = λ i. cond {A = List Key} (h.0 i) (k ∷ filter_same p q ks h.1 i) (filter_same p q ks h.1 i)

-- where two tests differ at one key alone, which the second refuses
module _ (p q : Key → Bool) (at : Key) (off : q at ≡ false) (else_same : (k : Key) → same k at ≡ false → p k ≡ q k) where
  -- it is not among these
  count_none : (ks : List Key) → among ks at ≡ false → filter p ks ≡ filter q ks
  count_none ks none = filter_same p q ks (each ks none)
    where
      each : (xs : List Key) → among xs at ≡ false → AllByRecursion (λ k. p k ≡ q k) xs
      each [] none = tt
      each (x ∷ xs) none = (else_same x ((eq_by_cmp_equiv keys_total).symm x at ∙ or_left (same at x) (among xs at) none), each xs (or_right (same at x) (among xs at) none))

  pub count_at : (ks : List Key) → AreOnce same ks → length (filter p ks) ≡ cond {A = ℕ} (among ks at && p at) 1 0 + length (filter q ks)
  count_at [] once = refl
  count_at (k ∷ ks) once = go (same at k) refl (count_at ks once.1)
    where
      go : (b : Bool) → same at k ≡ b → length (filter p ks) ≡ cond {A = ℕ} (among ks at && p at) 1 0 + length (filter q ks) → length (cond {A = List Key} (p k) (k ∷ filter p ks) (filter p ks)) ≡ cond {A = ℕ} ((b || among ks at) && p at) 1 0 + length (cond {A = List Key} (q k) (k ∷ filter q ks) (filter q ks))
      go true e before =
          let is : at ≡ k = same_key-true at k e in
          let rest : filter p ks ≡ filter q ks = count_none ks (ap (among ks) is ∙ once.0) in
          let first : p k ≡ p at = ap p (sym is) in
          let second : q k ≡ false = ap q (sym is) ∙ off in
          (λ i. length (cond {A = List Key} (first i) (k ∷ rest i) (rest i))) ∙ one (p at) ∙ ap (λ (b : Bool). cond {A = ℕ} (p at) 1 0 + length (cond {A = List Key} b (k ∷ filter q ks) (filter q ks))) (sym second)
        where
          one : (b : Bool) → length (cond {A = List Key} b (k ∷ filter q ks) (filter q ks)) ≡ cond {A = ℕ} b 1 0 + length (filter q ks)
          one true = omega arith
          one false = omega arith
      go false e before =
          let both : p k ≡ q k = else_same k ((eq_by_cmp_equiv keys_total).symm k at ∙ e) in
          ap (λ (b : Bool). length (cond {A = List Key} b (k ∷ filter p ks) (filter p ks))) both ∙ each (q k) before
        where
          each : (b : Bool) → length (filter p ks) ≡ cond {A = ℕ} (among ks at && p at) 1 0 + length (filter q ks)
              → length (cond {A = List Key} b (k ∷ filter p ks) (filter p ks)) ≡ cond {A = ℕ} (among ks at && p at) 1 0 + length (cond {A = List Key} b (k ∷ filter q ks) (filter q ks))
          each true h = omega (arith, h)
          each false h = h
