-- One and two passes of a ring, taken out and put back.
use Rattle.std.proofs.Common.{◌≡◌, ◌≢◌, ℕ, zero, suc, ◌+◌, ◌-◌, ◌<◌, ◌≤◌, List, [], ◌∷◌, ◌++◌, length, set, Option, Some, None, refl, sym, ap, ◌∙◌, subst, arith, ◌⊎◌, inl, inr}
use Rattle.std.specs.Prelude.{slice_get}
use Rattle.std.specs.List.{insert, remove}
use Rattle.alp_storm.proofs.Lists.{get_within, same_some}

pub lt_or : (m n : ℕ) → m ≢ n → (m < n) ⊎ (n < m)
lt_or zero zero ne = absurd (ne refl)
lt_or zero (suc n) ne = inl (omega arith)
lt_or (suc m) zero ne = inr (omega arith)
lt_or (suc m) (suc n) ne = more (lt_or m n (λ e. ne (ap suc e)))
  where
    more : (m < n) ⊎ (n < m) → (suc m < suc n) ⊎ (suc n < suc m)
    more (inl l) = inl (omega (arith, l))
    more (inr l) = inr (omega (arith, l))

module _ {A : Type 0} where
  -- an element that is taken out and put back changed
  pub put_back : (xs : List A) (i : ℕ) (x : A) → i < length xs → insert (remove xs i) i x ≡ set xs i x
  put_back [] i x l = absurd (omega arith)
  put_back (y ∷ ys) zero x l = refl
  put_back (y ∷ ys) (suc i) x l = ap (λ l. y ∷ l) (put_back ys i x (omega arith))

  -- two elements: the one at `to` first, and then the one at `from`, which stands at `at` by then
  pub put_two : (xs : List A) (from to at : ℕ) (s r : A) → from < length xs → to < length xs → from ≢ to → (from < to → at ≡ from) → (to < from → at + 1 ≡ from) → insert (set (remove xs to) at s) to r ≡ set (set xs from s) to r
  put_two [] from to at s r lf lt ne low high = absurd (omega arith)
  put_two (x ∷ xs) zero zero at s r lf lt ne low high = absurd (ne refl)
  put_two (x ∷ xs) zero (suc to) zero s r lf lt ne low high = ap (λ l. s ∷ l) (put_back xs to r (omega arith))
  put_two (x ∷ xs) zero (suc to) (suc at) s r lf lt ne low high = absurd (let e = low (omega arith) in omega (arith, e))
  put_two (x ∷ xs) (suc from) zero at s r lf lt ne low high = let e : at ≡ from = (let h = high (omega arith) in omega (arith, h)) in ap (λ k. r ∷ set xs k s) e
  put_two (x ∷ xs) (suc from) (suc to) zero s r lf lt ne low high = absurd (never (lt_or from to (λ e. ne (ap suc e))))
    where
      never : (from < to) ⊎ (to < from) → ⊥
      never (inl l) = let e = low (omega (arith, l)) in omega (arith, e)
      never (inr l) = let e = high (omega (arith, l)) in omega (arith, e, l)
  put_two (x ∷ xs) (suc from) (suc to) (suc at) s r lf lt ne low high =
      ap (λ l. x ∷ l) (put_two xs from to at s r (omega arith) (omega arith) (λ e. ne (ap suc e)) (λ l. let e = low (omega (arith, l)) in omega (arith, e)) (λ l. let e = high (omega (arith, l)) in omega (arith, e)))

  -- what stands at `at`, once the element at `to` was taken out
  pub take_two : (xs : List A) (from to at : ℕ) → to < length xs → from ≢ to → (from < to → at ≡ from) → (to < from → at + 1 ≡ from) → slice_get (remove xs to) at ≡ slice_get xs from
  take_two [] from to at lt ne low high = absurd (omega arith)
  take_two (x ∷ xs) zero zero at lt ne low high = absurd (ne refl)
  take_two (x ∷ xs) zero (suc to) zero lt ne low high = refl
  take_two (x ∷ xs) zero (suc to) (suc at) lt ne low high = absurd (let e = low (omega arith) in omega (arith, e))
  take_two (x ∷ xs) (suc from) zero at lt ne low high = let e : at ≡ from = (let h = high (omega arith) in omega (arith, h)) in ap (λ k. slice_get xs k) e
  take_two (x ∷ xs) (suc from) (suc to) zero lt ne low high = absurd (never (lt_or from to (λ e. ne (ap suc e))))
    where
      never : (from < to) ⊎ (to < from) → ⊥
      never (inl l) = let e = low (omega (arith, l)) in omega (arith, e)
      never (inr l) = let e = high (omega (arith, l)) in omega (arith, e, l)
  take_two (x ∷ xs) (suc from) (suc to) (suc at) lt ne low high =
      take_two xs from to at (omega arith) (λ e. ne (ap suc e)) (λ l. let e = low (omega (arith, l)) in omega (arith, e)) (λ l. let e = high (omega (arith, l)) in omega (arith, e))

  -- what stands in a list with one element changed
  pub get_set : (xs : List A) (i k : ℕ) (x y : A) → slice_get (set xs i x) k ≡ Some y → ((k ≡ i) × (y ≡ x)) ⊎ ((k ≢ i) × (slice_get xs k ≡ Some y))
  get_set [] i k x y e = inr ((λ z. absurd (let f : None ≡ Some y = e in cc)), e)
  get_set (z ∷ zs) zero zero x y e = inl (refl, sym (same_some x y e))
  get_set (z ∷ zs) zero (suc k) x y e = inr ((λ z. omega (arith, z)), e)
  get_set (z ∷ zs) (suc i) zero x y e = inr ((λ z. omega (arith, z)), e)
  get_set (z ∷ zs) (suc i) (suc k) x y e = more (get_set zs i k x y e)
    where
      more : ((k ≡ i) × (y ≡ x)) ⊎ ((k ≢ i) × (slice_get zs k ≡ Some y)) → ((suc k ≡ suc i) × (y ≡ x)) ⊎ ((suc k ≢ suc i) × (slice_get zs k ≡ Some y))
      more (inl b) = inl (ap suc b.0, b.1)
      more (inr b) = inr ((λ e. b.0 (omega (arith, e))), b.1)

  pub set_same : (xs : List A) (i : ℕ) (x : A) → i < length xs → slice_get (set xs i x) i ≡ Some x
  set_same [] i x l = absurd (omega arith)
  set_same (z ∷ zs) zero x l = refl
  set_same (z ∷ zs) (suc i) x l = set_same zs i x (omega arith)

  pub set_other : (xs : List A) (i k : ℕ) (x : A) → k ≢ i → slice_get (set xs i x) k ≡ slice_get xs k
  set_other [] i k x ne = refl
  set_other (z ∷ zs) zero zero x ne = absurd (ne refl)
  set_other (z ∷ zs) zero (suc k) x ne = refl
  set_other (z ∷ zs) (suc i) zero x ne = refl
  set_other (z ∷ zs) (suc i) (suc k) x ne = set_other zs i k x (λ e. ne (ap suc e))
