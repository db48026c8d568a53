-- Two lists, place by place.
use Rattle.std.specs.Prelude.{slice_get, map as list_map, Option, None, Some}
use Rattle.std.proofs.Common.{◌≡◌, ℕ, zero, suc, ◌+◌, ◌<◌, ◌≤◌, List, [], ◌∷◌, ◌++◌, length, refl, sym, ◌∙◌, ap, subst, arith}
use Rattle.alp_top.specs.Pairs.{ArePaired, AreMatched}

-- what stands at one place of both
pub record HasPair {A B : Type 0} (P : ℕ → A → B → Type 0) (n i : ℕ) (xs : List A) (ys : List B) : Type 0 where
  pub one : A
  pub two : B
  pub at_one : slice_get xs i ≡ Some one
  pub at_two : slice_get ys i ≡ Some two
  pub both : P (n + i) one two

module _ {A B : Type 0} (P : ℕ → A → B → Type 0) where
  pub paired_push : (n : ℕ) (xs : List A) (ys : List B) (x : A) (y : B) → ArePaired P n xs ys → P (n + length xs) x y → ArePaired P n (xs ++ x ∷ []) (ys ++ y ∷ [])
  paired_push n [] [] x y h p = (let same : n + 0 ≡ n = omega arith in subst (λ (m : ℕ). P m x y) same p, tt)
  paired_push n [] (z ∷ ys) x y h p = absurd h
  paired_push n (z ∷ xs) [] x y h p = absurd h
  paired_push n (z ∷ xs) (w ∷ ys) x y h p = (h.0, paired_push (n + 1) xs ys x y h.1 (let same : n + suc (length xs) ≡ n + 1 + length xs = omega arith in subst (λ (m : ℕ). P m x y) same p))

  pub paired_many : (n : ℕ) (xs : List A) (ys : List B) → ArePaired P n xs ys → length ys ≡ length xs
  paired_many n [] [] h = refl
  paired_many n [] (z ∷ ys) h = absurd h
  paired_many n (z ∷ xs) [] h = absurd h
  paired_many n (z ∷ xs) (w ∷ ys) h = ap suc (paired_many (n + 1) xs ys h.1)

  pub paired_at : (n i : ℕ) (xs : List A) (ys : List B) → ArePaired P n xs ys → i < length xs → HasPair P n i xs ys
  paired_at n i [] ys h low = absurd (omega (arith, low))
  paired_at n i (z ∷ xs) [] h low = absurd h
  paired_at n zero (z ∷ xs) (w ∷ ys) h low = record { one = z; two = w; at_one = refl; at_two = refl; both = (let same : n ≡ n + 0 = omega arith in subst (λ (m : ℕ). P m z w) same h.0) }
  paired_at n (suc i) (z ∷ xs) (w ∷ ys) h low =
      let more = paired_at (n + 1) i xs ys h.1 (omega (arith, low)) in
      let same : n + 1 + i ≡ n + suc i = omega arith in
      record { one = more.one; two = more.two; at_one = more.at_one; at_two = more.at_two; both = subst (λ (m : ℕ). P m more.one more.two) same more.both }

-- what holds of the two at each place makes something else hold
pub paired_map : {A B : Type 0} (P Q : ℕ → A → B → Type 0) (n : ℕ) (xs : List A) (ys : List B) → ((m : ℕ) (x : A) (y : B) → n ≤ m → P m x y → Q m x y) → ArePaired P n xs ys → ArePaired Q n xs ys
paired_map P Q n [] [] f h = tt
paired_map P Q n [] (y ∷ ys) f h = absurd h
paired_map P Q n (x ∷ xs) [] f h = absurd h
paired_map P Q n (x ∷ xs) (y ∷ ys) f h = (f n x y (omega arith) h.0, paired_map P Q (n + 1) xs ys (λ m u v low p. f m u v (omega (arith, low)) p) h.1)

module _ {A B : Type 0} (P : A → B → Type 0) where
  pub matched_many : (xs : List A) (ys : List B) → AreMatched P xs ys → length ys ≡ length xs
  matched_many [] [] h = refl
  matched_many [] (z ∷ ys) h = absurd h
  matched_many (z ∷ xs) [] h = absurd h
  matched_many (z ∷ xs) (w ∷ ys) h = ap suc (matched_many xs ys h.1)

  pub matched_at : (i : ℕ) (xs : List A) (ys : List B) (x : A) → AreMatched P xs ys → slice_get xs i ≡ Some x → (y : B) × (slice_get ys i ≡ Some y) × P x y
  matched_at i [] ys x h at = absurd (nothing_there i x at)
    where
      nothing_there : (i : ℕ) (x : A) → slice_get [] i ≡ Some x → ⊥
      nothing_there i x is = cc
  matched_at i (z ∷ xs) [] x h at = absurd h
  matched_at zero (z ∷ xs) (w ∷ ys) x h at = (let same : z ≡ x = cc in (w, refl, subst (λ (u : A). P u w) same h.0))
  matched_at (suc i) (z ∷ xs) (w ∷ ys) x h at = matched_at i xs ys x h.1 at

pub matched_map : {A B C : Type 0} (P : A → B → Type 0) (Q : C → B → Type 0) (f : A → C) (xs : List A) (ys : List B) → ((x : A) (y : B) → P x y → Q (f x) y) → AreMatched P xs ys → AreMatched Q (list_map f xs) ys
matched_map P Q f [] [] g h = tt
matched_map P Q f [] (y ∷ ys) g h = absurd h
matched_map P Q f (x ∷ xs) [] g h = absurd h
matched_map P Q f (x ∷ xs) (y ∷ ys) g h = (g x y h.0, matched_map P Q f xs ys g h.1)

-- two places that are one
pub same_there : {A : Type 0} (o : Option A) (x y : A) → o ≡ Some x → o ≡ Some y → x ≡ y
same_there {A = A} o x y a b = go x y (sym a ∙ b)
  where
    go : (x y : A) → ◌≡◌ {A = Option A} (Some x) (Some y) → x ≡ y
    go x y e = cc
