-- What stands in lists, and in lists that are made of lists.
use Rattle.std.specs.Prelude.{◌⊎◌, Bool, true, false, ◌&&◌, ◌||◌, Option, None, Some, slice_index_or, map as list_map}
use Rattle.std.specs.List.{cons_option, list_any, list_all, flat_map, filter_map, range_with_len, enumerate_from}
use Rattle.std.proofs.Common.{◌≡◌, ℕ, zero, suc, ◌<◌, ◌≤◌, ◌+◌, List, [], ◌∷◌, ◌++◌, length, inl, inr, refl, sym, ◌∙◌, ap, subst, arith}

abbrev pub In : {X : Type 0} → X → List X → Type 0
In x [] = ⊥
In x (y ∷ ys) = (y ≡ x) ⊎ In x ys

module _ {X : Type 0} where
  pub in-left : (x : X) (xs ys : List X) → In x xs → In x (xs ++ ys)
  in-left x [] ys h = absurd h
  in-left x (z ∷ xs) ys h = elim h [ inl e ↦ inl e | inr r ↦ inr (in-left x xs ys r) ]

  pub in-right : (x : X) (xs ys : List X) → In x ys → In x (xs ++ ys)
  in-right x [] ys h = h
  in-right x (z ∷ xs) ys h = inr (in-right x xs ys h)

  pub in-append : (x : X) (xs ys : List X) → In x (xs ++ ys) → In x xs ⊎ In x ys
  in-append x [] ys h = inr h
  in-append x (z ∷ xs) ys h = elim h [ inl e ↦ inl (inl e) | inr r ↦ elim (in-append x xs ys r) [ inl l ↦ inl (inr l) | inr q ↦ inr q ] ]

module _ {X Y : Type 0} where
  pub in-map : (f : X → Y) (x : X) (xs : List X) → In x xs → In (f x) (list_map f xs)
  in-map f x [] h = absurd h
  in-map f x (z ∷ xs) h = elim h [ inl e ↦ inl (ap f e) | inr r ↦ inr (in-map f x xs r) ]

  pub in-map-back : (f : X → Y) (y : Y) (xs : List X) → In y (list_map f xs) → (x : X) × In x xs × (f x ≡ y)
  in-map-back f y [] h = absurd h
  in-map-back f y (z ∷ xs) h = elim h [ inl e ↦ (z, inl refl, e) | inr r ↦ (let b = in-map-back f y xs r in (b.0, inr b.1, b.2)) ]

  pub in-filter_map : (h : X → Option Y) (x : X) (y : Y) (xs : List X) → In x xs → h x ≡ Some y → In y (filter_map h xs)
  in-filter_map h x y [] i e = absurd i
  in-filter_map h x y (z ∷ xs) i e = elim i [ inl same ↦ here (h z) (ap h same ∙ e) | inr r ↦ there (h z) (in-filter_map h x y xs r e) ]
    where
      here : (o : Option Y) → o ≡ Some y → In y (cons_option o (filter_map h xs))
      here None e = cc
      here (Some w) e = inl (let same : w ≡ y = cc in same)

      there : (o : Option Y) → In y (filter_map h xs) → In y (cons_option o (filter_map h xs))
      there None r = r
      there (Some w) r = inr r

  pub in-filter_map-back : (h : X → Option Y) (y : Y) (xs : List X) → In y (filter_map h xs) → (x : X) × In x xs × (h x ≡ Some y)
  in-filter_map-back h y [] i = absurd i
  in-filter_map-back h y (z ∷ xs) i = go (h z) refl (in-filter_map-back h y xs) i
    where
      later : (x : X) × In x xs × (h x ≡ Some y) → (x : X) × In x (z ∷ xs) × (h x ≡ Some y)
      later b = (b.0, inr b.1, b.2)

      go : (o : Option Y) → h z ≡ o → (In y (filter_map h xs) → (x : X) × In x xs × (h x ≡ Some y)) → In y (cons_option o (filter_map h xs)) → (x : X) × In x (z ∷ xs) × (h x ≡ Some y)
      go None e rest r = later (rest r)
      go (Some w) e rest r = elim r [ inl same ↦ (z, inl refl, e ∙ ap Some same) | inr q ↦ later (rest q) ]

  pub in-flat_map : (f : X → List Y) (x : X) (y : Y) (xs : List X) → In x xs → In y (f x) → In y (flat_map f xs)
  in-flat_map f x y [] i j = absurd i
  in-flat_map f x y (z ∷ xs) i j = elim i [ inl e ↦ in-left y (f z) (flat_map f xs) (subst (λ (w : X). In y (f w)) (sym e) j) | inr r ↦ in-right y (f z) (flat_map f xs) (in-flat_map f x y xs r j) ]

  pub in-flat_map-back : (f : X → List Y) (y : Y) (xs : List X) → In y (flat_map f xs) → (x : X) × In x xs × In y (f x)
  in-flat_map-back f y [] i = absurd i
  in-flat_map-back f y (z ∷ xs) i = elim (in-append y (f z) (flat_map f xs) i) [ inl here ↦ (z, inl refl, here) | inr r ↦ (let b = in-flat_map-back f y xs r in (b.0, inr b.1, b.2)) ]

pub at_or_past : (a k : ℕ) → a ≤ k → (a ≡ k) ⊎ (a + 1 ≤ k)
at_or_past zero zero h = inl refl
at_or_past zero (suc k) h = inr (omega arith)
at_or_past (suc a) zero h = absurd (omega arith)
at_or_past (suc a) (suc k) h = elim (at_or_past a k (omega arith)) [ inl e ↦ inl (ap suc e) | inr more ↦ inr (omega arith) ]

pub order_of : (a b : ℕ) → (a < b) ⊎ ((a ≡ b) ⊎ (b < a))
order_of zero zero = inr (inl refl)
order_of zero (suc b) = inl (omega arith)
order_of (suc a) zero = inr (inr (omega arith))
order_of (suc a) (suc b) = elim (order_of a b) [ inl e ↦ inl (omega arith) | inr r ↦ elim r [ inl e ↦ inr (inl (ap suc e)) | inr g ↦ inr (inr (omega arith)) ] ]

pub in-range : (k a n : ℕ) → a ≤ k → k < a + n → In k (range_with_len a n)
in-range k a zero low high = absurd (omega arith)
in-range k a (suc n) low high = elim (at_or_past a k low) [ inl e ↦ inl e | inr more ↦ inr (in-range k (a + 1) n more (omega arith)) ]

pub in-range-back : (k a n : ℕ) → In k (range_with_len a n) → (a ≤ k) × (k < a + n)
in-range-back k a zero h = absurd h
in-range-back k a (suc n) h = elim h [ inl e ↦ (omega arith, omega arith) | inr r ↦ (let b = in-range-back k (a + 1) n r in (omega (arith, b.0), omega (arith, b.1))) ]

-- each element stands beside its number
pub in-enumerate : (a j : ℕ) (xs : List ℕ) (q : ℕ) → slice_index_or xs j 0 ≡ q → 0 < q → In (a + j, q) (enumerate_from a xs)
in-enumerate a zero [] q e some = absurd (omega arith)
in-enumerate a (suc j) [] q e some = absurd (omega arith)
in-enumerate a zero (x ∷ xs) q e some = let number : a ≡ a + 0 = omega arith in inl (λ i. (number i, e i))
in-enumerate a (suc j) (x ∷ xs) q e some =
    let number : a + 1 + j ≡ a + suc j = omega arith in
    inr (subst (λ (n : ℕ). In (n, q) (enumerate_from (a + 1) xs)) number (in-enumerate (a + 1) j xs q e some))

pub in-enumerate-back : (a n q : ℕ) (xs : List ℕ) → In (n, q) (enumerate_from a xs) → (j : ℕ) × (n ≡ a + j) × (j < length xs) × (slice_index_or xs j 0 ≡ q)
in-enumerate-back a n q [] h = absurd h
in-enumerate-back a n q (x ∷ xs) h = elim h [
  | inl e ↦ (let number : a ≡ n = ap (λ (p : ℕ × ℕ). p.0) e in (0, omega (arith, number), omega arith, ap (λ (p : ℕ × ℕ). p.1) e))
  | inr r ↦ (let b = in-enumerate-back (a + 1) n q xs r in (suc b.0, omega (arith, b.1), omega (arith, b.2), b.3))
]

pub any-in : {X : Type 0} (g : X → Bool) (xs : List X) → list_any g xs ≡ true → (x : X) × In x xs × (g x ≡ true)
any-in g [] h = cc
any-in {X} g (x ∷ xs) h = go (g x) refl (any-in g xs) h
  where
    go : (t : Bool) → g x ≡ t → (list_any g xs ≡ true → (y : X) × In y xs × (g y ≡ true)) → (t || list_any g xs) ≡ true → (y : X) × In y (x ∷ xs) × (g y ≡ true)
    go true e rest r = (x, inl refl, e)
    go false e rest r = let b = rest r in (b.0, inr b.1, b.2)

pub in-any : {X : Type 0} (g : X → Bool) (x : X) (xs : List X) → In x xs → g x ≡ true → list_any g xs ≡ true
in-any g x [] i e = absurd i
in-any g x (z ∷ xs) i e = elim i [ inl same ↦ here (g z) (ap g same ∙ e) | inr r ↦ there (g z) (in-any g x xs r e) ]
  where
    here : (t : Bool) → t ≡ true → (t || list_any g xs) ≡ true
    here true e = refl
    here false e = cc

    there : (t : Bool) → list_any g xs ≡ true → (t || list_any g xs) ≡ true
    there true r = refl
    there false r = r

pub in-all : {X : Type 0} (g : X → Bool) (x : X) (xs : List X) → list_all g xs ≡ true → In x xs → g x ≡ true
in-all g x [] h i = absurd i
in-all g x (z ∷ xs) h i = go (g z) refl (in-all g x xs) h
  where
    go : (t : Bool) → g z ≡ t → (list_all g xs ≡ true → In x xs → g x ≡ true) → (t && list_all g xs) ≡ true → g x ≡ true
    go true e rest r = elim i [ inl same ↦ ap g (sym same) ∙ e | inr q ↦ rest r q ]
    go false e rest r = cc

pub all-in : {X : Type 0} (g : X → Bool) (xs : List X) → ((x : X) → In x xs → g x ≡ true) → list_all g xs ≡ true
all-in g [] h = refl
all-in g (x ∷ xs) h = both (g x) (h x (inl refl)) (all-in g xs (λ y i. h y (inr i)))
  where
    both : (t : Bool) → t ≡ true → list_all g xs ≡ true → (t && list_all g xs) ≡ true
    both true e r = r
    both false e r = cc
