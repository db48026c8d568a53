-- a list in strict order that is sorted anew by a number of each element, where elements of one number stay in their order
use Rattle.std.specs.Prelude.{cond, Bool, true, false, not, ◌&&◌, filter}
use Rattle.std.specs.List.{AllByRecursion}
use Rattle.std.specs.List.Sorted.{ties, IsNonDecreasingBy, IsStableByKey}
use Rattle.std.specs.declared.cmp.Ordering.{Ordering}
use Rattle.std.specs.declared.cmp.Ordering.TheVariants.{Less, Equal, Greater}
use Rattle.std.specs.Ordering.{nat_cmp, is_lt, ordering_then}
use Rattle.std.proofs.Common.{◌≡◌, ℕ, suc, ◌<◌, ◌≤◌, List, [], ◌∷◌, length, get_or, refl, sym, subst, arith}
use Rattle.alp_ready.proofs.NumberOrder.{Is, equal, greater, cmp_is, cmp_equal}

module _ {X : Type 0} (R : X → X → Ordering) where
  -- each is before all behind it
  abbrev pub AreInOrder : List X → Type 0
  AreInOrder [] = Unit {0}
  AreInOrder (x ∷ xs) = AllByRecursion (λ y. R x y ≡ Less) xs × AreInOrder xs

  pub below_filter : (p : X → Bool) (x : X) (xs : List X) → AllByRecursion (λ y. R x y ≡ Less) xs → AllByRecursion (λ y. R x y ≡ Less) (filter p xs)
  below_filter p x [] h = tt
  below_filter p x (y ∷ ys) h = go (p y) (below_filter p x ys h.1)
    where
      go : (b : Bool) → AllByRecursion (λ y. R x y ≡ Less) (filter p ys) → AllByRecursion (λ y. R x y ≡ Less) (cond {A = List X} b (y ∷ filter p ys) (filter p ys))
      go true rest = (h.0, rest)
      go false rest = rest

  pub order_filter : (p : X → Bool) (xs : List X) → AreInOrder xs → AreInOrder (filter p xs)
  order_filter p [] h = tt
  order_filter p (x ∷ xs) h = go (p x) (order_filter p xs h.1)
    where
      go : (b : Bool) → AreInOrder (filter p xs) → AreInOrder (cond {A = List X} b (x ∷ filter p xs) (filter p xs))
      go true rest = (below_filter p x xs h.0, rest)
      go false rest = rest

module _ {X : Type 0} (n : X → ℕ) where
  -- elements of one number
  abbrev pub alike : X → X → Bool
  alike = ties (λ x y. is_lt (nat_cmp (n x) (n y)))

  pub alike_same : (x y : X) → n x ≡ n y → alike x y ≡ true
  alike_same x y same = λ i. not (is_lt (cmp_equal (n x) (n y) same i)) && not (is_lt (cmp_equal (n y) (n x) (sym same) i))

  -- no number is less than one before it
  abbrev pub AreLow : List X → Type 0
  AreLow [] = Unit {0}
  AreLow (x ∷ xs) = AllByRecursion (λ y. n x ≤ n y) xs × AreLow xs

  low_all : (x : X) (xs : List X) → ((k : ℕ) → k < length xs → n x ≤ n (get_or xs k x)) → AllByRecursion (λ y. n x ≤ n y) xs
  low_all x [] h = tt
  low_all x (y ∷ ys) h = (h 0 (omega arith), low_all x ys (λ k p. h (suc k) (omega (arith, p))))

  pub lows : (xs : List X) → IsNonDecreasingBy n xs → AreLow xs
  lows [] h = tt
  lows (x ∷ xs) h = (low_all x xs (λ k p. h 0 (suc k) x (omega arith) (omega (arith, p))), lows xs (λ i j d p q. h (suc i) (suc j) d (omega (arith, p)) (omega (arith, q))))

  module _ (R : X → X → Ordering) where
    -- by number, and then in the order of before
    abbrev pub by_number : X → X → Ordering
    by_number x y = ordering_then (nat_cmp (n x) (n y)) (R x y)

    rest_in : (x y : X) (ys : List X) (b : Bool) → AllByRecursion (λ z. R x z ≡ Less) (cond {A = List X} b (y ∷ filter (alike x) ys) (filter (alike x) ys)) → AllByRecursion (λ z. R x z ≡ Less) (filter (alike x) ys)
    rest_in x y ys true h = h.1
    rest_in x y ys false h = h

    above_all : (x : X) (ys : List X) → AllByRecursion (λ y. n x ≤ n y) ys → AllByRecursion (λ y. R x y ≡ Less) (filter (alike x) ys) → AllByRecursion (λ y. by_number x y ≡ Less) ys
    above_all x [] low h = tt
    above_all x (y ∷ ys) low h = (go (nat_cmp (n x) (n y)) (cmp_is (n x) (n y)), above_all x ys low.1 (rest_in x y ys (alike x y) h))
      where
        go : (o : Ordering) → Is (n x) (n y) o → ordering_then o (R x y) ≡ Less
        go Less i = refl
        go Equal (equal same) = (subst (λ (b : Bool). AllByRecursion (λ z. R x z ≡ Less) (cond {A = List X} b (y ∷ filter (alike x) ys) (filter (alike x) ys))) (alike_same x y same) h).0
        go Greater (greater more) = absurd (omega (arith, more, low.0))

    tail_in : (y : X) (ys : List X) (b : Bool) → AreInOrder R (cond {A = List X} b (y ∷ ys) ys) → AreInOrder R ys
    tail_in y ys true h = h.1
    tail_in y ys false h = h

    -- numbers that do not fall, and elements of one number in order
    pub by_both : (ys : List X) → AreLow ys → ((x : X) → AreInOrder R (filter (alike x) ys)) → AreInOrder by_number ys
    by_both [] low groups = tt
    by_both (y ∷ ys) low groups =
        let own : AreInOrder R (y ∷ filter (alike y) ys) = subst (λ (b : Bool). AreInOrder R (cond {A = List X} b (y ∷ filter (alike y) ys) (filter (alike y) ys))) (alike_same y y refl) (groups y) in
        (above_all y ys low.0 own.0, by_both ys low.1 (λ x. tail_in y (filter (alike x) ys) (alike x y) (groups x)))

    pub sorted_anew : (xs ys : List X) → AreInOrder R xs → IsNonDecreasingBy n ys → IsStableByKey n nat_cmp xs ys → AreInOrder by_number ys
    sorted_anew xs ys order rises stable = by_both ys (lows ys rises) (λ x. subst (AreInOrder R) (sym (stable x)) (order_filter R (alike x) xs order))
