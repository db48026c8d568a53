-- a list each item of which has one of its own in another comes to no more than that
use Rattle.std.specs.Prelude.{max, sum_by, map as list_map}
use Rattle.std.proofs.Common.{◌≡◌, ◌⊎◌, inl, inr, ℕ, suc, ◌+◌, ◌≤◌, List, [], ◌∷◌, ◌++◌, length, refl, sym, ◌∙◌, ap, subst, arith}
use Rattle.std.proofs.lemmas.List.Sums.{sum_by-cons}
use Rattle.alp_journal.specs.Counts.{weight, ready_sum}
use Rattle.alp_worker.specs.Rooms.{applying_of, sum_of}
use Rattle.alp_worker.specs.declared.room.PartSize.{PartSize}
use Rattle.alp_node.proofs.FoundNotes.{Has}

pub has_behind : {A : Type 0} (x : A) (xs ys : List A) → Has x ys → Has x (xs ++ ys)
has_behind x [] ys h = h
has_behind x (z ∷ xs) ys h = inr (has_behind x xs ys h)

-- ---- one taken out

module _ {B : Type 0} where
  abbrev others : (ys : List B) (y : B) → Has y ys → List B
  others [] y h = absurd h
  others (z ∷ ys) y (inl is) = ys
  others (z ∷ ys) y (inr h) = z ∷ others ys y h

  still : (ys : List B) (y : B) (h : Has y ys) (w : B) → Has w ys → (y ≡ w → ⊥) → Has w (others ys y h)
  still [] y h w k away = absurd h
  still (z ∷ ys) y (inl is) w (inl at) away = absurd (away (sym is ∙ at))
  still (z ∷ ys) y (inl is) w (inr k) away = k
  still (z ∷ ys) y (inr h) w (inl at) away = inl at
  still (z ∷ ys) y (inr h) w (inr k) away = inr (still ys y h w k away)

  taken : (g : B → ℕ) (ys : List B) (y : B) (h : Has y ys) → sum_by g ys ≡ g y + sum_by g (others ys y h)
  taken g [] y h = absurd h
  taken g (z ∷ ys) y (inl is) = sum_by-cons g z ys ∙ ap (λ (x : B). g x + sum_by g ys) is
  taken g (z ∷ ys) y (inr h) =
      let rest : sum_by g ys ≡ g y + sum_by g (others ys y h) = taken g ys y h in
      let all : sum_by g (z ∷ ys) ≡ g z + sum_by g ys = sum_by-cons g z ys in
      let less : sum_by g (z ∷ others ys y h) ≡ g z + sum_by g (others ys y h) = sum_by-cons g z (others ys y h) in
      omega (arith, rest, all, less)

-- ---- each with one of its own

-- no item has one that a later one has
abbrev pub HaveOwn : {A B : Type 0} → (A → B → Type 0) → List A → Type 0
HaveOwn R [] = Unit {0}
HaveOwn {A} {B} R (x ∷ xs) = ((z : A) (y : B) → Has z xs → R x y → R z y → ⊥) × HaveOwn R xs

pub sum_less : {A B : Type 0} (R : A → B → Type 0) (f : A → ℕ) (g : B → ℕ) → ((x : A) (y : B) → R x y → f x ≤ g y) → (xs : List A) (ys : List B) → ((x : A) → Has x xs → (y : B) × Has y ys × R x y) → HaveOwn R xs → sum_by f xs ≤ sum_by g ys
sum_less R f g less [] ys each own = omega arith
sum_less R f g less (x ∷ xs) ys each own =
    let one = each x (inl refl) in
    let rest : sum_by f xs ≤ sum_by g (others ys one.0 one.1) =
    sum_less R f g less xs (others ys one.0 one.1) (λ z h. (let o = each z (inr h) in (o.0, still ys one.0 one.1 o.0 o.1 (λ same. own.0 z one.0 h one.2 (subst (R z) (sym same) o.2)), o.2))) own.1 in
    let all : sum_by f (x ∷ xs) ≡ f x + sum_by f xs = sum_by-cons f x xs in
    let out : sum_by g ys ≡ g one.0 + sum_by g (others ys one.0 one.1) = taken g ys one.0 one.1 in
    let first : f x ≤ g one.0 = less x one.0 one.2 in
    omega (arith, all, out, first, rest)

-- ---- pages of the log

module _ {A : Type 0} (s : A → PartSize) where
  abbrev pub weight_of : A → ℕ
  weight_of x = weight (s x).cells (s x).locks

  pub weights_sum : (xs : List A) → (sum_of (list_map s xs)).weights ≡ sum_by weight_of xs
  weights_sum [] = refl
  weights_sum (x ∷ xs) = ap (λ (n : ℕ). weight_of x + n) (weights_sum xs) ∙ sym (sum_by-cons weight_of x xs)

  pub greatest_most : (xs : List A) (x : A) → Has x xs → applying_of (s x) ≤ (sum_of (list_map s xs)).greatest
  greatest_most [] x h = absurd h
  greatest_most (z ∷ xs) x (inl is) = subst (λ (y : A). applying_of (s y) ≤ max (applying_of (s z)) (sum_of (list_map s xs)).greatest) is (omega arith)
  greatest_most (z ∷ xs) x (inr h) = (let rest : applying_of (s x) ≤ (sum_of (list_map s xs)).greatest = greatest_most xs x h in omega (arith, rest))

  pub greatest_least : (n : ℕ) (xs : List A) → ((x : A) → Has x xs → applying_of (s x) ≤ n) → (sum_of (list_map s xs)).greatest ≤ n
  greatest_least n [] each = omega arith
  greatest_least n (x ∷ xs) each =
      let first : applying_of (s x) ≤ n = each x (inl refl) in
      let rest : (sum_of (list_map s xs)).greatest ≤ n = greatest_least n xs (λ z h. each z (inr h)) in
      omega (arith, first, rest)

-- the same size for each, of its own
pub log_less : {A B : Type 0} (R : A → B → Type 0) (s : A → PartSize) (z : B → PartSize) → ((x : A) (y : B) → R x y → s x ≡ z y) → (xs : List A) (ys : List B) → ((x : A) → Has x xs → (y : B) × Has y ys × R x y) → HaveOwn R xs
    → ready_sum (sum_of (list_map s xs)).weights (sum_of (list_map s xs)).greatest ≤ ready_sum (sum_of (list_map z ys)).weights (sum_of (list_map z ys)).greatest
log_less {A} {B} R s z same xs ys each own =
    let weights : sum_by (weight_of s) xs ≤ sum_by (weight_of z) ys = sum_less R (weight_of s) (weight_of z) (λ x y r. subst (λ (n : PartSize). weight (s x).cells (s x).locks ≤ weight n.cells n.locks) (same x y r) (omega arith)) xs ys each own in
    let greatest : (sum_of (list_map s xs)).greatest ≤ (sum_of (list_map z ys)).greatest =
    greatest_least s (sum_of (list_map z ys)).greatest xs (λ x h. (let o = each x h in subst (λ (n : PartSize). applying_of n ≤ (sum_of (list_map z ys)).greatest) (sym (same x o.0 o.2)) (greatest_most z ys o.0 o.1))) in
    omega (arith, weights, greatest, weights_sum s xs, weights_sum z ys)
