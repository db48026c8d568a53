-- lists: what is found in one, what stays in one, and lists in another order
use Rattle.std.specs.Prelude.{cond, Bool, true, false, find, filter, flat_map, Option, None, Some, map as list_map}
use Rattle.std.specs.List.{All}
use Rattle.std.specs.List.Sorted.{IsPermutation}
use Rattle.std.specs.Option.{option_map}
use Rattle.std.proofs.Common.{◌≡◌, ◌+◌, ◌≤◌, List, [], ◌∷◌, ◌++◌, length, refl, sym, ◌∙◌, ap, subst, arith, append_assoc}
use Rattle.std.proofs.lemmas.List.Elements.{All-from_recursion}
use Rattle.std.proofs.lemmas.List.Sorted.{IsPermutation-append_left, IsPermutation-append_comm, length_permutation, All-permutation}

-- ---- what is found

pub some-apart : {A : Type 0} (P : Type 0) (a : A) → Some a ≡ None → P
some-apart P a h = cc

-- a map that keeps what passes
pub find_map : {X : Type 0} (p : X → Bool) (g : X → X) → ((x : X) → p (g x) ≡ p x) → (xs : List X) → find p (list_map g xs) ≡ option_map g (find p xs)
find_map p g h [] = refl
find_map {X} p g h (x ∷ xs) = ap (λ (b : Bool). cond {A = Option X} b (Some (g x)) (find p (list_map g xs))) (h x) ∙ go (p x) (find_map p g h xs)
  where
    go : (b : Bool) → find p (list_map g xs) ≡ option_map g (find p xs) → cond {A = Option X} b (Some (g x)) (find p (list_map g xs)) ≡ option_map g (cond {A = Option X} b (Some x) (find p xs))
    go true e = refl
    go false e = e

pub none-filter : {X : Type 0} (q p : X → Bool) (xs : List X) → find q xs ≡ None → find q (filter p xs) ≡ None
none-filter q p [] h = refl
none-filter {X} q p (x ∷ xs) h = go (q x) refl (p x) h (none-filter q p xs)
  where
    go : (a : Bool) → q x ≡ a → (b : Bool) → cond {A = Option X} a (Some x) (find q xs) ≡ None → (find q xs ≡ None → find q (filter p xs) ≡ None) → find q (cond b (x ∷ filter p xs) (filter p xs)) ≡ None
    go true e b f rest = some-apart _ x f
    go false e true f rest = ap (λ (a : Bool). cond {A = Option X} a (Some x) (find q (filter p xs))) e ∙ rest f
    go false e false f rest = rest f

-- where the first stands that passes
pub record IsFirst {X : Type 0} (p : X → Bool) (xs : List X) (x : X) : Type 0 where
  pub front : List X
  pub back : List X
  pub all : xs ≡ front ++ x ∷ back
  pub none : find p front ≡ None
  pub passes : p x ≡ true

pub first_found : {X : Type 0} (p : X → Bool) (xs : List X) (x : X) → find p xs ≡ Some x → IsFirst p xs x
first_found p [] x h = some-apart _ x (sym h)
first_found {X} p (y ∷ ys) x h = go (p y) refl h (λ f. first_found p ys x f)
  where
    same_one : {A : Type 0} (a b : A) → Some a ≡ Some b → a ≡ b
    same_one a b e = cc

    go : (b : Bool) → p y ≡ b → cond {A = Option X} b (Some y) (find p ys) ≡ Some x → (find p ys ≡ Some x → IsFirst p ys x) → IsFirst p (y ∷ ys) x
    go true e f rest = subst (λ (z : X). IsFirst p (y ∷ ys) z) (same_one y x f) (record { front = []; back = ys; all = refl; none = refl; passes = e })
    go false e f rest =
        record {
          front = y ∷ (rest f).front;
          back = (rest f).back;
          all = ap (λ zs. y ∷ zs) (rest f).all;
          none = ap (λ (b : Bool). cond {A = Option X} b (Some y) (find p (rest f).front)) e ∙ (rest f).none;
          passes = (rest f).passes;
        }

-- the first of a list
abbrev pub first_of_list : {X : Type 0} → List X → Option X
first_of_list [] = None
first_of_list (x ∷ xs) = Some x

pub find_first : {X : Type 0} (p : X → Bool) (xs : List X) → find p xs ≡ first_of_list (filter p xs)
find_first p [] = refl
find_first {X} p (x ∷ xs) = go (p x) (find_first p xs)
  where
    go : (b : Bool) → find p xs ≡ first_of_list (filter p xs) → cond {A = Option X} b (Some x) (find p xs) ≡ first_of_list (cond b (x ∷ filter p xs) (filter p xs))
    go true e = refl
    go false e = e

pub first_map : {X Y : Type 0} (g : X → Y) (xs : List X) → first_of_list (list_map g xs) ≡ option_map g (first_of_list xs)
first_map g [] = refl
first_map g (x ∷ xs) = refl

-- none passes where none is found
pub none_stays : {X : Type 0} (p : X → Bool) (xs : List X) → find p xs ≡ None → filter p xs ≡ []
none_stays p [] h = refl
none_stays {X} p (x ∷ xs) h = go (p x) h (none_stays p xs)
  where
    go : (b : Bool) → cond {A = Option X} b (Some x) (find p xs) ≡ None → (find p xs ≡ None → filter p xs ≡ []) → cond b (x ∷ filter p xs) (filter p xs) ≡ []
    go true f rest = some-apart _ x f
    go false f rest = rest f

-- ---- filters

-- fewer pass where fewer are there
pub shorter : {X : Type 0} (q p : X → Bool) (xs : List X) → length (filter q (filter p xs)) ≤ length (filter q xs)
shorter q p [] = omega arith
shorter q p (x ∷ xs) = go (p x) (q x) refl (shorter q p xs)
  where
    go : (b c : Bool) → q x ≡ c → length (filter q (filter p xs)) ≤ length (filter q xs) → length (filter q (cond b (x ∷ filter p xs) (filter p xs))) ≤ length (cond c (x ∷ filter q xs) (filter q xs))
    go true true e h = subst (λ (c : Bool). length (cond c (x ∷ filter q (filter p xs)) (filter q (filter p xs))) ≤ length (x ∷ filter q xs)) (sym e) (omega (arith, h))
    go true false e h = subst (λ (c : Bool). length (cond c (x ∷ filter q (filter p xs)) (filter q (filter p xs))) ≤ length (filter q xs)) (sym e) h
    go false true e h = omega (arith, h)
    go false false e h = h

pub filter_map_same : {X : Type 0} (q : X → Bool) (g : X → X) → ((x : X) → q (g x) ≡ q x) → (xs : List X) → filter q (list_map g xs) ≡ list_map g (filter q xs)
filter_map_same q g h [] = refl
filter_map_same q g h (x ∷ xs) = ap (λ (b : Bool). cond b (g x ∷ filter q (list_map g xs)) (filter q (list_map g xs))) (h x) ∙ go (q x) (filter_map_same q g h xs)
  where
    go : (b : Bool) → filter q (list_map g xs) ≡ list_map g (filter q xs) → cond b (g x ∷ filter q (list_map g xs)) (filter q (list_map g xs)) ≡ list_map g (cond b (x ∷ filter q xs) (filter q xs))
    go true e = ap (λ ys. g x ∷ ys) e
    go false e = e

pub filter_walk : {X : Type 0} (q : X → Bool) (xs : List X) → flat_map (λ x. cond (q x) (x ∷ []) []) xs ≡ filter q xs
filter_walk q [] = refl
filter_walk q (x ∷ xs) = go (q x) (filter_walk q xs)
  where
    go : (b : Bool) → flat_map (λ y. cond (q y) (y ∷ []) []) xs ≡ filter q xs → cond b (x ∷ []) [] ++ flat_map (λ y. cond (q y) (y ∷ []) []) xs ≡ cond b (x ∷ filter q xs) (filter q xs)
    go true e = ap (λ ys. x ∷ ys) e
    go false e = e

filter_both : {X : Type 0} (q : X → Bool) (xs ys : List X) → filter q (xs ++ ys) ≡ filter q xs ++ filter q ys
filter_both q [] ys = refl
filter_both q (x ∷ xs) ys = go (q x) (filter_both q xs ys)
  where
    go : (b : Bool) → filter q (xs ++ ys) ≡ filter q xs ++ filter q ys → cond b (x ∷ filter q (xs ++ ys)) (filter q (xs ++ ys)) ≡ cond b (x ∷ filter q xs) (filter q xs) ++ filter q ys
    go true e = ap (λ zs. x ∷ zs) e
    go false e = e

pub filter_pushed : {X : Type 0} (q : X → Bool) (xs : List X) (x : X) → filter q (xs ++ x ∷ []) ≡ filter q xs ++ cond (q x) (x ∷ []) []
filter_pushed q xs x = filter_both q xs (x ∷ [])

pub filter_each : {X Y : Type 0} (q : Y → Bool) (f : X → List Y) (xs : List X) → filter q (flat_map f xs) ≡ flat_map (λ x. filter q (f x)) xs
filter_each q f [] = refl
filter_each q f (x ∷ xs) = filter_both q (f x) (flat_map f xs) ∙ ap (λ ys. filter q (f x) ++ ys) (filter_each q f xs)

-- walks that come to the same at each
pub walk_same : {X Y : Type 0} (f g : X → List Y) → ((x : X) → f x ≡ g x) → (xs : List X) → flat_map f xs ≡ flat_map g xs
walk_same f g h [] = refl
walk_same f g h (x ∷ xs) = ap (λ ys. ys ++ flat_map f xs) (h x) ∙ ap (λ ys. g x ++ ys) (walk_same f g h xs)

pub walk_map : {X Y Z : Type 0} (g : Y → Z) (f : X → List Y) (xs : List X) → list_map g (flat_map f xs) ≡ flat_map (λ x. list_map g (f x)) xs
walk_map g f [] = refl
walk_map g f (x ∷ xs) = both (f x) ∙ ap (λ ys. list_map g (f x) ++ ys) (walk_map g f xs)
  where
    both : (ys : List _) → list_map g (ys ++ flat_map f xs) ≡ list_map g ys ++ list_map g (flat_map f xs)
    both [] = refl
    both (y ∷ ys) = ap (λ zs. g y ∷ zs) (both ys)

pub walk_lone : {X Y : Type 0} (g : X → Y) (xs : List X) → flat_map (λ x. g x ∷ []) xs ≡ list_map g xs
walk_lone g [] = refl
walk_lone g (x ∷ xs) = ap (λ ys. g x ∷ ys) (walk_lone g xs)

-- ---- another order

pub one-to_front : {X : Type 0} (xs ys zs : List X) → IsPermutation (xs ++ (ys ++ zs)) (ys ++ (xs ++ zs))
one-to_front xs ys zs =
    subst (λ us. IsPermutation us (ys ++ (xs ++ zs))) (append_assoc xs ys zs)
    (subst (λ us. IsPermutation ((xs ++ ys) ++ zs) us) (append_assoc ys xs zs) (IsPermutation-append_left zs (xs ++ ys) (ys ++ xs) (IsPermutation-append_comm xs ys)))

-- where there is one at most, there is one order
pub short_same : {X : Type 0} (xs ys : List X) → IsPermutation xs ys → length ys ≤ 1 → xs ≡ ys
short_same [] [] h few = refl
short_same [] (y ∷ ys) h few = let long : length (y ∷ ys) ≡ 0 = length_permutation [] (y ∷ ys) h in absurd (omega (arith, long))
short_same (x ∷ xs) [] h few = let long : 0 ≡ length (x ∷ xs) = length_permutation (x ∷ xs) [] h in absurd (omega (arith, long))
short_same (x ∷ []) (y ∷ []) h few =
    let all : All (λ z. z ≡ x) (x ∷ []) = All-from_recursion (λ z. z ≡ x) (x ∷ []) (refl, tt) in
    let same : y ≡ x = All-permutation (λ z. z ≡ x) (x ∷ []) (y ∷ []) h all 0 y (omega arith) in
    ap (λ z. z ∷ []) (sym same)
short_same (x ∷ []) (y ∷ z ∷ ys) h few = absurd (omega (arith, few))
short_same (x ∷ u ∷ xs) (y ∷ []) h few = let long : length (y ∷ []) ≡ length (x ∷ u ∷ xs) = length_permutation (x ∷ u ∷ xs) (y ∷ []) h in absurd (omega (arith, long))
short_same (x ∷ u ∷ xs) (y ∷ z ∷ ys) h few = absurd (omega (arith, few))
