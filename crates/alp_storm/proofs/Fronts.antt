-- The history that a pass saw last, and a longer one.
use Rattle.std.proofs.Common.{◌≡◌, ℕ, zero, suc, ◌<◌, ◌≤◌, List, [], ◌∷◌, ◌++◌, length, take, Some, None, refl, sym, ap, ◌∙◌, arith, length-append}
use Rattle.std.specs.Prelude.{slice_get}
use Rattle.std.proofs.lemmas.List.{take-append-le}
use mathlib.Core.List.{IsPrefix, map-append, append-nil, append_assoc}
use lib.ListN.{length-map}
use Rattle.alp_monitor.specs.History.{entries_in, entry_of}

module _ {A : Type 0} where
  take_all : (xs : List A) → take (length xs) xs ≡ xs
  take_all [] = refl
  take_all (x ∷ xs) = ap (λ l. x ∷ l) (take_all xs)

  pub begins_itself : (xs : List A) → IsPrefix xs xs
  begins_itself xs = ([], append-nil xs)

  pub begins_through : (xs ys zs : List A) → IsPrefix xs ys → IsPrefix ys zs → IsPrefix xs zs
  begins_through xs ys zs p q = (p.0 ++ q.0, sym (append_assoc xs p.0 q.0) ∙ (ap (λ l. l ++ q.0) p.1 ∙ q.1))

  pub not_longer : (xs ys : List A) (k : ℕ) → IsPrefix xs ys → k ≤ length xs → k ≤ length ys
  not_longer xs ys k p low = let n = sym (ap length p.1) ∙ length-append xs p.0 in omega (arith, n, low)

  pub get_within : (xs : List A) (n : ℕ) (x : A) → slice_get xs n ≡ Some x → n < length xs
  get_within [] n x e = absurd (let f : None ≡ Some x = e in cc)
  get_within (z ∷ xs) zero x e = omega arith
  get_within (z ∷ xs) (suc n) x e = let l = get_within xs n x e in omega (arith, l)

  get_longer : (xs ys : List A) (n : ℕ) (x : A) → slice_get xs n ≡ Some x → slice_get (xs ++ ys) n ≡ Some x
  get_longer [] ys n x e = absurd (let f : None ≡ Some x = e in cc)
  get_longer (z ∷ xs) ys zero x e = e
  get_longer (z ∷ xs) ys (suc n) x e = get_longer xs ys n x e

  -- what stands at a place stands there in each longer list
  pub get_begins : (xs ys : List A) (n : ℕ) (x : A) → IsPrefix xs ys → slice_get xs n ≡ Some x → slice_get ys n ≡ Some x
  get_begins xs ys n x p e = ap (λ l. slice_get l n) (sym p.1) ∙ get_longer xs p.0 n x e

  pub same_some : (x y : A) → Some x ≡ Some y → x ≡ y
  same_some x y e = cc

module _ {E : Type 0} where
  -- the first entries are the same in both
  pub same_entries : (f g : List (ℕ × E)) (k : ℕ) → IsPrefix f g → k ≤ length f → take k (entries_in f) ≡ take k (entries_in g)
  same_entries f g k p low =
      let n : length (entries_in f) ≡ length f = length-map f entry_of in
      sym (take-append-le k (entries_in f) (entries_in p.0) (omega (arith, n, low))) ∙ ap (take k) (sym (map-append entry_of f p.0) ∙ ap entries_in p.1)

  pub all_entries : (f : List (ℕ × E)) → take (length f) (entries_in f) ≡ entries_in f
  all_entries f = ap (λ n. take n (entries_in f)) (sym (length-map f entry_of)) ∙ take_all (entries_in f)
