-- errands of the carriers of one server more
use Rattle.std.specs.Prelude.{slice_get, map, min, take, Option, Some, None}
use Rattle.std.proofs.Common.{◌≡◌, ℕ, zero, suc, ◌+◌, ◌<◌, ◌≤◌, List, [], ◌∷◌, ◌++◌, length, refl, sym, ap, ◌∙◌, subst, arith}
use mathlib.Core.List.{append_assoc}
use Rattle.std.proofs.lemmas.List.{length-take-le}
use lib.ListN.{length-map}
use Rattle.alp_carrier.specs.Sights.{Sight}
use Rattle.alp_storm.specs.Storms.{carriers_to, carriers_from, end_of}
use Rattle.alp_storm.specs.declared.errand.Task.{Task}
use Rattle.alp_storm.proofs.Lists.{same_some, get_within}
use Rattle.alp_storm.proofs.TaskLemmas.{from_more}

module _ {A : Type 0} where
  take_one : (xs : List A) (i : ℕ) (x : A) → slice_get xs i ≡ Some x → take (i + 1) xs ≡ take i xs ++ x ∷ []
  take_one [] i x at = absurd (let f : None ≡ Some x = at in cc)
  take_one (y ∷ ys) zero x at = (let m : zero + 1 ≡ suc zero = omega arith in ap (λ n. take n (y ∷ ys)) m ∙ ap (λ z. z ∷ []) (same_some y x at))
  take_one (y ∷ ys) (suc i) x at = (let m : suc i + 1 ≡ suc (i + 1) = omega arith in ap (λ n. take n (y ∷ ys)) m ∙ ap (λ l. y ∷ l) (take_one ys i x at))

module _ {S B E : Type 0} (base_of : S → B) (sight : Sight B E) where
  mapped_end : (ys : List S) (i : ℕ) (y : S) → slice_get ys i ≡ Some y → slice_get (map (end_of base_of sight) ys) i ≡ Some (end_of base_of sight y)
  mapped_end [] i y at = absurd (let f : None ≡ Some y = at in cc)
  mapped_end (x ∷ ys) zero y at = ap (λ z. Some (end_of base_of sight z)) (same_some x y at)
  mapped_end (x ∷ ys) (suc i) y at = mapped_end ys i y at

  pub carriers_more : (ys : List S) (n i first : ℕ) (y : S) (ts xs zs : List Task) → slice_get ys i ≡ Some y → first ≡ end_of base_of sight y → xs ≡ ts ++ carriers_from n 0 (take i (map (end_of base_of sight) ys)) → zs ≡ xs ++ carriers_to (i + 1) first n → zs ≡ ts ++ carriers_from n 0 (take (i + 1) (map (end_of base_of sight) ys))
  carriers_more ys n i first y ts xs zs at end was added =
      let ends = map (end_of base_of sight) ys in
      let low : i ≤ length ends = (let w = get_within ys i y at in let l = length-map ys (end_of base_of sight) in omega (arith, w, l)) in
      let long : length (take i ends) ≡ i = length-take-le i ends low in
      let next : carriers_from n 0 (take (i + 1) ends) ≡ carriers_from n 0 (take i ends) ++ carriers_to (i + 1) first n =
      ap (λ l. carriers_from n 0 l) (take_one ends i (end_of base_of sight y) (mapped_end ys i y at))
      ∙ (from_more n 0 (end_of base_of sight y) (take i ends)
      ∙ ((let m : 0 + length (take i ends) + 1 ≡ i + 1 = omega (arith, long) in ap (λ k. carriers_from n 0 (take i ends) ++ carriers_to k (end_of base_of sight y) n) m)
      ∙ ap (λ e. carriers_from n 0 (take i ends) ++ carriers_to (i + 1) e n) (sym end))) in
      added ∙ (ap (λ l. l ++ carriers_to (i + 1) first n) was ∙ (append_assoc ts (carriers_from n 0 (take i ends)) (carriers_to (i + 1) first n) ∙ ap (λ l. ts ++ l) (sym next)))
