-- walks along the list of a resource
use Rattle.std.proofs.Common.{◌≡◌, ℕ, ◌+◌, ◌≤◌, Bool, true, false, cond, eqb, List, [], ◌∷◌, Option, None, Some, is_some, IsSome, slice_get, find, refl, sym, ◌∙◌, ap, subst, arith, eq-eqb}
use Rattle.std.proofs.lemmas.Bool.{eqb-true}
use Rattle.std.specs.FinMap as map
use Rattle.alp_chain.specs.declared.node.NodeView.{NodeView}
use Rattle.alp_chain.specs.Linked.{times}
use Rattle.alp_chain.specs.Lists.{list_at, next_in}
use Rattle.alp_chain.specs.Chains.{Chains, has, StandOnce, next_on}
use Rattle.alp_chain.proofs.TimesLemmas.{here, later, not_here}

-- what is left of a list from a number on
abbrev pub from : ℕ → List ℕ → List ℕ
from n [] = []
from n (x ∷ xs) = cond (eqb n x) (x ∷ xs) (from n xs)

abbrev pub rest_from : List ℕ → Option ℕ → List ℕ
rest_from xs None = []
rest_from xs (Some n) = from n xs

taking : (t : Bool) (xs ys : List ℕ) → t ≡ true → cond t xs ys ≡ xs
taking true xs ys e = refl
taking false xs ys e = absurd (cc)

skipping : (t : Bool) (xs ys : List ℕ) → t ≡ false → cond t xs ys ≡ ys
skipping true xs ys e = absurd (cc)
skipping false xs ys e = refl

pub rest-first : (xs : List ℕ) → rest_from xs (slice_get xs 0) ≡ xs
rest-first [] = refl
rest-first (x ∷ xs) = taking (eqb x x) (x ∷ xs) (from x xs) (eq-eqb x x refl)

first_member : (n : ℕ) (xs : List ℕ) → slice_get xs 0 ≡ Some n → 1 ≤ times n xs
first_member n [] e = absurd (cc)
first_member n (x ∷ xs) e = let same : x ≡ n = cc in subst (λ (y : ℕ). 1 ≤ times n (y ∷ xs)) (sym same) (here n xs)

next_member_step : (n x m : ℕ) (xs : List ℕ) (b : Bool) → cond b (slice_get xs 0) (next_in n xs) ≡ Some m → (next_in n xs ≡ Some m → 1 ≤ times m xs) → 1 ≤ times m (x ∷ xs)
next_member_step n x m xs true e ih = later m x xs (first_member m xs e)
next_member_step n x m xs false e ih = later m x xs (ih e)

-- who comes after another stands on the list
pub next-member : (n m : ℕ) (xs : List ℕ) → next_in n xs ≡ Some m → 1 ≤ times m xs
next-member n m [] e = absurd (cc)
next-member n m (x ∷ xs) e = next_member_step n x m xs (eqb n x) e (next-member n m xs)

pub first-member : (n : ℕ) (xs : List ℕ) → slice_get xs 0 ≡ Some n → 1 ≤ times n xs
first-member n xs e = first_member n xs e

-- a number that does not stand first
after_first : (x : ℕ) (xs : List ℕ) (o : Option ℕ) → ((y : ℕ) → times y (x ∷ xs) ≤ 1) → ((m : ℕ) → o ≡ Some m → 1 ≤ times m xs) → rest_from (x ∷ xs) o ≡ rest_from xs o
after_first x xs None once h = refl
after_first x xs (Some m) once h = skipping (eqb m x) (x ∷ xs) (from m xs) (not_here m x xs (once m) (h m refl))

rest_step : (n x : ℕ) (xs : List ℕ) (b : Bool) → eqb n x ≡ b → ((y : ℕ) → times y (x ∷ xs) ≤ 1) → 1 ≤ cond b 1 0 + times n xs → (1 ≤ times n xs → from n xs ≡ n ∷ rest_from xs (next_in n xs))
    → cond b (x ∷ xs) (from n xs) ≡ n ∷ rest_from (x ∷ xs) (cond b (slice_get xs 0) (next_in n xs))
rest_step n x xs true e once h ih =
    ap (λ (y : ℕ). y ∷ xs) (sym (eqb-true n x e))
    ∙ ap (λ (ys : List ℕ). n ∷ ys) (sym (after_first x xs (slice_get xs 0) once (λ m f. first_member m xs f) ∙ rest-first xs))
rest_step n x xs false e once h ih =
    ih (omega arith) ∙ ap (λ (ys : List ℕ). n ∷ ys) (sym (after_first x xs (next_in n xs) once (λ m f. next-member n m xs f)))

pub rest-step : (n : ℕ) (xs : List ℕ) → ((y : ℕ) → times y xs ≤ 1) → 1 ≤ times n xs → rest_from xs (Some n) ≡ n ∷ rest_from xs (next_in n xs)
rest-step n [] once h = absurd (omega arith)
rest-step n (x ∷ xs) once h = rest_step n x xs (eqb n x) refl once h (rest-step n xs (λ y. let most : times y (x ∷ xs) ≤ 1 = once y in omega arith))

-- ---- the nodes of a resource

pub record IsListed (c : Chains) (r n : ℕ) : Type 0 where
  pub view : NodeView
  pub there : map.get c.nodes n ≡ Some view
  pub resource : r ≡ view.resource

listed_as : (c : Chains) (r n : ℕ) (o : Option NodeView) → map.get c.nodes n ≡ o → 1 ≤ cond (has (λ v. v.resource) r o) 1 0 → IsListed c r n
listed_as c r n None e h = absurd (omega arith)
listed_as c r n (Some v) e h = go (eqb r v.resource) refl h where
  go : (b : Bool) → eqb r v.resource ≡ b → 1 ≤ cond b 1 0 → IsListed c r n
  go true f g = record { view = v; there = e; resource = eqb-true r v.resource f }
  go false f g = absurd (omega arith)

module _ (c : Chains) (r n : ℕ) (s : StandOnce c) (h : 1 ≤ times n (list_at c.on r)) where
  pub listed-is : IsListed c r n
  listed-is = listed_as c r n (map.get c.nodes n) refl (subst (λ (x : ℕ). 1 ≤ x) (s.on r n) h)

  pub listed-some : IsSome (map.get c.nodes n)
  listed-some = ap is_some listed-is.there

  pub listed-next : next_on c n ≡ next_in n (list_at c.on r)
  listed-next =
      ap (λ (o : Option NodeView). elim o as (λ _. Option ℕ) [ None ↦ None | Some v ↦ next_in n (list_at c.on v.resource) ]) listed-is.there
      ∙ ap (λ (x : ℕ). next_in n (list_at c.on x)) (sym listed-is.resource)

counted : (b : Bool) (n : ℕ) → n ≡ cond b 1 0 → n ≤ 1
counted true n e = omega arith
counted false n e = omega arith

pub listed-once : (c : Chains) (r : ℕ) → StandOnce c → (n : ℕ) → times n (list_at c.on r) ≤ 1
listed-once c r s n = counted (has (λ v. v.resource) r (map.get c.nodes n)) (times n (list_at c.on r)) (s.on r n)

-- a search goes on after one that does not pass
pub find-on : (test : ℕ → Bool) (n : ℕ) (xs : List ℕ) → test n ≡ false → find test (n ∷ xs) ≡ find test xs
find-on test n xs e = ap (λ (b : Bool). cond b (Some n) (find test xs)) e

pub find-here : (test : ℕ → Bool) (n : ℕ) (xs : List ℕ) → test n ≡ true → find test (n ∷ xs) ≡ Some n
find-here test n xs e = ap (λ (b : Bool). cond b (Some n) (find test xs)) e
