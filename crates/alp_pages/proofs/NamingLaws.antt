-- Laws of names and numbers.
use Rattle.std.specs.Prelude.{Bool, true, false, cond, Option, None, Some, ◌==◌}
use Rattle.std.proofs.Common.{◌≡◌, ℕ, ◌<◌, ◌≤◌, refl, sym, ◌∙◌, ap, arith, eq-eqb}
use Rattle.std.proofs.lemmas.Bool.{eqb-true, cond-true, cond-false}
use Rattle.alp_pages.specs.Naming.{Naming, IsNaming, named, without, unless}

pub eqb_other : (a b : ℕ) → (a ≡ b → ⊥) → (a == b) ≡ false
eqb_other a b ne = go (a == b) refl
  where
    go : (t : Bool) → (a == b) ≡ t → t ≡ false
    go true e = absurd (ne (eqb-true a b e))
    go false e = refl

module _ {K : Type 0} {lo hi : ℕ} {n : Naming K} (is : IsNaming lo hi n) where
  -- two names have two numbers
  pub apart : (a b : K) (p q : ℕ) → n.of a ≡ Some p → n.of b ≡ Some q → (b ≡ a → ⊥) → (q == p) ≡ false
  apart a b p q ea eb ne = eqb_other q p (λ e.
      let one : n.at p ≡ Some a = is.there a p ea in
      let two : n.at q ≡ Some b = is.there b q eb in
      let same : n.at q ≡ n.at p = ap n.at e in
      let joined : b ≡ a = cc in
      ne joined)

  -- no name has a number that is free
  pub fresh : (b : K) (p q : ℕ) → n.at p ≡ None → n.of b ≡ Some q → (q == p) ≡ false
  fresh b p q free eb = eqb_other q p (λ e.
      let two : n.at q ≡ Some b = is.there b q eb in
      let same : n.at q ≡ n.at p = ap n.at e in
      cc)

  pub none_at : (p : ℕ) (k : K) → n.at p ≡ None → n.of k ≡ Some p → ⊥
  none_at p k free e = let two : n.at p ≡ Some k = is.there k p e in cc

-- what a test of names tells
pub record Tells {K : Type 0} (same : K → K → Bool) : Type 0 where
  pub equal : (a b : K) → same a b ≡ true → a ≡ b
  pub itself : (a : K) → same a a ≡ true

module _ {K : Type 0} {lo hi : ℕ} {same : K → K → Bool} (tells : Tells same) (n : Naming K) (is : IsNaming lo hi n) (k : K) (p : ℕ) where
  pub named-there : n.of k ≡ None → n.at p ≡ None → (q : K) (r : ℕ) → (named same k p n).of q ≡ Some r → (named same k p n).at r ≡ Some q
  named-there none free q r = go (same q k) refl
    where
      go : (t : Bool) → same q k ≡ t → cond t (Some p) (n.of q) ≡ Some r → cond (r == p) (Some k) (n.at r) ≡ Some q
      go true e h =
          let one : r ≡ p = cc in
          let two : k ≡ q = sym (tells.equal q k e) in
          cond-true (r == p) (Some k) (n.at r) (eq-eqb r p one) ∙ ap Some two
      go false e h = cond-false (r == p) (Some k) (n.at r) (fresh is q p r free h) ∙ is.there q r h

  pub named-back : n.of k ≡ None → n.at p ≡ None → (r : ℕ) (q : K) → (named same k p n).at r ≡ Some q → (named same k p n).of q ≡ Some r
  named-back none free r q = go (r == p) refl
    where
      other : (t : Bool) → same q k ≡ t → n.of q ≡ Some r → cond t (Some p) (n.of q) ≡ Some r
      other true e h = let one : q ≡ k = tells.equal q k e in let two : n.of q ≡ n.of k = ap n.of one in cc
      other false e h = h

      go : (t : Bool) → (r == p) ≡ t → cond t (Some k) (n.at r) ≡ Some q → cond (same q k) (Some p) (n.of q) ≡ Some r
      go true e h =
          let one : r ≡ p = eqb-true r p e in
          let two : k ≡ q = cc in
          let alike : same q k ≡ true = ap (λ x. same x k) (sym two) ∙ tells.itself k in
          cond-true (same q k) (Some p) (n.of q) alike ∙ ap Some (sym one)
      go false e h = other (same q k) refl (is.back r q h)

  range : (q : K) (r : ℕ) (t : Bool) → cond t (Some p) (n.of q) ≡ Some r → lo ≤ p → p < hi → (lo ≤ r) × (r < hi)
  range q r true h least most = let one : p ≡ r = cc in (omega arith, omega arith)
  range q r false h least most = (is.least q r h, is.most q r h)

  pub named-is : n.of k ≡ None → n.at p ≡ None → lo ≤ p → p < hi → IsNaming lo hi (named same k p n)
  unfolding range
  named-is none free least most = record {
    there = named-there none free;
    back = named-back none free;
    least = λ q r h. (range q r (same q k) h least most).0;
    most = λ q r h. (range q r (same q k) h least most).1;
  }

-- these names go
module _ {K : Type 0} {lo hi : ℕ} (gone : K → Bool) (n : Naming K) (is : IsNaming lo hi n) where
  pub kept_of : (q : K) (r : ℕ) (t : Bool) → cond t None (n.of q) ≡ Some r → (t ≡ false) × (n.of q ≡ Some r)
  kept_of q r true h = cc
  kept_of q r false h = (refl, h)

  kept_at : (o : Option K) (q : K) → unless gone o ≡ Some q → (o ≡ Some q) × (gone q ≡ false)
  kept_at None q h = cc
  kept_at (Some k) q h = go (gone k) refl h
    where
      go : (t : Bool) → gone k ≡ t → cond t None (Some k) ≡ Some q → (Some k ≡ Some q) × (gone q ≡ false)
      go true e h = cc
      go false e h = let same : k ≡ q = cc in (h, ap gone (sym same) ∙ e)

  pub without-is : IsNaming lo hi (without gone n)
  unfolding kept_of kept_at
  without-is = record {
    there = λ q r h. let k = kept_of q r (gone q) h in ap (unless gone) (is.there q r k.1) ∙ cond-false (gone q) None (Some q) k.0;
    back = λ r q h. let k = kept_at (n.at r) q h in cond-false (gone q) None (n.of q) k.1 ∙ is.back r q k.0;
    least = λ q r h. is.least q r (kept_of q r (gone q) h).1;
    most = λ q r h. is.most q r (kept_of q r (gone q) h).1;
  }
