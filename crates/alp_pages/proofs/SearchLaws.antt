-- Names that are given number by number, and found by search.
use Rattle.std.specs.Prelude.{Bool, true, false, cond, nat_lt, Option, None, Some}
use Rattle.std.proofs.Common.{◌≡◌, ℕ, zero, suc, ◌<◌, refl, sym, ◌∙◌, ap, arith}
use Rattle.std.proofs.lemmas.Bool.{cond-true, ltb-true, lt-ltb}
use Rattle.alp_pages.specs.Naming.{Naming, IsNaming}
use Rattle.alp_pages.proofs.NamingLaws.{Tells}

abbrev pub is_here : {K : Type 0} → (K → K → Bool) → K → Option K → Bool
is_here same k None = false
is_here same k (Some j) = same k j

abbrev pub find_below : {K : Type 0} → (K → K → Bool) → (ℕ → Option K) → K → ℕ → Option ℕ
find_below same g k zero = None
find_below same g k (suc n) = cond (is_here same k (g n)) (Some n) (find_below same g k n)

abbrev pub searched : {K : Type 0} → (K → K → Bool) → (ℕ → Option K) → ℕ → Naming K
searched same g n = record { of = λ k. find_below same g k n; at = λ s. cond (nat_lt s n) (g s) None }

module _ {K : Type 0} {same : K → K → Bool} (tells : Tells same) (g : ℕ → Option K) where
  here_true : (k : K) (o : Option K) → is_here same k o ≡ true → o ≡ Some k
  here_true k None h = cc
  here_true k (Some j) h = ap Some (sym (tells.equal k j h))

  true_here : (k : K) (o : Option K) → o ≡ Some k → is_here same k o ≡ true
  true_here k None h = cc
  true_here k (Some j) h = let one : j ≡ k = cc in ap (same k) one ∙ tells.itself k

  found : (k : K) (n s : ℕ) → find_below same g k n ≡ Some s → (s < n) × (g s ≡ Some k)
  found k zero s h = cc
  found k (suc n) s h = go (is_here same k (g n)) refl (found k n s) h
    where
      go : (t : Bool) → is_here same k (g n) ≡ t → (find_below same g k n ≡ Some s → (s < n) × (g s ≡ Some k)) → cond t (Some n) (find_below same g k n) ≡ Some s → (s < suc n) × (g s ≡ Some k)
      go true e later r = let one : n ≡ s = cc in (omega (arith, one), ap g (sym one) ∙ here_true k (g n) e)
      go false e later r = let rest = later r in (omega (arith, rest.0), rest.1)

  finds : (k : K) (n s : ℕ) → s < n → g s ≡ Some k → (t : ℕ) × (find_below same g k n ≡ Some t)
  finds k zero s low h = absurd (omega arith)
  finds k (suc n) s low h = go (is_here same k (g n)) refl (λ lower. finds k n s lower h)
    where
      go : (t : Bool) → is_here same k (g n) ≡ t → (s < n → (r : ℕ) × (find_below same g k n ≡ Some r)) → (r : ℕ) × (cond t (Some n) (find_below same g k n) ≡ Some r)
      go true e later = (n, refl)
      go false e later =
          let other : n ≡ s → ⊥ = λ z. (let yes = true_here k (g n) (ap g z ∙ h) in cc) in
          later (omega (arith, other))

  module _ (n : ℕ) (apart : (a b : ℕ) (k : K) → a < n → b < n → g a ≡ Some k → g b ≡ Some k → a ≡ b) where
    pub search_finds : (k : K) (s : ℕ) → s < n → g s ≡ Some k → (searched same g n).of k ≡ Some s
    search_finds k s low h =
        let t = finds k n s low h in
        let there = found k n t.0 t.1 in
        t.1 ∙ ap Some (apart t.0 s k there.0 low there.1 h)

    pub search_found : (k : K) (s : ℕ) → (searched same g n).of k ≡ Some s → (s < n) × (g s ≡ Some k)
    search_found k s h = found k n s h

    pub search_at : (s : ℕ) → s < n → (searched same g n).at s ≡ g s
    search_at s low = cond-true (nat_lt s n) (g s) None (lt-ltb s n low)

    bound : (s : ℕ) (k : K) (t : Bool) → nat_lt s n ≡ t → cond t (g s) None ≡ Some k → (s < n) × (g s ≡ Some k)
    bound s k true e h = (ltb-true s n e, h)
    bound s k false e h = cc

    pub searched-is : IsNaming 0 n (searched same g n)
    searched-is = record {
      there = λ k s h. (let f = found k n s h in search_at s f.0 ∙ f.1);
      back = λ s k h. (let f = bound s k (nat_lt s n) refl h in search_finds k s f.0 f.1);
      least = λ k s h. omega arith;
      most = λ k s h. (found k n s h).0;
    }
