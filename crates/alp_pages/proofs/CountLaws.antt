-- As many places are taken as there are nodes.
use Rattle.std.specs.Prelude.{Bool, true, false, not, ◌&&◌, ◌||◌, ◌==◌, Option, None, Some}
use Rattle.std.specs.List.{list_any, AllByRecursion}
use Rattle.std.proofs.Common.{◌≡◌, ℕ, zero, suc, ◌<◌, ◌+◌, List, [], ◌∷◌, length, refl, sym, ◌∙◌, ap, arith, eq-eqb}
use Rattle.std.proofs.lemmas.Bool.{eqb-true}
use Rattle.alp_pages.specs.Naming.{Naming, IsNaming}
use Rattle.alp_pages.specs.Counted.{bit, count_below, AreApart, is_among}
use Rattle.alp_pages.proofs.NamingLaws.{Tells, eqb_other}

pub count-same : (g h : ℕ → Bool) (n : ℕ) → ((p : ℕ) → p < n → g p ≡ h p) → count_below g n ≡ count_below h n
count-same g h zero e = refl
count-same g h (suc n) e = let one : bit (g n) ≡ bit (h n) = ap bit (e n (omega arith)) in omega (arith, one, count-same g h n (λ p low. e p (omega arith)))

count-none : (g : ℕ → Bool) (n : ℕ) → ((p : ℕ) → g p ≡ false) → count_below g n ≡ 0
count-none g zero e = refl
count-none g (suc n) e = let one : bit (g n) ≡ 0 = ap bit (e n) in omega (arith, one, count-none g n e)

-- one less, where one that passes is left out
count-less : (g : ℕ → Bool) (x n : ℕ) → g x ≡ true → x < n → count_below g n ≡ 1 + count_below (λ p. g p && not (p == x)) n
count-less g x zero here low = absurd (omega arith)
count-less g x (suc n) here low = go (n == x) refl (count-less g x n here)
  where
    both : (t : Bool) → (t && true) ≡ t
    both true = refl
    both false = refl

    go : (t : Bool) → (n == x) ≡ t → (x < n → count_below g n ≡ 1 + count_below (λ p. g p && not (p == x)) n)
        → bit (g n) + count_below g n ≡ 1 + (bit (g n && not (n == x)) + count_below (λ p. g p && not (p == x)) n)
    go true e rest =
        let same : n ≡ x = eqb-true n x e in
        let now : g n ≡ true = ap g same ∙ here in
        let last : (g n && not (n == x)) ≡ false = ap (λ (t : Bool). t && not (n == x)) now ∙ ap not e in
        let others : count_below g n ≡ count_below (λ p. g p && not (p == x)) n = count-same g (λ p. g p && not (p == x)) n (λ p below.
        sym (ap (λ (t : Bool). g p && not t) (eqb_other p x (λ z. omega arith)) ∙ both (g p))) in
        let first : bit (g n) ≡ 1 = ap bit now in
        let none : bit (g n && not (n == x)) ≡ 0 = ap bit last in
        omega (arith, first, none, others)
    go false e rest =
        let apart_ : x < n = (let ne : n ≡ x → ⊥ = (λ z. (let yes = eq-eqb n x z in cc)) in omega (arith, ne)) in
        let same : bit (g n && not (n == x)) ≡ bit (g n) = ap (λ (t : Bool). bit (g n && not t)) e ∙ ap bit (both (g n)) in
        omega (arith, same, rest apart_)

module _ {K : Type 0} {lo hi : ℕ} {same : K → K → Bool} (tells : Tells same) (nm : Naming K) (is : IsNaming lo hi nm) where
  -- each of these has a number
  abbrev pub AllNamed : List K → Type 0
  AllNamed ks = AllByRecursion (λ (k : K). (p : ℕ) × (nm.of k ≡ Some p)) ks

  less : (k : K) (ks : List K) (x : ℕ) → nm.of k ≡ Some x → list_any (same k) ks ≡ false → (p : ℕ) → (is_among same (k ∷ ks) (nm.at p) && not (p == x)) ≡ is_among same ks (nm.at p)
  less k ks x here alone p = go (nm.at p) refl
    where
      go : (o : Option K) → nm.at p ≡ o → (is_among same (k ∷ ks) o && not (p == x)) ≡ is_among same ks o
      go None e = refl
      go (Some j) e = one (same j k) refl
        where
          flip : (t : Bool) → (t && true) ≡ t
          flip true = refl
          flip false = refl

          gone : (t : Bool) → (t && false) ≡ false
          gone true = refl
          gone false = refl

          one : (t : Bool) → same j k ≡ t → ((t || list_any (same j) ks) && not (p == x)) ≡ list_any (same j) ks
          one true d =
              let kind : j ≡ k = tells.equal j k d in
              let number : nm.of j ≡ Some p = is.back p j e in
              let there : nm.of j ≡ nm.of k = ap nm.of kind in
              let place : p ≡ x = cc in
              ap not (eq-eqb p x place) ∙ sym (ap (λ (z : K). list_any (same z) ks) kind ∙ alone)
          one false d =
              let number : nm.of j ≡ Some p = is.back p j e in
              let ne : p ≡ x → ⊥ = λ z. (
              let at : nm.at x ≡ Some k = is.there k x here in
              let at2 : nm.at p ≡ nm.at x = ap nm.at z in
              let kind : j ≡ k = cc in
              let yes : same j k ≡ true = ap (λ (y : K). same y k) kind ∙ tells.itself k in
              cc
              ) in
              ap (λ (t : Bool). list_any (same j) ks && not t) (eqb_other p x ne) ∙ flip (list_any (same j) ks)

  pub count-names : (ks : List K) → AreApart same ks → AllNamed ks → count_below (λ p. is_among same ks (nm.at p)) hi ≡ length ks
  count-names [] apart named = count-none (λ p. is_among same [] (nm.at p)) hi (λ p. none (nm.at p))
    where
      none : (o : Option K) → is_among same [] o ≡ false
      none None = refl
      none (Some k) = refl
  count-names (k ∷ ks) apart named =
      let x : ℕ = named.0.0 in
      let here : nm.of k ≡ Some x = named.0.1 in
      let among : is_among same (k ∷ ks) (nm.at x) ≡ true = ap (is_among same (k ∷ ks)) (is.there k x here) ∙ ap (λ (t : Bool). t || list_any (same k) ks) (tells.itself k) in
      let one = count-less (λ p. is_among same (k ∷ ks) (nm.at p)) x hi among (is.most k x here) in
      let rest = count-same (λ p. is_among same (k ∷ ks) (nm.at p) && not (p == x)) (λ p. is_among same ks (nm.at p)) hi (λ p low. less k ks x here apart.0 p) in
      let all = count-names ks apart.1 named.1 in
      omega (arith, one, rest, all)
