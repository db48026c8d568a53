-- the states between the entries of a journal
use Rattle.std.proofs.Common.{◌≡◌, ℕ, zero, suc, ◌<◌, ◌≤◌, List, [], ◌∷◌, ◌++◌, take, slice_get, length, refl, sym, ap, subst, ◌∙◌, Option, Some, None, arith, inl, inr}
use Rattle.std.proofs.Math.Nat.{eq-or-lt_of_le}
use Rattle.std.specs.List.{AllByRecursion}
use Rattle.alp_journal.specs.Along.{state_after, Along}
use Rattle.alp_history.specs.Log.{IsIn}

pub some-same : {A : Type 0} (x y : A) → Some x ≡ Some y → x ≡ y
some-same x y h = ap (λ (o : Option _). elim o [ None ↦ x | Some z ↦ z ]) h

pub take-one : {E : Type 0} (es : List E) (i : ℕ) (e : E) → slice_get es i ≡ Some e → take (suc i) es ≡ take i es ++ e ∷ []
take-one [] i e h = cc
take-one (x ∷ es) zero e h = ap (λ y. y ∷ []) (some-same x e h)
take-one (x ∷ es) (suc i) e h = ap (λ ys. x ∷ ys) (take-one es i e h)

pub past-end : {E : Type 0} (es : List E) (i : ℕ) → slice_get es i ≡ None → length es ≤ i
past-end [] i h = omega arith
past-end (x ∷ es) zero h = cc
past-end (x ∷ es) (suc i) h = let l : length es ≤ i = past-end es i h in omega (arith, l)

pub in-list : {E : Type 0} (es : List E) (i : ℕ) (e : E) → slice_get es i ≡ Some e → i < length es
in-list [] i e h = cc
in-list (x ∷ es) zero e h = omega arith
in-list (x ∷ es) (suc i) e h = let l : i < length es = in-list es i e h in omega (arith, l)

pub take-all : {E : Type 0} (es : List E) → take (length es) es ≡ es
take-all [] = refl
take-all (x ∷ es) = ap (λ ys. x ∷ ys) (take-all es)

pub all-in : {A : Type 0} (P : A → Type 0) (xs : List A) (x : A) → AllByRecursion P xs → IsIn x xs → P x
all-in P [] x h i = absurd i
all-in P (y ∷ ys) x h i = elim i [ inl e ↦ subst P (sym e) h.0 | inr k ↦ all-in P ys x h.1 k ]

module _ {S E : Type 0} (step : S → E → S) where
  pub state-append : (s : S) (es fs : List E) → state_after step s (es ++ fs) ≡ state_after step (state_after step s es) fs
  state-append s [] fs = refl
  state-append s (e ∷ es) fs = state-append (step s e) es fs

  abbrev pub at : S → List E → ℕ → S
  at s es i = state_after step s (take i es)

  pub at-suc : (s : S) (es : List E) (i : ℕ) (e : E) → slice_get es i ≡ Some e → at s es (suc i) ≡ step (at s es i) e
  at-suc s es i e h = ap (state_after step s) (take-one es i e h) ∙ state-append s (take i es) (e ∷ [])

  -- a law that holds along a list holds at each place
  pub along-at : (law : S → E → Type 0) (s : S) (es : List E) (i : ℕ) (e : E) → Along step law s es → slice_get es i ≡ Some e → law (at s es i) e
  along-at law s [] i e h k = cc
  along-at law s (x ∷ es) zero e h k = subst (law s) (some-same x e k) h.0
  along-at law s (x ∷ es) (suc i) e h k = along-at law (step s x) es i e h.1 k

  -- what every step from a place on keeps, up to another place
  pub keeps-from : (P : S → Type 0) (s : S) (es : List E) (from to : ℕ)
      → ((i : ℕ) (e : E) → from ≤ i → i < to → slice_get es i ≡ Some e → P (at s es i) → P (step (at s es i) e))
      → P (at s es from) → (i : ℕ) → from ≤ i → i ≤ to → i ≤ length es → P (at s es i)
  keeps-from P s es from to f p zero l m n = let same : from ≡ zero = omega (arith, l) in subst (λ k. P (at s es k)) same p
  keeps-from P s es from to f p (suc i) l m n = elim (eq-or-lt_of_le l) [
    | inl same ↦ subst (λ k. P (at s es k)) same p
    | inr less ↦ go (slice_get es i) refl (omega (arith, less)) (keeps-from P s es from to f p i (omega (arith, less)) (omega (arith, m)) (omega (arith, n)))
  ]
    where
      go : (x : Option E) → slice_get es i ≡ x → from ≤ i → P (at s es i) → P (at s es (suc i))
      go None e b q = absurd (let k : length es ≤ i = past-end es i e in omega (arith, k, n))
      go (Some x) e b q = subst P (sym (at-suc s es i x e)) (f i x b (omega (arith, m)) e q)
