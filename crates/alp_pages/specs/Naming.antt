-- Names and numbers that go with each other one to one: what stands at a number, and where a name stands.
use Rattle.std.specs.Prelude.{◌≡◌, ◌≤◌, ◌<◌, ℕ, Bool, ◌==◌, List, [], ◌∷◌, Option, None, Some, if◌then◌else◌}

-- the number of each name that has one, and the name of each number that has one
pub record Naming (K : Type 0) : Type 0 where
  pub of : K → Option ℕ
  pub at : ℕ → Option K

-- each name has one number or none, from low on and below high, and no two names share one
pub record IsNaming {K : Type 0} (low high : ℕ) (n : Naming K) : Type 0 where
  pub there : (k : K) (p : ℕ) → n.of k ≡ Some p → n.at p ≡ Some k
  pub back : (p : ℕ) (k : K) → n.at p ≡ Some k → n.of k ≡ Some p
  pub least : (k : K) (p : ℕ) → n.of k ≡ Some p → low ≤ p
  pub most : (k : K) (p : ℕ) → n.of k ≡ Some p → p < high

-- no name has a number
abbrev pub nameless : {K : Type 0} → Naming K
nameless = record { of = λ k. None; at = λ p. None }

-- a name gets a number
abbrev pub named : {K : Type 0} → (K → K → Bool) → K → ℕ → Naming K → Naming K
named same k p n = record { of = λ q. if same q k then Some p else n.of q; at = λ r. if r == p then Some k else n.at r }

-- these names get these numbers
abbrev pub named_all : {K : Type 0} → (K → K → Bool) → List (K × ℕ) → Naming K
named_all same [] = nameless
named_all same (x ∷ xs) = named same x.0 x.1 (named_all same xs)

abbrev pub unless : {K : Type 0} → (K → Bool) → Option K → Option K
unless gone None = None
unless gone (Some k) = if gone k then None else Some k

-- these names lose their numbers
abbrev pub without : {K : Type 0} → (K → Bool) → Naming K → Naming K
without gone n = record { of = λ q. if gone q then None else n.of q; at = λ r. unless gone (n.at r) }

-- the number as a page spells it: 0 where there is none
abbrev pub number_or_0 : Option ℕ → ℕ
number_or_0 None = 0
number_or_0 (Some p) = p
