-- what is taken of a queue, and what is left of it
use Rattle.std.specs.Prelude.{Option, None, Some, IfSome, IfNone, ◌==◌, map}
use Rattle.std.specs.Option.{option_to_list}
use Rattle.std.proofs.Common.{◌≡◌, ℕ, List, [], ◌∷◌, ◌++◌, length, drop, refl, sym, ◌∙◌, ap, arith}
use Rattle.std.proofs.lemmas.Bool.{ne_eqb}
use Rattle.alp_jobs.specs.Jobs.{is_nil}

pub nil_by : {X : Type 0} (xs : List X) (n : ℕ) → n ≡ length xs → (n == 0) ≡ is_nil xs
nil_by [] n same = ap (λ (m : ℕ). m == 0) same
nil_by (x ∷ xs) n same = ne_eqb n 0 (λ e. omega (arith, same, e))

pub nil_map : {X Y : Type 0} (f : X → Y) (xs : List X) → is_nil xs ≡ is_nil (map f xs)
nil_map f [] = refl
nil_map f (x ∷ xs) = refl

pub some_taken : {X : Type 0} (o : Option X) (old now : List X) → old ≡ option_to_list o ++ now → IfSome o (λ (x : X). old ≡ x ∷ now)
some_taken (Some x) old now are = are
some_taken None old now are = tt

-- a list without its first element is shorter, unless it has none
dropped : {X : Type 0} (xs : List X) → xs ≡ drop 1 xs → xs ≡ []
dropped [] same = refl
dropped (x ∷ xs) same = absurd (omega (arith, ap length same))

pub none_taken : {X : Type 0} (o : Option X) (old now : List X) → old ≡ option_to_list o ++ now → now ≡ drop 1 old → IfNone o ((old ≡ []) × (now ≡ []))
none_taken (Some x) old now are rest = tt
none_taken None old now are rest = (dropped old (are ∙ rest), sym are ∙ dropped old (are ∙ rest))
