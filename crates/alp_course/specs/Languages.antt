-- What may occur, by lists of what occurs one after the other.
use Rattle.std.specs.Prelude.{◌≡◌, ℕ, zero, suc, List, [], ◌∷◌, ◌++◌}
use Rattle.alp_course.specs.Courses.{Occurrence}

abbrev pub Language : Type 1
Language = List Occurrence → Type 0

abbrev pub Nothing : Language
Nothing xs = xs ≡ []

-- just this
abbrev pub Just : List Occurrence → Language
Just ys xs = xs ≡ ys

-- first something of the one, and then something of the other
pub record Then (A B : Language) (xs : List Occurrence) : Type 0 where
  pub front : List Occurrence
  pub back : List Occurrence
  pub are : xs ≡ front ++ back
  pub first : A front
  pub second : B back

-- for each of the numbers from 1 on to this one, in order
abbrev pub Each : (ℕ → Language) → ℕ → Language
Each A zero = Nothing
Each A (suc n) = Then (Each A n) (A (suc n))

-- of what may occur this much did, and that was to come next
pub record IsBegun (A : Language) (xs : List Occurrence) (coming : Occurrence) : Type 0 where
  pub rest : List Occurrence
  pub all : A (xs ++ coming ∷ rest)
