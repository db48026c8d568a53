-- Two lists, place by place.
use Rattle.std.specs.Prelude.{ℕ, ◌+◌, List, [], ◌∷◌}

-- they are as long as each other, and that holds of the two at each place, with the numbers from this one on
abbrev pub ArePaired : {A B : Type 0} → (ℕ → A → B → Type 0) → ℕ → List A → List B → Type 0
ArePaired P n [] [] = Unit {0}
ArePaired P n [] (y ∷ ys) = ⊥
ArePaired P n (x ∷ xs) [] = ⊥
ArePaired P n (x ∷ xs) (y ∷ ys) = P n x y × ArePaired P (n + 1) xs ys

-- the same without numbers
abbrev pub AreMatched : {A B : Type 0} → (A → B → Type 0) → List A → List B → Type 0
AreMatched P [] [] = Unit {0}
AreMatched P [] (y ∷ ys) = ⊥
AreMatched P (x ∷ xs) [] = ⊥
AreMatched P (x ∷ xs) (y ∷ ys) = P x y × AreMatched P xs ys
