-- what a sink took, piece by piece
use Rattle.std.specs.Prelude.{Option, None, Some}
use Rattle.std.proofs.Common.{◌≡◌, ℕ, ◌+◌, List, ◌++◌, ◌-◌, length, length-drop, subst, take, drop, sym, ◌∙◌, ap, append_assoc}
use Rattle.std.proofs.Math.Seq.{take-add, take-length}
use Rattle.std.specs.Io.KnownBytes.{Appends}

-- two writes in a row are one
pub appended : (a b c : Option (List ℕ)) (xs : List ℕ) (d n : ℕ) → Appends a b (take d xs) → Appends b c (take n (drop d xs)) → Appends a c (take (d + n) xs)
appended None b c xs d n h k = tt
appended (Some x) None c xs d n h k = absurd h
appended (Some x) (Some y) None xs d n h k = absurd k
appended (Some x) (Some y) (Some z) xs d n h k =
    k ∙ ap (λ (w : List ℕ). w ++ take n (drop d xs)) h ∙ append_assoc x (take d xs) (take n (drop d xs))
    ∙ ap (λ (w : List ℕ). x ++ w) (sym (take-add d n xs))

rest_whole : (xs : List ℕ) (d : ℕ) → take (length xs - d) (drop d xs) ≡ drop d xs
rest_whole xs d = ap (λ (k : ℕ). take k (drop d xs)) (sym (length-drop d xs)) ∙ take-length (drop d xs)

pub appended_slice : (a b c : Option (List ℕ)) (xs : List ℕ) (d n : ℕ) → Appends a b (take d xs) → Appends b c (take n (take (length xs - d) (drop d xs))) → Appends a c (take (d + n) xs)
appended_slice a b c xs d n h k = appended a b c xs d n h (subst (λ (w : List ℕ). Appends b c (take n w)) (rest_whole xs d) k)
