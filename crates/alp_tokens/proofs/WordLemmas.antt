-- lemmas on values that are there where a test holds, and on words in a row
use Rattle.std.specs.Prelude.{Bool, None, Some}
use Rattle.std.specs.Borrow.{Bor}
use Rattle.std.proofs.Common.{◌≡◌, ℕ, ◌+◌, ◌<◌, List, ◌∷◌, length, drop, get_or, true, false, refl, ap, add-one}
use Rattle.std.proofs.Math.Seq.{drop-cons}
use Rattle.std.proofs.lemmas.Option.{same_Some}
use Rattle.alp_tokens.specs.Words.{when, shown}

pub tested : {A : Type 0} (b : Bool) (x y : A) → when b x ≡ Some y → (b ≡ true) × (x ≡ y)
tested true x y h = (refl, same_Some x y h)
tested false x y h = cc

pub untested : {A : Type 0} (b : Bool) (x : A) → when b x ≡ None → b ≡ false
untested true x h = cc
untested false x h = refl

pub when-false : {A : Type 0} (b : Bool) (x : A) → b ≡ false → when b x ≡ None
when-false b x e = ap (λ (c : Bool). when c x) e

-- the words from the i-th on
pub shown-drop : (ws : List (Bor (List ℕ))) (i : ℕ) (d : Bor (List ℕ)) → i < length ws → shown (drop i ws) ≡ (get_or ws i d).now ∷ shown (drop (i + 1) ws)
shown-drop ws i d h = rw add-one (ap (λ (rest : List (Bor (List ℕ))). shown rest) (drop-cons ws i d h))
