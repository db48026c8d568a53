-- lemmas on words and numbers
use Rattle.std.specs.Prelude.{nat_le, ◌&&◌, Bool, None, Some, cond}
use Rattle.std.proofs.Common.{◌≡◌, ℕ, ◌+◌, ◌-◌, ◌*◌, ◌<◌, ◌≤◌, List, [], ◌∷◌, true, false, refl, sym, ap, arith}
use Rattle.std.proofs.lemmas.Bool.{lt-leb}
use Rattle.alp_tokens.specs.Words.{when}
use Rattle.alp_tokens.specs.Numbers.{value_from, number_of, is_numeral}

-- more digits make no less
pub value_from-above : (n : ℕ) (ds : List ℕ) → n ≤ value_from n ds
value_from-above n [] = omega arith
value_from-above n (d ∷ ds) = omega (arith, value_from-above (10 * n + (d - 48)) ds)

no_number : (b c : Bool) (n : ℕ) → c ≡ false → None ≡ when (b && c) n
no_number true c n e = ap (λ d. cond d (Some n) None) (sym e)
no_number false c n e = refl

pub too_large : (most : ℕ) (w : List ℕ) → most < value_from 0 w → number_of most w ≡ None
unfolding number_of
too_large most w h = sym (no_number (is_numeral w) (nat_le (value_from 0 w) most) (value_from 0 w) (lt-leb _ _ h))
