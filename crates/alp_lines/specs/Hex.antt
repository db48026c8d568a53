-- the bytes that a word spells, two digits each
use Rattle.std.specs.Prelude.{ℕ, ◌+◌, ◌-◌, ◌*◌, ◌%◌, Bool, ◌&&◌, ◌||◌, ◌==◌, nat_le, List, [], ◌∷◌, length, Option, if◌then◌else◌}
use Rattle.std.specs.List.{list_all}
use Rattle.alp_base.specs.Names.{is_between}
use Rattle.alp_tokens.specs.Words.{when}

-- from `0` to `9`, or from `a` to `f`
abbrev pub is_hex_digit : ℕ → Bool
is_hex_digit b = is_between 48 57 b || is_between 97 102 b

-- what a digit stands for, and 0 for any other byte
abbrev pub digit_of : ℕ → ℕ
digit_of b = if is_between 48 57 b then b - 48 else if is_between 97 102 b then b - 87 else 0

-- the byte of each pair
abbrev pub pairs_of : List ℕ → List ℕ
pairs_of [] = []
pairs_of (a ∷ []) = []
pairs_of (a ∷ b ∷ more) = (16 * digit_of a + digit_of b) ∷ pairs_of more

-- the bytes of an even number of digits, of which there are some
unfoldable pub hex_of : List ℕ → Option (List ℕ)
hex_of w = when (nat_le 2 (length w) && length w % 2 == 0 && list_all is_hex_digit w) (pairs_of w)
