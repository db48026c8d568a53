-- the numbers that words spell
use Rattle.std.specs.Prelude.{ℕ, ◌+◌, ◌-◌, ◌*◌, ◌^◌, Bool, false, ◌&&◌, not, ◌==◌, nat_le, List, [], ◌∷◌, Option}
use Rattle.std.specs.List.{list_all}
use Rattle.alp_base.specs.Names.{is_between}
use Rattle.alp_tokens.specs.Words.{◌>>=◌, when}

abbrev pub is_digit : ℕ → Bool
is_digit b = is_between 48 57 b

-- decimal digits; none leads that is zero, unless it is the only one
abbrev pub is_numeral : List ℕ → Bool
is_numeral [] = false
is_numeral (d ∷ []) = is_digit d
is_numeral (d ∷ e ∷ es) = not (d == 48) && list_all is_digit (d ∷ e ∷ es)

-- what digits stand for, after n
abbrev pub value_from : ℕ → List ℕ → ℕ
value_from n [] = n
value_from n (d ∷ ds) = value_from (10 * n + (d - 48)) ds

-- the number that a numeral spells, where it is at most so much
unfoldable pub number_of : ℕ → List ℕ → Option ℕ
number_of most w = when (is_numeral w && nat_le (value_from 0 w) most) (value_from 0 w)

-- numbers that fit so many bits
abbrev pub byte_of : List ℕ → Option ℕ
byte_of w = number_of (2 ^ 8 - 1) w

abbrev pub word16_of : List ℕ → Option ℕ
word16_of w = number_of (2 ^ 16 - 1) w

abbrev pub word32_of : List ℕ → Option ℕ
word32_of w = number_of (2 ^ 32 - 1) w

abbrev pub word64_of : List ℕ → Option ℕ
word64_of w = number_of (2 ^ 64 - 1) w

-- the number, where it lies in this range
unfoldable pub within : ℕ → ℕ → List ℕ → Option ℕ
within low high w = do
  n ← number_of high w
  when (nat_le low n) n

abbrev pub are_numerals : List ℕ → List ℕ → List ℕ → Bool
are_numerals a b c = is_numeral a && is_numeral b && is_numeral c
