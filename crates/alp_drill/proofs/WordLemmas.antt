-- a name with a number behind it is a name
use Rattle.std.specs.Prelude.{Bool, ◌&&◌, ◌||◌, nat_le}
use Rattle.std.specs.List.{list_all}
use Rattle.std.specs.Fmt.{decimal}
use Rattle.std.proofs.Common.{◌≡◌, ℕ, ◌+◌, ◌%◌, ◌<◌, ◌≤◌, ◌^◌, List, [], ◌∷◌, ◌++◌, length, true, refl, sym, ◌∙◌, ap, arith, length-append}
use Rattle.std.proofs.lemmas.Bool.{le-leb, leb-true, and_from, and_parts, or_left, or_right}
use Rattle.std.proofs.lemmas.Fmt.{decimal_by_steps, length-decimal-le}
use Rattle.std.proofs.lemmas.List.Folds.{list_all-append}
use Rattle.alp_base.specs.Names.{is_between, is_name_byte, is_name}

digit : (d : ℕ) → d < 10 → is_name_byte (48 + d) ≡ true
digit d low =
    let between : is_between 48 57 (48 + d) ≡ true = and_from _ _ (le-leb 48 (48 + d) (omega arith)) (le-leb (48 + d) 57 (omega arith)) in
    or_left _ _ (or_left _ _ (or_left _ _ (or_right (is_between 97 122 (48 + d) || is_between 65 90 (48 + d)) (is_between 48 57 (48 + d)) between)))

digits_are : (n : ℕ) → n < 2 ^ 64 → list_all is_name_byte (decimal n) ≡ true
digits_are = decimal_by_steps (λ n ds. list_all is_name_byte ds ≡ true)
    (λ n low. and_from _ _ (digit n low) refl)
    (λ n ds high front. list_all-append is_name_byte ds ((48 + n % 10) ∷ []) ∙ and_from _ _ front (and_from _ _ (digit (n % 10) (omega arith)) refl))

pub numbered_name : (letter : List ℕ) (n : ℕ) → is_name letter ≡ true → length letter ≤ 4 → n < 2 ^ 32 → is_name (letter ++ decimal n) ≡ true
numbered_name letter n named short low =
    let long : length (letter ++ decimal n) ≡ length letter + length (decimal n) = length-append letter (decimal n) in
    let few : length (decimal n) ≤ 10 = length-decimal-le 10 n (omega arith) (omega arith) (omega arith) in
    let (bounds, bytes) = and_parts (nat_le 1 (length letter) && nat_le (length letter) 24) (list_all is_name_byte letter) named in
    let least : 1 ≤ length letter = leb-true _ _ (and_parts (nat_le 1 (length letter)) _ bounds).0 in
    and_from _ _
    (and_from _ _ (le-leb 1 (length (letter ++ decimal n)) (omega (arith, long, least))) (le-leb (length (letter ++ decimal n)) 24 (omega (arith, long, short, few))))
    (list_all-append is_name_byte letter (decimal n) ∙ and_from _ _ bytes (digits_are n (omega arith)))

-- a text of a letter and a number is short
pub numbered_length : (letter : List ℕ) (n : ℕ) → n < 2 ^ 32 → length (letter ++ decimal n) ≤ length letter + 10
numbered_length letter n low = omega (arith, length-append letter (decimal n), length-decimal-le 10 n (omega arith) (omega arith) (omega arith))
