-- the bytes of pairs of digits, one after the other
use Rattle.std.proofs.Common.{◌≡◌, ℕ, suc, ◌+◌, ◌*◌, ◌/◌, ◌<◌, ◌≤◌, List, [], ◌∷◌, ◌++◌, length, drop, get_or, refl, sym, ◌∙◌, ap, append_assoc, append-nil, arith, add-one, length-drop}
use Rattle.std.proofs.Math.Seq.{drop-cons}
use Rattle.alp_lines.specs.Hex.{digit_of, pairs_of}

-- the byte of the digits at these places
abbrev byte_at : List ℕ → ℕ → ℕ
byte_at w i = 16 * digit_of (get_or w i 0) + digit_of (get_or w (i + 1) 0)

two_off : (w : List ℕ) (i : ℕ) → i + 1 < length w → pairs_of (drop i w) ≡ byte_at w i ∷ pairs_of (drop (i + 2) w)
two_off w i h =
    let first : drop i w ≡ get_or w i 0 ∷ drop (i + 1) w = rw add-one (drop-cons w i 0 (omega (arith, h))) in
    let more : suc (i + 1) ≡ i + 2 = omega arith in
    let second : drop (i + 1) w ≡ get_or w (i + 1) 0 ∷ drop (i + 2) w = drop-cons w (i + 1) 0 h ∙ ap (λ (j : ℕ). get_or w (i + 1) 0 ∷ drop j w) more in
    ap pairs_of (first ∙ ap (λ (rest : List ℕ). get_or w i 0 ∷ rest) second)

-- one pair more
pub pairs-next : (w : List ℕ) (k byte : ℕ) (bytes : List ℕ) → k < length w / 2 → byte ≡ byte_at w (2 * k) → bytes ++ pairs_of (drop (2 * k) w) ≡ pairs_of w
    → (bytes ++ byte ∷ []) ++ pairs_of (drop (2 * (k + 1)) w) ≡ pairs_of w
pairs-next w k byte bytes within is kept =
    let next : 2 * (k + 1) ≡ 2 * k + 2 = omega arith in
    append_assoc bytes (byte ∷ []) (pairs_of (drop (2 * (k + 1)) w))
    ∙ ap (λ (b : ℕ). bytes ++ b ∷ pairs_of (drop (2 * (k + 1)) w)) is
    ∙ ap (λ (i : ℕ). bytes ++ byte_at w (2 * k) ∷ pairs_of (drop i w)) next
    ∙ ap (λ (rest : List ℕ). bytes ++ rest) (sym (two_off w (2 * k) (omega (arith, within))))
    ∙ kept

few_pairs : (w : List ℕ) → length w ≤ 1 → pairs_of w ≡ []
few_pairs [] h = refl
few_pairs (a ∷ []) h = refl
few_pairs (a ∷ b ∷ more) h = absurd (omega (arith, h))

-- all pairs
pub pairs-end : (w : List ℕ) (k : ℕ) (bytes : List ℕ) → length w / 2 ≤ k → bytes ++ pairs_of (drop (2 * k) w) ≡ pairs_of w → bytes ≡ pairs_of w
pairs-end w k bytes past kept =
    let few : length (drop (2 * k) w) ≤ 1 = omega (arith, past, length-drop (2 * k) w) in
    sym (append-nil bytes) ∙ ap (λ (rest : List ℕ). bytes ++ rest) (sym (few_pairs (drop (2 * k) w) few)) ∙ kept
