-- The shown part of a page: a zero at its end is cut off, and what ends in no zero is shown whole.
use Rattle.std.specs.Prelude.{◌&&◌, ◌==◌, Bool, cond, flat_map}
use Rattle.std.proofs.Common.{◌≡◌, ℕ, zero, suc, ◌+◌, ◌-◌, ◌<◌, ◌≤◌, List, [], ◌∷◌, ◌++◌, length, take, drop, replicate, append-nil, append_assoc, get_or, true, false, refl, sym, ◌∙◌, ap, arith}
use Rattle.std.proofs.Math.Bool.{and-false}
use Rattle.std.proofs.Math.Seq.{take-add}
use Rattle.std.proofs.Math.Dec.{eqb-suc-zero}
use Rattle.std.proofs.lemmas.List.{take_more}
use Rattle.std.proofs.lemmas.Bool.{ne_eqb}
use Rattle.alp_report.specs.Replies.{shown_part, shown_text, byte_text}

shown-zero : (xs : List ℕ) → shown_part (xs ++ 0 ∷ []) ≡ shown_part xs
shown-zero [] = refl
shown-zero (x ∷ xs) = ap (λ (s : List ℕ). cond (x == 0 && length s == 0) [] (x ∷ s)) (shown-zero xs)

is_some : (xs : List ℕ) (b : ℕ) → (length (xs ++ b ∷ []) == 0) ≡ false
is_some [] b = eqb-suc-zero 0
is_some (x ∷ xs) b = eqb-suc-zero (length (xs ++ b ∷ []))

shown-last : (xs : List ℕ) (b : ℕ) → (b == 0) ≡ false → shown_part (xs ++ b ∷ []) ≡ xs ++ b ∷ []
shown-last [] b e = ap (λ (t : Bool). cond (t && true) [] (b ∷ [])) e
shown-last (x ∷ xs) b e =
    ap (λ (s : List ℕ). cond (x == 0 && length s == 0) [] (x ∷ s)) (shown-last xs b e)
    ∙ ap (λ (t : Bool). cond (x == 0 && t) [] (x ∷ (xs ++ b ∷ []))) (is_some xs b)
    ∙ ap (λ (t : Bool). cond t [] (x ∷ (xs ++ b ∷ []))) (and-false (x == 0))

one_cut : (xs : List ℕ) (n : ℕ) → 0 < n → n ≤ length xs → take n xs ≡ take (n - 1) xs ++ get_or xs (n - 1) 0 ∷ []
one_cut xs n some within =
    let e : n ≡ n - 1 + 1 = omega arith in
    ap (λ (k : ℕ). take k xs) e ∙ take_more xs (n - 1) 0 (omega arith)

pub cut_zero : (xs : List ℕ) (n : ℕ) → 0 < n → n ≤ length xs → get_or xs (n - 1) 0 ≡ 0 → shown_part (take (n - 1) xs) ≡ shown_part (take n xs)
cut_zero xs n some within last =
    sym (shown-zero (take (n - 1) xs)) ∙ ap (λ (b : ℕ). shown_part (take (n - 1) xs ++ b ∷ [])) (sym last) ∙ ap shown_part (sym (one_cut xs n some within))

shown-zeros : (n : ℕ) (xs : List ℕ) → shown_part (xs ++ replicate n 0) ≡ shown_part xs
shown-zeros zero xs = ap shown_part (append-nil xs)
shown-zeros (suc n) xs = ap shown_part (sym (append_assoc xs (0 ∷ []) (replicate n 0))) ∙ shown-zeros n (xs ++ 0 ∷ []) ∙ shown-zero xs

-- a run of zeros at the end is cut off as a whole
pub cut_zeros : (xs : List ℕ) (n k : ℕ) → k ≤ n → take (n - (n - k)) (drop (n - k) xs) ≡ replicate k 0 → shown_part (take (n - k) xs) ≡ shown_part (take n xs)
cut_zeros xs n k some zeros =
    let e : n - k + (n - (n - k)) ≡ n = omega (arith, some) in
    sym (shown-zeros k (take (n - k) xs)) ∙ ap (λ (l : List ℕ). shown_part (take (n - k) xs ++ l)) (sym zeros)
    ∙ ap shown_part (sym (take-add (n - k) (n - (n - k)) xs) ∙ ap (λ (m : ℕ). take m xs) e)

pub cut_last : (xs : List ℕ) (n : ℕ) → 0 < n → n ≤ length xs → (get_or xs (n - 1) 0 ≡ 0 → ⊥) → shown_part (take n xs) ≡ take n xs
cut_last xs n some within last =
    ap shown_part (one_cut xs n some within) ∙ shown-last (take (n - 1) xs) _ (ne_eqb _ 0 last) ∙ sym (one_cut xs n some within)

-- two bytes or more are written one by one
pub many_shown : (xs : List ℕ) → 1 < length xs → shown_text xs ≡ flat_map byte_text xs
many_shown [] many = absurd (omega arith)
many_shown (x ∷ []) many = absurd (omega arith)
many_shown (x ∷ y ∷ xs) many = refl

pub shown_none : (xs : List ℕ) (n : ℕ) → n ≡ 0 → take n xs ≡ shown_part (take n xs)
shown_none xs n none = ap (λ (k : ℕ). take k xs) none ∙ ap (λ (k : ℕ). shown_part (take k xs)) (sym none)
