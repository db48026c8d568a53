-- Flags in words of 32, one by one.
use Rattle.std.specs.Prelude.{Bool, true, false, ◌==◌, ◌/◌, ◌%◌, nat_lt, replicate, slice_index_or, slice_set, map as list_map}
use Rattle.std.specs.Int.{bit_at}
use Rattle.std.specs.List.{range_with_len}
use Rattle.std.proofs.Common.{◌≡◌, ℕ, zero, suc, ◌+◌, ◌*◌, ◌<◌, ◌≤◌, List, [], ◌∷◌, ◌++◌, length, get_or, refl, sym, ◌∙◌, ap, subst, arith, eq-eqb}
use Rattle.std.proofs.lemmas.Bool.{eqb-true, ltb-true, ltb-false}
use Rattle.std.proofs.lemmas.List.{ext_get_or, get_or-set_same, get_or-set_other, get_or_past, length-set, length-replicate}
use Rattle.std.proofs.lemmas.List.FromFn.{get_or-map-range_with_len, length-map-range_with_len}
use Rattle.std.proofs.lemmas.Nat.Bits.{bit_at-zero}
use Rattle.alp_tables.specs.Bits.{flag_in, flags_of}

pub flags_long : (words : List ℕ) (n : ℕ) → length (flags_of words n) ≡ n
unfolding flags_of
flags_long words n = length-map-range_with_len (flag_in words) 0 n

pub flag_at : (words : List ℕ) (n p : ℕ) → p < n → slice_index_or (flags_of words n) p true ≡ flag_in words p
unfolding flags_of
flag_at words n p low = get_or-map-range_with_len (flag_in words) 0 n p p true low (omega arith)

pub flag_past : (words : List ℕ) (n p : ℕ) → n ≤ p → slice_index_or (flags_of words n) p true ≡ true
flag_past words n p high = get_or_past (flags_of words n) p true (omega (arith, flags_long words n, high))

-- the word of a flag changes, in that flag alone
pub flag_set : (words : List ℕ) (n p w : ℕ) (x : Bool) → p < n → p / 32 < length words → (bit_at w (p % 32) == 1) ≡ x → ((i : ℕ) → i < 32 → (i ≡ p % 32 → ⊥) → bit_at w i ≡ bit_at (slice_index_or words (p / 32) 0) i)
    → flags_of (slice_set words (p / 32) w) n ≡ slice_set (flags_of words n) p x
flag_set words n p w x low within own others =
    ext_get_or true (flags_of (slice_set words (p / 32) w) n) (slice_set (flags_of words n) p x) (flags_long (slice_set words (p / 32) w) n ∙ sym (flags_long words n) ∙ sym (length-set (flags_of words n) p x))
    (λ i few. one i (subst (λ (k : ℕ). i < k) (flags_long (slice_set words (p / 32) w) n) few) (i == p) refl (i / 32 == p / 32) refl)
  where
    word : ℕ → ℕ
    word i = slice_index_or (slice_set words (p / 32) w) (i / 32) 0

    apart_ : (i k : ℕ) → (i == k) ≡ false → i ≡ k → ⊥
    apart_ i k e z = let yes = eq-eqb i k z in cc

    one : (i : ℕ) → i < n → (t : Bool) → (i == p) ≡ t → (u : Bool) → (i / 32 == p / 32) ≡ u → slice_index_or (flags_of (slice_set words (p / 32) w) n) i true ≡ slice_index_or (slice_set (flags_of words n) p x) i true
    one i few true e u d =
        let same : i ≡ p = eqb-true i p e in
        let long : p < length (flags_of words n) = subst (λ (k : ℕ). p < k) (sym (flags_long words n)) low in
        flag_at (slice_set words (p / 32) w) n i few
        ∙ ap (λ (k : ℕ). bit_at (slice_index_or (slice_set words (p / 32) w) (k / 32) 0) (k % 32) == 1) same
        ∙ ap (λ (v : ℕ). bit_at v (p % 32) == 1) (get_or-set_same words (p / 32) w 0 within)
        ∙ own
        ∙ sym (ap (λ (k : ℕ). slice_index_or (slice_set (flags_of words n) p x) k true) same ∙ get_or-set_same (flags_of words n) p x true long)
    one i few false e true d =
        let block : i / 32 ≡ p / 32 = eqb-true (i / 32) (p / 32) d in
        let ne : i ≡ p → ⊥ = apart_ i p e in
        let other : i % 32 ≡ p % 32 → ⊥ = λ z. ne (omega (arith, z, block)) in
        let now : word i ≡ w = ap (λ (k : ℕ). slice_index_or (slice_set words (p / 32) w) k 0) block ∙ get_or-set_same words (p / 32) w 0 within in
        flag_at (slice_set words (p / 32) w) n i few
        ∙ ap (λ (v : ℕ). bit_at v (i % 32) == 1) now
        ∙ ap (λ (v : ℕ). v == 1) (others (i % 32) (omega arith) other)
        ∙ ap (λ (k : ℕ). bit_at (slice_index_or words k 0) (i % 32) == 1) (sym block)
        ∙ sym (flag_at words n i few)
        ∙ sym (get_or-set_other (flags_of words n) p i x true ne)
    one i few false e false d =
        flag_at (slice_set words (p / 32) w) n i few
        ∙ ap (λ (v : ℕ). bit_at v (i % 32) == 1) (get_or-set_other words (p / 32) (i / 32) w 0 (apart_ (i / 32) (p / 32) d))
        ∙ sym (flag_at words n i few)
        ∙ sym (get_or-set_other (flags_of words n) p i x true (apart_ i p e))

-- words of zeros
clear_at : (n i : ℕ) → i < n → slice_index_or (replicate n false) i true ≡ false
clear_at zero i few = absurd (omega (arith, few))
clear_at (suc n) zero few = refl
clear_at (suc n) (suc i) few = clear_at n i (omega (arith, few))

pub flags_clear : (words : List ℕ) (n : ℕ) → n ≤ 32 * length words → ((k : ℕ) → k < length words → ◌≡◌ {A = ℕ} (slice_index_or words k 0) 0) → flags_of words n ≡ replicate n false
flags_clear words n room zeros =
    ext_get_or true (flags_of words n) (replicate n false) (flags_long words n ∙ sym (length-replicate n false))
    (λ i few. (let low : i < n = subst (λ (x : ℕ). i < x) (flags_long words n) few in
    flag_at words n i low ∙ ap (λ (v : ℕ). bit_at v (i % 32) == 1) (zeros (i / 32) (omega (arith, low, room))) ∙ ap (λ (v : ℕ). v == 1) (bit_at-zero (i % 32)) ∙ sym (clear_at n i low)))

-- ---- the first that is clear

pub word_full : (words : List ℕ) (k : ℕ) → ((i : ℕ) → i < 32 → bit_at (slice_index_or words k 0) i ≡ 1) → ((p : ℕ) → p < 32 * k → flag_in words p ≡ true) → (p : ℕ) → p < 32 * (k + 1) → flag_in words p ≡ true
word_full words k full before p low = go (p / 32 == k) refl
  where
    go : (t : Bool) → (p / 32 == k) ≡ t → flag_in words p ≡ true
    go true e = let same : p / 32 ≡ k = eqb-true (p / 32) k e in ap (λ (j : ℕ). bit_at (slice_index_or words j 0) (p % 32) == 1) same ∙ ap (λ (v : ℕ). v == 1) (full (p % 32) (omega arith))
    go false e = let ne : p / 32 ≡ k → ⊥ = (λ z. (let yes = eq-eqb (p / 32) k z in cc)) in before p (omega (arith, ne, low))

pub found_clear : (words : List ℕ) (k t : ℕ) → t < 32 → bit_at (slice_index_or words k 0) t ≡ 0 → flag_in words (32 * k + t) ≡ false
found_clear words k t few clear =
    let word : (32 * k + t) / 32 ≡ k = omega (arith, few) in
    let bit : (32 * k + t) % 32 ≡ t = omega (arith, few) in
    ap (λ (j : ℕ). bit_at (slice_index_or words j 0) ((32 * k + t) % 32) == 1) word ∙ ap (λ (j : ℕ). bit_at (slice_index_or words k 0) j == 1) bit ∙ ap (λ (v : ℕ). v == 1) clear

pub found_lowest : (words : List ℕ) (k t : ℕ) → t < 32 → ((i : ℕ) → i < t → bit_at (slice_index_or words k 0) i ≡ 1) → ((p : ℕ) → p < 32 * k → flag_in words p ≡ true) → (q : ℕ) → q < 32 * k + t → flag_in words q ≡ true
found_lowest words k t few ones before q low = go (q / 32 == k) refl
  where
    go : (b : Bool) → (q / 32 == k) ≡ b → flag_in words q ≡ true
    go true e =
        let same : q / 32 ≡ k = eqb-true (q / 32) k e in
        ap (λ (j : ℕ). bit_at (slice_index_or words j 0) (q % 32) == 1) same ∙ ap (λ (v : ℕ). v == 1) (ones (q % 32) (omega (arith, same, low)))
    go false e = let ne : q / 32 ≡ k → ⊥ = (λ z. (let yes = eq-eqb (q / 32) k z in cc)) in before q (omega (arith, ne, low, few))

-- ---- flags that are set one after the other

pub next_set : (n k : ℕ) → slice_set (replicate n true ++ replicate (suc k) false) n true ≡ replicate (suc n) true ++ replicate k false
next_set zero k = refl
next_set (suc n) k = ap (λ (xs : List Bool). true ∷ xs) (next_set n k)

pub next_clear : (n k : ℕ) → slice_index_or (replicate n true ++ replicate (suc k) false) n true ≡ false
next_clear zero k = refl
next_clear (suc n) k = next_clear n k

pub next_marked : (t : Bool) (old new : List Bool) (n k : ℕ) → old ≡ replicate n true ++ replicate (suc k) false → (t ≡ true → (slice_index_or old n true ≡ false) × (new ≡ slice_set old n true)) → (t ≡ false → (slice_index_or old n true ≡ true) × (new ≡ old)) → new ≡ replicate (suc n) true ++ replicate k false
next_marked true old new n k is marks stays = (marks refl).1 ∙ ap (λ (xs : List Bool). slice_set xs n true) is ∙ next_set n k
next_marked false old new n k is marks stays =
    let taken : slice_index_or old n true ≡ true = (stays refl).0 in
    let clear : slice_index_or old n true ≡ false = ap (λ (xs : List Bool). slice_index_or xs n true) is ∙ next_clear n k in
    cc

-- ---- flags as they are seen

module _ (words : List ℕ) (n : ℕ) (now : List Bool) (is : flags_of words n ≡ now) where
  pub flag_now : (q : ℕ) → q < n → slice_index_or now q true ≡ flag_in words q
  flag_now q low = ap (λ (xs : List Bool). slice_index_or xs q true) (sym is) ∙ flag_at words n q low

  pub past_now : (q : ℕ) → n ≤ q → slice_index_or now q true ≡ true
  past_now q high = ap (λ (xs : List Bool). slice_index_or xs q true) (sym is) ∙ flag_past words n q high

  pub long_now : length now ≡ n
  long_now = ap length (sym is) ∙ flags_long words n

  pub set_before : (from : ℕ) → from ≤ length now → ((p : ℕ) → p < from → slice_index_or now p true ≡ true) → (p : ℕ) → p < 32 * (from / 32) → flag_in words p ≡ true
  set_before from within before p low = sym (flag_now p (omega (arith, within, low, long_now))) ∙ before p (omega (arith, low))

  -- all up to a number are set, and the flags end there
  pub all_set : (at : ℕ) → n ≤ at → ((q : ℕ) → q < at → flag_in words q ≡ true) → (q : ℕ) → slice_index_or now q true ≡ true
  all_set at few set q = go (nat_lt q n) refl
    where
      go : (t : Bool) → nat_lt q n ≡ t → slice_index_or now q true ≡ true
      go true e = let low : q < n = ltb-true q n e in flag_now q low ∙ set q (omega (arith, low, few))
      go false e = past_now q (ltb-false q n e)

  pub set_below : (at : ℕ) → at < n → ((q : ℕ) → q < at → flag_in words q ≡ true) → (q : ℕ) → q < at → slice_index_or now q true ≡ true
  set_below at within set q low = flag_now q (omega (arith, low, within)) ∙ set q low
