-- Ranks: one above the other, as entries are added.
use Rattle.std.specs.Prelude.{max, slice_get, Option, None, Some, unwrap_or}
use Rattle.std.proofs.Common.{◌≡◌, ◌⊎◌, ℕ, zero, suc, ◌+◌, ◌-◌, ◌<◌, ◌≤◌, List, [], ◌∷◌, ◌++◌, length, get_or, inl, inr, refl, sym, ◌∙◌, ap, arith}
use Rattle.std.proofs.lemmas.List.{append-nil, append_assoc, length-append, get_or_append_left, get_or-append_right}
use Rattle.std.proofs.lemmas.Bool.Decides.{leb_tells}
use Rattle.alp_journal.specs.declared.entry.Entry.{Entry}
use Rattle.alp_course.specs.Courses.{last_rank, ranks_from, ranks_with}
use Rattle.alp_course.specs.Midway.{AreRising}

pub unwrap_get : {X : Type 0} (xs : List X) (i : ℕ) (d : X) → unwrap_or (slice_get xs i) d ≡ get_or xs i d
unwrap_get [] i d = refl
unwrap_get (x ∷ xs) zero d = refl
unwrap_get (x ∷ xs) (suc i) d = unwrap_get xs i d

-- what stands somewhere stands at a place of the list
pub get_below : {X : Type 0} (xs : List X) (i : ℕ) (x : X) → slice_get xs i ≡ Some x → i < length xs
get_below [] i x h = absurd cc
get_below (y ∷ xs) zero x h = omega arith
get_below (y ∷ xs) (suc i) x h = (let less : i < length xs = get_below xs i x h in omega arith)

-- ---- the ranks of further entries

pub many_from : (b : ℕ) (es : List Entry) → length (ranks_from b es) ≡ length es
many_from b [] = refl
many_from b (e ∷ es) = ap suc (many_from (b + 1) es)

pub rank_from : (b : ℕ) (es : List Entry) (i : ℕ) → i < length es → get_or (ranks_from b es) i 0 ≡ b + i
rank_from b [] i less = absurd (omega (arith, less))
rank_from b (e ∷ es) zero less = omega arith
rank_from b (e ∷ es) (suc i) less = (let on : get_or (ranks_from (b + 1) es) i 0 ≡ b + 1 + i = rank_from (b + 1) es i (omega (arith, less)) in omega (arith, on))

pub from_append : (b : ℕ) (es fs : List Entry) → ranks_from b (es ++ fs) ≡ ranks_from b es ++ ranks_from (b + length es) fs
from_append b [] fs = (let same : b ≡ b + 0 = omega arith in ap (λ (n : ℕ). ranks_from n fs) same)
from_append b (e ∷ es) fs =
    let same : b + 1 + length es ≡ b + suc (length es) = omega arith in
    ap (λ (rs : List ℕ). b ∷ rs) (from_append (b + 1) es fs ∙ ap (λ (n : ℕ). ranks_from (b + 1) es ++ ranks_from n fs) same)

-- ---- the last one

pub last_behind : (xs : List ℕ) (y : ℕ) (ys : List ℕ) → last_rank (xs ++ y ∷ ys) ≡ last_rank (y ∷ ys)
last_behind [] y ys = refl
last_behind (x ∷ []) y ys = refl
last_behind (x ∷ z ∷ xs) y ys = last_behind (z ∷ xs) y ys

last_from : (b : ℕ) (e : Entry) (es : List Entry) → last_rank (ranks_from b (e ∷ es)) ≡ b + length es
last_from b e [] = omega arith
last_from b e (f ∷ es) = (let on : last_rank (ranks_from (b + 1) (f ∷ es)) ≡ b + 1 + length es = last_from (b + 1) f es in on ∙ omega arith)

-- no further ones
pub none_with : (rs : List ℕ) (seen : ℕ) → ranks_with rs seen [] ≡ rs
none_with rs seen = append-nil rs

pub last_with : (rs : List ℕ) (seen : ℕ) (e : Entry) (es : List Entry) → last_rank (ranks_with rs seen (e ∷ es)) ≡ max (last_rank rs) seen + 1 + length es
last_with rs seen e es = last_behind rs (max (last_rank rs) seen + 1) (ranks_from (max (last_rank rs) seen + 1 + 1) es) ∙ last_from (max (last_rank rs) seen + 1) e es

-- the entries of a server alone
last_alone : (rs : List ℕ) (es : List Entry) → last_rank (ranks_with rs 0 es) ≡ last_rank rs + length es
last_alone rs [] = ap last_rank (none_with rs 0) ∙ omega arith
last_alone rs (e ∷ es) = last_with rs 0 e es ∙ omega arith

pub with_append : (rs : List ℕ) (es fs : List Entry) → ranks_with (ranks_with rs 0 es) 0 fs ≡ ranks_with rs 0 (es ++ fs)
with_append rs es fs =
    let last : last_rank (ranks_with rs 0 es) ≡ last_rank rs + length es = last_alone rs es in
    let here : max (last_rank (ranks_with rs 0 es)) 0 + 1 ≡ max (last_rank rs) 0 + 1 + length es = omega (arith, last) in
    ap (λ (n : ℕ). ranks_with rs 0 es ++ ranks_from n fs) here
    ∙ append_assoc rs (ranks_from (max (last_rank rs) 0 + 1) es) (ranks_from (max (last_rank rs) 0 + 1 + length es) fs)
    ∙ ap (λ (ns : List ℕ). rs ++ ns) (sym (from_append (max (last_rank rs) 0 + 1) es fs))

-- ---- rising

pub none_rising : AreRising [] []
none_rising = record { many = refl; rise = λ i k low less. absurd (omega (arith, less)); top = λ i less. absurd (omega (arith, less)) }

module _ (rs : List ℕ) (seen : ℕ) (es : List Entry) where
  pub all_many : length (ranks_with rs seen es) ≡ length rs + length es
  all_many = length-append rs (ranks_from (max (last_rank rs) seen + 1) es) ∙ ap (λ (n : ℕ). length rs + n) (many_from (max (last_rank rs) seen + 1) es)

  pub old_rank : (i : ℕ) → i < length rs → get_or (ranks_with rs seen es) i 0 ≡ get_or rs i 0
  old_rank i less = get_or_append_left rs (ranks_from (max (last_rank rs) seen + 1) es) 0 i less

  pub new_rank : (i : ℕ) → length rs ≤ i → i < length rs + length es → get_or (ranks_with rs seen es) i 0 ≡ max (last_rank rs) seen + 1 + (i - length rs)
  new_rank i low less =
      get_or-append_right rs (ranks_from (max (last_rank rs) seen + 1) es) (length rs) i 0 refl low
      ∙ rank_from (max (last_rank rs) seen + 1) es (i - length rs) (omega (arith, low, less))

-- what comes last is not below what is added
last_up : (rs : List ℕ) (seen : ℕ) (es : List Entry) (i : ℕ) → length rs ≤ i → i < length rs + length es → max (last_rank rs) seen + 1 + (i - length rs) ≤ last_rank (ranks_with rs seen es)
last_up rs seen [] i low less = absurd (omega (arith, low, less))
last_up rs seen (e ∷ es) i low less = (let last : last_rank (ranks_with rs seen (e ∷ es)) ≡ max (last_rank rs) seen + 1 + length es = last_with rs seen e es in omega (arith, low, less, last))

last_stays : (rs : List ℕ) (seen : ℕ) (es : List Entry) → last_rank rs ≤ last_rank (ranks_with rs seen es)
last_stays rs seen [] = (let same : last_rank (ranks_with rs seen []) ≡ last_rank rs = ap last_rank (none_with rs seen) in omega (arith, same))
last_stays rs seen (e ∷ es) = (let last : last_rank (ranks_with rs seen (e ∷ es)) ≡ max (last_rank rs) seen + 1 + length es = last_with rs seen e es in omega (arith, last))

pub below_or : (a b : ℕ) → (a < b) ⊎ (b ≤ a)
below_or a b = elim (leb_tells (suc a) b) [ inl h ↦ inl (let low : suc a ≤ b = h.1 in omega (arith, low)) | inr h ↦ inr (let up : b < suc a = h.1 in omega (arith, up)) ]

pub still_rising : (rs : List ℕ) (seen : ℕ) (journal es : List Entry) → AreRising rs journal → AreRising (ranks_with rs seen es) (journal ++ es)
still_rising rs seen journal es h = record {
  many = all_many rs seen es ∙ ap (λ (n : ℕ). n + length es) h.many ∙ sym (length-append journal es);
  rise = λ i k low less. between i k low (let all : length (ranks_with rs seen es) ≡ length rs + length es = all_many rs seen es in omega (arith, less, all)) (below_or i (length rs)) (below_or k (length rs));
  top = λ i less. up i (let all : length (ranks_with rs seen es) ≡ length rs + length es = all_many rs seen es in omega (arith, less, all)) (below_or i (length rs));
}
  where
    between : (i k : ℕ) → i < k → k < length rs + length es → (i < length rs) ⊎ (length rs ≤ i) → (k < length rs) ⊎ (length rs ≤ k) → get_or (ranks_with rs seen es) i 0 < get_or (ranks_with rs seen es) k 0
    between i k low less first (inl under) =
        let one : get_or (ranks_with rs seen es) i 0 ≡ get_or rs i 0 = old_rank rs seen es i (omega (arith, low, under)) in
        let two : get_or (ranks_with rs seen es) k 0 ≡ get_or rs k 0 = old_rank rs seen es k under in
        let rises : get_or rs i 0 < get_or rs k 0 = h.rise i k low under in
        omega (arith, one, two, rises)
    between i k low less (inl under) (inr new) =
        let one : get_or (ranks_with rs seen es) i 0 ≡ get_or rs i 0 = old_rank rs seen es i under in
        let two : get_or (ranks_with rs seen es) k 0 ≡ max (last_rank rs) seen + 1 + (k - length rs) = new_rank rs seen es k new less in
        let most : get_or rs i 0 ≤ last_rank rs = h.top i under in
        omega (arith, one, two, most)
    between i k low less (inr later) (inr new) =
        let one : get_or (ranks_with rs seen es) i 0 ≡ max (last_rank rs) seen + 1 + (i - length rs) = new_rank rs seen es i later (omega (arith, low, less)) in
        let two : get_or (ranks_with rs seen es) k 0 ≡ max (last_rank rs) seen + 1 + (k - length rs) = new_rank rs seen es k new less in
        omega (arith, one, two, low, later)

    up : (i : ℕ) → i < length rs + length es → (i < length rs) ⊎ (length rs ≤ i) → get_or (ranks_with rs seen es) i 0 ≤ last_rank (ranks_with rs seen es)
    up i less (inl under) =
        let one : get_or (ranks_with rs seen es) i 0 ≡ get_or rs i 0 = old_rank rs seen es i under in
        let most : get_or rs i 0 ≤ last_rank rs = h.top i under in
        let stays : last_rank rs ≤ last_rank (ranks_with rs seen es) = last_stays rs seen es in
        omega (arith, one, most, stays)
    up i less (inr from) =
        let one : get_or (ranks_with rs seen es) i 0 ≡ max (last_rank rs) seen + 1 + (i - length rs) = new_rank rs seen es i from less in
        let most : max (last_rank rs) seen + 1 + (i - length rs) ≤ last_rank (ranks_with rs seen es) = last_up rs seen es i from less in
        omega (arith, one, most)
