-- Places of a row that are freed one after the other.
use Rattle.std.specs.Prelude.{Bool, true, false, ◌==◌, nat_lt, slice_index_or, slice_set}
use Rattle.std.proofs.Common.{◌≡◌, ℕ, ◌+◌, ◌<◌, ◌≤◌, List, length, refl, sym, ◌∙◌, ap, subst, arith, eq-eqb}
use Rattle.std.proofs.lemmas.Bool.{eqb-true, ltb-true, ltb-false}
use Rattle.std.proofs.lemmas.List.{get_or-set_same, get_or-set_other, get_or_past, length-set}
use Rattle.alp_volume.specs.Undone.{AreFreeable, AreFreed}

-- those from one number on and before another are free
pub record AreFreedTo (first to : ℕ) (row : List ℕ) (old new : List Bool) : Type 0 where
  pub gone : (j : ℕ) → first ≤ j → j < to → (slice_index_or row j 0 ≡ 0 → ⊥) → slice_index_or new (slice_index_or row j 0) true ≡ false
  pub stay : (p : ℕ) → (p ≡ 0 → ⊥) → ((j : ℕ) → first ≤ j → j < to → slice_index_or row j 0 ≡ p → ⊥) → slice_index_or new p true ≡ slice_index_or old p true
  pub head : (p : ℕ) → p < 257 → slice_index_or new p true ≡ slice_index_or old p true

pub none_freed : (first : ℕ) (row : List ℕ) (old : List Bool) → AreFreedTo first first row old old
none_freed first row old = record { gone = λ j late early. absurd (omega arith); stay = λ p ne other. refl; head = λ p low. refl }

-- a number that names no place
pub none_more : (first to : ℕ) (row : List ℕ) (old mid new : List Bool) → AreFreedTo first to row old mid → slice_index_or row to 0 ≡ 0 → new ≡ mid → AreFreedTo first (to + 1) row old new
none_more first to row old mid new freed zero_ same = subst (λ (xs : List Bool). AreFreedTo first (to + 1) row old xs) (sym same) (record {
  gone = λ j late early h. freed.gone j late (before j early h) h;
  stay = λ p ne other. freed.stay p ne (λ j late early is. other j late (omega arith) is);
  head = freed.head;
})
  where
    before : (j : ℕ) → j < to + 1 → (slice_index_or row j 0 ≡ 0 → ⊥) → j < to
    before j early h = go (nat_lt j to) refl
      where
        go : (t : Bool) → nat_lt j to ≡ t → j < to
        go true e = ltb-true j to e
        go false e = absurd (h (let same_ : j ≡ to = (let past = ltb-false j to e in omega arith) in ap (λ (x : ℕ). slice_index_or row x 0) same_ ∙ zero_))

-- one place more
pub one_more : (first to : ℕ) (row : List ℕ) (old mid new : List Bool) → first ≤ to → AreFreedTo first to row old mid → 257 ≤ slice_index_or row to 0 → slice_index_or row to 0 < length mid → new ≡ slice_set mid (slice_index_or row to 0) false → AreFreedTo first (to + 1) row old new
one_more first to row old mid new from freed least within is = subst (λ (xs : List Bool). AreFreedTo first (to + 1) row old xs) (sym is) (record {
  gone = gone_more;
  stay = λ p ne other. get_or-set_other mid q p false true (λ z. other to from (omega arith) (sym z)) ∙ freed.stay p ne (λ j late early same. other j late (omega arith) same);
  head = λ p low. get_or-set_other mid q p false true (λ z. omega arith) ∙ freed.head p low;
})
  where
    q : ℕ
    q = slice_index_or row to 0

    free_at : (p : ℕ) → slice_index_or mid p true ≡ false → slice_index_or (slice_set mid q false) p true ≡ false
    free_at p h = go (p == q) refl
      where
        go : (t : Bool) → (p == q) ≡ t → slice_index_or (slice_set mid q false) p true ≡ false
        go true e = ap (λ (x : ℕ). slice_index_or (slice_set mid q false) x true) (eqb-true p q e) ∙ get_or-set_same mid q false true within
        go false e = get_or-set_other mid q p false true (λ z. (let yes = eq-eqb p q z in cc)) ∙ h

    gone_more : (j : ℕ) → first ≤ j → j < to + 1 → (slice_index_or row j 0 ≡ 0 → ⊥) → slice_index_or (slice_set mid q false) (slice_index_or row j 0) true ≡ false
    gone_more j late early h = go (nat_lt j to) refl
      where
        go : (t : Bool) → nat_lt j to ≡ t → slice_index_or (slice_set mid q false) (slice_index_or row j 0) true ≡ false
        go true e = free_at (slice_index_or row j 0) (freed.gone j late (ltb-true j to e) h)
        go false e =
            let same : j ≡ to = (let past = ltb-false j to e in omega arith) in
            ap (λ (x : ℕ). slice_index_or (slice_set mid q false) (slice_index_or row x 0) true) same ∙ get_or-set_same mid q false true within

-- all of them
pub all_freed : (first to : ℕ) (row : List ℕ) (old new : List Bool) → length row ≤ to → AreFreedTo first to row old new → AreFreed first row old new
all_freed first to row old new long freed = record {
  gone = λ j late h. freed.gone j late (near j h) h;
  stay = λ p ne other. freed.stay p ne (λ j late early is. other j late is);
  head = freed.head;
}
  where
    near : (j : ℕ) → (slice_index_or row j 0 ≡ 0 → ⊥) → j < to
    near j h = go (nat_lt j to) refl
      where
        go : (t : Bool) → nat_lt j to ≡ t → j < to
        go true e = ltb-true j to e
        go false e = absurd (h (get_or_past row j 0 (let past = ltb-false j to e in omega arith)))

-- one number more, by what the row names there
pub slot_step : (first to : ℕ) (row : List ℕ) (old mid new : List Bool) → first ≤ to → AreFreedTo first to row old mid → AreFreeable first row old → length mid ≡ length old → (value : ℕ) → value ≡ slice_index_or row to 0 → (value ≡ 0 → new ≡ mid) → (257 ≤ value → value < length mid → new ≡ slice_set mid value false)
    → AreFreedTo first (to + 1) row old new
slot_step first to row old mid new from freed freeable long value is none some = go (value == 0) refl
  where
    go : (t : Bool) → (value == 0) ≡ t → AreFreedTo first (to + 1) row old new
    go true e = let zero_ = eqb-true value 0 e in none_more first to row old mid new freed (sym is ∙ zero_) (none zero_)
    go false e =
        let bounds = freeable to from (λ z. (let yes = eq-eqb value 0 (is ∙ z) in cc)) in
        let within : slice_index_or row to 0 < length mid = omega (arith, long, bounds.1) in
        one_more first to row old mid new from freed bounds.0 within (some (omega (arith, is, bounds.0)) (omega (arith, is, within)) ∙ ap (λ (n : ℕ). slice_set mid n false) is)
