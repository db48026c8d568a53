-- As many places are taken as the cells need, by the flags that memory keeps.
use Rattle.std.specs.Prelude.{Bool, true, false, cond, is_some, Option, None, Some, slice_index_or}
use Rattle.std.proofs.Common.{◌≡◌, ℕ, zero, suc, ◌+◌, ◌-◌, ◌<◌, ◌≤◌, List, [], ◌∷◌, length, refl, sym, ◌∙◌, ap, subst, arith}
use Rattle.std.proofs.lemmas.List.Sums.{sum_by-cons}
use Rattle.alp_files.specs.Cells.{Cells}
use Rattle.alp_files.specs.Counts.{used_of}
use Rattle.alp_pages.specs.Counted.{bit, count_below, taken_places}
use Rattle.alp_pages.specs.Nodes.{Node}
use Rattle.alp_pages.specs.Pages.{Pages}
use Rattle.alp_pages.specs.Volume.{StandFor, Volume}
use Rattle.alp_pages.proofs.NodeLaws.{taken-used, shaped_held}
use Rattle.alp_tables.specs.Bits.{count_set}
use Rattle.alp_volume.specs.declared.catalog.Catalog.{Catalog}
use Rattle.alp_volume.specs.Known.{IsCatalog, Knows}

-- ---- flags as a function

-- so many flags as the list has, one after the other from the last
count_cons : (x : Bool) (xs : List Bool) (n : ℕ) → count_below (λ p. slice_index_or (x ∷ xs) p true) (suc n) ≡ bit x + count_below (λ p. slice_index_or xs p true) n
count_cons x xs zero = omega arith
count_cons x xs (suc n) = omega (arith, count_cons x xs n)

pub count_flags : (xs : List Bool) → count_set xs ≡ count_below (λ p. slice_index_or xs p true) (length xs)
count_flags [] = refl
count_flags (true ∷ xs) = omega (arith, sum_by-cons (λ (b : Bool). cond b 1 0) true xs, count_flags xs, count_cons true xs (length xs))
count_flags (false ∷ xs) = omega (arith, sum_by-cons (λ (b : Bool). cond b 1 0) false xs, count_flags xs, count_cons false xs (length xs))

-- the pages in front of the first place are taken, and nothing stands there
counted : (flags at : ℕ → Bool) (home : ℕ) → ((p : ℕ) → p < 257 → flags p ≡ true) → ((p : ℕ) → p < 257 → at p ≡ false) → ((p : ℕ) → 257 ≤ p → p < home → flags p ≡ at p) → (n : ℕ) → n ≤ home → (k : ℕ) → n ≡ 257 + k → count_below flags n ≡ 257 + count_below at n
counted flags at home head low same n most k is = subst (λ (x : ℕ). count_below flags x ≡ 257 + count_below at x) (sym is) (go k (omega (arith, is, most)))
  where
    below : (n : ℕ) → n ≤ 257 → count_below flags n ≡ n + count_below at n
    below zero few = refl
    below (suc n) few = (
        let one : bit (flags n) ≡ 1 = ap bit (head n (omega arith)) in
        let two : bit (at n) ≡ 0 = ap bit (low n (omega arith)) in
        omega (arith, one, two, below n (omega arith))
        )

    next : (k : ℕ) → suc (257 + k) ≡ 257 + suc k
    next k = omega arith

    step : (k : ℕ) → bit (flags (257 + k)) ≡ bit (at (257 + k)) → count_below flags (257 + k) ≡ 257 + count_below at (257 + k) → count_below flags (257 + suc k) ≡ 257 + count_below at (257 + suc k)
    step k one rest = subst (λ (x : ℕ). count_below flags x ≡ 257 + count_below at x) (next k) (omega (arith, one, rest))

    go : (k : ℕ) → 257 + k ≤ home → count_below flags (257 + k) ≡ 257 + count_below at (257 + k)
    go zero few = below 257 (omega arith)
    go (suc k) few = step k (ap bit (same (257 + k) (omega arith) (omega arith))) (go k (omega arith))

pub used_taken : (home : ℕ) (at : Pages) (m : Cells) (stands : StandFor home at m) (c : Catalog) → Knows home stands.volume c → IsCatalog home c → 257 ≤ home → count_set c.places ≡ 257 + used_of m
used_taken home at m stands c knows sized least =
    count_flags c.places ∙ ap (count_below (λ p. slice_index_or c.places p true)) sized.places
    ∙ counted (λ p. slice_index_or c.places p true) (λ p. is_some (stands.volume.places.at p)) home knows.head (λ p low. nothing p low (stands.volume.places.at p) refl) knows.places_taken home (omega arith) (home - 257) (omega (arith, least))
    ∙ ap (λ (n : ℕ). 257 + n) (taken-used home stands.volume m stands.spells.shape.places (shaped_held home stands.volume m stands.spells.shape))
  where
    nothing : (p : ℕ) → p < 257 → (o : Option Node) → stands.volume.places.at p ≡ o → is_some o ≡ false
    nothing p low None e = refl
    nothing p low (Some k) e = let high = stands.spells.shape.places.least k p (stands.spells.shape.places.back p k e) in absurd (omega (arith, low, high))

-- at least the pages in front of the first place are taken
pub head_used : (home : ℕ) (c : Catalog) → IsCatalog home c → 257 ≤ home → 257 ≤ count_set c.places
head_used home c sized least = omega (arith, count_flags c.places, ap (count_below (λ p. slice_index_or c.places p true)) sized.places, at_least (λ p. slice_index_or c.places p true) sized.head home (home - 257) (omega (arith, least)))
  where
    at_least : (flags : ℕ → Bool) → ((p : ℕ) → p < 257 → flags p ≡ true) → (n k : ℕ) → n ≡ 257 + k → 257 ≤ count_below flags n
    at_least flags head n k is = subst (λ (x : ℕ). 257 ≤ count_below flags x) (sym is) (more k)
      where
        below : (n : ℕ) → n ≤ 257 → count_below flags n ≡ n
        below zero few = refl
        below (suc n) few = let one : bit (flags n) ≡ 1 = ap bit (head n (omega arith)) in omega (arith, one, below n (omega arith))

        next : (k : ℕ) → suc (257 + k) ≡ 257 + suc k
        next k = omega arith

        step : (k : ℕ) → 257 ≤ count_below flags (257 + k) → 257 ≤ count_below flags (257 + suc k)
        step k h = subst (λ (x : ℕ). 257 ≤ count_below flags x) (next k) (omega (arith, h))

        more : (k : ℕ) → 257 ≤ count_below flags (257 + k)
        more zero = omega (arith, below 257 (omega arith))
        more (suc k) = step k (more k)
