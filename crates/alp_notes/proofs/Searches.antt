-- Names that rise: where a search ends among them, and that a new name in its place keeps them rising.
use Rattle.std.proofs.Common.{◌≡◌, ℕ, zero, suc, ◌+◌, List, [], ◌∷◌, length, get_or, sym, ap, ◌∙◌, arith}
use Rattle.std.specs.Prelude.{Result, Ok, Err, IfOk, IfErr}
use Rattle.std.specs.List.{AllByRecursion, insert}
use Rattle.std.specs.List.Sorted.{IsStrictlySortedBy, IsSearchInRange, IsBinarySearchResult, IsNonDecreasingBy}
use Rattle.std.specs.Ordering.{is_lt, ordering_index, ordering_reverse}
use Rattle.std.specs.Cmp.Lexicographic.{nat_list_cmp_total}
use Rattle.std.specs.declared.cmp.Ordering.{Ordering}
use Rattle.std.specs.declared.cmp.Ordering.TheVariants.{Less, Equal, Greater}
use Rattle.std.proofs.lemmas.List.Sorted.{searchable_from_sorted}
use Rattle.std.proofs.lemmas.Map.Keys.{Less-from_sorted}
use Rattle.std.proofs.lemmas.Map.Lookups.{exact_bytes}
use Rattle.alp_base.specs.Notes.{text_cmp}
use Rattle.alp_notes.specs.Rows.{IsAt, IsPlace}

-- an order seen from the other side
turned : (a b : List ℕ) (o : Ordering) → text_cmp b a ≡ o → text_cmp a b ≡ ordering_reverse o
turned a b o is = nat_list_cmp_total.antisymm a b ∙ ap ordering_reverse is

-- the comparisons with a name rise along the names
comparisons_rise : (name : List ℕ) (names : List (List ℕ)) → IsStrictlySortedBy text_cmp names → IsNonDecreasingBy (λ y. ordering_index (text_cmp y name)) names
comparisons_rise name names up = searchable_from_sorted nat_list_cmp_total (λ y. y) names name
    (λ k d low high. ap is_lt (turned (get_or names (k + 1) d) (get_or names k d) Less (Less-from_sorted text_cmp names k (k + 1) d up (omega arith) high)))

pub searched : (name : List ℕ) (names : List (List ℕ)) (r : Result ℕ ℕ) → IsStrictlySortedBy text_cmp names → IsSearchInRange r (length names) → IsBinarySearchResult (λ y. text_cmp y name) names r → IfOk r (IsAt name names) × IfErr r (IsPlace name names)
searched name names (Ok i) up inside is = (
  record {
    within = inside;
    below = λ j low. turned name (get_or names j name) Less (ap (text_cmp (get_or names j name)) (sym here) ∙ Less-from_sorted text_cmp names j i name up low inside);
    here = turned name (get_or names i name) Equal (is name);
  },
  tt,
)
  where
    here : get_or names i name ≡ name
    here = exact_bytes (get_or names i name) name (is name)
searched name names (Err i) up inside is =
    let parts = is (comparisons_rise name names up) in (
      tt,
      record {
        within = inside;
        below = λ j low. turned name (get_or names j name) Less (parts.0 j name (omega arith) low);
        above = λ low. turned name (get_or names i name) Greater (parts.1 i name (omega arith) low);
      },
    )

-- ---- a new name

all-insert : (P : List ℕ → Type 0) (names : List (List ℕ)) (i : ℕ) (name : List ℕ) → P name → AllByRecursion P names → AllByRecursion P (insert names i name)
all-insert P names zero name here all = (here, all)
all-insert P [] (suc i) name here all = (here, tt)
all-insert P (n ∷ names) (suc i) name here all = (all.0, all-insert P names i name here all.1)

-- a name below the first is below them all
all-below : (name n : List ℕ) (names : List (List ℕ)) → text_cmp name n ≡ Less → AllByRecursion (λ y. text_cmp n y ≡ Less) names → AllByRecursion (λ y. text_cmp name y ≡ Less) names
all-below name n [] low all = tt
all-below name n (m ∷ names) low all = (nat_list_cmp_total.trans name n m low all.0, all-below name n names low all.1)

pub rising-insert : (name : List ℕ) (names : List (List ℕ)) (i : ℕ) → IsPlace name names i → IsStrictlySortedBy text_cmp names → IsStrictlySortedBy text_cmp (insert names i name)
unfolding IsStrictlySortedBy
rising-insert name [] zero is up = (tt, tt)
rising-insert name [] (suc i) is up = absurd (omega (arith, is.within))
rising-insert name (n ∷ names) zero is up = let low = is.above (omega arith) in ((low, all-below name n names low up.0), up)
rising-insert name (n ∷ names) (suc i) is up = (
  all-insert (λ y. text_cmp n y ≡ Less) names i name (turned n name Greater (is.below 0 (omega arith))) up.0,
  rising-insert name names i (record { within = omega (arith, is.within); below = λ k low. is.below (suc k) (omega (arith, low)); above = λ low. is.above (omega (arith, low)) }) up.1,
)
