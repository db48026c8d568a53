-- Numbers that are taken or free: how many are taken, and where one that is free lies.
use Rattle.std.specs.Prelude.{Bool, true, false, cond, nat_lt, replicate, slice_index_or, slice_set}
use Rattle.std.proofs.Common.{◌≡◌, ℕ, ◌+◌, ◌^◌, ◌<◌, ◌≤◌, List, [], ◌∷◌, ◌++◌, length, refl, ap, arith}
use Rattle.std.proofs.lemmas.Bool.{ltb-true, ltb-false}
use Rattle.std.proofs.lemmas.List.{get_or_past, length-set}
use Rattle.std.proofs.lemmas.List.Sums.{count_by-le-length, sum_by-set}
use Rattle.std.proofs.lemmas.List.Folds.{sum_by-replicate}
use Rattle.alp_tables.specs.Bits.{count_set}

-- one for a flag that is set
abbrev one_if : Bool → ℕ
one_if b = cond b 1 0

pub one_taken : (xs : List Bool) (p : ℕ) → p < length xs → slice_index_or xs p true ≡ false → count_set (slice_set xs p true) ≡ count_set xs + 1
one_taken xs p within free = let was : one_if (slice_index_or xs p true) ≡ 0 = ap one_if free in omega (arith, sum_by-set one_if xs p true true within, was)

pub few_taken : (xs : List Bool) → count_set xs ≤ length xs
few_taken xs = count_by-le-length (λ (b : Bool). b) xs

-- one more fits where the flags do
pub one_fits : (xs : List Bool) (p : ℕ) → p < length xs → slice_index_or xs p true ≡ false → length xs < 2 ^ 32 → count_set xs + 1 < 2 ^ 32
one_fits xs p within free few = omega (arith, one_taken xs p within free, few_taken (slice_set xs p true), length-set xs p true)

-- a number that is free is one of those that there are
pub free_within : (taken : List Bool) (p : ℕ) → slice_index_or taken p true ≡ false → p < length taken
free_within taken p h = go (nat_lt p (length taken)) refl
  where
    go : (t : Bool) → nat_lt p (length taken) ≡ t → p < length taken
    go true e = ltb-true p (length taken) e
    go false e = let past : slice_index_or taken p true ≡ true = get_or_past taken p true (ltb-false p (length taken) e) in cc
