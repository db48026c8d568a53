-- Flags in words of 32.
use Rattle.std.specs.Prelude.{◌≡◌, ℕ, ◌/◌, ◌%◌, Bool, true, ◌==◌, List, count_by, slice_index_or, map as list_map}
use Rattle.std.specs.Int.{bit_at}
use Rattle.std.specs.List.{range_with_len}

-- one flag
abbrev pub flag_in : List ℕ → ℕ → Bool
flag_in words p = bit_at (slice_index_or words (p / 32) 0) (p % 32) == 1

-- so many of them
unfoldable pub flags_of : List ℕ → ℕ → List Bool
flags_of words count = list_map (flag_in words) (range_with_len 0 count)

-- how many flags are set
abbrev pub count_set : List Bool → ℕ
count_set flags = count_by (λ set. set) flags

-- what was set is set still
abbrev pub Stays : List Bool → List Bool → Type 0
Stays old new = (p : ℕ) → slice_index_or old p true ≡ true → slice_index_or new p true ≡ true
