-- The bytes of a header page.
use Rattle.std.proofs.Common.{◌≡◌, ℕ, ◌<◌, ◌^◌, List, [], ◌∷◌, get_or, slice_index, refl, sym, ◌∙◌, ap}
use Rattle.std.specs.Int.{w32, to_be_bytes, from_be_bytes}
use Rattle.std.proofs.lemmas.Nat.{from_be_bytes-to_be_bytes_4}
use Rattle.alp_base.specs.Pages.{page_of}
use Rattle.alp_record.specs.Record.{header}

pub header_bytes : (generation size : ℕ) (g s : List ℕ) → g ≡ to_be_bytes w32 generation → s ≡ to_be_bytes w32 size
    → page_of (165 ∷ 82 ∷ get_or g 0 0 ∷ get_or g 1 0 ∷ get_or g 2 0 ∷ get_or g 3 0 ∷ get_or s 0 0 ∷ get_or s 1 0 ∷ get_or s 2 0 ∷ get_or s 3 0 ∷ []) ≡ header generation size
unfolding header
header_bytes generation size g s g_is s_is = λ i. page_of (165 ∷ 82 ∷ get_or (g_is i) 0 0 ∷ get_or (g_is i) 1 0 ∷ get_or (g_is i) 2 0 ∷ get_or (g_is i) 3 0 ∷ get_or (s_is i) 0 0 ∷ get_or (s_is i) 1 0 ∷ get_or (s_is i) 2 0 ∷ get_or (s_is i) 3 0 ∷ [])

pub size_is : (p : List ℕ) (generation n : ℕ) → n < 2 ^ 32 → p ≡ header generation n → from_be_bytes w32 (slice_index p 6 ∷ slice_index p 7 ∷ slice_index p 8 ∷ slice_index p 9 ∷ []) ≡ n
unfolding header
size_is p generation n small is = ap (λ (l : List ℕ). from_be_bytes w32 (slice_index l 6 ∷ slice_index l 7 ∷ slice_index l 8 ∷ slice_index l 9 ∷ [])) is ∙ from_be_bytes-to_be_bytes_4 n small

-- a page is the header of one length
pub one_size : (generation n m : ℕ) → n < 2 ^ 32 → m < 2 ^ 32 → header generation n ≡ header generation m → n ≡ m
one_size generation n m small small' same = sym (size_is (header generation n) generation n small refl) ∙ size_is (header generation n) generation m small' same

pub header_gate : (generation size : ℕ) → slice_index (header generation size) 0 ≡ 165
unfolding header
header_gate generation size = refl
