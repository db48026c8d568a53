-- What a disk holds, and what its calls do.
use Rattle.std.specs.Prelude.{◌≡◌, ◌≢◌, ◌<◌, ℕ, ◌+◌, List, [], length, take, drop, slice_index_or, slice_set}
use Rattle.alp_base.specs.Pages.{overwritten}

-- the pages of a disk, in order
abbrev pub Image : Type 0
Image = List (List ℕ)

abbrev pub page : Image → ℕ → List ℕ
page image at = slice_index_or image at []

-- n pages of 512 bytes
pub record IsImage (n : ℕ) (image : Image) : Type 0 where
  pub count : length image ≡ n
  pub whole : (at : ℕ) → at < n → length (page image at) ≡ 512

-- the image with these bytes in the page `at`, from `offset` on
unfoldable pub with_bytes : Image → ℕ → ℕ → List ℕ → Image
with_bytes image at offset bytes = slice_set image at (overwritten (page image at) offset bytes)

-- the same pages but for one
abbrev pub SameBut : ℕ → Image → Image → Type 0
SameBut at old new = (q : ℕ) → q ≢ at → page new q ≡ page old q

-- new is old but for n bytes of the page `at`, from `offset` on
pub record Torn (at offset n : ℕ) (old new : Image) : Type 0 where
  pub others : SameBut at old new
  pub before : take offset (page new at) ≡ take offset (page old at)
  pub after : drop (offset + n) (page new at) ≡ drop (offset + n) (page old at)
