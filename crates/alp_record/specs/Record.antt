-- Records, and what the records of an area are.
use Rattle.std.specs.Prelude.{◌≡◌, ◌⊎◌, ◌<◌, ◌≤◌, ℕ, ◌+◌, ◌-◌, ◌*◌, ◌/◌, ◌^◌, List, [], ◌∷◌, ◌++◌, length, take, drop, replicate}
use Rattle.std.specs.Int.{w32, to_be_bytes}
use Rattle.alp_disk.specs.Disk.{Image, page}
use Rattle.alp_disk.specs.declared.gate.TheConstants.{OPEN_GATE}
use Rattle.alp_disk.specs.Gates.{HasOpenGate, IsClosed}

-- the pages of a body of so many bytes
abbrev pub body_pages : ℕ → ℕ
body_pages size = (size + 511) / 512

-- the body, and zeros to the end of its last page
unfoldable pub padded : List ℕ → List ℕ
padded body = body ++ replicate (512 * body_pages (length body) - length body) 0

-- a header: an open gate, the letter R, the generation, the length of the body, zeros
unfoldable pub header : ℕ → ℕ → List ℕ
header generation size = OPEN_GATE ∷ 82 ∷ (to_be_bytes w32 generation ++ (to_be_bytes w32 size ++ replicate 502 0))

-- n pages from `first` on hold these bytes
abbrev pub Hold : Image → ℕ → ℕ → List ℕ → Type 0
Hold image first n bytes = (k : ℕ) → k < n → page image (first + k) ≡ take 512 (drop (512 * k) bytes)

-- the page behind a record
abbrev pub next_of : ℕ → List ℕ → ℕ
next_of at body = at + 1 + body_pages (length body)

-- a record of this generation with this body stands at the page `at`, before the end of the area
pub record RecordAt (image : Image) (generation end at : ℕ) (body : List ℕ) : Type 0 where
  pub head : page image at ≡ header generation (length body)
  pub size : length body < 2 ^ 32
  pub fits : next_of at body ≤ end
  pub pages : Hold image (at + 1) (body_pages (length body)) (padded body)

-- records with these bodies stand one behind the other
abbrev pub Stand : Image → ℕ → ℕ → ℕ → List (List ℕ) → Type 0
Stand image generation end at [] = Unit {0}
Stand image generation end at (b ∷ bs) = RecordAt image generation end at b × Stand image generation end (next_of at b) bs

-- the page behind the last of them
abbrev pub behind : ℕ → List (List ℕ) → ℕ
behind at [] = at
behind at (b ∷ bs) = behind (next_of at b) bs

-- no record stands here: the gate is closed, or the area ends
abbrev pub IsEnd : Image → ℕ → ℕ → Type 0
IsEnd image end at = (end ≤ at) ⊎ IsClosed (page image at)

-- the bodies of the records from `at` on, up to the first closed gate or the end of the area
pub record Records (image : Image) (generation end at : ℕ) (bodies : List (List ℕ)) : Type 0 where
  pub stand : Stand image generation end at bodies
  pub ends : IsEnd image end (behind at bodies)

-- the gate is open, and no record of this generation stands here
pub record IsDamaged (image : Image) (generation end at : ℕ) : Type 0 where
  pub inside : at < end
  pub open_gate : HasOpenGate (page image at)
  pub none : (body : List ℕ) → RecordAt image generation end at body → ⊥
