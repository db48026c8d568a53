-- What adding a record leaves, at each moment and at the end.
use Rattle.std.specs.Prelude.{◌≡◌, ◌⊎◌, ℕ, ◌+◌, ◌-◌, List, [], ◌∷◌, ◌++◌, length, drop}
use Rattle.alp_disk.specs.Disk.{Image, page}
use Rattle.alp_disk.specs.Gates.{IsClosed}
use Rattle.alp_disk.specs.Runs.{SameOutside}
use Rattle.alp_record.specs.Record.{body_pages, padded, header, Hold, next_of, RecordAt, IsEnd, Records, behind}

-- n pages from `at` on may differ, and the gate of the first is closed where it was
pub record Behind (at n : ℕ) (old new : Image) : Type 0 where
  pub others : SameOutside at n old new
  pub gate : IsClosed (page old at) → IsClosed (page new at)

-- all of the record but its gate
pub record Staged (generation at : ℕ) (body : List ℕ) (image : Image) : Type 0 where
  pub head : drop 1 (page image at) ≡ drop 1 (header generation (length body))
  pub pages : Hold image (at + 1) (body_pages (length body)) (padded body)

-- the record stands there, and none behind it; the pages outside the rest of the area are the same
pub record Added (generation end at : ℕ) (body : List ℕ) (old new : Image) : Type 0 where
  pub stands : RecordAt new generation end at body
  pub ends : IsEnd new end (next_of at body)
  pub others : SameOutside at (end - at) old new

-- the gate is closed, and the pages outside the rest of the area are the same
pub record NotYet (end at : ℕ) (old new : Image) : Type 0 where
  pub gate : IsClosed (page new at)
  pub others : SameOutside at (end - at) old new

-- all of the record but its gate, which is closed, and none behind it
pub record Laid (generation end at : ℕ) (body : List ℕ) (old new : Image) : Type 0 where
  pub staged : Staged generation at body new
  pub ends : IsEnd new end (next_of at body)
  pub not_yet : NotYet end at old new

-- a crash while a record is added
abbrev pub Adding : ℕ → ℕ → ℕ → List ℕ → Image → Image → Type 0
Adding generation end at body old c = NotYet end at old c ⊎ Added generation end at body old c

-- Whatever records stood from some place up to here: with the new one they are all.
abbrev pub OneMore : ℕ → ℕ → ℕ → List ℕ → Image → Image → Type 0
OneMore generation end at body old new = (first : ℕ) (bodies : List (List ℕ)) → Records old generation end first bodies → behind first bodies ≡ at → Records new generation end first (bodies ++ body ∷ [])

-- And a crash leaves them all, or those before.
abbrev pub OneMoreOrNot : ℕ → ℕ → ℕ → List ℕ → Image → Image → Type 0
OneMoreOrNot generation end at body old c =
    (first : ℕ) (bodies : List (List ℕ)) → Records old generation end first bodies → behind first bodies ≡ at
    → Records c generation end first bodies ⊎ Records c generation end first (bodies ++ body ∷ [])
