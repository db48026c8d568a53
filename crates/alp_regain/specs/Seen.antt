-- What is asked of a cell that is seen.
use Rattle.std.specs.Prelude.{◌≡◌, ◌≤◌, ◌<◌, ℕ, min, Bool, true, false, nat_lt, Option, None, Some}
use Rattle.std.specs.FinMap as map
use Rattle.alp_base.specs.declared.cell.Cell.{Cell}
use Rattle.alp_base.specs.declared.cell.Cell.TheVariants as cell
use Rattle.alp_base.specs.declared.ids.FileId.{FileId}
use Rattle.alp_base.specs.declared.key.Key.{Key}
use Rattle.alp_base.specs.declared.key.Key.TheVariants.{Leader, PageOf, OwnerOf}
use Rattle.alp_files.specs.Cells.{Cells, View}
use Rattle.alp_files.specs.Needs.{Intents, first_gone, through}

-- the size in a leader
abbrev pub size_at : Option Cell → Option ℕ
size_at (Some (cell.Leader p)) = Some p.size
size_at (Some (cell.Page bytes)) = None
size_at (Some (cell.Owner o)) = None
size_at None = None

abbrev pub is_owner : Option Cell → Bool
is_owner (Some (cell.Leader p)) = false
is_owner (Some (cell.Page bytes)) = false
is_owner (Some (cell.Owner o)) = true
is_owner None = false

abbrev pub is_below : ℕ → Option ℕ → Bool
is_below n None = false
is_below n (Some size) = nat_lt n size

-- none of the file's pages with these numbers is seen
abbrev pub NoneBetween : View → FileId → (first limit : ℕ) → Type 0
NoneBetween v f first limit = (n : ℕ) → first ≤ n → n < limit → v (PageOf f n) ≡ None

-- the pages of a file that lie below and stay have numbers below this
abbrev pub limit_by : Option ℕ → Option ℕ → ℕ
limit_by None first = 0
limit_by (Some size) None = size
limit_by (Some size) (Some first) = min size first

abbrev pub limit_of : Intents → Cells → FileId → ℕ
limit_of i m f = limit_by (size_at (map.get m (Leader f))) (first_gone i f)

-- what is looked at for a cell that is put
abbrev pub Passes : Intents → Cells → Key → Cell → Type 0
Passes i m (Leader f) (cell.Leader p) = (is_owner (through i (map.get m) (OwnerOf p.owner)) ≡ true) × NoneBetween (through i (map.get m)) f p.size (limit_of i m f)
Passes i m (PageOf f n) (cell.Page bytes) = is_below n (size_at (through i (map.get m) (Leader f))) ≡ true
Passes i m k c = Unit {0}
