-- What makes a map of cells a set of files, and what owners are charged.
use Rattle.std.specs.Prelude.{◌≡◌, ℕ, ◌<◌, sum_by, List, Some, if◌then◌else◌}
use Rattle.std.specs.FinMap as map
use Rattle.alp_base.specs.declared.ids.FileId.{FileId}
use Rattle.alp_base.specs.declared.key.Key.{Key}
use Rattle.alp_base.specs.declared.key.Key.TheVariants.{Leader, PageOf, OwnerOf}
use Rattle.alp_base.specs.declared.cell.Cell.{Cell}
use Rattle.alp_base.specs.declared.cell.Cell.TheVariants as cell
use Rattle.alp_base.specs.declared.cell.Props.{Props}
use Rattle.alp_base.specs.declared.cell.OwnerRecord.{OwnerRecord}
use Rattle.alp_files.specs.Cells.{Cells, View, same_name}

-- a cell is of its key's kind, and an owner's cell has its own name
abbrev pub IsOfKind : Key → Cell → Type 0
IsOfKind (Leader f) (cell.Leader p) = Unit {0}
IsOfKind (Leader f) (cell.Page bytes) = ⊥
IsOfKind (Leader f) (cell.Owner o) = ⊥
IsOfKind (PageOf f n) (cell.Leader p) = ⊥
IsOfKind (PageOf f n) (cell.Page bytes) = Unit {0}
IsOfKind (PageOf f n) (cell.Owner o) = ⊥
IsOfKind (OwnerOf name) (cell.Leader p) = ⊥
IsOfKind (OwnerOf name) (cell.Page bytes) = ⊥
IsOfKind (OwnerOf name) (cell.Owner o) = o.name ≡ name

-- well-formed files: each leader's owner is there, and each page has a leader and lies below its size
pub record AreFiles (m : View) : Type 0 where
  pub kinds : (k : Key) (c : Cell) → m k ≡ Some c → IsOfKind k c
  pub owned : (f : FileId) (p : Props) → m (Leader f) ≡ Some (cell.Leader p) → (o : OwnerRecord) × (m (OwnerOf p.owner) ≡ Some (cell.Owner o))
  pub paged : (f : FileId) (n : ℕ) (c : Cell) → m (PageOf f n) ≡ Some c → (p : Props) × (m (Leader f) ≡ Some (cell.Leader p)) × (n < p.size)

-- what a cell costs an owner
abbrev pub cost : List ℕ → Cell → ℕ
cost owner (cell.Leader p) = if same_name p.owner owner then p.size else 0
cost owner (cell.Page bytes) = 0
cost owner (cell.Owner o) = 0

-- the sum of the sizes of an owner's files
abbrev pub charge_of : Cells → List ℕ → ℕ
charge_of m owner = sum_by (λ e. cost owner e.1) (map.entries m)

-- each owner's record holds just its charge
abbrev pub AreCharged : Cells → Type 0
AreCharged m = (owner : List ℕ) (o : OwnerRecord) → map.get m (OwnerOf owner) ≡ Some (cell.Owner o) → o.charge ≡ charge_of m owner
