-- By what a part touches it is seen whether it leaves files well formed and charged.
use Rattle.std.specs.Prelude.{◌≡◌, ◌≤◌, ◌<◌, ◌+◌, ℕ, Bool, false, ◌||◌, List, None, Some}
use Rattle.std.specs.FinMap as map
use Rattle.alp_base.specs.declared.cell.Cell.{Cell}
use Rattle.alp_base.specs.declared.cell.Cell.TheVariants as cell
use Rattle.alp_base.specs.declared.cell.OwnerRecord.{OwnerRecord}
use Rattle.alp_base.specs.declared.cell.Props.{Props}
use Rattle.alp_base.specs.declared.ids.FileId.{FileId}
use Rattle.alp_base.specs.declared.key.Key.{Key}
use Rattle.alp_base.specs.declared.key.Key.TheVariants.{Leader, PageOf, OwnerOf}
use Rattle.alp_files.specs.Cells.{Cells, View}
use Rattle.alp_files.specs.Files.{AreFiles, charge_of}
use Rattle.alp_files.specs.Needs.{Intents, through}
use Rattle.alp_trans.specs.Counting.{with_intents}

-- no page of the file is seen from that number on
abbrev pub EndsAt : View → FileId → ℕ → Type 0
EndsAt v f size = (n : ℕ) → size ≤ n → v (PageOf f n) ≡ None

-- A leader's owner is seen, and no page at or past its size. A page lies below the size in its leader, which is seen.
abbrev pub IsGoodPut : View → Key → Cell → Type 0
IsGoodPut v (Leader f) (cell.Leader p) = ((o : OwnerRecord) × (v (OwnerOf p.owner) ≡ Some (cell.Owner o))) × EndsAt v f p.size
IsGoodPut v (PageOf f n) (cell.Page bytes) = (p : Props) × (v (Leader f) ≡ Some (cell.Leader p)) × (n < p.size)
IsGoodPut v k c = Unit {0}

abbrev pub AreGoodPuts : Intents → Cells → Type 0
AreGoodPuts i m = (k : Key) (c : Cell) → map.get i.puts k ≡ Some c → IsGoodPut (through i (map.get m)) k c

-- the files that are seen through the intents are well formed just where that is so
pub record AreFilesJustSo (i : Intents) (m : Cells) : Type 0 where
  pub so : AreGoodPuts i m → AreFiles (through i (map.get m))
  pub only : AreFiles (through i (map.get m)) → AreGoodPuts i m

-- ---- charges

-- a leader that is put, or goes
abbrev pub is_touched : Intents → Key → Bool
is_touched i (Leader f) = map.contains_key i.puts (Leader f) || map.contains_key i.drops f
is_touched i (PageOf f n) = false
is_touched i (OwnerOf name) = false

-- the sizes of the owner's leaders that are touched, as they lie below
abbrev pub charge_lost : Intents → Cells → List ℕ → ℕ
charge_lost i m owner = charge_of (map.retain_keys m (is_touched i)) owner

-- The charge of each owner falls by the sizes of its leaders that are touched, and rises by those of its leaders that are put.
abbrev pub DoChargesFollow : Intents → Cells → Type 0
DoChargesFollow i m = (owner : List ℕ) → charge_of (with_intents i m) owner + charge_lost i m owner ≡ charge_of m owner + charge_of i.puts owner
