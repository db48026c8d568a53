-- Changes of files as calls make them.
use Rattle.std.specs.Prelude.{◌≡◌, ℕ, ◌+◌, List, Option, None, Some}
use Rattle.std.specs.FinMap as map
use Rattle.alp_base.specs.declared.key.Key.TheVariants.{OwnerOf}
use Rattle.alp_base.specs.declared.cell.Cell.{Cell}
use Rattle.alp_base.specs.declared.cell.Cell.TheVariants as cell
use Rattle.alp_base.specs.declared.cell.OwnerRecord.{OwnerRecord}
use Rattle.alp_base.specs.declared.change.Change.{Change}
use Rattle.alp_files.specs.Cells.{Cells}
use Rattle.alp_files.specs.Changes.{edits_of, ArePutOnce}
use Rattle.alp_files.specs.Edits.{edits_map}
use Rattle.alp_files.specs.Sound.{AreSound}

-- the change puts no key twice, and leaves the cells sound where they are
pub record IsFileChange (m : Cells) (c : Change) : Type 0 where
  pub once : ArePutOnce c.puts
  pub sound : AreSound m → AreSound (edits_map (edits_of c) m)

-- what stands is a file of that owner with that size, or nothing with size 0
abbrev pub IsSized : List ℕ → ℕ → Option Cell → Type 0
IsSized owner size None = size ≡ 0
IsSized owner size (Some (cell.Leader p)) = (p.owner ≡ owner) × (p.size ≡ size)
IsSized owner size (Some (cell.Page bytes)) = ⊥
IsSized owner size (Some (cell.Owner o)) = ⊥

-- the record of the owner, charged for a file of the second size in place of one of the first
pub record IsCharged (m : Cells) (owner : List ℕ) (before after : ℕ) (r : OwnerRecord) : Type 0 where
  pub was : OwnerRecord
  pub there : map.get m (OwnerOf owner) ≡ Some (cell.Owner was)
  pub same : r ≡ record was { charge = r.charge }
  pub sum : r.charge + before ≡ was.charge + after
