-- What a recovery leaves.
use Rattle.std.specs.Prelude.{◌≡◌, ◌≤◌, IsTrue}
use Rattle.alp_base.specs.Allowances.{Spends}
use Rattle.alp_base.specs.Crashes.{NoMore, Adds}
use Rattle.alp_base.specs.Faults.{HasFaultCause, IsCountKept, IsOfVolume}
use Rattle.alp_base.specs.declared.faults.VaultFault.{VaultFault}
use Rattle.alp_disk.specs.declared.disk.Disk.{Ghosts}
use Rattle.alp_wal.specs.Wal.{disk_of}
use Rattle.alp_wal.specs.declared.wal.Wal.{Wal}
use Rattle.alp_store.specs.Holding.{MayLeave, LeftSince, IsSameDisk, IsAlwaysWhole}
use Rattle.alp_store.specs.Shelves.{shelf_log, IsShelf, IsStore}
use Rattle.alp_store.specs.Told.{contents_of}
use Rattle.alp_store.specs.declared.shelf.Shelf.{Shelf}

-- the volume is open again, with one of the outcomes there were; a crash meanwhile left a volume
pub record IsReopened {D : Type 0} (g : Ghosts D) (old : Wal D) (new : Shelf D) : Type 0 where
  pub shelf : IsShelf g new
  pub same : IsSameDisk g old (shelf_log new)
  pub left : IsTrue (g.tells (disk_of old)) → MayLeave g old (contents_of g (shelf_log new))
  pub crash : NoMore (MayLeave g old) (MayLeave g (shelf_log new))
  pub time : Adds (LeftSince g) old (shelf_log new) (MayLeave g (shelf_log new))
  pub whole : IsAlwaysWhole g old (shelf_log new)
  pub faults : g.faults (disk_of (shelf_log new)) ≡ g.faults (disk_of old)
  pub spends : Spends (g.allowance (disk_of old)) (g.allowance (disk_of (shelf_log new)))

-- the log comes back with what it held, and with why it was not opened: a disk that tells holds a volume
pub record IsGivenBack {D : Type 0} (g : Ghosts D) (old new : Wal D) (fault : VaultFault) : Type 0 where
  pub store : IsStore g new
  pub same : IsSameDisk g old new
  pub held : contents_of g new ≡ contents_of g old
  pub crash : NoMore (MayLeave g old) (MayLeave g new)
  pub time : Adds (LeftSince g) old new (MayLeave g old)
  pub whole : IsAlwaysWhole g old new
  pub later : g.faults (disk_of old) ≤ g.faults (disk_of new)
  pub spends : Spends (g.allowance (disk_of old)) (g.allowance (disk_of new))
  pub cause : HasFaultCause (g.faults (disk_of old)) (g.faults (disk_of new)) (g.allowance (disk_of new)) fault
  pub still : IsCountKept (g.faults (disk_of old)) (g.faults (disk_of new)) fault
  pub volume : IsTrue (g.tells (disk_of old)) → IsOfVolume fault
