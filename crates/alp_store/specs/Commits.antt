-- What a commit leaves.
use Rattle.std.specs.Prelude.{◌≡◌, ◌≤◌, IsTrue, Result, IsErrOf, MatchResult, OnOk, true, false, List}
use Rattle.alp_base.specs.Allowances.{Spends}
use Rattle.alp_base.specs.Crashes.{NoMore, Either, Adds, LeavesOnly}
use Rattle.alp_base.specs.Faults.{HasVaultCause}
use Rattle.alp_base.specs.Notes.{notes_after}
use Rattle.alp_base.specs.declared.bytes.NoteChange.{NoteChange}
use Rattle.alp_base.specs.declared.faults.VaultFault.{VaultFault}
use Rattle.alp_base.specs.declared.faults.VaultFault.TheVariants as fault
use Rattle.alp_batch.specs.declared.batch.Batch.{Batch}
use Rattle.alp_disk.specs.declared.disk.Disk.{Ghosts}
use Rattle.alp_base.specs.declared.change.Change.{Change}
use Rattle.alp_vault.specs.Contents.{made}
use Rattle.alp_vault.specs.Vault.{serves_past_change}
use Rattle.alp_wal.specs.State.{applied}
use Rattle.alp_wal.specs.Live.{batch_pages}
use Rattle.alp_wal.specs.Wal.{disk_of, anchor_of, notes_of, room_of, is_dead, BeforeOrAfter}
use Rattle.alp_wal.specs.Calls.{Becomes}
use Rattle.alp_wal.specs.declared.wal.Wal.{Wal}
use Rattle.alp_store.specs.Holding.{IsSameDisk, IsAlwaysWhole, MayLeave, LeftSince}
use Rattle.alp_store.specs.Shelves.{shelf_log, IsShelf, IsStore}
use Rattle.alp_store.specs.Told.{told_by, contents_of}
use Rattle.alp_store.specs.declared.shelf.Shelf.{Shelf}

-- ---- through the log

-- the log tells what it told, and goes on as it did; no crash leaves more, nor did one meanwhile
pub record IsAsItWas {D : Type 0} (g : Ghosts D) (old new : Wal D) : Type 0 where
  pub told : told_by g new ≡ told_by g old
  pub goes_on : is_dead new ≡ is_dead old
  pub crash : NoMore (g.may_leave (disk_of old)) (g.may_leave (disk_of new))
  pub time : Adds g.left_since (disk_of old) (disk_of new) (g.may_leave (disk_of old))
  pub allowance : g.allowance (disk_of new) ≡ g.allowance (disk_of old)

-- The log has the batch after Ok, and after an error what it had; a crash meanwhile left one of the two. It goes on after Ok,
-- in the same area where that has room, and want of memory leaves all as it was.
pub record HasPut {D T : Type 0} (g : Ghosts D) (b : Batch) (old new : Wal D) (result : Result T VaultFault) : Type 0 where
  pub same : IsSameDisk g old new
  pub becomes : IsTrue (g.tells (disk_of old)) → Becomes result (told_by g old) (applied (told_by g old) b) (told_by g new)
  pub crash : IsTrue (g.tells (disk_of old)) → LeavesOnly g.left_since (disk_of old) (disk_of new) (BeforeOrAfter (anchor_of old).server (anchor_of old).servers (g.size (disk_of old)) (told_by g old) b)
  pub notes : OnOk result (notes_of new ≡ notes_after b.notes (notes_of old))
  pub alive : OnOk result (is_dead new ≡ false)
  pub anchor : OnOk result (batch_pages b ≤ room_of old → anchor_of new ≡ anchor_of old)
  pub memory : IsErrOf result fault.OutOfMemory → IsAsItWas g old new
  pub spends : Spends (g.allowance (disk_of old)) (g.allowance (disk_of new))
  pub cause : HasVaultCause (g.faults (disk_of old)) (g.faults (disk_of new)) (g.allowance (disk_of new)) result

-- ---- of an open volume

-- The change of cells and that of notes are made after Ok. Through the whole call a crash leaves a volume, with what was held
-- before or what is held after it. The volume stays open after Ok and after want of memory, which leaves all as it was: a crash
-- meanwhile too.
pub record HasStored {D T : Type 0} (g : Ghosts D) (change : Change) (notes : List NoteChange) (old new : Shelf D) (result : Result T VaultFault) : Type 0 where
  pub cells : IsTrue (g.tells (disk_of (shelf_log old))) → OnOk result (contents_of g (shelf_log new) ≡ made change notes (contents_of g (shelf_log old)))
  pub noted : OnOk result (notes_of (shelf_log new) ≡ notes_after notes (notes_of (shelf_log old)))
  pub crash : IsTrue (g.tells (disk_of (shelf_log old))) → NoMore (Either (contents_of g (shelf_log old)) (made change notes (contents_of g (shelf_log old)))) (MayLeave g (shelf_log new))
  pub time : IsTrue (g.tells (disk_of (shelf_log old))) → Adds (LeftSince g) (shelf_log old) (shelf_log new) (Either (contents_of g (shelf_log old)) (made change notes (contents_of g (shelf_log old))))
  pub whole : IsAlwaysWhole g (shelf_log old) (shelf_log new)
  pub memory : IsTrue (g.tells (disk_of (shelf_log old))) → IsErrOf result fault.OutOfMemory → Adds (LeftSince g) (shelf_log old) (shelf_log new) (λ c. c ≡ contents_of g (shelf_log old))
  pub same : IsErrOf result fault.OutOfMemory → (contents_of g (shelf_log new) ≡ contents_of g (shelf_log old)) × (g.allowance (disk_of (shelf_log new)) ≡ g.allowance (disk_of (shelf_log old)))
  pub kept : IsSameDisk g (shelf_log old) (shelf_log new)
  pub store : IsStore g (shelf_log new)
  pub stays : MatchResult result (λ x. IsShelf g new) (λ f. serves_past_change f ≡ true → IsShelf g new)
  pub spends : Spends (g.allowance (disk_of (shelf_log old))) (g.allowance (disk_of (shelf_log new)))
  pub cause : HasVaultCause (g.faults (disk_of (shelf_log old))) (g.faults (disk_of (shelf_log new))) (g.allowance (disk_of (shelf_log new))) result
