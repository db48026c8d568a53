-- What a call leaves of a log and of the disk below it, and why it answers an error.
use Rattle.std.specs.Prelude.{◌≡◌, ◌⊎◌, ◌≤◌, ◌<◌, ◌+◌, ◌↔◌, Option, ℕ, Result, Ok, Err, OnOk, IsErrOf, true, false}
use Rattle.alp_base.specs.Causes.{Rose}
use Rattle.alp_base.specs.Allowances.{Sets}
use Rattle.alp_base.specs.declared.allowance.Allowance.TheVariants.{Spent}
use Rattle.alp_base.specs.Crashes.{SameOutcomes, Adds}
use Rattle.alp_base.specs.Notes.{notes_after}
use Rattle.alp_disk.specs.declared.disk.Disk.{Ghosts}
use Rattle.alp_batch.specs.declared.batch.Batch.{Batch}
use Rattle.alp_wal.specs.State.{State}
use Rattle.alp_wal.specs.Live.{batch_pages, notes_pages, BothFit}
use Rattle.alp_wal.specs.Wal.{disk_of, anchor_of, index_of, held_notes, notes_of, end_of, room_of, is_dead, indexed, no_index, IsSameVolume}
use Rattle.alp_wal.specs.Checkpoint.{turned, IsUnmoved, HasTurned}
use Rattle.alp_wal.specs.declared.wal.Wal.{Wal}
use Rattle.alp_wal.specs.declared.fault.WalFault.{WalFault}
use Rattle.alp_wal.specs.declared.fault.WalFault.TheVariants.{Failed, Stopped, OutOfMemory, Full, Dead}

-- ---- calls that change nothing of the log

-- all of the log but its disk
pub record IsSameLog {D : Type 0} (old new : Wal D) : Type 0 where
  pub anchor : anchor_of new ≡ anchor_of old
  pub index : index_of new ≡ index_of old
  pub notes : held_notes new ≡ held_notes old
  pub end : end_of new ≡ end_of old
  pub dead : is_dead new ≡ is_dead old

-- a disk that was given another allowance
pub record IsLimited {D : Type 0} (g : Ghosts D) (calls : Option ℕ) (old new : D) : Type 0 where
  pub tells : g.tells new ≡ g.tells old
  pub size : g.size new ≡ g.size old
  pub seen : g.seen new ≡ g.seen old
  pub crash : SameOutcomes (g.may_leave old) (g.may_leave new)
  pub time : Adds g.left_since old new (g.may_leave new)
  pub faults : g.faults new ≡ g.faults old
  pub allowance : Sets calls (g.allowance old) (g.allowance new)

-- ---- why a commit or a checkpoint answers an error

-- The device failed where its count of faults rose, and was stopped where its allowance is spent then, and either leaves the log
-- dead; after Ok the count is as before. A dead log answers that it is, and stays as it was; a log is alive after Ok.
pub record HasLogCause {D T : Type 0} (g : Ghosts D) (old new : Wal D) (result : Result T WalFault) : Type 0 where
  pub later : g.faults (disk_of old) ≤ g.faults (disk_of new)
  pub no_fault : OnOk result (g.faults (disk_of new) ≡ g.faults (disk_of old))
  pub failed : IsErrOf result Failed → Rose (g.faults (disk_of old)) (g.faults (disk_of new))
  pub stopped : IsErrOf result Stopped → g.allowance (disk_of new) ≡ Spent
  pub dead_if_failed : IsErrOf result Failed → is_dead new ≡ true
  pub dead_if_stopped : IsErrOf result Stopped → is_dead new ≡ true
  pub alive : OnOk result (is_dead new ≡ false)
  pub dead : IsErrOf result Dead ↔ (is_dead old ≡ true)
  pub dead_stays : IsErrOf result Dead → new ≡ old

-- of a checkpoint: the area is never too small for it, and after want of memory all is as before
pub record HasCheckpointCause {D T : Type 0} (g : Ghosts D) (old new : Wal D) (result : Result T WalFault) : Type 0 where
  pub log : HasLogCause g old new result
  pub never_full : IsErrOf result Full → ⊥
  pub memory : IsErrOf result OutOfMemory → new ≡ old

-- all of the log, but the room that is held for notes
pub record IsAsBefore {D : Type 0} (old new : Wal D) : Type 0 where
  pub disk : disk_of new ≡ disk_of old
  pub anchor : anchor_of new ≡ anchor_of old
  pub index : index_of new ≡ index_of old
  pub notes : notes_of new ≡ notes_of old
  pub end : end_of new ≡ end_of old
  pub dead : is_dead new ≡ is_dead old

-- of a commit: it is too large just where an empty area would not hold its record behind one of the live notes
pub record HasCommitCause {D T : Type 0} (g : Ghosts D) (b : Batch) (old new : Wal D) (result : Result T WalFault) : Type 0 where
  pub log : HasLogCause g old new result
  pub full : is_dead old ≡ false → (IsErrOf result Full ↔ (BothFit (anchor_of old).sizes.area (notes_of old) b → ⊥))
  pub full_stays : IsErrOf result Full → new ≡ old
  pub memory : IsErrOf result OutOfMemory → IsAsBefore old new

-- ---- what a commit leaves

-- the state of after where the call answers Ok, and that of before where it answers an error
abbrev pub Becomes : {T E : Type 0} → Result T E → State → State → State → Type 0
Becomes (Ok x) before after now = now ≡ after
Becomes (Err e) before after now = now ≡ before

-- the batch's record stands behind those of before
pub record IsBehind {D : Type 0} (b : Batch) (old new : Wal D) : Type 0 where
  pub anchor : anchor_of new ≡ anchor_of old
  pub room : room_of new + batch_pages b ≡ room_of old
  pub index : index_of new ≡ indexed (index_of old) b.images

-- it stands in the other area, behind a record of the live notes
pub record IsBehindNotes {D : Type 0} (b : Batch) (old new : Wal D) : Type 0 where
  pub anchor : anchor_of new ≡ turned (anchor_of old)
  pub room : room_of new + batch_pages b + notes_pages (notes_of old) ≡ (anchor_of old).sizes.area
  pub index : index_of new ≡ indexed (no_index (anchor_of old).sizes.home) b.images

-- after Ok: a checkpoint was made just where the record does not fit the rest of the area
pub record HasCommitted {D : Type 0} (b : Batch) (old new : Wal D) : Type 0 where
  pub volume : IsSameVolume (anchor_of old) (anchor_of new)
  pub notes : notes_of new ≡ notes_after b.notes (notes_of old)
  pub fitting : batch_pages b ≤ room_of old → IsBehind b old new
  pub over : room_of old < batch_pages b → IsBehindNotes b old new

-- after an error: where the record does not fit, the checkpoint before it was made or not
pub record HasNotCommitted {D : Type 0} (b : Batch) (old new : Wal D) : Type 0 where
  pub volume : IsSameVolume (anchor_of old) (anchor_of new)
  pub notes : notes_of new ≡ notes_of old
  pub fitting : batch_pages b ≤ room_of old → IsUnmoved old new
  pub over : room_of old < batch_pages b → IsUnmoved old new ⊎ HasTurned old new
