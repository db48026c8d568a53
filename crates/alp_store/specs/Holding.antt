-- What a store holds, and what a crash may leave of it, by what may be left of its disk.
use Rattle.std.specs.Prelude.{◌≡◌, ℕ, IsTrue, length}
use Rattle.alp_base.specs.Crashes.{LeavesOnly}
use Rattle.alp_disk.specs.Disk.{Image}
use Rattle.alp_disk.specs.declared.disk.Disk.{Ghosts}
use Rattle.alp_pages.specs.Volume.{StandFor}
use Rattle.alp_vault.specs.Contents.{Contents}
use Rattle.alp_wal.specs.Reading.{Reads}
use Rattle.alp_wal.specs.State.{State}
use Rattle.alp_wal.specs.Wal.{disk_of, anchor_of, IsSameVolume}
use Rattle.alp_wal.specs.declared.wal.Wal.{Wal}
use Rattle.alp_store.specs.Told.{pages_of}

-- A disk of n pages that reads so holds this, for that server of so many and so many home pages: it has a reading, whose
-- pages stand for the cells, and whose notes are these.
pub record Holds (server servers n home : ℕ) (image : Image) (c : Contents) : Type 0 where
  pub state : State
  pub reads : Reads server servers n image state
  pub long : length state.pages ≡ home
  pub stand : StandFor home (pages_of state) c.cells
  pub notes : c.notes ≡ state.notes

-- the same, for the server and the sizes of a log
abbrev pub HoldsBy : {D : Type 0} → Ghosts D → Wal D → Image → Contents → Type 0
HoldsBy g w image c = Holds (anchor_of w).server (anchor_of w).servers (g.size (disk_of w)) (anchor_of w).sizes.home image c

-- a crash now may leave a disk that holds this
pub record MayLeave {D : Type 0} (g : Ghosts D) (w : Wal D) (c : Contents) : Type 0 where
  pub image : Image
  pub left : g.may_leave (disk_of w) image
  pub holds : HoldsBy g w image c

-- a crash at some moment since the first of these might have left one
pub record LeftSince {D : Type 0} (g : Ghosts D) (start w : Wal D) (c : Contents) : Type 0 where
  pub image : Image
  pub left : g.left_since (disk_of start) (disk_of w) image
  pub holds : HoldsBy g w image c

-- the same volume of the same server, on a device that still tells, or tells nothing
pub record IsSameDisk {D : Type 0} (g : Ghosts D) (old new : Wal D) : Type 0 where
  pub tells : g.tells (disk_of new) ≡ g.tells (disk_of old)
  pub size : g.size (disk_of new) ≡ g.size (disk_of old)
  pub volume : IsSameVolume (anchor_of old) (anchor_of new)

-- a crash at any moment from the one log to the other leaves a disk that holds something
abbrev pub IsAlwaysWhole : {D : Type 0} → Ghosts D → Wal D → Wal D → Type 0
IsAlwaysWhole g old new = IsTrue (g.tells (disk_of old)) → LeavesOnly g.left_since (disk_of old) (disk_of new) (λ image. (c : Contents) × HoldsBy g old image c)
