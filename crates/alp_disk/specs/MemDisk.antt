-- What a disk in memory shows.
use Rattle.std.specs.Prelude.{◌≡◌, ◌↔◌, ◌<◌, ℕ, false, List, [], ◌∷◌, ◌++◌, length, if◌then◌else◌, nat_lt, Result, IsErr, IsTrue}
use Rattle.alp_base.specs.Streams.{counted, is_failing}
use Rattle.alp_base.specs.declared.faults.Halt.{Halt}
use Rattle.alp_disk.specs.Disk.{Image}
use Rattle.alp_disk.specs.Pending.{replay, alternated, filled, words_of, MayLeave, written_bytes}
use Rattle.alp_disk.specs.declared.pending_write.PendingWrite.{PendingWrite}
use Rattle.alp_disk.specs.declared.mem_disk.MemDisk.{MemDisk}
use Rattle.alp_disk.specs.declared.outcomes.TheConstants.{ROOM}

-- the pages as of the last sync, or of the last time when there was no room for one more write
abbrev pub stable_of : MemDisk → Image
stable_of m = m.stable.items

-- the writes since then
abbrev pub pending_of : MemDisk → List PendingWrite
pending_of m = m.pending.items

abbrev pub page_count : MemDisk → ℕ
page_count m = length m.stable.items

-- the pages as they read
abbrev pub seen_of : MemDisk → Image
seen_of m = replay m.stable.items m.pending.items

abbrev pub LeftBy : MemDisk → Image → Type 0
LeftBy m = MayLeave (length m.stable.items) m.stable.items m.pending.items

-- the reads, writes and syncs that were made
abbrev pub calls_of : MemDisk → ℕ
calls_of m = m.calls

-- the numbers of the calls that are to fail
abbrev pub fails_of : MemDisk → List ℕ
fails_of m = m.fails.items

abbrev pub faults_of : MemDisk → ℕ
faults_of m = m.faults

-- One more call was counted. It failed just where its number is among those that are to fail, and one more fault is counted then.
pub record CountsCall {T : Type 0} (old new : MemDisk) (result : Result T Halt) : Type 0 where
  pub failing : IsErr result ↔ IsTrue (is_failing (calls_of old) (fails_of old))
  pub calls : calls_of new ≡ counted (calls_of old)
  pub faults : faults_of new ≡ (if is_failing (calls_of old) (fails_of old) then counted (faults_of old) else faults_of old)
  pub fails : fails_of new ≡ fails_of old

-- What is stable is as it was, and so is what waits for a sync.
pub record SamePages (old new : MemDisk) : Type 0 where
  pub stable : stable_of new ≡ stable_of old
  pub pending : pending_of new ≡ pending_of old

-- One more write waits for a sync. Where there was no room for it, the earlier ones are stable, and it waits alone.
pub record Waits (at offset : ℕ) (bytes : List ℕ) (old new : MemDisk) : Type 0 where
  pub write : PendingWrite
  pub place : (write.at ≡ at) × (write.offset ≡ offset) × (written_bytes write ≡ bytes)
  pub stable : stable_of new ≡ (if nat_lt (length (pending_of old)) ROOM then stable_of old else seen_of old)
  pub pending : pending_of new ≡ (if nat_lt (length (pending_of old)) ROOM then pending_of old else []) ++ write ∷ []

-- What a crash with a pick makes of the writes since the last sync. The counts and the list of calls that are to fail stay.
pub record CrashedBy (pick : ℕ) (old new : MemDisk) : Type 0 where
  pub drops : pick ≡ 0 → seen_of new ≡ stable_of old
  pub keeps : pick ≡ 1 → seen_of new ≡ seen_of old
  pub alternates : pick ≡ 2 → seen_of new ≡ alternated false (stable_of old) (pending_of old)
  pub fills : 2 < pick → seen_of new ≡ filled (words_of pick) (stable_of old) (pending_of old)
  pub synced : pending_of new ≡ []
  pub calls : calls_of new ≡ calls_of old
  pub fails : fails_of new ≡ fails_of old
