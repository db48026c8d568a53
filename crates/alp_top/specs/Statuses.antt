-- How a run ended: its code, its text, and what holds where it ended so.
use Rattle.std.specs.Prelude.{◌≡◌, ◌⊎◌, ◌≤◌, ℕ, Bool, true, false, IsTrue, List, [], ◌++◌, Option, None, codes, string_bytes, take}
use Rattle.std.specs.Option.{option_map}
use Rattle.std.specs.Fmt.{decimal}
use Rattle.std.specs.Io.KnownBytes.{Appends}
use Rattle.alp_base.specs.Causes.{Rose}
use Rattle.alp_journal.specs.Answered.{entries_limit}
use Rattle.alp_script.specs.declared.fault.ScriptFault.{ScriptFault}
use Rattle.alp_script.specs.declared.fault.ScriptFault.TheVariants as flaw
use Rattle.alp_script.specs.declared.numbered.TheConstants.{SCRIPT_LINES_MOST}
use Rattle.alp_disk.specs.declared.disk.Disk.{Ghosts}
use Rattle.alp_disk.specs.declared.fuse.Fuse.{Fuse}
use Rattle.alp_store.specs.StoreStates.{StoreOf}
use Rattle.alp_words.specs.Words.{folder_named}
use Rattle.alp_words.specs.declared.command.Command.{Command}
use Rattle.alp_words.specs.declared.command.Command.TheVariants as command
use Rattle.alp_top.specs.Logs.{Log}
use Rattle.alp_top.specs.declared.fault.NoReport.{NoReport}
use Rattle.alp_top.specs.declared.fault.NoReport.TheVariants as fault
use Rattle.alp_top.specs.declared.status.Status.{Status}
use Rattle.alp_top.specs.declared.status.Status.TheVariants as status

-- the vault of a server of a run, on a device that the run may stop
abbrev pub Kept : (D : Type 0) → Ghosts D → Type 0
Kept D g = StoreOf (Fuse D g)

-- The line was written whole, or a part of it, and then a fault came.
abbrev pub SaysLine : (written_before written : Option (List ℕ)) → (faults_before faults : ℕ) → List ℕ → Type 0
SaysLine written_before written faults_before faults line = Appends written_before written line ⊎ (Rose faults_before faults × (count : ℕ) × Appends written_before written (take count line))

module _ {D : Type 0} {g : Ghosts D} where
  abbrev pub code_of : Status D g → ℕ
  code_of (status.Done log) = 0
  code_of status.BadWords = 1
  code_of (status.BadScript line) = 2
  code_of status.ReadFault = 3
  code_of (status.WriteFault log) = 4
  code_of (status.DiskFault server) = 5
  code_of status.OutOfMemory = 6
  code_of (status.TooLong limit) = 7
  code_of (status.NotAVolume server found) = 8
  code_of (status.Damaged server place) = 9

  abbrev pub status_said : Status D g → List ℕ
  status_said (status.Done log) = []
  status_said status.BadWords = codes "alpine: bad words"
  status_said (status.BadScript line) = codes "alpine: bad script line " ++ decimal line
  status_said status.ReadFault = codes "alpine: read fault"
  status_said (status.WriteFault log) = codes "alpine: write fault"
  status_said (status.DiskFault server) = codes "alpine: disk fault server " ++ decimal server
  status_said status.OutOfMemory = codes "alpine: out of memory"
  status_said (status.TooLong limit) = codes "alpine: too long " ++ decimal limit
  status_said (status.NotAVolume server found) = codes "alpine: not a volume server " ++ decimal server
  status_said (status.Damaged server place) = codes "alpine: damaged server " ++ decimal server ++ codes " place " ++ decimal place

  -- how a run ended that the bay or the disk of a server ended
  abbrev pub ended_by : NoReport → Status D g
  ended_by fault.Bay = status.DiskFault 0
  ended_by (fault.Disk server) = status.DiskFault server
  ended_by fault.OutOfMemory = status.OutOfMemory
  ended_by fault.JournalFull = status.TooLong entries_limit
  ended_by (fault.EpochEnd server) = status.TooLong 4294967295
  ended_by (fault.NotAVolume server found) = status.NotAVolume server found
  ended_by (fault.Damaged server place) = status.Damaged server place

  -- where the script was played and the report is written, of the log
  abbrev pub OnDone : Status D g → (Log (Kept D g) → Type 0) → Type 0
  OnDone (status.Done log) P = P log.value
  OnDone _ P = Unit {0}

  -- the script was played and the report cut off, of the log
  abbrev pub OnWriteFault : Status D g → (Log (Kept D g) → Type 0) → Type 0
  OnWriteFault (status.WriteFault log) P = P log.value
  OnWriteFault _ P = Unit {0}

  -- where the script was played, of what was written of the report and of the log: all of it, or a prefix
  abbrev pub OnReport : Status D g → (written_before written : Option (List ℕ)) → ((Written : List ℕ → Type 0) → Log (Kept D g) → Type 0) → Type 0
  OnReport (status.Done log) written_before written P = P (λ text. Appends written_before written text) log.value
  OnReport (status.WriteFault log) written_before written P = P (λ text. (count : ℕ) × Appends written_before written (take count text)) log.value
  OnReport _ written_before written P = Unit {0}

  -- bad words are told just where they are bad, unless memory is wanting
  abbrev pub AreWordsTold : Bool → Status D g → Type 0
  AreWordsTold true status.BadWords = Unit {0}
  AreWordsTold true status.OutOfMemory = Unit {0}
  AreWordsTold true _ = ⊥
  AreWordsTold false status.BadWords = ⊥
  AreWordsTold false _ = Unit {0}

  abbrev pub OnBadWords : Status D g → Type 0 → Type 0
  OnBadWords status.BadWords P = P
  OnBadWords _ P = Unit {0}

  -- why there were no lines to play, where that ended the run: a line is bad, there are too many, or the source failed
  abbrev pub OnNoLines : Status D g → (ScriptFault → Type 0) → Type 0
  OnNoLines (status.BadScript line) P = P (flaw.Bad line)
  OnNoLines (status.TooLong limit) P = limit ≡ SCRIPT_LINES_MOST → P flaw.TooLong
  OnNoLines status.ReadFault P = P flaw.ReadFault
  OnNoLines _ P = Unit {0}

  -- where no report was begun
  abbrev pub OnUnwritten : Status D g → Type 0 → Type 0
  OnUnwritten (status.Done log) P = Unit {0}
  OnUnwritten (status.WriteFault log) P = Unit {0}
  OnUnwritten _ P = P

  -- where no disk was asked for
  abbrev pub OnUntaken : Status D g → Type 0 → Type 0
  OnUntaken status.BadWords P = P
  OnUntaken (status.BadScript line) P = P
  OnUntaken status.ReadFault P = P
  OnUntaken (status.TooLong limit) P = limit ≡ SCRIPT_LINES_MOST → P
  OnUntaken _ P = Unit {0}

  -- Where the run was cut short: the bay or the disk of a server ended it, of the fault, or memory was wanting, before a disk was
  -- asked for or behind that. Server 0 is the bay, and a limit is that of the lines of a script, that of the entries of a journal, or
  -- the last epoch.
  abbrev pub OnCutShort : Status D g → Type 0 → (NoReport → Type 0) → Type 0
  OnCutShort (status.DiskFault server) U P = ((server ≡ 0) × P fault.Bay) ⊎ P (fault.Disk server)
  OnCutShort (status.TooLong limit) U P = ((limit ≡ SCRIPT_LINES_MOST) × U) ⊎ ((limit ≡ entries_limit) × P fault.JournalFull) ⊎ ((limit ≡ 4294967295) × (server : ℕ) × P (fault.EpochEnd server))
  OnCutShort (status.NotAVolume server found) U P = P (fault.NotAVolume server found)
  OnCutShort (status.Damaged server place) U P = P (fault.Damaged server place)
  OnCutShort status.OutOfMemory U P = U ⊎ P fault.OutOfMemory
  OnCutShort _ U P = Unit {0}

  -- where a disk was taken, whatever came then
  abbrev pub OnTaken : Status D g → Type 0 → Type 0
  OnTaken (status.Done log) P = P
  OnTaken (status.WriteFault log) P = P
  OnTaken (status.DiskFault server) P = (server ≡ 0) ⊎ P
  OnTaken (status.TooLong limit) P = (limit ≡ SCRIPT_LINES_MOST) ⊎ P
  OnTaken (status.NotAVolume server found) P = P
  OnTaken (status.Damaged server place) P = P
  OnTaken _ P = Unit {0}

  -- Which folder the bay is left with: where a disk was taken, the one that the words name, and else that or the one before.
  abbrev pub IsFolderTold : Status D g → (before now named : Option (List ℕ)) → Type 0
  IsFolderTold status.OutOfMemory before now named = (now ≡ named) ⊎ (now ≡ before)
  IsFolderTold (status.DiskFault server) before now named = (now ≡ named) ⊎ ((server ≡ 0) × (now ≡ before))
  IsFolderTold s before now named = OnTaken s (now ≡ named)

  -- where the disk of a server failed, of the server
  abbrev pub OnDiskFault : Status D g → (ℕ → Type 0) → Type 0
  OnDiskFault (status.DiskFault server) P = (server ≡ 0) ⊎ P server
  OnDiskFault _ P = Unit {0}

  -- where the bay failed
  abbrev pub OnBayFault : Status D g → Type 0 → Type 0
  OnBayFault (status.DiskFault server) P = server ≡ 0 → P
  OnBayFault _ P = Unit {0}

  -- where something is too long, of its limit
  abbrev pub OnTooLong : Status D g → (ℕ → Type 0) → Type 0
  OnTooLong (status.TooLong limit) P = P limit
  OnTooLong _ P = Unit {0}

  -- where a disk is none to start on, of its server
  abbrev pub OnBadDisk : Status D g → (ℕ → Type 0) → Type 0
  OnBadDisk (status.NotAVolume server found) P = P server
  OnBadDisk (status.Damaged server place) P = P server
  OnBadDisk _ P = Unit {0}

  -- the bay's count of faults rose where its fault is told, and stayed in every other case
  abbrev pub IsBayFaultTold : Status D g → ℕ → ℕ → Type 0
  IsBayFaultTold (status.DiskFault server) before now = ((server ≡ 0) × Rose before now) ⊎ ((1 ≤ server) × (now ≡ before))
  IsBayFaultTold _ before now = now ≡ before

  -- the source's count of faults rose where a read fault is told, and stayed in every other case
  abbrev pub IsReadFaultTold : Status D g → ℕ → ℕ → Type 0
  IsReadFaultTold status.ReadFault before now = Rose before now
  IsReadFaultTold _ before now = now ≡ before

  -- the sink's count of faults rose where a write fault is told, and stayed in every other case
  abbrev pub IsWriteFaultTold : Status D g → ℕ → ℕ → Type 0
  IsWriteFaultTold (status.WriteFault log) before now = Rose before now
  IsWriteFaultTold _ before now = now ≡ before

  -- the report is written, or its writing failed
  abbrev pub IsHandedOver : Status D g → Type 0
  IsHandedOver (status.Done log) = Unit {0}
  IsHandedOver (status.WriteFault log) = Unit {0}
  IsHandedOver _ = ⊥

  -- the report is written, or there was no memory, or a journal was full, or a server had come to the last epoch
  abbrev pub IsPlayedOrMemory : Status D g → Type 0
  IsPlayedOrMemory (status.Done log) = Unit {0}
  IsPlayedOrMemory status.OutOfMemory = Unit {0}
  IsPlayedOrMemory (status.TooLong limit) = (limit ≡ entries_limit) ⊎ (limit ≡ 4294967295)
  IsPlayedOrMemory _ = ⊥

-- the folder of a command
abbrev pub folder_in : Command → Option (List ℕ)
folder_in (command.Play folder) = option_map string_bytes folder
folder_in (command.Drill seed size folder) = option_map string_bytes folder
folder_in (command.Storm servers clients size seed patience folder) = option_map string_bytes folder

-- the words name no folder, or the bay tells what stands in it
abbrev pub IsTold : List (List ℕ) → Bool → Type 0
IsTold words tells = (folder_named words ≡ None) ⊎ IsTrue tells
