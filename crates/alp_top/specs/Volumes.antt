-- The disks of the run's servers: what each server opened on, and what its disk holds when it is given back.
use Rattle.std.specs.Prelude.{[], ◌∷◌, ◌++◌, ◌≡◌, ◌⊎◌, ◌≤◌, ◌<◌, ℕ, ◌+◌, ◌*◌, List, length, Option, Some, Result, Ok, Err}
use Rattle.std.specs.FinMap as map
use Rattle.alp_base.specs.Causes.{Rose}
use Rattle.alp_base.specs.Crashes.{Only, NoMore}
use Rattle.alp_base.specs.Notes.{Notes}
use Rattle.alp_base.specs.declared.faults.Sizes.{Sizes}
use Rattle.alp_base.specs.declared.faults.VaultFault.TheVariants as vault_fault
use Rattle.alp_anchor.specs.Anchor.{Counts}
use Rattle.alp_anchor.specs.declared.anchor.Anchor.{Anchor}
use Rattle.alp_bay.specs.Bays.{IsTaken}
use Rattle.alp_disk.specs.Disk.{Image}
use Rattle.alp_disk.specs.declared.disk.Disk.{Ghosts}
use Rattle.alp_fields.specs.ClockNote.{clock_name, clock_form, AreClockNotes}
use Rattle.alp_files.specs.Apart.{AreSized}
use Rattle.alp_files.specs.Sound.{AreSound}
use Rattle.alp_journal.specs.Opening.{Start, start_at}
use Rattle.alp_journal.specs.Along.{Along, state_after}
use Rattle.alp_journal.specs.Answered.{IsAnswered, entries_limit}
use Rattle.alp_journal.specs.Laws.{IsLawful}
use Rattle.alp_journal.specs.Moves.{next}
use Rattle.alp_journal.specs.State.{State, opened}
use Rattle.alp_journal.specs.declared.entry.Entry.{Entry}
use Rattle.alp_node.specs.Downs.{IsLeftOf}
use Rattle.alp_node.specs.Durable.{IsSaid, IsSaidThen}
use Rattle.alp_node.specs.Nodes.{IsSoundStart}
use Rattle.alp_node.specs.Starts.{raised, epoch_after, IsKeptOrRaised}
use Rattle.alp_regain.specs.Together.{AreTogether}
use Rattle.alp_node.specs.declared.start.StartFault.TheVariants.{EpochEnd, Vault}
use Rattle.alp_store.specs.Holding.{Holds}
use Rattle.alp_store.specs.Starts.{AreOfServer, IsNew, Unmaking, WhyNotStarted}
use Rattle.alp_vault.specs.Contents.{Contents}
use Rattle.alp_script.specs.Accepted.{servers_said}
use Rattle.alp_script.specs.Volumes.{sizes_said}
use Rattle.alp_script.specs.declared.numbered.NumberedLine.{NumberedLine}
use Rattle.alp_history.specs.Handed.{ArePromisesKept}
use Rattle.alp_history.specs.Log as logs
use Rattle.alp_history.specs.RunLogs.{handed_of}
use Rattle.alp_history.specs.Theorems.{IsOneThread, AreWhole}
use Rattle.alp_cluster.specs.Fills.{IsEndFor, IsEventDue}
use Rattle.alp_cluster.specs.Runs.{StopNone, StopsInLine, StopsBehindLines}
use Rattle.alp_cluster.specs.Servers.{AreCalm, IsDone, ShowsFault}
use Rattle.alp_course.specs.Courses.{Course, Occurrence, IsOneOf, IsSeat, seat_at, TellAll, AreCourse}
use Rattle.alp_course.specs.Links.{IsFirst, log_of}
use Rattle.alp_course.specs.Plays.{Due, ArePlayed, sent_of}
use Rattle.alp_course.specs.Turns.{Turn, own_in, sent_in}
use Rattle.alp_cluster.specs.declared.fault.RunFault.{RunFault}
use Rattle.alp_cluster.specs.declared.fault.RunFault.TheVariants as run_fault
use Rattle.alp_top.specs.declared.fault.NoReport.{NoReport}
use Rattle.alp_top.specs.declared.fault.NoReport.TheVariants as fault

-- the pages of a disk whose volume has these sizes: two anchors, two areas of the log, and home
abbrev pub pages_of : Sizes → ℕ
pages_of sizes = 2 + 2 * sizes.area + sizes.home

-- ---- what a server opened on

-- The disk was new: a volume of these sizes that held nothing, in the first epoch and with clock 0.
pub record IsOpenedNew (sizes : Sizes) (o : Start) (notes : Notes) : Type 0 where
  pub sizes_are : o.sizes ≡ sizes
  pub epoch : o.epoch ≡ 1
  pub clock : o.clock ≡ 0
  pub cells : o.cells ≡ map.empty
  pub noted : notes ≡ map.insert map.empty clock_name (clock_form.spell (record { epoch = 1; clock = 0 }))

-- It was not: the server opened on what the disk's reading says, which is the server's, one of so many, in the sizes of the anchor that
-- counts there, and in the epoch after that of its note, which it raised. The notes that it found go together, with one another and with the
-- files, and have room.
pub record IsOpenedOn (server servers n : ℕ) (image : Image) (o : Start) (notes : Notes) : Type 0 where
  pub anchor : Anchor
  pub counts : Counts n image anchor
  pub named : (anchor.server ≡ server) × (anchor.servers ≡ servers)
  pub sizes_are : o.sizes ≡ anchor.sizes
  pub held : Contents
  pub holds : Holds server servers n o.sizes.home image held
  pub own : AreOfServer server servers held
  pub together : AreTogether server servers (epoch_after held) anchor.sizes held.cells held.notes
  pub cells : o.cells ≡ held.cells
  pub next : raised held ≡ Ok (record { epoch = o.epoch; clock = o.clock })
  pub noted : notes ≡ map.insert held.notes clock_name (clock_form.spell (record { epoch = o.epoch; clock = o.clock }))

-- The disk that comes from this place is new, or has no note but that of the epoch and the clock: its server finds no part that is ready, and no
-- decision.
abbrev pub HasNoPart : {D : Type 0} → Ghosts D → List NumberedLine → (server : ℕ) → Option D → Type 0
HasNoPart {D} g lines server was =
    (d : D) → IsTaken g was (pages_of (sizes_said lines server)) d
    → IsNew (sizes_said lines server) (g.size d) (g.seen d) ⊎ ((home : ℕ) (held : Contents) → Holds server (servers_said lines) (g.size d) home (g.seen d) held → AreClockNotes held.notes)

-- ---- what a disk holds behind the run

-- No line lets a disk be stopped, or no entry of this journal stopped its server: of a disk that was stopped no count says whether it failed, since
-- the write that stops it is handed on.
abbrev pub IsUnstopped : List NumberedLine → List Entry → Type 0
IsUnstopped lines journal = StopNone lines ⊎ AreCalm journal

-- a server finds no part of a transaction that is ready, and no decision that is not at its end
pub record IsBare (o : Start) : Type 0 where
  pub ready : o.ready ≡ []
  pub decisions : o.decisions ≡ []

-- Of a server that runs alone there is no note but that of the epoch and the clock, and nothing is found then.
pub record IsSoundAlone (o : Start) (held : Contents) : Type 0 where
  pub clock : AreClockNotes held.notes
  pub bare : IsBare (start_at 1 1 o.sizes held.cells held.notes)

-- What the server holds in the end by its journal is what the disk that was given back holds, and what a crash leaves of it: the notes are in its
-- format, and it gave the files, in epochs up to that of its note. What its notes said of its own files was sound. Where this holds, the disk
-- did not fail.
pub record IsStored {D : Type 0} (g : Ghosts D) (P : Type 0) (server servers : ℕ) (sizes : Sizes) (o : Start) (notes : Notes) (m : State) (taken given : D) : Type 0 where
  pub new : IsNew sizes (g.size taken) (g.seen taken) → IsOpenedNew sizes o notes
  pub found : (IsNew sizes (g.size taken) (g.seen taken) → ⊥) → IsOpenedOn server servers (g.size taken) (g.seen taken) o notes
  pub held : Contents
  pub finish : Holds server servers (g.size given) o.sizes.home (g.seen given) held
  pub said : IsSaid m held
  pub own : AreOfServer server servers held
  pub files : AreSound held.cells
  pub sized : AreSized (map.get held.cells)
  pub durable : Only (g.seen given) (g.may_leave given)
  pub alone : servers ≡ 1 → IsSoundAlone o held
  pub sound : IsSoundStart o
  pub unfailed : P → g.faults given ≡ g.faults taken

-- ---- how the bay stands behind the run

-- One disk was taken from a place, where that had stood or a new one came, and this one is given back there.
pub record IsReturned {D : Type 0} (g : Ghosts D) (sizes : Sizes) (was now : Option D) (P : D → D → Type 0) : Type 0 where
  pub taken : D
  pub from_there : IsTaken g was (pages_of sizes) taken
  pub given : D
  pub there : now ≡ Some given
  pub size : g.size given ≡ g.size taken
  pub later : g.faults taken ≤ g.faults given
  pub left : P taken given

-- So it is with the disks of so many servers, the first ones. No other place changed.
pub record AreReturned {D : Type 0} (g : Ghosts D) (lines : List NumberedLine) (count : ℕ) (before after : ℕ → Option D) (P : ℕ → D → D → Type 0) : Type 0 where
  pub each : (n : ℕ) → IsOneOf count n → IsReturned g (sizes_said lines n) (before n) (after n) (P n)
  pub others : (n : ℕ) → (IsOneOf count n → ⊥) → after n ≡ before n

-- ---- why a run ended before its report

-- a disk that is not new, of which nothing that a read gives was changed, and of which a crash leaves no more than before; it did
-- not fail
pub record IsLeftAlone {D : Type 0} (g : Ghosts D) (sizes : Sizes) (taken given : D) : Type 0 where
  pub old : IsNew sizes (g.size taken) (g.seen taken) → ⊥
  pub seen : g.seen given ≡ g.seen taken
  pub crash : NoMore (g.may_leave taken) (g.may_leave given)
  pub unfailed : g.faults given ≡ g.faults taken

-- its volume is the server's, and has no epoch left
pub record HasNoEpoch (server servers n : ℕ) (image : Image) : Type 0 where
  pub home : ℕ
  pub held : Contents
  pub holds : Holds server servers n home image held
  pub own : AreOfServer server servers held
  pub last : raised held ≡ Err EpochEnd

-- a journal of the run so far is lawful, and each entry is as its event then calls for
pub record IsRightAt (last : Course) (n : ℕ) : Type 0 where
  pub lawful : IsLawful (seat_at last n).opening (seat_at last n).journal
  pub caused : Along next IsDone (opened (seat_at last n).opening) (seat_at last n).journal

-- The run of these lines came so far, with these turns of its clients, and its servers stand so. The journals are those of what occurred by then,
-- each reply is the one that was handed, and they are lawful. The vaults tell what they hold, so each settling found what was left. Where what the
-- servers opened on is sound the decided transactions are one thread's history, each with all of its parts, and what the clients are promised is
-- kept. Of a server that runs alone it is.
pub record IsRunTo (lines : List NumberedLine) (turns : List Turn) (happened : List Occurrence) (last : Course) : Type 0 where
  pub first : Course
  pub begins : IsFirst first
  pub count : length last.seats ≡ servers_said lines
  pub course : AreCourse first happened last
  pub sent : sent_of happened ≡ sent_in turns
  pub tells : TellAll last
  pub right : (n : ℕ) → IsSeat last n → IsRightAt last n
  pub history : logs.AreSoundOpenings (log_of last (handed_of (λ k. own_in k turns)))
      → IsOneThread (log_of last (handed_of (λ k. own_in k turns))) × AreWhole (log_of last (handed_of (λ k. own_in k turns))) × ArePromisesKept (log_of last (handed_of (λ k. own_in k turns)))
  pub alone : servers_said lines ≡ 1 → logs.AreSoundOpenings (log_of last (handed_of (λ k. own_in k turns)))

-- It ended for that fault there: a line had more to send or to bring about, or the settling behind the lines had (`stopped`).
pub record IsCutShort (lines : List NumberedLine) (f : RunFault) (last : Course) : Type 0 where
  pub turns : List Turn
  pub happened : List Occurrence
  pub run : IsRunTo lines turns happened last
  pub due : Due
  pub stopped : StopsInLine (servers_said lines) lines turns happened due ⊎ StopsBehindLines (servers_said lines) lines turns happened due
  pub ends : IsEndFor f last due

-- It was played to its end, and settled: then its report was to be made.
pub record IsPlayedToEnd (lines : List NumberedLine) (last : Course) : Type 0 where
  pub turns : List Turn
  pub happened : List Occurrence
  pub run : IsRunTo lines turns happened last
  pub played : ArePlayed (servers_said lines) lines turns happened

-- A server was started on the disk and opened so, and what a crash leaves of the disk that is given back is what this journal says, or what its last
-- write makes of that.
pub record IsLeftWith {D : Type 0} (g : Ghosts D) (lines : List NumberedLine) (server : ℕ) (o : Start) (journal : List Entry) (taken given : D) : Type 0 where
  pub notes : Notes
  pub started : o ≡ start_at server (servers_said lines) o.sizes o.cells notes
  pub sound : IsSoundStart o
  pub new : IsNew (sizes_said lines server) (g.size taken) (g.seen taken) → IsOpenedNew (sizes_said lines server) o notes
  pub found : (IsNew (sizes_said lines server) (g.size taken) (g.seen taken) → ⊥) → IsOpenedOn server (servers_said lines) (g.size taken) (g.seen taken) o notes
  pub left : (image : Image) → g.may_leave given image
      → (c : Contents) × Holds server (servers_said lines) (g.size given) o.sizes.home image c × (IsSaid (state_after next (opened o) journal) c ⊎ IsSaidThen (state_after next (opened o) journal) c)
  pub read : g.may_leave given (g.seen given)

-- Where the servers stand so, the disk of this one is left with its journal. Where no line stops a disk, or no entry of the journal stopped the
-- server, this one did not fail.
pub record IsLeftBy {D : Type 0} (g : Ghosts D) (lines : List NumberedLine) (last : Course) (server : ℕ) (taken given : D) : Type 0 where
  pub with_it : IsLeftWith g lines server (seat_at last server).opening (seat_at last server).journal taken given
  pub unfailed : IsUnstopped lines (seat_at last server).journal → g.faults given ≡ g.faults taken

-- The device failed in the step that was due at the server that was started on it: the disk is left with the journal and one entry more, of the event
-- that was to come, which shows it. With it the journal is lawful, and each entry has its cause.
pub record HasFailedOn {D : Type 0} (g : Ghosts D) (lines : List NumberedLine) (last : Course) (due : Due) (server : ℕ) (taken given : D) : Type 0 where
  pub seat : IsSeat last server
  pub entry : Entry
  pub its : IsEventDue last due entry.event
  pub shows : ShowsFault entry
  pub lawful : IsLawful (seat_at last server).opening ((seat_at last server).journal ++ entry ∷ [])
  pub caused : IsAnswered (seat_at last server).opening ((seat_at last server).journal ++ entry ∷ [])
  pub with_it : IsLeftWith g lines server (seat_at last server).opening ((seat_at last server).journal ++ entry ∷ []) taken given
  pub rose : Rose (g.faults taken) (g.faults given)

-- The journal of the server that was started on the disk was full where another event was to come. The disk holds what the journal
-- says.
pub record HasFilled {D : Type 0} (g : Ghosts D) (lines : List NumberedLine) (last : Course) (server : ℕ) (taken given : D) : Type 0 where
  pub seat : IsSeat last server
  pub notes : Notes
  pub started : (seat_at last server).opening ≡ start_at server (servers_said lines) (seat_at last server).opening.sizes (seat_at last server).opening.cells notes
  pub full : entries_limit ≤ length (seat_at last server).journal
  pub stored : IsStored g (IsUnstopped lines (seat_at last server).journal) server (servers_said lines) (sizes_said lines server) (seat_at last server).opening notes (state_after next (opened (seat_at last server).opening) (seat_at last server).journal) taken given

-- The server that was started on the disk fell, and did not start again. What the disk reads and what a crash leaves of it is what the journal says, or
-- that with the whole of what was tried last.
pub record IsLeftFallen {D : Type 0} (g : Ghosts D) (lines : List NumberedLine) (last : Course) (server : ℕ) (taken given : D) : Type 0 where
  pub seat : IsSeat last server
  pub notes : Notes
  pub started : (seat_at last server).opening ≡ start_at server (servers_said lines) (seat_at last server).opening.sizes (seat_at last server).opening.cells notes
  pub new : IsNew (sizes_said lines server) (g.size taken) (g.seen taken) → IsOpenedNew (sizes_said lines server) (seat_at last server).opening notes
  pub found : (IsNew (sizes_said lines server) (g.size taken) (g.seen taken) → ⊥) → IsOpenedOn server (servers_said lines) (g.size taken) (g.seen taken) (seat_at last server).opening notes
  pub sound : IsSoundStart (seat_at last server).opening
  pub left : (image : Image) → g.may_leave given image
      → (c : Contents) × Holds server (servers_said lines) (g.size given) (seat_at last server).opening.sizes.home image c × IsLeftOf (state_after next (opened (seat_at last server).opening) (seat_at last server).journal) c
  pub read : g.may_leave given (g.seen given)

-- It had come to the last epoch, or memory was wanting: then its device did not fail.
pub record HasUsedUp {D : Type 0} (g : Ghosts D) (lines : List NumberedLine) (last : Course) (server : ℕ) (taken given : D) : Type 0 where
  pub fallen : IsLeftFallen g lines last server taken given
  pub unfailed : IsUnstopped lines (seat_at last server).journal → g.faults given ≡ g.faults taken

-- Its device failed as it was to start again.
pub record HasFailedAgain {D : Type 0} (g : Ghosts D) (lines : List NumberedLine) (last : Course) (server : ℕ) (taken given : D) : Type 0 where
  pub fallen : IsLeftFallen g lines last server taken given
  pub rose : Rose (g.faults taken) (g.faults given)

-- A disk that is not new holds a volume of this server, one of several, whose notes do not go together, with one another or with its files. It
-- comes back with the same, after a crash too.
pub record HoldsApart {D : Type 0} (g : Ghosts D) (sizes : Sizes) (server servers : ℕ) (taken given : D) : Type 0 where
  pub old : IsNew sizes (g.size taken) (g.seen taken) → ⊥
  pub several : servers ≡ 1 → ⊥
  pub anchor : Anchor
  pub counts : Counts (g.size taken) (g.seen taken) anchor
  pub held : Contents
  pub holds : Holds server servers (g.size taken) anchor.sizes.home (g.seen taken) held
  pub own : AreOfServer server servers held
  pub apart : AreTogether server servers (epoch_after held) anchor.sizes held.cells held.notes → ⊥
  pub left : Holds server servers (g.size given) anchor.sizes.home (g.seen given) held
  pub durable : Only (g.seen given) (g.may_leave given)
  pub unfailed : g.faults given ≡ g.faults taken

-- the disk reads as before, and a crash leaves no more of it
pub record ReadsAsBefore {D : Type 0} (g : Ghosts D) (taken given : D) : Type 0 where
  pub seen : g.seen given ≡ g.seen taken
  pub crash : NoMore (g.may_leave taken) (g.may_leave given)

-- It held a volume of the server, its own. What it reads, and whatever a crash leaves of it, holds the same, or that with the next epoch in its note.
pub record HoldsOrRaised {D : Type 0} (g : Ghosts D) (server servers : ℕ) (taken given : D) : Type 0 where
  pub home : ℕ
  pub held : Contents
  pub holds : Holds server servers (g.size taken) home (g.seen taken) held
  pub own : AreOfServer server servers held
  pub left : (image : Image) → g.may_leave given image → (c : Contents) × Holds server servers (g.size given) home image c × IsKeptOrRaised held c
  pub read : g.may_leave given (g.seen given)

-- Where the disk was not new, it reads as before, or holds what it held, or that with the next epoch in its note.
abbrev pub IsLeftOld : {D : Type 0} → Ghosts D → Sizes → (server servers : ℕ) → D → D → Type 0
IsLeftOld g sizes server servers taken given = (IsNew sizes (g.size taken) (g.seen taken) → ⊥) → ReadsAsBefore g taken given ⊎ HoldsOrRaised g server servers taken given

-- neither files nor notes
abbrev pub empty_contents : Contents
empty_contents = record { cells = map.empty; notes = map.empty }

-- What the disk reads, and whatever a crash leaves of it, is a volume of the server with so many home pages, which holds nothing, or just the
-- note of its first epoch.
pub record HoldsNothing {D : Type 0} (g : Ghosts D) (sizes : Sizes) (server servers : ℕ) (given : D) : Type 0 where
  pub left : (image : Image) → g.may_leave given image → (c : Contents) × Holds server servers (g.size given) sizes.home image c × IsKeptOrRaised empty_contents c
  pub read : g.may_leave given (g.seen given)

-- the disk is new again, after a crash too
pub record IsNewAgain {D : Type 0} (g : Ghosts D) (sizes : Sizes) (given : D) : Type 0 where
  pub blank : IsNew sizes (g.size given) (g.seen given)
  pub durable : Only (g.seen given) (g.may_leave given)

-- What the disk reads, and whatever a crash leaves of it, is what a stop may leave within the call that makes a new disk a volume. Of its anchors,
-- of the first page of its log and of its home pages that says nothing.
pub record IsHalfMade {D : Type 0} (g : Ghosts D) (sizes : Sizes) (server servers : ℕ) (taken given : D) : Type 0 where
  pub left : (image : Image) → g.may_leave given image → Unmaking server servers (g.size taken) sizes (g.may_leave taken) image
  pub read : g.may_leave given (g.seen given)

-- The disk is left as one on which its server did not start, or found no room among the others, since memory was wanting. It did not fail. One
-- that was new is new again, or a volume that holds nothing.
pub record IsWanting {D : Type 0} (g : Ghosts D) (sizes : Sizes) (server servers : ℕ) (taken given : D) : Type 0 where
  pub unfailed : g.faults given ≡ g.faults taken
  pub old : IsLeftOld g sizes server servers taken given
  pub new : IsNew sizes (g.size taken) (g.seen taken) → IsNewAgain g sizes given ⊎ HoldsNothing g sizes server servers given

-- The disk is left as one on which its server did not start, since that failed. One that was new is half made, or a volume that holds nothing.
pub record IsFailing {D : Type 0} (g : Ghosts D) (sizes : Sizes) (server servers : ℕ) (taken given : D) : Type 0 where
  pub rose : Rose (g.faults taken) (g.faults given)
  pub old : IsLeftOld g sizes server servers taken given
  pub new : IsNew sizes (g.size taken) (g.seen taken) → IsHalfMade g sizes server servers taken given ⊎ HoldsNothing g sizes server servers given

-- Why a server did not come to the others, and how its disk is left: that failed; or it holds no volume of the server, or a damaged one, or
-- notes that do not go together, or no further epoch; or memory was wanting.
abbrev pub WhyNotBegun : {D : Type 0} → Ghosts D → Sizes → (server servers : ℕ) → NoReport → D → D → Type 0
WhyNotBegun g sizes server servers (fault.Disk s) taken given = (s ≡ server) × IsFailing g sizes server servers taken given
WhyNotBegun g sizes server servers (fault.NotAVolume s found) taken given =
    (s ≡ server) × IsLeftAlone g sizes taken given × WhyNotStarted server servers (g.size taken) (g.seen taken) (vault_fault.NotAVolume found)
WhyNotBegun g sizes server servers (fault.Damaged s place) taken given =
    (s ≡ server)
    × ((IsLeftAlone g sizes taken given × WhyNotStarted server servers (g.size taken) (g.seen taken) (vault_fault.Damaged place)) ⊎ ((place ≡ 0) × HoldsApart g sizes server servers taken given))
WhyNotBegun g sizes server servers (fault.EpochEnd s) taken given = (s ≡ server) × IsLeftAlone g sizes taken given × HasNoEpoch server servers (g.size taken) (g.seen taken)
WhyNotBegun g sizes server servers fault.OutOfMemory taken given = IsWanting g sizes server servers taken given
WhyNotBegun g sizes server servers fault.JournalFull taken given = ⊥
WhyNotBegun g sizes server servers fault.Bay taken given = ⊥

-- A server was started on this disk, and then nothing was played. The disk that is given back holds what it holds then, after a crash too:
-- the files and the notes that the server opened on. It did not fail.
pub record IsUnplayed {D : Type 0} (g : Ghosts D) (lines : List NumberedLine) (server : ℕ) (taken given : D) : Type 0 where
  pub opening : Start
  pub notes : Notes
  pub started : opening ≡ start_at server (servers_said lines) opening.sizes opening.cells notes
  pub sound : IsSoundStart opening
  pub new : IsNew (sizes_said lines server) (g.size taken) (g.seen taken) → IsOpenedNew (sizes_said lines server) opening notes
  pub found : (IsNew (sizes_said lines server) (g.size taken) (g.seen taken) → ⊥) → IsOpenedOn server (servers_said lines) (g.size taken) (g.seen taken) opening notes
  pub left : (image : Image) → g.may_leave given image → (c : Contents) × Holds server (servers_said lines) (g.size given) opening.sizes.home image c × IsSaid (opened opening) c
  pub read : g.may_leave given (g.seen given)
  pub unfailed : g.faults given ≡ g.faults taken

-- The servers before this one were started, in order, and did nothing, and that holds of the disk of this one. No other place changed.
pub record StopsAt {D : Type 0} (g : Ghosts D) (lines : List NumberedLine) (server : ℕ) (before after : ℕ → Option D) (P : D → D → Type 0) : Type 0 where
  pub among : IsOneOf (servers_said lines) server
  pub returned : AreReturned g lines server before after (λ n taken given. (n ≡ server → P taken given) × ((n ≡ server → ⊥) → IsUnplayed g lines n taken given))

-- The disk of each server is given back with its journal, where they stand so.
abbrev pub AreLeftAll : {D : Type 0} → Ghosts D → List NumberedLine → Course → (before after : ℕ → Option D) → Type 0
AreLeftAll g lines last before after = AreReturned g lines (servers_said lines) before after (IsLeftBy g lines last)

-- That of this server is left so, and each other one with its journal.
abbrev pub AreLeftBut : {D : Type 0} → Ghosts D → List NumberedLine → Course → (server : ℕ) → (before after : ℕ → Option D) → (D → D → Type 0) → Type 0
AreLeftBut g lines last server before after P =
    IsOneOf (servers_said lines) server × AreReturned g lines (servers_said lines) before after (λ n taken given. ((n ≡ server → ⊥) → IsLeftBy g lines last n taken given) × (n ≡ server → P taken given))

-- Memory was wanting when all servers were started: for a step or for what comes between two of them; or for a server that was to start again; or for
-- the report, when all was played. No device failed of a server that no entry stopped.
abbrev pub AreLeftWanting : {D : Type 0} → Ghosts D → List NumberedLine → (before after : ℕ → Option D) → Type 0
AreLeftWanting g lines before after =
    ((last : Course) × IsCutShort lines run_fault.OutOfMemory last × AreLeftAll g lines last before after)
    ⊎ ((last : Course) × (server : ℕ) × IsCutShort lines (run_fault.Start server (Vault vault_fault.OutOfMemory)) last × AreLeftBut g lines last server before after (HasUsedUp g lines last server))
    ⊎ ((last : Course) × IsPlayedToEnd lines last × AreLeftAll g lines last before after)

-- The disk of this server failed when all were started: in a step; or as the server was to start again; or as it was read for the report, when all was
-- played.
abbrev pub AreLeftFailing : {D : Type 0} → Ghosts D → List NumberedLine → (server : ℕ) → (before after : ℕ → Option D) → Type 0
AreLeftFailing g lines server before after =
    ((last : Course) × (short : IsCutShort lines (run_fault.DiskFault server) last) × AreLeftBut g lines last server before after (HasFailedOn g lines last short.due server))
    ⊎ ((last : Course) × IsCutShort lines (run_fault.Start server (Vault vault_fault.Failed)) last × AreLeftBut g lines last server before after (HasFailedAgain g lines last server))
    ⊎ ((last : Course) × IsPlayedToEnd lines last
    × AreLeftBut g lines last server before after (λ taken given. IsLeftWith g lines server (seat_at last server).opening (seat_at last server).journal taken given × Rose (g.faults taken) (g.faults given)))

-- why a disk is none to start on, of those that name it
abbrev pub IsNoVolume : {D : Type 0} → Ghosts D → List NumberedLine → (server : ℕ) → List ℕ → D → D → Type 0
IsNoVolume g lines server found taken given = IsLeftAlone g (sizes_said lines server) taken given × WhyNotStarted server (servers_said lines) (g.size taken) (g.seen taken) (vault_fault.NotAVolume found)

abbrev pub IsDamaged : {D : Type 0} → Ghosts D → List NumberedLine → (server place : ℕ) → D → D → Type 0
IsDamaged g lines server place taken given =
    (IsLeftAlone g (sizes_said lines server) taken given × WhyNotStarted server (servers_said lines) (g.size taken) (g.seen taken) (vault_fault.Damaged place))
    ⊎ ((place ≡ 0) × HoldsApart g (sizes_said lines server) server (servers_said lines) taken given)

abbrev pub IsAtItsEnd : {D : Type 0} → Ghosts D → List NumberedLine → (server : ℕ) → D → D → Type 0
IsAtItsEnd g lines server taken given = IsLeftAlone g (sizes_said lines server) taken given × HasNoEpoch server (servers_said lines) (g.size taken) (g.seen taken)

-- Why a run ended before its report, and how the bay stands then. The bay failed: the servers before did nothing, and no further disk was taken.
-- A disk is none to start on, or its server has no epoch left: the servers before did nothing, and it holds what it held. Where a disk failed, or
-- memory was wanting, one of some cases stands, and no clause says which. The servers before did nothing, and no further disk was taken, where
-- memory was wanting; or they did nothing, and of the last disk that was taken it is said what a start that did not come to its end left; or the lines
-- were played up to there. A full journal, and an epoch that is the last one of a server in the run, come when all were started. Of a run that was
-- begun each disk comes back as its server's journal says. A server that starts again in the run finds its own notes good, in whatever it was stopped.
abbrev pub HasRunCause : {D : Type 0} → Ghosts D → List NumberedLine → (before after : ℕ → Option D) → (bay_before bay_after : ℕ) → NoReport → Type 0
HasRunCause g lines before after bay_before bay_after fault.Bay = (count : ℕ) × (count < servers_said lines) × AreReturned g lines count before after (IsUnplayed g lines) × Rose bay_before bay_after
HasRunCause g lines before after bay_before bay_after fault.OutOfMemory =
    ((count : ℕ) × (count < servers_said lines) × AreReturned g lines count before after (IsUnplayed g lines))
    ⊎ ((server : ℕ) × StopsAt g lines server before after (IsWanting g (sizes_said lines server) server (servers_said lines)))
    ⊎ AreLeftWanting g lines before after
HasRunCause g lines before after bay_before bay_after fault.JournalFull =
    (last : Course) × IsCutShort lines run_fault.JournalFull last × (server : ℕ) × IsOneOf (servers_said lines) server
    × AreReturned g lines (servers_said lines) before after (λ n taken given. IsLeftBy g lines last n taken given × (n ≡ server → HasFilled g lines last n taken given))
HasRunCause g lines before after bay_before bay_after (fault.Disk server) =
    StopsAt g lines server before after (IsFailing g (sizes_said lines server) server (servers_said lines)) ⊎ AreLeftFailing g lines server before after
HasRunCause g lines before after bay_before bay_after (fault.EpochEnd server) =
    StopsAt g lines server before after (IsAtItsEnd g lines server)
    ⊎ ((last : Course) × IsCutShort lines (run_fault.Start server EpochEnd) last × AreLeftBut g lines last server before after (HasUsedUp g lines last server))
HasRunCause g lines before after bay_before bay_after (fault.NotAVolume server found) = StopsAt g lines server before after (IsNoVolume g lines server found)
HasRunCause g lines before after bay_before bay_after (fault.Damaged server place) =
    StopsAt g lines server before after (IsDamaged g lines server place)

-- ---- which disks a run starts on

-- it is new, or holds a volume of the server that has a further epoch, and whose notes go together where the run has several servers
pub record IsStartable (sizes : Sizes) (server servers n : ℕ) (image : Image) : Type 0 where
  pub volume : (found : List ℕ) → WhyNotStarted server servers n image (vault_fault.NotAVolume found) → IsNew sizes n image
  pub whole : (place : ℕ) → WhyNotStarted server servers n image (vault_fault.Damaged place) → IsNew sizes n image
  pub epoch : HasNoEpoch server servers n image → IsNew sizes n image
  pub notes : (a : Anchor) (held : Contents) → (servers ≡ 1 → ⊥) → Counts n image a → Holds server servers n a.sizes.home image held → AreOfServer server servers held
      → IsNew sizes n image ⊎ AreTogether server servers (epoch_after held) a.sizes held.cells held.notes

-- the device that was at the place of a server, or a new one, is such a disk, and did not fail
pub record StartsAt {D : Type 0} (g : Ghosts D) (lines : List NumberedLine) (before after : ℕ → Option D) (server : ℕ) : Type 0 where
  pub startable : (d : D) → before server ≡ Some d → IsStartable (sizes_said lines server) server (servers_said lines) (g.size d) (g.seen d)
  pub unfailed : (d e : D) → IsTaken g (before server) (pages_of (sizes_said lines server)) d → after server ≡ Some e → Rose (g.faults d) (g.faults e) → ⊥

-- at the place of each
abbrev pub StartsOn : {D : Type 0} → Ghosts D → List NumberedLine → (before after : ℕ → Option D) → Type 0
StartsOn g lines before after = (n : ℕ) → IsOneOf (servers_said lines) n → StartsAt g lines before after n

-- ---- what is told of any bay

-- the bay's count of faults rose where a fault of it is told, and stayed in every other case
abbrev pub IsBayFault : NoReport → ℕ → ℕ → Type 0
IsBayFault fault.Bay before now = Rose before now
IsBayFault f before now = now ≡ before

abbrev pub IsBayTold : {T : Type 0} → Result T NoReport → ℕ → ℕ → Type 0
IsBayTold (Ok x) before now = now ≡ before
IsBayTold (Err f) before now = IsBayFault f before now

-- which folder the bay is left with: where a disk was taken, the one that is named, and else that or the one before
abbrev pub IsFolderLeft : NoReport → (before now named : Option (List ℕ)) → Type 0
IsFolderLeft fault.Bay before now named = (now ≡ named) ⊎ (now ≡ before)
IsFolderLeft fault.OutOfMemory before now named = (now ≡ named) ⊎ (now ≡ before)
IsFolderLeft f before now named = now ≡ named

abbrev pub IsFolderChosen : {T : Type 0} → Result T NoReport → (before now named : Option (List ℕ)) → Type 0
IsFolderChosen (Ok x) before now named = now ≡ named
IsFolderChosen (Err f) before now named = IsFolderLeft f before now named

-- A disk that is told of is that of one of so many servers; where it failed, its count of faults rose.
abbrev pub IsOfServers : {D : Type 0} → Ghosts D → (servers : ℕ) → NoReport → Type 0
IsOfServers {D} g servers (fault.Disk server) = IsOneOf servers server × (taken : D) × (given : D) × Rose (g.faults taken) (g.faults given)
IsOfServers g servers (fault.NotAVolume server found) = IsOneOf servers server
IsOfServers g servers (fault.Damaged server place) = IsOneOf servers server
IsOfServers g servers f = Unit {0}
