-- Alpine, in a page: what holds of a run that was played to its end. A log is, for each server, what it opened on and its journal with ranks, and for
-- each client what it sent and was handed.
use Rattle.std.specs.Prelude.{◌≡◌, ◌-◌, true, false, ℕ, List, [], length, map as list_map, slice_get, Option, Some}
use Rattle.std.specs.List.{list_any, AllByRecursion}
use Rattle.std.specs.FinMap as map
use Rattle.alp_base.specs.Crashes.{Only}
use Rattle.alp_base.specs.declared.faults.Sizes.{Sizes}
use Rattle.alp_base.specs.declared.ids.JoinNo.{JoinNo}
use Rattle.alp_base.specs.declared.ids.Stamp.{Stamp}
use Rattle.alp_disk.specs.declared.disk.Disk.{Ghosts as DiskGhosts}
use Rattle.alp_fields.specs.ClockNote.{clock_name, clock_form}
use Rattle.alp_files.specs.Act.{no_opens}
use Rattle.alp_files.specs.Cells.{Cells}
use Rattle.alp_files.specs.Sound.{AreSound}
use Rattle.alp_history.specs.Committed.{committed, Serial, Charged}
use Rattle.alp_history.specs.Handed.{ArePromisesKept}
use Rattle.alp_history.specs.Log as logs
use Rattle.alp_history.specs.Theorems.{AppliedThere}
use Rattle.alp_journal.specs.declared.entry.Entry.{Entry}
use Rattle.alp_journal.specs.Answered.{is_read_fault, is_fault_act}
use Rattle.alp_journal.specs.Ids.{has_join}
use Rattle.alp_script.specs.Accepted.{servers_said}
use Rattle.alp_script.specs.Volumes.{sizes_said}
use Rattle.alp_script.specs.declared.numbered.NumberedLine.{NumberedLine}
use Rattle.alp_store.specs.Holding.{Holds}
use Rattle.alp_store.specs.Starts.{IsNew}
use Rattle.alp_vault.specs.Contents.{Contents}
use Rattle.alp_vault.specs.declared.vault.Vault.{Ghosts}
use Rattle.alp_words.specs.Words.{IsNamedBy}
use Rattle.alp_words.specs.declared.command.Command.{Command}
use Rattle.alp_course.specs.Courses.{Course, Occurrence, IsOneOf, TellAll, AreCourse}
use Rattle.alp_course.specs.Links.{IsFirst, AreNumbered, server_log}
use Rattle.alp_course.specs.Plays.{ArePlayed}
use Rattle.alp_course.specs.Settles.{AreUp, AreTaken}
use Rattle.alp_course.specs.Turns.{turns_of, own_in}
use Rattle.alp_top.specs.Commands.{AreToPlay, HasLines, shows_lines, shown_as}
use Rattle.alp_top.specs.Logs.{Log, ServerOfLog, openings, start_of, log_of, lists_of}
use Rattle.alp_top.specs.Reports.{Shown, end_of, tallied_for}
use Rattle.alp_top.specs.Together.{BeginsSound}
use Rattle.alp_top.specs.Volumes.{AreReturned, HasRunCause, StartsOn, empty_contents}
use Rattle.alp_top.specs.declared.fault.NoReport.{NoReport}

-- ---- what was played

-- The lines of a script, and whether its report has a line for each line of a client.
pub data Play : Type 0 where
  Lines : Shown → List NumberedLine → Play

abbrev pub lines_of : Play → List NumberedLine
lines_of (Lines shown lines) = lines

-- The calls are the script's, the replies are those given, and nothing else occurred: what the lines say, messages, timeouts of clients
-- whose patience was at an end, each in its place, and the settling behind the last line. The journals are just those of all this: each
-- entry is of what occurred, and the messages that arrived were sent. Each server is up in the end. What a settling finds is said where
-- the vaults tell.
pub record IsOfScript {V : Type 0} (G : Ghosts V) (lines : List NumberedLine) (log : Log V) : Type 0 where
  pub occurred : List Occurrence
  pub played : ArePlayed (length log.servers.items) lines (turns_of lines (lists_of G log)) occurred
  -- the clients sent nothing else
  pub all : (k : ℕ) → lists_of G log k ≡ own_in k (turns_of lines (lists_of G log))
  -- there is a list for each number of a client, and one that is empty at 0
  pub many : length log.clients.items ≡ 17
  pub first : Course
  pub begins : IsFirst first
  pub last : Course
  pub course : AreCourse first occurred last
  -- the servers have their numbers in order
  pub numbered : AreNumbered 1 last.seats
  pub servers : list_map server_log last.seats ≡ (log_of G log).servers
  pub up : AreUp last
  -- no message of one server to another is left
  pub taken : AreTaken last

-- it is a log of that play, and its vaults tell
abbrev pub IsLogOf : {V : Type 0} → Ghosts V → Play → Log V → Type 0
IsLogOf G (Lines shown lines) log = (script : IsOfScript G lines log) × TellAll script.last

-- and its report
abbrev pub report_of : {V : Type 0} → Ghosts V → Play → Log V → List ℕ
report_of G (Lines shown lines) log = tallied_for shown G lines log

-- ---- the eight points

-- no device failed in it: the reply is no 19, no write failed, and no vote says that a read did
abbrev pub IsFaultless : Entry → Type 0
IsFaultless e = (is_read_fault e.reply ≡ false) × (list_any is_fault_act e.acts ≡ false)

-- the calls and the replies are those of the play, nothing else occurred, and no device failed
pub record IsFaithful {V : Type 0} (G : Ghosts V) (play : Play) (log : Log V) : Type 0 where
  pub count : length log.servers.items ≡ servers_said (lines_of play)
  pub played : IsLogOf G play log
  pub unfailed : (n : ℕ) → AllByRecursion IsFaultless (logs.journal_of (log_of G log) n)

-- Each journal keeps to the laws, by itself, and they are linked: each message that arrives was sent before.
abbrev pub IsLawfulLog : logs.Log → Type 0
IsLawfulLog log = logs.AreLawful log × logs.IsLinked log

-- a disk held this as it was taken: nothing where it was new, else what its reading says
pub record HeldBefore {D : Type 0} (g : DiskGhosts D) (sizes : Sizes) (server servers home : ℕ) (taken : D) (was : Contents) : Type 0 where
  pub new : IsNew sizes (g.size taken) (g.seen taken) → was ≡ empty_contents
  pub old : (IsNew sizes (g.size taken) (g.seen taken) → ⊥) → Holds server servers (g.size taken) home (g.seen taken) was

-- The server of this number opened on what its disk held, and the disk that is given back holds the files that its journal comes to. A crash
-- leaves no other.
pub record IsStoredBy {V D : Type 0} (G : Ghosts V) (g : DiskGhosts D) (lines : List NumberedLine) (log : Log V) (n : ℕ) (taken given : D) : Type 0 where
  pub server : ServerOfLog V
  pub there : slice_get log.servers.items (n - 1) ≡ Some server
  pub number : server.server ≡ n
  pub was : Contents
  pub before : HeldBefore g (sizes_said lines n) n (servers_said lines) (start_of G (servers_said lines) server).sizes.home taken was
  pub opened : (start_of G (servers_said lines) server).cells ≡ was.cells
  pub noted : (openings G).notes server.opening ≡ map.insert was.notes clock_name (clock_form.spell (record { epoch = (start_of G (servers_said lines) server).epoch; clock = (start_of G (servers_said lines) server).clock }))
  pub held : Contents
  pub finish : Holds n (servers_said lines) (g.size given) (start_of G (servers_said lines) server).sizes.home (g.seen given) held
  pub cells : held.cells ≡ (end_of G (servers_said lines) server).holder.cells
  pub durable : Only (g.seen given) (g.may_leave given)

-- one thread does the transactions that committed, one after the other: each call is answered as recorded, and the files end so
abbrev pub IsSerial : logs.Log → (ℕ → Cells → Type 0) → Type 0
IsSerial log Ends = Serial log (λ n. record { files = logs.start_of log n; made = []; own = no_opens }) (committed log) Ends

-- each part of one was applied, at its stamp
abbrev pub AreEverywhere : logs.Log → Type 0
AreEverywhere log = (x : Stamp) (js : List JoinNo) (j : JoinNo) → logs.IsIn (x, js) (committed log) → has_join j js ≡ true → AppliedThere log j.server j x

-- each owner is charged the sizes of its files, from the start on and after each of them
abbrev pub AreCharged : logs.Log → Type 0
AreCharged log = ((n : ℕ) → AreSound (logs.start_of log n)) × Charged log (logs.starting_all log) (committed log)

-- ---- correct

-- What a run does that was played to its end. What the servers opened on is sound where the disks before go together (`AreFromDisks`).
pub record Correct {V D : Type 0} (G : Ghosts V) (g : DiskGhosts D) (play : Play) (Written : List ℕ → Type 0) (before after : ℕ → Option D) (log : Log V) : Type 0 where
  -- what is written is the report
  pub output : Written (report_of G play log)
  -- who sent what, and what came back
  pub faithful : IsFaithful G play log
  -- two-phase commit, strict locks
  pub lawful : IsLawfulLog (log_of G log)
  -- the disks are given back with what the servers hold in the end
  pub stored : AreReturned g (lines_of play) (servers_said (lines_of play)) before after (IsStoredBy G g (lines_of play) log)
  -- one thread does the transactions one after the other, and ends in the files of the disks
  pub serial : BeginsSound (log_of G log) → IsSerial (log_of G log) (λ n m. (here : IsOneOf (servers_said (lines_of play)) n) → (stored.each n here).left.held.cells ≡ m)
  -- all parts of each of them were applied
  pub whole : BeginsSound (log_of G log) → AreEverywhere (log_of G log)
  -- what a client is told of a commit is so, and its next transaction comes behind that
  pub kept : BeginsSound (log_of G log) → ArePromisesKept (log_of G log)
  -- each owner pays for its pages
  pub charged : BeginsSound (log_of G log) → AreCharged (log_of G log)

-- ---- a command

-- these lines are to be played, and that holds of them
pub record OfPlay (words : List (List ℕ)) (old new : Option (List ℕ)) (P : Play → Type 0) : Type 0 where
  pub command : Command
  pub named : IsNamedBy words command
  pub lines : List NumberedLine
  pub script : AreToPlay command old new lines
  pub holds : P (Lines (shown_as (shows_lines command)) lines)

-- they were played, and this was written of the report
abbrev pub IsPlayed : {V D : Type 0} → Ghosts V → DiskGhosts D → (words : List (List ℕ)) → (old new : Option (List ℕ)) → (before after : ℕ → Option D) → (Written : List ℕ → Type 0) → Log V → Type 0
IsPlayed G g words old new before after Written log = OfPlay words old new (λ play. Correct G g play Written before after log)

-- It ended before its report: lines of a command were to be played, and the bay or a disk was the cause.
pub record HasCause {D : Type 0} (g : DiskGhosts D) (words : List (List ℕ)) (old new : Option (List ℕ)) (before after : ℕ → Option D) (bay_before bay_after : ℕ) (f : NoReport) : Type 0 where
  pub command : Command
  pub named : IsNamedBy words command
  pub lines : List NumberedLine
  pub script : AreToPlay command old new lines
  pub cause : HasRunCause g lines before after bay_before bay_after f

-- what holds of all lines that a command with these words plays
abbrev pub OfAllToPlay : (words : List (List ℕ)) → (old new : Option (List ℕ)) → (List NumberedLine → Type 0) → Type 0
OfAllToPlay words old new P = (command : Command) → IsNamedBy words command → (lines : List NumberedLine) → AreToPlay command old new lines → P lines

-- the disks are some that a run of the lines starts on, and none failed
abbrev pub StartsHere : {D : Type 0} → DiskGhosts D → (words : List (List ℕ)) → (old new : Option (List ℕ)) → (before after : ℕ → Option D) → Type 0
StartsHere g words old new before after = OfAllToPlay words old new (λ lines. StartsOn g lines before after)

-- there are lines to play, as far as the source says
abbrev pub HasLinesFor : (words : List (List ℕ)) → Option (List ℕ) → Type 0
HasLinesFor words has = (command : Command) → IsNamedBy words command → HasLines command has
