-- What holds besides of a run that was played to its end: the causes of its replies, the order of its transactions, and its disks to the last note.
use Rattle.std.specs.Prelude.{◌≡◌, ◌-◌, Bool, ℕ, List, slice_get, Option, Some}
use Rattle.alp_disk.specs.declared.disk.Disk.{Ghosts as DiskGhosts}
use Rattle.alp_fields.specs.ClockNote.{AreClockNotes}
use Rattle.alp_history.specs.Committed.{committed}
use Rattle.alp_history.specs.Handed.{ArePromisesKept}
use Rattle.alp_history.specs.Numbers.{AreByNumbers}
use Rattle.alp_history.specs.Log as logs
use Rattle.alp_history.specs.Theorems.{IsOneThread, AreWhole, AreListed, AreShared, DoAgreeOnEnds, GoesByLocks, GoesByTurns, GoesByBegins, IsSettled, EndsInCells}
use Rattle.alp_journal.specs.Along.{Along}
use Rattle.alp_journal.specs.Moves.{next}
use Rattle.alp_journal.specs.State.{opened}
use Rattle.alp_script.specs.Accepted.{servers_said}
use Rattle.alp_script.specs.Volumes.{sizes_said}
use Rattle.alp_script.specs.declared.numbered.NumberedLine.{NumberedLine}
use Rattle.alp_vault.specs.declared.vault.Vault.{Ghosts}
use Rattle.alp_course.specs.Courses.{IsOneOf}
use Rattle.alp_cluster.specs.Servers.{IsDone}
use Rattle.alp_top.specs.Commands.{shown_as}
use Rattle.alp_top.specs.Headline.{Play, Lines, lines_of, Correct, OfPlay}
use Rattle.alp_top.specs.Logs.{Log, ServerOfLog, openings, start_of, log_of}
use Rattle.alp_top.specs.Reports.{Shown, end_of, report_for, tallied_for}
use Rattle.alp_top.specs.Together.{BeginsSound, GoTogether}
use Rattle.alp_top.specs.Volumes.{HasNoPart, IsUnstopped, IsStored, AreReturned, HasNoEpoch, IsStartable}

-- ---- causes

-- each reply has its cause, and comes just where that stands, with what comes about by it; no device failed
abbrev pub AreCaused : logs.Log → Type 0
AreCaused log = (n : ℕ) → Along next IsDone (opened (logs.opening_of log n)) (logs.journal_of log n)

-- ---- the disks of a run

-- What the disk of this server holds is what its journal says. It did not fail, where no line stops a disk, or, whatever the lines are, no entry of
-- the journal stopped the server. Where what the servers opened on is sound, it holds the files that the history of the decided transactions ends in, and no note but that of the epoch and the clock: no
-- part is ready there, and no decision stands.
pub record IsStoredWhole {V D : Type 0} (G : Ghosts V) (g : DiskGhosts D) (lines : List NumberedLine) (log : Log V) (n : ℕ) (taken given : D) : Type 0 where
  pub server : ServerOfLog V
  pub there : slice_get log.servers.items (n - 1) ≡ Some server
  pub number : server.server ≡ n
  pub stored : IsStored g (IsUnstopped lines server.journal) n (servers_said lines) (sizes_said lines n) (start_of G (servers_said lines) server) ((openings G).notes server.opening) (end_of G (servers_said lines) server) taken given
  pub ends : BeginsSound (log_of G log) → stored.held.cells ≡ logs.finish_of (log_of G log) n
  pub noted : BeginsSound (log_of G log) → AreClockNotes stored.held.notes

-- Which disks meet what a run asks of the openings: those that go together. Where there is one server its disk does by itself, and so do new
-- disks and such that have no part and no decision. The disks that are given back go together once more, for each script of as many servers, and
-- its servers start on them, but one that has come to the last epoch.
pub record AreFromDisks {V D : Type 0} (G : Ghosts V) (g : DiskGhosts D) (lines : List NumberedLine) (log : Log V) (before after : ℕ → Option D) : Type 0 where
  pub begins : GoTogether g lines before → BeginsSound (log_of G log)
  pub alone : servers_said lines ≡ 1 → GoTogether g lines before
  pub fresh : ((n : ℕ) → IsOneOf (servers_said lines) n → HasNoPart g lines n (before n)) → GoTogether g lines before
  pub again : BeginsSound (log_of G log) → (later : List NumberedLine) → servers_said later ≡ servers_said lines → GoTogether g later after
  pub starts : BeginsSound (log_of G log) → (later : List NumberedLine) → servers_said later ≡ servers_said lines → (n : ℕ) → IsOneOf (servers_said lines) n → (d : D) → after n ≡ Some d
      → (HasNoEpoch n (servers_said lines) (g.size d) (g.seen d) → ⊥) → IsStartable (sizes_said later n) n (servers_said later) (g.size d) (g.seen d)

-- ---- the decided transactions

-- The decided transactions are just those that an entry decided with effect, at the server that began each, and that the servers committed with
-- all of its parts: no part of one is aborted, and none is applied of another one.
pub record AreDecidedWhole (log : logs.Log) : Type 0 where
  pub whole : AreWhole log
  pub listed : AreListed log
  pub agree : DoAgreeOnEnds log

-- Of two decided transactions that lock a place in modes which disagree, one after the other, the earlier one has the smaller stamp; so has the one
-- whose mode ends first. Each has a stamp above what its client had seen as it began. Where the thread comes to a transaction, the files hold at each place
-- what the latest one before it that changed the place left there.
pub record AreInOrder (log : logs.Log) : Type 0 where
  pub locks : GoesByLocks log
  pub turns : GoesByTurns log
  pub begins : GoesByBegins log
  pub latest : logs.AreLatest log (logs.starting_all log) (logs.decided log)

-- All that holds of the decided transactions: they are one thread's history, with charges, and each is whole; their order is that of their locks;
-- what clients were told of them is kept; and the counts of the report are theirs.
pub record IsHistory {V : Type 0} (G : Ghosts V) (lines : List NumberedLine) (log : Log V) : Type 0 where
  pub thread : IsOneThread (log_of G log)
  pub whole : AreDecidedWhole (log_of G log)
  pub order : AreInOrder (log_of G log)
  -- each has one share at each of its servers, whose calls are just those that the server's entries performed for it
  pub shared : AreShared (log_of G log)
  -- they are those that acts decide with effect, and the numbers of calls tell what was performed for each
  pub acts : committed (log_of G log) ≡ logs.decided (log_of G log)
  pub numbers : AreByNumbers (log_of G log)
  -- Each stamp that a client was told is of a decided transaction, but in replies that were kept for a number which a raw line sent first, and a
  -- decided transaction has a stamp above all that its client was told before it began.
  pub kept : ArePromisesKept (log_of G log)
  -- the report with the numbers that the entries of the servers count is the one with those of the decided transactions
  pub counted : (shown : Shown) → tallied_for shown G lines log ≡ report_for shown G lines log

-- Behind it all no part lives at any server, none is ready, and no decision stands. So the history ends in the cells that the servers hold, and
-- each part of a decided transaction was applied, at its stamp.
pub record AreAtRest (log : logs.Log) : Type 0 where
  pub settled : (n : ℕ) → IsSettled (logs.final log n)
  pub ends : EndsInCells log

-- ---- the laws of a run

-- What holds besides of a run of these lines. The decided transactions are spoken of on sound openings, and the end where their notes name such
-- ids as a server draws.
pub record HasLaws {V D : Type 0} (G : Ghosts V) (g : DiskGhosts D) (lines : List NumberedLine) (before after : ℕ → Option D) (log : Log V) : Type 0 where
  pub caused : AreCaused (log_of G log)
  pub disks : AreReturned g lines (servers_said lines) before after (IsStoredWhole G g lines log)
  pub history : logs.AreSoundOpenings (log_of G log) → IsHistory G lines log
  pub rest : BeginsSound (log_of G log) → AreAtRest (log_of G log)
  pub from_disks : AreFromDisks G g lines log before after

-- ---- a run

-- it is correct as the log of a play, and the laws hold besides
pub record IsRunFor {V D : Type 0} (G : Ghosts V) (g : DiskGhosts D) (play : Play) (Written : List ℕ → Type 0) (before after : ℕ → Option D) (log : Log V) : Type 0 where
  pub correct : Correct G g play Written before after log
  pub laws : HasLaws G g (lines_of play) before after log

-- The lines of a command were played: `IsPlayed` holds of them, and the laws do of the same lines.
abbrev pub HasLawsFor : {V D : Type 0} → Ghosts V → DiskGhosts D → (words : List (List ℕ)) → (old new : Option (List ℕ)) → (before after : ℕ → Option D) → (Written : List ℕ → Type 0) → Log V → Type 0
HasLawsFor G g words old new before after Written log = OfPlay words old new (λ play. IsRunFor G g play Written before after log)

-- this is the text
abbrev pub IsText : List ℕ → List ℕ → Type 0
IsText text said = text ≡ said

-- A run of these lines on the disks of a bay left the log, and the text is its report, with the lines of the clients or without. It is correct, and the
-- laws hold besides.
abbrev pub IsRunOf : {V D : Type 0} → Ghosts V → DiskGhosts D → (shows : Bool) → (lines : List NumberedLine) → Log V → (text : List ℕ) → (before after : ℕ → Option D) → Type 0
IsRunOf G g shows lines log text before after = IsRunFor G g (Lines (shown_as shows) lines) (IsText text) before after log
