-- What holds of a run on any bay and any vaults, also on some that do not tell what they hold.
use Rattle.std.specs.Prelude.{◌≡◌, ◌⊎◌, ◌-◌, ℕ, List, ◌++◌, length, take, Option, Bool}
use Rattle.std.specs.Io.KnownBytes.{Appends}
use Rattle.alp_base.specs.Causes.{Rose}
use Rattle.alp_cluster.specs.declared.fault.RunFault.{RunFault}
use Rattle.alp_cluster.specs.declared.fault.RunFault.TheVariants as run_fault
use Rattle.alp_disk.specs.declared.disk.Disk.{Ghosts as DiskGhosts}
use Rattle.alp_journal.specs.Answered.{entries_limit}
use Rattle.alp_course.specs.Courses.{Seat, IsOneOf}
use Rattle.alp_report.specs.Sections.{printed}
use Rattle.alp_report.specs.declared.summary.Held.{Held}
use Rattle.alp_report.specs.declared.summary.Summary.{Summary}
use Rattle.alp_script.specs.Accepted.{servers_said}
use Rattle.alp_script.specs.declared.numbered.NumberedLine.{NumberedLine}
use Rattle.alp_script.specs.declared.numbered.TheConstants.{SCRIPT_LINES_MOST}
use Rattle.alp_vault.specs.declared.vault.Vault.{Ghosts}
use Rattle.alp_words.specs.Words.{IsNamedBy}
use Rattle.alp_words.specs.declared.command.Command.{Command}
use Rattle.alp_top.specs.Commands.{AreToPlay, shows_lines, shown_as}
use Rattle.alp_top.specs.Limits.{IsEndedFor}
use Rattle.alp_top.specs.Headline.{IsOfScript}
use Rattle.alp_top.specs.Logs.{Log}
use Rattle.alp_top.specs.Pairs.{AreMatched}
use Rattle.alp_top.specs.Reports.{shown_lines}
use Rattle.alp_top.specs.Statuses.{Kept, OnDone, OnWriteFault, OnTooLong, OnBadDisk, OnDiskFault, OnBayFault}
use Rattle.alp_top.specs.Tallies.{begun_in, committed_in}
use Rattle.alp_top.specs.declared.status.Status.{Status}

-- what is printed of a server is of the epoch that it came to
pub record IsPrintedOf (s : Seat) (d : Held) : Type 0 where
  pub number : d.server ≡ s.opening.server
  pub epoch : d.epoch ≡ s.stand.epoch

-- These lines were played on the servers that they declare, and left this log. The text is a line for each line of a client, where these are shown,
-- by what its items say, and behind them a summary of the servers, each in the epoch that it came to, with what their journals count: how many
-- transactions were committed, and how many of those that began were not.
pub record IsPlayedThrough {V : Type 0} (G : Ghosts V) (shows : Bool) (lines : List NumberedLine) (log : Log V) (text : List ℕ) : Type 0 where
  pub count : length log.servers.items ≡ servers_said lines
  pub script : IsOfScript G lines log
  pub summary : Summary
  pub helds : AreMatched IsPrintedOf script.last.seats summary.servers.now
  pub committed : summary.committed ≡ committed_in log.servers.items
  pub aborted : summary.aborted ≡ begun_in log.servers.items - committed_in log.servers.items
  pub report : text ≡ shown_lines (shown_as shows) G lines log ++ printed summary

-- the command's lines were played through, and this was written of the text
pub record HasReported {V : Type 0} (G : Ghosts V) (words : List (List ℕ)) (old new : Option (List ℕ)) (Written : List ℕ → Type 0) (log : Log V) : Type 0 where
  pub command : Command
  pub named : IsNamedBy words command
  pub lines : List NumberedLine
  pub script : AreToPlay command old new lines
  pub text : List ℕ
  pub through : IsPlayedThrough G (shows_lines command) lines log text
  pub output : Written text

-- the command's lines declare this server
pub record IsDeclared (words : List (List ℕ)) (old new : Option (List ℕ)) (server : ℕ) : Type 0 where
  pub command : Command
  pub named : IsNamedBy words command
  pub lines : List NumberedLine
  pub script : AreToPlay command old new lines
  pub is : IsOneOf (servers_said lines) server

-- there are lines that the command plays
pub record HasPlay (words : List (List ℕ)) (old new : Option (List ℕ)) : Type 0 where
  pub command : Command
  pub named : IsNamedBy words command
  pub lines : List NumberedLine
  pub script : AreToPlay command old new lines

-- there is a run of such lines that ends for that fault
pub record IsEndedIn (words : List (List ℕ)) (old new : Option (List ℕ)) (f : RunFault) : Type 0 where
  pub play : HasPlay words old new
  pub ended : IsEndedFor play.lines f

-- The limit of the lines of a script; or that of the entries of a journal, with a run of the command's lines that comes to it, by whatever
-- entries; or the last epoch, of a server that they declare.
abbrev pub IsLimitOf : (words : List (List ℕ)) → (old new : Option (List ℕ)) → ℕ → Type 0
IsLimitOf words old new limit =
    (limit ≡ SCRIPT_LINES_MOST) ⊎ ((limit ≡ entries_limit) × IsEndedIn words old new run_fault.JournalFull) ⊎ ((limit ≡ 4294967295) × (server : ℕ) × IsDeclared words old new server)

-- What a status tells of any bay: with `Done` the script was played through and the text is written, with `WriteFault` a prefix of
-- it; a limit is one of three, a disk that is none to start on is that of a server that the script declares, and so is one that is told
-- to have failed, with two states of a device between which a count of faults rose. The bay fails only where there are lines to play.
pub record IsToldAnywhere {D : Type 0} {g : DiskGhosts D} (G : Ghosts (Kept D g)) (words : List (List ℕ)) (old new written_before written : Option (List ℕ)) (s : Status D g) : Type 0 where
  pub played : OnDone s (HasReported G words old new (λ text. Appends written_before written text))
  pub cut_off : OnWriteFault s (HasReported G words old new (λ text. (count : ℕ) × Appends written_before written (take count text)))
  pub limits : OnTooLong s (IsLimitOf words old new)
  pub server : OnBadDisk s (IsDeclared words old new)
  pub counted : OnDiskFault s (λ server. IsDeclared words old new server × (taken : D) × (given : D) × Rose (g.faults taken) (g.faults given))
  pub bay : OnBayFault s (HasPlay words old new)
