-- How a run came to a limit, whatever its bay tells.
use Rattle.std.specs.Prelude.{◌≡◌, ◌⊎◌, List, length}
use Rattle.alp_cluster.specs.Fills.{IsEndFor}
use Rattle.alp_cluster.specs.Runs.{StopsInLine, StopsBehindLines}
use Rattle.alp_cluster.specs.declared.fault.RunFault.{RunFault}
use Rattle.alp_cluster.specs.declared.fault.RunFault.TheVariants as run_fault
use Rattle.alp_course.specs.Courses.{Course, Occurrence, IsOneOf, AreCourse}
use Rattle.alp_course.specs.Links.{IsFirst}
use Rattle.alp_course.specs.Plays.{Due, sent_of}
use Rattle.alp_course.specs.Turns.{Turn, sent_in}
use Rattle.alp_script.specs.Accepted.{servers_said}
use Rattle.alp_script.specs.declared.numbered.NumberedLine.{NumberedLine}
use Rattle.alp_top.specs.declared.fault.NoReport.{NoReport}
use Rattle.alp_top.specs.declared.fault.NoReport.TheVariants as fault

-- The run of these lines ended for that fault: a line had more to send or to bring about, or the settling behind the lines had (`stopped`), and for
-- that there was no way (`ends`). The journals are those of what occurred by then. Of their entries nothing else is said, so each script has such
-- a run that comes to a full journal.
pub record IsEndedFor (lines : List NumberedLine) (f : RunFault) : Type 0 where
  pub first : Course
  pub begins : IsFirst first
  pub last : Course
  pub count : length last.seats ≡ servers_said lines
  pub turns : List Turn
  pub happened : List Occurrence
  pub due : Due
  pub course : AreCourse first happened last
  pub sent : sent_of happened ≡ sent_in turns
  pub stopped : StopsInLine (servers_said lines) lines turns happened due ⊎ StopsBehindLines (servers_said lines) lines turns happened due
  pub ends : IsEndFor f last due

-- There is a run of the lines that a full journal ends; the last epoch is that of a server that they declare.
abbrev pub IsEndTold : List NumberedLine → NoReport → Type 0
IsEndTold lines fault.JournalFull = IsEndedFor lines run_fault.JournalFull
IsEndTold lines (fault.EpochEnd server) = IsOneOf (servers_said lines) server
IsEndTold lines f = Unit {0}
