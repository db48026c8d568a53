-- What makes a worker stop whose lines are a client's own and name servers of the storm alone.
use Rattle.std.specs.Prelude.{◌≡◌, ℕ, true, List, length, Some}
use Rattle.std.specs.List.{AllByRecursion}
use Rattle.alp_jobs.specs.Lines.{has_lines, is_asking, IsJobOf, TellsOf}
use Rattle.alp_jobs.specs.States.{JobState}
use Rattle.alp_monitor.specs.declared.monitor.Monitor.{Monitor}
use Rattle.alp_monitor.specs.declared.monitor.Pass.{Pass}
use Rattle.alp_storm.specs.Logs.{Log}
use Rattle.alp_storm.specs.Works.{IsBack}
use Rattle.alp_storm.specs.declared.fault.StormFault.{StormFault}
use Rattle.alp_storm.specs.declared.fault.StormFault.TheVariants as fault

-- a device, a full journal, or memory
abbrev pub IsOfServers : StormFault → Type 0
IsOfServers (fault.DiskFault server) = Unit {0}
IsOfServers (fault.JournalFull server) = Unit {0}
IsOfServers fault.OutOfMemory = Unit {0}
IsOfServers (fault.NoServer server) = ⊥
IsOfServers fault.BadFrame = ⊥

module _ {S B E : Type 0} (base_of : S → B) (log : Log B E) where
  -- Each line asks something anew, its lines and all that its clients know name servers of the storm, and so does what it was told. Then no
  -- frame of it spells no request, and no number is out of range.
  abbrev pub StopForServers : Type 0
  StopForServers = (ms : List (Monitor S B E)) (k : ℕ) (f : StormFault) (job now : JobState) (ring ring_now : List (Pass S B E)) → IsBack base_of log ms k (Some f) job ring now ring_now
      → has_lines is_asking job ≡ true → IsJobOf (length ms) job → AllByRecursion (TellsOf (length ms)) now.items → IsOfServers f
