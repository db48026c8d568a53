-- On which disks the servers of a run start together.
use Rattle.std.specs.Prelude.{◌≡◌, ℕ, ◌+◌, List, [], ◌∷◌, length, Option}
use Rattle.std.specs.List.{AllByRecursion}
use Rattle.alp_base.specs.Notes.{Notes}
use Rattle.alp_bay.specs.Bays.{IsTaken}
use Rattle.alp_course.specs.Resting.{AreSpelled}
use Rattle.alp_disk.specs.declared.disk.Disk.{Ghosts}
use Rattle.alp_history.specs.Log as logs
use Rattle.alp_journal.specs.Opening.{Start, start_at}
use Rattle.alp_node.specs.Nodes.{IsSoundStart}
use Rattle.alp_script.specs.Accepted.{servers_said}
use Rattle.alp_script.specs.Volumes.{sizes_said}
use Rattle.alp_script.specs.declared.numbered.NumberedLine.{NumberedLine}
use Rattle.alp_store.specs.Starts.{IsNew}
use Rattle.alp_top.specs.Volumes.{pages_of, IsOpenedNew, IsOpenedOn}

-- ---- what servers open on

-- What the servers of a log opened on is sound, and the ids that their notes name are such that a server draws.
pub record BeginsSound (log : logs.Log) : Type 0 where
  pub sound : logs.AreSoundOpenings log
  pub spelled : AllByRecursion (λ (x : logs.ServerLog). AreSpelled x.opening) log.servers

-- ---- the disks

-- A server of this number, which is started for these lines on the disk that stands at its place, or on a new one where none does, opens
-- so: on nothing, or on what the disk's reading says, in its next epoch. What its notes say of its own files is sound.
pub record OpensOn {D : Type 0} (g : Ghosts D) (lines : List NumberedLine) (server : ℕ) (was : Option D) (o : Start) : Type 0 where
  pub disk : D
  pub from_there : IsTaken g was (pages_of (sizes_said lines server)) disk
  pub notes : Notes
  pub started : o ≡ start_at server (servers_said lines) o.sizes o.cells notes
  pub new : IsNew (sizes_said lines server) (g.size disk) (g.seen disk) → IsOpenedNew (sizes_said lines server) o notes
  pub found : (IsNew (sizes_said lines server) (g.size disk) (g.seen disk) → ⊥) → IsOpenedOn server (servers_said lines) (g.size disk) (g.seen disk) o notes
  pub sound : IsSoundStart o

-- so do all servers of a log, with the numbers from this one on
abbrev pub OpenOn : {D : Type 0} → Ghosts D → List NumberedLine → (disks : ℕ → Option D) → ℕ → List logs.ServerLog → Type 0
OpenOn g lines disks n [] = Unit {0}
OpenOn g lines disks n (x ∷ xs) = OpensOn g lines n (disks n) x.opening × OpenOn g lines disks (n + 1) xs

-- The disks at the places of the servers that the lines declare go together: whatever the servers of a run open on there is sound, with all of
-- them. That asks nothing of what they do then.
abbrev pub GoTogether : {D : Type 0} → Ghosts D → List NumberedLine → (disks : ℕ → Option D) → Type 0
GoTogether g lines disks = (log : logs.Log) → length log.servers ≡ servers_said lines → OpenOn g lines disks 1 log.servers → BeginsSound log
