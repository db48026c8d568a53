-- The run of a storm: the lines of its setup, the storm, and a settling.
use Rattle.std.specs.Prelude.{◌≡◌, ℕ, Bool, IsTrue, List, [], ◌++◌, map as list_map}
use Rattle.alp_history.specs.RunLogs.{Lists}
use Rattle.alp_jobs.specs.Deeds.{Deed}
use Rattle.alp_journal.specs.declared.message.Message.{Message}
use Rattle.alp_lines.specs.declared.line.Line.{Line}
use Rattle.alp_script.specs.declared.numbered.NumberedLine.{NumberedLine}
use Rattle.alp_session.specs.Crowd.{Crowd}
use Rattle.alp_session.specs.Crowds.{new_crowd}
use Rattle.alp_course.specs.Courses.{Course, Occurrence, AreCourse}
use Rattle.alp_course.specs.Plays.{Plays}
use Rattle.alp_course.specs.Settles.{IsSettling, AreTaken}
use Rattle.alp_course.specs.Turns.{turns_of, own_in}
use Rattle.alp_merge.specs.Storms.{items_of, IsStorm}
use Rattle.alp_merge.specs.Turns.{occurrence_in}

-- From a course to another one, among so many servers: the lines of a setup are played, and no message is left. Then there is a storm of the
-- jobs, and behind it all is settled. Each client's list has what the lines sent, and then what its job did.
pub record IsStormed (servers : ℕ) (lines : List NumberedLine) (plan : ℕ) (is_job : ℕ → Bool) (job : ℕ → List (List Line)) (Starved : ℕ → ℕ → ℕ → Message → Type 0) (lists : Lists) (first last : Course) : Type 0 where
  pub clients : Crowd
  pub by_lines : List Occurrence
  pub plays : Plays servers new_crowd lines (turns_of lines lists) by_lines clients
  pub begun : Course
  pub setup : AreCourse first by_lines begun
  pub taken : AreTaken begun
  pub deeds : ℕ → List Deed
  pub knows : ℕ → Crowd
  pub ended : Course
  pub storm : IsStorm plan is_job job Starved clients begun ended deeds knows
  pub behind : List Occurrence
  pub settles : IsSettling servers behind
  pub settled : AreCourse ended behind last
  pub all : (k : ℕ) → lists k ≡ own_in k (turns_of lines lists) ++ items_of (deeds k)
  pub idle : (k : ℕ) → (IsTrue (is_job k) → ⊥) → deeds k ≡ []

module _ (servers : ℕ) (lines : List NumberedLine) (plan : ℕ) (is_job : ℕ → Bool) (job : ℕ → List (List Line)) (Starved : ℕ → ℕ → ℕ → Message → Type 0) (lists : Lists) (first last : Course) where
  -- all that occurred
  abbrev pub occurred_in : IsStormed servers lines plan is_job job Starved lists first last → List Occurrence
  occurred_in h = h.by_lines ++ ((list_map occurrence_in h.storm.turns ++ h.storm.counted) ++ h.behind)
