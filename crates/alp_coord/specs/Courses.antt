-- How far transactions are that are not settled.
use Rattle.std.specs.Prelude.{ℕ, Bool, true, false, not, List, [], ◌∷◌, ◌++◌, Option, None, Some}
use Rattle.std.specs.FinMap as map
use Rattle.alp_base.specs.declared.ids.JoinNo.{JoinNo}
use Rattle.alp_base.specs.declared.ids.TransId.{TransId}
use Rattle.alp_base.specs.Orders.{trans_cmp}
use Rattle.alp_journal.specs.Coordinator.{Fate, Running, Finishing, Committed}
use Rattle.alp_coord.specs.declared.members.Member.{Member}
use Rattle.alp_coord.specs.declared.course.Course.{Course}
use Rattle.alp_coord.specs.declared.course.Stage.{Stage}
use Rattle.alp_coord.specs.declared.course.Stage.TheVariants as stage
use Rattle.alp_coord.specs.Members.{joins, votes, dones, are_none, silent, having_said, hushed}

abbrev pub fate_at : TransId → Stage → ℕ → List Member → Fate
fate_at t stage.Running client ms = Running client (joins ms)
fate_at t stage.Finishing client ms = Finishing client (joins ms) (votes ms)
fate_at t (stage.Decided ts) client ms = Committed (record { ts = ts; trans = t }) (joins ms) (dones ms)

-- what a journal says of a transaction with that course
abbrev pub fate_of : TransId → Course → Fate
fate_of t c = fate_at t c.stage c.client c.members

-- ---- stages

abbrev pub is_running_stage : Stage → Bool
is_running_stage stage.Running = true
is_running_stage stage.Finishing = false
is_running_stage (stage.Decided ts) = false

abbrev pub is_finishing_stage : Stage → Bool
is_finishing_stage stage.Running = false
is_finishing_stage stage.Finishing = true
is_finishing_stage (stage.Decided ts) = false

abbrev pub is_early_stage : Stage → Bool
is_early_stage stage.Running = true
is_early_stage stage.Finishing = true
is_early_stage (stage.Decided ts) = false

abbrev pub is_decided_stage : Stage → Bool
is_decided_stage stage.Running = false
is_decided_stage stage.Finishing = false
is_decided_stage (stage.Decided ts) = true

-- a decision with joins
abbrev pub is_standing : Stage → List Member → Bool
is_standing stage.Running ms = false
is_standing stage.Finishing ms = false
is_standing (stage.Decided ts) ms = not (are_none ms)

-- when it was decided, if it was
abbrev pub time_of : Stage → Option ℕ
time_of stage.Running = None
time_of stage.Finishing = None
time_of (stage.Decided ts) = Some ts

-- the client of one that is not decided
abbrev pub owner_at : Stage → ℕ → Option ℕ
owner_at stage.Running client = Some client
owner_at stage.Finishing client = Some client
owner_at (stage.Decided ts) client = None

-- whether it counts towards the transactions of a server
abbrev pub counts_at : Stage → List Member → Bool
counts_at stage.Running ms = true
counts_at stage.Finishing ms = true
counts_at (stage.Decided ts) ms = not (are_none ms)

-- ---- moves

abbrev pub begun_course : ℕ → Course
begun_course client = record { client = client; stage = stage.Running; members = [] }

abbrev pub entered : JoinNo → Course → Course
entered j c = record c { members = c.members ++ silent j ∷ [] }

-- at a new stage they have said nothing so far
abbrev pub turned : Stage → Course → Course
turned s c = record c { stage = s; members = hushed c.members }

abbrev pub told : JoinNo → ℕ → Course → Course
told j ts c = record c { members = having_said j ts c.members }

-- ---- many

abbrev pub CourseMap : Type 0
CourseMap = map.FinMap trans_cmp Course

abbrev pub put_changed : (Course → Course) → CourseMap → TransId → Option Course → CourseMap
put_changed f m t None = m
put_changed f m t (Some c) = map.insert m t (f c)

-- the course of that transaction goes on so, if there is one
abbrev pub changed_at : (Course → Course) → CourseMap → TransId → CourseMap
changed_at f m t = put_changed f m t (map.get m t)
