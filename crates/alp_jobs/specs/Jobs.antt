-- Where a job stands, and what the rest of it does.
use Rattle.std.specs.Prelude.{◌≡◌, ℕ, ◌<◌, ◌≤◌, Bool, true, false, not, ◌&&◌, List, [], ◌∷◌, ◌++◌, Option, None, Some, Vec, if◌then◌else◌}
use Rattle.std.specs.Global.{Global}
use Rattle.std.specs.List.{list_any, AllByRecursion}
use Rattle.std.specs.Vec.{vec_len, vec_capacity}
use Rattle.alp_base.specs.declared.ids.TransId.{TransId}
use Rattle.alp_journal.specs.declared.log.Item.{Item}
use Rattle.alp_lines.specs.declared.line.Line.{Line}
use Rattle.alp_lines.specs.declared.line.Line.TheVariants as line
use Rattle.alp_session.specs.Calls.{IsAskable}
use Rattle.alp_session.specs.Crowd.{Crowd}
use Rattle.alp_session.specs.Crowds.{asks, hears, at_line, times_out}
use Rattle.alp_session.specs.declared.frames.Addressed.{Addressed}
use Rattle.alp_session.specs.declared.waiting.Next.{Next}
use Rattle.alp_session.specs.declared.waiting.Next.TheVariants as next
use Rattle.alp_jobs.specs.Deeds.{Deed, is_refusal, is_refusing}
use Rattle.alp_jobs.specs.Does.{asked_at, tick_due, stage_after, IsOver, DoesLine, DoesAll, DoesTransaction, DoesJob}
use Rattle.alp_jobs.specs.States.{JobState}
use Rattle.alp_jobs.specs.declared.stage.Stage.{Stage}
use Rattle.alp_jobs.specs.declared.stage.Stage.TheVariants as stage
use Rattle.alp_jobs.specs.declared.stage.Way.{Way}
use Rattle.alp_jobs.specs.declared.stage.Way.TheVariants as way
use Rattle.alp_jobs.specs.declared.to_do.ToDo.{ToDo}
use Rattle.alp_jobs.specs.declared.to_do.ToDo.TheVariants as to_do

-- before the first transaction it stands after a line that is over
abbrev pub new_job : ℕ → List (List Line) → Crowd → JobState
new_job k ts c = record { number = k; line = line.Abort k; stage = stage.Asking next.Over; way = way.Going; rest = []; others = ts; crowd = c; items = []; room = false }

-- where that is said, a list has a place for one more
abbrev pub HasPlaceIf : Bool → Vec Item Global → Type 0
HasPlaceIf true xs = vec_len xs < vec_capacity xs
HasPlaceIf false xs = Unit {0}

-- its client's number is one of the run's, all its lines have frames, and room is there where it says so
pub record IsSound (k : ℕ) (l : Line) (rest : List Line) (others : List (List Line)) (said : Bool) (xs : Vec Item Global) : Type 0 where
  pub few : k ≤ 16
  pub at_line : IsAskable l
  pub in_transaction : AllByRecursion IsAskable rest
  pub in_others : AllByRecursion (AllByRecursion IsAskable) others
  pub place : HasPlaceIf said xs

-- ---- what it does next

abbrev pub frame_due : JobState → Option Addressed
frame_due j = asks j.crowd j.number j.line (asked_at j.stage)

abbrev pub timeout_due : JobState → Option (ℕ × TransId)
timeout_due j = times_out j.crowd j.number (asked_at j.stage)

-- its line is over
abbrev pub IsBehind : JobState → Type 0
IsBehind j = IsOver j.number j.line j.stage j.crowd

abbrev pub is_coming : Stage → Bool
is_coming stage.Coming = true
is_coming (stage.Asking n) = false
is_coming (stage.Ticking server after) = false
is_coming stage.Last = false

-- the transaction is to be given up
abbrev pub is_lost : Way → Bool
is_lost way.Going = false
is_lost way.Refused = true
is_lost way.GivenUp = false

abbrev pub is_nil : {X : Type 0} → List X → Bool
is_nil [] = true
is_nil (x ∷ xs) = false

-- nothing comes after its line
abbrev pub is_ended : JobState → Bool
is_ended j = ((not (is_coming j.stage) && not (is_lost j.way)) && is_nil j.rest) && is_nil j.others

abbrev pub IsToDo : JobState → ToDo → Type 0
IsToDo j (to_do.Frame frame) = frame_due j ≡ Some frame
IsToDo j (to_do.Tick server) = tick_due j.stage ≡ Some server
IsToDo j (to_do.Timeout server t) = timeout_due j ≡ Some (server, t)
IsToDo j to_do.Onward = IsBehind j × (is_ended j ≡ false)
IsToDo j to_do.Done = IsBehind j × (is_ended j ≡ true)

-- ---- what the rest of it does

-- the transaction is to be given up once something of its line was refused
abbrev pub way_after : (refused : Bool) → Way → Way
way_after false w = w
way_after true way.Going = way.Refused
way_after true way.Refused = way.Refused
way_after true way.GivenUp = way.GivenUp

-- the deeds of a line that the client has come to, or comes to first
abbrev pub DoesFrom : ℕ → Line → Stage → Crowd → List Deed → Crowd → Type 0
DoesFrom k l stage.Coming c ds d = DoesAll k l c ds d
DoesFrom k l (stage.Asking n) c ds d = DoesLine k l (stage.Asking n) c ds d
DoesFrom k l (stage.Ticking server after) c ds d = DoesLine k l (stage.Ticking server after) c ds d
DoesFrom k l stage.Last c ds d = DoesLine k l stage.Last c ds d

-- those of the rest of its transaction
abbrev pub DoesBehind : ℕ → Way → List Line → Crowd → List Deed → Crowd → Type 0
DoesBehind k way.Going ls c ds d = DoesTransaction k ls c ds d
DoesBehind k way.Refused ls c ds d = DoesAll k (line.Abort k) c ds d
DoesBehind k way.GivenUp ls c ds d = DoesTransaction k ls c ds d

-- and with the other transactions
pub record DoesOthers (k : ℕ) (w : Way) (ls : List Line) (ts : List (List Line)) (c : Crowd) (ds : List Deed) (d : Crowd) : Type 0 where
  pub own : List Deed
  pub others : List Deed
  pub mid : Crowd
  pub are : ds ≡ own ++ others
  pub transaction : DoesBehind k w ls c own mid
  pub job : DoesJob k ts mid others d

-- These deeds are those of the rest of a job that stands there, and that is known after them.
pub record DoesRest (j : JobState) (ds : List Deed) (d : Crowd) : Type 0 where
  pub own : List Deed
  pub others : List Deed
  pub mid : Crowd
  pub are : ds ≡ own ++ others
  pub line : DoesFrom j.number j.line j.stage j.crowd own mid
  pub after : DoesOthers j.number (way_after (list_any is_refusing own) j.way) j.rest j.others mid others d

-- by this deed it comes to where it stands now
abbrev pub Does : JobState → Deed → JobState → Type 0
Does old x now = (ds : List Deed) (d : Crowd) → DoesRest now ds d → DoesRest old (x ∷ ds) d

-- it comes there without a deed
abbrev pub GoesOn : JobState → JobState → Type 0
GoesOn old now = (ds : List Deed) (d : Crowd) → DoesRest now ds d → DoesRest old ds d

-- ---- where it stands then

abbrev pub after_frame : JobState → Addressed → Item → JobState
after_frame j frame x = record j {
  stage = stage_after j.stage x (hears j.crowd j.number j.line (asked_at j.stage) frame x.reply).1;
  way = way_after (is_refusal x.reply) j.way;
  crowd = (hears j.crowd j.number j.line (asked_at j.stage) frame x.reply).0;
  items = j.items ++ x ∷ [];
  room = false;
}

-- its client heard the reply of this item, and this comes next for the line
abbrev pub heard_so : JobState → Item → Next → JobState
heard_so j x n = record j { stage = stage_after j.stage x n; way = way_after (is_refusal x.reply) j.way; items = j.items ++ x ∷ []; room = false }

-- there is room for the next item
abbrev pub with_room : JobState → JobState
with_room j = record j { room = true }

-- the item tells what was answered, and the client did not hear it
abbrev pub after_unheard : JobState → Item → JobState
after_unheard j x = record j { items = j.items ++ x ∷ []; room = false }

abbrev pub stage_ticked : Stage → Stage
stage_ticked stage.Coming = stage.Coming
stage_ticked (stage.Asking n) = stage.Asking n
stage_ticked (stage.Ticking server after) = stage.Asking after
stage_ticked stage.Last = stage.Last

abbrev pub after_tick_given : JobState → JobState
after_tick_given j = record j { stage = stage_ticked j.stage }

abbrev pub after_timeout : JobState → JobState
after_timeout j = record j { stage = stage.Last }

-- the client comes to its line
abbrev pub at_its_line : JobState → JobState
at_its_line j = record j { stage = stage.Asking next.Call; crowd = at_line j.crowd j.number j.line }

-- what comes next is the line that gives the transaction up
abbrev pub giving_up : JobState → JobState
giving_up j = record j { line = line.Abort j.number; stage = stage.Coming; way = way.GivenUp; rest = [] }

-- what comes next is another line of the transaction, or the next transaction
abbrev pub at_next : JobState → List Line → List (List Line) → JobState
at_next j (l ∷ ls) ts = record j { line = l; stage = stage.Coming; way = way.Going; rest = ls }
at_next j [] (ls ∷ ts) = record j { way = way.Going; rest = ls; others = ts }
at_next j [] [] = j

abbrev pub gone_on : JobState → JobState
gone_on j = if is_coming j.stage then at_its_line j else (if is_lost j.way then giving_up j else at_next j j.rest j.others)
