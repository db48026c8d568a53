-- A run that has played some lines of a script, and its servers at the end.
use Rattle.std.specs.Prelude.{◌≡◌, ◌⊎◌, ℕ, ◌*◌, ◌<◌, ◌≤◌, ◌^◌, Bool, false, true, IsTrue, List, [], ◌∷◌, ◌++◌, length, map as list_map, None, Vec}
use Rattle.std.specs.Global.{Global}
use Rattle.std.specs.List.{AllByRecursion}
use Rattle.alp_base.specs.declared.ids.TransId.{TransId}
use Rattle.alp_journal.specs.declared.log.Item.{Item}
use Rattle.alp_lines.specs.declared.line.Line.{Line}
use Rattle.alp_lines.specs.declared.line.Line.TheVariants as line
use Rattle.alp_script.specs.declared.numbered.NumberedLine.{NumberedLine}
use Rattle.alp_session.specs.Crowd.{Crowd}
use Rattle.alp_session.specs.Crowds.{new_crowd, client_at}
use Rattle.alp_history.specs.Items.{Handed}
use Rattle.alp_history.specs.Log.{AreSoundOpenings}
use Rattle.alp_history.specs.RunLogs.{item_of}
use Rattle.alp_history.specs.Theorems.{IsSettled}
use Rattle.alp_vault.specs.declared.vault.Vault.{Ghosts}
use Rattle.alp_course.specs.Courses.{Course, Occurrence, seat_at, IsSeat, AreCourse, TellAll}
use Rattle.alp_course.specs.Links.{log_of, IsFirst}
use Rattle.alp_course.specs.Midway.{IsMidway}
use Rattle.alp_course.specs.Plays.{Due, sent_of, IsCut, Plays, BeginsLine, ArePlayed}
use Rattle.alp_course.specs.Resting.{AreSpelled}
use Rattle.alp_course.specs.Settles.{IsSettling, AreUp, AreTaken}
use Rattle.alp_course.specs.Turns.{Turn, lists_in, own_in, sent_in, turns_text}
use Rattle.alp_cluster.specs.Clients.{InStep, HasSaid}
use Rattle.alp_cluster.specs.Fills.{IsEndFor}
use Rattle.alp_cluster.specs.Stations.{AreOn, EndsFor, course_of, state_at}
use Rattle.alp_cluster.specs.Steps.{PrintsTo}
use Rattle.alp_cluster.specs.declared.fault.RunFault.{RunFault}
use Rattle.alp_cluster.specs.declared.stations.Stations.{Stations}

-- ---- stops

-- a line that lets a disk be stopped
abbrev pub is_stop_line : Line → Bool
is_stop_line (line.Stop server calls) = true
is_stop_line l = false

-- a line by which something happens at one server, or all is settled
abbrev pub happens_at_once : Line → Bool
happens_at_once (line.Timeout server client) = true
happens_at_once (line.Tick server) = true
happens_at_once (line.Force server) = true
happens_at_once (line.Stop server calls) = true
happens_at_once (line.Restart server pick) = true
happens_at_once line.Settle = true
happens_at_once l = false

-- none of the lines lets a disk be stopped
abbrev pub StopNone : List NumberedLine → Type 0
StopNone ls = AllByRecursion (λ (l : NumberedLine). is_stop_line l.line ≡ false) ls

-- ---- the lines

-- where a run began, and what occurred in it since
pub record Ran {V : Type 0} (G : Ghosts V) (hs : List Occurrence) (now : Stations V) : Type 0 where
  pub first : Course
  pub is_first : IsFirst first
  pub course : AreCourse first hs (course_of G now)

-- the lines so far, played on servers that did nothing before
pub record HasPlayed {V : Type 0} (G : Ghosts V) (servers : ℕ) (lines : List NumberedLine) (c : Crowd) (s : Stations V) (vs : List (Vec Item Global)) (printed : List ℕ) : Type 0 where
  pub step : InStep G c s
  pub count : length s.all.items ≡ servers
  pub turns : List Turn
  pub happened : List Occurrence
  pub plays : Plays servers new_crowd lines turns happened c
  pub places : length vs ≡ 17
  pub lists : (k : ℕ) → lists_in vs k ≡ own_in k turns
  pub few : (k : ℕ) → length (own_in k turns) ≤ 5 * length lines
  pub said : length lines < 2 ^ 29 → (k : ℕ) → HasSaid (state_at s) k (client_at c k) (list_map item_of (own_in k turns))
  pub text : printed ≡ turns_text turns
  pub ran : Ran G happened s

-- ---- all of it

-- Where all vaults tell what they hold, and the servers opened on sound files and notes, no part lives at any server, none is ready, and no
-- decision stands.
abbrev pub AreRested : {V : Type 0} → Ghosts V → Stations V → Type 0
AreRested G last =
    (handed : Handed) → TellAll (course_of G last) → AreSoundOpenings (log_of (course_of G last) handed) → ((n : ℕ) → IsSeat (course_of G last) n → AreSpelled (seat_at (course_of G last) n).opening)
    → (n : ℕ) → IsSeat (course_of G last) n → IsSettled (seat_at (course_of G last) n).stand.state

-- Behind a settling each server is up, nobody stops its disk, and no message to another one is left. Where it began with servers on their way, as those
-- of a run are from its first moment on, all are at rest.
pub record IsSettledDown {V : Type 0} (G : Ghosts V) (before after : Stations V) : Type 0 where
  pub up : AreUp (course_of G after)
  pub taken : AreTaken (course_of G after)
  pub rested : IsMidway (course_of G before) → AreRested G after

-- All lines were played on servers that did nothing before, and then the run was settled: each server is up, nobody stops its disk, no message
-- to another one is left, and all are at rest. Where it is the only one, no transaction is live there, whatever it opened on.
pub record HasPlayedOut {V : Type 0} (G : Ghosts V) (servers : ℕ) (lines : List NumberedLine) (last : Stations V) (vs : List (Vec Item Global)) (printed : List ℕ) : Type 0 where
  pub on : AreOn G last
  pub count : length last.all.items ≡ servers
  pub up : AreUp (course_of G last)
  pub taken : AreTaken (course_of G last)
  pub rested : AreRested G last
  pub rests : servers ≡ 1 → IsTrue (seat_at (course_of G last) 1).tells → (t : TransId) → (seat_at (course_of G last) 1).stand.state.holder.lives t ≡ None
  pub turns : List Turn
  pub hs : List Occurrence
  pub played : ArePlayed servers lines turns hs
  pub places : length vs ≡ 17
  pub lists : (k : ℕ) → lists_in vs k ≡ own_in k turns
  pub said : (k : ℕ) → HasSaid (state_at last) k (client_at played.clients k) (list_map item_of (own_in k turns))
  pub text : printed ≡ turns_text turns
  pub ran : Ran G hs last

-- the lines before this one were played, and this one was not over
pub record StopsInLine (servers : ℕ) (lines : List NumberedLine) (turns : List Turn) (hs : List Occurrence) (due : Due) : Type 0 where
  pub before : List NumberedLine
  pub line : NumberedLine
  pub later : List NumberedLine
  pub are : lines ≡ before ++ line ∷ later
  pub whole : List Turn
  pub happened_before : List Occurrence
  pub own : List Turn
  pub happened_now : List Occurrence
  pub clients : Crowd
  pub known : Crowd
  pub turns_are : turns ≡ whole ++ own
  pub happened_are : hs ≡ happened_before ++ happened_now
  pub plays : Plays servers new_crowd before whole happened_before clients
  pub begins : BeginsLine servers clients line own happened_now due known

-- all lines were played, and the settling behind them was not over
pub record StopsBehindLines (servers : ℕ) (lines : List NumberedLine) (turns : List Turn) (hs : List Occurrence) (due : Due) : Type 0 where
  pub clients : Crowd
  pub happened_before : List Occurrence
  pub happened_now : List Occurrence
  pub happened_are : hs ≡ happened_before ++ happened_now
  pub plays : Plays servers new_crowd lines turns happened_before clients
  pub settles : IsCut (IsSettling servers) happened_now due

-- The run ended before, for that fault, and this is what was played by then: the servers stood so, each item stands in its client's list, and
-- there was more to come, for which that is no way. These are left.
pub record HasEndedEarly {V : Type 0} (G : Ghosts V) (servers : ℕ) (lines : List NumberedLine) (f : RunFault) (left : Stations V) (vs : List (Vec Item Global)) : Type 0 where
  pub last : Stations V
  pub on : AreOn G last
  pub count : length last.all.items ≡ servers
  pub clients : Crowd
  pub turns : List Turn
  pub said : (k : ℕ) → HasSaid (state_at last) k (client_at clients k) (list_map item_of (own_in k turns))
  pub hs : List Occurrence
  pub due : Due
  pub sent : sent_of hs ≡ sent_in turns
  pub ran : Ran G hs last
  pub next_was : StopsInLine servers lines turns hs due ⊎ StopsBehindLines servers lines turns hs due
  pub ends : IsEndFor f (course_of G last) due
  pub ended : EndsFor G f due last left
  pub places : length vs ≡ 17
  pub lists : (k : ℕ) → lists_in vs k ≡ own_in k turns

-- and the report has the lines of those turns, of the last one maybe none
pub record HasEndedSo {V : Type 0} (G : Ghosts V) (servers : ℕ) (lines : List NumberedLine) (f : RunFault) (left : Stations V) (vs : List (Vec Item Global)) (printed : List ℕ) : Type 0 where
  pub early : HasEndedEarly G servers lines f left vs
  pub text : PrintsTo early.turns [] printed
