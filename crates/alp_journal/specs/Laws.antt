-- What the entries of a lawful journal keep to. Each law is about one entry and the state that the entries before it leave.
use Rattle.std.specs.Prelude.{◌≡◌, ℕ, ◌+◌, ◌<◌, max, Bool, true, false, not, ◌==◌, ◌&&◌, ◌⊎◌, List, [], ◌∷◌, flat_map, Option, None, Some, IsSome, if◌then◌else◌}
use Rattle.std.specs.List.{list_any, list_all, AllByRecursion}
use Rattle.std.specs.FinMap.Entries as entries
use Rattle.alp_base.specs.declared.ids.FileId.{FileId}
use Rattle.alp_base.specs.declared.ids.JoinNo.{JoinNo}
use Rattle.alp_base.specs.declared.ids.TransId.{TransId}
use Rattle.alp_base.specs.declared.ids.Stamp.{Stamp}
use Rattle.alp_files.specs.Holdings.{DoAgree}
use Rattle.alp_files.specs.declared.call.Call.{Call}
use Rattle.alp_files.specs.declared.call.Call.TheVariants as call
use Rattle.alp_files.specs.declared.reply.Reply.{Reply}
use Rattle.alp_files.specs.declared.reply.Reply.TheVariants as reply
use Rattle.alp_files.specs.declared.reply.Ended.{Ended as Ending}
use Rattle.alp_files.specs.declared.reply.Ended.TheVariants as ending
use Rattle.alp_files.specs.declared.refusal.Refusal.TheVariants as refusal
use Rattle.alp_files.specs.declared.refusal.Cause.{Cause}
use Rattle.alp_files.specs.declared.refusal.Cause.TheVariants as cause
use Rattle.alp_files.specs.Act.{id_in}
use Rattle.alp_files.specs.History.{PerformedCall, Decided}
use Rattle.alp_files.specs.Locks.{needs_of, HoldsEach, IsFormed}
use Rattle.alp_journal.specs.declared.act.Act.{Act}
use Rattle.alp_journal.specs.declared.act.Act.TheVariants as act
use Rattle.alp_journal.specs.declared.event.Event.{Event}
use Rattle.alp_journal.specs.declared.event.Event.TheVariants as event
use Rattle.alp_journal.specs.declared.message.Message.{Message}
use Rattle.alp_journal.specs.declared.message.Message.TheVariants as msg
use Rattle.alp_journal.specs.declared.entry.Entry.{Entry}
use Rattle.alp_journal.specs.Along.{Along, Where, state_after}
use Rattle.alp_journal.specs.Ids.{same_trans, has_join, has_server, has_stamp, same_stamp, stamp_cmp}
use Rattle.alp_journal.specs.Opening.{Start}
use Rattle.alp_journal.specs.Deeds.{Deed, Begins, Joins, Quits, Aborts, Grants, Performs, Releases, Readies, Applies, Registers, Decides, Ends, Forgets, Restarts}
use Rattle.alp_journal.specs.Coordinator.{Fate, Vote, Undrawn, Running, Finishing, Committed, Forgotten, Ended, decision_in, joins_of, has_all, has_votes, is_running}
use Rattle.alp_journal.specs.Participant.{Phase, Active, Ready, live_in, is_ready}
use Rattle.alp_journal.specs.Holder.{Holder, Life, view_in, answer_in, held_for}
use Rattle.alp_journal.specs.Desk.{Session, Waiting, file_trans, waiting_of}
use Rattle.alp_journal.specs.State.{State, state_deed, opened, is_trans_drawn, is_join_drawn, is_other_server}
use Rattle.alp_journal.specs.Moves.{is_new, next_trans, next_join, next_file, resolved, is_stop, stops, tried, next}

-- ---- ids and clock

-- the transactions that the acts draw, and the one that a reply says began
abbrev pub drawn_by : Act → List TransId
drawn_by (act.Drawn t) = t ∷ []
drawn_by a = []

abbrev pub begun_in : Option Reply → List TransId
begun_in (Some (reply.Begun t)) = t ∷ []
begun_in r = []

abbrev pub begun_new : State → Event → Option Reply → List TransId
begun_new s (event.Call client epoch number c) r = if is_new s client epoch number then begun_in r else []
begun_new s e r = []

-- a transaction is drawn just where a new call is answered so
abbrev pub DrawsAsTold : State → Entry → Type 0
DrawsAsTold s e = flat_map drawn_by e.acts ≡ begun_new s e.event e.reply

-- each kind of ids is counted through, and the epoch rises by one
abbrev pub CountsOn : State → Deed → Type 0
CountsOn s (Begins t client who seen) = t ≡ next_trans s
CountsOn s (Joins j t client who) = (j ≡ next_join s) × (is_other_server s t.server ≡ true)
CountsOn s (Performs t d) = (f : FileId) → id_in d.reply ≡ Some f → f ≡ next_file s
CountsOn s (Restarts epoch clock) = epoch ≡ s.ids.epoch + 1
CountsOn s d = Unit {0}

-- ---- sessions

-- an answer that changes nothing
abbrev pub Repeats : Option Reply → Entry → Type 0
Repeats r e = (e.reply ≡ r) × (e.acts ≡ [])

-- a greeting begins a session with the first number; while it is the last one it gets the same reply, and no other is answered
abbrev pub Greets : State → ℕ → ℕ → Entry → Option Session → Type 0
Greets s epoch number e None = Where (epoch == 0 && number == 1) (e.reply ≡ Some (reply.Welcome s.ids.epoch)) (Repeats None e)
Greets s epoch number e (Some w) = Where (epoch == 0 && number == 1 && w.last == 1) (Repeats (Some w.reply) e) (Repeats None e)

abbrev pub stale : State → Option Reply
stale s = Some (reply.Refused (refusal.StaleSession s.ids.epoch))

-- the last number gets the kept reply, the next one is answered, and no other is
abbrev pub CallsOn : State → ℕ → ℕ → Entry → Option Session → Type 0
CallsOn s epoch number e None = Repeats (stale s) e
CallsOn s epoch number e (Some w) =
    Where (not (epoch == s.ids.epoch)) (Repeats (stale s) e)
    (Where (number == w.last) (Repeats (Some w.reply) e) (Where (number == w.last + 1) (IsSome e.reply) (Repeats None e)))

abbrev pub KeepsSessions : State → Entry → Event → Type 0
KeepsSessions s e (event.Call client epoch number (call.Hello name)) = Greets s epoch number e (s.desk.sessions client)
KeepsSessions s e (event.Call client epoch number c) = CallsOn s epoch number e (s.desk.sessions client)
KeepsSessions s e x = e.reply ≡ (if stops e then Some (reply.Refused refusal.Down) else None)

-- ---- the view

abbrev pub client_of : Event → Option ℕ
client_of (event.Call client epoch number c) = Some client
client_of e = None

-- A file call is performed by its own client's part, before it votes. It is one of the grammar. Its reply is what a
-- thread is answered that sees the committed cells with the part's own earlier changes, and the part holds the locks of
-- the call, as it sees the files. A call that is refused as one on an unknown open, or on an open that is not for change,
-- needs no locks.
pub record IsPerformed (s : Holder) (e : Event) (l : Life) (d : PerformedCall) : Type 0 where
  pub client : client_of e ≡ Some l.client
  pub active : l.vote ≡ None
  pub formed : IsFormed d.call
  pub right : (answer_in s l d).reply ≡ Some d.reply
  pub locked : HoldsEach l.held (needs_of (view_in s l) l.own d.call)

abbrev pub SeesView : Event → State → Deed → Type 0
SeesView e s (Performs t d) = (l : Life) × (s.holder.lives t ≡ Some l) × IsPerformed s.holder e l d
SeesView e s d = Unit {0}

-- ---- locks

-- the locks of live parts agree on each resource
abbrev pub DoLivesAgree : (TransId → Option Life) → Type 0
DoLivesAgree lives = (t u : TransId) (k l : Life) → lives t ≡ Some k → lives u ≡ Some l → same_trans t u ≡ false → DoAgree k.held l.held

-- a join that is let in or ready, of this transaction
abbrev pub IsHolding : TransId → Phase → Type 0
IsHolding t (Active u client who) = u ≡ t
IsHolding t (Ready u client ts) = u ≡ t
IsHolding t p = ⊥

-- no part of the transaction lives on
abbrev pub HasEnded : State → TransId → Type 0
HasEnded s t = (is_running (s.fates t) ≡ false) × ((j : JoinNo) → IsHolding t (s.phases j) → ⊥)

-- locks agree as soon as they are granted and as a file is made, none are granted after the vote, and only those of a part that ended are released
abbrev pub KeepsLocks : State → Deed → Type 0
KeepsLocks s (Grants t c) = ((l : Life) → s.holder.lives t ≡ Some l → l.vote ≡ None) × DoLivesAgree (state_deed s (Grants t c)).holder.lives
KeepsLocks s (Performs t d) = DoLivesAgree (state_deed s (Performs t d)).holder.lives
KeepsLocks s (Releases t) = IsSome (s.holder.lives t) × HasEnded s t
KeepsLocks s d = Unit {0}

-- a part that runs: its transaction was begun here and is not decided or aborted, or it was let in and did not vote
abbrev pub IsOpenPart : State → TransId → Type 0
IsOpenPart s t = (is_running (s.fates t) ≡ true) ⊎ ((j : JoinNo) × (client : ℕ) × (who : List ℕ) × (s.phases j ≡ Active t client who))

-- locks are granted to parts that run, and calls are performed by them
abbrev pub IsOfOpenPart : State → Deed → Type 0
IsOfOpenPart s (Grants t c) = IsOpenPart s t
IsOfOpenPart s (Performs t d) = IsOpenPart s t
IsOfOpenPart s d = Unit {0}

abbrev pub released_by : Act → List TransId
released_by (act.Released t) = t ∷ []
released_by a = []

abbrev pub granted_by : Act → List TransId
granted_by (act.Granted t) = t ∷ []
granted_by a = []

abbrev pub grants_of : Deed → List TransId
grants_of (Grants t c) = t ∷ []
grants_of d = []

-- a join that still asks to be let in has no locks to release
abbrev pub ended_join : TransId → Phase → List TransId
ended_join t (Active u client who) = t ∷ []
ended_join t (Ready u client ts) = t ∷ []
ended_join t p = []

-- the parts that end by a deed
abbrev pub ended_by : State → Deed → List TransId
ended_by s (Ends t client c) = t ∷ []
ended_by s (Quits j t client c) = ended_join t (s.phases j)
ended_by s (Aborts j t client c) = ended_join t (s.phases j)
ended_by s (Decides stamp js) = stamp.trans ∷ []
ended_by s (Applies j stamp) = stamp.trans ∷ []
ended_by s d = []

-- each part that ends is released once, and no other; what is granted was asked for
abbrev pub ReleasesEnded : State → Entry → Type 0
ReleasesEnded s e = (flat_map released_by e.acts ≡ flat_map (ended_by s) (tried s e)) × (flat_map granted_by e.acts ≡ flat_map grants_of (tried s e))

-- what the part would hold for the call agrees with all that the others hold
abbrev pub IsFree : Holder → TransId → Life → Call → Type 0
IsFree s t l c = (u : TransId) (k : Life) → s.lives u ≡ Some k → same_trans u t ≡ false → DoAgree k.held (held_for s l c)

-- the waiting call of a client's own part asks for locks that are not free
abbrev pub IsBlocked : State → Waiting → Option TransId → Type 0
IsBlocked s w None = Unit {0}
IsBlocked s w (Some t) = w.is_granted ≡ false → (l : Life) → s.holder.lives t ≡ Some l → w.client ≡ l.client → IsFree s.holder t l w.call → ⊥

-- nobody is left waiting whose way is free
abbrev pub WaitsInTurn : State → Type 0
WaitsInTurn s = AllByRecursion (λ (w : Waiting). IsBlocked s w (file_trans w.call)) s.desk.waits

-- Nothing of this stands where the device stopped. A restart leaves the locks of ready parts alone, and nobody waits; it releases
-- none by an act, also where it finds a commit made that a stop had cut off.
abbrev pub LetsGo : State → Entry → Event → Type 0
LetsGo s e event.Restart = Unit {0}
LetsGo s e x = Where (stops e) (Unit {0}) (ReleasesEnded s e × WaitsInTurn (next s e))

-- ---- a transaction at its coordinator

-- the join of another server comes as the first of its server, to a transaction of its own client that is not finished yet
pub record MayRegister (e : Event) (s : State) (t : TransId) (j : JoinNo) : Type 0 where
  pub from : ℕ
  pub client : ℕ
  pub joins : List JoinNo
  pub asked : e ≡ event.Arrive from (msg.Register t j client)
  pub runs : s.fates t ≡ Running client joins
  pub first : has_server j.server joins ≡ false
  pub elsewhere : is_other_server s j.server ≡ true

abbrev pub RegistersOnce : Event → State → Deed → Type 0
RegistersOnce e s (Registers t j) = MayRegister e s t j
RegistersOnce e s d = Unit {0}

-- the least time that all votes allow, and the clock
abbrev pub latest_vote : ℕ → List Vote → ℕ
latest_vote n [] = n
latest_vote n (v ∷ vs) = latest_vote (max n v.1) vs

-- the transaction has a part here that has not voted
abbrev pub LivesUnvoted : State → TransId → Type 0
LivesUnvoted s t = (l : Life) × (s.holder.lives t ≡ Some l) × (l.vote ≡ None)

-- a transaction is decided at its Finish, or as a vote for it arrives
abbrev pub DecidesAt : TransId → Event → Type 0
DecidesAt t (event.Call client epoch number (call.Finish u commit)) = u ≡ t
DecidesAt t (event.Arrive from (msg.Ready u j ts)) = u ≡ t
DecidesAt t e = ⊥

-- what is decided was finished by its client, here and in this epoch; its joins are all that registered; each has voted;
-- its time is the greatest of the votes and of the one after the clock; no file call of its part here waits or is not collected
pub record MayDecide (e : Event) (s : State) (stamp : Stamp) (joins : List JoinNo) : Type 0 where
  pub client : ℕ
  pub votes : List Vote
  pub asked : DecidesAt stamp.trans e
  pub own : stamp.trans.server ≡ s.holder.server
  pub now : stamp.trans.epoch ≡ s.ids.epoch
  pub finishing : s.fates stamp.trans ≡ Finishing client joins votes
  pub voted : has_votes (s.fates stamp.trans) ≡ true
  pub time : stamp.ts ≡ latest_vote (s.holder.clock + 1) votes
  pub idle : (w : Waiting) → waiting_of s.desk client stamp.trans ≡ Some w → file_trans w.call ≡ None
  pub live : LivesUnvoted s stamp.trans

abbrev pub DecidesRight : Event → State → Deed → Type 0
DecidesRight e s (Decides stamp joins) = MayDecide e s stamp joins
DecidesRight e s d = Unit {0}

-- a decision is forgotten as the last of its joins says that it is done, and at no later word
pub record MayForget (e : Event) (s : State) (t : TransId) : Type 0 where
  pub from : ℕ
  pub join : JoinNo
  pub stamp : Stamp
  pub joins : List JoinNo
  pub before : List JoinNo
  pub told : e ≡ event.Arrive from (msg.Done t join)
  pub committed : s.fates t ≡ Committed stamp joins (join ∷ before)
  pub its : has_join join joins ≡ true
  pub missing : has_all before joins ≡ false
  pub all : has_all (join ∷ before) joins ≡ true

abbrev pub ForgetsRight : Event → State → Deed → Type 0
ForgetsRight e s (Forgets t) = MayForget e s t
ForgetsRight e s d = Unit {0}

-- ---- a part at its worker

-- a part votes when it is asked, once, without a call that waits or is not collected, for the time after the clock
pub record MayReady (e : Event) (s : State) (j : JoinNo) (t : TransId) (ts : ℕ) : Type 0 where
  pub from : ℕ
  pub client : ℕ
  pub who : List ℕ
  pub asked : e ≡ event.Arrive from (msg.Ask t j)
  pub active : s.phases j ≡ Active t client who
  pub idle : waiting_of s.desk client t ≡ None
  pub time : ts ≡ s.holder.clock + 1
  pub live : LivesUnvoted s t

abbrev pub VotesOnce : Event → State → Deed → Type 0
VotesOnce e s (Readies j t ts) = MayReady e s j t ts
VotesOnce e s d = Unit {0}

-- the transaction has a part here that voted for this time, in this run or an earlier one
abbrev pub LivesVoted : State → TransId → ℕ → Type 0
LivesVoted s t ts = (l : Life) × (s.holder.lives t ≡ Some l) × (l.vote ≡ Some ts)

-- a ready part is applied when its coordinator says so, at that stamp
pub record MayApply (e : Event) (s : State) (j : JoinNo) (stamp : Stamp) : Type 0 where
  pub from : ℕ
  pub client : ℕ
  pub ts : ℕ
  pub told : e ≡ event.Arrive from (msg.Commit stamp.trans j stamp)
  pub ready : s.phases j ≡ Ready stamp.trans client ts
  pub elsewhere : is_other_server s stamp.trans.server ≡ true
  pub live : LivesVoted s stamp.trans ts

abbrev pub AppliesRight : Event → State → Deed → Type 0
AppliesRight e s (Applies j stamp) = MayApply e s j stamp
AppliesRight e s d = Unit {0}

-- ---- what is said to other servers

-- an abort is said of a transaction that was drawn here and does not run: with the cause by which it ended, or as lost
-- where it is of an older epoch, unless its decision stands
abbrev pub MayAbort : State → TransId → Cause → Fate → Type 0
MayAbort s t c (Ended d) = c ≡ (if t.epoch == s.ids.epoch then d else cause.Lost s.ids.epoch)
MayAbort s t c Undrawn = (t.epoch < s.ids.epoch) × (c ≡ cause.Lost s.ids.epoch)
MayAbort s t c (Forgotten stamp joins) = (t.epoch < s.ids.epoch) × (c ≡ cause.Lost s.ids.epoch)
MayAbort s t c (Committed stamp [] done) = (t.epoch < s.ids.epoch) × (c ≡ cause.Lost s.ids.epoch)
MayAbort s t c (Committed stamp (j ∷ joins) done) = ⊥
MayAbort s t c (Running client joins) = ⊥
MayAbort s t c (Finishing client joins votes) = ⊥

abbrev pub HasDecision : Stamp → JoinNo → Option (Stamp × List JoinNo) → Type 0
HasDecision stamp j None = ⊥
HasDecision stamp j (Some x) = (x.0 ≡ stamp) × (has_join j x.1 ≡ true)

-- a part has applied it, or is not here any more, as it was told to commit
abbrev pub IsDone : Event → State → TransId → JoinNo → Type 0
IsDone e s t j = (from : ℕ) × (stamp : Stamp) × (e ≡ event.Arrive from (msg.Commit t j stamp)) × (is_join_drawn s j ≡ true) × (live_in (s.phases j) ≡ None)

-- what is said of a join that is let in, a vote, a commit, an abort and an end is so after the entry
abbrev pub MaySay : Event → State → Message → Type 0
MaySay e s (msg.Ready t j ts) = (client : ℕ) × (s.phases j ≡ Ready t client ts)
MaySay e s (msg.Commit t j stamp) = HasDecision stamp j (decision_in (s.fates t))
MaySay e s (msg.Abort t j c) = (is_trans_drawn s t ≡ true) × MayAbort s t c (s.fates t)
MaySay e s (msg.Done t j) = IsDone e s t j
MaySay e s (msg.Joined t j) = has_join j (joins_of (s.fates t)) ≡ true
MaySay e s m = Unit {0}

abbrev pub SaysRight : Event → State → Act → Type 0
SaysRight e s (act.Sent to m) = MaySay e s m
SaysRight e s a = Unit {0}

-- the server that a message is for: the one that drew the join, or that began the transaction
abbrev pub is_for : ℕ → Message → Bool
is_for to (msg.Register t j client) = to == t.server
is_for to (msg.Joined t j) = to == j.server
is_for to (msg.JoinRefused t j) = to == j.server
is_for to (msg.Ask t j) = to == j.server
is_for to (msg.Ready t j ts) = to == t.server
is_for to (msg.No t j why) = to == t.server
is_for to (msg.Commit t j stamp) = to == j.server
is_for to (msg.Abort t j c) = to == j.server
is_for to (msg.Done t j) = to == t.server
is_for to (msg.Inquire t j) = to == t.server

abbrev pub is_message : Act → Bool
is_message (act.Sent to m) = true
is_message a = false

abbrev pub is_addressed : Act → Bool
is_addressed (act.Sent to m) = is_for to m
is_addressed a = false

-- what takes effect comes first, and then the messages, each to the server that it is for
abbrev pub sends_last : List Act → Bool
sends_last [] = true
sends_last (a ∷ acts) = if is_message a then list_all is_addressed (a ∷ acts) else sends_last acts

-- ---- what is told to clients

-- the decided transaction has the stamp, and was decided in this run
abbrev pub IsDecidedAs : Stamp → State → Type 0
IsDecidedAs stamp s = (joins : List JoinNo) × (decision_in (s.fates stamp.trans) ≡ Some (stamp, joins)) × ((d : Decided) × (entries.find stamp_cmp stamp s.holder.applied ≡ Some d))

-- how a transaction stands: decided, in this epoch or by a note; running; ended, if it is of this epoch; else nothing is
-- known of it
abbrev pub ending_of : State → TransId → Fate → Ending
ending_of s t (Committed stamp [] done) = if t.epoch == s.ids.epoch then ending.Committed stamp else ending.Unknown
ending_of s t (Committed stamp (j ∷ joins) done) = ending.Committed stamp
ending_of s t (Forgotten stamp joins) = if t.epoch == s.ids.epoch then ending.Committed stamp else ending.Unknown
ending_of s t (Running client joins) = ending.Running
ending_of s t (Finishing client joins votes) = ending.Running
ending_of s t (Ended c) = if t.epoch == s.ids.epoch then ending.Aborted else ending.Unknown
ending_of s t Undrawn = ending.Unknown

abbrev pub Outcomes : State → Call → Ending → Type 0
Outcomes s (call.Outcome t) x = (is_trans_drawn s t ≡ true) × (x ≡ ending_of s t (s.fates t))
Outcomes s c x = ⊥

abbrev pub TellsIn : State → Call → Reply → Type 0
TellsIn s c (reply.Committed stamp) = IsDecidedAs stamp s
TellsIn s (call.Begin seen) (reply.Begun t) = Unit {0}
TellsIn s c (reply.Begun t) = ⊥
TellsIn s c (reply.Ended x) = Outcomes s c x
TellsIn s c r = Unit {0}

-- of new calls; a repeat tells what was told
abbrev pub TellsDecided : State → State → Event → Option Reply → Type 0
TellsDecided before s (event.Call client epoch number c) (Some r) = Where (is_new before client epoch number) (TellsIn s c r) (Unit {0})
TellsDecided before s e r = Unit {0}

-- ---- restart

-- a decision with joins that is not forgotten
abbrev pub is_standing : Stamp → Fate → Bool
is_standing x (Committed stamp [] done) = false
is_standing x (Committed stamp (j ∷ js) done) = same_stamp stamp x
is_standing x f = false

-- each is named once
abbrev pub are_joins_apart : List JoinNo → Bool
are_joins_apart [] = true
are_joins_apart (j ∷ js) = not (has_join j js) && are_joins_apart js

abbrev pub are_stamps_apart : List Stamp → Bool
are_stamps_apart [] = true
are_stamps_apart (x ∷ xs) = not (has_stamp x xs) && are_stamps_apart xs

-- what the notes keep once all is resolved: the clock of the last commit, the ready joins, and the decisions with joins
-- that are not forgotten, each named once
pub record IsFound (s : State) (time : ℕ) (joins : List JoinNo) (stamps : List Stamp) : Type 0 where
  pub clock : time ≡ s.holder.kept
  pub once : (are_joins_apart joins && are_stamps_apart stamps) ≡ true
  pub ready : (j : JoinNo) → has_join j joins ≡ is_ready (s.phases j)
  pub decided : (x : Stamp) → has_stamp x stamps ≡ is_standing x (s.fates x.trans)

abbrev pub Regains : State → List Act → Type 0
Regains s (act.Regained epoch clock ready stamps ∷ []) = (epoch ≡ s.ids.epoch + 1) × IsFound (state_after state_deed s (resolved s ready clock stamps)) clock ready stamps
Regains s acts = ⊥

abbrev pub regained_by : Act → Bool
regained_by (act.Regained epoch clock ready stamps) = true
regained_by a = false

-- a restart finds all that is stable and brings nothing else about; a server that is down does nothing but start again
abbrev pub StartsRight : State → Entry → Event → Type 0
StartsRight s e event.Restart = Regains s e.acts × (e.reply ≡ None)
StartsRight s e x = (list_any regained_by e.acts ≡ false) × (s.is_down ≡ false)

-- ---- a stopped entry

-- its last act is the stop, and at most one write stands before it
abbrev pub is_written : Act → Bool
is_written (act.Readied t j ts) = true
is_written (act.Applied j stamp) = true
is_written (act.Decided stamp joins) = true
is_written (act.Forgot t) = true
is_written a = false

abbrev pub IsStopped : List Act → Type 0
IsStopped (a ∷ []) = is_stop a ≡ true
IsStopped (a ∷ b ∷ []) = (is_written a ≡ true) × (is_stop b ≡ true)
IsStopped acts = ⊥

-- whoever gave the event is told that the server is down
abbrev pub TellsStop : Event → Option Reply → Type 0
TellsStop e r = r ≡ Some (reply.Refused refusal.Down)

abbrev pub StopsRight : Entry → Type 0
StopsRight e = Where (stops e) (IsStopped e.acts × TellsStop e.event e.reply) (Unit {0})

-- ---- an entry, and a journal

-- the laws on what comes about, each of one deed in the state where it does
pub record IsLawfulDeed (e : Event) (s : State) (d : Deed) : Type 0 where
  pub counts : CountsOn s d
  pub view : SeesView e s d
  pub locks : KeepsLocks s d
  pub running : IsOfOpenPart s d
  pub registration : RegistersOnce e s d
  pub vote : VotesOnce e s d
  pub decision : DecidesRight e s d
  pub application : AppliesRight e s d
  pub forgetting : ForgetsRight e s d

-- what a restart resolves was lawful when it was tried
abbrev pub DeedsAreLawful : State → Entry → Event → Type 0
DeedsAreLawful s e event.Restart = Unit {0}
DeedsAreLawful s e x = Along state_deed (IsLawfulDeed x) s (tried s e)

pub record IsLawfulEntry (s : State) (e : Entry) : Type 0 where
  pub drawn : DrawsAsTold s e
  pub sessions : KeepsSessions s e e.event
  pub deeds : DeedsAreLawful s e e.event
  pub agree : DoLivesAgree (next s e).holder.lives
  pub released : LetsGo s e e.event
  pub sent : sends_last e.acts ≡ true
  pub said : AllByRecursion (SaysRight e.event (next s e)) e.acts
  pub told : TellsDecided s (next s e) e.event e.reply
  pub restart : StartsRight s e e.event
  pub stopped : StopsRight e

abbrev pub IsLawful : Start → List Entry → Type 0
IsLawful o journal = Along next IsLawfulEntry (opened o) journal
