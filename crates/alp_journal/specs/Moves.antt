-- What an entry brings about, and the state that it leaves.
use Rattle.std.specs.Prelude.{ℕ, ◌+◌, Bool, true, false, not, ◌==◌, ◌&&◌, ◌||◌, nat_le, List, [], ◌∷◌, ◌++◌, filter, flat_map, Option, None, Some, is_none, if◌then◌else◌}
use Rattle.std.specs.List.{list_any}
use Rattle.std.specs.Option.{option_or}
use Rattle.alp_base.specs.declared.ids.FileId.{FileId}
use Rattle.alp_base.specs.declared.ids.JoinNo.{JoinNo}
use Rattle.alp_base.specs.declared.ids.TransId.{TransId}
use Rattle.alp_base.specs.declared.ids.Stamp.{Stamp}
use Rattle.alp_files.specs.declared.call.Call.{Call}
use Rattle.alp_files.specs.declared.call.Call.TheVariants as call
use Rattle.alp_files.specs.declared.reply.Reply.{Reply}
use Rattle.alp_files.specs.declared.reply.Reply.TheVariants as reply
use Rattle.alp_files.specs.declared.refusal.Refusal.TheVariants as refusal
use Rattle.alp_files.specs.declared.refusal.Cause.{Cause}
use Rattle.alp_files.specs.declared.refusal.Cause.TheVariants as cause
use Rattle.alp_files.specs.Passing.{is_passing}
use Rattle.alp_journal.specs.declared.act.Act.{Act}
use Rattle.alp_journal.specs.declared.act.Act.TheVariants as act
use Rattle.alp_journal.specs.declared.event.Event.{Event}
use Rattle.alp_journal.specs.declared.event.Event.TheVariants as event
use Rattle.alp_journal.specs.declared.message.Message.{Message}
use Rattle.alp_journal.specs.declared.message.Message.TheVariants as msg
use Rattle.alp_journal.specs.declared.entry.Entry.{Entry}
use Rattle.alp_journal.specs.Along.{state_after}
use Rattle.alp_journal.specs.Ids.{same_trans, same_join, has_join}
use Rattle.alp_journal.specs.Deeds.{Deed, Begins, Joins, Enters, Quits, Aborts, Grants, Performs, Releases, Readies, Applies, Registers, Finishes, Hears, Decides, Ends, Acknowledges, Forgets, Restarts}
use Rattle.alp_journal.specs.Coordinator.{Fate, Running, Finishing, Committed, client_of}
use Rattle.alp_journal.specs.Participant.{Phase, Joining, live_in, open_in}
use Rattle.alp_journal.specs.Holder.{Life}
use Rattle.alp_journal.specs.Desk.{Desk, Session, Waiting, file_trans, is_of, is_called, is_not_yet, waiting_of, waiting_at, waits_after, with_session}
use Rattle.alp_journal.specs.State.{State, state_deed, is_file_drawn, has_part}

-- ---- calls of a session

-- the call has the number after the last one of this epoch's session
abbrev pub follows : ℕ → ℕ → ℕ → Option Session → Bool
follows now epoch number None = false
follows now epoch number (Some w) = epoch == now && number == w.last + 1

abbrev pub is_new : State → ℕ → ℕ → ℕ → Bool
is_new s client epoch number = follows s.ids.epoch epoch number (s.desk.sessions client)

abbrev pub who_is : Option Session → List ℕ
who_is None = []
who_is (Some w) = w.who

abbrev pub principal : State → ℕ → List ℕ
principal s client = who_is (s.desk.sessions client)

-- ---- the ids that come next

abbrev pub next_trans : State → TransId
next_trans s = record { server = s.holder.server; epoch = s.ids.epoch; counter = s.ids.transactions + 1 }

abbrev pub next_join : State → JoinNo
next_join s = record { server = s.holder.server; epoch = s.ids.epoch; counter = s.ids.joins + 1 }

abbrev pub next_file : State → FileId
next_file s = record { server = s.holder.server; epoch = s.ids.epoch; counter = s.ids.files + 1 }

-- ---- what a call brings about by itself

abbrev pub joins_here : State → ℕ → TransId → List Deed
joins_here s client t = if has_part s client t then [] else Joins (next_join s) t client (principal s client) ∷ []

-- a Finish that is answered so ends its transaction by this server's own vote
abbrev pub ends_by : TransId → ℕ → Reply → List Deed
ends_by t client (reply.Refused (refusal.Aborted c)) = Ends t client c ∷ []
ends_by t client r = []

-- a running transaction is finished, and one whose part has a call that waits is not
abbrev pub finishes : Desk → ℕ → TransId → Bool → Reply → Fate → List Deed
finishes desk client t false r (Running c js) = if c == client then Ends t client cause.Asked ∷ [] else []
finishes desk client t true r (Running c js) = if c == client && is_none (waiting_of desk client t) then Finishes t ∷ ends_by t client r else []
finishes desk client t commit r f = []

abbrev pub call_deeds : State → ℕ → Call → Reply → List Deed
call_deeds s client (call.Join t) r = if is_not_yet r then joins_here s client t else []
call_deeds s client (call.Finish t commit) r = finishes s.desk client t commit r (s.fates t)
call_deeds s client c r = []

-- ---- what a message brings about by itself

-- why this server sends that a part is aborted, or that it votes against it, if it does
abbrev pub abort_in : TransId → Message → Option Cause
abort_in t (msg.Abort u j c) = if same_trans u t then Some c else None
abort_in t m = None

abbrev pub no_in : ℕ → JoinNo → Message → Option Cause
no_in here j (msg.No u k why) = if same_join k j then Some (cause.Voted here why) else None
no_in here j m = None

abbrev pub first_sent : (Message → Option Cause) → List Act → Option Cause
first_sent f [] = None
first_sent f (act.Sent to m ∷ acts) = option_or (f m) (first_sent f acts)
first_sent f (a ∷ acts) = first_sent f acts

abbrev pub ends_for : TransId → ℕ → Option Cause → List Deed
ends_for t client None = []
ends_for t client (Some c) = Ends t client c ∷ []

abbrev pub quits_for : JoinNo → TransId → ℕ → Option Cause → List Deed
quits_for j t client None = []
quits_for j t client (Some c) = Quits j t client (Some c) ∷ []

-- A part is let in, unless one of its transaction is here already, or a call on files still waits on it. Such a call is of a part
-- that ended, of another client, who has not been told: it would stand among the calls of the part that enters, as if that one had
-- made it. A transaction has one client, and its coordinator lets in that one's joins alone, so no lawful word is passed over.
abbrev pub enters : JoinNo → TransId → Option Life → List Waiting → Phase → List Deed
enters j t None ws (Joining u client who) = if same_trans u t && not (is_called t ws) then Enters j t client who ∷ [] else []
enters j t l ws p = []

abbrev pub refused_join : JoinNo → TransId → Phase → List Deed
refused_join j t (Joining u client who) = if same_trans u t then Quits j t client None ∷ [] else []
refused_join j t p = []

-- the join is this transaction's: what comes about then
abbrev pub if_its : TransId → Option (TransId × ℕ) → (ℕ → List Deed) → List Deed
if_its t None next = []
if_its t (Some x) next = if same_trans x.0 t then next x.1 else []

abbrev pub hears : State → List Act → TransId → JoinNo → ℕ → Fate → List Deed
hears s acts t j ts (Finishing client js vs) = if has_join j js then Hears t j ts ∷ ends_for t client (first_sent (abort_in t) acts) else []
hears s acts t j ts f = []

abbrev pub refuses : TransId → JoinNo → Cause → Fate → List Deed
refuses t j c (Finishing client js vs) = if has_join j js then Ends t client c ∷ [] else []
refuses t j c f = []

abbrev pub acknowledges : TransId → JoinNo → Fate → List Deed
acknowledges t j (Committed stamp js ds) = if has_join j js then Acknowledges t j ∷ [] else []
acknowledges t j f = []

abbrev pub message_deeds : State → List Act → Message → List Deed
message_deeds s acts (msg.Joined t j) = enters j t (s.holder.lives t) s.desk.waits (s.phases j)
message_deeds s acts (msg.JoinRefused t j) = refused_join j t (s.phases j)
message_deeds s acts (msg.Ask t j) = if_its t (open_in (s.phases j)) (λ client. quits_for j t client (first_sent (no_in s.holder.server j) acts))
message_deeds s acts (msg.Ready t j ts) = hears s acts t j ts (s.fates t)
message_deeds s acts (msg.No t j why) = refuses t j (cause.Voted j.server why) (s.fates t)
message_deeds s acts (msg.Abort t j c) = if_its t (live_in (s.phases j)) (λ client. Aborts j t client c ∷ [])
message_deeds s acts (msg.Done t j) = acknowledges t j (s.fates t)
message_deeds s acts m = []

-- ---- a timeout

abbrev pub times_out_here : TransId → Option ℕ → List Deed
times_out_here t None = []
times_out_here t (Some client) = Ends t client cause.TimedOut ∷ []

abbrev pub times_out_join : State → TransId → JoinNo → List Deed
times_out_join s t j = if_its t (open_in (s.phases j)) (λ client. Quits j t client (Some cause.TimedOut) ∷ [])

-- ---- what the event brings about before all acts

abbrev pub event_deeds : State → Event → Option Reply → List Act → List Deed
event_deeds s (event.Call client epoch number c) (Some r) acts = if is_new s client epoch number then call_deeds s client c r else []
event_deeds s (event.Arrive from m) r acts = message_deeds s acts m
event_deeds s (event.Timeout t) r acts = times_out_here t (client_of (s.fates t)) ++ flat_map (times_out_join s t) s.joined
event_deeds s e r acts = []

-- ---- what the acts bring about

-- the call of the part that waits for its locks
abbrev pub ungranted : Option Waiting → Option Call
ungranted None = None
ungranted (Some w) = if w.is_granted || is_none (file_trans w.call) then None else Some w.call

-- the call of the part that came just now
abbrev pub call_now : Event → TransId → ℕ → Option Call
call_now (event.Call client epoch number c) t owner = if client == owner && is_of t (file_trans c) then Some c else None
call_now e t owner = None

-- the call that the part asks its locks for: one that waits for them, or else the one that came
abbrev pub asks_for : State → Event → TransId → Option Life → Option Call
asks_for s e t None = None
asks_for s e t (Some l) = option_or (ungranted (waiting_of s.desk l.client t)) (call_now e t l.client)

abbrev pub grants_to : TransId → Option Call → List Deed
grants_to t None = []
grants_to t (Some c) = Grants t c ∷ []

abbrev pub begins_at : State → Event → TransId → List Deed
begins_at s (event.Call client epoch number (call.Begin seen)) t = Begins t client (principal s client) seen.ts ∷ []
begins_at s e t = []

-- What a restart finds tells which of the commits that a stopped server tried have come about. What led to them is as it
-- was tried, and all else is lost.
abbrev pub is_effective : List JoinNo → ℕ → List Stamp → Deed → Bool
is_effective ready clock stamps (Readies j t ts) = has_join j ready
is_effective ready clock stamps (Applies j stamp) = not (has_join j ready)
is_effective ready clock stamps (Aborts j t client c) = not (has_join j ready)
is_effective ready clock stamps (Decides stamp js) = nat_le stamp.ts clock
is_effective ready clock stamps (Forgets t) = not (list_any (λ (x : Stamp). same_trans x.trans t) stamps)
is_effective ready clock stamps (Finishes t) = true
is_effective ready clock stamps (Hears t j ts) = true
is_effective ready clock stamps (Acknowledges t j) = true
is_effective ready clock stamps d = false

abbrev pub resolved : State → List JoinNo → ℕ → List Stamp → List Deed
resolved s ready clock stamps = filter (is_effective ready clock stamps) s.pending

abbrev pub act_deeds : State → Event → Act → List Deed
act_deeds s e (act.Granted t) = grants_to t (asks_for s e t (s.holder.lives t))
act_deeds s e (act.Drawn t) = begins_at s e t
act_deeds s e (act.Registered t j) = Registers t j ∷ []
act_deeds s e (act.Readied t j ts) = Readies j t ts ∷ []
act_deeds s e (act.Decided stamp js) = Decides stamp js ∷ []
act_deeds s e (act.Applied j stamp) = Applies j stamp ∷ []
act_deeds s e (act.Released t) = Releases t ∷ []
act_deeds s e (act.Forgot t) = Forgets t ∷ []
act_deeds s e (act.Regained epoch clock ready stamps) = resolved s ready clock stamps ++ Restarts epoch clock ∷ []
act_deeds s e (act.Sent to m) = []
act_deeds s e act.Stopped = []
act_deeds s e act.Failed = []

-- ---- the file call that an entry performs

-- an open of a file whose id was never given is refused before all locks, and is not performed
abbrev pub is_of_no_file : State → Call → Reply → Bool
is_of_no_file s (call.OpenFile t f access mode choice) (reply.Refused refusal.UnknownFile) = not (is_file_drawn s f)
is_of_no_file s c r = false

abbrev pub call_of : Option Waiting → Option Call
call_of None = None
call_of (Some w) = Some w.call

-- the call that an answer is for: the one that came, or the one that waits
abbrev pub answered : State → ℕ → Call → Option Call
answered s client (call.Collect n) = call_of (waiting_at s.desk client n)
answered s client c = Some c

abbrev pub done_by : State → Call → Reply → Option TransId → List Deed
done_by s c r None = []
done_by s c r (Some t) = if is_passing r || is_of_no_file s c r then [] else Performs t (record { call = c; reply = r }) ∷ []

abbrev pub done_of : State → Reply → Option Call → List Deed
done_of s r None = []
done_of s r (Some c) = done_by s c r (file_trans c)

abbrev pub done_deeds : State → Event → Option Reply → List Deed
done_deeds s (event.Call client epoch number c) (Some r) = if is_new s client epoch number then done_of s r (answered s client c) else []
done_deeds s e r = []

-- ---- an entry

-- the device stopped or failed
abbrev pub is_stop : Act → Bool
is_stop act.Stopped = true
is_stop act.Failed = true
is_stop a = false

abbrev pub stops : Entry → Bool
stops e = list_any is_stop e.acts

-- what an entry brings about, if nothing stops it
abbrev pub tried : State → Entry → List Deed
tried s e = event_deeds s e.event e.reply e.acts ++ flat_map (act_deeds s e.event) e.acts ++ done_deeds s e.event e.reply

-- a session begins where there is none
abbrev pub greeted : Desk → ℕ → ℕ → ℕ → List ℕ → Reply → Option Session → Desk
greeted desk client epoch number name r (Some w) = desk
greeted desk client epoch number name r None =
    if epoch == 0 && number == 1 then with_session desk client (Some (record { who = name; last = 1; reply = r })) else desk

abbrev pub counted : Desk → (TransId → Bool) → ℕ → ℕ → Call → Reply → Option Session → Desk
counted desk is_live client number c r None = desk
counted desk is_live client number c r (Some w) = waits_after (with_session desk client (Some (record w { last = number; reply = r }))) is_live client number c r

-- the desk after an answer, in the state that all else has left
abbrev pub desk_told : State → Event → Option Reply → Desk
desk_told s (event.Call client epoch number (call.Hello name)) (Some r) = greeted s.desk client epoch number name r (s.desk.sessions client)
desk_told s (event.Call client epoch number c) (Some r) =
    if is_new s client epoch number then counted s.desk (has_part s client) client number c r (s.desk.sessions client) else s.desk
desk_told s e r = s.desk

-- all that an entry brings about
abbrev pub did : State → Entry → State
did s e = state_after state_deed s (tried s e)

-- what comes about by a call comes before its answer
abbrev pub told : State → Entry → State
told s e = record (did s e) { desk = desk_told (did s e) e.event e.reply; is_down = false; pending = [] }

-- a stopped server is down, and what it tried is to be seen at the restart
abbrev pub halted : State → Entry → State
halted s e = record s { is_down = true; pending = tried s e }

abbrev pub next : State → Entry → State
next s e = if stops e then halted s e else told s e
