-- What an entry sends: just what its event calls for, each message once. Whether a read of the device failed at a vote is no
-- part of a journal, so it is given.
use Rattle.std.specs.Prelude.{ℕ, ◌+◌, ◌-◌, ◌*◌, ◌^◌, max, Bool, true, false, not, ◌==◌, ◌&&◌, ◌||◌, nat_lt, List, [], ◌∷◌, ◌++◌, filter, flat_map, Option, None, Some, is_some, is_none, if◌then◌else◌, map as list_map, length, ◌≡◌}
use Rattle.std.specs.List.Sorted.{IsPermutation}
use Rattle.alp_base.specs.declared.ids.JoinNo.{JoinNo}
use Rattle.alp_base.specs.declared.ids.TransId.{TransId}
use Rattle.alp_base.specs.declared.ids.Stamp.{Stamp}
use Rattle.alp_files.specs.declared.call.Call.{Call}
use Rattle.alp_files.specs.declared.call.Call.TheVariants as call
use Rattle.alp_files.specs.declared.reply.Reply.{Reply}
use Rattle.alp_files.specs.declared.refusal.Why.{Why}
use Rattle.alp_files.specs.declared.refusal.Why.TheVariants as why
use Rattle.alp_files.specs.declared.refusal.Cause.{Cause}
use Rattle.alp_files.specs.declared.refusal.Cause.TheVariants as cause
use Rattle.alp_files.specs.Needs.{changed}
use Rattle.alp_journal.specs.declared.act.Act.{Act}
use Rattle.alp_journal.specs.declared.act.Act.TheVariants as act
use Rattle.alp_journal.specs.declared.event.Event.{Event}
use Rattle.alp_journal.specs.declared.event.Event.TheVariants as event
use Rattle.alp_journal.specs.declared.message.Message.{Message}
use Rattle.alp_journal.specs.declared.message.Message.TheVariants as msg
use Rattle.alp_journal.specs.declared.entry.Entry.{Entry}
use Rattle.alp_journal.specs.Along.{Where}
use Rattle.alp_journal.specs.Ids.{same_trans, has_join, has_server}
use Rattle.alp_journal.specs.Coordinator.{Fate, Undrawn, Running, Finishing, Committed, Forgotten, Ended, voted, Vote, with_vote}
use Rattle.alp_journal.specs.Participant.{Phase, Joining, Active, Ready, live_in}
use Rattle.alp_journal.specs.Holder.{Life}
use Rattle.alp_journal.specs.Desk.{waiting_of}
use Rattle.alp_journal.specs.Counts.{weight, ready_sum}
use Rattle.alp_journal.specs.State.{State, is_trans_drawn, is_join_drawn, is_other_server}
use Rattle.alp_journal.specs.Moves.{is_new, call_deeds, stops, next}
use Rattle.alp_journal.specs.Deeds.{Deed, Joins}
use Rattle.std.specs.List.{list_all}
use Rattle.std.specs.Ordering.{is_gt}
use Rattle.alp_base.specs.Orders.{trans_cmp}

-- a message and the server that it is for
abbrev pub Mail : Type 0
Mail = ℕ × Message

abbrev pub sent_by : Act → List Mail
sent_by (act.Sent to m) = (to, m) ∷ []
sent_by a = []

-- ---- to the parts of a transaction

abbrev pub to_each : (JoinNo → Message) → List JoinNo → List Mail
to_each f js = list_map (λ (j : JoinNo). (j.server, f j)) js

-- ---- a call

abbrev pub asks_to_join : Deed → List Mail
asks_to_join (Joins j t client who) = (t.server, msg.Register t j client) ∷ []
asks_to_join d = []

-- a Finish with commit asks each part for its vote, and one with abort tells them
abbrev pub on_finish : TransId → Bool → ℕ → Bool → Fate → List Mail
on_finish t true client is_idle (Running c js) = if c == client && is_idle then to_each (msg.Ask t) js else []
on_finish t false client is_idle (Running c js) = if c == client then to_each (λ j. msg.Abort t j cause.Asked) js else []
on_finish t commit client is_idle f = []

abbrev pub on_call : State → ℕ → Call → Reply → List Mail
on_call s client (call.Join t) r = flat_map asks_to_join (call_deeds s client (call.Join t) r)
on_call s client (call.Finish t commit) r = on_finish t commit client (is_none (waiting_of s.desk client t)) (s.fates t)
on_call s client c r = []

-- ---- a vote

-- the weights of all ready parts, and the greatest room that one of them needs to be applied
abbrev pub part_cells : Option Life → ℕ
part_cells None = 0
part_cells (Some l) = changed l.edits

abbrev pub trans_ready : Phase → List TransId
trans_ready (Ready t client ts) = t ∷ []
trans_ready p = []

abbrev pub all_ready : State → List TransId
all_ready s = flat_map (λ j. trans_ready (s.phases j)) s.joined

abbrev pub weight_of : State → TransId → ℕ
weight_of s t = weight (part_cells (s.holder.lives t)) (length (s.locked t))

abbrev pub weights : State → List TransId → ℕ
weights s [] = 0
weights s (t ∷ ts) = weight_of s t + weights s ts

abbrev pub applying : State → TransId → ℕ
applying s t = 4 * part_cells (s.holder.lives t) + 4

abbrev pub greatest : State → List TransId → ℕ
greatest s [] = 0
greatest s (t ∷ ts) = max (applying s t) (greatest s ts)

-- what is in the way of a vote for the commit, if something is: a call that waits, the end of the clock, no room, or a read
-- that failed
abbrev pub clock_end : ℕ
clock_end = 2 ^ 62

abbrev pub no_room : (area before after : ℕ) → Option Why
no_room area before after = if nat_lt area after then Some (why.LogFull (area - before) (after - before)) else None

abbrev pub full_or : Bool → Option Why → Option Why
full_or failed None = if failed then Some why.ReadFault else None
full_or failed (Some w) = Some w

abbrev pub first_why : Bool → Bool → Bool → Option Why → Option Why
first_why failed waits is_end full = if waits then Some why.Waiting else if is_end then Some why.ClockEnd else full_or failed full

-- of a part here of another server's transaction, with all that are ready
abbrev pub why_not : Bool → State → ℕ → TransId → Option Why
why_not failed s client t =
    first_why failed (is_some (waiting_of s.desk client t)) (s.holder.clock == clock_end)
    (no_room s.sizes.area (ready_sum (weights s (all_ready s)) (greatest s (all_ready s))) (ready_sum (weights s (t ∷ all_ready s)) (greatest s (t ∷ all_ready s))))

-- of the part of one of its own
abbrev pub why_not_own : Bool → State → TransId → Option Why
why_not_own failed s t = first_why failed false (s.holder.clock == clock_end) (no_room s.sizes.area (ready_sum (weights s (all_ready s)) 0) (ready_sum (weights s (all_ready s)) (applying s t)))

abbrev pub vote_on : State → TransId → JoinNo → ℕ → Option Why → Message
vote_on s t j client None = msg.Ready t j (s.holder.clock + 1)
vote_on s t j client (Some w) = msg.No t j w

-- ---- a message

-- What answers a message goes to the server that drew the join, or that began the transaction, whoever it came from; where
-- that is no other server of the run nothing is said (`to_others`).

-- only the first join of another server is let in, and of the transaction's own client
abbrev pub may_join : State → JoinNo → ℕ → Fate → Bool
may_join s j client (Running c js) = c == client && is_other_server s j.server && (has_join j js || not (has_server j.server js))
may_join s j client f = false

abbrev pub on_register : State → TransId → JoinNo → ℕ → List Mail
on_register s t j client =
    if not (is_trans_drawn s t) then [] else if may_join s j client (s.fates t) then (j.server, msg.Joined t j) ∷ [] else (j.server, msg.JoinRefused t j) ∷ []

abbrev pub unknown_join : State → TransId → JoinNo → List Mail
unknown_join s t j = if is_join_drawn s j then (t.server, msg.No t j why.UnknownJoin) ∷ [] else []

-- a ready part says its vote again, an active one votes, one that still joins votes against, and one that is not here too
abbrev pub on_ask : Bool → State → TransId → JoinNo → Phase → List Mail
on_ask failed s t j (Ready u client ts) = if same_trans u t then (t.server, msg.Ready t j ts) ∷ [] else unknown_join s t j
on_ask failed s t j (Active u client who) = if same_trans u t then (t.server, vote_on s t j client (why_not failed s client t)) ∷ [] else unknown_join s t j
on_ask failed s t j (Joining u client who) = if same_trans u t then (t.server, msg.No t j why.Waiting) ∷ [] else unknown_join s t j
on_ask failed s t j p = unknown_join s t j

-- with the last vote the transaction is decided, or ends by this server's own; the parts are told
abbrev pub has_all_votes : JoinNo → ℕ → List JoinNo → List Vote → Bool
has_all_votes j ts js vs = has_join j js && list_all (λ k. voted k (with_vote j ts vs)) js

abbrev pub on_votes : TransId → Fate → List Mail
on_votes t (Committed stamp js ds) = to_each (λ j. msg.Commit t j stamp) js
on_votes t f = []

abbrev pub own_vote : State → State → TransId → List JoinNo → Option Why → List Mail
own_vote s m t js None = on_votes t (m.fates t)
own_vote s m t js (Some w) = to_each (λ k. msg.Abort t k (cause.Voted s.holder.server w)) js

abbrev pub on_ready : State → State → TransId → JoinNo → ℕ → Option Why → Fate → List Mail
on_ready s m t j ts w (Finishing client js vs) = if has_all_votes j ts js vs then own_vote s m t js w else []
on_ready s m t j ts w f = []

abbrev pub on_no : TransId → JoinNo → Why → Fate → List Mail
on_no t j w (Finishing client js vs) = if has_join j js then to_each (λ k. msg.Abort t k (cause.Voted j.server w)) js else []
on_no t j w f = []

-- what is applied is done, and so is what is not here any more
abbrev pub on_commit : State → State → TransId → JoinNo → List Mail
on_commit s m t j = if is_join_drawn s j && is_none (live_in (m.phases j)) then (t.server, msg.Done t j) ∷ [] else []

abbrev pub lost_or : State → TransId → Cause → Cause
lost_or s t c = if t.epoch == s.ids.epoch then c else cause.Lost s.ids.epoch

abbrev pub commit_to : TransId → JoinNo → Stamp → List JoinNo → List Mail
commit_to t j stamp js = if has_join j js then (j.server, msg.Commit t j stamp) ∷ [] else []

-- how a transaction ended, where it did
abbrev pub on_inquire : State → TransId → JoinNo → Fate → List Mail
on_inquire s t j (Running client js) = []
on_inquire s t j (Finishing client js vs) = []
on_inquire s t j (Committed stamp [] ds) = if t.epoch == s.ids.epoch then [] else (j.server, msg.Abort t j (cause.Lost s.ids.epoch)) ∷ []
on_inquire s t j (Committed stamp (k ∷ js) ds) = commit_to t j stamp (k ∷ js)
on_inquire s t j (Forgotten stamp js) = if t.epoch == s.ids.epoch then commit_to t j stamp js else (j.server, msg.Abort t j (cause.Lost s.ids.epoch)) ∷ []
on_inquire s t j (Ended c) = (j.server, msg.Abort t j (lost_or s t c)) ∷ []
on_inquire s t j Undrawn = (j.server, msg.Abort t j (cause.Lost s.ids.epoch)) ∷ []

abbrev pub on_message : Bool → State → State → Message → List Mail
on_message failed s m (msg.Register t j client) = on_register s t j client
on_message failed s m (msg.Ask t j) = on_ask failed s t j (s.phases j)
on_message failed s m (msg.Ready t j ts) = on_ready s m t j ts (why_not_own failed s t) (s.fates t)
on_message failed s m (msg.No t j w) = on_no t j w (s.fates t)
on_message failed s m (msg.Commit t j stamp) = on_commit s m t j
on_message failed s m (msg.Inquire t j) = if is_trans_drawn s t then on_inquire s t j (s.fates t) else []
on_message failed s m x = []

-- ---- a timeout, and a tick

abbrev pub on_timeout : TransId → Fate → List Mail
on_timeout t (Running client js) = to_each (λ j. msg.Abort t j cause.TimedOut) js
on_timeout t (Finishing client js vs) = to_each (λ j. msg.Abort t j cause.TimedOut) js
on_timeout t f = []

-- what was not answered is said again: registers, then asks, then commits, then inquiries
abbrev pub register_again : JoinNo → Phase → List Mail
register_again j (Joining t client who) = (t.server, msg.Register t j client) ∷ []
register_again j p = []

abbrev pub inquire_again : JoinNo → Phase → List Mail
inquire_again j (Ready t client ts) = (t.server, msg.Inquire t j) ∷ []
inquire_again j p = []

abbrev pub ask_again : TransId → Fate → List Mail
ask_again t (Finishing client js vs) = to_each (msg.Ask t) (filter (λ j. not (voted j vs)) js)
ask_again t f = []

abbrev pub commit_again : TransId → Fate → List Mail
commit_again t (Committed stamp js ds) = to_each (λ j. msg.Commit t j stamp) (filter (λ j. not (has_join j ds)) js)
commit_again t f = []

abbrev pub on_tick : State → List Mail
on_tick s =
    flat_map (λ j. register_again j (s.phases j)) s.joined ++ flat_map (λ t. ask_again t (s.fates t)) s.begun
    ++ flat_map (λ t. commit_again t (s.fates t)) s.begun ++ flat_map (λ j. inquire_again j (s.phases j)) s.joined

-- in this order of kinds, and each kind by its transactions
abbrev pub kind_of : Message → ℕ
kind_of (msg.Register t j client) = 0
kind_of (msg.Ask t j) = 1
kind_of (msg.Commit t j stamp) = 2
kind_of m = 3

abbrev pub trans_in : Message → TransId
trans_in (msg.Register t j client) = t
trans_in (msg.Joined t j) = t
trans_in (msg.JoinRefused t j) = t
trans_in (msg.Ask t j) = t
trans_in (msg.Ready t j ts) = t
trans_in (msg.No t j w) = t
trans_in (msg.Commit t j stamp) = t
trans_in (msg.Abort t j c) = t
trans_in (msg.Done t j) = t
trans_in (msg.Inquire t j) = t

abbrev pub is_before : Mail → Mail → Bool
is_before a b = nat_lt (kind_of a.1) (kind_of b.1) || (kind_of a.1 == kind_of b.1 && not (is_gt (trans_cmp (trans_in a.1) (trans_in b.1))))

abbrev pub are_in_order : List Mail → Bool
are_in_order [] = true
are_in_order (a ∷ as_) = list_all (is_before a) as_ && are_in_order as_

abbrev pub TicksInOrder : Entry → Event → Type 0
TicksInOrder e event.Tick = are_in_order (flat_map sent_by e.acts) ≡ true
TicksInOrder e x = Unit {0}

-- ---- an entry

-- what goes to another server of the run. Only what no lawful server sent names this one, or one that is none of the run; and
-- a note may, of a run that had more of them.
abbrev pub to_others : State → List Mail → List Mail
to_others s ms = filter (λ (a : Mail). is_other_server s a.0) ms

abbrev pub due : Bool → State → State → Event → Option Reply → List Mail
due failed s m (event.Call client epoch number c) (Some r) = if is_new s client epoch number then on_call s client c r else []
due failed s m (event.Arrive from x) r = to_others s (on_message failed s m x)
due failed s m (event.Timeout t) r = on_timeout t (s.fates t)
due failed s m event.Tick r = to_others s (on_tick s)
due failed s m e r = []

-- nothing more is sent than is due, and nothing less, where nothing stopped
abbrev pub SendsDue : Bool → State → Entry → Type 0
SendsDue failed s e = Where (stops e) (Unit {0}) (IsPermutation (due failed s (next s e) e.event e.reply) (flat_map sent_by e.acts))
