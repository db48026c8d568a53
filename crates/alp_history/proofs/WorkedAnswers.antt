-- rows of one server, answered as the laws on answers say, and answered wrongly
use Rattle.std.specs.Prelude.{ℕ, codes, true, false, cond, Bool, flat_map, ◌++◌}
use Rattle.std.specs.List.Sorted.{IsPermutation}
use Rattle.std.proofs.Common.{ap, sym, ◌∙◌, ◌≡◌, ◌<◌, List, [], ◌∷◌, Option, None, Some, refl, inl, inr, arith}
use Rattle.alp_base.specs.declared.ids.TransId.{TransId}
use Rattle.alp_files.specs.declared.call.Call.{Call}
use Rattle.alp_files.specs.declared.call.Call.TheVariants as call
use Rattle.alp_files.specs.declared.reply.Reply.{Reply}
use Rattle.alp_files.specs.declared.reply.Reply.TheVariants as reply
use Rattle.alp_files.specs.declared.reply.Ended.TheVariants as ending
use Rattle.alp_files.specs.declared.refusal.Refusal.TheVariants as refusal
use Rattle.alp_files.specs.declared.refusal.Cause.TheVariants as cause
use Rattle.alp_files.specs.declared.refusal.What.TheVariants as what
use Rattle.alp_files.specs.declared.refusal.Why.TheVariants as why
use Rattle.alp_base.specs.declared.choices.Choice.{Choice}
use Rattle.alp_base.specs.declared.choices.Choice.TheVariants as choice
use Rattle.alp_base.specs.declared.choices.Access.TheVariants as access
use Rattle.alp_base.specs.declared.key.Key.TheVariants.{Leader}
use Rattle.alp_base.specs.declared.key.Resource.TheVariants.{Leaf, Whole}
use Rattle.alp_modes.specs.Modes.{leaf_of, covers_of}
use Rattle.alp_modes.specs.declared.Mode.TheVariants as mode
use Rattle.alp_files.specs.Holdings.{held_by}
use Rattle.alp_files.specs.Locks.{Need}
use Rattle.alp_journal.specs.declared.act.Act.{Act}
use Rattle.alp_journal.specs.declared.act.Act.TheVariants as act
use Rattle.alp_journal.specs.declared.event.Event.TheVariants as event
use Rattle.alp_journal.specs.declared.message.Message.TheVariants as msg
use Rattle.alp_journal.specs.declared.entry.Entry.{Entry}
use Rattle.alp_journal.specs.Along.{state_after}
use Rattle.alp_journal.specs.Coordinator.{Fate, Undrawn, begun, finishing, decided, has_votes}
use Rattle.alp_journal.specs.Participant.{Ready, Applied}
use Rattle.alp_journal.specs.State.{State, opened}
use Rattle.alp_journal.specs.Moves.{next}
use Rattle.alp_journal.specs.Laws.{KeepsSessions, StopsRight}
use Rattle.alp_journal.specs.Messages.{Mail, due, sent_by, are_in_order}
use Rattle.alp_journal.specs.Answers.{AnswersRight}
use Rattle.alp_journal.specs.Answered.{AppliesTold, is_all_done, GrantsAtOnce, GivesOn, IsAnsweredEntry, IsAnswered, IsWalk, IsWaitingFor, at_release, is_conversion_of, shows_fault}
use Rattle.alp_journal.specs.Halts.{HaltsRight}
use Rattle.alp_journal.specs.Ids.{same_trans}
use Rattle.alp_journal.specs.Holder.{Holder, Life, new_life}
use Rattle.alp_journal.specs.Desk.{Waiting}
use Rattle.alp_journal.specs.Laws.{IsFree}
use Rattle.alp_history.specs.Examples.{trans, join, stamp, nothing_seen, new, calls, arrives}
use Rattle.alp_history.specs.WrongJournals.{first_file}
use Rattle.alp_history.proofs.Places.{in-list}
use Rattle.std.specs.FinMap.{len-empty}
use Rattle.alp_base.specs.KeyLaws.{file_cmp}
use Rattle.alp_base.specs.Keys.{key_cmp}
use Rattle.alp_base.specs.declared.cell.Cell.{Cell}
use Rattle.alp_files.specs.Needs.{changed}
use Rattle.alp_journal.specs.Halts.{written}

-- ---- a transaction of one server

abbrev hello : Entry
hello = calls 0 1 (call.Hello (codes "Admin")) (reply.Welcome 1) []

abbrev begin : Entry
begin = calls 1 2 (call.Begin nothing_seen) (reply.Begun trans) (act.Drawn trans ∷ [])

abbrev commit : Entry
commit = calls 1 3 (call.Finish trans true) (reply.Committed stamp) (act.Decided stamp [] ∷ act.Released trans ∷ [])

abbrev s0 : State
s0 = opened (new 1)

abbrev s1 : State
s1 = next s0 hello

abbrev s2 : State
s2 = next s1 begin

abbrev s3 : State
s3 = next s2 commit

abbrev says : State → Entry → List Mail
says s e = due false s (next s e) e.event e.reply

hello_session : KeepsSessions s0 hello hello.event
hello_session = refl

-- a part that has no change yet changes nothing
nothing_changed : changed [] ≡ 0
nothing_changed = cc (len-empty file_cmp (Unit {0}), len-empty file_cmp ℕ, len-empty key_cmp Cell)

begin_answered : AnswersRight false s1 begin
begin_answered = refl

commit_answered : AnswersRight false s2 commit
commit_answered = rw (nothing_changed) refl

commit_says : says s2 commit ≡ []
commit_says = refl

commit_counts : has_votes (s3.fates trans) ≡ false
commit_counts = refl

-- without a fault it may not be refused for one
commit_not_fault : AnswersRight false s2 (calls 1 3 (call.Finish trans true) (reply.Refused (refusal.Aborted (cause.Voted 1 why.ReadFault))) (act.Released trans ∷ [])) → ⊥
commit_not_fault h = let wrong : reply.Refused (refusal.Aborted (cause.Voted 1 why.ReadFault)) ≡ reply.Committed stamp = h ∙ sym commit_answered in cc

commit_fault : AnswersRight true s2 (calls 1 3 (call.Finish trans true) (reply.Refused (refusal.Aborted (cause.Voted 1 why.ReadFault))) (act.Released trans ∷ []))
commit_fault = rw (nothing_changed) refl

-- nor be kept waiting
commit_not_later : AnswersRight false s2 (calls 1 3 (call.Finish trans true) (reply.Refused refusal.NotYet) []) → ⊥
commit_not_later h = let wrong : reply.Refused refusal.NotYet ≡ reply.Committed stamp = h ∙ sym commit_answered in cc

-- after it: the outcome, another Finish, a Begin of the next one, a Collect of nothing, a Join at the coordinator
outcome_answered : AnswersRight false s3 (calls 1 4 (call.Outcome trans) (reply.Ended (ending.Committed stamp)) [])
outcome_answered = refl

finish_again : AnswersRight false s3 (calls 1 4 (call.Finish trans true) (reply.Refused refusal.UnknownTrans) [])
finish_again = refl

collect_none : AnswersRight false s3 (calls 1 4 (call.Collect 3) (reply.Refused refusal.UnknownTrans) [])
collect_none = refl

join_gone : AnswersRight false s3 (calls 1 4 (call.Join trans) (reply.Refused refusal.UnknownTrans) [])
join_gone = refl

join_here : AnswersRight false s2 (calls 1 3 (call.Join trans) reply.Joined [])
join_here = refl

read_gone : AnswersRight false s3 (calls 1 4 (call.ReadProps trans 1) (reply.Refused refusal.UnknownTrans) [])
read_gone = refl

-- a repeat gets the same, and brings nothing
repeat_commit : KeepsSessions s3 (calls 1 3 (call.Outcome trans) (reply.Committed stamp) []) (event.Call 1 1 3 (call.Outcome trans))
repeat_commit = (refl, refl)

stale_call : KeepsSessions s3 (calls 2 4 (call.Outcome trans) (reply.Refused (refusal.StaleSession 1)) []) (event.Call 1 2 4 (call.Outcome trans))
stale_call = (refl, refl)

-- a decision without joins leaves no note: after a restart nothing is known of it
abbrev again : Entry
again = record { event = event.Restart; reply = None; acts = act.Regained 2 1 [] [] ∷ [] }

abbrev s5 : State
s5 = next (next s3 again) (calls 0 1 (call.Hello (codes "Admin")) (reply.Welcome 2) [])

outcome_unknown : AnswersRight false s5 (calls 2 2 (call.Outcome trans) (reply.Ended ending.Unknown) [])
outcome_unknown = refl

outcome_not_known : AnswersRight false s5 (calls 2 2 (call.Outcome trans) (reply.Ended (ending.Committed stamp)) []) → ⊥
outcome_not_known h = cc

inquire_unknown : says s5 (arrives 2 (msg.Inquire trans join) []) ≡ (2, msg.Abort trans join (cause.Lost 2)) ∷ []
inquire_unknown = refl

-- ---- an abort, and what dies

abbrev aborts : Entry
aborts = calls 1 3 (call.Finish trans false) (reply.Refused (refusal.Aborted cause.Asked)) (act.Released trans ∷ [])

abort_answered : AnswersRight false s2 aborts
abort_answered = refl

-- no dead part is left
after_abort : AnswersRight false (next s2 aborts) (calls 1 4 (call.ReadProps trans 1) (reply.Refused refusal.UnknownTrans) [])
after_abort = refl

abbrev timeout : Entry
timeout = record { event = event.Timeout trans; reply = None; acts = act.Released trans ∷ [] }

-- one is left by a timeout, until the client finishes it
after_timeout : AnswersRight false (next s2 timeout) (calls 1 3 (call.ReadProps trans 1) (reply.Refused (refusal.Aborted cause.TimedOut)) [])
after_timeout = refl

abbrev told_dead : Entry
told_dead = calls 1 3 (call.Finish trans true) (reply.Refused (refusal.Aborted cause.TimedOut)) []

finish_dead : AnswersRight false (next s2 timeout) told_dead
finish_dead = refl

after_dead : AnswersRight false (next (next s2 timeout) told_dead) (calls 1 4 (call.ReadProps trans 1) (reply.Refused refusal.UnknownTrans) [])
after_dead = refl

-- ---- with a join

abbrev registers : Entry
registers = arrives 2 (msg.Register trans join 1) (act.Registered trans join ∷ act.Sent 2 (msg.Joined trans join) ∷ [])

abbrev s4 : State
s4 = next s2 registers

registers_says : says s2 registers ≡ flat_map sent_by registers.acts
registers_says = refl

-- another client's join is refused
register_other : says s2 (arrives 2 (msg.Register trans join 2) []) ≡ (2, msg.JoinRefused trans join) ∷ []
register_other = refl

-- to this server itself nothing is said, and nothing to one that is none of the run
register_here : says s2 (arrives 2 (msg.Register trans (record { server = 1; epoch = 1; counter = 1 }) 1) []) ≡ []
register_here = refl

register_nobody : says s2 (arrives 2 (msg.Register trans (record { server = 9; epoch = 1; counter = 1 }) 1) []) ≡ []
register_nobody = refl

-- it is answered to the server that drew it, whoever brought it
register_astray : says s2 (arrives 3 (msg.Register trans join 1) []) ≡ (2, msg.Joined trans join) ∷ []
register_astray = refl

register_undrawn : says s1 (arrives 2 (msg.Register trans join 1) []) ≡ []
register_undrawn = refl

abbrev finishes : Entry
finishes = calls 1 3 (call.Finish trans true) (reply.Refused refusal.NotYet) (act.Sent 2 (msg.Ask trans join) ∷ [])

finishes_answered : AnswersRight false s4 finishes
finishes_answered = refl

finishes_says : says s4 finishes ≡ flat_map sent_by finishes.acts
finishes_says = refl

abbrev s6 : State
s6 = next s4 finishes

abbrev vote : Entry
vote = arrives 2 (msg.Ready trans join 3) (act.Decided (record { ts = 3; trans = trans }) (join ∷ []) ∷ act.Released trans ∷ act.Sent 2 (msg.Commit trans join (record { ts = 3; trans = trans })) ∷ [])

vote_says : says s6 vote ≡ flat_map sent_by vote.acts
vote_says = rw (nothing_changed) refl

vote_counts : has_votes ((next s6 vote).fates trans) ≡ false
vote_counts = refl

-- a vote that decides nothing is no lawful answer to it
vote_lost : has_votes ((next s6 (arrives 2 (msg.Ready trans join 3) [])).fates trans) ≡ true
vote_lost = refl

-- the waiting Finish is collected
collect_commit : AnswersRight false (next s6 vote) (calls 1 4 (call.Collect 3) (reply.Committed (record { ts = 3; trans = trans })) [])
collect_commit = refl

collect_early : AnswersRight false s6 (calls 1 4 (call.Collect 3) (reply.Refused refusal.NotYet) [])
collect_early = refl

-- a Done that is the last one and is not forgotten
done_kept : is_all_done ((next (next s6 vote) (arrives 2 (msg.Done trans join) [])).fates trans) ≡ true
done_kept = refl

-- ---- a stop, and a fault

abbrev stops : Entry
stops = record { event = event.Arrive 2 (msg.Ready trans join 3); reply = Some (reply.Refused refusal.Down); acts = act.Decided (record { ts = 3; trans = trans }) (join ∷ []) ∷ act.Stopped ∷ [] }

stop_session : KeepsSessions s6 stops stops.event
stop_session = refl

stop_right : StopsRight stops
stop_right = ((refl, refl), refl)

-- it names what the one write of the step would have held, and a stop that hides it is refused
stop_named : HaltsRight s6 stops
stop_named = inl (record { reaches = rw (nothing_changed) refl; acts = rw (nothing_changed) refl })

commit_stops : HaltsRight s2 (calls 1 3 (call.Finish trans true) (reply.Refused refusal.Down) (act.Decided stamp [] ∷ act.Failed ∷ []))
commit_stops = inr (record { reaches = rw (nothing_changed) refl; acts = rw (nothing_changed) refl })

commit_writes : written s2 (event.Call 1 1 3 (call.Finish trans true)) ≡ act.Decided stamp [] ∷ []
commit_writes = rw (nothing_changed) refl

commit_hidden : HaltsRight s2 (calls 1 3 (call.Finish trans true) (reply.Refused refusal.Down) (act.Failed ∷ [])) → ⊥
commit_hidden h = elim h [ inl e ↦ (let wrong : act.Failed ∷ [] ≡ act.Decided stamp [] ∷ act.Stopped ∷ [] = e.acts ∙ ap (λ xs. xs ++ act.Stopped ∷ []) commit_writes in cc) | inr e ↦ (let wrong : act.Failed ∷ [] ≡ act.Decided stamp [] ∷ act.Failed ∷ [] = e.acts ∙ ap (λ xs. xs ++ act.Failed ∷ []) commit_writes in cc) ]

-- a read that stops ends the step; one that fails is answered
read_stops : HaltsRight s2 (calls 1 3 (call.ReadProps trans 1) (reply.Refused refusal.Down) (act.Stopped ∷ []))
read_stops = inl (record { reaches = refl; acts = refl })

read_fails : HaltsRight s2 (calls 1 3 (call.ReadProps trans 1) (reply.Refused refusal.Down) (act.Failed ∷ [])) → ⊥
read_fails h = elim h [ inl e ↦ (let wrong : act.Failed ∷ [] ≡ act.Stopped ∷ [] = e.acts in cc) | inr e ↦ (let wrong : false ≡ true = e.reaches in cc) ]

fault_shown : shows_fault s2 (calls 1 3 (call.ReadProps trans 1) (reply.Refused refusal.ReadFault) []) ≡ true
fault_shown = refl

-- and so does this server's own vote against a commit, but not the word of another's
own_fault_shown : shows_fault s2 (calls 1 3 (call.Finish trans true) (reply.Refused (refusal.Aborted (cause.Voted 1 why.ReadFault))) (act.Released trans ∷ [])) ≡ true
own_fault_shown = refl

last_fault_shown : shows_fault s6 (arrives 2 (msg.Ready trans join 3) (act.Released trans ∷ act.Sent 2 (msg.Abort trans join (cause.Voted 1 why.ReadFault)) ∷ [])) ≡ true
last_fault_shown = refl

other_fault : shows_fault s6 (arrives 2 (msg.No trans join why.ReadFault) (act.Released trans ∷ act.Sent 2 (msg.Abort trans join (cause.Voted 2 why.ReadFault)) ∷ [])) ≡ false
other_fault = refl

read_fault : AnswersRight true s2 (calls 1 3 (call.ReadProps trans 1) (reply.Refused refusal.ReadFault) [])
read_fault = inl (refl, refl)

-- ---- a tick says its messages in order

tick_order : are_in_order (says s6 (record { event = event.Tick; reply = None; acts = [] })) ≡ true
tick_order = refl

-- ---- an open that is not there is refused ahead of the locks
no_open : AnswersRight false s2 (calls 1 3 (call.ReadProps trans 1) (reply.Refused refusal.UnknownOpen) [])
no_open = inr refl

run_first : AnswersRight false s2 (calls 1 3 (call.LockPages trans 1 (record { first = 0; count = 17 }) mode.Read choice.Fail) (reply.Refused (refusal.TooMany what.Run 16)) [])
run_first = inr refl

-- ---- a whole entry

no_mail : IsPermutation {X = Mail} [] []
no_mail = record { moves = []; below = tt; is = refl }

-- what becomes of a transaction in these rows, be it the one that began
abbrev pub then_begun : Bool → Fate
then_begun t = cond t (begun 1 Undrawn) Undrawn

abbrev then_finished : Bool → Fate
then_finished t = cond t (finishing (then_begun t)) (then_begun t)

abbrev then_decided : Bool → Fate
then_decided t = cond t (decided stamp [] (then_finished t)) (then_finished t)

voted_then : (t : Bool) → has_votes (then_decided t) ≡ false
voted_then true = refl
voted_then false = refl

done_then : (t : Bool) → is_all_done (then_decided t) ≡ false
done_then true = refl
done_then false = refl

voted_begun : (t : Bool) → has_votes (then_begun t) ≡ false
voted_begun true = refl
voted_begun false = refl

done_begun : (t : Bool) → is_all_done (then_begun t) ≡ false
done_begun true = refl
done_begun false = refl

commit_whole : IsAnsweredEntry false s2 commit
commit_whole = record {
  answered = commit_answered;
  sent = no_mail;
  ticks = tt;
  applied = tt;
  votes = λ t. voted_then (same_trans trans t);
  forgets = λ t. done_then (same_trans trans t);
  turns = IsWalk.ends _;
  grants = tt;
  halted = tt;
}

pub hello_whole : IsAnsweredEntry false s0 hello
hello_whole = record { answered = tt; sent = no_mail; ticks = tt; applied = tt; votes = λ t. refl; forgets = λ t. refl; turns = tt; grants = tt; halted = tt }

pub begin_whole : IsAnsweredEntry false s1 begin
begin_whole = record {
  answered = refl;
  sent = no_mail;
  ticks = tt;
  applied = tt;
  votes = λ t. voted_begun (same_trans trans t);
  forgets = λ t. done_begun (same_trans trans t);
  turns = tt;
  grants = tt;
  halted = tt;
}

row_answered : IsAnswered (new 1) (hello ∷ begin ∷ commit ∷ [])
row_answered = (((false, hello_whole), ((false, begin_whole), ((false, commit_whole), tt))), λ i e at. inr (let within : i < 3 = in-list (hello ∷ begin ∷ commit ∷ []) i e at in omega (arith, within)))

-- ---- the worker

abbrev w2 : State
w2 = next (opened (new 2)) hello

abbrev joins : Entry
joins = calls 1 2 (call.Join trans) (reply.Refused refusal.NotYet) (act.Sent 1 (msg.Register trans join 1) ∷ [])

joins_answered : AnswersRight false w2 joins
joins_answered = refl

joins_says : says w2 joins ≡ flat_map sent_by joins.acts
joins_says = refl

abbrev w3 : State
w3 = next w2 joins

-- asked while it still joins, it votes against
ask_joining : says w3 (arrives 1 (msg.Ask trans join) []) ≡ (1, msg.No trans join why.Waiting) ∷ []
ask_joining = refl

collect_joining : AnswersRight false w3 (calls 1 3 (call.Collect 2) (reply.Refused refusal.NotYet) [])
collect_joining = refl

-- a refused join is unknown, to its collect too
refused_join : AnswersRight false (next w3 (arrives 1 (msg.JoinRefused trans join) [])) (calls 1 3 (call.Collect 2) (reply.Refused refusal.UnknownTrans) [])
refused_join = refl

abbrev w4 : State
w4 = next w3 (arrives 1 (msg.Joined trans join) [])

collect_joined : AnswersRight false w4 (calls 1 3 (call.Collect 2) reply.Joined [])
collect_joined = refl

-- the Join is not collected yet: the vote is against
ask_waiting : says w4 (arrives 1 (msg.Ask trans join) []) ≡ (1, msg.No trans join why.Waiting) ∷ []
ask_waiting = refl

call_waiting : AnswersRight false w4 (calls 1 3 (call.ReadProps trans 1) (reply.Refused refusal.NotYet) [])
call_waiting = refl

finish_elsewhere : AnswersRight false w4 (calls 1 3 (call.Finish trans true) (reply.Refused refusal.UnknownTrans) [])
finish_elsewhere = refl

abbrev w5 : State
w5 = next w4 (calls 1 3 (call.Collect 2) reply.Joined [])

abbrev asked : Entry
asked = arrives 1 (msg.Ask trans join) (act.Readied trans join 1 ∷ act.Sent 1 (msg.Ready trans join 1) ∷ [])

asked_says : says w5 asked ≡ flat_map sent_by asked.acts
asked_says = rw (nothing_changed) refl

asked_fault : due true w5 (next w5 asked) asked.event asked.reply ≡ (1, msg.No trans join why.ReadFault) ∷ []
asked_fault = rw (nothing_changed) refl

abbrev w6 : State
w6 = next w5 asked

finishing_call : AnswersRight false w6 (calls 1 4 (call.ReadProps trans 1) (reply.Refused refusal.Finishing) [])
finishing_call = refl

abbrev applies : Entry
applies = arrives 1 (msg.Commit trans join stamp) (act.Applied join stamp ∷ act.Released trans ∷ act.Sent 1 (msg.Done trans join) ∷ [])

applies_says : says w6 applies ≡ flat_map sent_by applies.acts
applies_says = refl

applies_told : AppliesTold w6 (next w6 applies) applies.event
applies_told client ts same h = refl

-- a Commit that is passed over is not answered so
applies_not : AppliesTold w6 (next w6 (arrives 1 (msg.Commit trans join stamp) [])) (event.Arrive 1 (msg.Commit trans join stamp)) → ⊥
applies_not h = (let wrong : Ready trans 1 1 ≡ Applied trans stamp = h 1 1 refl refl in cc)

-- an Abort leaves a dead part, whose cause is told
abort_worker : AnswersRight false (next w6 (arrives 1 (msg.Abort trans join (cause.Voted 2 why.ClockEnd)) (act.Released trans ∷ []))) (calls 1 4 (call.ReadProps trans 1) (reply.Refused (refusal.Aborted (cause.Voted 2 why.ClockEnd))) [])
abort_worker = refl

-- ---- a lock that is in the way

abbrev trans2 : TransId
trans2 = record { server = 1; epoch = 1; counter = 2 }

abbrev calls2 : ℕ → ℕ → Call → Reply → List Act → Entry
calls2 epoch number c r acts = record { event = event.Call 2 epoch number c; reply = Some r; acts = acts }

abbrev make : TransId → Choice → Call
make t c = call.MakeOwner t (codes "ann") 9 (codes "World" ∷ []) c

abbrev q1 : State
q1 =
    state_after next s2
    (calls 1 3 (make trans choice.Fail) reply.Plain (act.Granted trans ∷ []) ∷ calls2 0 1 (call.Hello (codes "Admin")) (reply.Welcome 1) []
    ∷ calls2 1 2 (call.Begin nothing_seen) (reply.Begun trans2) (act.Drawn trans2 ∷ []) ∷ calls2 1 3 (make trans2 choice.Wait) (reply.Refused refusal.NotYet) [] ∷ [])

waits_now : GrantsAtOnce false q1 (calls2 1 4 (call.Outcome trans) (reply.Ended ending.Running) []) (event.Call 2 1 4 (call.Outcome trans)) (Some (reply.Ended ending.Running))
waits_now = tt

grants_first : GrantsAtOnce false s2 (calls 1 3 (make trans choice.Fail) reply.Plain (act.Granted trans ∷ [])) (event.Call 1 1 3 (make trans choice.Fail)) (Some reply.Plain)
grants_first = inr (rw (nothing_changed) refl)

-- where a read failed the call has its grant or none
abbrev fails : List Act → Entry
fails acts = calls 1 3 (make trans choice.Fail) (reply.Refused refusal.ReadFault) acts

grants_none : GrantsAtOnce true s2 (fails []) (fails []).event (fails []).reply
grants_none = inl (refl, refl, refl)

grants_before : GrantsAtOnce true s2 (fails (act.Granted trans ∷ [])) (fails []).event (fails []).reply
grants_before = inr (rw (nothing_changed) refl)

-- what its part holds already makes a conversion only where the mode would rise there: here a file is opened whose leader is
-- locked to read, and then one that is locked itself
abbrev opens : Waiting
opens = record { client = 1; number = 3; call = call.OpenFile trans first_file access.ReadOnly mode.Read choice.Wait; is_granted = false }

abbrev holds : List Need → Option Life
holds held = Some (record (new_life None 1 (codes "Admin")) { held = held_by held })

no_conversion : is_conversion_of s2.holder opens (holds ((Leaf (Leader first_file), mode.Read) ∷ [])) ≡ false
unfolding leaf_of covers_of
no_conversion = refl

a_conversion : is_conversion_of s2.holder opens (holds ((Leaf (Leader first_file), mode.Read) ∷ (Whole first_file, mode.IntendRead) ∷ [])) ≡ true
unfolding leaf_of covers_of
a_conversion = refl

abbrev lets_go : Entry
lets_go = calls 1 4 (call.Finish trans false) (reply.Refused (refusal.Aborted cause.Asked)) (act.Released trans ∷ act.Granted trans2 ∷ [])

-- with the first one's part gone nobody else lives
nobody_else : (a b : Bool) (x y z l k : Life) → b ≡ false → cond {A = Option Life} a None (cond b (Some l) (cond a (Some z) (cond a (Some y) (cond a (Some x) None)))) ≡ Some k → ⊥
nobody_else true b x y z l k n h = cc
nobody_else false true x y z l k n h = cc
nobody_else false false x y z l k n h = cc

abbrev waiter : Waiting
waiter = record { client = 2; number = 3; call = make trans2 choice.Wait; is_granted = false }

abbrev second : Life
second = new_life None 2 (codes "Admin")

free_then : IsFree (at_release q1 lets_go) trans2 second (make trans2 choice.Wait)
free_then u k is away = absurd (nobody_else (same_trans u trans) (same_trans u trans2) _ _ _ _ k away is)

waiting_then : IsWaitingFor (at_release q1 lets_go) waiter trans2 second
waiting_then = record { call = refl; ungranted = refl; live = refl; its = refl }

given_on : GivesOn q1 lets_go
given_on = IsWalk.takes (at_release q1 lets_go) waiter [] [] trans2 second waiting_then free_then (IsWalk.ends _)

-- whoever is passed over was not free
passes_over : (h : Holder) (w : Waiting) (ws : List Waiting) → IsWalk h (w ∷ ws) [] → (t : TransId) (l : Life) → IsWaitingFor h w t l → IsFree h t l w.call → ⊥
passes_over h w ws (IsWalk.passes _ _ _ _ f rest) = f

passed_over : GivesOn q1 (calls 1 4 (call.Finish trans false) (reply.Refused (refusal.Aborted cause.Asked)) (act.Released trans ∷ [])) → ⊥
passed_over h = passes_over (at_release q1 lets_go) waiter [] h trans2 second waiting_then free_then
