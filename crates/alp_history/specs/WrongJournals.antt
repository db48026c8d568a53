-- Pairs of journals that differ in their last entry alone: the one keeps the laws, and the other does not.
use Rattle.std.specs.Prelude.{ℕ, codes, true, false, List, [], ◌∷◌, ◌++◌, Some, take}
use Rattle.std.specs.FinMap as map
use Rattle.alp_base.specs.declared.ids.FileId.{FileId}
use Rattle.alp_base.specs.declared.ids.TransId.{TransId}
use Rattle.alp_base.specs.declared.ids.JoinNo.{JoinNo}
use Rattle.alp_base.specs.declared.ids.Stamp.{Stamp}
use Rattle.alp_base.specs.declared.key.Key.TheVariants.{Leader, OwnerOf}
use Rattle.alp_base.specs.declared.choices.Access.TheVariants as access
use Rattle.alp_base.specs.declared.choices.Choice.{Choice}
use Rattle.alp_base.specs.declared.choices.Choice.TheVariants as choice
use Rattle.alp_modes.specs.declared.Mode.{Mode}
use Rattle.alp_modes.specs.declared.Mode.TheVariants as mode
use Rattle.alp_files.specs.Cells.{Cells}
use Rattle.alp_base.specs.declared.cell.Cell.TheVariants as cell
use Rattle.alp_base.specs.declared.cell.Props.{Props}
use Rattle.alp_files.specs.declared.call.Call.{Call}
use Rattle.alp_files.specs.declared.call.Call.TheVariants as call
use Rattle.alp_files.specs.declared.reply.Reply.{Reply}
use Rattle.alp_files.specs.declared.reply.Reply.TheVariants as reply
use Rattle.alp_files.specs.declared.reply.Ended.{Ended as Ending}
use Rattle.alp_files.specs.declared.reply.Ended.TheVariants as ending
use Rattle.alp_files.specs.declared.refusal.Refusal.TheVariants as refusal
use Rattle.alp_files.specs.declared.refusal.Cause.TheVariants as cause
use Rattle.alp_journal.specs.declared.act.Act.{Act}
use Rattle.alp_journal.specs.declared.act.Act.TheVariants as act
use Rattle.alp_journal.specs.declared.event.Event.TheVariants as event
use Rattle.alp_journal.specs.declared.message.Message.{Message}
use Rattle.alp_journal.specs.declared.message.Message.TheVariants as msg
use Rattle.alp_journal.specs.declared.entry.Entry.{Entry}
use Rattle.alp_journal.specs.Along.{state_after}
use Rattle.alp_journal.specs.Opening.{Start}
use Rattle.alp_journal.specs.State.{opened}
use Rattle.alp_journal.specs.Moves.{next}
use Rattle.alp_journal.specs.Laws.{IsLawful}
use Rattle.alp_journal.specs.Answered.{IsAnswered, GivesOn}
use Rattle.alp_history.specs.Examples.{trans, join, nothing_seen, stamp, new, calls, arrives, owner, first_up, vote, worker_up, ask, restarts}
use Rattle.alp_history.specs.RightLog.{opening, owner_with, ticks}
use Rattle.alp_history.specs.RightJournals.{found_one, called}

-- behind these entries the one is lawful, and the other is not
pub record AreToldApart (o : Start) (before : List Entry) (right wrong : Entry) : Type 0 where
  pub lawful : IsLawful o (before ++ right ∷ [])
  pub unlawful : IsLawful o (before ++ wrong ∷ []) → ⊥

-- behind these entries both are lawful; the one gives on what is let go in turn, and the other does not
pub record AreTurnedApart (o : Start) (before : List Entry) (right wrong : Entry) : Type 0 where
  pub lawful : IsLawful o (before ++ right ∷ [])
  pub given : GivesOn (state_after next (opened o) before) right
  pub lawful_too : IsLawful o (before ++ wrong ∷ [])
  pub ungiven : IsAnswered o (before ++ wrong ∷ []) → ⊥

abbrev pub hello : Entry
hello = calls 0 1 (call.Hello (codes "Admin")) (reply.Welcome 1) []

abbrev pub begins_as : TransId → Entry
begins_as t = calls 1 2 (call.Begin nothing_seen) (reply.Begun t) (act.Drawn t ∷ [])

abbrev pub begun : List Entry
begun = hello ∷ begins_as trans ∷ []

-- ---- ids: a transaction gets the second number first, and a file an id of the next epoch

abbrev pub second_trans : TransId
second_trans = record { server = 1; epoch = 1; counter = 2 }

abbrev pub first_file : FileId
first_file = record { server = 1; epoch = 1; counter = 1 }

abbrev pub later_file : FileId
later_file = record { server = 1; epoch = 2; counter = 1 }

abbrev pub start : Props
start = record { owner = codes "ann"; name = codes "notes"; type_no = 0; create_time = 0; byte_length = 0; size = 2; high_water = 0; read = codes "World" ∷ []; modify = [] }

abbrev pub creates : FileId → Entry
creates f = calls 1 3 (call.CreateFile trans start choice.Fail) (reply.Created f 1) (act.Granted trans ∷ [])

-- ---- decisions

abbrev pub at_time : ℕ → Stamp
at_time n = record { ts = n; trans = trans }

abbrev pub decides_at : ℕ → List Act
decides_at n = act.Decided (at_time n) (join ∷ []) ∷ act.Released trans ∷ act.Sent 2 (msg.Commit trans join (at_time n)) ∷ []

-- a vote for this time, and a decision for that one
abbrev pub votes_and_decides : (vote time : ℕ) → Entry
votes_and_decides vote time = arrives 2 (msg.Ready trans join vote) (decides_at time)

abbrev pub third_join : JoinNo
third_join = record { server = 3; epoch = 1; counter = 1 }

abbrev pub of_three : Start
of_three = record (new 1) { servers = 3 }

-- a transaction with a join of each of two other servers
abbrev pub two_joins : List Entry
two_joins =
    hello ∷ begins_as trans ∷ arrives 2 (msg.Register trans join 1) (act.Registered trans join ∷ act.Sent 2 (msg.Joined trans join) ∷ [])
    ∷ arrives 3 (msg.Register trans third_join 1) (act.Registered trans third_join ∷ act.Sent 3 (msg.Joined trans third_join) ∷ [])
    ∷ calls 1 3 (call.Finish trans true) (reply.Refused refusal.NotYet) (act.Sent 2 (msg.Ask trans join) ∷ act.Sent 3 (msg.Ask trans third_join) ∷ []) ∷ []

abbrev pub votes : ℕ → JoinNo → List Act → Entry
votes from j acts = arrives from (msg.Ready trans j 1) acts

abbrev pub decides_both : List Act
decides_both = act.Decided stamp (join ∷ third_join ∷ []) ∷ act.Released trans ∷ act.Sent 2 (msg.Commit trans join stamp) ∷ act.Sent 3 (msg.Commit trans third_join stamp) ∷ []

-- one of the joins has voted
abbrev pub one_voted : List Entry
one_voted = two_joins ++ votes 2 join [] ∷ []

-- the one join has voted, and nothing came of it yet
abbrev pub all_voted : List Entry
all_voted = first_up ++ votes 2 join [] ∷ []

abbrev pub second_join : JoinNo
second_join = record { server = 2; epoch = 1; counter = 2 }

-- another join of a server that has one comes
abbrev pub one_registered : List Entry
one_registered = begun ++ arrives 2 (msg.Register trans join 1) (act.Registered trans join ∷ act.Sent 2 (msg.Joined trans join) ∷ []) ∷ []

abbrev pub registers_again : List Act → Entry
registers_again acts = arrives 2 (msg.Register trans second_join 1) acts

-- the vote comes, and the commit is said to this server
abbrev pub decides_for : ℕ → Entry
decides_for to = arrives 2 (msg.Ready trans join 1) (act.Decided stamp (join ∷ []) ∷ act.Released trans ∷ act.Sent to (msg.Commit trans join stamp) ∷ [])

-- a transaction of this server alone is committed, and the word comes of a join that it never had
abbrev pub committed_alone : List Entry
committed_alone = begun ++ calls 1 3 (call.Finish trans true) (reply.Committed stamp) (act.Decided stamp [] ∷ act.Released trans ∷ []) ∷ []

abbrev pub hears_done : List Act → Entry
hears_done acts = arrives 2 (msg.Done trans join) acts

-- a part asks how the transaction ended, while its decision stands
abbrev pub committed : List Entry
committed = first_up ++ vote ∷ []

-- the word of its one join came, and nothing came of it
abbrev pub acknowledged : List Entry
acknowledged = committed ++ hears_done [] ∷ []

abbrev pub inquires : Message → Entry
inquires m = arrives 2 (msg.Inquire trans join) (act.Sent 2 m ∷ [])

-- ---- votes and what is applied

-- asked, a part votes for this time
abbrev pub votes_for : ℕ → Entry
votes_for n = arrives 1 (msg.Ask trans join) (act.Readied trans join n ∷ act.Sent 1 (msg.Ready trans join n) ∷ [])

-- a commit comes to a part that has not voted
abbrev pub hears_commit : List Act → Entry
hears_commit acts = arrives 1 (msg.Commit trans join stamp) acts

-- ---- locks

abbrev pub voted : List Entry
voted = worker_up ++ ask ∷ []

-- the commit comes to a part that voted
abbrev pub applies : List Act → Entry
applies acts = arrives 1 (msg.Commit trans join stamp) acts

abbrev pub says_done : Act
says_done = act.Sent 1 (msg.Done trans join)

-- a call of a part that voted
abbrev pub reads_bob : List Act → Entry
reads_bob acts = calls 1 5 (call.ReadOwner trans (codes "bob") choice.Fail) (reply.Refused refusal.Finishing) acts

-- a part holds the owner that it made
abbrev pub made : List Entry
made = begun ++ calls 1 3 owner reply.Plain (act.Granted trans ∷ []) ∷ []

-- the part of another client waits for the owner, which the first part holds
abbrev pub of_another : ℕ → ℕ → Call → Reply → List Act → Entry
of_another epoch number c r acts = record { event = event.Call 2 epoch number c; reply = Some r; acts = acts }

abbrev pub one_waits : List Entry
one_waits =
    made
    ++ of_another 0 1 (call.Hello (codes "Admin")) (reply.Welcome 1) []
    ∷ of_another 1 2 (call.Begin nothing_seen) (reply.Begun second_trans) (act.Drawn second_trans ∷ [])
    ∷ of_another 1 3 (call.ReadOwner second_trans (codes "ann") choice.Wait) (reply.Refused refusal.NotYet) [] ∷ []

-- and so does that of a third client, behind it
abbrev pub third_trans : TransId
third_trans = record { server = 1; epoch = 1; counter = 3 }

abbrev pub two_wait : List Entry
two_wait =
    one_waits
    ++ called 3 0 1 (call.Hello (codes "Admin")) (reply.Welcome 1) []
    ∷ called 3 1 2 (call.Begin nothing_seen) (reply.Begun third_trans) (act.Drawn third_trans ∷ [])
    ∷ called 3 1 3 (call.ReadOwner third_trans (codes "ann") choice.Wait) (reply.Refused refusal.NotYet) [] ∷ []

-- the first part ends
abbrev pub ends : List Act → Entry
ends acts = calls 1 4 (call.Finish trans false) (reply.Refused (refusal.Aborted cause.Asked)) acts

-- ---- a page that three parts lock

-- server 1 in its second epoch, with a file that an earlier run made
abbrev pub kept_props : Props
kept_props = record start { modify = codes "World" ∷ [] }

abbrev pub with_owner : Cells
with_owner = map.insert map.empty (OwnerOf (codes "ann")) (cell.Owner (record (owner_with 9) { charge = 2 }))

abbrev pub with_file : Start
with_file = record (new 1) { epoch = 2; cells = map.insert with_owner (Leader first_file) (cell.Leader kept_props) }

-- the transaction of this client
abbrev pub of_client : ℕ → TransId
of_client n = record { server = 1; epoch = 2; counter = n }

abbrev pub opens_file : TransId → Call
opens_file t = call.OpenFile t first_file access.Change mode.IntendWrite choice.Fail

abbrev pub locks_page : TransId → Mode → Choice → Call
locks_page t m c = call.LockPages t 1 (record { first = 0; count = 1 }) m c

-- a client opens the file
abbrev pub has_opened : ℕ → List Entry
has_opened n =
    called n 0 1 (call.Hello (codes "Admin")) (reply.Welcome 2) []
    ∷ called n 2 2 (call.Begin nothing_seen) (reply.Begun (of_client n)) (act.Drawn (of_client n) ∷ [])
    ∷ called n 2 3 (opens_file (of_client n)) (reply.Opened 1) (act.Granted (of_client n) ∷ []) ∷ []

-- One holds the page for update and another to read. A third one waits to hold it for update, and then so does the one that
-- reads it: its request raises a mode that it holds.
abbrev pub page_waits : List Entry
page_waits =
    has_opened 1 ++ called 1 2 4 (locks_page (of_client 1) mode.Update choice.Fail) reply.Plain (act.Granted (of_client 1) ∷ [])
    ∷ has_opened 2 ++ called 2 2 4 (locks_page (of_client 2) mode.Read choice.Fail) reply.Plain (act.Granted (of_client 2) ∷ [])
    ∷ has_opened 3 ++ called 3 2 4 (locks_page (of_client 3) mode.Update choice.Wait) (reply.Refused refusal.NotYet) []
    ∷ called 2 2 5 (locks_page (of_client 2) mode.Update choice.Wait) (reply.Refused refusal.NotYet) [] ∷ []

-- the part that holds the page for update ends, and another one gets it
abbrev pub gives_page : TransId → Entry
gives_page t = called 1 2 5 (call.Finish (of_client 1) false) (reply.Refused (refusal.Aborted cause.Asked)) (act.Released (of_client 1) ∷ act.Granted t ∷ [])

-- ---- sessions

-- the call that made the owner comes again
abbrev pub comes_again : Reply → List Act → Entry
comes_again r acts = calls 1 3 owner r acts

-- behind a restart a session's next call comes
abbrev pub started_again : List Entry
started_again = begun ++ restarts 2 0 [] [] ∷ []

abbrev pub goes_on : Reply → Entry
goes_on r = calls 2 3 (call.Outcome trans) r []

-- the client greets the server that started again
abbrev pub greets_again : ℕ → Entry
greets_again n = calls 0 1 (call.Hello (codes "Admin")) (reply.Welcome n) []

-- ---- restarts

-- the device stopped inside the write of a decision with a join
abbrev pub cut_off : List Entry
cut_off = take 6 found_one

-- and inside that of one without joins
abbrev pub cut_alone : List Entry
cut_alone =
    begun
    ++ record { event = event.Call 1 1 3 (call.Finish trans true); reply = Some (reply.Refused refusal.Down); acts = act.Decided stamp [] ∷ act.Stopped ∷ [] } ∷ []

-- ---- what is told of how a transaction ended

-- the client asks how its transaction ended
abbrev pub asks_how : (epoch number : ℕ) → Ending → Entry
asks_how epoch number x = calls epoch number (call.Outcome trans) (reply.Ended x) []

-- it ended in abort, in this epoch
abbrev pub ended_alone : List Entry
ended_alone = begun ++ calls 1 3 (call.Finish trans false) (reply.Refused (refusal.Aborted cause.Asked)) (act.Released trans ∷ []) ∷ []

-- it is of the epoch before this one, and nothing tells how it ended
abbrev pub greeted_again : List Entry
greeted_again = started_again ++ greets_again 2 ∷ []

-- a tick in which the device stops
abbrev pub stops_idly : Entry
stops_idly = record { event = event.Tick; reply = Some (reply.Refused refusal.Down); acts = act.Stopped ∷ [] }

-- ---- all of them

pub record AreRefused : Type 0 where
  -- the second transaction's number is not the first one's
  pub skipped : AreToldApart (new 1) (hello ∷ []) (begins_as trans) (begins_as second_trans)
  pub epoch : AreToldApart (opening 1) begun (creates first_file) (creates later_file)
  -- a decision is for the time of its vote, where that is above the clock, and for no earlier or later one
  pub below : AreToldApart (new 1) first_up (votes_and_decides 5 5) (votes_and_decides 5 4)
  pub above : AreToldApart (new 1) first_up (votes_and_decides 5 5) (votes_and_decides 5 6)
  -- not before all have voted, and a vote that comes twice is not another's
  pub unvoted : AreToldApart of_three two_joins (votes 2 join []) (votes 2 join decides_both)
  pub twice : AreToldApart of_three one_voted (votes 3 third_join decides_both) (votes 2 join decides_both)
  -- at the last vote or the Finish, and not at a tick
  pub tick : AreToldApart (new 1) all_voted (ticks []) (ticks (decides_at 1))
  -- one join of a server
  pub second : AreToldApart (new 1) one_registered (registers_again (act.Sent 2 (msg.JoinRefused trans second_join) ∷ [])) (registers_again (act.Registered trans second_join ∷ act.Sent 2 (msg.Joined trans second_join) ∷ []))
  -- a decision without joins leaves nothing to forget
  pub joinless : AreToldApart (new 1) committed_alone (hears_done []) (hears_done (act.Forgot trans ∷ []))
  -- and one with joins is forgotten at the last word that was missing, and not when a word comes again
  pub late : AreToldApart (new 1) acknowledged (hears_done []) (hears_done (act.Forgot trans ∷ []))
  -- of what is committed no abort is said
  pub aborted : AreToldApart (new 1) committed (inquires (msg.Commit trans join stamp)) (inquires (msg.Abort trans join cause.Asked))
  -- the vote is for the time after the clock
  pub clock : AreToldApart (new 2) worker_up (votes_for 1) (votes_for 0)
  -- a part that lives has not done
  pub alive : AreToldApart (new 2) worker_up (hears_commit []) (hears_commit (act.Sent 1 (msg.Done trans join) ∷ []))
  -- a message goes to the server that it is for, and comes behind what takes effect
  pub astray : AreToldApart (new 1) first_up (decides_for 2) (decides_for 1)
  pub early : AreToldApart (new 2) voted (applies (act.Applied join stamp ∷ act.Released trans ∷ says_done ∷ [])) (applies (says_done ∷ act.Applied join stamp ∷ act.Released trans ∷ []))
  -- no locks behind the vote
  pub late_grant : AreToldApart (new 2) voted (reads_bob []) (reads_bob (act.Granted trans ∷ []))
  -- what lives keeps its locks
  pub early_release : AreToldApart (new 1) made (ticks []) (ticks (act.Released trans ∷ []))
  -- who waits gets what is let go
  pub waiter : AreToldApart (new 1) one_waits (ends (act.Released trans ∷ act.Granted second_trans ∷ [])) (ends (act.Released trans ∷ []))
  -- and of two of them who came first gets it first
  pub arrivals : AreTurnedApart (new 1) two_wait (ends (act.Released trans ∷ act.Granted second_trans ∷ act.Granted third_trans ∷ [])) (ends (act.Released trans ∷ act.Granted third_trans ∷ act.Granted second_trans ∷ []))
  -- but before one that came first goes one that holds the page already
  pub conversions : AreTurnedApart with_file page_waits (gives_page (of_client 2)) (gives_page (of_client 3))
  -- a call that comes again brings nothing about, and gets the same reply
  pub repeat_grant : AreToldApart (new 1) made (comes_again reply.Plain []) (comes_again reply.Plain (act.Granted trans ∷ []))
  pub repeat_reply : AreToldApart (new 1) made (comes_again reply.Plain []) (comes_again (reply.Refused refusal.OwnerExists) [])
  -- no session goes on behind a restart
  pub session : AreToldApart (new 1) started_again (goes_on (reply.Refused (refusal.StaleSession 2))) (goes_on (reply.Ended ending.Unknown))
  -- and who greets the server then begins a new one
  pub greeted : AreToldApart (new 1) started_again (greets_again 2) (greets_again 1)
  -- a decision that the clock shows is named, and none whose time is above the clock
  pub unnamed : AreToldApart (new 1) cut_off (restarts 2 1 [] (stamp ∷ [])) (restarts 2 1 [] [])
  pub unmade : AreToldApart (new 1) cut_off (restarts 2 0 [] []) (restarts 2 0 [] (stamp ∷ []))
  -- one without joins is not named, and the clock is that of before or that of the decision
  pub named_alone : AreToldApart (new 1) cut_alone (restarts 2 1 [] []) (restarts 2 1 [] (stamp ∷ []))
  pub no_clock : AreToldApart (new 1) cut_alone (restarts 2 0 [] []) (restarts 2 2 [] [])
  -- a commit is told as one, and so is an abort; of this epoch all is known, and of an older one nothing but what notes say
  pub committed_so : AreToldApart (new 1) committed_alone (asks_how 1 4 (ending.Committed stamp)) (asks_how 1 4 ending.Aborted)
  pub aborted_so : AreToldApart (new 1) ended_alone (asks_how 1 4 ending.Aborted) (asks_how 1 4 ending.Unknown)
  pub running_so : AreToldApart (new 1) begun (asks_how 1 3 ending.Running) (asks_how 1 3 ending.Unknown)
  pub unknown_so : AreToldApart (new 1) greeted_again (asks_how 2 2 ending.Unknown) (asks_how 2 2 ending.Aborted)
  -- a ready part is found again
  pub lost : AreToldApart (new 2) voted (restarts 2 0 (join ∷ []) []) (restarts 2 0 [] [])
  -- and named once
  pub named_twice : AreToldApart (new 2) voted (restarts 2 0 (join ∷ []) []) (restarts 2 0 (join ∷ join ∷ []) [])
  -- a step that neither writes nor reads does not stop the device
  pub idle_stop : IsAnswered (new 1) (begun ++ stops_idly ∷ []) → ⊥
