-- A log of two servers that keeps the laws: three transactions, a message that is lost, one that comes twice, a call that comes again,
-- and each server starts again once. The history that the theorems give for it is written out.
use Rattle.std.specs.Prelude.{◌≡◌, ℕ, ◌==◌, codes, true, List, [], ◌∷◌, ◌++◌, Option, None, Some, slice_get, unwrap_or, map as list_map, if◌then◌else◌}
use Rattle.std.specs.FinMap as map
use Rattle.alp_base.specs.declared.ids.TransId.{TransId}
use Rattle.alp_base.specs.declared.ids.JoinNo.{JoinNo}
use Rattle.alp_base.specs.declared.ids.Stamp.{Stamp}
use Rattle.alp_base.specs.declared.key.Key.TheVariants.{OwnerOf}
use Rattle.alp_base.specs.declared.choices.Choice.TheVariants as choice
use Rattle.alp_files.specs.Cells.{Cells}
use Rattle.alp_files.specs.History.{PerformedCall, Decided}
use Rattle.alp_base.specs.declared.cell.Cell.TheVariants as cell
use Rattle.alp_base.specs.declared.cell.OwnerRecord.{OwnerRecord}
use Rattle.alp_files.specs.declared.call.Call.{Call}
use Rattle.alp_files.specs.declared.call.Call.TheVariants as call
use Rattle.alp_files.specs.declared.reply.Reply.TheVariants as reply
use Rattle.alp_files.specs.declared.reply.Ended.TheVariants as ending
use Rattle.alp_files.specs.declared.refusal.Refusal.TheVariants as refusal
use Rattle.alp_journal.specs.declared.act.Act.{Act}
use Rattle.alp_journal.specs.declared.act.Act.TheVariants as act
use Rattle.alp_journal.specs.declared.event.Event.{Event}
use Rattle.alp_journal.specs.declared.event.Event.TheVariants as event
use Rattle.alp_journal.specs.declared.message.Message.TheVariants as msg
use Rattle.alp_journal.specs.declared.entry.Entry.{Entry}
use Rattle.alp_journal.specs.Opening.{Start}
use Rattle.alp_history.specs.Log.{Log, ServerLog, Decision, decided, shares_of, start_of, finish_of}
use Rattle.alp_history.specs.Theorems.{IsProper, IsOneThread}
use Rattle.alp_history.specs.Items.{Mark, Own, Repeated, Raw, Sent, Item, Handed}
use Rattle.alp_history.specs.Handed.{AreOfClients, ArePromisesKept}
use Rattle.alp_history.specs.Examples.{trans, join, nothing_seen, stamp, new, calls, arrives, restarts}

-- ---- what both servers hold: one owner, with this quota

abbrev pub owner_with : ℕ → OwnerRecord
owner_with n = record { name = codes "ann"; quota = n; charge = 0; create = codes "World" ∷ [] }

abbrev pub with_quota : ℕ → Cells
with_quota n = map.insert map.empty (OwnerOf (codes "ann")) (cell.Owner (owner_with n))

abbrev pub opening : ℕ → Start
opening n = record (new n) { cells = with_quota 9 }

-- ---- who and what: the first transaction is of server 1, the second one of server 2, and the third one of server 1 alone

abbrev pub second : TransId
second = record { server = 2; epoch = 2; counter = 1 }

abbrev pub second_join : JoinNo
second_join = record { server = 1; epoch = 2; counter = 1 }

abbrev pub second_stamp : Stamp
second_stamp = record { ts = 2; trans = second }

abbrev pub third : TransId
third = record { server = 1; epoch = 2; counter = 1 }

abbrev pub third_stamp : Stamp
third_stamp = record { ts = 3; trans = third }

abbrev pub sets : TransId → ℕ → Call
sets t n = call.SetQuota t (codes "ann") n choice.Fail

abbrev pub reads : TransId → Call
reads t = call.ReadOwner t (codes "ann") choice.Fail

abbrev pub hello : ℕ → Entry
hello epoch = calls 0 1 (call.Hello (codes "Admin")) (reply.Welcome epoch) []

abbrev pub ticks : List Act → Entry
ticks acts = record { event = event.Tick; reply = None; acts = acts }

-- ---- server 1: it coordinates the first transaction

abbrev pub one_begins : List Entry
one_begins =
    hello 1
    ∷ calls 1 2 (call.Begin nothing_seen) (reply.Begun trans) (act.Drawn trans ∷ [])
    ∷ calls 1 3 (sets trans 5) reply.Plain (act.Granted trans ∷ [])
    ∷ arrives 2 (msg.Register trans join 1) (act.Registered trans join ∷ act.Sent 2 (msg.Joined trans join) ∷ [])
    ∷ calls 1 4 (call.Finish trans true) (reply.Refused refusal.NotYet) (act.Sent 2 (msg.Ask trans join) ∷ [])
    ∷ []

-- with the vote it is decided; this commit is lost
abbrev pub one_decides : Entry
one_decides = arrives 2 (msg.Ready trans join 1) (act.Decided stamp (join ∷ []) ∷ act.Released trans ∷ act.Sent 2 (msg.Commit trans join stamp) ∷ [])

-- it starts again, says the commit again, and tells the client of it; then it takes part in the second transaction, which reads
abbrev pub one_joins : List Entry
one_joins =
    restarts 2 1 [] (stamp ∷ [])
    ∷ ticks (act.Sent 2 (msg.Commit trans join stamp) ∷ [])
    ∷ hello 2
    ∷ calls 2 2 (call.Outcome trans) (reply.Ended (ending.Committed stamp)) []
    ∷ calls 2 3 (call.Join second) (reply.Refused refusal.NotYet) (act.Sent 2 (msg.Register second second_join 1) ∷ [])
    ∷ arrives 2 (msg.Joined second second_join) []
    ∷ calls 2 4 (call.Collect 3) reply.Joined []
    ∷ calls 2 5 (reads second) (reply.Owner (owner_with 5)) (act.Granted second ∷ [])
    ∷ []

abbrev pub one_votes : Entry
one_votes = arrives 2 (msg.Ask second second_join) (act.Readied second second_join 2 ∷ act.Sent 2 (msg.Ready second second_join 2) ∷ [])

-- the second transaction is applied; the third one, whose client was told of the first, runs here alone, and its last frame comes
-- three times; the first one is forgotten
abbrev pub one_ends : List Entry
one_ends =
    arrives 2 (msg.Commit second second_join second_stamp) (act.Applied second_join second_stamp ∷ act.Released second ∷ act.Sent 2 (msg.Done second second_join) ∷ [])
    ∷ calls 2 6 (call.Begin stamp) (reply.Begun third) (act.Drawn third ∷ [])
    ∷ calls 2 7 (sets third 8) reply.Plain (act.Granted third ∷ [])
    ∷ calls 2 8 (call.Finish third true) (reply.Committed third_stamp) (act.Decided third_stamp [] ∷ act.Released third ∷ [])
    ∷ calls 2 8 (call.Finish third true) (reply.Committed third_stamp) []
    ∷ calls 2 8 (call.Finish third true) (reply.Committed third_stamp) []
    ∷ arrives 2 (msg.Done trans join) (act.Forgot trans ∷ [])
    ∷ []

abbrev pub one_with : (decides votes : Entry) → List Entry
one_with decides votes = one_begins ++ (decides ∷ (one_joins ++ (votes ∷ one_ends)))

-- ---- server 2: it takes part in the first transaction, votes, and starts again while it is ready

abbrev pub two_votes : List Entry
two_votes =
    hello 1
    ∷ calls 1 2 (call.Join trans) (reply.Refused refusal.NotYet) (act.Sent 1 (msg.Register trans join 1) ∷ [])
    ∷ arrives 1 (msg.Joined trans join) []
    ∷ calls 1 3 (call.Collect 2) reply.Joined []
    ∷ calls 1 4 (sets trans 5) reply.Plain (act.Granted trans ∷ [])
    ∷ arrives 1 (msg.Ask trans join) (act.Readied trans join 1 ∷ act.Sent 1 (msg.Ready trans join 1) ∷ [])
    ∷ restarts 2 0 (join ∷ []) []
    ∷ []

abbrev pub two_applies : Entry
two_applies = arrives 1 (msg.Commit trans join stamp) (act.Applied join stamp ∷ act.Released trans ∷ act.Sent 1 (msg.Done trans join) ∷ [])

-- it coordinates the second transaction
abbrev pub two_decides : List Entry
two_decides =
    hello 2
    ∷ calls 2 2 (call.Begin nothing_seen) (reply.Begun second) (act.Drawn second ∷ [])
    ∷ calls 2 3 (sets second 7) reply.Plain (act.Granted second ∷ [])
    ∷ arrives 1 (msg.Register second second_join 1) (act.Registered second second_join ∷ act.Sent 1 (msg.Joined second second_join) ∷ [])
    ∷ calls 2 4 (call.Finish second true) (reply.Refused refusal.NotYet) (act.Sent 1 (msg.Ask second second_join) ∷ [])
    ∷ arrives 1 (msg.Ready second second_join 2) (act.Decided second_stamp (second_join ∷ []) ∷ act.Released second ∷ act.Sent 1 (msg.Commit second second_join second_stamp) ∷ [])
    ∷ []

-- the word that the second one is done was sent once and comes twice; so does the commit of the first one, of which one word is lost
abbrev pub two_ends : List Entry
two_ends =
    arrives 1 (msg.Done second second_join) (act.Forgot second ∷ [])
    ∷ arrives 1 (msg.Done second second_join) []
    ∷ arrives 1 (msg.Commit trans join stamp) (act.Sent 1 (msg.Done trans join) ∷ [])
    ∷ []

-- ---- the journals

abbrev pub ranks_one : List ℕ
ranks_one = 1 ∷ 2 ∷ 3 ∷ 6 ∷ 10 ∷ 13 ∷ 14 ∷ 15 ∷ 20 ∷ 21 ∷ 22 ∷ 24 ∷ 25 ∷ 26 ∷ 28 ∷ 30 ∷ 32 ∷ 33 ∷ 34 ∷ 35 ∷ 36 ∷ 37 ∷ []

abbrev pub ranks_two : List ℕ
ranks_two = 4 ∷ 5 ∷ 7 ∷ 8 ∷ 9 ∷ 11 ∷ 12 ∷ 16 ∷ 18 ∷ 19 ∷ 20 ∷ 23 ∷ 27 ∷ 29 ∷ 31 ∷ 33 ∷ 35 ∷ []

abbrev pub one : List Entry
one = one_with one_decides one_votes

abbrev pub two_with : (applies : Entry) → List Entry
two_with applies = two_votes ++ (applies ∷ (two_decides ++ two_ends))

abbrev pub two : List Entry
two = two_with two_applies

-- ---- what clients sent and were handed

abbrev pub sent_in : Event → Option Sent
sent_in (event.Call client epoch number c) = Some (record { client = client; epoch = epoch; number = number; call = c })
sent_in e = None

abbrev pub journal_at : ℕ → List Entry
journal_at n = if n == 1 then one else two

-- a line of such a mark at a server, whose entry stands at this place
abbrev pub line_at : Mark → ℕ → ℕ → Item
line_at mark n i = record { server = n; mark = mark; sent = sent_in (unwrap_or (slice_get (journal_at n) i) (hello 0)).event; reply = (unwrap_or (slice_get (journal_at n) i) (hello 0)).reply; place = Some i }

abbrev pub own_line : ℕ × ℕ → Item
own_line p = line_at Own p.0 p.1

-- bytes that spell no frame
abbrev pub no_frame : Item
no_frame = record { server = 2; mark = Raw; sent = None; reply = Some (reply.Refused refusal.BadFrame); place = None }

-- the client's own lines, by server and place
abbrev pub own_places : List (ℕ × ℕ)
own_places =
    (1, 0) ∷ (1, 1) ∷ (1, 2) ∷ (2, 0) ∷ (2, 1) ∷ (2, 3) ∷ (2, 4) ∷ (1, 4) ∷ (2, 8) ∷ (2, 9) ∷ (2, 10) ∷ (1, 8) ∷ (1, 9) ∷ (1, 10) ∷ (1, 12) ∷ (1, 13) ∷ (2, 12)
    ∷ (1, 16) ∷ (1, 17) ∷ (1, 18) ∷ []

-- the last of its frames is sent again, and answered as before
abbrev pub lines : List Item
lines = list_map own_line own_places ++ line_at Repeated 1 19 ∷ no_frame ∷ []

-- another client's raw line sends that frame too, which names the first client
abbrev pub raw_lines : List Item
raw_lines = line_at Raw 1 20 ∷ []

abbrev pub items : Handed
items client = if client == 1 then lines else if client == 2 then raw_lines else []

-- ---- the log

abbrev pub runs : ℕ → List ℕ → List Entry → ServerLog
runs n ranks journal = record { opening = opening n; journal = journal; ranks = ranks }

abbrev pub both : Handed → ServerLog → ServerLog → Log
both handed x y = record { servers = x ∷ y ∷ []; handed = handed }

-- where nothing is said of clients
abbrev pub nothing : Handed
nothing client = []

abbrev pub right : Log
right = both items (runs 1 ranks_one one) (runs 2 ranks_two two)

-- ---- its history

-- what a transaction of this client did at a server: one call
abbrev pub does : Stamp → PerformedCall → Decided
does x d = record { stamp = x; who = codes "Admin"; calls = d ∷ [] }

abbrev pub set_done : TransId → ℕ → PerformedCall
set_done t n = record { call = sets t n; reply = reply.Plain }

abbrev pub found_done : TransId → ℕ → PerformedCall
found_done t n = record { call = reads t; reply = reply.Owner (owner_with n) }

abbrev pub first_decision : Decision
first_decision = (stamp, join ∷ [])

abbrev pub second_decision : Decision
second_decision = (second_stamp, second_join ∷ [])

abbrev pub third_decision : Decision
third_decision = (third_stamp, [])

-- The first transaction gives the owner the quota 5 on both servers; the second one gives it 7 on server 2 and finds 5 on
-- server 1; the third one gives it 8 on server 1. One thread that does this finds just that, and ends in what is held.
pub record IsHistoryOfRight : Type 0 where
  pub order : decided right ≡ first_decision ∷ second_decision ∷ third_decision ∷ []
  pub first_does : shares_of right first_decision ≡ (1, does stamp (set_done trans 5)) ∷ (2, does stamp (set_done trans 5)) ∷ []
  pub second_does : shares_of right second_decision ≡ (2, does second_stamp (set_done second 7)) ∷ (1, does second_stamp (found_done second 5)) ∷ []
  pub third_does : shares_of right third_decision ≡ (1, does third_stamp (set_done third 8)) ∷ []
  pub starts_one : start_of right 1 ≡ with_quota 9
  pub starts_two : start_of right 2 ≡ with_quota 9
  pub ends_one : finish_of right 1 ≡ with_quota 8
  pub ends_two : finish_of right 2 ≡ with_quota 7
  pub thread : IsOneThread right

-- the log and what its client was handed keep to all that the theorems ask, and they say of it what is written here
pub record IsShownRight : Type 0 where
  pub proper : IsProper right
  pub clients : AreOfClients right
  pub promises : ArePromisesKept right
  pub history : IsHistoryOfRight
