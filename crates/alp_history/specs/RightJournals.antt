-- Journals of two servers that keep the laws, entry by entry: what the laws must let through. `WrongJournals` has what they refuse.
use Rattle.std.specs.Prelude.{ℕ, codes, true, false, List, [], ◌∷◌, Some}
use Rattle.alp_base.specs.declared.ids.TransId.{TransId}
use Rattle.alp_base.specs.declared.ids.JoinNo.{JoinNo}
use Rattle.alp_base.specs.declared.ids.Stamp.{Stamp}
use Rattle.alp_base.specs.declared.choices.Choice.TheVariants as choice
use Rattle.alp_files.specs.History.{PerformedCall}
use Rattle.alp_files.specs.declared.call.Call.{Call}
use Rattle.alp_files.specs.declared.call.Call.TheVariants as call
use Rattle.alp_files.specs.declared.reply.Reply.{Reply}
use Rattle.alp_files.specs.declared.reply.Reply.TheVariants as reply
use Rattle.alp_files.specs.declared.refusal.Refusal.TheVariants as refusal
use Rattle.alp_files.specs.declared.refusal.Why.TheVariants as why
use Rattle.alp_files.specs.declared.refusal.Cause.TheVariants as cause
use Rattle.alp_journal.specs.declared.act.Act.{Act}
use Rattle.alp_journal.specs.declared.act.Act.TheVariants as act
use Rattle.alp_journal.specs.declared.event.Event.TheVariants as event
use Rattle.alp_journal.specs.declared.message.Message.TheVariants as msg
use Rattle.alp_journal.specs.declared.entry.Entry.{Entry}
use Rattle.alp_journal.specs.Laws.{IsLawful}
use Rattle.alp_journal.specs.Answered.{IsAnswered}
use Rattle.alp_history.specs.Examples.{trans, join, nothing_seen, stamp, new, arrives, restarts}
use Rattle.alp_history.specs.RightLog.{owner_with, sets, reads, ticks}

-- ---- who and what

-- a call of a client with its reply; a greeting with the epoch that it is told
abbrev pub called : ℕ → ℕ → ℕ → Call → Reply → List Act → Entry
called client epoch number c r acts = record { event = event.Call client epoch number c; reply = Some r; acts = acts }

abbrev pub hello : ℕ → ℕ → Entry
hello client epoch = called client 0 1 (call.Hello (codes "Admin")) (reply.Welcome epoch) []

abbrev pub makes : TransId → ℕ → Call
makes t n = call.MakeOwner t (codes "ann") n (codes "World" ∷ []) choice.Fail

abbrev pub made_done : TransId → ℕ → PerformedCall
made_done t n = record { call = makes t n; reply = reply.Plain }

abbrev pub missed_done : TransId → PerformedCall
missed_done t = record { call = reads t; reply = reply.Refused refusal.UnknownOwner }

abbrev pub second : TransId
second = record { server = 2; epoch = 1; counter = 1 }

abbrev pub second_join : JoinNo
second_join = record { server = 1; epoch = 1; counter = 1 }

abbrev pub second_stamp : Stamp
second_stamp = record { ts = 2; trans = second }

-- of server 2, after it started again
abbrev pub afterwards : TransId
afterwards = record { server = 2; epoch = 2; counter = 1 }

abbrev pub again : JoinNo
again = record { server = 2; epoch = 2; counter = 1 }

abbrev pub afterwards_stamp : Stamp
afterwards_stamp = record { ts = 1; trans = afterwards }

abbrev pub last_stamp : Stamp
last_stamp = record { ts = 3; trans = afterwards }

-- of server 2, before
abbrev pub earlier : TransId
earlier = record { server = 2; epoch = 1; counter = 1 }

abbrev pub earlier_stamp : Stamp
earlier_stamp = record { ts = 1; trans = earlier }

abbrev pub later_stamp : Stamp
later_stamp = record { ts = 2; trans = trans }

-- of server 1, for another client, whose call waits
abbrev pub waiting : TransId
waiting = record { server = 1; epoch = 1; counter = 2 }

abbrev pub waits_for : Call
waits_for = call.ReadOwner waiting (codes "ann") choice.Wait

-- ---- lost and repeated messages: a question, a commit and a vote come twice, and a commit is lost

abbrev pub repeated_one : List Entry
repeated_one =
    hello 1 1
    ∷ called 1 1 2 (call.Begin nothing_seen) (reply.Begun trans) (act.Drawn trans ∷ [])
    ∷ called 1 1 3 (makes trans 9) (reply.Plain) (act.Granted trans ∷ [])
    ∷ arrives 2 (msg.Register trans join 1) (act.Registered trans join ∷ act.Sent 2 (msg.Joined trans join) ∷ [])
    ∷ called 1 1 4 (call.Finish trans true) (reply.Refused refusal.NotYet) (act.Sent 2 (msg.Ask trans join) ∷ [])
    ∷ called 1 1 5 (reads trans) (reply.Refused refusal.Finishing) []
    ∷ arrives 2 (msg.Ready trans join 1) (act.Decided stamp (join ∷ []) ∷ act.Released trans ∷ act.Sent 2 (msg.Commit trans join stamp) ∷ [])
    ∷ called 1 1 6 (call.Collect 4) (reply.Committed stamp) []
    -- the commit was lost; it is said again, then the vote comes again, and the part is done, twice
    ∷ ticks (act.Sent 2 (msg.Commit trans join stamp) ∷ [])
    ∷ arrives 2 (msg.Ready trans join 1) []
    ∷ arrives 2 (msg.Done trans join) (act.Forgot trans ∷ [])
    ∷ arrives 2 (msg.Done trans join) []
    ∷ called 1 1 7 (call.Join second) (reply.Refused refusal.NotYet) (act.Sent 2 (msg.Register second second_join 1) ∷ [])
    ∷ arrives 2 (msg.Joined second second_join) []
    ∷ called 1 1 8 (call.Collect 7) reply.Joined []
    ∷ called 1 1 9 (reads second) (reply.Owner (owner_with 9)) (act.Granted second ∷ [])
    ∷ arrives 2 (msg.Ask second second_join) (act.Readied second second_join 2 ∷ act.Sent 2 (msg.Ready second second_join 2) ∷ [])
    ∷ arrives 2 (msg.Commit second second_join second_stamp) (act.Applied second_join second_stamp ∷ act.Released second ∷ act.Sent 2 (msg.Done second second_join) ∷ [])
    ∷ []

abbrev pub repeated_two : List Entry
repeated_two =
    hello 1 1
    ∷ called 1 1 2 (call.Join trans) (reply.Refused refusal.NotYet) (act.Sent 1 (msg.Register trans join 1) ∷ [])
    ∷ arrives 1 (msg.Joined trans join) []
    ∷ called 1 1 3 (call.Collect 2) reply.Joined []
    ∷ called 1 1 4 (makes trans 9) (reply.Plain) (act.Granted trans ∷ [])
    ∷ arrives 1 (msg.Ask trans join) (act.Readied trans join 1 ∷ act.Sent 1 (msg.Ready trans join 1) ∷ [])
    -- asked again, it says its vote again
    ∷ arrives 1 (msg.Ask trans join) (act.Sent 1 (msg.Ready trans join 1) ∷ [])
    ∷ arrives 1 (msg.Commit trans join stamp) (act.Applied join stamp ∷ act.Released trans ∷ act.Sent 1 (msg.Done trans join) ∷ [])
    ∷ called 1 1 5 (call.Begin stamp) (reply.Begun second) (act.Drawn second ∷ [])
    ∷ arrives 1 (msg.Register second second_join 1) (act.Registered second second_join ∷ act.Sent 1 (msg.Joined second second_join) ∷ [])
    ∷ called 1 1 6 (call.Finish second true) (reply.Refused refusal.NotYet) (act.Sent 1 (msg.Ask second second_join) ∷ [])
    ∷ arrives 1 (msg.Ready second second_join 2) (act.Decided second_stamp (second_join ∷ []) ∷ act.Released second ∷ act.Sent 1 (msg.Commit second second_join second_stamp) ∷ [])
    ∷ arrives 1 (msg.Done second second_join) (act.Forgot second ∷ [])
    ∷ called 1 1 7 (call.Collect 6) (reply.Committed second_stamp) []
    ∷ []

-- ---- a worker that lost its part: server 2 starts again, and its part is gone; the transaction ends by its vote

abbrev pub rejoined_one : List Entry
rejoined_one =
    hello 1 1
    ∷ called 1 1 2 (call.Begin nothing_seen) (reply.Begun trans) (act.Drawn trans ∷ [])
    ∷ arrives 2 (msg.Register trans join 1) (act.Registered trans join ∷ act.Sent 2 (msg.Joined trans join) ∷ [])
    -- a second join of one server is refused
    ∷ arrives 2 (msg.Register trans again 1) (act.Sent 2 (msg.JoinRefused trans again) ∷ [])
    ∷ called 1 1 3 (call.Finish trans true) (reply.Refused refusal.NotYet) (act.Sent 2 (msg.Ask trans join) ∷ [])
    ∷ arrives 2 (msg.No trans join why.UnknownJoin) (act.Released trans ∷ act.Sent 2 (msg.Abort trans join (cause.Voted 2 why.UnknownJoin)) ∷ [])
    ∷ called 1 1 4 (call.Collect 3) (reply.Refused (refusal.Aborted (cause.Voted 2 why.UnknownJoin))) []
    ∷ []

abbrev pub rejoined_two : List Entry
rejoined_two =
    hello 1 1
    ∷ called 1 1 2 (call.Join trans) (reply.Refused refusal.NotYet) (act.Sent 1 (msg.Register trans join 1) ∷ [])
    ∷ arrives 1 (msg.Joined trans join) []
    ∷ called 1 1 3 (call.Collect 2) reply.Joined []
    ∷ called 1 1 4 (makes trans 9) (reply.Plain) (act.Granted trans ∷ [])
    ∷ restarts 2 0 ([]) ([])
    ∷ called 1 1 5 (call.MakeOwner trans (codes "bob") 9 (codes "World" ∷ []) choice.Fail) (reply.Refused (refusal.StaleSession 2)) []
    ∷ hello 1 2
    ∷ called 1 2 2 (call.Join trans) (reply.Refused refusal.NotYet) (act.Sent 1 (msg.Register trans again 1) ∷ [])
    ∷ arrives 1 (msg.JoinRefused trans again) []
    ∷ called 1 2 3 (call.Collect 2) (reply.Refused refusal.UnknownTrans) []
    -- asked for its vote, it knows the join no more
    ∷ arrives 1 (msg.Ask trans join) (act.Sent 1 (msg.No trans join why.UnknownJoin) ∷ [])
    ∷ arrives 1 (msg.Abort trans join (cause.Voted 2 why.UnknownJoin)) []
    ∷ called 1 2 4 (call.Begin nothing_seen) (reply.Begun afterwards) (act.Drawn afterwards ∷ [])
    ∷ called 1 2 5 (reads afterwards) (reply.Refused refusal.UnknownOwner) (act.Granted afterwards ∷ [])
    ∷ called 1 2 6 (call.Finish afterwards true) (reply.Committed afterwards_stamp) (act.Decided afterwards_stamp [] ∷ act.Released afterwards ∷ [])
    ∷ []

-- ---- a lock that outlives a restart: server 2 starts again while its part is ready; its read lock stands until the commit comes

abbrev pub outlived_one : List Entry
outlived_one =
    hello 1 1
    ∷ called 1 1 2 (call.Begin earlier_stamp) (reply.Begun trans) (act.Drawn trans ∷ [])
    ∷ arrives 2 (msg.Register trans join 1) (act.Registered trans join ∷ act.Sent 2 (msg.Joined trans join) ∷ [])
    ∷ called 1 1 3 (makes trans 5) (reply.Plain) (act.Granted trans ∷ [])
    ∷ called 1 1 4 (call.Finish trans true) (reply.Refused refusal.NotYet) (act.Sent 2 (msg.Ask trans join) ∷ [])
    ∷ arrives 2 (msg.Ready trans join 2) (act.Decided later_stamp (join ∷ []) ∷ act.Released trans ∷ act.Sent 2 (msg.Commit trans join later_stamp) ∷ [])
    ∷ arrives 2 (msg.Done trans join) (act.Forgot trans ∷ [])
    ∷ called 1 1 5 (call.Collect 4) (reply.Committed later_stamp) []
    ∷ []

abbrev pub outlived_two : List Entry
outlived_two =
    hello 1 1
    ∷ called 1 1 2 (call.Begin nothing_seen) (reply.Begun earlier) (act.Drawn earlier ∷ [])
    ∷ called 1 1 3 (makes earlier 9) (reply.Plain) (act.Granted earlier ∷ [])
    ∷ called 1 1 4 (call.Finish earlier true) (reply.Committed earlier_stamp) (act.Decided earlier_stamp [] ∷ act.Released earlier ∷ [])
    ∷ called 1 1 5 (call.Join trans) (reply.Refused refusal.NotYet) (act.Sent 1 (msg.Register trans join 1) ∷ [])
    ∷ arrives 1 (msg.Joined trans join) []
    ∷ called 1 1 6 (call.Collect 5) reply.Joined []
    ∷ called 1 1 7 (reads trans) (reply.Owner (owner_with 9)) (act.Granted trans ∷ [])
    ∷ arrives 1 (msg.Ask trans join) (act.Readied trans join 2 ∷ act.Sent 1 (msg.Ready trans join 2) ∷ [])
    ∷ restarts 2 1 (join ∷ []) ([])
    ∷ hello 2 2
    ∷ called 2 2 2 (call.Begin nothing_seen) (reply.Begun afterwards) (act.Drawn afterwards ∷ [])
    -- the part that is ready still holds the owner for reading
    ∷ called 2 2 3 (sets afterwards 3) (reply.Refused (refusal.LockConflict trans)) []
    ∷ arrives 1 (msg.Commit trans join later_stamp) (act.Applied join later_stamp ∷ act.Released trans ∷ act.Sent 1 (msg.Done trans join) ∷ [])
    ∷ called 2 2 4 (sets afterwards 3) (reply.Plain) (act.Granted afterwards ∷ [])
    ∷ called 2 2 5 (call.Finish afterwards true) (reply.Committed last_stamp) (act.Decided last_stamp [] ∷ act.Released afterwards ∷ [])
    ∷ []

-- ---- a decision that is cut off, and found made at the restart: the device stops inside the write of the decision; the clock that is found shows it made

abbrev pub found_one : List Entry
found_one =
    hello 1 1
    ∷ called 1 1 2 (call.Begin nothing_seen) (reply.Begun trans) (act.Drawn trans ∷ [])
    ∷ called 1 1 3 (makes trans 9) (reply.Plain) (act.Granted trans ∷ [])
    ∷ arrives 2 (msg.Register trans join 1) (act.Registered trans join ∷ act.Sent 2 (msg.Joined trans join) ∷ [])
    ∷ called 1 1 4 (call.Finish trans true) (reply.Refused refusal.NotYet) (act.Sent 2 (msg.Ask trans join) ∷ [])
    ∷ record (arrives 2 (msg.Ready trans join 1) (act.Decided stamp (join ∷ []) ∷ act.Stopped ∷ [])) { reply = Some (reply.Refused refusal.Down) }
    ∷ restarts 2 1 ([]) (stamp ∷ [])
    ∷ ticks (act.Sent 2 (msg.Commit trans join stamp) ∷ [])
    ∷ arrives 2 (msg.Inquire trans join) (act.Sent 2 (msg.Commit trans join stamp) ∷ [])
    ∷ arrives 2 (msg.Done trans join) (act.Forgot trans ∷ [])
    ∷ []

abbrev pub found_two : List Entry
found_two =
    hello 1 1
    ∷ called 1 1 2 (call.Join trans) (reply.Refused refusal.NotYet) (act.Sent 1 (msg.Register trans join 1) ∷ [])
    ∷ arrives 1 (msg.Joined trans join) []
    ∷ called 1 1 3 (call.Collect 2) reply.Joined []
    ∷ called 1 1 4 (makes trans 9) (reply.Plain) (act.Granted trans ∷ [])
    ∷ arrives 1 (msg.Ask trans join) (act.Readied trans join 1 ∷ act.Sent 1 (msg.Ready trans join 1) ∷ [])
    ∷ ticks (act.Sent 1 (msg.Inquire trans join) ∷ [])
    ∷ arrives 1 (msg.Commit trans join stamp) (act.Applied join stamp ∷ act.Released trans ∷ act.Sent 1 (msg.Done trans join) ∷ [])
    ∷ arrives 1 (msg.Commit trans join stamp) (act.Sent 1 (msg.Done trans join) ∷ [])
    ∷ []

-- ---- a decision that is cut off, and found not made: the same, where the old clock is found: the transaction is lost, and the part that is ready learns it

abbrev pub cut_one : List Entry
cut_one =
    hello 1 1
    ∷ called 1 1 2 (call.Begin nothing_seen) (reply.Begun trans) (act.Drawn trans ∷ [])
    ∷ called 1 1 3 (makes trans 9) (reply.Plain) (act.Granted trans ∷ [])
    ∷ arrives 2 (msg.Register trans join 1) (act.Registered trans join ∷ act.Sent 2 (msg.Joined trans join) ∷ [])
    ∷ called 1 1 4 (call.Finish trans true) (reply.Refused refusal.NotYet) (act.Sent 2 (msg.Ask trans join) ∷ [])
    ∷ record (arrives 2 (msg.Ready trans join 1) (act.Decided stamp (join ∷ []) ∷ act.Stopped ∷ [])) { reply = Some (reply.Refused refusal.Down) }
    ∷ restarts 2 0 ([]) ([])
    ∷ ticks []
    ∷ arrives 2 (msg.Inquire trans join) (act.Sent 2 (msg.Abort trans join (cause.Lost 2)) ∷ [])
    ∷ []

abbrev pub cut_two : List Entry
cut_two =
    hello 1 1
    ∷ called 1 1 2 (call.Join trans) (reply.Refused refusal.NotYet) (act.Sent 1 (msg.Register trans join 1) ∷ [])
    ∷ arrives 1 (msg.Joined trans join) []
    ∷ called 1 1 3 (call.Collect 2) reply.Joined []
    ∷ called 1 1 4 (makes trans 9) (reply.Plain) (act.Granted trans ∷ [])
    ∷ arrives 1 (msg.Ask trans join) (act.Readied trans join 1 ∷ act.Sent 1 (msg.Ready trans join 1) ∷ [])
    ∷ ticks (act.Sent 1 (msg.Inquire trans join) ∷ [])
    ∷ arrives 1 (msg.Abort trans join (cause.Lost 2)) (act.Released trans ∷ [])
    ∷ []

-- ---- a call that waits: a client's call waits for a lock, is granted it when the other part ends, and is performed as it is collected

abbrev pub waits_one : List Entry
waits_one =
    hello 1 1
    ∷ called 1 1 2 (call.Begin nothing_seen) (reply.Begun trans) (act.Drawn trans ∷ [])
    ∷ called 1 1 3 (makes trans 9) (reply.Plain) (act.Granted trans ∷ [])
    ∷ hello 2 1
    ∷ called 2 1 2 (call.Begin nothing_seen) (reply.Begun waiting) (act.Drawn waiting ∷ [])
    ∷ called 2 1 3 waits_for (reply.Refused refusal.NotYet) []
    -- the first part ends, and the one that waited has its lock
    ∷ called 1 1 4 (call.Finish trans false) (reply.Refused (refusal.Aborted cause.Asked)) (act.Released trans ∷ act.Granted waiting ∷ [])
    ∷ called 2 1 4 (call.Collect 3) (reply.Refused refusal.UnknownOwner) []
    ∷ []

-- ---- a join that another server brings: the answer goes to the server that drew it

abbrev pub brought : List Entry
brought =
    hello 1 1
    ∷ called 1 1 2 (call.Begin nothing_seen) (reply.Begun trans) (act.Drawn trans ∷ [])
    ∷ arrives 3 (msg.Register trans join 1) (act.Registered trans join ∷ act.Sent 2 (msg.Joined trans join) ∷ [])
    ∷ []

-- ---- all of them

pub record AreLawfulJournals : Type 0 where
  pub repeated_one : IsLawful (new 1) repeated_one
  pub repeated_two : IsLawful (new 2) repeated_two
  pub rejoined_one : IsLawful (new 1) rejoined_one
  pub rejoined_two : IsLawful (new 2) rejoined_two
  pub outlived_one : IsLawful (new 1) outlived_one
  pub outlived_two : IsLawful (new 2) outlived_two
  pub found_one : IsLawful (new 1) found_one
  pub found_two : IsLawful (new 2) found_two
  pub cut_one : IsLawful (new 1) cut_one
  pub cut_two : IsLawful (new 2) cut_two
  pub waits_one : IsLawful (new 1) waits_one
  pub brought : IsLawful (new 1) brought × IsAnswered (new 1) brought
