-- A log that goes on where an earlier run was cut off: server 1 opens on a decision whose part at server 2 is still ready. It keeps to
-- all that the theorems ask, and what the earlier run decided is in the files that its history starts on.
use Rattle.std.specs.Prelude.{◌≡◌, codes, true, List, [], ◌∷◌}
use Rattle.alp_base.specs.declared.ids.Stamp.{Stamp}
use Rattle.alp_base.specs.declared.key.Key.TheVariants.{OwnerOf}
use Rattle.alp_base.specs.declared.key.Resource.TheVariants.{Leaf}
use Rattle.alp_modes.specs.declared.Mode.TheVariants.{Write}
use Rattle.alp_files.specs.Edits.{Put}
use Rattle.alp_base.specs.declared.cell.Cell.TheVariants as cell
use Rattle.alp_files.specs.declared.call.Call.TheVariants as call
use Rattle.alp_files.specs.declared.reply.Reply.TheVariants as reply
use Rattle.alp_journal.specs.declared.act.Act.TheVariants as act
use Rattle.alp_journal.specs.declared.message.Message.TheVariants as msg
use Rattle.alp_journal.specs.declared.entry.Entry.{Entry}
use Rattle.alp_journal.specs.Opening.{ReadyNote, DecisionNote, Start}
use Rattle.alp_history.specs.Log.{Log, ServerLog, Decision, decided, shares_of, start_of, finish_of}
use Rattle.alp_history.specs.Theorems.{IsProper, IsOneThread}
use Rattle.alp_history.specs.Examples.{trans, join, nothing_seen, stamp, new, arrives}
use Rattle.alp_history.specs.RightLog.{owner_with, with_quota, reads, found_done, does, ticks, both, nothing}
use Rattle.alp_history.specs.RightJournals.{called, hello, afterwards}

-- ---- what the earlier run left: it gave the owner the quota 5 on server 2, which has not heard of the commit

abbrev pub left_decided : DecisionNote
left_decided = record { stamp = stamp; joins = join ∷ [] }

abbrev pub left_ready : ReadyNote
left_ready = record {
  join = join;
  trans = trans;
  ts = 1;
  client = 1;
  locks = (Leaf (OwnerOf (codes "ann")), Write) ∷ [];
  edits = Put (OwnerOf (codes "ann")) (cell.Owner (owner_with 5)) ∷ [];
}

abbrev pub opening_one : Start
opening_one = record (new 1) { epoch = 2; clock = 1; cells = with_quota 9; decisions = left_decided ∷ [] }

abbrev pub opening_two : Start
opening_two = record (new 2) { epoch = 2; cells = with_quota 9; ready = left_ready ∷ [] }

-- ---- the journals: server 2 asks how it ended, and applies it; then a client reads

abbrev pub resumed_one : List Entry
resumed_one =
    arrives 2 (msg.Inquire trans join) (act.Sent 2 (msg.Commit trans join stamp) ∷ [])
    ∷ arrives 2 (msg.Done trans join) (act.Forgot trans ∷ [])
    ∷ []

abbrev pub reading_stamp : Stamp
reading_stamp = record { ts = 2; trans = afterwards }

abbrev pub resumed_two : List Entry
resumed_two =
    ticks (act.Sent 1 (msg.Inquire trans join) ∷ [])
    ∷ arrives 1 (msg.Commit trans join stamp) (act.Applied join stamp ∷ act.Released trans ∷ act.Sent 1 (msg.Done trans join) ∷ [])
    ∷ hello 1 2
    ∷ called 1 2 2 (call.Begin nothing_seen) (reply.Begun afterwards) (act.Drawn afterwards ∷ [])
    ∷ called 1 2 3 (reads afterwards) (reply.Owner (owner_with 5)) (act.Granted afterwards ∷ [])
    ∷ called 1 2 4 (call.Finish afterwards true) (reply.Committed reading_stamp) (act.Decided reading_stamp [] ∷ act.Released afterwards ∷ [])
    ∷ []

abbrev pub goes_on_one : ServerLog
goes_on_one = record { opening = opening_one; journal = resumed_one; ranks = 2 ∷ 4 ∷ [] }

abbrev pub goes_on_two : ServerLog
goes_on_two = record { opening = opening_two; journal = resumed_two; ranks = 1 ∷ 3 ∷ 5 ∷ 6 ∷ 7 ∷ 8 ∷ [] }

abbrev pub resumed : Log
resumed = both nothing goes_on_one goes_on_two

-- ---- its history: the reading transaction alone, on files in which the earlier one stands

abbrev pub reading : Decision
reading = (reading_stamp, [])

pub record IsShownResumed : Type 0 where
  pub proper : IsProper resumed
  pub order : decided resumed ≡ reading ∷ []
  pub does_it : shares_of resumed reading ≡ (2, does reading_stamp (found_done afterwards 5)) ∷ []
  pub starts_one : start_of resumed 1 ≡ with_quota 9
  pub starts_two : start_of resumed 2 ≡ with_quota 5
  pub ends_one : finish_of resumed 1 ≡ with_quota 9
  pub ends_two : finish_of resumed 2 ≡ with_quota 5
  pub thread : IsOneThread resumed
