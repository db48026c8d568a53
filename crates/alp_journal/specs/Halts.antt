-- What the one write of a step holds. It is determined by the event and the state, so an entry whose device stopped names just
-- that, and the restart tells whether it was made. A step that neither writes nor reads does not stop.
use Rattle.std.specs.Prelude.{◌≡◌, ℕ, ◌+◌, Bool, true, false, ◌==◌, ◌&&◌, ◌||◌, ◌⊎◌, List, [], ◌∷◌, ◌++◌, Option, None, Some, is_none, if◌then◌else◌}
use Rattle.alp_base.specs.declared.ids.JoinNo.{JoinNo}
use Rattle.alp_base.specs.declared.ids.TransId.{TransId}
use Rattle.alp_base.specs.declared.ids.Stamp.{Stamp}
use Rattle.alp_files.specs.declared.call.Call.{Call}
use Rattle.alp_files.specs.declared.call.Call.TheVariants as call
use Rattle.alp_files.specs.declared.refusal.Why.{Why}
use Rattle.alp_journal.specs.declared.act.Act.{Act}
use Rattle.alp_journal.specs.declared.act.Act.TheVariants as act
use Rattle.alp_journal.specs.declared.event.Event.{Event}
use Rattle.alp_journal.specs.declared.event.Event.TheVariants as event
use Rattle.alp_journal.specs.declared.message.Message.{Message}
use Rattle.alp_journal.specs.declared.message.Message.TheVariants as msg
use Rattle.alp_journal.specs.declared.entry.Entry.{Entry}
use Rattle.alp_journal.specs.Ids.{same_trans, has_join}
use Rattle.alp_journal.specs.Coordinator.{Fate, Running, Finishing, Committed, with_vote, has_all}
use Rattle.alp_journal.specs.Participant.{Phase, Active, Ready}
use Rattle.alp_journal.specs.Desk.{Waiting, file_trans, waiting_of, waiting_at}
use Rattle.alp_journal.specs.State.{State}
use Rattle.alp_journal.specs.Moves.{is_new}
use Rattle.alp_journal.specs.Laws.{latest_vote}
use Rattle.alp_journal.specs.Messages.{has_all_votes, why_not, why_not_own}
use Rattle.alp_journal.specs.Answers.{part_refusal}

-- the local part's changes and the decision, where this server's own vote is for it
abbrev pub decides : TransId → ℕ → List JoinNo → Option Why → List Act
decides t ts js None = act.Decided (record { ts = ts; trans = t }) js ∷ []
decides t ts js (Some w) = []

-- a Finish with commit of a transaction without joins
abbrev pub by_finish : State → ℕ → TransId → Fate → List Act
by_finish s client t (Running c []) = if c == client && is_none (waiting_of s.desk client t) then decides t (s.holder.clock + 1) [] (why_not_own false s t) else []
by_finish s client t f = []

abbrev pub by_call : State → ℕ → Call → List Act
by_call s client (call.Finish t true) = by_finish s client t (s.fates t)
by_call s client c = []

-- the last vote
abbrev pub by_vote : State → TransId → JoinNo → ℕ → Fate → List Act
by_vote s t j ts (Finishing client js vs) = if has_all_votes j ts js vs then decides t (latest_vote (s.holder.clock + 1) (with_vote j ts vs)) js (why_not_own false s t) else []
by_vote s t j ts f = []

-- the note of a part that votes for the commit
abbrev pub readies : State → TransId → JoinNo → Option Why → List Act
readies s t j None = act.Readied t j (s.holder.clock + 1) ∷ []
readies s t j (Some w) = []

abbrev pub by_ask : State → TransId → JoinNo → Phase → List Act
by_ask s t j (Active u client who) = if same_trans u t then readies s t j (why_not false s client t) else []
by_ask s t j p = []

-- the changes of a ready part
abbrev pub by_commit : TransId → JoinNo → Stamp → Phase → List Act
by_commit t j stamp (Ready u client ts) = if same_trans u t && same_trans stamp.trans t then act.Applied j stamp ∷ [] else []
by_commit t j stamp p = []

-- the end of a decision, with the last of its joins
abbrev pub by_done : TransId → JoinNo → Fate → List Act
by_done t j (Committed stamp js ds) = if has_join j js && has_all (j ∷ ds) js then act.Forgot t ∷ [] else []
by_done t j f = []

abbrev pub by_message : State → Message → List Act
by_message s (msg.Ready t j ts) = by_vote s t j ts (s.fates t)
by_message s (msg.Ask t j) = by_ask s t j (s.phases j)
by_message s (msg.Commit t j stamp) = by_commit t j stamp (s.phases j)
by_message s (msg.Done t j) = by_done t j (s.fates t)
by_message s m = []

abbrev pub written : State → Event → List Act
written s (event.Call client epoch number c) = if is_new s client epoch number then by_call s client c else []
written s (event.Arrive from m) = by_message s m
written s e = []

-- an Abort that ends a ready part is written too, and needs no act, since the event says it
abbrev pub is_note_of : TransId → Phase → Bool
is_note_of t (Ready u client ts) = same_trans u t
is_note_of t p = false

abbrev pub ends_note : State → Event → Bool
ends_note s (event.Arrive from (msg.Abort t j c)) = is_note_of t (s.phases j)
ends_note s e = false

abbrev pub is_some_act : List Act → Bool
is_some_act [] = false
is_some_act (a ∷ acts) = true

abbrev pub writes : State → Event → Bool
writes s e = is_some_act (written s e) || ends_note s e

abbrev pub is_part_alive : State → ℕ → Option TransId → Bool
is_part_alive s client None = false
is_part_alive s client (Some t) = is_none (s.desk.dead client t)

-- a call on files that a part at work makes, or collects once its locks are granted, may read the device
abbrev pub is_part_at_work : State → ℕ → Option TransId → Bool
is_part_at_work s client None = false
is_part_at_work s client (Some t) = is_none (part_refusal s client t)

abbrev pub is_performed_now : State → ℕ → Option Waiting → Bool
is_performed_now s client None = false
is_performed_now s client (Some w) = w.is_granted && is_part_alive s client (file_trans w.call)

abbrev pub may_read_for : State → ℕ → Call → Bool
may_read_for s client (call.Collect n) = is_performed_now s client (waiting_at s.desk client n)
may_read_for s client c = is_part_at_work s client (file_trans c)

abbrev pub may_read : State → Event → Bool
may_read s (event.Call client epoch number c) = is_new s client epoch number && may_read_for s client c
may_read s e = false

-- an entry whose device stopped, at its write or at a read
pub record IsStoppedSo (s : State) (e : Entry) : Type 0 where
  pub reaches : (writes s e.event || may_read s e.event) ≡ true
  pub acts : e.acts ≡ written s e.event ++ act.Stopped ∷ []

-- one whose write failed; a read that fails is answered as such, and halts nothing
pub record IsFailedSo (s : State) (e : Entry) : Type 0 where
  pub reaches : writes s e.event ≡ true
  pub acts : e.acts ≡ written s e.event ++ act.Failed ∷ []

-- of an entry whose device stopped or failed
abbrev pub HaltsRight : State → Entry → Type 0
HaltsRight s e = IsStoppedSo s e ⊎ IsFailedSo s e
