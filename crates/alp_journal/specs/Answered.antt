-- What is said and answered: an entry of a server that goes by the rules has just the effects, messages and answers that its
-- event calls for. Beside the laws of what may come about these say that it does come about.
use Rattle.std.specs.Prelude.{◌≡◌, ℕ, ◌<◌, Bool, true, false, not, ◌==◌, ◌&&◌, ◌||◌, ◌⊎◌, List, [], ◌∷◌, ◌++◌, filter, flat_map, Option, None, Some, is_some, slice_get, if◌then◌else◌}
use Rattle.std.specs.List.{list_any}
use Rattle.std.specs.Option.{option_or}
use Rattle.alp_base.specs.declared.ids.TransId.{TransId}
use Rattle.alp_files.specs.declared.reply.Reply.{Reply}
use Rattle.alp_files.specs.declared.reply.Reply.TheVariants as reply
use Rattle.alp_files.specs.declared.refusal.Refusal.TheVariants as refusal
use Rattle.alp_files.specs.declared.refusal.Why.TheVariants as why
use Rattle.alp_files.specs.declared.refusal.Cause.TheVariants as cause
use Rattle.alp_files.specs.declared.call.Call.{Call}
use Rattle.alp_files.specs.Holdings.{Holding, covers_held}
use Rattle.alp_files.specs.Locks.{Need}
use Rattle.alp_journal.specs.declared.act.Act.{Act}
use Rattle.alp_journal.specs.declared.act.Act.TheVariants as act
use Rattle.alp_journal.specs.declared.event.Event.{Event}
use Rattle.alp_journal.specs.declared.event.Event.TheVariants as event
use Rattle.alp_journal.specs.declared.message.Message.TheVariants as msg
use Rattle.alp_journal.specs.declared.entry.Entry.{Entry}
use Rattle.alp_journal.specs.Along.{Along, Where, state_after}
use Rattle.alp_journal.specs.Opening.{Start}
use Rattle.alp_journal.specs.Deeds.{Deed, Ends, Grants}
use Rattle.alp_journal.specs.Coordinator.{Fate, Committed, has_all, has_votes}
use Rattle.alp_journal.specs.Participant.{Ready, Applied}
use Rattle.alp_journal.specs.Holder.{Holder, Life, holder_after}
use Rattle.alp_journal.specs.Desk.{Waiting, file_trans}
use Rattle.alp_journal.specs.Counts.{request_in}
use Rattle.alp_journal.specs.State.{State, state_deed, opened}
use Rattle.alp_journal.specs.Moves.{is_new, event_deeds, act_deeds, stops, next}
use Rattle.alp_journal.specs.Laws.{IsFree, granted_by}
use Rattle.alp_journal.specs.Messages.{SendsDue, TicksInOrder}
use Rattle.alp_journal.specs.Halts.{HaltsRight}
use Rattle.alp_journal.specs.Answers.{shape_refusal, lock_refusal, part_refusal, AnswersRight}

-- ---- a message has its effect

-- a ready part that is told to commit is applied; a stamp of another transaction is passed over
abbrev pub AppliesTold : State → State → Event → Type 0
AppliesTold s m (event.Arrive from (msg.Commit t j stamp)) = (client ts : ℕ) → stamp.trans ≡ t → s.phases j ≡ Ready t client ts → m.phases j ≡ Applied t stamp
AppliesTold s m e = Unit {0}

-- nothing that has all its votes is still to be decided
abbrev pub CountsVotes : State → Type 0
CountsVotes m = (t : TransId) → has_votes (m.fates t) ≡ false

-- a decision that all its joins have done is forgotten
abbrev pub is_all_done : Fate → Bool
is_all_done (Committed stamp (j ∷ js) done) = has_all done (j ∷ js)
is_all_done f = false

abbrev pub ForgetsDone : State → Type 0
ForgetsDone m = (t : TransId) → is_all_done (m.fates t) ≡ false

-- ---- whose turn it is

-- A call asks where the part's mode would rise on a resource: what it needs decides, and what the part holds and its file
-- gives, and not its name.
abbrev pub rises_on : Holding → Need → Bool
rises_on held n = not (covers_held (held n.0) n.1)

-- it holds a lock already on a resource that it asks for
abbrev pub is_conversion_of : Holder → Waiting → Option Life → Bool
is_conversion_of h w None = false
is_conversion_of h w (Some l) = list_any (λ (n : Need). rises_on l.held n && is_some (l.held n.0)) (request_in h w.call (Some l))

abbrev pub is_conversion : Holder → Waiting → Option TransId → Bool
is_conversion h w None = false
is_conversion h w (Some t) = is_conversion_of h w (h.lives t)

-- conversions first, then by arrival
abbrev pub in_turn : Holder → List Waiting → List Waiting
in_turn h ws = filter (λ w. is_conversion h w (file_trans w.call)) ws ++ filter (λ w. not (is_conversion h w (file_trans w.call))) ws

-- a call of this live part waits for its locks
pub record IsWaitingFor (h : Holder) (w : Waiting) (t : TransId) (l : Life) : Type 0 where
  pub call : file_trans w.call ≡ Some t
  pub ungranted : w.is_granted ≡ false
  pub live : h.lives t ≡ Some l
  pub its : w.client ≡ l.client

-- the list is walked once, and each request that is free then is granted
pub data IsWalk : Holder → List Waiting → List TransId → Type 0 where
  ends : (h : Holder) → IsWalk h [] []
  passes : (h : Holder) (w : Waiting) (ws : List Waiting) (ts : List TransId) → ((t : TransId) (l : Life) → IsWaitingFor h w t l → IsFree h t l w.call → ⊥) → IsWalk h ws ts → IsWalk h (w ∷ ws) ts
  takes : (h : Holder) (w : Waiting) (ws : List Waiting) (ts : List TransId) (t : TransId) (l : Life)
      → IsWaitingFor h w t l → IsFree h t l w.call → IsWalk (holder_after h (Grants t w.call)) ws ts → IsWalk h (w ∷ ws) (t ∷ ts)

abbrev pub is_release : Act → Bool
is_release (act.Released t) = true
is_release a = false

-- the acts up to the first release
abbrev pub to_release : List Act → List Act
to_release [] = []
to_release (a ∷ acts) = if is_release a then a ∷ [] else a ∷ to_release acts

abbrev pub at_release : State → Entry → Holder
at_release s e = (state_after state_deed s (event_deeds s e.event e.reply e.acts ++ flat_map (act_deeds s e.event) (to_release e.acts))).holder

-- what is let go is given on in turn
abbrev pub GivesOn : State → Entry → Type 0
GivesOn s e = Where (list_any is_release e.acts) (IsWalk (at_release s e) (in_turn (at_release s e) s.desk.waits) (flat_map granted_by e.acts)) (Unit {0})

-- a call asks where the part's mode would rise
abbrev pub asks : Holder → Life → Call → Bool
asks h l c = list_any (rises_on l.held) (request_in h c (Some l))

-- a call that asks for locks is granted them at once where it is neither refused before nor finds them held
abbrev pub grants_by : Bool → TransId → Reply → List TransId
grants_by asked t (reply.Refused (refusal.LockConflict holder)) = []
grants_by asked t (reply.Refused refusal.NotYet) = []
grants_by asked t r = if asked then t ∷ [] else []

abbrev pub grants_if : State → TransId → Call → Reply → Option Life → List TransId
grants_if s t c r None = []
grants_if s t c r (Some l) = if is_some (option_or (shape_refusal s l c) (lock_refusal s t l c)) then [] else grants_by (asks s.holder l c) t r

abbrev pub grants_now : State → ℕ → TransId → Call → Reply → List TransId
grants_now s client t c r = if is_some (part_refusal s client t) then [] else grants_if s t c r (s.holder.lives t)

-- where a read failed it may have been before the grant, or behind it
abbrev pub GrantsFor : Bool → State → ℕ → Call → Reply → List TransId → Option TransId → Type 0
GrantsFor failed s client c r ts None = Unit {0}
GrantsFor failed s client c r ts (Some t) = ((failed ≡ true) × (r ≡ reply.Refused refusal.ReadFault) × (ts ≡ [])) ⊎ (ts ≡ grants_now s client t c r)

abbrev pub GrantsAtOnce : Bool → State → Entry → Event → Option Reply → Type 0
GrantsAtOnce failed s e (event.Call client epoch number c) (Some r) = Where (is_new s client epoch number) (GrantsFor failed s client c r (flat_map granted_by e.acts) (file_trans c)) (Unit {0})
GrantsAtOnce failed s e x r = Unit {0}

-- ---- an entry, and a journal

-- what the one vote or the one read of a step found at the device does not stand in the entry: whether it failed is given
pub record IsAnsweredEntry (failed : Bool) (s : State) (e : Entry) : Type 0 where
  pub answered : AnswersRight failed s e
  pub sent : SendsDue failed s e
  pub ticks : TicksInOrder e e.event
  pub applied : Where (stops e) (Unit {0}) (AppliesTold s (next s e) e.event)
  pub votes : Where (stops e) (Unit {0}) (CountsVotes (next s e))
  pub forgets : Where (stops e) (Unit {0}) (ForgetsDone (next s e))
  pub turns : GivesOn s e
  pub grants : Where (stops e) (Unit {0}) (GrantsAtOnce failed s e e.event e.reply)
  -- where the device stopped, just what the one write of the step would have held stands
  pub halted : Where (stops e) (HaltsRight s e) (Unit {0})

abbrev pub IsAnsweredSo : State → Entry → Type 0
IsAnsweredSo s e = (failed : Bool) × IsAnsweredEntry failed s e

-- no step adds an entry to a journal that is full; a restart does
abbrev pub entries_limit : ℕ
entries_limit = 65536

abbrev pub FitsJournal : List Entry → Type 0
FitsJournal journal = (i : ℕ) (e : Entry) → slice_get journal i ≡ Some e → (e.event ≡ event.Restart) ⊎ (i < entries_limit)

abbrev pub IsAnswered : Start → List Entry → Type 0
IsAnswered o journal = Along next IsAnsweredSo (opened o) journal × FitsJournal journal

-- A reply that shows that a read of this server's device failed: in the call itself, or at its own vote on the transaction.
abbrev pub is_fault_reply : ℕ → Option Reply → Bool
is_fault_reply here (Some (reply.Refused refusal.ReadFault)) = true
is_fault_reply here (Some (reply.Refused (refusal.Aborted (cause.Voted server why.ReadFault)))) = server == here
is_fault_reply here r = false

-- An entry that shows that the device failed in it: a call is answered so, a vote says so to another server, this server's own
-- vote ends a transaction so, or a write failed. A reply may also tell of an own vote that an earlier entry cast.
abbrev pub is_read_fault : Option Reply → Bool
is_read_fault (Some (reply.Refused refusal.ReadFault)) = true
is_read_fault r = false

abbrev pub is_fault_act : Act → Bool
is_fault_act (act.Sent to (msg.No t j why.ReadFault)) = true
is_fault_act act.Failed = true
is_fault_act a = false

abbrev pub is_fault_deed : ℕ → Deed → Bool
is_fault_deed here (Ends t client (cause.Voted server why.ReadFault)) = server == here
is_fault_deed here d = false

abbrev pub shows_fault : State → Entry → Bool
shows_fault s e = is_read_fault e.reply || list_any is_fault_act e.acts || list_any (is_fault_deed s.holder.server) (event_deeds s e.event e.reply e.acts)
