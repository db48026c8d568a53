-- which event a deed comes from
use Rattle.std.specs.Prelude.{Bool, true, false, cond, not, ◌&&◌, ◌||◌, ◌==◌, flat_map, Option, None, Some, is_none}
use Rattle.std.specs.List.{list_any, AllByRecursion}
use Rattle.std.proofs.Common.{◌≡◌, ℕ, List, [], ◌∷◌, ◌++◌, refl}
use Rattle.std.proofs.lemmas.Bool.{or_parts}
use Rattle.alp_base.specs.declared.ids.JoinNo.{JoinNo}
use Rattle.alp_base.specs.declared.ids.TransId.{TransId}
use Rattle.alp_files.specs.declared.call.Call.{Call}
use Rattle.alp_files.specs.declared.call.Call.TheVariants as call
use Rattle.alp_files.specs.declared.reply.Reply.{Reply}
use Rattle.alp_files.specs.declared.reply.Reply.TheVariants as reply
use Rattle.alp_files.specs.declared.refusal.Refusal.TheVariants as refusal
use Rattle.alp_files.specs.declared.refusal.Cause.{Cause}
use Rattle.alp_files.specs.declared.refusal.Cause.TheVariants as cause
use Rattle.alp_files.specs.Passing.{is_passing}
use Rattle.alp_journal.specs.declared.act.Act.{Act}
use Rattle.alp_journal.specs.declared.act.Act.TheVariants as act
use Rattle.alp_journal.specs.declared.event.Event.{Event}
use Rattle.alp_journal.specs.declared.event.Event.TheVariants as event
use Rattle.alp_journal.specs.declared.message.Message.{Message}
use Rattle.alp_journal.specs.declared.message.Message.TheVariants as msg
use Rattle.alp_journal.specs.Ids.{same_trans, has_join}
use Rattle.alp_journal.specs.Deeds.{Deed, Begins, Joins, Enters, Quits, Aborts, Grants, Performs, Releases, Readies, Applies, Registers, Finishes, Hears, Decides, Ends, Acknowledges, Restarts}
use Rattle.alp_journal.specs.Coordinator.{Fate, Running, Finishing, Committed, client_of}
use Rattle.alp_journal.specs.Participant.{Phase, Joining, live_in, open_in}
use Rattle.alp_journal.specs.Holder.{Life}
use Rattle.alp_journal.specs.Desk.{Desk, Waiting, file_trans, is_called, is_not_yet, waiting_of}
use Rattle.alp_journal.specs.State.{State, has_part}
use Rattle.alp_journal.specs.Moves.{is_new, joins_here, ends_by, finishes, call_deeds, abort_in, no_in, first_sent, ends_for, quits_for, enters, refused_join, if_its, hears, refuses, acknowledges, message_deeds, times_out_here, times_out_join, event_deeds, asks_for, grants_to, begins_at, act_deeds, answered, is_of_no_file, done_by, done_of, done_deeds, next_join, principal}
use Rattle.alp_journal.specs.Laws.{regained_by}
use Rattle.alp_journal.proofs.IdLemmas.{all-append}

pub all-flat : {A B : Type 0} (P : B → Type 0) (f : A → List B) (xs : List A) → ((x : A) → AllByRecursion P (f x)) → AllByRecursion P (flat_map f xs)
all-flat P f [] h = tt
all-flat P f (x ∷ xs) h = all-append P (f x) (flat_map f xs) (h x) (all-flat P f xs h)

pub all-cond : {B : Type 0} (P : B → Type 0) (b : Bool) (xs ys : List B) → AllByRecursion P xs → AllByRecursion P ys → AllByRecursion P (cond b xs ys)
all-cond P true xs ys h k = h
all-cond P false xs ys h k = k

-- a vote, the end of a join by its coordinator, and the word that it has applied come by their messages
abbrev pub IsFrom : State → Event → Deed → Type 0
IsFrom s e (Hears t j ts) = (from : ℕ) × (e ≡ event.Arrive from (msg.Ready t j ts))
IsFrom s e (Acknowledges t j) = (from : ℕ) × (e ≡ event.Arrive from (msg.Done t j))
IsFrom s e (Aborts j t client c) = (from : ℕ) × (e ≡ event.Arrive from (msg.Abort t j c)) × ((x : TransId × ℕ) × (live_in (s.phases j) ≡ Some x))
IsFrom s e (Enters j t client who) = (from : ℕ) × (e ≡ event.Arrive from (msg.Joined t j))
IsFrom s e (Restarts epoch clock) = ⊥
IsFrom s e d = Unit {0}

-- what an event brings about by itself is no write
abbrev pub IsEventFrom : State → Event → Deed → Type 0
IsEventFrom s e (Hears t j ts) = (from : ℕ) × (e ≡ event.Arrive from (msg.Ready t j ts))
IsEventFrom s e (Acknowledges t j) = (from : ℕ) × (e ≡ event.Arrive from (msg.Done t j))
IsEventFrom s e (Aborts j t client c) = (from : ℕ) × (e ≡ event.Arrive from (msg.Abort t j c)) × ((x : TransId × ℕ) × (live_in (s.phases j) ≡ Some x))
IsEventFrom s e (Enters j t client who) = (from : ℕ) × (e ≡ event.Arrive from (msg.Joined t j))
IsEventFrom s e (Restarts epoch clock) = ⊥
IsEventFrom s e (Readies j t ts) = ⊥
IsEventFrom s e (Applies j x) = ⊥
IsEventFrom s e (Decides x js) = ⊥
IsEventFrom s e (Begins t c w n) = ⊥
IsEventFrom s e (Grants t c) = ⊥
IsEventFrom s e (Performs t x) = ⊥
IsEventFrom s e (Releases t) = ⊥
IsEventFrom s e (Registers t j) = ⊥
IsEventFrom s e d = Unit {0}

event-is-from : (s : State) (e : Event) (d : Deed) → IsEventFrom s e d → IsFrom s e d
event-is-from s e (Hears t j ts) h = h
event-is-from s e (Acknowledges t j) h = h
event-is-from s e (Aborts j t client c) h = h
event-is-from s e (Enters j t client who) h = h
event-is-from s e (Restarts epoch clock) h = h
event-is-from s e d h = tt

all-weaker : (s : State) (e : Event) (ds : List Deed) → AllByRecursion (IsEventFrom s e) ds → AllByRecursion (IsFrom s e) ds
all-weaker s e [] h = tt
all-weaker s e (d ∷ ds) h = (event-is-from s e d h.0, all-weaker s e ds h.1)

abbrev AllFrom : State → Event → List Deed → Type 0
AllFrom s e ds = AllByRecursion (IsFrom s e) ds

abbrev AllEvent : State → Event → List Deed → Type 0
AllEvent s e ds = AllByRecursion (IsEventFrom s e) ds

module _ (s : State) where
  ends_by-from : (e : Event) (t : TransId) (client : ℕ) (r : Reply) → AllEvent s e (ends_by t client r)
  ends_by-from e t client (reply.Refused (refusal.Aborted c)) = (tt, tt)
  ends_by-from e t client r = tt

  finishes-from : (e : Event) (desk : Desk) (client : ℕ) (t : TransId) (commit : Bool) (r : Reply) (f : Fate) → AllEvent s e (finishes desk client t commit r f)
  finishes-from e desk client t false r (Running c js) = all-cond (IsEventFrom s e) (c == client) (Ends t client cause.Asked ∷ []) [] (tt, tt) tt
  finishes-from e desk client t true r (Running c js) =
      all-cond (IsEventFrom s e) (c == client && is_none (waiting_of desk client t)) (Finishes t ∷ ends_by t client r) [] (tt, ends_by-from e t client r) tt
  finishes-from e desk client t commit r f = tt

  call-from : (e : Event) (client : ℕ) (c : Call) (r : Reply) → AllEvent s e (call_deeds s client c r)
  call-from e client (call.Join t) r =
      all-cond (IsEventFrom s e) (is_not_yet r) (joins_here s client t) [] (all-cond (IsEventFrom s e) (has_part s client t) [] (Joins (next_join s) t client (principal s client) ∷ []) tt (tt, tt)) tt
  call-from e client (call.Finish t commit) r = finishes-from e s.desk client t commit r (s.fates t)
  call-from e client c r = tt

  ends_for-from : (e : Event) (t : TransId) (client : ℕ) (c : Option Cause) → AllEvent s e (ends_for t client c)
  ends_for-from e t client None = tt
  ends_for-from e t client (Some c) = (tt, tt)

  quits_for-from : (e : Event) (j : JoinNo) (t : TransId) (client : ℕ) (c : Option Cause) → AllEvent s e (quits_for j t client c)
  quits_for-from e j t client None = tt
  quits_for-from e j t client (Some c) = (tt, tt)

  enters-from : (from : ℕ) (j : JoinNo) (t : TransId) (l : Option Life) (ws : List Waiting) (p : Phase) → AllEvent s (event.Arrive from (msg.Joined t j)) (enters j t l ws p)
  enters-from from j t None ws (Joining u client who) =
      all-cond (IsEventFrom s (event.Arrive from (msg.Joined t j))) (same_trans u t && not (is_called t ws)) (Enters j t client who ∷ []) [] ((from, refl), tt) tt
  enters-from from j t l ws p = tt

  refused-from : (e : Event) (j : JoinNo) (t : TransId) (p : Phase) → AllEvent s e (refused_join j t p)
  refused-from e j t (Joining u client who) = all-cond (IsEventFrom s e) (same_trans u t) (Quits j t client None ∷ []) [] (tt, tt) tt
  refused-from e j t p = tt

  its-from : (e : Event) (t : TransId) (x : Option (TransId × ℕ)) (next : ℕ → List Deed) → ((y : TransId × ℕ) → x ≡ Some y → AllEvent s e (next y.1)) → AllEvent s e (if_its t x next)
  its-from e t None next h = tt
  its-from e t (Some y) next h = all-cond (IsEventFrom s e) (same_trans y.0 t) (next y.1) [] (h y refl) tt

  hears-from : (from : ℕ) (acts : List Act) (t : TransId) (j : JoinNo) (ts : ℕ) (f : Fate) → AllEvent s (event.Arrive from (msg.Ready t j ts)) (hears s acts t j ts f)
  hears-from from acts t j ts (Finishing client js vs) =
      let e : Event = event.Arrive from (msg.Ready t j ts) in
      all-cond (IsEventFrom s e) (has_join j js) (Hears t j ts ∷ ends_for t client (first_sent (abort_in t) acts)) [] ((from, refl), ends_for-from e t client (first_sent (abort_in t) acts)) tt
  hears-from from acts t j ts f = tt

  refuses-from : (e : Event) (t : TransId) (j : JoinNo) (c : Cause) (f : Fate) → AllEvent s e (refuses t j c f)
  refuses-from e t j c (Finishing client js vs) = all-cond (IsEventFrom s e) (has_join j js) (Ends t client c ∷ []) [] (tt, tt) tt
  refuses-from e t j c f = tt

  acknowledges-from : (from : ℕ) (t : TransId) (j : JoinNo) (f : Fate) → AllEvent s (event.Arrive from (msg.Done t j)) (acknowledges t j f)
  acknowledges-from from t j (Committed x js ds) = all-cond (IsEventFrom s (event.Arrive from (msg.Done t j))) (has_join j js) (Acknowledges t j ∷ []) [] ((from, refl), tt) tt
  acknowledges-from from t j f = tt

  message-from : (from : ℕ) (acts : List Act) (m : Message) → AllEvent s (event.Arrive from m) (message_deeds s acts m)
  message-from from acts (msg.Joined t j) = enters-from from j t (s.holder.lives t) s.desk.waits (s.phases j)
  message-from from acts (msg.JoinRefused t j) = refused-from (event.Arrive from (msg.JoinRefused t j)) j t (s.phases j)
  message-from from acts (msg.Ask t j) =
      its-from (event.Arrive from (msg.Ask t j)) t (open_in (s.phases j)) (λ client. quits_for j t client (first_sent (no_in s.holder.server j) acts))
      (λ y e. quits_for-from (event.Arrive from (msg.Ask t j)) j t y.1 (first_sent (no_in s.holder.server j) acts))
  message-from from acts (msg.Ready t j ts) = hears-from from acts t j ts (s.fates t)
  message-from from acts (msg.No t j why) = refuses-from (event.Arrive from (msg.No t j why)) t j (cause.Voted j.server why) (s.fates t)
  message-from from acts (msg.Abort t j c) =
      its-from (event.Arrive from (msg.Abort t j c)) t (live_in (s.phases j)) (λ client. Aborts j t client c ∷ []) (λ y e. ((from, refl, (y, e)), tt))
  message-from from acts (msg.Done t j) = acknowledges-from from t j (s.fates t)
  message-from from acts (msg.Register t j client) = tt
  message-from from acts (msg.Commit t j x) = tt
  message-from from acts (msg.Inquire t j) = tt

  times_out-from : (e : Event) (t : TransId) (x : Option ℕ) → AllEvent s e (times_out_here t x)
  times_out-from e t None = tt
  times_out-from e t (Some client) = (tt, tt)

  pub event-from : (e : Event) (r : Option Reply) (acts : List Act) → AllEvent s e (event_deeds s e r acts)
  event-from (event.Call client epoch number c) (Some r) acts =
      all-cond (IsEventFrom s (event.Call client epoch number c)) (is_new s client epoch number) (call_deeds s client c r) [] (call-from (event.Call client epoch number c) client c r) tt
  event-from (event.Call client epoch number c) None acts = tt
  event-from (event.Arrive from m) r acts = message-from from acts m
  event-from (event.Timeout t) r acts =
      let e : Event = event.Timeout t in
      all-append (IsEventFrom s e) (times_out_here t (client_of (s.fates t))) (flat_map (times_out_join s t) s.joined) (times_out-from e t (client_of (s.fates t)))
      (all-flat (IsEventFrom s e) (times_out_join s t) s.joined (λ j. its-from e t (open_in (s.phases j)) (λ client. Quits j t client (Some cause.TimedOut) ∷ []) (λ y i. (tt, tt))))
  event-from event.Tick r acts = tt
  event-from event.Force r acts = tt
  event-from event.Restart r acts = tt

  grants-from : (e : Event) (t : TransId) (c : Option Call) → AllFrom s e (grants_to t c)
  grants-from e t None = tt
  grants-from e t (Some c) = (tt, tt)

  begins-from : (e : Event) (t : TransId) → AllFrom s e (begins_at s e t)
  begins-from (event.Call client epoch number (call.Begin seen)) t = (tt, tt)
  begins-from (event.Call client epoch number c) t = tt
  begins-from e t = tt

  act-from : (e : Event) (a : Act) → regained_by a ≡ false → AllFrom s e (act_deeds s e a)
  act-from e (act.Granted t) h = grants-from e t (asks_for s e t (s.holder.lives t))
  act-from e (act.Drawn t) h = begins-from e t
  act-from e (act.Registered t j) h = (tt, tt)
  act-from e (act.Readied t j ts) h = (tt, tt)
  act-from e (act.Decided x js) h = (tt, tt)
  act-from e (act.Applied j x) h = (tt, tt)
  act-from e (act.Released t) h = (tt, tt)
  act-from e (act.Forgot t) h = (tt, tt)
  act-from e (act.Regained epoch clock ready xs) h = cc
  act-from e (act.Sent to m) h = tt
  act-from e act.Stopped h = tt
  act-from e act.Failed h = tt

  acts-from : (e : Event) (acts : List Act) → list_any regained_by acts ≡ false → AllFrom s e (flat_map (act_deeds s e) acts)
  acts-from e [] h = tt
  acts-from e (a ∷ acts) h =
      let parts = or_parts (regained_by a) (list_any regained_by acts) h in
      all-append (IsFrom s e) (act_deeds s e a) (flat_map (act_deeds s e) acts) (act-from e a parts.0) (acts-from e acts parts.1)

  done_by-from : (e : Event) (c : Call) (r : Reply) (t : Option TransId) → AllFrom s e (done_by s c r t)
  done_by-from e c r None = tt
  done_by-from e c r (Some t) = all-cond (IsFrom s e) (is_passing r || is_of_no_file s c r) [] (Performs t (record { call = c; reply = r }) ∷ []) tt (tt, tt)

  done_of-from : (e : Event) (r : Reply) (c : Option Call) → AllFrom s e (done_of s r c)
  done_of-from e r None = tt
  done_of-from e r (Some c) = done_by-from e c r (file_trans c)

  pub done-from : (e : Event) (r : Option Reply) → AllFrom s e (done_deeds s e r)
  done-from (event.Call client epoch number c) (Some r) =
      all-cond (IsFrom s (event.Call client epoch number c)) (is_new s client epoch number) (done_of s r (answered s client c)) [] (done_of-from (event.Call client epoch number c) r (answered s client c)) tt
  done-from (event.Call client epoch number c) None = tt
  done-from (event.Arrive from m) r = tt
  done-from (event.Timeout t) r = tt
  done-from event.Tick r = tt
  done-from event.Force r = tt
  done-from event.Restart r = tt

  -- of an entry that is no restart
  pub tried-from : (e : Event) (r : Option Reply) (acts : List Act) → list_any regained_by acts ≡ false
      → AllFrom s e (event_deeds s e r acts ++ flat_map (act_deeds s e) acts ++ done_deeds s e r)
  tried-from e r acts h =
      all-append (IsFrom s e) (event_deeds s e r acts ++ flat_map (act_deeds s e) acts) (done_deeds s e r)
      (all-append (IsFrom s e) (event_deeds s e r acts) (flat_map (act_deeds s e) acts) (all-weaker s e (event_deeds s e r acts) (event-from e r acts)) (acts-from e acts h)) (done-from e r)
