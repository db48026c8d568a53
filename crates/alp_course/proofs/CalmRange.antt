-- What ticks and messages keep along a journal.
use Rattle.std.specs.Prelude.{Bool, true, false, not, cond, ◌&&◌, ◌||◌, flat_map, Option, None, Some}
use Rattle.std.specs.List.{list_any, AllByRecursion}
use Rattle.std.proofs.Common.{◌≡◌, ℕ, suc, ◌<◌, ◌≤◌, List, [], ◌∷◌, ◌++◌, slice_get, length, refl, sym, ◌∙◌, ap, subst}
use Rattle.alp_base.specs.declared.ids.JoinNo.{JoinNo}
use Rattle.alp_base.specs.declared.ids.TransId.{TransId}
use Rattle.alp_files.specs.declared.call.Call.{Call}
use Rattle.alp_files.specs.declared.refusal.Cause.{Cause}
use Rattle.alp_files.specs.declared.reply.Reply.{Reply}
use Rattle.alp_journal.specs.Along.{state_after}
use Rattle.alp_journal.specs.Coordinator.{Fate, Undrawn, Running, Finishing, Committed, Forgotten, Ended}
use Rattle.alp_journal.specs.Deeds.{Deed}
use Rattle.alp_journal.specs.Desk.{Desk, Waiting, is_called}
use Rattle.alp_journal.specs.Holder.{Life}
use Rattle.alp_journal.specs.Ids.{same_trans, has_join}
use Rattle.alp_journal.specs.Laws.{regained_by, StartsRight}
use Rattle.alp_journal.specs.Moves.{next, stops, told, halted, tried, did, event_deeds, act_deeds, done_deeds, message_deeds, asks_for, grants_to, enters, refused_join, if_its, quits_for, ends_for, hears, refuses, acknowledges, first_sent, abort_in, no_in}
use Rattle.alp_journal.specs.Participant.{Phase, Unseen, Joining, Active, Ready, Applied, Over, live_in, open_in}
use Rattle.alp_journal.specs.State.{State, state_deed, opened}
use Rattle.alp_journal.specs.declared.act.Act.{Act}
use Rattle.alp_journal.specs.declared.act.Act.TheVariants as act
use Rattle.alp_journal.specs.declared.entry.Entry.{Entry}
use Rattle.alp_journal.specs.declared.event.Event.{Event}
use Rattle.alp_journal.specs.declared.event.Event.TheVariants as event
use Rattle.alp_journal.specs.declared.message.Message.{Message}
use Rattle.alp_journal.specs.declared.message.Message.TheVariants as msg
use Rattle.alp_journal.proofs.IdLemmas.{all-append}
use Rattle.alp_journal.proofs.Origins.{all-flat, all-cond}
use Rattle.alp_history.proofs.Places.{keeps-from}
use Rattle.alp_history.proofs.Rights.{IsRightEntry}
use Rattle.alp_course.proofs.CalmDeeds.{IsStill}

-- a tick, or a message that comes
abbrev pub IsMild : Event → Type 0
IsMild event.Tick = Unit {0}
IsMild (event.Arrive from m) = Unit {0}
IsMild e = ⊥

-- an entry of one that nothing stopped
pub record IsMildEntry (e : Entry) : Type 0 where
  pub mild : IsMild e.event
  pub goes : stops e ≡ false

-- ---- what it brings about

abbrev AllStill : List Deed → Type 0
AllStill ds = AllByRecursion IsStill ds

grants_still : (t : TransId) (o : Option Call) → AllStill (grants_to t o)
grants_still t None = tt
grants_still t (Some c) = (tt, tt)

act_still : (s : State) (e : Event) (a : Act) → IsMild e → regained_by a ≡ false → AllStill (act_deeds s e a)
act_still s e (act.Granted t) mild h = grants_still t (asks_for s e t (s.holder.lives t))
act_still s event.Tick (act.Drawn t) mild h = tt
act_still s (event.Arrive from m) (act.Drawn t) mild h = tt
act_still s e (act.Drawn t) mild h = absurd mild
act_still s e (act.Registered t j) mild h = (tt, tt)
act_still s e (act.Readied t j ts) mild h = (tt, tt)
act_still s e (act.Decided stamp js) mild h = (tt, tt)
act_still s e (act.Applied j stamp) mild h = (tt, tt)
act_still s e (act.Released t) mild h = (tt, tt)
act_still s e (act.Forgot t) mild h = (tt, tt)
act_still s e (act.Regained epoch clock ready stamps) mild h = absurd (let wrong : true ≡ false = h in cc)
act_still s e (act.Sent to m) mild h = tt
act_still s e act.Stopped mild h = tt
act_still s e act.Failed mild h = tt

either_false : (b d : Bool) → (b || d) ≡ false → (b ≡ false) × (d ≡ false)
either_false true d h = absurd (let wrong : true ≡ false = h in cc)
either_false false d h = (refl, h)

acts_still : (s : State) (e : Event) (acts : List Act) → IsMild e → list_any regained_by acts ≡ false → AllStill (flat_map (act_deeds s e) acts)
acts_still s e [] mild h = tt
acts_still s e (a ∷ acts) mild h =
    let both = either_false (regained_by a) (list_any regained_by acts) h in
    all-append IsStill (act_deeds s e a) (flat_map (act_deeds s e) acts) (act_still s e a mild both.0) (acts_still s e acts mild both.1)

ends_still : (t : TransId) (client : ℕ) (o : Option Cause) → AllStill (ends_for t client o)
ends_still t client None = tt
ends_still t client (Some c) = (tt, tt)

quits_still : (j : JoinNo) (t : TransId) (client : ℕ) (o : Option Cause) → AllStill (quits_for j t client o)
quits_still j t client None = tt
quits_still j t client (Some c) = (tt, tt)

its_still : (t : TransId) (o : Option (TransId × ℕ)) (f : ℕ → List Deed) → ((n : ℕ) → AllStill (f n)) → AllStill (if_its t o f)
its_still t None f h = tt
its_still t (Some x) f h = all-cond IsStill (same_trans x.0 t) (f x.1) [] (h x.1) tt

enters_still : (j : JoinNo) (t : TransId) (l : Option Life) (ws : List Waiting) (p : Phase) → AllStill (enters j t l ws p)
enters_still j t None ws (Joining u client who) = all-cond IsStill (same_trans u t && not (is_called t ws)) _ [] (tt, tt) tt
enters_still j t None ws Unseen = tt
enters_still j t None ws (Active u client who) = tt
enters_still j t None ws (Ready u client ts) = tt
enters_still j t None ws (Applied u x) = tt
enters_still j t None ws Over = tt
enters_still j t (Some l) ws p = tt

refused_still : (j : JoinNo) (t : TransId) (p : Phase) → AllStill (refused_join j t p)
refused_still j t (Joining u client who) = all-cond IsStill (same_trans u t) _ [] (tt, tt) tt
refused_still j t Unseen = tt
refused_still j t (Active u client who) = tt
refused_still j t (Ready u client ts) = tt
refused_still j t (Applied u x) = tt
refused_still j t Over = tt

hears_still : (s : State) (acts : List Act) (t : TransId) (j : JoinNo) (ts : ℕ) (f : Fate) → AllStill (hears s acts t j ts f)
hears_still s acts t j ts (Finishing client js vs) = all-cond IsStill (has_join j js) _ [] (tt, ends_still t client (first_sent (abort_in t) acts)) tt
hears_still s acts t j ts Undrawn = tt
hears_still s acts t j ts (Running client js) = tt
hears_still s acts t j ts (Committed x js ds) = tt
hears_still s acts t j ts (Forgotten x js) = tt
hears_still s acts t j ts (Ended c) = tt

refuses_still : (t : TransId) (j : JoinNo) (c : Cause) (f : Fate) → AllStill (refuses t j c f)
refuses_still t j c (Finishing client js vs) = all-cond IsStill (has_join j js) _ [] (tt, tt) tt
refuses_still t j c Undrawn = tt
refuses_still t j c (Running client js) = tt
refuses_still t j c (Committed x js ds) = tt
refuses_still t j c (Forgotten x js) = tt
refuses_still t j c (Ended d) = tt

does_still : (t : TransId) (j : JoinNo) (f : Fate) → AllStill (acknowledges t j f)
does_still t j (Committed x js ds) = all-cond IsStill (has_join j js) _ [] (tt, tt) tt
does_still t j Undrawn = tt
does_still t j (Running client js) = tt
does_still t j (Finishing client js vs) = tt
does_still t j (Forgotten x js) = tt
does_still t j (Ended c) = tt

message_still : (s : State) (acts : List Act) (m : Message) → AllStill (message_deeds s acts m)
message_still s acts (msg.Joined t j) = enters_still j t (s.holder.lives t) s.desk.waits (s.phases j)
message_still s acts (msg.JoinRefused t j) = refused_still j t (s.phases j)
message_still s acts (msg.Ask t j) = its_still t (open_in (s.phases j)) _ (λ client. quits_still j t client (first_sent (no_in s.holder.server j) acts))
message_still s acts (msg.Ready t j ts) = hears_still s acts t j ts (s.fates t)
message_still s acts (msg.No t j why) = refuses_still t j _ (s.fates t)
message_still s acts (msg.Abort t j c) = its_still t (live_in (s.phases j)) _ (λ client. (tt, tt))
message_still s acts (msg.Done t j) = does_still t j (s.fates t)
message_still s acts (msg.Register t j client) = tt
message_still s acts (msg.Commit t j stamp) = tt
message_still s acts (msg.Inquire t j) = tt

event_still : (s : State) (e : Event) (r : Option Reply) (acts : List Act) → IsMild e → AllStill (event_deeds s e r acts)
event_still s event.Tick r acts mild = tt
event_still s (event.Arrive from m) r acts mild = message_still s acts m
event_still s e r acts mild = absurd mild

done_still_all : (s : State) (e : Event) (r : Option Reply) → IsMild e → AllStill (done_deeds s e r)
done_still_all s event.Tick r mild = tt
done_still_all s (event.Arrive from m) r mild = tt
done_still_all s e r mild = absurd mild

none_regained : (s : State) (e : Entry) → IsMild e.event → StartsRight s e e.event → list_any regained_by e.acts ≡ false
none_regained s e mild starts = go e.event mild starts
  where
    go : (x : Event) → IsMild x → StartsRight s e x → list_any regained_by e.acts ≡ false
    go event.Tick mild h = h.0
    go (event.Arrive from m) mild h = h.0
    go x mild h = absurd mild

-- behind what the event itself brings about
pub behind_still : (s : State) (e : Entry) → IsMild e.event → StartsRight s e e.event → AllStill (flat_map (act_deeds s e.event) e.acts ++ done_deeds s e.event e.reply)
behind_still s e mild starts = all-append IsStill (flat_map (act_deeds s e.event) e.acts) (done_deeds s e.event e.reply) (acts_still s e.event e.acts mild (none_regained s e mild starts)) (done_still_all s e.event e.reply mild)

pub tried_still : (s : State) (e : Entry) → IsMild e.event → StartsRight s e e.event → AllStill (tried s e)
tried_still s e mild starts =
    all-append IsStill (event_deeds s e.event e.reply e.acts ++ flat_map (act_deeds s e.event) e.acts) (done_deeds s e.event e.reply)
    (all-append IsStill (event_deeds s e.event e.reply e.acts) (flat_map (act_deeds s e.event) e.acts) (event_still s e.event e.reply e.acts mild) (acts_still s e.event e.acts mild (none_regained s e mild starts)))
    (done_still_all s e.event e.reply mild)

-- ---- what is kept

-- what each such deed keeps, and what is no matter of the desk and of what is pending
pub record IsKept (Q : State → Type 0) : Type 0 where
  pub keep : (s : State) (d : Deed) → IsStill d → Q s → Q (state_deed s d)
  pub still : (s : State) (desk : Desk) (down : Bool) (pending : List Deed) → Q s → Q (record s { desk = desk; is_down = down; pending = pending })

module _ (Q : State → Type 0) (kept : IsKept Q) where
  pub deeds_keep : (ds : List Deed) (s : State) → AllStill ds → Q s → Q (state_after state_deed s ds)
  deeds_keep [] s all h = h
  deeds_keep (d ∷ ds) s all h = deeds_keep ds (state_deed s d) all.1 (kept.keep s d all.0 h)

  pub entry_keeps : (s : State) (e : Entry) → IsMildEntry e → StartsRight s e e.event → Q s → Q (next s e)
  entry_keeps s e mild starts h = go (stops e) mild.goes
    where
      go : (b : Bool) → b ≡ false → Q (cond b (halted s e) (told s e))
      go true wrong = absurd (let no : true ≡ false = wrong in cc)
      go false is = kept.still (did s e) (told s e).desk false [] (deeds_keep (tried s e) s (tried_still s e mild.mild starts) h)
