-- A part enters where it asked to, and where none of its transaction lives: no law says so, since it follows from what an
-- entry brings about.
use Rattle.std.specs.Prelude.{Bool, true, false, cond, not, ◌&&◌, flat_map, Option, None, Some}
use Rattle.std.specs.List.{list_any, AllByRecursion}
use Rattle.std.proofs.Common.{◌≡◌, ℕ, List, [], ◌∷◌, ◌++◌, refl, ap, ◌∙◌}
use Rattle.std.proofs.lemmas.Bool.{or_parts}
use Rattle.alp_base.specs.declared.ids.JoinNo.{JoinNo}
use Rattle.alp_base.specs.declared.ids.TransId.{TransId}
use Rattle.alp_files.specs.declared.call.Call.{Call}
use Rattle.alp_files.specs.declared.reply.Reply.{Reply}
use Rattle.alp_journal.specs.declared.act.Act.{Act}
use Rattle.alp_journal.specs.declared.act.Act.TheVariants as act
use Rattle.alp_journal.specs.declared.event.Event.{Event}
use Rattle.alp_journal.specs.declared.event.Event.TheVariants as event
use Rattle.alp_journal.specs.declared.message.Message.{Message}
use Rattle.alp_journal.specs.declared.message.Message.TheVariants as msg
use Rattle.alp_journal.specs.declared.entry.Entry.{Entry}
use Rattle.alp_journal.specs.Along.{Along}
use Rattle.alp_journal.specs.Ids.{same_trans}
use Rattle.alp_journal.specs.Deeds.{Deed, Begins, Joins, Enters, Quits, Aborts, Grants, Performs, Releases, Readies, Applies, Registers, Finishes, Hears, Decides, Ends, Acknowledges, Forgets, Restarts}
use Rattle.alp_journal.specs.Participant.{Phase, Unseen, Joining, Active, Ready, Applied, Over}
use Rattle.alp_journal.specs.Desk.{is_called}
use Rattle.alp_journal.specs.Holder.{Life}
use Rattle.alp_journal.specs.State.{State, state_deed}
use Rattle.alp_journal.specs.Moves.{enters, act_deeds, tried, next, asks_for, grants_to}
use Rattle.alp_journal.specs.Laws.{DrawsAsTold, CountsOn, KeepsSessions, SeesView, DoLivesAgree, KeepsLocks, IsOpenPart, IsOfOpenPart, LetsGo, RegistersOnce, VotesOnce, DecidesRight, AppliesRight, ForgetsRight, SaysRight, TellsDecided, StartsRight, StopsRight, IsLawfulDeed, IsLawfulEntry, regained_by}
use Rattle.alp_journal.proofs.IdLemmas.{all-append, same_trans-true}
use Rattle.alp_journal.proofs.Origins.{IsFrom, tried-from}

abbrev pub RunsOrEnters : State → Deed → Type 0
RunsOrEnters s (Grants t c) = IsOpenPart s t
RunsOrEnters s (Performs t d) = IsOpenPart s t
RunsOrEnters s (Enters j t client who) = (s.phases j ≡ Joining t client who) × (s.holder.lives t ≡ None)
RunsOrEnters s d = Unit {0}

pub record IsRightDeed (e : Event) (s : State) (d : Deed) : Type 0 where
  pub counts : CountsOn s d
  pub view : SeesView e s d
  pub locks : KeepsLocks s d
  pub running : RunsOrEnters s d
  pub registration : RegistersOnce e s d
  pub vote : VotesOnce e s d
  pub decision : DecidesRight e s d
  pub application : AppliesRight e s d
  pub forgetting : ForgetsRight e s d

abbrev pub DeedsAreRight : State → Entry → Event → Type 0
DeedsAreRight s e event.Restart = Unit {0}
DeedsAreRight s e x = Along state_deed (IsRightDeed x) s (tried s e)

pub record IsRightEntry (s : State) (e : Entry) : Type 0 where
  pub drawn : DrawsAsTold s e
  pub sessions : KeepsSessions s e e.event
  pub deeds : DeedsAreRight s e e.event
  pub agree : DoLivesAgree (next s e).holder.lives
  pub released : LetsGo s e e.event
  pub said : AllByRecursion (SaysRight e.event (next s e)) e.acts
  pub told : TellsDecided s (next s e) e.event e.reply
  pub restart : StartsRight s e e.event
  pub stopped : StopsRight e

-- ---- deeds by which no part enters

abbrev NotEnters : Deed → Type 0
NotEnters (Enters j t client who) = ⊥
NotEnters d = Unit {0}

runs : (s : State) (d : Deed) → NotEnters d → IsOfOpenPart s d → RunsOrEnters s d
runs s (Begins t c u n) q h = tt
runs s (Joins j t c u) q h = tt
runs s (Enters j t c u) q h = absurd q
runs s (Quits j t c a) q h = tt
runs s (Aborts j t c a) q h = tt
runs s (Grants t c) q h = h
runs s (Performs t c) q h = h
runs s (Releases t) q h = tt
runs s (Readies j t ts) q h = tt
runs s (Applies j x) q h = tt
runs s (Registers t j) q h = tt
runs s (Finishes t) q h = tt
runs s (Hears t j ts) q h = tt
runs s (Decides x js) q h = tt
runs s (Ends t c a) q h = tt
runs s (Acknowledges t j) q h = tt
runs s (Forgets t) q h = tt
runs s (Restarts n m) q h = tt

raise : (e : Event) (s : State) (d : Deed) → RunsOrEnters s d → IsLawfulDeed e s d → IsRightDeed e s d
raise e s d r law = record {
  counts = law.counts;
  view = law.view;
  locks = law.locks;
  running = r;
  registration = law.registration;
  vote = law.vote;
  decision = law.decision;
  application = law.application;
  forgetting = law.forgetting;
}

raise-all : (e : Event) (ds : List Deed) (s : State) → AllByRecursion NotEnters ds → Along state_deed (IsLawfulDeed e) s ds → Along state_deed (IsRightDeed e) s ds
raise-all e [] s n h = tt
raise-all e (d ∷ ds) s n h = (raise e s d (runs s d n.0 (h.0).running) h.0, raise-all e ds (state_deed s d) n.1 h.1)

-- a deed comes from no other event than it may
apart : (s : State) (e : Event) (d : Deed) → IsFrom s e d → ((from : ℕ) (j : JoinNo) (t : TransId) → e ≡ event.Arrive from (msg.Joined t j) → ⊥) → NotEnters d
apart s e (Begins t c u n) f h = tt
apart s e (Joins j t c u) f h = tt
apart s e (Enters j t c u) f h = h f.0 j t f.1
apart s e (Quits j t c a) f h = tt
apart s e (Aborts j t c a) f h = tt
apart s e (Grants t c) f h = tt
apart s e (Performs t c) f h = tt
apart s e (Releases t) f h = tt
apart s e (Readies j t ts) f h = tt
apart s e (Applies j x) f h = tt
apart s e (Registers t j) f h = tt
apart s e (Finishes t) f h = tt
apart s e (Hears t j ts) f h = tt
apart s e (Decides x js) f h = tt
apart s e (Ends t c a) f h = tt
apart s e (Acknowledges t j) f h = tt
apart s e (Forgets t) f h = tt
apart s e (Restarts n m) f h = tt

all-apart : (s : State) (e : Event) (ds : List Deed) → AllByRecursion (IsFrom s e) ds → ((from : ℕ) (j : JoinNo) (t : TransId) → e ≡ event.Arrive from (msg.Joined t j) → ⊥) → AllByRecursion NotEnters ds
all-apart s e [] f h = tt
all-apart s e (d ∷ ds) f h = (apart s e d f.0 h, all-apart s e ds f.1 h)

-- no act lets a part in
grants-none : (t : TransId) (c : Option Call) → AllByRecursion NotEnters (grants_to t c)
grants-none t None = tt
grants-none t (Some c) = (tt, tt)

act-none : (s : State) (from : ℕ) (m : Message) (a : Act) → regained_by a ≡ false → AllByRecursion NotEnters (act_deeds s (event.Arrive from m) a)
act-none s from m (act.Granted t) h = grants-none t (asks_for s (event.Arrive from m) t (s.holder.lives t))
act-none s from m (act.Drawn t) h = tt
act-none s from m (act.Registered t j) h = (tt, tt)
act-none s from m (act.Readied t j ts) h = (tt, tt)
act-none s from m (act.Decided x js) h = (tt, tt)
act-none s from m (act.Applied j x) h = (tt, tt)
act-none s from m (act.Released t) h = (tt, tt)
act-none s from m (act.Forgot t) h = (tt, tt)
act-none s from m (act.Regained epoch clock ready xs) h = cc
act-none s from m (act.Sent to n) h = tt
act-none s from m act.Stopped h = tt
act-none s from m act.Failed h = tt

acts-none : (s : State) (from : ℕ) (m : Message) (acts : List Act) → list_any regained_by acts ≡ false → AllByRecursion NotEnters (flat_map (act_deeds s (event.Arrive from m)) acts)
acts-none s from m [] h = tt
acts-none s from m (a ∷ acts) h =
    let parts = or_parts (regained_by a) (list_any regained_by acts) h in
    all-append NotEnters (act_deeds s (event.Arrive from m) a) (flat_map (act_deeds s (event.Arrive from m)) acts) (act-none s from m a parts.0) (acts-none s from m acts parts.1)

-- ---- where a part enters, it asked to, and none of its transaction lives

module _ (s : State) (from : ℕ) (t : TransId) (j : JoinNo) (rest : List Deed) (none : AllByRecursion NotEnters (rest ++ [])) where
  abbrev e : Event
  e = event.Arrive from (msg.Joined t j)

  one : (u : TransId) (client : ℕ) (who : List ℕ) → s.holder.lives t ≡ None → s.phases j ≡ Joining u client who → (b : Bool) → same_trans u t ≡ b → (c : Bool)
      → Along state_deed (IsLawfulDeed e) s ((cond (b && c) (Enters j t client who ∷ []) [] ++ rest) ++ []) → Along state_deed (IsRightDeed e) s ((cond (b && c) (Enters j t client who ∷ []) [] ++ rest) ++ [])
  one u client who lives phase false same c h = raise-all e (rest ++ []) s none h
  one u client who lives phase true same false h = raise-all e (rest ++ []) s none h
  one u client who lives phase true same true h =
      (raise e s (Enters j t client who) (phase ∙ ap (λ (v : TransId). Joining v client who) (same_trans-true u t same), lives) h.0, raise-all e (rest ++ []) (state_deed s (Enters j t client who)) none h.1)

  entering : (l : Option Life) → s.holder.lives t ≡ l → (p : Phase) → s.phases j ≡ p
      → Along state_deed (IsLawfulDeed e) s ((enters j t l s.desk.waits p ++ rest) ++ []) → Along state_deed (IsRightDeed e) s ((enters j t l s.desk.waits p ++ rest) ++ [])
  entering None lives (Joining u client who) phase h = one u client who lives phase (same_trans u t) refl (not (is_called t s.desk.waits)) h
  entering None lives Unseen phase h = raise-all e (rest ++ []) s none h
  entering None lives (Active u client who) phase h = raise-all e (rest ++ []) s none h
  entering None lives (Ready u client ts) phase h = raise-all e (rest ++ []) s none h
  entering None lives (Applied u x) phase h = raise-all e (rest ++ []) s none h
  entering None lives Over phase h = raise-all e (rest ++ []) s none h
  entering (Some l) lives p phase h = raise-all e (rest ++ []) s none h

-- ---- an entry

others : (s : State) (x : Event) (r : Option Reply) (acts : List Act) → list_any regained_by acts ≡ false → ((from : ℕ) (j : JoinNo) (t : TransId) → x ≡ event.Arrive from (msg.Joined t j) → ⊥)
    → Along state_deed (IsLawfulDeed x) s (tried s (record { event = x; reply = r; acts = acts })) → Along state_deed (IsRightDeed x) s (tried s (record { event = x; reply = r; acts = acts }))
others s x r acts calm h law =
    let e : Entry = record { event = x; reply = r; acts = acts } in
    raise-all x (tried s e) s (all-apart s x (tried s e) (tried-from s x r acts calm) h) law

deeds-right : (s : State) (x : Event) (r : Option Reply) (acts : List Act) → IsLawfulEntry s (record { event = x; reply = r; acts = acts }) → DeedsAreRight s (record { event = x; reply = r; acts = acts }) x
deeds-right s event.Restart r acts law = tt
deeds-right s (event.Arrive from (msg.Joined t j)) r acts law =
    let none = acts-none s from (msg.Joined t j) acts law.restart.0 in
    entering s from t j (flat_map (act_deeds s (event.Arrive from (msg.Joined t j))) acts) (all-append NotEnters (flat_map (act_deeds s (event.Arrive from (msg.Joined t j))) acts) [] none tt) (s.holder.lives t) refl (s.phases j) refl law.deeds
deeds-right s (event.Call client epoch number c) r acts law = others s (event.Call client epoch number c) r acts law.restart.0 (λ f k u wrong. cc) law.deeds
deeds-right s (event.Timeout t) r acts law = others s (event.Timeout t) r acts law.restart.0 (λ f k u wrong. cc) law.deeds
deeds-right s event.Tick r acts law = others s (event.Tick) r acts law.restart.0 (λ f k u wrong. cc) law.deeds
deeds-right s event.Force r acts law = others s (event.Force) r acts law.restart.0 (λ f k u wrong. cc) law.deeds
deeds-right s (event.Arrive from (msg.Register t j client)) r acts law = others s (event.Arrive from (msg.Register t j client)) r acts law.restart.0 (λ f k u wrong. cc) law.deeds
deeds-right s (event.Arrive from (msg.JoinRefused t j)) r acts law = others s (event.Arrive from (msg.JoinRefused t j)) r acts law.restart.0 (λ f k u wrong. cc) law.deeds
deeds-right s (event.Arrive from (msg.Ask t j)) r acts law = others s (event.Arrive from (msg.Ask t j)) r acts law.restart.0 (λ f k u wrong. cc) law.deeds
deeds-right s (event.Arrive from (msg.Ready t j ts)) r acts law = others s (event.Arrive from (msg.Ready t j ts)) r acts law.restart.0 (λ f k u wrong. cc) law.deeds
deeds-right s (event.Arrive from (msg.No t j w)) r acts law = others s (event.Arrive from (msg.No t j w)) r acts law.restart.0 (λ f k u wrong. cc) law.deeds
deeds-right s (event.Arrive from (msg.Commit t j x)) r acts law = others s (event.Arrive from (msg.Commit t j x)) r acts law.restart.0 (λ f k u wrong. cc) law.deeds
deeds-right s (event.Arrive from (msg.Abort t j c)) r acts law = others s (event.Arrive from (msg.Abort t j c)) r acts law.restart.0 (λ f k u wrong. cc) law.deeds
deeds-right s (event.Arrive from (msg.Done t j)) r acts law = others s (event.Arrive from (msg.Done t j)) r acts law.restart.0 (λ f k u wrong. cc) law.deeds
deeds-right s (event.Arrive from (msg.Inquire t j)) r acts law = others s (event.Arrive from (msg.Inquire t j)) r acts law.restart.0 (λ f k u wrong. cc) law.deeds

pub right-entry : (s : State) (e : Entry) → IsLawfulEntry s e → IsRightEntry s e
right-entry s e law = record {
  drawn = law.drawn;
  sessions = law.sessions;
  deeds = deeds-right s e.event e.reply e.acts law;
  agree = law.agree;
  released = law.released;
  said = law.said;
  told = law.told;
  restart = law.restart;
  stopped = law.stopped;
}
