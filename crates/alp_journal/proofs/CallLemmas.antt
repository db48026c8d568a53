-- entries of a new call: its session goes on, and what is sent stands behind all else
use Rattle.std.specs.Prelude.{cond, Bool, true, false, not, ◌&&◌, ◌||◌, ◌==◌, Option, None, Some, IsSome, flat_map}
use Rattle.std.specs.List.{list_any, list_all, AllByRecursion}
use Rattle.std.specs.List.Sorted.{IsPermutation}
use Rattle.std.proofs.lemmas.List.Sorted.{IsPermutation-refl}
use Rattle.std.proofs.lemmas.Bool.{ne_eqb, and_parts, or_parts}
use Rattle.std.proofs.lemmas.List.{append_assoc}
use Rattle.std.proofs.Common.{◌≡◌, ℕ, ◌+◌, List, [], ◌∷◌, ◌++◌, refl, sym, ◌∙◌, ap, subst, eq-eqb, arith}
use Rattle.alp_base.specs.declared.ids.TransId.{TransId}
use Rattle.alp_files.specs.declared.call.Call.{Call}
use Rattle.alp_files.specs.declared.reply.Reply.{Reply}
use Rattle.alp_journal.specs.declared.act.Act.{Act}
use Rattle.alp_journal.specs.declared.act.Act.TheVariants as act
use Rattle.alp_journal.specs.declared.event.Event.{Event}
use Rattle.alp_journal.specs.declared.event.Event.TheVariants as event
use Rattle.alp_journal.specs.declared.entry.Entry.{Entry}
use Rattle.alp_journal.specs.Along.{state_after, Along, Where}
use Rattle.alp_journal.specs.Deeds.{Deed}
use Rattle.alp_journal.specs.Desk.{Desk, Session, file_trans, waits_after, with_session}
use Rattle.alp_journal.specs.State.{State, state_deed, has_part}
use Rattle.alp_journal.specs.Moves.{is_new, tried, told, halted, call_deeds, act_deeds, answered, done_of, is_stop, stops, next, counted, desk_told}
use Rattle.alp_journal.specs.Halts.{HaltsRight}
use Rattle.alp_journal.specs.Laws.{IsLawfulDeed, DoLivesAgree, ReleasesEnded, WaitsInTurn, IsStopped, TellsStop, Repeats, stale, KeepsSessions, CallsOn, drawn_by, begun_in, released_by, granted_by, grants_of, ended_by, sends_last, is_message, is_addressed, is_for, SaysRight, TellsIn, regained_by}
use Rattle.alp_journal.specs.Messages.{Mail, on_call, sent_by, due}
use Rattle.alp_journal.specs.Answers.{IsAnswer, AnswersCall}
use Rattle.alp_journal.specs.Answered.{CountsVotes, ForgetsDone, GivesOn, GrantsFor, GrantsAtOnce}
use Rattle.alp_journal.specs.Account.{Account, state_of, IsQuiet, sent_acts, Leads}

-- ---- one list behind another

pub flat-append : {A B : Type 0} (f : A → List B) (xs ys : List A) → flat_map f (xs ++ ys) ≡ flat_map f xs ++ flat_map f ys
flat-append f [] ys = refl
flat-append f (x ∷ xs) ys = ap (λ bs. f x ++ bs) (flat-append f xs ys) ∙ sym (append_assoc (f x) (flat_map f xs) (flat_map f ys))

-- ---- what a quiet state has

pub quiet_votes : (m : Account) → IsQuiet m → CountsVotes (state_of m)
quiet_votes m q t = q.settled.stands.votes t

pub quiet_forgets : (m : Account) → IsQuiet m → ForgetsDone (state_of m)
quiet_forgets m q t = q.settled.stands.forgets t

-- ---- messages

-- where nothing is sent, no message comes before what takes effect
pub silent_last : (acts : List Act) → flat_map sent_by acts ≡ [] → sends_last acts ≡ true
silent_last [] none = refl
silent_last (act.Sent to m ∷ acts) none = absurd (let wrong : (to, m) ∷ flat_map sent_by acts ≡ [] = none in cc)
silent_last (act.Granted t ∷ acts) none = silent_last acts none
silent_last (act.Drawn t ∷ acts) none = silent_last acts none
silent_last (act.Registered t j ∷ acts) none = silent_last acts none
silent_last (act.Readied t j ts ∷ acts) none = silent_last acts none
silent_last (act.Decided stamp parts ∷ acts) none = silent_last acts none
silent_last (act.Applied j stamp ∷ acts) none = silent_last acts none
silent_last (act.Released t ∷ acts) none = silent_last acts none
silent_last (act.Forgot t ∷ acts) none = silent_last acts none
silent_last (act.Regained epoch clock ready decided ∷ acts) none = silent_last acts none
silent_last (act.Stopped ∷ acts) none = silent_last acts none
silent_last (act.Failed ∷ acts) none = silent_last acts none

-- and none of them is one
pub none_is_message : (acts : List Act) → flat_map sent_by acts ≡ [] → list_any is_message acts ≡ false
none_is_message [] none = refl
none_is_message (act.Sent to m ∷ acts) none = absurd (let wrong : (to, m) ∷ flat_map sent_by acts ≡ [] = none in cc)
none_is_message (act.Granted t ∷ acts) none = none_is_message acts none
none_is_message (act.Drawn t ∷ acts) none = none_is_message acts none
none_is_message (act.Registered t j ∷ acts) none = none_is_message acts none
none_is_message (act.Readied t j ts ∷ acts) none = none_is_message acts none
none_is_message (act.Decided stamp parts ∷ acts) none = none_is_message acts none
none_is_message (act.Applied j stamp ∷ acts) none = none_is_message acts none
none_is_message (act.Released t ∷ acts) none = none_is_message acts none
none_is_message (act.Forgot t ∷ acts) none = none_is_message acts none
none_is_message (act.Regained epoch clock ready decided ∷ acts) none = none_is_message acts none
none_is_message (act.Stopped ∷ acts) none = none_is_message acts none
none_is_message (act.Failed ∷ acts) none = none_is_message acts none

-- each goes to the server that it is for
abbrev pub AreAddressed : List Mail → Type 0
AreAddressed ms = list_all (λ (m : Mail). is_for m.0 m.1) ms ≡ true

all-addressed : (ms : List Mail) → AreAddressed ms → list_all is_addressed (sent_acts ms) ≡ true
all-addressed [] h = refl
all-addressed (m ∷ ms) h =
    let both = and_parts (is_for m.0 m.1) (list_all (λ (x : Mail). is_for x.0 x.1) ms) h in
    (λ i. both.0 i && list_all is_addressed (sent_acts ms)) ∙ all-addressed ms both.1

-- the messages come behind what takes effect
pub sent-last : (acts : List Act) (ms : List Mail) → list_any is_message acts ≡ false → AreAddressed ms → sends_last (acts ++ sent_acts ms) ≡ true
sent-last [] [] none h = refl
sent-last [] (m ∷ ms) none h = all-addressed (m ∷ ms) h
sent-last (a ∷ acts) ms none h =
    let parts = or_parts (is_message a) (list_any is_message acts) none in
    ap (λ (b : Bool). cond {A = Bool} b (list_all is_addressed (a ∷ (acts ++ sent_acts ms))) (sends_last (acts ++ sent_acts ms))) parts.0 ∙ sent-last acts ms parts.1 h

pub mails-sent : (ms : List Mail) → flat_map sent_by (sent_acts ms) ≡ ms
mails-sent [] = refl
mails-sent (m ∷ ms) = ap (λ (xs : List Mail). m ∷ xs) (mails-sent ms)

-- just what is due is sent, behind all else
pub record IsMail (due : List Mail) (acts : List Act) : Type 0 where
  pub last : sends_last acts ≡ true
  pub all : IsPermutation due (flat_map sent_by acts)

pub no_mail : {due : List Mail} (acts : List Act) → due ≡ [] → flat_map sent_by acts ≡ [] → IsMail due acts
no_mail {due} acts none silent = record { last = silent_last acts silent; all = subst (λ (ms : List Mail). IsPermutation ms (flat_map sent_by acts)) (sym none) (subst (IsPermutation []) (sym silent) (IsPermutation-refl [])) }

-- what is sent behind acts that are no messages
pub mail_behind : (due : List Mail) (acts : List Act) (ms : List Mail) → flat_map sent_by acts ≡ [] → AreAddressed ms → IsPermutation due ms → IsMail due (acts ++ sent_acts ms)
mail_behind due acts ms silent to all = record {
  last = sent-last acts ms (none_is_message acts silent) to;
  all = subst (IsPermutation due) (sym (flat-append sent_by acts (sent_acts ms) ∙ ap (λ (xs : List Mail). xs ++ flat_map sent_by (sent_acts ms)) silent ∙ mails-sent ms)) all;
}

-- ---- a new call of a session

module _ (a : Account) (client number : ℕ) (w : Session) where
  -- its entry
  abbrev pub call_entry : Call → Reply → List Act → Entry
  call_entry c r acts = record { event = event.Call client a.ids.epoch number c; reply = Some r; acts = acts }

  pub new_call : a.sessions client ≡ Some w → number ≡ w.last + 1 → is_new (state_of a) client a.ids.epoch number ≡ true
  new_call there turn =
      ap (λ (x : Option Session). elim x [ None ↦ false | Some v ↦ a.ids.epoch == a.ids.epoch && number == v.last + 1 ]) there
      ∙ ap (λ (b : Bool). b && number == w.last + 1) (eq-eqb a.ids.epoch a.ids.epoch refl) ∙ eq-eqb number (w.last + 1) turn

  -- what a call brings about that is no greeting
  pub call_tried : (c : Call) (r : Reply) (acts : List Act) → a.sessions client ≡ Some w → number ≡ w.last + 1
      → tried (state_of a) (call_entry c r acts) ≡ call_deeds (state_of a) client c r ++ flat_map (act_deeds (state_of a) (event.Call client a.ids.epoch number c)) acts ++ done_of (state_of a) r (answered (state_of a) client c)
  call_tried c r acts there turn =
      ap (λ (b : Bool). cond {A = List Deed} b (call_deeds (state_of a) client c r) [] ++ flat_map (act_deeds (state_of a) (event.Call client a.ids.epoch number c)) acts
      ++ cond {A = List Deed} b (done_of (state_of a) r (answered (state_of a) client c)) []) (new_call there turn)

  -- what is known behind its answer
  abbrev pub after_call : State → Call → Reply → State
  after_call m c r = record m {
    desk = waits_after (with_session m.desk client (Some (record w { last = number; reply = r }))) (has_part m client) client number c r;
    is_down = false;
    pending = [];
  }

  -- a call that is no greeting
  abbrev pub IsCounted : Call → Reply → Type 0
  IsCounted c r = (m : State) → desk_told m (event.Call client a.ids.epoch number c) (Some r)
      ≡ cond {A = Desk} (is_new m client a.ids.epoch number) (counted m.desk (has_part m client) client number c r (m.desk.sessions client)) m.desk

  pub call_next : (c : Call) (r : Reply) (acts : List Act) (ds : List Deed) → IsCounted c r → stops (call_entry c r acts) ≡ false → tried (state_of a) (call_entry c r acts) ≡ ds
      → is_new (state_after state_deed (state_of a) ds) client a.ids.epoch number ≡ true → (state_after state_deed (state_of a) ds).desk.sessions client ≡ Some w
      → next (state_of a) (call_entry c r acts) ≡ after_call (state_after state_deed (state_of a) ds) c r
  call_next c r acts ds plain up brought new there =
      let e : Entry = call_entry c r acts in
      let m : State = state_after state_deed (state_of a) ds in
      ap (λ (b : Bool). cond {A = State} b (halted (state_of a) e) (told (state_of a) e)) up
      ∙ ap (λ (x : State). record x { desk = desk_told x (event.Call client a.ids.epoch number c) (Some r); is_down = false; pending = [] }) (ap (state_after state_deed (state_of a)) brought)
      ∙ ap (λ (x : Desk). record m { desk = x; is_down = false; pending = [] })
      (plain m ∙ ap (λ (b : Bool). cond {A = Desk} b (counted m.desk (has_part m client) client number c r (m.desk.sessions client)) m.desk) new
      ∙ ap (λ (x : Option Session). counted m.desk (has_part m client) client number c r x) there)

  -- what is owed of a new call's entry that brings these deeds
  pub record CallOwes (failed : Bool) (c : Call) (r : Reply) (acts : List Act) (ds : List Deed) (m : Account) : Type 0 where
    pub plain : IsCounted c r
    pub greets : (e : Entry) → CallsOn (state_of a) a.ids.epoch number e (a.sessions client) → KeepsSessions (state_of a) e (event.Call client a.ids.epoch number c)
    pub up : list_any is_stop acts ≡ false
    pub running : a.is_down ≡ false
    pub brought : call_deeds (state_of a) client c r ++ flat_map (act_deeds (state_of a) (event.Call client a.ids.epoch number c)) acts ++ done_of (state_of a) r (answered (state_of a) client c) ≡ ds
    pub new : is_new (state_after state_deed (state_of a) ds) client a.ids.epoch number ≡ true
    pub there : (state_after state_deed (state_of a) ds).desk.sessions client ≡ Some w
    pub left : after_call (state_after state_deed (state_of a) ds) c r ≡ state_of m
    pub drawn : flat_map drawn_by acts ≡ begun_in (Some r)
    pub deeds : Along state_deed (IsLawfulDeed (event.Call client a.ids.epoch number c)) (state_of a) ds
    pub released : flat_map released_by acts ≡ flat_map (ended_by (state_of a)) ds
    pub granted : flat_map granted_by acts ≡ flat_map grants_of ds
    pub said : AllByRecursion (SaysRight (event.Call client a.ids.epoch number c) (state_of m)) acts
    pub tells : TellsIn (state_of m) c r
    pub regained : list_any regained_by acts ≡ false
    pub quiet : IsQuiet m
    pub answer : IsAnswer failed (state_of a) client c r
    pub mail : IsMail (on_call (state_of a) client c r) acts
    pub turns : GivesOn (state_of a) (call_entry c r acts)
    pub grants : GrantsFor failed (state_of a) client c r (flat_map granted_by acts) (file_trans c)

  -- the session goes on
  pub calls_on : (c : Call) (r : Reply) (acts : List Act) → a.sessions client ≡ Some w → number ≡ w.last + 1 → CallsOn (state_of a) a.ids.epoch number (call_entry c r acts) (a.sessions client)
  calls_on c r acts there turn = subst (CallsOn (state_of a) a.ids.epoch number (call_entry c r acts)) (sym there)
      (subst (λ (b : Bool). Where (not b) (Repeats (stale (state_of a)) (call_entry c r acts)) (Where (number == w.last) (Repeats (Some w.reply) (call_entry c r acts)) (Where (number == w.last + 1) (IsSome (Some r)) (Repeats None (call_entry c r acts)))))
      (sym (eq-eqb a.ids.epoch a.ids.epoch refl))
      (subst (λ (b : Bool). Where b (Repeats (Some w.reply) (call_entry c r acts)) (Where (number == w.last + 1) (IsSome (Some r)) (Repeats None (call_entry c r acts)))) (sym (ne_eqb number w.last (λ same. let wrong : w.last ≡ w.last + 1 = sym same ∙ turn in absurd (omega (arith, wrong)))))
      (subst (λ (b : Bool). Where b (IsSome (Some r)) (Repeats None (call_entry c r acts))) (sym (eq-eqb number (w.last + 1) turn)) refl)))

  pub call_leads : (failed : Bool) (c : Call) (r : Reply) (acts : List Act) (ds : List Deed) (m : Account) → a.sessions client ≡ Some w → number ≡ w.last + 1 → CallOwes failed c r acts ds m → Leads failed a (call_entry c r acts) m
  call_leads failed c r acts ds m there turn o =
      let s : State = state_of a in
      let e : Entry = call_entry c r acts in
      let ev : Event = event.Call client a.ids.epoch number c in
      let new : is_new s client a.ids.epoch number ≡ true = new_call there turn in
      let done : tried s e ≡ ds = call_tried c r acts there turn ∙ o.brought in
      let leaves : next s e ≡ state_of m = call_next c r acts ds o.plain o.up done o.new o.there ∙ o.left in
      let after : Where false (IsStopped acts × TellsStop ev (Some r)) (Unit {0}) = tt in
      record {
        leaves = leaves;
        lawful = record {
          drawn = o.drawn ∙ ap (λ (b : Bool). cond {A = List TransId} b (begun_in (Some r)) []) (sym new);
          sessions = o.greets e (calls_on c r acts there turn);
          deeds = subst (Along state_deed (IsLawfulDeed ev) s) (sym done) o.deeds;
          agree = subst (λ (x : State). DoLivesAgree x.holder.lives) (sym leaves) o.quiet.settled.stands.agree;
          released = subst (λ (b : Bool). Where b (Unit {0}) (ReleasesEnded s e × WaitsInTurn (next s e))) (sym o.up)
              ((o.released ∙ ap (flat_map (ended_by s)) (sym done), o.granted ∙ ap (flat_map grants_of) (sym done)), subst WaitsInTurn (sym leaves) o.quiet.turns);
          sent = o.mail.last;
          said = subst (λ (x : State). AllByRecursion (SaysRight ev x) acts) (sym leaves) o.said;
          told = subst (λ (x : State). Where (is_new s client a.ids.epoch number) (TellsIn x c r) (Unit {0})) (sym leaves)
              (subst (λ (b : Bool). Where b (TellsIn (state_of m) c r) (Unit {0})) (sym new) o.tells);
          restart = (o.regained, o.running);
          stopped = subst (λ (b : Bool). Where b (IsStopped acts × TellsStop ev (Some r)) (Unit {0})) (sym o.up) tt;
        };
        answered = record {
          answered = subst (λ (b : Bool). Where b (Unit {0}) (AnswersCall failed s ev (Some r))) (sym o.up) (subst (λ (b : Bool). Where b (IsAnswer failed s client c r) (Unit {0})) (sym new) o.answer);
          sent = subst (λ (b : Bool). Where b (Unit {0}) (IsPermutation (due failed s (next s e) ev (Some r)) (flat_map sent_by acts))) (sym o.up)
              (subst (λ (x : List Mail). IsPermutation x (flat_map sent_by acts)) (sym (ap (λ (b : Bool). cond {A = List Mail} b (on_call s client c r) []) new)) o.mail.all);
          ticks = tt;
          applied = subst (λ (b : Bool). Where b (Unit {0}) (Unit {0})) (sym o.up) tt;
          votes = subst (λ (b : Bool). Where b (Unit {0}) (CountsVotes (next s e))) (sym o.up) (subst CountsVotes (sym leaves) (quiet_votes m o.quiet));
          forgets = subst (λ (b : Bool). Where b (Unit {0}) (ForgetsDone (next s e))) (sym o.up) (subst ForgetsDone (sym leaves) (quiet_forgets m o.quiet));
          turns = o.turns;
          grants = subst (λ (b : Bool). Where b (Unit {0}) (GrantsAtOnce failed s e ev (Some r))) (sym o.up)
              (subst (λ (b : Bool). Where b (GrantsFor failed s client c r (flat_map granted_by acts) (file_trans c)) (Unit {0})) (sym new) o.grants);
          halted = subst (λ (b : Bool). Where b (HaltsRight s e) (Unit {0})) (sym o.up) tt;
        };
        quiet = o.quiet;
      }
