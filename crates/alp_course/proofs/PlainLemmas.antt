-- No restart of the only server of a run finds a ready part or a decision with parts elsewhere.
use Rattle.std.specs.Prelude.{◌==◌, ◌&&◌, ◌||◌, not, nat_lt, Bool, true, false, cond, filter, flat_map, Option, None, Some}
use Rattle.std.specs.List.{AllByRecursion, list_any}
use Rattle.std.proofs.Common.{◌≡◌, ℕ, zero, suc, ◌+◌, ◌<◌, List, [], ◌∷◌, ◌++◌, refl, sym, ◌∙◌, ap, subst, arith, eq-eqb}
use Rattle.std.proofs.lemmas.Bool.{ltb-true}
use Rattle.alp_base.specs.declared.ids.JoinNo.{JoinNo}
use Rattle.alp_base.specs.declared.ids.Stamp.{Stamp}
use Rattle.alp_base.specs.declared.ids.TransId.{TransId}
use Rattle.alp_files.specs.declared.refusal.Cause.{Cause}
use Rattle.alp_files.specs.declared.reply.Reply.{Reply}
use Rattle.alp_journal.specs.Along.{Along, state_after}
use Rattle.alp_journal.specs.Coordinator.{Fate, Undrawn, Running, Finishing, Committed, Forgotten, Ended, begun, finishing, heard, decided, ended, acknowledged, has_all, forgotten, restarted, fate_after, fate_noted, joins_of}
use Rattle.alp_journal.specs.Deeds.{Deed, Begins, Joins, Enters, Quits, Aborts, Grants, Performs, Releases, Readies, Applies, Registers, Finishes, Hears, Decides, Ends, Acknowledges, Forgets, Restarts}
use Rattle.alp_journal.specs.Ids.{same_trans, same_join, same_stamp, has_join, has_stamp}
use Rattle.alp_journal.specs.Laws.{IsLawful, IsLawfulEntry, IsLawfulDeed, IsFound, regained_by, is_standing}
use Rattle.alp_journal.specs.Moves.{next, stops, told, halted, tried, did, act_deeds, is_effective, resolved}
use Rattle.alp_journal.specs.Opening.{Start, DecisionNote, ReadyNote}
use Rattle.alp_journal.specs.Participant.{Phase, Unseen, is_ready, phase_after, phase_noted}
use Rattle.alp_journal.specs.State.{State, state_deed, opened, is_other_server}
use Rattle.alp_journal.specs.declared.act.Act.{Act}
use Rattle.alp_journal.specs.declared.act.Act.TheVariants as act
use Rattle.alp_journal.specs.declared.entry.Entry.{Entry}
use Rattle.alp_journal.specs.declared.event.Event.{Event}
use Rattle.alp_journal.specs.declared.event.Event.TheVariants as event
use Rattle.alp_history.proofs.Logs.{server-stays}
use Rattle.alp_course.specs.Lone.{IsPlainAct, ArePlain, Plainness}

-- ---- a server alone

-- it is the only one, no join was drawn here, and no transaction has one
record IsLone (s : State) : Type 0 where
  servers : s.servers ≡ 1
  server : s.holder.server ≡ 1
  phases : (j : JoinNo) → s.phases j ≡ Unseen
  fates : (t : TransId) → joins_of (s.fates t) ≡ []

never : false ≡ true → ⊥
never wrong = cc

none_other : (s : State) → IsLone s → (n : ℕ) → is_other_server s n ≡ true → ⊥
none_other s h n = go (nat_lt 0 n) (nat_lt n (s.servers + 1)) refl refl
  where
    go : (b d : Bool) → nat_lt 0 n ≡ b → nat_lt n (s.servers + 1) ≡ d → (b && d && not (n == s.holder.server)) ≡ true → ⊥
    go false d e f wrong = never wrong
    go true false e f wrong = never wrong
    go true true e f wrong =
        let low : 0 < n = ltb-true 0 n e in
        let high : n < s.servers + 1 = ltb-true n (s.servers + 1) f in
        never (sym (ap not (eq-eqb n s.holder.server (omega (arith, low, high, h.servers, h.server)))) ∙ wrong)

-- a deed that may come about at it
abbrev IsLoneDeed : Deed → Type 0
IsLoneDeed (Joins j t client who) = ⊥
IsLoneDeed (Registers t j) = ⊥
IsLoneDeed (Decides stamp js) = js ≡ []
IsLoneDeed d = Unit {0}

lawful_lone : (e : Event) (s : State) (d : Deed) → IsLone s → IsLawfulDeed e s d → IsLoneDeed d
lawful_lone e s (Joins j t client who) h law = none_other s h t.server law.counts.1
lawful_lone e s (Registers t j) h law = none_other s h j.server law.registration.elsewhere
lawful_lone e s (Decides stamp js) h law = sym (ap joins_of law.decision.finishing) ∙ h.fates stamp.trans
lawful_lone e s d h law = tt

-- ---- what it brings about

if_unseen : (b : Bool) (p : Phase) → p ≡ Unseen → cond b p Unseen ≡ Unseen
if_unseen true p h = h
if_unseen false p h = refl

unseen_still : (d : Deed) (j : JoinNo) → IsLoneDeed d → phase_after d j Unseen ≡ Unseen
unseen_still (Joins k t client who) j lone = absurd lone
unseen_still (Enters k t client who) j lone = if_unseen (same_join k j) Unseen refl
unseen_still (Readies k t ts) j lone = if_unseen (same_join k j) Unseen refl
unseen_still (Applies k stamp) j lone = if_unseen (same_join k j) Unseen refl
unseen_still (Quits k t client c) j lone = if_unseen (same_join k j) Unseen refl
unseen_still (Aborts k t client c) j lone = if_unseen (same_join k j) Unseen refl
unseen_still (Restarts epoch clock) j lone = refl
unseen_still d j lone = refl

if_none : (b : Bool) (x f : Fate) → joins_of x ≡ [] → joins_of f ≡ [] → joins_of (cond b x f) ≡ []
if_none true x f h k = h
if_none false x f h k = k

begun_none : (client : ℕ) (f : Fate) → joins_of f ≡ [] → joins_of (begun client f) ≡ []
begun_none client Undrawn h = refl
begun_none client f h = h

finishing_none : (f : Fate) → joins_of f ≡ [] → joins_of (finishing f) ≡ []
finishing_none (Running client js) h = h
finishing_none f h = h

heard_none : (j : JoinNo) (ts : ℕ) (f : Fate) → joins_of f ≡ [] → joins_of (heard j ts f) ≡ []
heard_none j ts (Finishing client js vs) h = h
heard_none j ts f h = h

decided_none : (stamp : Stamp) (js : List JoinNo) (f : Fate) → js ≡ [] → joins_of f ≡ [] → joins_of (decided stamp js f) ≡ []
decided_none stamp js (Finishing client ks vs) none h = none
decided_none stamp js f none h = h

ended_none : (c : Cause) (f : Fate) → joins_of f ≡ [] → joins_of (ended c f) ≡ []
ended_none c (Running client js) h = refl
ended_none c (Finishing client js vs) h = refl
ended_none c f h = h

acknowledged_none : (j : JoinNo) (f : Fate) → joins_of f ≡ [] → joins_of (acknowledged j f) ≡ []
acknowledged_none j (Committed stamp js ds) h = h
acknowledged_none j f h = h

forgotten_none : (f : Fate) → joins_of f ≡ [] → joins_of (forgotten f) ≡ []
forgotten_none (Committed stamp js ds) h = if_none (has_all ds js) (Forgotten stamp js) (Committed stamp js ds) h h
forgotten_none f h = h

restarted_none : (epoch : ℕ) (f : Fate) → joins_of f ≡ [] → joins_of (restarted epoch f) ≡ []
restarted_none epoch (Running client js) h = refl
restarted_none epoch (Finishing client js vs) h = refl
restarted_none epoch (Committed stamp js ds) h = h
restarted_none epoch f h = h

fate_none : (d : Deed) (t : TransId) (f : Fate) → IsLoneDeed d → joins_of f ≡ [] → joins_of (fate_after d t f) ≡ []
fate_none (Begins u client who seen) t f lone h = if_none (same_trans u t) (begun client f) f (begun_none client f h) h
fate_none (Registers u j) t f lone h = absurd lone
fate_none (Finishes u) t f lone h = if_none (same_trans u t) (finishing f) f (finishing_none f h) h
fate_none (Hears u j ts) t f lone h = if_none (same_trans u t) (heard j ts f) f (heard_none j ts f h) h
fate_none (Decides stamp js) t f lone h = if_none (same_trans stamp.trans t) (decided stamp js f) f (decided_none stamp js f lone h) h
fate_none (Ends u client c) t f lone h = if_none (same_trans u t) (ended c f) f (ended_none c f h) h
fate_none (Acknowledges u j) t f lone h = if_none (same_trans u t) (acknowledged j f) f (acknowledged_none j f h) h
fate_none (Forgets u) t f lone h = if_none (same_trans u t) (forgotten f) f (forgotten_none f h) h
fate_none (Restarts epoch clock) t f lone h = restarted_none epoch f h
fate_none d t f lone h = h

deed_lone : (d : Deed) (s : State) → IsLoneDeed d → IsLone s → IsLone (state_deed s d)
deed_lone d s lone h = record {
  servers = h.servers;
  server = server-stays d s.holder ∙ h.server;
  phases = λ j. ap (phase_after d j) (h.phases j) ∙ unseen_still d j lone;
  fates = λ t. fate_none d t (s.fates t) lone (h.fates t);
}

deeds_lone : (ds : List Deed) (s : State) → AllByRecursion IsLoneDeed ds → IsLone s → IsLone (state_after state_deed s ds)
deeds_lone [] s lone h = h
deeds_lone (d ∷ ds) s lone h = deeds_lone ds (state_deed s d) lone.1 (deed_lone d s lone.0 h)

along_lone : (e : Event) (ds : List Deed) (s : State) → Along state_deed (IsLawfulDeed e) s ds → IsLone s → AllByRecursion IsLoneDeed ds
along_lone e [] s law h = tt
along_lone e (d ∷ ds) s law h = (let one : IsLoneDeed d = lawful_lone e s d h law.0 in (one, along_lone e ds (state_deed s d) law.1 (deed_lone d s one h)))

-- ---- an entry

-- and what it tried last may come about at it
record IsLoneNow (s : State) : Type 0 where
  lone : IsLone s
  pending : AllByRecursion IsLoneDeed s.pending

tried_lone : (s : State) (e : Entry) → AllByRecursion IsLoneDeed (tried s e) → IsLoneNow s → IsLoneNow (next s e)
tried_lone s e all h = go (stops e)
  where
    go : (b : Bool) → IsLoneNow (cond b (halted s e) (told s e))
    go true = record { lone = record { servers = h.lone.servers; server = h.lone.server; phases = h.lone.phases; fates = h.lone.fates }; pending = all }
    go false = (let d : IsLone (did s e) = deeds_lone (tried s e) s all h.lone in record { lone = record { servers = d.servers; server = d.server; phases = d.phases; fates = d.fates }; pending = tt })

one_false : (b d : Bool) → (b || d) ≡ false → (b ≡ false) × (d ≡ false)
one_false true d h = absurd (never (sym h))
one_false false d h = (refl, h)

act_plain : (a : Act) → regained_by a ≡ false → IsPlainAct a
act_plain (act.Regained epoch clock ready stamps) h = absurd (never (sym h))
act_plain a h = tt

acts_plain : (acts : List Act) → list_any regained_by acts ≡ false → AllByRecursion IsPlainAct acts
acts_plain [] h = tt
acts_plain (a ∷ acts) h = (let both = one_false (regained_by a) (list_any regained_by acts) h in (act_plain a both.0, acts_plain acts both.1))

-- an entry leaves it alone, and no restart finds anything
record IsPassed (s : State) (e : Entry) : Type 0 where
  now : IsLoneNow (next s e)
  plain : AllByRecursion IsPlainAct e.acts

other_passed : (s : State) (e : Entry) (x : Event) → Along state_deed (IsLawfulDeed x) s (tried s e) → (list_any regained_by e.acts ≡ false) × (s.is_down ≡ false) → IsLoneNow s → IsPassed s e
other_passed s e x law starts h = record { now = tried_lone s e (along_lone x (tried s e) s law h.lone) h; plain = acts_plain e.acts starts.0 }

-- ---- a restart

itself_join : (j : JoinNo) → same_join j j ≡ true
itself_join j = (λ i. eq-eqb j.server j.server refl i && eq-eqb j.epoch j.epoch refl i && eq-eqb j.counter j.counter refl i)

itself_stamp : (x : Stamp) → same_stamp x x ≡ true
itself_stamp x = (λ i. eq-eqb x.ts x.ts refl i && (eq-eqb x.trans.server x.trans.server refl i && eq-eqb x.trans.epoch x.trans.epoch refl i && eq-eqb x.trans.counter x.trans.counter refl i))

no_joins : (js : List JoinNo) → ((j : JoinNo) → has_join j js ≡ false) → js ≡ []
no_joins [] h = refl
no_joins (j ∷ js) h = absurd (never (sym (one_false (same_join j j) (has_join j js) (h j)).0 ∙ itself_join j))

no_stamps : (xs : List Stamp) → ((x : Stamp) → has_stamp x xs ≡ false) → xs ≡ []
no_stamps [] h = refl
no_stamps (x ∷ xs) h = absurd (never (sym (one_false (same_stamp x x) (has_stamp x xs) (h x)).0 ∙ itself_stamp x))

none_standing : (x : Stamp) (f : Fate) → joins_of f ≡ [] → is_standing x f ≡ false
none_standing x (Committed stamp [] ds) h = refl
none_standing x (Committed stamp (j ∷ js) ds) h = cc
none_standing x f h = refl

filter_lone : (p : Deed → Bool) (ds : List Deed) → AllByRecursion IsLoneDeed ds → AllByRecursion IsLoneDeed (filter p ds)
filter_lone p [] h = tt
filter_lone p (d ∷ ds) h = go (p d) (filter_lone p ds h.1)
  where
    go : (b : Bool) → AllByRecursion IsLoneDeed (filter p ds) → AllByRecursion IsLoneDeed (cond b (d ∷ filter p ds) (filter p ds))
    go true rest = (h.0, rest)
    go false rest = rest

all_with : (xs ys : List Deed) → AllByRecursion IsLoneDeed xs → AllByRecursion IsLoneDeed ys → AllByRecursion IsLoneDeed (xs ++ ys)
all_with [] ys h k = k
all_with (x ∷ xs) ys h k = (h.0, all_with xs ys h.1 k)

abbrev restart_of : Option Reply → (epoch clock : ℕ) → List JoinNo → List Stamp → Entry
restart_of r epoch clock ready stamps = record { event = event.Restart; reply = r; acts = act.Regained epoch clock ready stamps ∷ [] }

restart_passed : (s : State) (r : Option Reply) (epoch clock : ℕ) (ready : List JoinNo) (stamps : List Stamp) → IsFound (state_after state_deed s (resolved s ready clock stamps)) clock ready stamps → IsLoneNow s → IsPassed s (restart_of r epoch clock ready stamps)
restart_passed s r epoch clock ready stamps found h =
    let back : AllByRecursion IsLoneDeed (resolved s ready clock stamps) = filter_lone (is_effective ready clock stamps) s.pending h.pending in
    let mid : IsLone (state_after state_deed s (resolved s ready clock stamps)) = deeds_lone (resolved s ready clock stamps) s back h.lone in
    let one : AllByRecursion IsLoneDeed (resolved s ready clock stamps ++ Restarts epoch clock ∷ []) = all_with (resolved s ready clock stamps) (Restarts epoch clock ∷ []) back (tt, tt) in
    let all : AllByRecursion IsLoneDeed (tried s (restart_of r epoch clock ready stamps)) =
    all_with ((resolved s ready clock stamps ++ Restarts epoch clock ∷ []) ++ []) [] (all_with (resolved s ready clock stamps ++ Restarts epoch clock ∷ []) [] one tt) tt in
    record {
      now = tried_lone s (restart_of r epoch clock ready stamps) all h;
      plain = (
        (
          no_joins ready (λ j. found.ready j ∙ ap is_ready (mid.phases j)),
          no_stamps stamps (λ x. found.decided x ∙ none_standing x _ (mid.fates x.trans)),
        ),
        tt,
      );
    }

entry_passed : (s : State) (e : Entry) → IsLawfulEntry s e → IsLoneNow s → IsPassed s e
entry_passed s e law h = go e.event e.reply e.acts law
  where
    go : (x : Event) (r : Option Reply) (acts : List Act) → IsLawfulEntry s (record { event = x; reply = r; acts = acts }) → IsPassed s (record { event = x; reply = r; acts = acts })
    go event.Restart r (act.Regained epoch clock ready stamps ∷ []) l = restart_passed s r epoch clock ready stamps l.restart.0.1 h
    go event.Restart r acts l = absurd l.restart.0
    go (event.Call client epoch number c) r acts l = other_passed s (record { event = event.Call client epoch number c; reply = r; acts = acts }) (event.Call client epoch number c) l.deeds l.restart h
    go (event.Arrive from m) r acts l = other_passed s (record { event = event.Arrive from m; reply = r; acts = acts }) (event.Arrive from m) l.deeds l.restart h
    go (event.Timeout t) r acts l = other_passed s (record { event = event.Timeout t; reply = r; acts = acts }) (event.Timeout t) l.deeds l.restart h
    go event.Tick r acts l = other_passed s (record { event = event.Tick; reply = r; acts = acts }) event.Tick l.deeds l.restart h
    go event.Force r acts l = other_passed s (record { event = event.Force; reply = r; acts = acts }) event.Force l.deeds l.restart h

-- ---- a journal

journal_plain : (s : State) (journal : List Entry) → Along next IsLawfulEntry s journal → IsLoneNow s → ArePlain journal
journal_plain s [] law h = tt
journal_plain s (e ∷ es) law h = (let one : IsPassed s e = entry_passed s e law.0 h in (one.plain, journal_plain (next s e) es law.1 one.now))

pub plain : Plainness
plain o journal servers server ready decisions law = journal_plain (opened o) journal law (record {
  lone = record {
    servers = servers;
    server = server;
    phases = λ j. ap (λ (ns : List ReadyNote). phase_noted ns j) ready;
    fates = λ t. ap (λ (ns : List DecisionNote). joins_of (fate_noted ns t)) decisions;
  };
  pending = tt;
})
