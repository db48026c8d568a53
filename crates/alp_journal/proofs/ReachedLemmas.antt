-- in a state that a lawful and answered journal leaves, what runs is of this server, and nothing that has all its votes is still to be decided
use Rattle.std.specs.Prelude.{Bool, true, false, cond, ◌==◌, Option, None, Some, filter, flat_map}
use Rattle.std.specs.List.{AllByRecursion}
use Rattle.std.proofs.Common.{◌≡◌, ℕ, List, [], ◌∷◌, ◌++◌, refl, sym, ap, subst, ◌∙◌, eq-eqb}
use Rattle.alp_base.specs.declared.ids.JoinNo.{JoinNo}
use Rattle.alp_base.specs.declared.ids.TransId.{TransId}
use Rattle.alp_base.specs.declared.ids.Stamp.{Stamp}
use Rattle.alp_files.specs.declared.call.Call.{Call}
use Rattle.alp_files.specs.declared.refusal.Cause.{Cause}
use Rattle.alp_files.specs.History.{PerformedCall}
use Rattle.alp_journal.specs.declared.act.Act.{Act}
use Rattle.alp_journal.specs.declared.act.Act.TheVariants as act
use Rattle.alp_journal.specs.declared.entry.Entry.{Entry}
use Rattle.alp_journal.specs.declared.event.Event.{Event}
use Rattle.alp_journal.specs.declared.event.Event.TheVariants as event
use Rattle.alp_journal.specs.Along.{Along, Where, state_after}
use Rattle.alp_journal.specs.Ids.{same_trans}
use Rattle.alp_journal.specs.Opening.{Start, DecisionNote}
use Rattle.alp_journal.specs.Deeds.{Deed, Begins, Enters, Aborts, Grants, Performs, Releases, Readies, Applies, Registers, Finishes, Hears, Decides, Ends, Acknowledges, Forgets, Restarts}
use Rattle.alp_journal.specs.Coordinator.{Fate, Running, Finishing, Committed, Forgotten, begun, registered, finishing, heard, decided, ended, acknowledged, forgotten, restarted, has_all, fate_after, fate_noted, is_running, has_votes}
use Rattle.alp_journal.specs.Holder.{Holder, Life, holder_after, grants, performs, readies, commits}
use Rattle.alp_journal.specs.State.{State, state_deed, opened}
use Rattle.alp_journal.specs.Moves.{next_trans, is_effective, resolved, event_deeds, act_deeds, done_deeds, stops, tried, did, told, halted, next}
use Rattle.alp_journal.specs.Laws.{DeedsAreLawful, StartsRight, Regains, IsLawfulDeed, IsLawfulEntry}
use Rattle.alp_journal.specs.Answered.{CountsVotes, IsAnsweredEntry, IsAnsweredSo}
use Rattle.alp_journal.specs.Refused.{IsReached}
use Rattle.alp_journal.proofs.IdLemmas.{same_trans-true, all-append}

-- a server keeps its number
server_same : (s : Holder) (d : Deed) → (holder_after s d).server ≡ s.server
server_same s d = go d
  where
    g : (t : TransId) (c : Call) (l : Option Life) → (grants s t c l).server ≡ s.server
    g t c None = refl
    g t c (Some l) = refl

    p : (t : TransId) (x : PerformedCall) (l : Option Life) → (performs s t x l).server ≡ s.server
    p t x None = refl
    p t x (Some l) = refl

    r : (t : TransId) (ts : ℕ) (l : Option Life) → (readies s t ts l).server ≡ s.server
    r t ts None = refl
    r t ts (Some l) = refl

    c : (x : Stamp) (l : Option Life) → (commits s x l).server ≡ s.server
    c x None = refl
    c x (Some l) = refl

    go : (d : Deed) → (holder_after s d).server ≡ s.server
    go (Grants t x) = g t x (s.lives t)
    go (Performs t x) = p t x (s.lives t)
    go (Readies j t ts) = r t ts (s.lives t)
    go (Applies j x) = c x (s.lives x.trans)
    go (Decides x js) = c x (s.lives x.trans)
    go (Begins t client who seen) = refl
    go (Enters j t client who) = refl
    go (Aborts j t client x) = refl
    go (Releases t) = refl
    go (Restarts epoch clock) = refl
    go d = refl

-- ---- what runs is of this server

abbrev pub AreOwn : State → Type 0
AreOwn s = (t : TransId) → is_running (s.fates t) ≡ true → (t.server == s.holder.server) ≡ true

ran_forgotten : (stamp : Stamp) (js ds : List JoinNo) (b : Bool) → is_running (cond {A = Fate} b (Forgotten stamp js) (Committed stamp js ds)) ≡ true → is_running (Committed stamp js ds) ≡ true
ran_forgotten stamp js ds true h = h
ran_forgotten stamp js ds false h = h

-- whatever is no begin makes nothing run that did not
abbrev NoBegin : Deed → Type 0
NoBegin (Begins t client who seen) = ⊥
NoBegin d = Unit {0}

if_true : (b : Bool) (x y : Fate) → (is_running x ≡ true → is_running y ≡ true) → is_running (cond {A = Fate} b x y) ≡ true → is_running y ≡ true
if_true true x y f h = f h
if_true false x y f h = h

module _ (t : TransId) where
  ran_registered : (j : JoinNo) (f : Fate) → is_running (registered j f) ≡ true → is_running f ≡ true
  ran_registered j (Running c js) h = refl
  ran_registered j f h = h

  ran_finishing : (f : Fate) → is_running (finishing f) ≡ true → is_running f ≡ true
  ran_finishing (Running c js) h = refl
  ran_finishing f h = h

  ran_heard : (j : JoinNo) (ts : ℕ) (f : Fate) → is_running (heard j ts f) ≡ true → is_running f ≡ true
  ran_heard j ts (Finishing c js vs) h = refl
  ran_heard j ts f h = h

  ran_decided : (x : Stamp) (js : List JoinNo) (f : Fate) → is_running (decided x js f) ≡ true → is_running f ≡ true
  ran_decided x ks (Finishing c js vs) h = refl
  ran_decided x ks f h = h

  ran_ended : (c : Cause) (f : Fate) → is_running (ended c f) ≡ true → is_running f ≡ true
  ran_ended x (Running c js) h = refl
  ran_ended x (Finishing c js vs) h = refl
  ran_ended x f h = h

  ran_acknowledged : (j : JoinNo) (f : Fate) → is_running (acknowledged j f) ≡ true → is_running f ≡ true
  ran_acknowledged j (Committed x js ds) h = h
  ran_acknowledged j f h = h

  ran_forgets : (f : Fate) → is_running (forgotten f) ≡ true → is_running f ≡ true
  ran_forgets (Committed x js ds) h = ran_forgotten x js ds (has_all ds js) h
  ran_forgets f h = h

  ran_restarted : (epoch : ℕ) (f : Fate) → is_running (restarted epoch f) ≡ true → is_running f ≡ true
  ran_restarted epoch (Running c js) h = refl
  ran_restarted epoch (Finishing c js vs) h = refl
  ran_restarted epoch (Committed x js ds) h = h
  ran_restarted epoch f h = h

  ran : (d : Deed) (f : Fate) → NoBegin d → is_running (fate_after d t f) ≡ true → is_running f ≡ true
  ran (Begins u client who seen) f calm h = absurd calm
  ran (Registers u j) f calm h = if_true (same_trans u t) (registered j f) f (ran_registered j f) h
  ran (Finishes u) f calm h = if_true (same_trans u t) (finishing f) f (ran_finishing f) h
  ran (Hears u j ts) f calm h = if_true (same_trans u t) (heard j ts f) f (ran_heard j ts f) h
  ran (Decides x js) f calm h = if_true (same_trans x.trans t) (decided x js f) f (ran_decided x js f) h
  ran (Ends u client c) f calm h = if_true (same_trans u t) (ended c f) f (ran_ended c f) h
  ran (Acknowledges u j) f calm h = if_true (same_trans u t) (acknowledged j f) f (ran_acknowledged j f) h
  ran (Forgets u) f calm h = if_true (same_trans u t) (forgotten f) f (ran_forgets f) h
  ran (Restarts epoch clock) f calm h = ran_restarted epoch f h
  ran d f calm h = h

-- a begin is of the next id here
abbrev IsNextBegin : State → Deed → Type 0
IsNextBegin s (Begins t client who seen) = t ≡ next_trans s
IsNextBegin s d = Unit {0}

begin_own : (s : State) (u : TransId) (client : ℕ) → u ≡ next_trans s → AreOwn s → (t : TransId) → (b : Bool) → same_trans u t ≡ b → is_running (cond {A = Fate} b (begun client (s.fates t)) (s.fates t)) ≡ true → (t.server == s.holder.server) ≡ true
begin_own s u client is h t true e r = eq-eqb t.server s.holder.server (ap (λ (x : TransId). x.server) (sym (same_trans-true u t e) ∙ is))
begin_own s u client is h t false e r = h t r

own_still : (s : State) (d : Deed) → NoBegin d → AreOwn s → AreOwn (state_deed s d)
own_still s d calm h t r = subst (λ (n : ℕ). (t.server == n) ≡ true) (sym (server_same s.holder d)) (h t (ran t d (s.fates t) calm r))

own_deed : (s : State) (d : Deed) → IsNextBegin s d → AreOwn s → AreOwn (state_deed s d)
own_deed s (Begins u client who seen) is h = λ t r. begin_own s u client is h t (same_trans u t) refl r
own_deed s (Restarts epoch clock) is h = own_still s (Restarts epoch clock) tt h
own_deed s d is h = own_still s d tt h

own_along : (x : Event) (ds : List Deed) (s : State) → Along state_deed (IsLawfulDeed x) s ds → AreOwn s → AreOwn (state_after state_deed s ds)
own_along x [] s law h = h
own_along x (d ∷ ds) s law h = own_along x ds (state_deed s d) law.1 (own_deed s d (next_begin d law.0) h)
  where
    next_begin : (d : Deed) → IsLawfulDeed x s d → IsNextBegin s d
    next_begin (Begins t client who seen) l = l.counts
    next_begin d l = tt

own_all : (ds : List Deed) (s : State) → AllByRecursion NoBegin ds → AreOwn s → AreOwn (state_after state_deed s ds)
own_all [] s calm h = h
own_all (d ∷ ds) s calm h = own_all ds (state_deed s d) calm.1 (own_still s d calm.0 h)

-- what a restart resolves begins nothing
none_resolved : (ready : List JoinNo) (clock : ℕ) (stamps : List Stamp) (ds : List Deed) → AllByRecursion NoBegin (filter (is_effective ready clock stamps) ds)
none_resolved ready clock stamps [] = tt
none_resolved ready clock stamps (d ∷ ds) = go (is_effective ready clock stamps d) refl (none_resolved ready clock stamps ds)
  where
    none : (d : Deed) → is_effective ready clock stamps d ≡ true → NoBegin d
    none (Begins t client who seen) e = let wrong : false ≡ true = e in cc
    none d e = tt

    go : (b : Bool) → is_effective ready clock stamps d ≡ b → AllByRecursion NoBegin (filter (is_effective ready clock stamps) ds)
        → AllByRecursion NoBegin (cond b (d ∷ filter (is_effective ready clock stamps) ds) (filter (is_effective ready clock stamps) ds))
    go true e k = (none d e, k)
    go false e k = k

restart_begins : (s : State) (acts : List Act) → Regains s acts → AllByRecursion NoBegin (flat_map (act_deeds s event.Restart) acts ++ [])
restart_begins s (act.Regained epoch clock ready stamps ∷ []) h =
    all-append NoBegin ((resolved s ready clock stamps ++ Restarts epoch clock ∷ []) ++ []) []
    (all-append NoBegin (resolved s ready clock stamps ++ Restarts epoch clock ∷ []) []
    (all-append NoBegin (resolved s ready clock stamps) (Restarts epoch clock ∷ []) (none_resolved ready clock stamps s.pending) (tt, tt)) tt) tt
restart_begins s acts h = absurd h

own_did : (s : State) (e : Entry) (x : Event) → e.event ≡ x → DeedsAreLawful s e x → StartsRight s e x → AreOwn s → AreOwn (did s e)
own_did s e event.Restart is law start h =
    let begins : AllByRecursion NoBegin (event_deeds s event.Restart e.reply e.acts ++ flat_map (act_deeds s event.Restart) e.acts ++ done_deeds s event.Restart e.reply) = restart_begins s e.acts start.0 in
    own_all (tried s e) s (subst (λ (y : Event). AllByRecursion NoBegin (event_deeds s y e.reply e.acts ++ flat_map (act_deeds s y) e.acts ++ done_deeds s y e.reply)) (sym is) begins) h
own_did s e (event.Call client epoch number c) is law start h = own_along (event.Call client epoch number c) (tried s e) s law h
own_did s e (event.Arrive from m) is law start h = own_along (event.Arrive from m) (tried s e) s law h
own_did s e (event.Timeout t) is law start h = own_along (event.Timeout t) (tried s e) s law h
own_did s e event.Tick is law start h = own_along event.Tick (tried s e) s law h
own_did s e event.Force is law start h = own_along event.Force (tried s e) s law h

own_entry : (s : State) (e : Entry) → IsLawfulEntry s e → AreOwn s → AreOwn (next s e)
own_entry s e law h = go (stops e)
  where
    go : (b : Bool) → AreOwn (cond {A = State} b (halted s e) (told s e))
    go true = h
    go false = own_did s e e.event refl law.deeds law.restart h

-- ---- what has all its votes is decided

votes_entry : (failed : Bool) (s : State) (e : Entry) → IsAnsweredEntry failed s e → CountsVotes s → CountsVotes (next s e)
votes_entry failed s e a h = go (stops e) refl a.votes
  where
    go : (b : Bool) → stops e ≡ b → Where b (Unit {0}) (CountsVotes (next s e)) → CountsVotes (next s e)
    go true is k = subst (λ (b : Bool). CountsVotes (cond {A = State} b (halted s e) (told s e))) (sym is) h
    go false is k = k

-- ---- along a journal

-- what is known of a state that such a journal leaves
pub record IsInOrder (s : State) : Type 0 where
  pub own : AreOwn s
  pub votes : CountsVotes s

along : (es : List Entry) (s : State) → Along next IsLawfulEntry s es → Along next IsAnsweredSo s es → IsInOrder s → IsInOrder (state_after next s es)
along [] s law answers h = h
along (e ∷ es) s law answers h = along es (next s e) law.1 answers.1 (record { own = own_entry s e law.0 h.own; votes = votes_entry answers.0.0 s e answers.0.1 h.votes })

none_noted : (ns : List DecisionNote) (t : TransId) → (is_running (fate_noted ns t) ≡ false) × (has_votes (fate_noted ns t) ≡ false)
none_noted [] t = (refl, refl)
none_noted (n ∷ ns) t = go (same_trans n.stamp.trans t) (none_noted ns t)
  where
    go : (b : Bool) → (is_running (fate_noted ns t) ≡ false) × (has_votes (fate_noted ns t) ≡ false)
        → (is_running (cond {A = Fate} b (Committed n.stamp n.joins []) (fate_noted ns t)) ≡ false) × (has_votes (cond {A = Fate} b (Committed n.stamp n.joins []) (fate_noted ns t)) ≡ false)
    go true h = (refl, refl)
    go false h = h

opened_order : (o : Start) → IsInOrder (opened o)
opened_order o = record {
  own = λ t r. (let wrong : false ≡ true = sym (none_noted o.decisions t).0 ∙ r in cc);
  votes = λ t. (none_noted o.decisions t).1;
}

pub reached_order : (s : State) → IsReached s → IsInOrder s
reached_order s r = subst IsInOrder r.leaves (along r.journal (opened r.start) r.lawful r.answered.0 (opened_order r.start))
