-- Behind a settling of the only server of a run no transaction of it is open: all those that were timed out, and nothing begins by itself.
use Rattle.std.specs.Prelude.{Bool, true, false, not, cond, filter, flat_map, IsTrue, Option, None, Some, slice_get}
use Rattle.std.specs.List.{AllByRecursion, Contains}
use Rattle.std.proofs.Common.{inl, inr, ◌≡◌, ℕ, zero, suc, List, [], ◌∷◌, ◌++◌, refl, sym, ◌∙◌, ap, subst, arith}
use Rattle.std.proofs.lemmas.List.{append_assoc}
use Rattle.alp_base.specs.declared.ids.JoinNo.{JoinNo}
use Rattle.alp_base.specs.declared.ids.Stamp.{Stamp}
use Rattle.alp_base.specs.declared.ids.TransId.{TransId}
use Rattle.alp_files.specs.declared.call.Call.{Call}
use Rattle.alp_files.specs.declared.refusal.Cause.{Cause}
use Rattle.alp_files.specs.declared.reply.Reply.{Reply}
use Rattle.alp_journal.specs.Along.{state_after}
use Rattle.alp_journal.specs.Coordinator.{Fate, Undrawn, Running, Finishing, Committed, Forgotten, Ended, begun, registered, finishing, heard, decided, ended, acknowledged, has_all, forgotten, restarted, fate_after, client_of}
use Rattle.alp_journal.specs.Deeds.{Deed, Begins, Joins, Enters, Quits, Aborts, Grants, Performs, Releases, Readies, Applies, Registers, Finishes, Hears, Decides, Ends, Acknowledges, Forgets, Restarts}
use Rattle.alp_journal.specs.Ids.{same_trans, has_server}
use Rattle.alp_journal.specs.Moves.{next, stops, told, halted, tried, did, event_deeds, act_deeds, done_deeds, is_effective, resolved, times_out_here, times_out_join, if_its, asks_for, grants_to}
use Rattle.alp_journal.specs.Participant.{open_in}
use Rattle.alp_journal.specs.State.{State, state_deed}
use Rattle.alp_journal.specs.declared.act.Act.{Act}
use Rattle.alp_journal.specs.declared.act.Act.TheVariants as act
use Rattle.alp_journal.specs.declared.entry.Entry.{Entry}
use Rattle.alp_journal.specs.declared.event.Event.{Event}
use Rattle.alp_journal.specs.declared.event.Event.TheVariants as event
use Rattle.alp_course.specs.Courses.{Course, Seat, seat_at, Occurrence, at, looks, brings, loses, repeats, comes, rests, AreCourse}
use Rattle.alp_course.specs.Happens.{Happening, timed_out, ticked, finds, Stand, stand_after, IsEntryOf, IsNone, ComesTo, Happens, AreRecorded}
use Rattle.alp_course.specs.Languages.{Language, Nothing, Just, Then, Each}
use Rattle.alp_course.specs.Lone.{happenings_of, HasGoneOn}
use Rattle.alp_course.specs.Opens.{is_unasked, HasOpenPart, IsLeastOpen}
use Rattle.alp_course.specs.Settles.{IsLifted, AreTimedOut, none_open, one_open, AreRounds, IsSettling}
use Rattle.alp_course.proofs.LoneLemmas.{alone, one_seat}
use Rattle.alp_course.proofs.UpLemmas.{IsCalm, calm_rounds_all}

-- ---- no deed but a begin has a transaction run

abbrev IsNoBegin : Deed → Type 0
IsNoBegin (Begins t client who seen) = ⊥
IsNoBegin d = Unit {0}

never : true ≡ false → ⊥
never wrong = cc

either_closed : (b : Bool) (x f : Fate) → is_unasked x ≡ false → is_unasked f ≡ false → is_unasked (cond b x f) ≡ false
either_closed true x f h k = h
either_closed false x f h k = k

registered_closed : (j : JoinNo) (f : Fate) → is_unasked f ≡ false → is_unasked (registered j f) ≡ false
registered_closed j (Running client js) h = absurd (never h)
registered_closed j f h = h

finishing_closed : (f : Fate) → is_unasked f ≡ false → is_unasked (finishing f) ≡ false
finishing_closed (Running client js) h = refl
finishing_closed f h = h

heard_closed : (j : JoinNo) (ts : ℕ) (f : Fate) → is_unasked f ≡ false → is_unasked (heard j ts f) ≡ false
heard_closed j ts (Finishing client js vs) h = refl
heard_closed j ts f h = h

decided_closed : (stamp : Stamp) (js : List JoinNo) (f : Fate) → is_unasked f ≡ false → is_unasked (decided stamp js f) ≡ false
decided_closed stamp js (Finishing client ks vs) h = refl
decided_closed stamp js f h = h

ended_closed : (c : Cause) (f : Fate) → is_unasked f ≡ false → is_unasked (ended c f) ≡ false
ended_closed c (Running client js) h = refl
ended_closed c (Finishing client js vs) h = refl
ended_closed c f h = h

acknowledged_closed : (j : JoinNo) (f : Fate) → is_unasked f ≡ false → is_unasked (acknowledged j f) ≡ false
acknowledged_closed j (Committed stamp js ds) h = refl
acknowledged_closed j f h = h

forgotten_closed : (f : Fate) → is_unasked f ≡ false → is_unasked (forgotten f) ≡ false
forgotten_closed (Committed stamp js ds) h = either_closed (has_all ds js) (Forgotten stamp js) (Committed stamp js ds) refl refl
forgotten_closed f h = h

restarted_closed : (epoch : ℕ) (f : Fate) → is_unasked f ≡ false → is_unasked (restarted epoch f) ≡ false
restarted_closed epoch (Running client js) h = refl
restarted_closed epoch (Finishing client js vs) h = refl
restarted_closed epoch (Committed stamp js ds) h = refl
restarted_closed epoch f h = h

fate_closed : (d : Deed) (t : TransId) (f : Fate) → IsNoBegin d → is_unasked f ≡ false → is_unasked (fate_after d t f) ≡ false
fate_closed (Begins u client who seen) t f none h = absurd none
fate_closed (Registers u j) t f none h = either_closed (same_trans u t) (registered j f) f (registered_closed j f h) h
fate_closed (Finishes u) t f none h = either_closed (same_trans u t) (finishing f) f (finishing_closed f h) h
fate_closed (Hears u j ts) t f none h = either_closed (same_trans u t) (heard j ts f) f (heard_closed j ts f h) h
fate_closed (Decides stamp js) t f none h = either_closed (same_trans stamp.trans t) (decided stamp js f) f (decided_closed stamp js f h) h
fate_closed (Ends u client c) t f none h = either_closed (same_trans u t) (ended c f) f (ended_closed c f h) h
fate_closed (Acknowledges u j) t f none h = either_closed (same_trans u t) (acknowledged j f) f (acknowledged_closed j f h) h
fate_closed (Forgets u) t f none h = either_closed (same_trans u t) (forgotten f) f (forgotten_closed f h) h
fate_closed (Restarts epoch clock) t f none h = restarted_closed epoch f h
fate_closed d t f none h = h

-- no transaction of the server is open
abbrev pub IsClosed : State → Type 0
IsClosed s = (t : TransId) → is_unasked (s.fates t) ≡ false

deeds_closed : (ds : List Deed) (s : State) → AllByRecursion IsNoBegin ds → IsClosed s → IsClosed (state_after state_deed s ds)
deeds_closed [] s none h = h
deeds_closed (d ∷ ds) s none h = deeds_closed ds (state_deed s d) none.1 (λ t. fate_closed d t (s.fates t) none.0 (h t))

-- ---- nothing begins at a tick or a timeout

all_append : (xs ys : List Deed) → AllByRecursion IsNoBegin xs → AllByRecursion IsNoBegin ys → AllByRecursion IsNoBegin (xs ++ ys)
all_append [] ys h k = k
all_append (x ∷ xs) ys h k = (h.0, all_append xs ys h.1 k)

all_each : {X : Type 0} (f : X → List Deed) (xs : List X) → ((x : X) → AllByRecursion IsNoBegin (f x)) → AllByRecursion IsNoBegin (flat_map f xs)
all_each f [] h = tt
all_each f (x ∷ xs) h = all_append (f x) (flat_map f xs) (h x) (all_each f xs h)

effective_no : (ready : List JoinNo) (clock : ℕ) (stamps : List Stamp) (d : Deed) → is_effective ready clock stamps d ≡ true → IsNoBegin d
effective_no ready clock stamps (Begins t client who seen) h = absurd (never (sym h))
effective_no ready clock stamps d h = tt

resolved_no : (ready : List JoinNo) (clock : ℕ) (stamps : List Stamp) (ds : List Deed) → AllByRecursion IsNoBegin (filter (is_effective ready clock stamps) ds)
resolved_no ready clock stamps [] = tt
resolved_no ready clock stamps (d ∷ ds) = go (is_effective ready clock stamps d) refl (resolved_no ready clock stamps ds)
  where
    go : (b : Bool) → is_effective ready clock stamps d ≡ b → AllByRecursion IsNoBegin (filter (is_effective ready clock stamps) ds) → AllByRecursion IsNoBegin (cond b (d ∷ filter (is_effective ready clock stamps) ds) (filter (is_effective ready clock stamps) ds))
    go true is rest = (effective_no ready clock stamps d is, rest)
    go false is rest = rest

grants_no : (t : TransId) (o : Option Call) → AllByRecursion IsNoBegin (grants_to t o)
grants_no t None = tt
grants_no t (Some c) = (tt, tt)

-- an event at which nothing begins
abbrev IsIdle : Event → Type 0
IsIdle event.Tick = Unit {0}
IsIdle (event.Timeout t) = Unit {0}
IsIdle e = ⊥

act_no : (s : State) (e : Event) (a : Act) → IsIdle e → AllByRecursion IsNoBegin (act_deeds s e a)
act_no s e (act.Granted t) idle = grants_no t (asks_for s e t (s.holder.lives t))
act_no s event.Tick (act.Drawn t) idle = tt
act_no s (event.Timeout u) (act.Drawn t) idle = tt
act_no s e (act.Drawn t) idle = absurd idle
act_no s e (act.Registered t j) idle = (tt, tt)
act_no s e (act.Readied t j ts) idle = (tt, tt)
act_no s e (act.Decided stamp js) idle = (tt, tt)
act_no s e (act.Applied j stamp) idle = (tt, tt)
act_no s e (act.Released t) idle = (tt, tt)
act_no s e (act.Forgot t) idle = (tt, tt)
act_no s e (act.Regained epoch clock ready stamps) idle = all_append (resolved s ready clock stamps) (Restarts epoch clock ∷ []) (resolved_no ready clock stamps s.pending) (tt, tt)
act_no s e (act.Sent to m) idle = tt
act_no s e act.Stopped idle = tt
act_no s e act.Failed idle = tt

times_no : (t : TransId) (o : Option ℕ) → AllByRecursion IsNoBegin (times_out_here t o)
times_no t None = tt
times_no t (Some client) = (tt, tt)

its_no : (t : TransId) (o : Option (TransId × ℕ)) (f : ℕ → List Deed) → ((n : ℕ) → AllByRecursion IsNoBegin (f n)) → AllByRecursion IsNoBegin (if_its t o f)
its_no t None f h = tt
its_no t (Some x) f h = go (same_trans x.0 t)
  where
    go : (b : Bool) → AllByRecursion IsNoBegin (cond b (f x.1) [])
    go true = h x.1
    go false = tt

event_no : (s : State) (e : Event) (r : Option Reply) (acts : List Act) → IsIdle e → AllByRecursion IsNoBegin (event_deeds s e r acts)
event_no s event.Tick r acts idle = tt
event_no s (event.Timeout t) r acts idle =
    all_append (times_out_here t (client_of (s.fates t))) (flat_map (times_out_join s t) s.joined) (times_no t (client_of (s.fates t)))
    (all_each (times_out_join s t) s.joined (λ j. its_no t (open_in (s.phases j)) _ (λ n. (tt, tt))))
event_no s e r acts idle = absurd idle

done_no : (s : State) (e : Event) (r : Option Reply) → IsIdle e → AllByRecursion IsNoBegin (done_deeds s e r)
done_no s event.Tick r idle = tt
done_no s (event.Timeout t) r idle = tt
done_no s e r idle = absurd idle

tried_no : (s : State) (e : Entry) → IsIdle e.event → AllByRecursion IsNoBegin (tried s e)
tried_no s e idle =
    all_append (event_deeds s e.event e.reply e.acts ++ flat_map (act_deeds s e.event) e.acts) (done_deeds s e.event e.reply)
    (all_append (event_deeds s e.event e.reply e.acts) (flat_map (act_deeds s e.event) e.acts) (event_no s e.event e.reply e.acts idle) (all_each (act_deeds s e.event) e.acts (λ a. act_no s e.event a idle)))
    (done_no s e.event e.reply idle)

entry_closed : (s : State) (e : Entry) → IsIdle e.event → IsClosed s → IsClosed (next s e)
entry_closed s e idle h = go (stops e)
  where
    go : (b : Bool) → IsClosed (cond b (halted s e) (told s e))
    go true = h
    go false = deeds_closed (tried s e) s (tried_no s e idle) h

-- ---- what happens behind

-- what a settling has happen behind the lifting
abbrev IsQuiet : Happening → Type 0
IsQuiet (timed_out t) = Unit {0}
IsQuiet ticked = Unit {0}
IsQuiet (finds least) = Unit {0}
IsQuiet h = ⊥

comes_closed : (w : Stand) (b : Bool) (x : Event) (es : List Entry) (v : Stand) → IsIdle x → ComesTo w b x es v → IsClosed w.state → IsClosed v.state
comes_closed w true x es v idle h closed = subst (λ (z : Stand). IsClosed z.state) (sym h.1) closed
comes_closed w false x es v idle h closed = subst (λ (z : Stand). IsClosed z.state) (sym h.behind) (entry_closed w.state h.entry (subst IsIdle (sym h.event) idle) closed)

happens_closed : (tells : Bool) (w : Stand) (h : Happening) (es : List Entry) (v : Stand) → IsQuiet h → Happens tells w h es v → IsClosed w.state → IsClosed v.state
happens_closed tells w (timed_out t) es v quiet m closed = comes_closed w w.is_down (event.Timeout t) es v tt m closed
happens_closed tells w ticked es v quiet m closed = comes_closed w w.is_down event.Tick es v tt m closed
happens_closed tells w (finds least) es v quiet m closed = subst (λ (z : Stand). IsClosed z.state) (sym m.1.1) closed
happens_closed tells w h es v quiet m closed = absurd quiet

recorded_closed : (tells : Bool) (w v : Stand) (hs : List Happening) (es : List Entry) → AllByRecursion IsQuiet hs → AreRecorded tells w hs es v → IsClosed w.state → IsClosed v.state
recorded_closed tells w v [] es quiet m closed = subst (λ (z : Stand). IsClosed z.state) (sym m.1) closed
recorded_closed tells w v (h ∷ hs) es quiet m closed =
    let (own, others, mid, are, first, rest) = m in
    recorded_closed tells mid v hs others quiet.1 rest (happens_closed tells w h own mid quiet.0 first closed)

none_in : (t : TransId) → Contains {X = TransId} [] t → ⊥
none_in t c = absurd (omega (arith, c.1))

-- nothing is found, and so none is open
none_open_there : (s : State) → IsLeastOpen s None → IsClosed s
none_open_there s h t = go (is_unasked (s.fates t)) refl
  where
    empty : (ts : List TransId) → None ≡ slice_get ts 0 → ts ≡ []
    empty [] is = refl
    empty (u ∷ us) is = cc

    go : (b : Bool) → is_unasked (s.fates t) ≡ b → is_unasked (s.fates t) ≡ false
    go true is = absurd (subst (λ (ts : List TransId). Contains ts t → ⊥) (sym (empty h.all h.first)) (none_in t) ((h.are.parts t).1 (inl is)))
    go false is = is

-- some of it happened, then nothing was found open, and then there was no call
record IsEmptied (hs : List Happening) : Type 0 where
  front : List Happening
  back : List Happening
  are : hs ≡ front ++ finds None ∷ back
  quiet : AllByRecursion IsQuiet back

emptied_closed : (tells : Bool) (w v : Stand) (front back : List Happening) (es : List Entry) → AllByRecursion IsQuiet back → IsTrue tells → AreRecorded tells w (front ++ finds None ∷ back) es v → IsClosed v.state
emptied_closed tells w v [] back es quiet told m =
    let (own, others, mid, are, first, rest) = m in
    recorded_closed tells mid v back others quiet rest (subst (λ (z : Stand). IsClosed z.state) (sym first.1.1) (none_open_there w.state (first.0 told)))
emptied_closed tells w v (h ∷ front) back es quiet told m =
    let (own, others, mid, are, first, rest) = m in
    emptied_closed tells mid v front back others quiet told rest

-- ---- of a settling

happenings_append : (xs ys : List Occurrence) → happenings_of (xs ++ ys) ≡ happenings_of xs ++ happenings_of ys
happenings_append [] ys = refl
happenings_append (at n h ∷ xs) ys = ap (λ (hs : List Happening). h ∷ hs) (happenings_append xs ys)
happenings_append (looks from to waits ∷ xs) ys = happenings_append xs ys
happenings_append (brings from to ∷ xs) ys = happenings_append xs ys
happenings_append (loses from to ∷ xs) ys = happenings_append xs ys
happenings_append (repeats from to ∷ xs) ys = happenings_append xs ys
happenings_append (comes from to m seen ∷ xs) ys = happenings_append xs ys
happenings_append (rests is_rest ∷ xs) ys = happenings_append xs ys

calm_quiet : (xs : List Occurrence) → AllByRecursion IsCalm xs → AllByRecursion IsQuiet (happenings_of xs)
calm_quiet [] calm = tt
calm_quiet (at n (timed_out t) ∷ xs) calm = (tt, calm_quiet xs calm.1)
calm_quiet (at n ticked ∷ xs) calm = (tt, calm_quiet xs calm.1)
calm_quiet (at n (finds least) ∷ xs) calm = (tt, calm_quiet xs calm.1)
calm_quiet (at n h ∷ xs) calm = absurd calm.0
calm_quiet (looks from to waits ∷ xs) calm = calm_quiet xs calm.1
calm_quiet (brings from to ∷ xs) calm = calm_quiet xs calm.1
calm_quiet (loses from to ∷ xs) calm = calm_quiet xs calm.1
calm_quiet (repeats from to ∷ xs) calm = calm_quiet xs calm.1
calm_quiet (comes from to m seen ∷ xs) calm = calm_quiet xs calm.1
calm_quiet (rests is_rest ∷ xs) calm = calm_quiet xs calm.1

empties_behind : (hs js : List Happening) → IsEmptied hs → AllByRecursion IsQuiet js → IsEmptied (hs ++ js)
empties_behind hs js h quiet = record {
  front = h.front;
  back = h.back ++ js;
  are = ap (λ (ks : List Happening). ks ++ js) h.are ∙ append_assoc h.front (finds None ∷ h.back) js;
  quiet = both h.back js h.quiet quiet;
}
  where
    both : (xs ys : List Happening) → AllByRecursion IsQuiet xs → AllByRecursion IsQuiet ys → AllByRecursion IsQuiet (xs ++ ys)
    both [] ys p q = q
    both (x ∷ xs) ys p q = (p.0, both xs ys p.1 q)

empties_before : (hs js : List Happening) → IsEmptied js → IsEmptied (hs ++ js)
empties_before hs js h = record { front = hs ++ h.front; back = h.back; are = ap (λ (ks : List Happening). hs ++ ks) h.are ∙ sym (append_assoc hs h.front (finds None ∷ h.back)); quiet = h.quiet }

timed_empties : (n : ℕ) (xs : List Occurrence) → AreTimedOut n xs → IsEmptied (happenings_of xs)
timed_empties n xs none_open = record { front = []; back = []; are = refl; quiet = tt }
timed_empties n xs (one_open t zs word) = empties_before (finds (Some t) ∷ timed_out t ∷ []) (happenings_of zs) (timed_empties n zs word)

settling_empties : (xs : List Occurrence) → IsSettling 1 xs → IsEmptied (happenings_of xs)
settling_empties xs h =
    let timed : Each AreTimedOut 1 h.second.front = h.second.first in
    let own : IsEmptied (happenings_of timed.back) = timed_empties 1 timed.back timed.second in
    let front : IsEmptied (happenings_of h.second.front) = subst IsEmptied (sym (ap happenings_of timed.are ∙ happenings_append timed.front timed.back)) (empties_before (happenings_of timed.front) (happenings_of timed.back) own) in
    let behind : IsEmptied (happenings_of h.back) =
    subst IsEmptied (sym (ap happenings_of h.second.are ∙ happenings_append h.second.front h.second.back)) (empties_behind (happenings_of h.second.front) (happenings_of h.second.back) front (calm_quiet h.second.back (calm_rounds_all 1 8 h.second.back h.second.second))) in
    subst IsEmptied (sym (ap happenings_of h.are ∙ happenings_append h.front h.back)) (empties_before (happenings_of h.front) (happenings_of h.back) behind)

-- Behind a settling of the only server none of its transactions is open.
pub settled_closed : (r after : Course) (xs : List Occurrence) (s : Seat) → r.seats ≡ s ∷ [] → IsSettling 1 xs → AreCourse r xs after → IsTrue (seat_at after 1).tells → IsClosed (seat_at after 1).stand.state
settled_closed r after xs s single word course told =
    let (t, is, on) = alone r after xs s single course in
    let e : IsEmptied (happenings_of xs) = settling_empties xs word in
    let here : seat_at after 1 ≡ t = one_seat after t is in
    let tells : IsTrue s.tells = subst IsTrue on.telling (subst (λ (z : Seat). IsTrue z.tells) here told) in
    subst (λ (z : Seat). IsClosed z.stand.state) (sym here)
    (emptied_closed s.tells s.stand t.stand e.front e.back on.entries e.quiet tells (subst (λ (hs : List Happening). AreRecorded s.tells s.stand hs on.entries t.stand) e.are on.recorded))
