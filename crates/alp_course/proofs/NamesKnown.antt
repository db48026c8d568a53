-- What is known of names in a round of a settling.
use Rattle.std.specs.Prelude.{Bool, true, false, not, cond, flat_map, ◌&&◌, ◌||◌, ◌==◌, nat_lt, nat_le, Option, None, Some, slice_get}
use Rattle.std.specs.List.{list_any, AllByRecursion}
use Rattle.std.proofs.Common.{◌≡◌, ◌⊎◌, inl, inr, ℕ, zero, suc, ◌+◌, ◌<◌, ◌≤◌, List, [], ◌∷◌, ◌++◌, length, refl, sym, ◌∙◌, ap, subst, arith, eq-eqb}
use Rattle.std.proofs.lemmas.Bool.{eqb-true, ltb-true, leb-true, lt-ltb, le-leb, and_parts}
use Rattle.std.proofs.lemmas.List.Folds.{list_any-append}
use Rattle.alp_base.specs.declared.ids.JoinNo.{JoinNo}
use Rattle.alp_base.specs.declared.ids.Stamp.{Stamp}
use Rattle.alp_base.specs.declared.ids.TransId.{TransId}
use Rattle.alp_files.specs.History.{Decided}
use Rattle.alp_journal.specs.Along.{Where}
use Rattle.alp_journal.specs.Answered.{IsAnswered, IsAnsweredSo, IsAnsweredEntry}
use Rattle.alp_journal.specs.Coordinator.{Fate, Undrawn, Running, Finishing, Committed, Forgotten, Ended, has_all, fate_after, joins_of}
use Rattle.alp_journal.specs.Deeds.{Deed, Begins, Joins, Enters, Quits, Aborts, Grants, Performs, Releases, Readies, Applies, Registers, Finishes, Hears, Decides, Ends, Acknowledges, Forgets, Restarts}
use Rattle.alp_journal.specs.Desk.{Desk}
use Rattle.alp_journal.specs.Ids.{is_drawn, same_join, has_join, has_server}
use Rattle.alp_journal.specs.Laws.{IsStopped, TellsStop, SaysRight, StartsRight, regained_by}
use Rattle.alp_journal.specs.Moves.{next, stops, told, halted, tried, did, next_join, event_deeds, act_deeds, done_deeds}
use Rattle.alp_journal.specs.Opening.{Start, ReadyNote, DecisionNote}
use Rattle.alp_journal.specs.Participant.{Phase, Joining, Ready}
use Rattle.alp_journal.specs.State.{Ids, State, ids_after, state_deed, opened, is_join_drawn, is_trans_drawn}
use Rattle.alp_journal.specs.declared.act.Act.{Act}
use Rattle.alp_journal.specs.declared.act.Act.TheVariants as act
use Rattle.alp_journal.specs.declared.entry.Entry.{Entry}
use Rattle.alp_journal.specs.declared.event.Event.{Event}
use Rattle.alp_journal.specs.declared.event.Event.TheVariants as event
use Rattle.alp_journal.specs.declared.message.Message.{Message}
use Rattle.alp_journal.specs.declared.message.Message.TheVariants as msg
use Rattle.alp_journal.proofs.Origins.{IsFrom, tried-from}
use Rattle.alp_history.specs.Items.{Handed}
use Rattle.alp_history.specs.Log.{Log, ServerLog, IsIn, of, nobody, journal_of, opening_of, state_at, rank_at, WasSent}
use Rattle.alp_history.specs.Theorems.{IsProper}
use Rattle.alp_history.proofs.Agreed.{home-at, backed-at, WasDrawn, IsLater, drawn-epoch, drawn-after, Promise, Acked, size}
use Rattle.alp_history.proofs.EachServer.{plain-at}
use Rattle.alp_history.proofs.Entries.{is_open}
use Rattle.alp_history.proofs.Fates.{fate-cases, IsOver, IsBacked}
use Rattle.alp_history.proofs.LetIn.{told-pending}
use Rattle.alp_history.proofs.Linked.{IsLinkedUp, IsRested, IsAway, in-left, in-right}
use Rattle.alp_history.proofs.Logs.{lawful-at, state-suc, stands-from}
use Rattle.alp_history.proofs.Phases.{IsSeen}
use Rattle.alp_history.proofs.Places.{all-in, along-at, in-list}
use Rattle.alp_history.proofs.Rights.{IsRightDeed, IsRightEntry}
use Rattle.alp_history.proofs.Votes.{joined-server}
use Rattle.alp_course.specs.Courses.{Course, Seat, seat_at, IsOneOf, IsSeat}
use Rattle.alp_course.specs.Resting.{IsPositive, AreSpelled}
use Rattle.alp_course.specs.Links.{server_log, log_of, AreNumbered}
use Rattle.alp_course.specs.Midway.{Holds}
use Rattle.alp_course.proofs.CalmArrivals.{HasIt}
use Rattle.alp_course.proofs.CalmCourse.{HasMoved}
use Rattle.alp_course.proofs.CalmLogs.{end_of, end_within, stands_in_log, in_journal, seat_of}
use Rattle.alp_course.proofs.CalmRounds.{IsNamed, AreKnownIn, has_in}
use Rattle.alp_course.proofs.NameLemmas.{IsKnown}
use Rattle.alp_course.proofs.NamesAlong.{IsRegistered, IsLetIn, HoldsLetIn, AreNamed, names_at}
use Rattle.alp_course.proofs.NameWords.{DrawsIn, says_so, joined_drawn, register_asks, ids_more, ids_drawn}
use Rattle.alp_course.proofs.RankLemmas.{get_below}
use Rattle.alp_course.proofs.SeatLemmas.{IsOf, its, nobodys, of_course}

-- ---- ids that were drawn

pub record IsDrawnAs (here now last server epoch counter : ℕ) : Type 0 where
  pub home : server ≡ here
  pub some : 0 < epoch
  pub counted : 0 < counter
  pub before : (epoch < now) ⊎ ((epoch ≡ now) × (counter ≤ last))

drawn_so : (here now last server epoch counter : ℕ) → IsDrawnAs here now last server epoch counter → is_drawn here now last server epoch counter ≡ true
drawn_so here now last server epoch counter h = go h.before
  where
    first : (server == here && nat_lt 0 epoch && nat_lt 0 counter) ≡ true
    first = (λ i. eq-eqb server here h.home i && lt-ltb 0 epoch h.some i && lt-ltb 0 counter h.counted i)

    second : (b : Bool) → (b || true) ≡ true
    second true = refl
    second false = refl

    go : (epoch < now) ⊎ ((epoch ≡ now) × (counter ≤ last)) → is_drawn here now last server epoch counter ≡ true
    go (inl low) = (λ i. first i && (lt-ltb epoch now low i || (epoch == now && nat_le counter last)))
    go (inr same) = (λ i. first i && (nat_lt epoch now || (eq-eqb epoch now same.0 i && le-leb counter last same.1 i))) ∙ second (nat_lt epoch now)

as_drawn : (here now last server epoch counter : ℕ) → is_drawn here now last server epoch counter ≡ true → IsDrawnAs here now last server epoch counter
as_drawn here now last server epoch counter h =
    let both = and_parts (server == here && nat_lt 0 epoch && nat_lt 0 counter) (nat_lt epoch now || (epoch == now && nat_le counter last)) h in
    let three = and_parts (server == here && nat_lt 0 epoch) (nat_lt 0 counter) both.0 in
    let two = and_parts (server == here) (nat_lt 0 epoch) three.0 in
    record { home = eqb-true server here two.0; some = ltb-true 0 epoch two.1; counted = ltb-true 0 counter three.1; before = go (nat_lt epoch now) refl both.1 }
  where
    go : (b : Bool) → nat_lt epoch now ≡ b → (b || (epoch == now && nat_le counter last)) ≡ true → (epoch < now) ⊎ ((epoch ≡ now) × (counter ≤ last))
    go true is e = inl (ltb-true epoch now is)
    go false is e = (let x = and_parts (epoch == now) (nat_le counter last) e in inr (eqb-true epoch now x.0, leb-true counter last x.1))

-- ---- what comes of a transaction that has a join

abbrev HasJoin : JoinNo → Fate → Type 0
HasJoin j f = (has_join j (joins_of f) ≡ true) ⊎ IsOver f

abbrev Takes : TransId → JoinNo → Deed → Type 0
Takes t j (Decides x js) = x.trans ≡ t → has_join j js ≡ true
Takes t j d = Unit {0}

no_join : {P : Type 0} → false ≡ true → P
no_join e = absurd (let wrong : false ≡ true = e in cc)

takes_keep : (t : TransId) (j : JoinNo) (d : Deed) (f : Fate) → Takes t j d → HasJoin j f → HasJoin j (fate_after d t f)
takes_keep t j d Undrawn k (inl e) = no_join e
takes_keep t j d Undrawn k (inr o) = absurd o
takes_keep t j d (Running c js) k (inr o) = absurd o
takes_keep t j d (Running c js) k (inl e) = fate-cases (HasJoin j) d t (Running c js) (inl e) (λ q. inl e) (λ q. both q (has_server q.server js)) (inl e) (λ q ts. inl e) (λ x ks i g. inl e) (λ q. inr tt) (λ q. inl e) (inl e) (λ q. inr tt)
  where
    both : (q : JoinNo) (b : Bool) → HasJoin j (cond b (Running c js) (Running c (js ++ q ∷ [])))
    both q true = inl e
    both q false = inl (list_any-append (λ k. same_join k j) js (q ∷ []) ∙ ap (λ (b : Bool). b || has_join j (q ∷ [])) e)
takes_keep t j d (Finishing c js vs) k (inr o) = absurd o
takes_keep t j d (Finishing c js vs) k (inl e) = fate-cases (HasJoin j) d t (Finishing c js vs) (inl e) (λ q. inl e) (λ q. inl e) (inl e) (λ q ts. inl e) (λ x ks i g. inl (subst (Takes t j) g k i)) (λ q. inr tt) (λ q. inl e) (inl e) (λ q. inr tt)
takes_keep t j d (Committed y js ds) k (inr o) = absurd o
takes_keep t j d (Committed y js ds) k (inl e) = fate-cases (HasJoin j) d t (Committed y js ds) (inl e) (λ q. inl e) (λ q. inl e) (inl e) (λ q ts. inl e) (λ x ks i g. inl e) (λ q. inl e) (λ q. inl e) (both (has_all ds js)) (λ q. inl e)
  where
    both : (b : Bool) → HasJoin j (cond b (Forgotten y js) (Committed y js ds))
    both true = inl e
    both false = inl e
takes_keep t j d (Forgotten y js) k (inr o) = absurd o
takes_keep t j d (Forgotten y js) k (inl e) = fate-cases (HasJoin j) d t (Forgotten y js) (inl e) (λ q. inl e) (λ q. inl e) (inl e) (λ q ts. inl e) (λ x ks i g. inl e) (λ q. inl e) (λ q. inl e) (inl e) (λ q. inl e)
takes_keep t j d (Ended c) k h = fate-cases (HasJoin j) d t (Ended c) (inr tt) (λ q. inr tt) (λ q. inr tt) (inr tt) (λ q ts. inr tt) (λ x ks i g. inr tt) (λ q. inr tt) (λ q. inr tt) (inr tt) (λ q. inr tt)

takes_right : (t : TransId) (j : JoinNo) (e : Event) (m : State) (d : Deed) → HasJoin j (m.fates t) → IsRightDeed e m d → Takes t j d
takes_right t j e m (Decides x js) h law = λ i.
    (let v = law.decision in
    let is : m.fates t ≡ Finishing v.client js v.votes = ap m.fates (sym i) ∙ v.finishing in
    elim (subst (HasJoin j) is h) [ inl a ↦ a | inr o ↦ absurd o ])
takes_right t j e m d h law = tt

known_of : (f : Fate) (j : JoinNo) → IsIn j (joins_of f) → IsKnown f
known_of Undrawn j i = i
known_of (Running c js) j i = tt
known_of (Finishing c js vs) j i = tt
known_of (Committed x js ds) j i = tt
known_of (Forgotten x js) j i = tt
known_of (Ended c) j i = tt

own_of : (n : ℕ) (P A : TransId → JoinNo → Type 0) (t : TransId) (f : Fate) → IsKnown f → IsBacked n P A t f → t.server ≡ n
own_of n P A t Undrawn known h = absurd known
own_of n P A t (Running c js) known h = h
own_of n P A t (Finishing c js vs) known h = h.0
own_of n P A t (Committed x js ds) known h = h.0
own_of n P A t (Forgotten x js) known h = h.0
own_of n P A t (Ended c) known h = h

known_joins : (f : Fate) (j : JoinNo) → has_join j (joins_of f) ≡ true → IsKnown f
known_joins Undrawn j h = no_join h
known_joins (Running c js) j h = tt
known_joins (Finishing c js vs) j h = tt
known_joins (Committed x js ds) j h = tt
known_joins (Forgotten x js) j h = tt
known_joins (Ended c) j h = no_join h

all_pending : (P : Deed → Type 0) → ((d : Deed) → P d) → (ds : List Deed) → AllByRecursion P ds
all_pending P h [] = tt
all_pending P h (d ∷ ds) = (h d, all_pending P h ds)

module _ (z : Course) (handed : Handed) (numbered : AreNumbered 1 z.seats) where
  abbrev log : Log
  log = log_of z handed

  abbrev servers : ℕ
  servers = length z.seats

  module _ (proper : IsProper log) (answered : (n : ℕ) → IsOneOf servers n → IsAnswered (opening_of log n) (journal_of log n)) (spelled : (n : ℕ) → IsOneOf servers n → AreSpelled (opening_of log n)) (among : (n : ℕ) → IsOneOf servers n → (opening_of log n).servers ≡ servers) where
    answered_at : (n i : ℕ) (e : Entry) → IsOneOf servers n → slice_get (journal_of log n) i ≡ Some e → IsAnsweredSo (state_at log n i) e
    answered_at n i e one at = along-at next IsAnsweredSo (opened (opening_of log n)) (journal_of log n) i e (answered n one).0 at

    linked_at : (n i : ℕ) → i ≤ length (journal_of log n) → IsLinkedUp log proper n (state_at log n i)
    linked_at n i le = (plain-at log proper n i le).0.linked

    -- who opened in some epoch is one of the run
    opening_one : (n : ℕ) → 0 < (opening_of log n).epoch → IsOneOf servers n
    opening_one n some = go (of log n) (of_course z handed n numbered) some
      where
        go : (l : ServerLog) → IsOf z n l → 0 < l.opening.epoch → IsOneOf servers n
        go l (its s) h = record { first = s.first; last = s.last }
        go l nobodys h = absurd (omega (arith, h))

    journal_one : (n i : ℕ) (e : Entry) → slice_get (journal_of log n) i ≡ Some e → IsOneOf servers n
    journal_one n i e at = go (of log n) (of_course z handed n numbered) at
      where
        go : (l : ServerLog) → IsOf z n l → slice_get l.journal i ≡ Some e → IsOneOf servers n
        go l (its s) h = record { first = s.first; last = s.last }
        go l nobodys h = absurd (let wrong : None ≡ Some e = h in cc)

    servers_at : (n i : ℕ) → IsOneOf servers n → i ≤ length (journal_of log n) → (state_at log n i).servers ≡ servers
    servers_at n i one le =
        (stands-from log proper.lawful proper.linked (λ d. Unit {0}) (λ s. s.servers ≡ servers) (λ s d r q. q) (λ s desk down pending q. q) n 0 i (λ k e a b at m d q law from. tt) (λ k e epoch clock q l. tt) (among n one, tt) i (omega arith) (omega arith) le).0

    -- what was drawn stays so

    later_from : (old : ℕ) (s : State) (e : Event) (d : Deed) → IsFrom s e d → IsLater log proper old d
    later_from old s e (Restarts epoch clock) from = absurd from
    later_from old s e d from = tt

    later_open : (old : ℕ) (d : Deed) → is_open d ≡ true → IsLater log proper old d
    later_open old (Restarts epoch clock) h = no_join h
    later_open old d h = tt

    later_drawn : (n i k : ℕ) (j : JoinNo) → i ≤ k → k ≤ length (journal_of log n) → WasDrawn log proper j (state_at log n i).ids → WasDrawn log proper j (state_at log n k).ids
    later_drawn n i k j up le was =
        (stands-from log proper.lawful proper.linked (λ d. IsLater log proper j.epoch d) (λ s. WasDrawn log proper j s.ids) (λ s d r q. drawn-after log proper j d s.ids r q) (λ s desk down pending q. q) n i k
        (λ p e a b at m d q law from. later_from j.epoch (state_at log n p) e.event d from)
        (λ p e epoch clock q l. (let low : j.epoch ≤ (state_at log n p).ids.epoch = drawn-epoch log proper j (state_at log n p).ids q in omega (arith, low, l)))
        (was, all_pending (λ d. is_open d ≡ true → IsLater log proper j.epoch d) (λ d o. later_open j.epoch d o) (state_at log n i).pending) k up (omega arith) le).0

    abbrev WasBegun : TransId → State → Type 0
    WasBegun t s = IsDrawnAs s.holder.server s.ids.epoch s.ids.transactions t.server t.epoch t.counter

    begun_ids : (t : TransId) (d : Deed) (ids : Ids) → IsLater log proper t.epoch d → (t.epoch < ids.epoch) ⊎ ((t.epoch ≡ ids.epoch) × (t.counter ≤ ids.transactions)) → (t.epoch < (ids_after ids d).epoch) ⊎ ((t.epoch ≡ (ids_after ids d).epoch) × (t.counter ≤ (ids_after ids d).transactions))
    begun_ids t (Restarts epoch clock) ids l w = inl l
    begun_ids t (Begins u client who seen) ids l (inl a) = inl a
    begun_ids t (Begins u client who seen) ids l (inr a) = inr (a.0, (let b : t.counter ≤ ids.transactions = a.1 in omega (arith, b)))
    begun_ids t (Joins k u client who) ids l w = w
    begun_ids t (Performs u x) ids l w = w
    begun_ids t d ids l w = w

    later_begun : (n i k : ℕ) (t : TransId) → i ≤ k → k ≤ length (journal_of log n) → is_trans_drawn (state_at log n i) t ≡ true → is_trans_drawn (state_at log n k) t ≡ true
    later_begun n i k t up le was =
        let one : IsDrawnAs (state_at log n i).holder.server (state_at log n i).ids.epoch (state_at log n i).ids.transactions t.server t.epoch t.counter = as_drawn (state_at log n i).holder.server (state_at log n i).ids.epoch (state_at log n i).ids.transactions t.server t.epoch t.counter was in
        let before : (t.epoch < (state_at log n k).ids.epoch) ⊎ ((t.epoch ≡ (state_at log n k).ids.epoch) × (t.counter ≤ (state_at log n k).ids.transactions)) =
        (stands-from log proper.lawful proper.linked (λ d. IsLater log proper t.epoch d) (λ s. (t.epoch < s.ids.epoch) ⊎ ((t.epoch ≡ s.ids.epoch) × (t.counter ≤ s.ids.transactions))) (λ s d r q. begun_ids t d s.ids r q) (λ s desk down pending q. q) n i k
        (λ p e a b at m d q law from. later_from t.epoch (state_at log n p) e.event d from)
        (λ p e epoch clock q l. (let low : t.epoch ≤ (state_at log n p).ids.epoch = elim q [ inl x ↦ omega (arith, x) | inr x ↦ omega (arith, x.0) ] in omega (arith, low, l)))
        (one.before, all_pending (λ d. is_open d ≡ true → IsLater log proper t.epoch d) (λ d o. later_open t.epoch d o) (state_at log n i).pending) k up (omega arith) le).0 in
        let here : (state_at log n k).holder.server ≡ (state_at log n i).holder.server = (home-at log proper n k le).0 ∙ sym (home-at log proper n i (omega (arith, up, le))).0 in
        drawn_so (state_at log n k).holder.server (state_at log n k).ids.epoch (state_at log n k).ids.transactions t.server t.epoch t.counter (record { home = one.home ∙ sym here; some = one.some; counted = one.counted; before = before })

    has_later : (n i k : ℕ) (t : TransId) (j : JoinNo) → i ≤ k → k ≤ length (journal_of log n) → (state_at log n i).pending ≡ [] → HasJoin j ((state_at log n i).fates t) → HasJoin j ((state_at log n k).fates t)
    has_later n i k t j up le none h =
        (stands-from log proper.lawful proper.linked (Takes t j) (λ s. HasJoin j (s.fates t)) (λ s d r q. takes_keep t j d (s.fates t) r q) (λ s desk down pending q. q) n i k
        (λ p e a b at m d q law from. takes_right t j e.event m d q law) (λ p e epoch clock q l. tt)
        (h, subst (λ ds. AllByRecursion (λ d. is_open d ≡ true → Takes t j d) ds) (sym none) tt) k up (omega arith) le).0

    -- ---- who asks was drawn

    record IsAsker (w p : ℕ) (j : JoinNo) : Type 0 where
      home : j.server ≡ w
      spell : IsPositive j
      was : WasDrawn log proper j (state_at log w (suc p)).ids

    goes_on : (w p : ℕ) (e : Entry) (to : ℕ) (m : Message) → slice_get (journal_of log w) p ≡ Some e → IsIn (act.Sent to m) e.acts → stops e ≡ false
    goes_on w p e to m at sent = says_so e to m (lawful-at log proper.lawful proper.linked w p e at).stopped sent

    did_ids : (w p : ℕ) (e : Entry) → slice_get (journal_of log w) p ≡ Some e → stops e ≡ false → (state_at log w (suc p)).ids ≡ (did (state_at log w p) e).ids
    did_ids w p e at goes = ap (λ (s : State). s.ids) (state-suc log proper.lawful proper.linked w p e at) ∙ go (stops e) goes
      where
        go : (b : Bool) → b ≡ false → (cond b (halted (state_at log w p) e) (told (state_at log w p) e)).ids ≡ (did (state_at log w p) e).ids
        go true is = absurd (let wrong : true ≡ false = is in cc)
        go false is = refl

    unregained : (s : State) (e : Entry) (d : Deed) (x : Event) → StartsRight s e x → IsIn d (event_deeds s x e.reply e.acts) → list_any regained_by e.acts ≡ false
    unregained s e d event.Restart h i = absurd i
    unregained s e d (event.Call client epoch number c) h i = h.0
    unregained s e d (event.Arrive from m) h i = h.0
    unregained s e d (event.Timeout t) h i = h.0
    unregained s e d event.Tick h i = h.0
    unregained s e d event.Force h i = h.0

    asker : (w p : ℕ) (e : Entry) (to : ℕ) (t : TransId) (j : JoinNo) (client : ℕ) → IsOneOf servers w → slice_get (journal_of log w) p ≡ Some e → IsIn (act.Sent to (msg.Register t j client)) e.acts → IsAsker w p j
    asker w p e to t j client one at sent =
        let goes : stops e ≡ false = goes_on w p e to (msg.Register t j client) at sent in
        let (failed, answer) = answered_at w p e one at in
        go (register_asks failed (state_at log w p) e to t j client goes answer sent)
      where
        s : State
        s = state_at log w p

        below : p < length (journal_of log w)
        below = in-list (journal_of log w) p e at

        named : AreNamed log proper w p s
        named = names_at log proper w p (spelled w one) p (omega arith) (omega (arith, below))

        home : s.holder.server ≡ w
        home = (home-at log proper w p (omega (arith, below))).0

        drawn_now : j ≡ next_join s → DrawsIn j (event_deeds s e.event e.reply e.acts) → IsAsker w p j
        drawn_now is (u, c, who, i) =
            let law : IsRightEntry s e = lawful-at log proper.lawful proper.linked w p e at in
            let none : list_any regained_by e.acts ≡ false = unregained s e (Joins j u c who) e.event law.restart i in
            let more = ids_drawn s e.event (tried s e) s j u c who (tried-from s e.event e.reply e.acts none)
            (in-left (Joins j u c who) (event_deeds s e.event e.reply e.acts ++ flat_map (act_deeds s e.event) e.acts) (done_deeds s e.event e.reply) (in-left (Joins j u c who) (event_deeds s e.event e.reply e.acts) (flat_map (act_deeds s e.event) e.acts) i)) in
            let ids : (state_at log w (suc p)).ids ≡ (did s e).ids = did_ids w p e at (goes_on w p e to (msg.Register t j client) at sent) in
            let epoch : j.epoch ≡ s.ids.epoch = ap (λ (q : JoinNo). q.epoch) is in
            let counter : j.counter ≡ s.ids.joins + 1 = ap (λ (q : JoinNo). q.counter) is in
            let now : (state_at log w (suc p)).ids.epoch ≡ s.ids.epoch = ap (λ (x : Ids). x.epoch) ids ∙ more.0 in
            let last : s.ids.joins + 1 ≤ (did s e).ids.joins = more.1 in
            let joins : (state_at log w (suc p)).ids.joins ≡ (did s e).ids.joins = ap (λ (x : Ids). x.joins) ids in
            record { home = ap (λ (q : JoinNo). q.server) is ∙ home; spell = (omega (arith, epoch, named.raised), omega (arith, counter)); was = inr (epoch ∙ sym now, omega (arith, counter, last, joins)) }

        drawn_before : (u : TransId) (c : ℕ) (who : List ℕ) → s.phases j ≡ Joining u c who → IsAsker w p j
        drawn_before u c who is =
            let seen : IsSeen (s.phases j) ≡ true = ap IsSeen is in
            let linked : IsLinkedUp log proper w s = linked_at w p (omega (arith, below)) in
            record {
              home = (home-at log proper w p (omega (arith, below))).1 j seen;
              spell = named.spelled j seen;
              was = later_drawn w p (suc p) j (omega arith) (omega (arith, below)) (all-in (λ k. WasDrawn log proper k s.ids) s.joined j linked.drawn (linked.listed j seen));
            }

        go : ((j ≡ next_join s) × DrawsIn j (event_deeds s e.event e.reply e.acts)) ⊎ ((u : TransId) × (c : ℕ) × (who : List ℕ) × (s.phases j ≡ Joining u c who)) → IsAsker w p j
        go (inl x) = drawn_now x.0 x.1
        go (inr x) = drawn_before x.0 x.1 x.2 x.3

    -- who is let in has the join
    said_joined : (c p : ℕ) (e : Entry) (to : ℕ) (t : TransId) (j : JoinNo) → slice_get (journal_of log c) p ≡ Some e → IsIn (act.Sent to (msg.Joined t j)) e.acts → has_join j (joins_of ((state_at log c (suc p)).fates t)) ≡ true
    said_joined c p e to t j at sent =
        subst (λ (s : State). has_join j (joins_of (s.fates t)) ≡ true) (sym (state-suc log proper.lawful proper.linked c p e at))
        (all-in (SaysRight e.event (next (state_at log c p) e)) e.acts (act.Sent to (msg.Joined t j)) (lawful-at log proper.lawful proper.linked c p e at).said sent)

    own_at : (c i : ℕ) (t : TransId) → i ≤ length (journal_of log c) → IsKnown ((state_at log c i).fates t) → t.server ≡ c
    own_at c i t le known = own_of c (Promise log proper c) (Acked log proper c i) t ((state_at log c i).fates t) known ((backed-at log proper c i i (omega arith) le).1 t)

    -- ---- the names in a state

    noted_apart : (n : ℕ) (d : DecisionNote) → IsIn d (opening_of log n).decisions → (j : JoinNo) → IsIn j d.joins → j.server ≡ n → ⊥
    noted_apart n d own j i same =
        let none : has_server n d.joins ≡ false = ((proper.sound n).decisions d own).elsewhere in
        let some : has_server j.server d.joins ≡ true = joined-server j d.joins (has_in j d.joins i) in
        let wrong : true ≡ false = sym some ∙ ap (λ (k : ℕ). has_server k d.joins) same ∙ none in
        cc

    parts_apart : (n i : ℕ) (t : TransId) (f : Fate) (j : JoinNo) → IsRested log proper n (state_at log n i).holder.applied t f → IsIn j (joins_of f) → j.server ≡ n → ⊥
    parts_apart n i t Undrawn j h k same = k
    parts_apart n i t (Ended c) j h k same = k
    parts_apart n i t (Running c js) j h k same = (h j (has_in j js k)).2 same
    parts_apart n i t (Finishing c js vs) j h k same = (h j (has_in j js k)).2 same
    parts_apart n i t (Committed x js ds) j h k same = elim h.1 [
      | inl d ↦ noted_apart n d.0 d.1 j (subst (IsIn j) (sym d.3) k) same
      | inr x ↦ (x.2 j (has_in j js k)).2 same
    ]
    parts_apart n i t (Forgotten x js) j h k same = elim h.1 [
      | inl d ↦ noted_apart n d.0 d.1 j (subst (IsIn j) (sym d.3) k) same
      | inr x ↦ (x.2 j (has_in j js k)).2 same
    ]

    named_at : (n i : ℕ) → IsOneOf servers n → i ≤ length (journal_of log n) → IsNamed servers n (state_at log n i)
    named_at n i one le =
        let named : AreNamed log proper n i (state_at log n i) = names_at log proper n i (spelled n one) i (omega arith) le in
        let linked : IsLinkedUp log proper n (state_at log n i) = linked_at n i le in
        let home = home-at log proper n i le in
        record {
          number = home.0;
          among = servers_at n i one le;
          own = λ t j k. (own_at n i t le (known_of ((state_at log n i).fates t) j k), named.begun t (known_of ((state_at log n i).fates t) j k));
          others = λ t j k. (joined_one j (named.joins t j k), parts_apart n i t ((state_at log n i).fates t) j (linked.fates t) k);
          ready = λ j t client ts is.
              (let seen : IsSeen ((state_at log n i).phases j) ≡ true = ap IsSeen is in
              (home.1 j seen, linked.listed j seen, let_in_one j t (subst (HoldsLetIn log proper n i j) is (named.let_in j)), subst (λ (p : Phase). IsAway log proper n p) is (linked.away j)));
        }
      where
        -- the server of a join that asked is one of the run
        joined_one : (j : JoinNo) → {t : TransId} → IsRegistered log proper n i t j → IsOneOf servers j.server
        joined_one j (inl (d, own, its_trans, k)) =
            let low : j.epoch < (opening_of log j.server).epoch = ((proper.sound n).decisions d own).known j (has_in j d.joins k) in
            opening_one j.server (omega (arith, low))
        joined_one j {t} (inr (q, from, client, e, high, at, is)) =
            let w = proper.linked.sent n q from e (msg.Register t j client) at is in
            let there : IsOneOf servers from = journal_one from w.place w.entry w.stands in
            subst (IsOneOf servers) (sym (asker from w.place w.entry n t j client there w.stands w.sent).home) there

        let_in_one : (j : JoinNo) (t : TransId) → IsLetIn log proper n i t j → IsOneOf servers t.server
        let_in_one j t (inl (r, own, its_trans, its_join)) =
            let low : r.trans.epoch < (opening_of log r.trans.server).epoch = ((proper.sound n).ready r own).drawn in
            subst (λ (u : TransId). IsOneOf servers u.server) its_trans (opening_one r.trans.server (omega (arith, low)))
        let_in_one j t (inr (q, from, e, high, at, is)) =
            let w = proper.linked.sent n q from e (msg.Joined t j) at is in
            let has : has_join j (joins_of ((state_at log from (suc w.place)).fates t)) ≡ true = said_joined from w.place w.entry n t j w.stands w.sent in
            let le : suc w.place ≤ length (journal_of log from) = (let under : w.place < length (journal_of log from) = in-list (journal_of log from) w.place w.entry w.stands in omega (arith, under)) in
            subst (IsOneOf servers) (sym (own_at from (suc w.place) t le (known_joins ((state_at log from (suc w.place)).fates t) j has))) (journal_one from w.place w.entry w.stands)

    -- ---- a round

    module _ (r after : Course) (before : HasMoved r z) (later : HasMoved after z) (holds : Holds r) where
      abbrev a : ℕ → ℕ
      a = end_of z handed numbered proper answered r before

      abbrev b : ℕ → ℕ
      b = end_of z handed numbered proper answered after later

      a_within : (n : ℕ) → IsOneOf servers n → a n ≤ length (journal_of log n)
      a_within n one = end_within z handed numbered proper answered r before n one

      b_within : (n : ℕ) → IsOneOf servers n → b n ≤ length (journal_of log n)
      b_within n one = end_within z handed numbered proper answered after later n one

      -- what came before the round was sent before it
      record IsSender (n from : ℕ) (m : Message) : Type 0 where
        one_of : IsOneOf servers from
        place : ℕ
        entry : Entry
        under : place < a from
        stands : slice_get (journal_of log from) place ≡ Some entry
        sent : IsIn (act.Sent n m) entry.acts

      sender : (n q from : ℕ) (e : Entry) (m : Message) → IsOneOf servers n → q < a n → slice_get (journal_of log n) q ≡ Some e → e.event ≡ event.Arrive from m → IsSender n from m
      sender n q from e m one high at is =
          let here : slice_get (seat_at r n).journal q ≡ Some e = in_journal z handed numbered proper answered r before n one q e high at in
          let (most, low, s, sent) = holds.sent n one.first q e here from m is in
          let from_one : IsOneOf servers from = record { first = s.first; last = (let last : from ≤ length r.seats = s.last in let many : length z.seats ≡ length r.seats = before.seats in omega (arith, last, many)) } in
          record {
            one_of = from_one;
            place = sent.place;
            entry = sent.entry;
            under = get_below (seat_at r from).journal sent.place sent.entry sent.stands;
            stands = stands_in_log z handed numbered proper answered r before from from_one sent.place sent.entry sent.stands;
            sent = sent.sent;
          }

      drawn_there : (n : ℕ) (t : TransId) (j : JoinNo) → IsOneOf servers n → IsRegistered log proper n (a n) t j → (i : ℕ) → IsOneOf servers j.server → a j.server ≤ i → i ≤ b j.server → is_join_drawn (state_at log j.server i) j ≡ true
      drawn_there n t j one from i there low high =
          let le : i ≤ length (journal_of log j.server) = (let end : b j.server ≤ length (journal_of log j.server) = b_within j.server there in omega (arith, high, end)) in
          let known = of from in
          drawn_so (state_at log j.server i).holder.server (state_at log j.server i).ids.epoch (state_at log j.server i).ids.joins j.server j.epoch j.counter
          (record { home = sym (home-at log proper j.server i le).0; some = known.0.0; counted = known.0.1; before = known.1 })
        where
          of : IsRegistered log proper n (a n) t j → IsPositive j × WasDrawn log proper j (state_at log j.server i).ids
          of (inl (d, own, its_trans, k)) =
              let old : j.epoch < (opening_of log j.server).epoch = ((proper.sound n).decisions d own).known j (has_in j d.joins k) in
              let end : b j.server ≤ length (journal_of log j.server) = b_within j.server there in
              let now : (opening_of log j.server).epoch ≤ (state_at log j.server i).ids.epoch = (linked_at j.server i (omega (arith, high, end))).now in
              ((spelled n one).decisions d own j k, inl (omega (arith, old, now)))
          of (inr (q, from, client, e, under, at, is)) =
              let w : IsSender n from (msg.Register t j client) = sender n q from e (msg.Register t j client) one under at is in
              let x : IsAsker from w.place j = asker from w.place w.entry n t j client w.one_of w.stands w.sent in
              let end : b j.server ≤ length (journal_of log j.server) = b_within j.server there in
              let first : w.place < a j.server = subst (λ (k : ℕ). w.place < a k) (sym x.home) w.under in
              let was : WasDrawn log proper j (state_at log j.server (suc w.place)).ids = subst (λ (k : ℕ). WasDrawn log proper j (state_at log k (suc w.place)).ids) (sym x.home) x.was in
              (x.spell, later_drawn j.server (suc w.place) i j (omega (arith, first, low)) (omega (arith, high, end)) was)

      -- what a decision has to do with a join that is ready
      it_has : (c i : ℕ) (t : TransId) (j : JoinNo) → i ≤ length (journal_of log c) → HasJoin j ((state_at log c i).fates t) → HasIt t j ((state_at log c i).fates t)
      it_has c i t j le = go ((state_at log c i).fates t) ((linked_at c i le).fates t)
        where
          go : (f : Fate) → IsRested log proper c (state_at log c i).holder.applied t f → HasJoin j f → HasIt t j f
          go (Committed x js ds) rested (inl has) = (has, rested.0)
          go (Committed x js ds) rested (inr over) = absurd over
          go (Forgotten x js) rested (inl has) = (has, rested.0)
          go (Forgotten x js) rested (inr over) = absurd over
          go Undrawn rested h = tt
          go (Running c js) rested h = tt
          go (Finishing c js vs) rested h = tt
          go (Ended c) rested h = tt

      -- of one that a note has made ready
      noted_has : (n i : ℕ) (rd : ReadyNote) → IsIn rd (opening_of log n).ready → i ≤ length (journal_of log rd.trans.server) → HasIt rd.trans rd.join ((state_at log rd.trans.server i).fates rd.trans)
      noted_has n i rd own le = go ((state_at log rd.trans.server i).fates rd.trans) ((linked_at rd.trans.server i le).fates rd.trans)
        where
          c : ℕ
          c = rd.trans.server

          old : rd.trans.epoch < (opening_of log rd.trans.server).epoch
          old = ((proper.sound n).ready rd own).drawn

          noted : (x : Stamp) (js : List JoinNo) → ((d : DecisionNote) × IsIn d (opening_of log rd.trans.server).decisions × (d.stamp ≡ x) × (d.joins ≡ js)) → x.trans ≡ rd.trans → has_join rd.join js ≡ true
          noted x js (d, there, stamp, joins) is = ap (has_join rd.join) (sym joins) ∙ (((proper.sound n).ready rd own).decided rd.trans.server d there (ap (λ (y : Stamp). y.trans) stamp ∙ is)).0

          go : (f : Fate) → IsRested log proper rd.trans.server (state_at log rd.trans.server i).holder.applied rd.trans f → HasIt rd.trans rd.join f
          go (Committed x js ds) rested = elim rested.1 [ inl d ↦ (noted x js d rested.0, rested.0) | inr here ↦ absurd (let young : (opening_of log rd.trans.server).epoch ≤ rd.trans.epoch = here.1 in omega (arith, young, old)) ]
          go (Forgotten x js) rested = elim rested.1 [ inl d ↦ (noted x js d rested.0, rested.0) | inr here ↦ absurd (let young : (opening_of log rd.trans.server).epoch ≤ rd.trans.epoch = here.1 in omega (arith, young, old)) ]
          go Undrawn rested = tt
          go (Running e js) rested = tt
          go (Finishing e js vs) rested = tt
          go (Ended e) rested = tt

      let_in_there : (n : ℕ) (t : TransId) (j : JoinNo) → IsOneOf servers n → IsLetIn log proper n (a n) t j → (i : ℕ) → IsOneOf servers t.server → a t.server ≤ i → i ≤ b t.server → (is_trans_drawn (state_at log t.server i) t ≡ true) × HasIt t j ((state_at log t.server i).fates t)
      let_in_there n t j one (inl (rd, own, its_trans, its_join)) i there low high =
          subst (λ (u : TransId). (is_trans_drawn (state_at log u.server i) u ≡ true) × HasIt u j ((state_at log u.server i).fates u)) its_trans
          (subst (λ (k : JoinNo). (is_trans_drawn (state_at log rd.trans.server i) rd.trans ≡ true) × HasIt rd.trans k ((state_at log rd.trans.server i).fates rd.trans)) its_join (drawn, noted_has n i rd own le))
        where
          le : i ≤ length (journal_of log rd.trans.server)
          le = subst (λ (u : TransId). i ≤ length (journal_of log u.server)) (sym its_trans) (let end : b t.server ≤ length (journal_of log t.server) = b_within t.server there in omega (arith, high, end))

          drawn : is_trans_drawn (state_at log rd.trans.server i) rd.trans ≡ true
          drawn =
              let old : rd.trans.epoch < (opening_of log rd.trans.server).epoch = ((proper.sound n).ready rd own).drawn in
              let now : (opening_of log rd.trans.server).epoch ≤ (state_at log rd.trans.server i).ids.epoch = (linked_at rd.trans.server i le).now in
              let spell = (spelled n one).ready rd own in
              drawn_so (state_at log rd.trans.server i).holder.server (state_at log rd.trans.server i).ids.epoch (state_at log rd.trans.server i).ids.transactions rd.trans.server rd.trans.epoch rd.trans.counter
              (record { home = sym (home-at log proper rd.trans.server i le).0; some = spell.1; counted = spell.2; before = inl (omega (arith, old, now)) })
      let_in_there n t j one (inr (q, from, e, under, at, is)) i there low high =
          let w : IsSender n from (msg.Joined t j) = sender n q from e (msg.Joined t j) one under at is in
          let goes : stops w.entry ≡ false = goes_on from w.place w.entry n (msg.Joined t j) w.stands w.sent in
          let (failed, answer) = answered_at from w.place w.entry w.one_of w.stands in
          let drawn : is_trans_drawn (state_at log from w.place) t ≡ true = joined_drawn failed (state_at log from w.place) w.entry n t j goes answer w.sent in
          let has : has_join j (joins_of ((state_at log from (suc w.place)).fates t)) ≡ true = said_joined from w.place w.entry n t j w.stands w.sent in
          let le : suc w.place ≤ length (journal_of log from) = (let below : w.place < length (journal_of log from) = in-list (journal_of log from) w.place w.entry w.stands in omega (arith, below)) in
          let home : t.server ≡ from = own_at from (suc w.place) t le (known_joins ((state_at log from (suc w.place)).fates t) j has) in
          let none : (state_at log from (suc w.place)).pending ≡ [] = ap (λ (s : State). s.pending) (state-suc log proper.lawful proper.linked from w.place w.entry w.stands) ∙ told-pending (state_at log from w.place) w.entry (λ k. (let wrong : true ≡ false = sym k ∙ goes in cc)) in
          let end : b t.server ≤ length (journal_of log t.server) = b_within t.server there in
          let last : i ≤ length (journal_of log from) = subst (λ (k : ℕ). i ≤ length (journal_of log k)) home (omega (arith, high, end)) in
          let up : w.place < i = (let first : w.place < a from = w.under in let more : a from ≤ i = subst (λ (k : ℕ). a k ≤ i) home low in omega (arith, first, more)) in
          subst (λ (k : ℕ). (is_trans_drawn (state_at log k i) t ≡ true) × HasIt t j ((state_at log k i).fates t)) (sym home) (
            later_begun from w.place i t (omega (arith, up)) last drawn,
            it_has from i t j last (has_later from (suc w.place) i t j (omega (arith, up)) last none (inl has)),
          )

      pub known_in : AreKnownIn log proper servers answered a b
      known_in = record {
        named = λ n i one low high. named_at n i one (let end : b n ≤ length (journal_of log n) = b_within n one in omega (arith, high, end));
        drawn = λ n t j one k i low high.
            (let named : AreNamed log proper n (a n) (state_at log n (a n)) = names_at log proper n (a n) (spelled n one) (a n) (omega arith) (a_within n one) in
            drawn_there n t j one (named.joins t j k) i ((named_at n (a n) one (a_within n one)).others t j k).0 low high);
        let_in = λ n j t client ts one is i low high.
            (let named : AreNamed log proper n (a n) (state_at log n (a n)) = names_at log proper n (a n) (spelled n one) (a n) (omega arith) (a_within n one) in
            let_in_there n t j one (subst (HoldsLetIn log proper n (a n) j) is (named.let_in j)) i ((named_at n (a n) one (a_within n one)).ready j t client ts is).2 low high);
      }
