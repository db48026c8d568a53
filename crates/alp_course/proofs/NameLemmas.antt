-- What is known of the names of transactions and joins along a journal.
use Rattle.std.specs.Prelude.{Bool, true, false, cond, ◌||◌, flat_map, filter, Option, None, Some, slice_get}
use Rattle.std.specs.List.{AllByRecursion}
use Rattle.std.proofs.Common.{◌≡◌, ◌⊎◌, inl, inr, ℕ, zero, suc, ◌+◌, ◌<◌, ◌≤◌, List, [], ◌∷◌, ◌++◌, length, refl, sym, ◌∙◌, ap, subst, arith}
use Rattle.std.proofs.lemmas.List.{append-nil}
use Rattle.alp_base.specs.declared.ids.JoinNo.{JoinNo}
use Rattle.alp_base.specs.declared.ids.Stamp.{Stamp}
use Rattle.alp_base.specs.declared.ids.TransId.{TransId}
use Rattle.alp_files.specs.declared.refusal.Cause.{Cause}
use Rattle.alp_files.specs.declared.reply.Reply.{Reply}
use Rattle.alp_journal.specs.Along.{Along, state_after}
use Rattle.alp_journal.specs.Coordinator.{Fate, Undrawn, Running, Finishing, Committed, Forgotten, Ended, begun, registered, finishing, heard, decided, ended, acknowledged, has_all, forgotten, restarted, fate_after, joins_of}
use Rattle.alp_journal.specs.Deeds.{Deed, Begins, Joins, Enters, Quits, Aborts, Grants, Performs, Releases, Readies, Applies, Registers, Finishes, Hears, Decides, Ends, Acknowledges, Forgets, Restarts}
use Rattle.alp_journal.specs.Desk.{Desk}
use Rattle.alp_journal.specs.Ids.{same_trans, same_join, has_server}
use Rattle.alp_journal.specs.Laws.{Regains}
use Rattle.alp_journal.specs.Moves.{next, stops, told, halted, tried, did, resolved, is_effective}
use Rattle.alp_journal.specs.Opening.{ReadyNote, DecisionNote}
use Rattle.alp_journal.specs.Participant.{Phase, Unseen, Joining, Active, Ready, Applied, Over, drawn, entered, readied, applied, quit, aborted, phase_after}
use Rattle.alp_journal.specs.Participant as phase
use Rattle.alp_journal.specs.State.{State, state_deed, opened}
use Rattle.alp_journal.specs.declared.act.Act.{Act}
use Rattle.alp_journal.specs.declared.act.Act.TheVariants as act
use Rattle.alp_journal.specs.declared.entry.Entry.{Entry}
use Rattle.alp_journal.specs.declared.event.Event.{Event}
use Rattle.alp_journal.specs.declared.event.Event.TheVariants as event
use Rattle.alp_journal.specs.declared.message.Message.TheVariants as msg
use Rattle.alp_journal.proofs.IdLemmas.{same_trans-true, same_join-true}
use Rattle.alp_journal.proofs.Origins.{IsFrom, tried-from}
use Rattle.alp_history.specs.Log.{Log, journal_of, opening_of, state_at, IsIn}
use Rattle.alp_history.specs.Theorems.{IsProper}
use Rattle.alp_history.proofs.Entries.{is_open, effective-open}
use Rattle.alp_history.proofs.Linked.{in-left, in-right}
use Rattle.alp_history.proofs.Logs.{lawful-at}
use Rattle.alp_history.proofs.Places.{keeps-from, state-append}
use Rattle.alp_history.proofs.Rights.{IsRightDeed, IsRightEntry}

-- ---- what each deed keeps where it may come about, each entry keeps

module _ (log : Log) (proper : IsProper log) (n from to : ℕ) (Q : State → Type 0) (Pend : Deed → Type 0)
    (still : (s : State) (desk : Desk) (down : Bool) (pending : List Deed) → Q s → Q (record s { desk = desk; is_down = down; pending = pending }))
    (opens : (s : State) (d : Deed) → is_open d ≡ true → Pend d → Q s → Q (state_deed s d))
    (again : (s : State) (epoch clock : ℕ) → Q s → 0 < epoch → Q (state_deed s (Restarts epoch clock)))
    (right : (i : ℕ) (e : Entry) → from ≤ i → i < to → slice_get (journal_of log n) i ≡ Some e → (m : State) (d : Deed) → Q m → IsRightDeed e.event m d → IsFrom (state_at log n i) e.event d → Q (state_deed m d) × (is_open d ≡ true → Pend d)) where
  abbrev MayBe : Deed → Type 0
  MayBe d = is_open d ≡ true → Pend d

  abbrev pub Keeps : State → Type 0
  Keeps s = Q s × AllByRecursion MayBe s.pending

  module _ (i : ℕ) (e : Entry) (low : from ≤ i) (high : i < to) (at : slice_get (journal_of log n) i ≡ Some e) where
    along : (ds : List Deed) (m : State) → Along state_deed (IsRightDeed e.event) m ds → AllByRecursion (IsFrom (state_at log n i) e.event) ds → Q m → Q (state_after state_deed m ds) × AllByRecursion MayBe ds
    along [] m law of q = (q, tt)
    along (d ∷ ds) m law of q =
        let one = right i e low high at m d q law.0 of.0 in
        let rest = along ds (state_deed m d) law.1 of.1 one.0 in
        (rest.0, (one.1, rest.1))

  pending_keep : (ds : List Deed) (s : State) → ((d : Deed) → IsIn d ds → is_open d ≡ true) → AllByRecursion MayBe ds → Q s → Q (state_after state_deed s ds)
  pending_keep [] s all may q = q
  pending_keep (d ∷ ds) s all may q = pending_keep ds (state_deed s d) (λ x i. all x (inr i)) may.1 (opens s d (all d (inl refl)) (may.0 (all d (inl refl))) q)

  effective : (p : Deed → Bool) (ds : List Deed) → AllByRecursion MayBe ds → AllByRecursion MayBe (filter p ds)
  effective p [] may = tt
  effective p (d ∷ ds) may = go (p d) (effective p ds may.1)
    where
      go : (b : Bool) → AllByRecursion MayBe (filter p ds) → AllByRecursion MayBe (cond b (d ∷ filter p ds) (filter p ds))
      go true rest = (may.0, rest)
      go false rest = rest

  filtered : (ready : List JoinNo) (clock : ℕ) (stamps : List Stamp) (ds : List Deed) (d : Deed) → IsIn d (filter (is_effective ready clock stamps) ds) → is_open d ≡ true
  filtered ready clock stamps [] d i = absurd i
  filtered ready clock stamps (x ∷ ds) d i = go (is_effective ready clock stamps x) refl i (λ more. filtered ready clock stamps ds d more)
    where
      go : (b : Bool) → is_effective ready clock stamps x ≡ b → IsIn d (cond b (x ∷ filter (is_effective ready clock stamps) ds) (filter (is_effective ready clock stamps) ds)) → (IsIn d (filter (is_effective ready clock stamps) ds) → is_open d ≡ true)
          → is_open d ≡ true
      go true is (inl same) rest = subst (λ (y : Deed). is_open y ≡ true) (sym same) (effective-open ready clock stamps x is)
      go true is (inr more) rest = rest more
      go false is more rest = rest more

  restart_keeps : (s : State) (r : Option Reply) (acts : List Act) → Regains s acts → Keeps s → Keeps (next s (record { event = event.Restart; reply = r; acts = acts }))
  restart_keeps s r (act.Regained epoch clock ready stamps ∷ []) law h =
      let e : Entry = record { event = event.Restart; reply = r; acts = act.Regained epoch clock ready stamps ∷ [] } in
      let back : Q (state_after state_deed s (resolved s ready clock stamps)) =
      pending_keep (resolved s ready clock stamps) s (filtered ready clock stamps s.pending) (effective (is_effective ready clock stamps) s.pending h.1) h.0 in
      let raised : epoch ≡ s.ids.epoch + 1 = law.0 in
      let last : Q (state_after state_deed s (resolved s ready clock stamps ++ Restarts epoch clock ∷ [])) =
      subst Q (sym (state-append state_deed s (resolved s ready clock stamps) (Restarts epoch clock ∷ []))) (again (state_after state_deed s (resolved s ready clock stamps)) epoch clock back (omega (arith, raised))) in
      let all : Q (did s e) =
      subst (λ (ds : List Deed). Q (state_after state_deed s ds)) (sym (append-nil ((resolved s ready clock stamps ++ Restarts epoch clock ∷ []) ++ []) ∙ append-nil (resolved s ready clock stamps ++ Restarts epoch clock ∷ []))) last in
      (still (did s e) (told s e).desk false [] all, tt)
  restart_keeps s r [] law h = absurd law
  restart_keeps s r (act.Regained epoch clock ready stamps ∷ a ∷ acts) law h = absurd law
  restart_keeps s r (act.Sent there m ∷ acts) law h = absurd law
  restart_keeps s r (act.Granted t ∷ acts) law h = absurd law
  restart_keeps s r (act.Drawn t ∷ acts) law h = absurd law
  restart_keeps s r (act.Registered t j ∷ acts) law h = absurd law
  restart_keeps s r (act.Readied t j ts ∷ acts) law h = absurd law
  restart_keeps s r (act.Decided x js ∷ acts) law h = absurd law
  restart_keeps s r (act.Applied j x ∷ acts) law h = absurd law
  restart_keeps s r (act.Released t ∷ acts) law h = absurd law
  restart_keeps s r (act.Forgot t ∷ acts) law h = absurd law
  restart_keeps s r (act.Stopped ∷ acts) law h = absurd law
  restart_keeps s r (act.Failed ∷ acts) law h = absurd law

  plain_keeps : (s : State) (e : Entry) → Q s → Q (did s e) × AllByRecursion MayBe (tried s e) → Keeps (next s e)
  plain_keeps s e q h = go (stops e)
    where
      go : (b : Bool) → Keeps (cond b (halted s e) (told s e))
      go true = (still s s.desk true (tried s e) q, h.1)
      go false = (still (did s e) (told s e).desk false [] h.0, tt)

  entry_names : (i : ℕ) (e : Entry) → from ≤ i → i < to → slice_get (journal_of log n) i ≡ Some e → Keeps (state_at log n i) → Keeps (next (state_at log n i) e)
  entry_names i e low high at h = go e.event e.reply e.acts at (lawful-at log proper.lawful proper.linked n i e at)
    where
      go : (x : Event) (r : Option Reply) (acts : List Act) → slice_get (journal_of log n) i ≡ Some (record { event = x; reply = r; acts = acts }) → IsRightEntry (state_at log n i) (record { event = x; reply = r; acts = acts })
          → Keeps (next (state_at log n i) (record { event = x; reply = r; acts = acts }))
      go event.Restart r acts at law = restart_keeps (state_at log n i) r acts law.restart.0 h
      go (event.Call client epoch number c) r acts at law =
          let e : Entry = record { event = event.Call client epoch number c; reply = r; acts = acts } in
          plain_keeps (state_at log n i) e h.0 (along i e low high at (tried (state_at log n i) e) (state_at log n i) law.deeds (tried-from (state_at log n i) e.event r acts law.restart.0) h.0)
      go (event.Arrive f m) r acts at law =
          let e : Entry = record { event = event.Arrive f m; reply = r; acts = acts } in
          plain_keeps (state_at log n i) e h.0 (along i e low high at (tried (state_at log n i) e) (state_at log n i) law.deeds (tried-from (state_at log n i) e.event r acts law.restart.0) h.0)
      go (event.Timeout t) r acts at law =
          let e : Entry = record { event = event.Timeout t; reply = r; acts = acts } in
          plain_keeps (state_at log n i) e h.0 (along i e low high at (tried (state_at log n i) e) (state_at log n i) law.deeds (tried-from (state_at log n i) e.event r acts law.restart.0) h.0)
      go event.Tick r acts at law =
          let e : Entry = record { event = event.Tick; reply = r; acts = acts } in
          plain_keeps (state_at log n i) e h.0 (along i e low high at (tried (state_at log n i) e) (state_at log n i) law.deeds (tried-from (state_at log n i) e.event r acts law.restart.0) h.0)
      go event.Force r acts at law =
          let e : Entry = record { event = event.Force; reply = r; acts = acts } in
          plain_keeps (state_at log n i) e h.0 (along i e low high at (tried (state_at log n i) e) (state_at log n i) law.deeds (tried-from (state_at log n i) e.event r acts law.restart.0) h.0)

  pub keeps_names : Keeps (state_at log n from) → (i : ℕ) → from ≤ i → i ≤ to → i ≤ length (journal_of log n) → Keeps (state_at log n i)
  keeps_names h = keeps-from next Keeps (opened (opening_of log n)) (journal_of log n) from to (λ i e low high at k. entry_names i e low high at k) h

-- ---- what a deed has to do with it

abbrev pub IsKnown : Fate → Type 0
IsKnown Undrawn = ⊥
IsKnown f = Unit {0}

abbrev pub IsBegun : TransId → Deed → Type 0
IsBegun t d = (client : ℕ) × (who : List ℕ) × (seen : ℕ) × (d ≡ Begins t client who seen)

never_known : {P : Type 0} (b : Bool) → IsKnown (cond b Undrawn Undrawn) → P
never_known true k = absurd k
never_known false k = absurd k

pub known_before : (d : Deed) (t : TransId) (f : Fate) → IsKnown (fate_after d t f) → IsKnown f ⊎ IsBegun t d
known_before d t (Running c js) k = inl tt
known_before d t (Finishing c js vs) k = inl tt
known_before d t (Committed x js ds) k = inl tt
known_before d t (Forgotten x js) k = inl tt
known_before d t (Ended c) k = inl tt
known_before (Begins u client who seen) t Undrawn k = go (same_trans u t) refl k
  where
    go : (b : Bool) → same_trans u t ≡ b → IsKnown (cond b (Running client []) Undrawn) → IsKnown Undrawn ⊎ IsBegun t (Begins u client who seen)
    go true is h = inr (client, who, seen, ap (λ (v : TransId). Begins v client who seen) (same_trans-true u t is))
    go false is h = absurd h
known_before (Registers u j) t Undrawn k = never_known (same_trans u t) k
known_before (Finishes u) t Undrawn k = never_known (same_trans u t) k
known_before (Hears u j ts) t Undrawn k = never_known (same_trans u t) k
known_before (Decides x js) t Undrawn k = never_known (same_trans x.trans t) k
known_before (Ends u client c) t Undrawn k = never_known (same_trans u t) k
known_before (Acknowledges u j) t Undrawn k = never_known (same_trans u t) k
known_before (Forgets u) t Undrawn k = never_known (same_trans u t) k
known_before d t Undrawn k = absurd k

-- whence a join of a transaction comes
pub data HasCome (d : Deed) (t : TransId) (f : Fate) (j : JoinNo) : Type 0 where
  before : IsIn j (joins_of f) → HasCome d t f j
  registers : d ≡ Registers t j → HasCome d t f j
  decides : (x : Stamp) (js : List JoinNo) → d ≡ Decides x js → x.trans ≡ t → IsIn j js → HasCome d t f j

module _ (t : TransId) (f : Fate) (j : JoinNo) where
  either_in : {R : Type 0} (b : Bool) (g : Fate) → (b ≡ true → IsIn j (joins_of g) → R) → (IsIn j (joins_of f) → R) → IsIn j (joins_of (cond b g f)) → R
  either_in true g h k i = h refl i
  either_in false g h k i = k i

split_last : {A : Type 0} (x y : A) (xs : List A) → IsIn x (xs ++ y ∷ []) → IsIn x xs ⊎ (x ≡ y)
split_last x y [] (inl is) = inr is
split_last x y [] (inr none) = absurd none
split_last x y (z ∷ xs) (inl is) = inl (inl is)
split_last x y (z ∷ xs) (inr i) = elim (split_last x y xs i) [ inl more ↦ inl (inr more) | inr is ↦ inr is ]

begun_in : (client : ℕ) (f : Fate) (j : JoinNo) → IsIn j (joins_of (begun client f)) → IsIn j (joins_of f)
begun_in client Undrawn j i = i
begun_in client (Running c js) j i = i
begun_in client (Finishing c js vs) j i = i
begun_in client (Committed x js ds) j i = i
begun_in client (Forgotten x js) j i = i
begun_in client (Ended c) j i = i

registered_in : (k : JoinNo) (f : Fate) (j : JoinNo) → IsIn j (joins_of (registered k f)) → IsIn j (joins_of f) ⊎ (j ≡ k)
registered_in k (Running c js) j i = go (has_server k.server js) i
  where
    go : (b : Bool) → IsIn j (joins_of (cond b (Running c js) (Running c (js ++ k ∷ [])))) → IsIn j js ⊎ (j ≡ k)
    go true h = inl h
    go false h = split_last j k js h
registered_in k Undrawn j i = inl i
registered_in k (Finishing c js vs) j i = inl i
registered_in k (Committed x js ds) j i = inl i
registered_in k (Forgotten x js) j i = inl i
registered_in k (Ended c) j i = inl i

finishing_in : (f : Fate) (j : JoinNo) → IsIn j (joins_of (finishing f)) → IsIn j (joins_of f)
finishing_in (Running c js) j i = i
finishing_in Undrawn j i = i
finishing_in (Finishing c js vs) j i = i
finishing_in (Committed x js ds) j i = i
finishing_in (Forgotten x js) j i = i
finishing_in (Ended c) j i = i

heard_in : (k : JoinNo) (ts : ℕ) (f : Fate) (j : JoinNo) → IsIn j (joins_of (heard k ts f)) → IsIn j (joins_of f)
heard_in k ts (Finishing c js vs) j i = i
heard_in k ts Undrawn j i = i
heard_in k ts (Running c js) j i = i
heard_in k ts (Committed x js ds) j i = i
heard_in k ts (Forgotten x js) j i = i
heard_in k ts (Ended c) j i = i

decided_in : (x : Stamp) (ks : List JoinNo) (f : Fate) (j : JoinNo) → IsIn j (joins_of (decided x ks f)) → IsIn j (joins_of f) ⊎ IsIn j ks
decided_in x ks (Finishing c js vs) j i = inr i
decided_in x ks Undrawn j i = inl i
decided_in x ks (Running c js) j i = inl i
decided_in x ks (Committed y js ds) j i = inl i
decided_in x ks (Forgotten y js) j i = inl i
decided_in x ks (Ended c) j i = inl i

ended_in : (c : Cause) (f : Fate) (j : JoinNo) → IsIn j (joins_of (ended c f)) → IsIn j (joins_of f)
ended_in c (Running d js) j i = absurd i
ended_in c (Finishing d js vs) j i = absurd i
ended_in c Undrawn j i = i
ended_in c (Committed x js ds) j i = i
ended_in c (Forgotten x js) j i = i
ended_in c (Ended d) j i = i

acknowledged_in : (k : JoinNo) (f : Fate) (j : JoinNo) → IsIn j (joins_of (acknowledged k f)) → IsIn j (joins_of f)
acknowledged_in k (Committed x js ds) j i = i
acknowledged_in k Undrawn j i = i
acknowledged_in k (Running c js) j i = i
acknowledged_in k (Finishing c js vs) j i = i
acknowledged_in k (Forgotten x js) j i = i
acknowledged_in k (Ended c) j i = i

forgotten_in : (f : Fate) (j : JoinNo) → IsIn j (joins_of (forgotten f)) → IsIn j (joins_of f)
forgotten_in (Committed x js ds) j i = go (has_all ds js) i
  where
    go : (b : Bool) → IsIn j (joins_of (cond b (Forgotten x js) (Committed x js ds))) → IsIn j js
    go true h = h
    go false h = h
forgotten_in Undrawn j i = i
forgotten_in (Running c js) j i = i
forgotten_in (Finishing c js vs) j i = i
forgotten_in (Forgotten x js) j i = i
forgotten_in (Ended c) j i = i

restarted_in : (epoch : ℕ) (f : Fate) (j : JoinNo) → IsIn j (joins_of (restarted epoch f)) → IsIn j (joins_of f)
restarted_in epoch (Running c js) j i = absurd i
restarted_in epoch (Finishing c js vs) j i = absurd i
restarted_in epoch (Committed x js ds) j i = i
restarted_in epoch Undrawn j i = i
restarted_in epoch (Forgotten x js) j i = i
restarted_in epoch (Ended c) j i = i

pub joins_before : (d : Deed) (t : TransId) (f : Fate) (j : JoinNo) → IsIn j (joins_of (fate_after d t f)) → HasCome d t f j
joins_before (Begins u client who seen) t f j i = either_in t f j (same_trans u t) (begun client f) (λ same h. before (begun_in client f j h)) before i
joins_before (Registers u k) t f j i =
    either_in t f j (same_trans u t) (registered k f) (λ same h. elim (registered_in k f j h) [ inl old ↦ before old | inr is ↦ registers (λ p. Registers (same_trans-true u t same p) (sym is p)) ]) before i
joins_before (Finishes u) t f j i = either_in t f j (same_trans u t) (finishing f) (λ same h. before (finishing_in f j h)) before i
joins_before (Hears u k ts) t f j i = either_in t f j (same_trans u t) (heard k ts f) (λ same h. before (heard_in k ts f j h)) before i
joins_before (Decides x ks) t f j i =
    either_in t f j (same_trans x.trans t) (decided x ks f) (λ same h. elim (decided_in x ks f j h) [ inl old ↦ before old | inr new ↦ decides x ks refl (same_trans-true x.trans t same) new ]) before i
joins_before (Ends u client c) t f j i = either_in t f j (same_trans u t) (ended c f) (λ same h. before (ended_in c f j h)) before i
joins_before (Acknowledges u k) t f j i = either_in t f j (same_trans u t) (acknowledged k f) (λ same h. before (acknowledged_in k f j h)) before i
joins_before (Forgets u) t f j i = either_in t f j (same_trans u t) (forgotten f) (λ same h. before (forgotten_in f j h)) before i
joins_before (Restarts epoch clock) t f j i = before (restarted_in epoch f j i)
joins_before (Joins k u client who) t f j i = before i
joins_before (Enters k u client who) t f j i = before i
joins_before (Quits k u client c) t f j i = before i
joins_before (Aborts k u client c) t f j i = before i
joins_before (Grants u c) t f j i = before i
joins_before (Performs u x) t f j i = before i
joins_before (Releases u) t f j i = before i
joins_before (Readies k u ts) t f j i = before i
joins_before (Applies k x) t f j i = before i
