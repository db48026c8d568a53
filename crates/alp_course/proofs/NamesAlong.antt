-- Along a journal: what is known of a transaction is known of one that began, its joins asked to be registered, a join that holds was let in, and
-- all ids of joins are spelled.
use Rattle.std.specs.Prelude.{Bool, true, false, cond, map as list_map, Option, None, Some, slice_get}
use Rattle.std.specs.List.{AllByRecursion}
use Rattle.std.proofs.Common.{◌≡◌, ◌⊎◌, inl, inr, ℕ, zero, suc, ◌+◌, ◌<◌, ◌≤◌, List, [], ◌∷◌, ◌++◌, length, refl, sym, ◌∙◌, ap, subst, arith}
use Rattle.alp_base.specs.declared.ids.JoinNo.{JoinNo}
use Rattle.alp_base.specs.declared.ids.Stamp.{Stamp}
use Rattle.alp_base.specs.declared.ids.TransId.{TransId}
use Rattle.alp_journal.specs.Coordinator.{Fate, Undrawn, Running, Finishing, Committed, Forgotten, Ended, fate_after, fate_noted, joins_of}
use Rattle.alp_journal.specs.Deeds.{Deed, Begins, Joins, Enters, Quits, Aborts, Grants, Performs, Releases, Readies, Applies, Registers, Finishes, Hears, Decides, Ends, Acknowledges, Forgets, Restarts}
use Rattle.alp_journal.specs.Ids.{same_trans, same_join}
use Rattle.alp_journal.specs.Moves.{next_join}
use Rattle.alp_journal.specs.Opening.{Start, ReadyNote, DecisionNote}
use Rattle.alp_journal.specs.Participant.{Phase, Unseen, Joining, Active, Ready, Applied, Over, drawn, entered, readied, applied, quit, aborted, restarted, phase_after, phase_noted}
use Rattle.alp_journal.specs.State.{Ids, State, ids_after, state_deed, opened, begun_by}
use Rattle.alp_journal.specs.declared.entry.Entry.{Entry}
use Rattle.alp_journal.specs.declared.event.Event.TheVariants as event
use Rattle.alp_journal.specs.declared.message.Message.TheVariants as msg
use Rattle.alp_journal.proofs.IdLemmas.{same_trans-true, same_join-true}
use Rattle.alp_journal.proofs.Origins.{IsFrom}
use Rattle.alp_history.specs.Log.{Log, journal_of, opening_of, state_at, IsIn}
use Rattle.alp_history.specs.Theorems.{IsProper}
use Rattle.alp_history.proofs.Entries.{is_open}
use Rattle.alp_history.proofs.Linked.{in-left, in-right}
use Rattle.alp_history.proofs.Phases.{IsSeen, IsJoining}
use Rattle.alp_history.proofs.Rights.{IsRightDeed}
use Rattle.alp_course.specs.Resting.{IsPositive, AreSpelled}
use Rattle.alp_course.proofs.NameLemmas.{IsKnown, IsBegun, known_before, HasCome, before, registers, decides, joins_before, Keeps, keeps_names}

-- ---- a phase

seen_before : (d : Deed) (j : JoinNo) (p : Phase) → IsSeen (phase_after d j p) ≡ true → (IsSeen p ≡ true) ⊎ IsJoining j d
seen_before d j (Joining t c w) h = inl refl
seen_before d j (Active t c w) h = inl refl
seen_before d j (Ready t c ts) h = inl refl
seen_before d j (Applied t x) h = inl refl
seen_before d j Over h = inl refl
seen_before (Joins k t client who) j Unseen h = go (same_join k j) refl h
  where
    go : (b : Bool) → same_join k j ≡ b → IsSeen (cond b (Joining t client who) Unseen) ≡ true → (IsSeen Unseen ≡ true) ⊎ IsJoining j (Joins k t client who)
    go true is e = inr (t, client, who, ap (λ (q : JoinNo). Joins q t client who) (same_join-true k j is))
    go false is e = inl e
seen_before (Enters k t client who) j Unseen h = inl (unseen (same_join k j) h)
  where
    unseen : (b : Bool) → IsSeen (cond b Unseen Unseen) ≡ true → IsSeen Unseen ≡ true
    unseen true e = e
    unseen false e = e
seen_before (Readies k t ts) j Unseen h = inl (unseen (same_join k j) h)
  where
    unseen : (b : Bool) → IsSeen (cond b Unseen Unseen) ≡ true → IsSeen Unseen ≡ true
    unseen true e = e
    unseen false e = e
seen_before (Applies k x) j Unseen h = inl (unseen (same_join k j) h)
  where
    unseen : (b : Bool) → IsSeen (cond b Unseen Unseen) ≡ true → IsSeen Unseen ≡ true
    unseen true e = e
    unseen false e = e
seen_before (Quits k t client c) j Unseen h = inl (unseen (same_join k j) h)
  where
    unseen : (b : Bool) → IsSeen (cond b Unseen Unseen) ≡ true → IsSeen Unseen ≡ true
    unseen true e = e
    unseen false e = e
seen_before (Aborts k t client c) j Unseen h = inl (unseen (same_join k j) h)
  where
    unseen : (b : Bool) → IsSeen (cond b Unseen Unseen) ≡ true → IsSeen Unseen ≡ true
    unseen true e = e
    unseen false e = e
seen_before d j Unseen h = inl h

module _ (log : Log) (proper : IsProper log) (n to : ℕ) where
  -- the join asked this server to be registered, before that place, or a note has it
  abbrev pub IsRegistered : TransId → JoinNo → Type 0
  IsRegistered t j =
      ((d : DecisionNote) × IsIn d (opening_of log n).decisions × (d.stamp.trans ≡ t) × IsIn j d.joins)
      ⊎ ((q : ℕ) × (from : ℕ) × (client : ℕ) × (e : Entry) × (q < to) × (slice_get (journal_of log n) q ≡ Some e) × (e.event ≡ event.Arrive from (msg.Register t j client)))

  -- it was let in before that place, or a note has it
  abbrev pub IsLetIn : TransId → JoinNo → Type 0
  IsLetIn t j =
      ((r : ReadyNote) × IsIn r (opening_of log n).ready × (r.trans ≡ t) × (r.join ≡ j))
      ⊎ ((q : ℕ) × (from : ℕ) × (e : Entry) × (q < to) × (slice_get (journal_of log n) q ≡ Some e) × (e.event ≡ event.Arrive from (msg.Joined t j)))

  abbrev pub HoldsLetIn : JoinNo → Phase → Type 0
  HoldsLetIn j (Active t client who) = IsLetIn t j
  HoldsLetIn j (Ready t client ts) = IsLetIn t j
  HoldsLetIn j p = Unit {0}

  pub record AreNamed (s : State) : Type 0 where
    pub begun : (t : TransId) → IsKnown (s.fates t) → IsIn t s.begun
    pub joins : (t : TransId) (j : JoinNo) → IsIn j (joins_of (s.fates t)) → IsRegistered t j
    pub let_in : (j : JoinNo) → HoldsLetIn j (s.phases j)
    pub raised : 0 < s.ids.epoch
    pub spelled : (j : JoinNo) → IsSeen (s.phases j) ≡ true → IsPositive j

  -- what a deed brings
  abbrev Facts : State → Deed → Type 0
  Facts s (Joins j t client who) = IsPositive j
  Facts s (Enters j t client who) = (s.phases j ≡ Joining t client who) × IsLetIn t j
  Facts s (Registers t j) = IsRegistered t j
  Facts s (Decides x js) = (j : JoinNo) → IsIn j js → IsRegistered x.trans j
  Facts s (Restarts epoch clock) = 0 < epoch
  Facts s d = Unit {0}

  abbrev Pend : Deed → Type 0
  Pend (Decides x js) = (j : JoinNo) → IsIn j js → IsRegistered x.trans j
  Pend d = Unit {0}

  -- ---- what is kept

  one : (j k : JoinNo) (b : Bool) (q p : Phase) → same_join k j ≡ b → (k ≡ j → HoldsLetIn j q) → HoldsLetIn j p → HoldsLetIn j (cond b q p)
  one j k true q p is h old = h (same_join-true k j is)
  one j k false q p is h old = old

  drawn_let : (j : JoinNo) (t : TransId) (client : ℕ) (who : List ℕ) (p : Phase) → HoldsLetIn j p → HoldsLetIn j (drawn t client who p)
  drawn_let j t client who Unseen h = tt
  drawn_let j t client who (Joining u c w) h = h
  drawn_let j t client who (Active u c w) h = h
  drawn_let j t client who (Ready u c ts) h = h
  drawn_let j t client who (Applied u x) h = h
  drawn_let j t client who Over h = h

  readied_let : (j : JoinNo) (ts : ℕ) (p : Phase) → HoldsLetIn j p → HoldsLetIn j (readied ts p)
  readied_let j ts Unseen h = h
  readied_let j ts (Joining u c w) h = h
  readied_let j ts (Active u c w) h = h
  readied_let j ts (Ready u c m) h = h
  readied_let j ts (Applied u x) h = h
  readied_let j ts Over h = h

  either_let : (j : JoinNo) (b : Bool) (q p : Phase) → HoldsLetIn j q → HoldsLetIn j p → HoldsLetIn j (cond b q p)
  either_let j true q p h k = h
  either_let j false q p h k = k

  applied_let : (j : JoinNo) (x : Stamp) (p : Phase) → HoldsLetIn j p → HoldsLetIn j (applied x p)
  applied_let j x Unseen h = h
  applied_let j x (Joining u c w) h = h
  applied_let j x (Active u c w) h = h
  applied_let j x (Ready u c m) h = either_let j (same_trans x.trans u) (Applied u x) (Ready u c m) tt h
  applied_let j x (Applied u y) h = h
  applied_let j x Over h = h

  quit_let : (j : JoinNo) (p : Phase) → HoldsLetIn j p → HoldsLetIn j (quit p)
  quit_let j Unseen h = h
  quit_let j (Joining u c w) h = tt
  quit_let j (Active u c w) h = tt
  quit_let j (Ready u c m) h = h
  quit_let j (Applied u y) h = h
  quit_let j Over h = h

  aborted_let : (j : JoinNo) (t : TransId) (p : Phase) → HoldsLetIn j p → HoldsLetIn j (aborted t p)
  aborted_let j t Unseen h = h
  aborted_let j t (Joining u c w) h = either_let j (same_trans t u) Over (Joining u c w) tt h
  aborted_let j t (Active u c w) h = either_let j (same_trans t u) Over (Active u c w) tt h
  aborted_let j t (Ready u c m) h = either_let j (same_trans t u) Over (Ready u c m) tt h
  aborted_let j t (Applied u y) h = h
  aborted_let j t Over h = h

  restarted_let : (j : JoinNo) (p : Phase) → HoldsLetIn j p → HoldsLetIn j (restarted p)
  restarted_let j Unseen h = h
  restarted_let j (Joining u c w) h = tt
  restarted_let j (Active u c w) h = tt
  restarted_let j (Ready u c m) h = h
  restarted_let j (Applied u y) h = h
  restarted_let j Over h = h

  let_step : (s : State) (d : Deed) (j : JoinNo) → Facts s d → HoldsLetIn j (s.phases j) → HoldsLetIn j (phase_after d j (s.phases j))
  let_step s (Joins k t client who) j facts h = one j k (same_join k j) (drawn t client who (s.phases j)) (s.phases j) refl (λ is. drawn_let j t client who (s.phases j) h) h
  let_step s (Enters k t client who) j facts h =
      one j k (same_join k j) (entered (s.phases j)) (s.phases j) refl
      (λ is. subst (λ (p : Phase). HoldsLetIn j (entered p)) (sym (ap s.phases (sym is) ∙ facts.0)) (subst (IsLetIn t) is facts.1)) h
  let_step s (Readies k t ts) j facts h = one j k (same_join k j) (readied ts (s.phases j)) (s.phases j) refl (λ is. readied_let j ts (s.phases j) h) h
  let_step s (Applies k x) j facts h = one j k (same_join k j) (applied x (s.phases j)) (s.phases j) refl (λ is. applied_let j x (s.phases j) h) h
  let_step s (Quits k t client c) j facts h = one j k (same_join k j) (quit (s.phases j)) (s.phases j) refl (λ is. quit_let j (s.phases j) h) h
  let_step s (Aborts k t client c) j facts h = one j k (same_join k j) (aborted t (s.phases j)) (s.phases j) refl (λ is. aborted_let j t (s.phases j) h) h
  let_step s (Restarts epoch clock) j facts h = restarted_let j (s.phases j) h
  let_step s (Begins u client who seen) j facts h = h
  let_step s (Registers u k) j facts h = h
  let_step s (Finishes u) j facts h = h
  let_step s (Hears u k ts) j facts h = h
  let_step s (Decides x js) j facts h = h
  let_step s (Ends u client c) j facts h = h
  let_step s (Acknowledges u k) j facts h = h
  let_step s (Forgets u) j facts h = h
  let_step s (Grants u c) j facts h = h
  let_step s (Performs u x) j facts h = h
  let_step s (Releases u) j facts h = h

  raised_step : (s : State) (d : Deed) → Facts s d → 0 < s.ids.epoch → 0 < (ids_after s.ids d).epoch
  raised_step s (Restarts epoch clock) facts h = facts
  raised_step s (Begins u client who seen) facts h = h
  raised_step s (Joins k t client who) facts h = h
  raised_step s (Performs u x) facts h = h
  raised_step s (Enters k t client who) facts h = h
  raised_step s (Readies k t ts) facts h = h
  raised_step s (Applies k x) facts h = h
  raised_step s (Quits k t client c) facts h = h
  raised_step s (Aborts k t client c) facts h = h
  raised_step s (Registers u k) facts h = h
  raised_step s (Finishes u) facts h = h
  raised_step s (Hears u k ts) facts h = h
  raised_step s (Decides x js) facts h = h
  raised_step s (Ends u client c) facts h = h
  raised_step s (Acknowledges u k) facts h = h
  raised_step s (Forgets u) facts h = h
  raised_step s (Grants u c) facts h = h
  raised_step s (Releases u) facts h = h

  keep : (s : State) (d : Deed) → Facts s d → AreNamed s → AreNamed (state_deed s d)
  keep s d facts h = record {
    begun = λ t known. elim (known_before d t (s.fates t) known) [
      | inl old ↦ in-left t s.begun (begun_by d) (h.begun t old)
      | inr new ↦ in-right t s.begun (begun_by d) (subst (λ (x : Deed). IsIn t (begun_by x)) (sym new.3) (inl refl))
    ];
    joins = λ t j i. come t j (joins_before d t (s.fates t) j i);
    let_in = λ j. let_step s d j facts (h.let_in j);
    raised = raised_step s d facts h.raised;
    spelled = λ j seen. elim (seen_before d j (s.phases j) seen) [ inl old ↦ h.spelled j old | inr new ↦ subst (Facts s) new.3 facts ];
  }
    where
      come : (t : TransId) (j : JoinNo) → HasCome d t (s.fates t) j → IsRegistered t j
      come t j (before i) = h.joins t j i
      come t j (registers is) = subst (Facts s) is facts
      come t j (decides x js is its i) = subst (λ (u : TransId). IsRegistered u j) its ((subst (Facts s) is facts) j i)

  opens : (s : State) (d : Deed) → is_open d ≡ true → Pend d → AreNamed s → AreNamed (state_deed s d)
  opens s d open_is pend h = keep s d (facts d open_is pend) h
    where
      facts : (x : Deed) → is_open x ≡ true → Pend x → Facts s x
      facts (Decides x js) e p = p
      facts (Joins k t client who) e p = absurd (let wrong : false ≡ true = e in cc)
      facts (Enters k t client who) e p = absurd (let wrong : false ≡ true = e in cc)
      facts (Registers u k) e p = absurd (let wrong : false ≡ true = e in cc)
      facts (Restarts epoch clock) e p = absurd (let wrong : false ≡ true = e in cc)
      facts x e p = tt

  right : (i : ℕ) (e : Entry) → i < to → slice_get (journal_of log n) i ≡ Some e → (s : State) (d : Deed) → AreNamed s → IsRightDeed e.event s d → IsFrom (state_at log n i) e.event d → AreNamed (state_deed s d) × (is_open d ≡ true → Pend d)
  right i e high at s d h law from = (keep s d (facts d law from) h, λ o. pends d law)
    where
      facts : (x : Deed) → IsRightDeed e.event s x → IsFrom (state_at log n i) e.event x → Facts s x
      facts (Joins j t client who) law from =
          (let is : j ≡ next_join s = law.counts.0 in
          let epoch : j.epoch ≡ s.ids.epoch = ap (λ (q : JoinNo). q.epoch) is in
          let counter : j.counter ≡ s.ids.joins + 1 = ap (λ (q : JoinNo). q.counter) is in
          (omega (arith, epoch, h.raised), omega (arith, counter)))
      facts (Enters j t client who) law from = (law.running.0, inr (i, from.0, e, high, at, from.1))
      facts (Registers t j) law from = (let r = law.registration in inr (i, r.from, r.client, e, high, at, r.asked))
      facts (Decides x js) law from = (let v = law.decision in λ j k. h.joins x.trans j (subst (λ (f : Fate). IsIn j (joins_of f)) (sym v.finishing) k))
      facts (Restarts epoch clock) law from = absurd from
      facts x law from = tt

      pends : (x : Deed) → IsRightDeed e.event s x → Pend x
      pends (Decides x js) law = (let v = law.decision in λ j k. h.joins x.trans j (subst (λ (f : Fate). IsIn j (joins_of f)) (sym v.finishing) k))
      pends x law = tt

  -- ---- at the opening

  fate_known : (ds : List DecisionNote) (t : TransId) → IsKnown (fate_noted ds t) → IsIn t (list_map (λ (d : DecisionNote). d.stamp.trans) ds)
  fate_known [] t known = absurd known
  fate_known (d ∷ ds) t known = go (same_trans d.stamp.trans t) refl known (fate_known ds t)
    where
      go : (b : Bool) → same_trans d.stamp.trans t ≡ b → IsKnown (cond b (Committed d.stamp d.joins []) (fate_noted ds t)) → (IsKnown (fate_noted ds t) → IsIn t (list_map (λ (x : DecisionNote). x.stamp.trans) ds))
          → IsIn t (list_map (λ (x : DecisionNote). x.stamp.trans) (d ∷ ds))
      go true is k rest = inl (sym (same_trans-true d.stamp.trans t is))
      go false is k rest = inr (rest k)

  fate_joins : (ds : List DecisionNote) (t : TransId) (j : JoinNo) → IsIn j (joins_of (fate_noted ds t)) → (d : DecisionNote) × IsIn d ds × (d.stamp.trans ≡ t) × IsIn j d.joins
  fate_joins [] t j i = absurd i
  fate_joins (d ∷ ds) t j i = go (same_trans d.stamp.trans t) refl i (fate_joins ds t j)
    where
      go : (b : Bool) → same_trans d.stamp.trans t ≡ b → IsIn j (joins_of (cond b (Committed d.stamp d.joins []) (fate_noted ds t)))
          → (IsIn j (joins_of (fate_noted ds t)) → (x : DecisionNote) × IsIn x ds × (x.stamp.trans ≡ t) × IsIn j x.joins) → (x : DecisionNote) × IsIn x (d ∷ ds) × (x.stamp.trans ≡ t) × IsIn j x.joins
      go true is k rest = (d, inl refl, same_trans-true d.stamp.trans t is, k)
      go false is k rest = (let (x, there, its, of) = rest k in (x, inr there, its, of))

  phase_let : (rs : List ReadyNote) (j : JoinNo) → ((r : ReadyNote) → IsIn r rs → IsIn r (opening_of log n).ready) → HoldsLetIn j (phase_noted rs j)
  phase_let [] j all = tt
  phase_let (r ∷ rs) j all = go (same_join r.join j) refl (phase_let rs j (λ x i. all x (inr i)))
    where
      go : (b : Bool) → same_join r.join j ≡ b → HoldsLetIn j (phase_noted rs j) → HoldsLetIn j (cond b (Ready r.trans r.client r.ts) (phase_noted rs j))
      go true is h = inl (r, all r (inl refl), refl, same_join-true r.join j is)
      go false is h = h

  phase_spelled : (rs : List ReadyNote) (j : JoinNo) → ((r : ReadyNote) → IsIn r rs → IsPositive r.join) → IsSeen (phase_noted rs j) ≡ true → IsPositive j
  phase_spelled [] j all seen = absurd (let wrong : false ≡ true = seen in cc)
  phase_spelled (r ∷ rs) j all seen = go (same_join r.join j) refl seen (phase_spelled rs j (λ x i. all x (inr i)))
    where
      go : (b : Bool) → same_join r.join j ≡ b → IsSeen (cond b (Ready r.trans r.client r.ts) (phase_noted rs j)) ≡ true → (IsSeen (phase_noted rs j) ≡ true → IsPositive j) → IsPositive j
      go true is h rest = subst IsPositive (same_join-true r.join j is) (all r (inl refl))
      go false is h rest = rest h

  first_named : AreSpelled (opening_of log n) → AreNamed (opened (opening_of log n))
  first_named spelled = record {
    begun = fate_known (opening_of log n).decisions;
    joins = λ t j i. inl (fate_joins (opening_of log n).decisions t j i);
    let_in = λ j. phase_let (opening_of log n).ready j (λ r i. i);
    raised = spelled.epoch;
    spelled = λ j seen. phase_spelled (opening_of log n).ready j (λ r i. (spelled.ready r i).0) seen;
  }

  pub names_at : AreSpelled (opening_of log n) → (i : ℕ) → i ≤ to → i ≤ length (journal_of log n) → AreNamed (state_at log n i)
  names_at spelled i low within =
      (keeps_names log proper n 0 to AreNamed Pend (λ s desk down pending h. record { begun = h.begun; joins = h.joins; let_in = h.let_in; raised = h.raised; spelled = h.spelled }) opens
      (λ s epoch clock h positive. keep s (Restarts epoch clock) positive h) (λ k e from high at s d h law of. right k e high at s d h law of) (first_named spelled, tt) i (omega arith) low within).0
