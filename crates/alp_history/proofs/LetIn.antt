-- a join that was let in for a transaction stands in its decision
use Rattle.std.specs.Prelude.{Bool, true, false, cond, ◌||◌, Option, None, Some}
use Rattle.std.specs.List.{list_any, AllByRecursion}
use Rattle.std.proofs.Common.{◌≡◌, ℕ, zero, suc, ◌<◌, ◌≤◌, List, [], ◌∷◌, ◌++◌, slice_get, length, refl, sym, ap, subst, ◌∙◌, arith, inl, inr, ◌⊎◌}
use Rattle.std.proofs.lemmas.List.Folds.{list_any-append}
use Rattle.alp_base.specs.declared.ids.JoinNo.{JoinNo}
use Rattle.alp_base.specs.declared.ids.TransId.{TransId}
use Rattle.alp_base.specs.declared.ids.Stamp.{Stamp}
use Rattle.alp_files.specs.declared.reply.Reply.{Reply}
use Rattle.alp_journal.specs.declared.act.Act.{Act}
use Rattle.alp_journal.specs.declared.act.Act.TheVariants as act
use Rattle.alp_journal.specs.declared.event.Event.{Event}
use Rattle.alp_journal.specs.declared.event.Event.TheVariants as event
use Rattle.alp_journal.specs.declared.message.Message.{Message}
use Rattle.alp_journal.specs.declared.message.Message.TheVariants as msg
use Rattle.alp_journal.specs.declared.entry.Entry.{Entry}
use Rattle.alp_journal.specs.Along.{Where}
use Rattle.alp_journal.specs.Ids.{same_join, has_join, has_server}
use Rattle.alp_journal.specs.Opening.{ReadyNote}
use Rattle.alp_journal.specs.Deeds.{Deed, Decides}
use Rattle.alp_journal.specs.Coordinator.{Fate, Undrawn, Running, Finishing, Committed, Forgotten, Ended, has_all, fate_after, decision_in, joins_of}
use Rattle.alp_journal.specs.State.{State, opened}
use Rattle.alp_journal.specs.Moves.{is_stop, stops, told, halted, next}
use Rattle.alp_journal.specs.Laws.{Regains, StartsRight, is_written, IsStopped, TellsStop}
use Rattle.alp_history.specs.Log.{Log, journal_of, opening_of, rank_at, state_at, final, IsIn}
use Rattle.alp_history.specs.Theorems.{IsProper, IsDecided}
use Rattle.alp_history.proofs.Places.{in-list, past-end, some-same, keeps-from}
use Rattle.alp_history.proofs.Fates.{Decision, fate-cases, IsOver, IsBacked}
use Rattle.alp_history.proofs.Entries.{is_open}
use Rattle.alp_history.proofs.Logs.{lawful-at, state-suc, said, stands-from}
use Rattle.alp_history.proofs.Agreed.{size, at-end, all-of, backed-at, over-none, Promise, Acked}
use Rattle.alp_history.proofs.HeldAlong.{IsSameCore, JoinedCame}
use Rattle.alp_history.proofs.LockOrder.{LetIn}
use Rattle.alp_history.proofs.Rights.{IsRightDeed, IsRightEntry}

-- ---- the joins that a transaction has stay its joins

more-joins : (j : JoinNo) (js ks : List JoinNo) → has_join j js ≡ true → has_join j (js ++ ks) ≡ true
more-joins j js ks h = list_any-append (λ k. same_join k j) js ks ∙ ap (λ (b : Bool). b || has_join j ks) h

abbrev HasJoin : JoinNo → Fate → Type 0
HasJoin j f = (has_join j (joins_of f) ≡ true) ⊎ IsOver f

-- a decision takes the join
abbrev Takes : TransId → JoinNo → Deed → Type 0
Takes t j (Decides x js) = x.trans ≡ t → has_join j js ≡ true
Takes t j d = Unit {0}

takes-keep : (t : TransId) (j : JoinNo) (d : Deed) (f : Fate) → Takes t j d → HasJoin j f → HasJoin j (fate_after d t f)
takes-keep t j d Undrawn k h = elim h [ inl e ↦ (let wrong : false ≡ true = e in cc) | inr o ↦ absurd o ]
takes-keep t j d (Running c js) k h = elim h [
  | inl e ↦ fate-cases (HasJoin j) d t (Running c js) (inl e) (λ q. inl e) (λ q. both q e (has_server q.server js)) (inl e) (λ q ts. inl e) (λ x ks i g. inl e) (λ q. inr tt) (λ q. inl e) (inl e) (λ q. inr tt)
  | inr o ↦ absurd o
]
  where
    both : (q : JoinNo) → has_join j js ≡ true → (b : Bool) → HasJoin j (cond b (Running c js) (Running c (js ++ q ∷ [])))
    both q e true = inl e
    both q e false = inl (more-joins j js (q ∷ []) e)
takes-keep t j d (Finishing c js vs) k h = elim h [
  | inl e ↦ fate-cases (HasJoin j) d t (Finishing c js vs) (inl e) (λ q. inl e) (λ q. inl e) (inl e) (λ q ts. inl e) (λ x ks i g. inl (subst (Takes t j) g k i)) (λ q. inr tt) (λ q. inl e) (inl e) (λ q. inr tt)
  | inr o ↦ absurd o
]
takes-keep t j d (Committed y js ds) k h = elim h [
  | inl e ↦ fate-cases (HasJoin j) d t (Committed y js ds) (inl e) (λ q. inl e) (λ q. inl e) (inl e) (λ q ts. inl e) (λ x ks i g. inl e) (λ q. inl e) (λ q. inl e) (both e (has_all ds js)) (λ q. inl e)
  | inr o ↦ absurd o
]
  where
    both : has_join j js ≡ true → (b : Bool) → HasJoin j (cond b (Forgotten y js) (Committed y js ds))
    both e true = inl e
    both e false = inl e
takes-keep t j d (Forgotten y js) k h = elim h [
  | inl e ↦ fate-cases (HasJoin j) d t (Forgotten y js) (inl e) (λ q. inl e) (λ q. inl e) (inl e) (λ q ts. inl e) (λ x ks i g. inl e) (λ q. inl e) (λ q. inl e) (inl e) (λ q. inl e)
  | inr o ↦ absurd o
]
takes-keep t j d (Ended c) k h = fate-cases (HasJoin j) d t (Ended c) (inr tt) (λ q. inr tt) (λ q. inr tt) (inr tt) (λ q ts. inr tt) (λ x ks i g. inr tt) (λ q. inr tt) (λ q. inr tt) (inr tt) (λ q. inr tt)

takes-right : (t : TransId) (j : JoinNo) (e : Event) (m : State) (d : Deed) → HasJoin j (m.fates t) → IsRightDeed e m d → Takes t j d
takes-right t j e m (Decides x js) h law = λ i.
    let v = law.decision in
    let is : m.fates t ≡ Finishing v.client js v.votes = ap m.fates (sym i) ∙ v.finishing in
    elim (subst (HasJoin j) is h) [ inl a ↦ a | inr o ↦ absurd o ]
takes-right t j e m d h law = tt

-- ---- a stopped entry says nothing

stopped-says : (acts : List Act) (to : ℕ) (m : Message) → IsStopped acts → IsIn (act.Sent to m) acts → ⊥
stopped-says [] to m h i = absurd h
stopped-says (a ∷ []) to m h i = elim i [ inl e ↦ (let x : is_stop (act.Sent to m) ≡ true = ap is_stop e ∙ h in let no : false ≡ true = x in cc) | inr k ↦ absurd k ]
stopped-says (a ∷ b ∷ []) to m h i = elim i [
  | inl e ↦ (let x : is_written (act.Sent to m) ≡ true = ap is_written e ∙ h.0 in let no : false ≡ true = x in cc)
  | inr k ↦ elim k [ inl e ↦ (let x : is_stop (act.Sent to m) ≡ true = ap is_stop e ∙ h.1 in let no : false ≡ true = x in cc) | inr z ↦ absurd z ]
]
stopped-says (a ∷ b ∷ c ∷ acts) to m h i = absurd h

pub told-pending : (s : State) (e : Entry) → (stops e ≡ true → ⊥) → (next s e).pending ≡ []
told-pending s e never = go (stops e) refl
  where
    go : (b : Bool) → stops e ≡ b → (cond b (halted s e) (told s e)).pending ≡ []
    go true k = absurd (never k)
    go false k = refl

-- whose it is that has joins
joins-backed : (here : ℕ) (P A : TransId → JoinNo → Type 0) (j : JoinNo) (t : TransId) (f : Fate) → has_join j (joins_of f) ≡ true → IsBacked here P A t f → t.server ≡ here
joins-backed here P A j t Undrawn h b = cc
joins-backed here P A j t (Running c js) h b = b
joins-backed here P A j t (Finishing c js vs) h b = b.0
joins-backed here P A j t (Committed x js ds) h b = b.0
joins-backed here P A j t (Forgotten x js) h b = b.0
joins-backed here P A j t (Ended c) h b = b

decision-joins : (f : Fate) (d : Decision) → decision_in f ≡ Some d → joins_of f ≡ d.1
decision-joins (Committed x js ds) d h = ap (λ (y : Decision). y.1) (some-same (x, js) d h)
decision-joins (Forgotten x js) d h = ap (λ (y : Decision). y.1) (some-same (x, js) d h)
decision-joins Undrawn d h = cc
decision-joins (Running c js) d h = cc
decision-joins (Finishing c js vs) d h = cc
decision-joins (Ended c) d h = cc

module _ (log : Log) (proper : IsProper log) where
  has-from : (n : ℕ) (t : TransId) (j : JoinNo) (i : ℕ) → i ≤ size log proper n → (state_at log n i).pending ≡ [] → HasJoin j ((state_at log n i).fates t) → HasJoin j ((final log n).fates t)
  has-from n t j i le none h =
      at-end log proper n (λ s. HasJoin j (s.fates t))
      ((stands-from log proper.lawful proper.linked (Takes t j) (λ s. HasJoin j (s.fates t)) (λ s d k q. takes-keep t j d (s.fates t) k q) (λ s desk down pending q. q) n i (size log proper n)
      (λ k e a b at m d q law from. takes-right t j e.event m d q law) (λ k e epoch clock q l. tt)
      (h, subst (λ ds. AllByRecursion (λ d. is_open d ≡ true → Takes t j d) ds) (sym none) tt) (size log proper n) le (omega arith) (all-of log proper n)).0)

  -- a join that was let in for a decided transaction is one of its joins
  pub let-in : (x : Stamp) (d : IsDecided log x) (n : ℕ) (j : JoinNo) → LetIn log proper n x.trans j → has_join j d.0 ≡ true
  let-in x d n j h = elim h [ inl came ↦ joined came | inr note ↦ absurd (noted note.0 note.1 note.2) ]
    where
      noted : (r : ReadyNote) → IsIn r (opening_of log n).ready → r.trans ≡ x.trans → ⊥
      noted r i e =
          let old : r.trans.epoch < (opening_of log r.trans.server).epoch = ((proper.sound n).ready r i).drawn in
          let older : x.trans.epoch < (opening_of log x.trans.server).epoch = subst (λ (t : TransId). t.epoch < (opening_of log t.server).epoch) e old in
          let now : (opening_of log x.trans.server).epoch ≤ x.trans.epoch = d.2 in omega (arith, older, now)

      joined : JoinedCame log proper n x.trans j → has_join j d.0 ≡ true
      joined c =
          let from : ℕ = c.1 in
          let sent = proper.linked.sent n c.0 from c.2 (msg.Joined x.trans j) c.3 c.4 in
          let le : suc sent.place ≤ size log proper from = in-list (journal_of log from) sent.place sent.entry sent.stands in
          let has : has_join j (joins_of ((state_at log from (suc sent.place)).fates x.trans)) ≡ true = said log proper.lawful proper.linked from n (msg.Joined x.trans j) (rank_at log n c.0) sent in
          let home : x.trans.server ≡ from =
          joins-backed from (Promise log proper from) (Acked log proper from (suc sent.place)) j x.trans ((state_at log from (suc sent.place)).fates x.trans) has
          ((backed-at log proper from (suc sent.place) (suc sent.place) (omega arith) le).1 x.trans) in
          let law : IsRightEntry (state_at log from sent.place) sent.entry = lawful-at log proper.lawful proper.linked from sent.place sent.entry sent.stands in
          let went : stops sent.entry ≡ true → ⊥ = λ k. stopped-says (sent.entry).acts n (msg.Joined x.trans j) (subst (λ b. Where b (IsStopped (sent.entry).acts × TellsStop (sent.entry).event (sent.entry).reply) (Unit {0})) k law.stopped).0 sent.sent in
          let none : (state_at log from (suc sent.place)).pending ≡ [] =
          ap (λ (s : State). s.pending) (state-suc log proper.lawful proper.linked from sent.place sent.entry sent.stands) ∙ told-pending (state_at log from sent.place) sent.entry went in
          let at_last : HasJoin j ((final log from).fates x.trans) = has-from from x.trans j (suc sent.place) le none (inl has) in
          let stands : decision_in ((final log from).fates x.trans) ≡ Some (x, d.0) = subst (λ m. decision_in ((final log m).fates x.trans) ≡ Some (x, d.0)) home d.1 in
          elim at_last [
            | inl a ↦ ap (has_join j) (sym (decision-joins ((final log from).fates x.trans) (x, d.0) stands)) ∙ a
            | inr o ↦ absurd (over-none log proper ((final log from).fates x.trans) (x, d.0) o stands)
          ]

  -- ---- a place with the same state at which nothing is pending

  abbrev IsQuiet : State → Type 0
  IsQuiet s = s.is_down ≡ false → s.pending ≡ []

  quiet-next : (s : State) (e : Entry) → IsQuiet (next s e)
  quiet-next s e = go (stops e)
    where
      go : (b : Bool) → IsQuiet (cond b (halted s e) (told s e))
      go true h = cc
      go false h = refl

  quiet-at : (n i : ℕ) → i ≤ size log proper n → IsQuiet (state_at log n i)
  quiet-at n i le = keeps-from next IsQuiet (opened (opening_of log n)) (journal_of log n) 0 i (λ k e a b at h. quiet-next (state_at log n k) e) (λ h. refl) i (omega arith) (omega arith) le

  pub record IsCalmAt (n i : ℕ) : Type 0 where
    pub place : ℕ
    pub before : place ≤ i
    pub near : i ≤ suc place
    pub none : (state_at log n place).pending ≡ []
    pub same : IsSameCore (state_at log n place) (state_at log n i)

  pub calm-at : (n i : ℕ) → i ≤ size log proper n → IsCalmAt n i
  calm-at n zero le = record { place = 0; before = omega arith; near = omega arith; none = refl; same = (refl, refl, refl, refl, refl, refl) }
  calm-at n (suc i) le = found (slice_get (journal_of log n) i) refl
    where
      s : State
      s = state_at log n i

      restart-goes : (r : Option Reply) (acts : List Act) → Regains (state_at log n i) acts → list_any is_stop acts ≡ true → ⊥
      restart-goes r (act.Regained epoch clock ready stamps ∷ []) h k = cc
      restart-goes r [] h k = absurd h
      restart-goes r (act.Regained epoch clock ready stamps ∷ a ∷ acts) h k = absurd h
      restart-goes r (act.Sent to m ∷ acts) h k = absurd h
      restart-goes r (act.Granted t ∷ acts) h k = absurd h
      restart-goes r (act.Drawn t ∷ acts) h k = absurd h
      restart-goes r (act.Registered t j ∷ acts) h k = absurd h
      restart-goes r (act.Readied t j ts ∷ acts) h k = absurd h
      restart-goes r (act.Decided x js ∷ acts) h k = absurd h
      restart-goes r (act.Applied j x ∷ acts) h k = absurd h
      restart-goes r (act.Released t ∷ acts) h k = absurd h
      restart-goes r (act.Forgot t ∷ acts) h k = absurd h
      restart-goes r (act.Stopped ∷ acts) h k = absurd h
      restart-goes r (act.Failed ∷ acts) h k = absurd h

      up : (x : Event) (r : Option Reply) (acts : List Act) → StartsRight (state_at log n i) (record { event = x; reply = r; acts = acts }) x → stops (record { event = x; reply = r; acts = acts }) ≡ true → (state_at log n i).is_down ≡ false
      up event.Restart r acts law k = absurd (restart-goes r acts law.0 k)
      up (event.Call client epoch number c) r acts law k = law.1
      up (event.Arrive from m) r acts law k = law.1
      up (event.Timeout t) r acts law k = law.1
      up event.Tick r acts law k = law.1
      up event.Force r acts law k = law.1

      found : (o : Option Entry) → slice_get (journal_of log n) i ≡ o → IsCalmAt n (suc i)
      found None at = absurd (let l : length (journal_of log n) ≤ i = past-end (journal_of log n) i at in let m : suc i ≤ size log proper n = le in omega (arith, l, m))
      found (Some e) at = go (stops e) refl
        where
          is : state_at log n (suc i) ≡ next (state_at log n i) e
          is = state-suc log proper.lawful proper.linked n i e at

          go : (b : Bool) → stops e ≡ b → IsCalmAt n (suc i)
          go false k = record { place = suc i; before = omega arith; near = omega arith; none = ap (λ (z : State). z.pending) is ∙ told-pending (state_at log n i) e (λ q. (let wrong : true ≡ false = sym q ∙ k in cc)); same = (refl, refl, refl, refl, refl, refl) }
          go true k = record {
            place = i;
            before = omega arith;
            near = omega arith;
            none = quiet-at n i (let m : suc i ≤ size log proper n = le in omega (arith, m)) (up e.event e.reply e.acts (lawful-at log proper.lawful proper.linked n i e at).restart k);
            same = subst (λ z. IsSameCore (state_at log n i) z) (sym (is ∙ ap (λ b. cond b (halted (state_at log n i) e) (told (state_at log n i) e)) k)) (refl, refl, refl, refl, refl, refl);
          }
