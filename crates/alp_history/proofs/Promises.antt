-- what clients are told is kept
use Rattle.std.specs.Prelude.{Bool, true, false, cond, not, ◌==◌, ◌&&◌, Option, None, Some, IsSome}
use Rattle.std.specs.List.{AllByRecursion}
use Rattle.std.specs.FinMap.Entries.{put}
use Rattle.std.proofs.Common.{◌≡◌, ℕ, suc, zero, ◌+◌, ◌<◌, ◌≤◌, List, [], ◌∷◌, ◌++◌, slice_get, length, refl, sym, ap, subst, ◌∙◌, arith, inl, inr, ◌⊎◌, eq-eqb}
use Rattle.std.proofs.lemmas.Bool.{eqb-true, and_parts}
use Rattle.std.proofs.lemmas.Option.{slice_get_cases}
use Rattle.std.specs.declared.cmp.Ordering.TheVariants.{Less}
use Rattle.alp_base.specs.declared.ids.JoinNo.{JoinNo}
use Rattle.alp_base.specs.declared.ids.TransId.{TransId}
use Rattle.alp_base.specs.declared.ids.Stamp.{Stamp}
use Rattle.alp_files.specs.declared.call.Call.{Call}
use Rattle.alp_files.specs.declared.call.Call.TheVariants as call
use Rattle.alp_files.specs.declared.reply.Reply.{Reply}
use Rattle.alp_files.specs.declared.reply.Reply.TheVariants as reply
use Rattle.alp_files.specs.declared.reply.Ended.TheVariants as ending
use Rattle.alp_files.specs.declared.refusal.Refusal.TheVariants as refusal
use Rattle.alp_files.specs.History.{PerformedCall}
use Rattle.alp_journal.specs.declared.event.Event.{Event}
use Rattle.alp_journal.specs.declared.event.Event.TheVariants as event
use Rattle.alp_journal.specs.declared.entry.Entry.{Entry}
use Rattle.alp_journal.specs.Along.{Where}
use Rattle.alp_journal.specs.Ids.{stamp_cmp}
use Rattle.alp_journal.specs.Desk.{Session}
use Rattle.alp_journal.specs.State.{State, state_deed}
use Rattle.alp_journal.specs.Moves.{is_new, follows, next}
use Rattle.alp_journal.specs.Laws.{Repeats, Greets, CallsOn, KeepsSessions, TellsIn, TellsDecided, Outcomes, ending_of}
use Rattle.alp_journal.specs.Deeds.{Deed, Begins, Joins, Enters, Quits, Aborts, Grants, Performs, Releases, Readies, Applies, Registers, Finishes, Hears, Decides, Ends, Acknowledges, Forgets, Restarts}
use Rattle.alp_journal.specs.Coordinator.{decision_in, joins_of}
use Rattle.alp_journal.specs.Holder.{Life, grants, performs, readies, commits}
use Rattle.alp_history.specs.Log.{Log, Decision, opening_of, journal_of, state_at, final, decided, IsIn}
use Rattle.alp_history.specs.Items.{Mark, Own, Repeated, Raw, Sent, Item, IsRaw, IsOwn, stamps_in, stamps_by, stamps_told}
use Rattle.alp_history.specs.Handed.{IsOfEntry, IsOfNone, IsOfPlace, IsNoGreeting, IsBefore, IsOfRaw, IsOfRunBy, AreOfClients, IsDecidedStamp, ArePromisesKept, HaveSeen, HasSeen, HasSeenIn, HasSeenBy, IsOfRun, BeginAbove, BeginsAbove, IsAbove}
use Rattle.alp_history.specs.Theorems.{IsProper, HasCommitted, Promises}
use Rattle.alp_history.proofs.BegunOrder.{begins_order}
use Rattle.alp_history.proofs.Places.{in-list, some-same}
use Rattle.alp_history.proofs.Logs.{lawful-at, state-suc, stands-from}
use Rattle.alp_history.proofs.Entries.{is_open}
use Rattle.alp_history.proofs.Decisions.{Has, find-in, put-has, IsDecision, own-decided, in-decided, here-decision, older-note, decided-in}
use Rattle.alp_history.proofs.Tells.{outcome-decision, decision-trans}
use Rattle.alp_journal.proofs.HistoryOrder.{stamp_cmp-earlier}
use Rattle.alp_history.proofs.Agreed.{size, at-end, all-of, decided-from, committed-parts}
use Rattle.alp_history.proofs.Sessions.{session-after}

module _ (log : Log) (proper : IsProper log) where
  -- the entry that gave the reply that a session keeps
  pub record WasKept (n i client : ℕ) (w : Session) : Type 0 where
    pub place : ℕ
    pub entry : Entry
    pub epoch : ℕ
    pub number : ℕ
    pub made : Call
    pub earlier : place < i
    pub stands : slice_get (journal_of log n) place ≡ Some entry
    pub called : entry.event ≡ event.Call client epoch number made
    pub replied : entry.reply ≡ Some w.reply
    pub last : number ≡ w.last
    pub new : ((is_new (state_at log n place) client epoch number ≡ true) × (epoch ≡ (state_at log n i).ids.epoch)) ⊎ ((name : List ℕ) × (made ≡ call.Hello name))
    pub positive : 1 ≤ w.last

  -- the session after an entry, by what stood before it
  kept-next : (n i client : ℕ) (w : Session) (e : Entry) → slice_get (journal_of log n) i ≡ Some e → (state_at log n (suc i)).desk.sessions client ≡ Some w
      → ((state_at log n i).desk.sessions client ≡ Some w → WasKept n i client w) → WasKept n (suc i) client w
  kept-next n i client w e at h before_at =
      let step : state_at log n (suc i) ≡ next (state_at log n i) e = state-suc log proper.lawful proper.linked n i e at in
      let after : (next (state_at log n i) e).desk.sessions client ≡ Some w = subst (λ (s : State). s.desk.sessions client ≡ Some w) step h in
      elim (session-after (state_at log n i) e client w after) [
        | inl k ↦
            let before = before_at k.0 in
            record {
              place = before.place;
              entry = before.entry;
              epoch = before.epoch;
              number = before.number;
              made = before.made;
              earlier = (let low : before.place < i = before.earlier in omega (arith, low));
              stands = before.stands;
              called = before.called;
              replied = before.replied;
              last = before.last;
              new = elim before.new [ inl c ↦ inl (c.0, c.1 ∙ sym k.1 ∙ ap (λ (s : State). s.ids.epoch) (sym step)) | inr c ↦ inr c ];
              positive = before.positive;
            }
        | inr x ↦ record {
          place = i;
          entry = e;
          epoch = x.epoch;
          number = x.number;
          made = x.made;
          earlier = omega arith;
          stands = at;
          called = x.called;
          replied = x.replied;
          last = x.last;
          new = elim x.new [ inl c ↦ inl (c.0, c.1 ∙ ap (λ (s : State). s.ids.epoch) (sym step)) | inr c ↦ inr c ];
          positive = x.positive;
        }
      ]

  pub kept-at : (n i client : ℕ) (w : Session) → i ≤ length (journal_of log n) → (state_at log n i).desk.sessions client ≡ Some w → WasKept n i client w
  kept-at n zero client w l h = (let wrong : None ≡ Some w = h in cc)
  kept-at n (suc i) client w l h = elim (slice_get_cases (journal_of log n) i).1 [
    | inl f ↦ kept-next n i client w f.0 f.2 h (λ k. kept-at n i client w (omega (arith, l)) k)
    | inr p ↦ absurd (let past : length (journal_of log n) ≤ i = p.0 in omega (arith, l, past))
  ]

  -- ---- what a call is answered

  -- an answer that tells nothing
  pub record TellsNone (r : Reply) : Type 0 where
    pub stamps : stamps_in r ≡ []
    pub begun : (t : TransId) → r ≡ reply.Begun t → ⊥

  welcome-none : (r : Reply) (m : ℕ) → r ≡ reply.Welcome m → TellsNone r
  welcome-none r m e = record { stamps = ap stamps_in e; begun = λ t b. (let wrong : reply.Welcome m ≡ reply.Begun t = sym e ∙ b in cc) }

  stale-none : (r : Reply) (m : ℕ) → r ≡ reply.Refused (refusal.StaleSession m) → TellsNone r
  stale-none r m e = record { stamps = ap stamps_in e; begun = λ t b. (let wrong : reply.Refused (refusal.StaleSession m) ≡ reply.Begun t = sym e ∙ b in cc) }

  -- the last number in a session was given a call, or the greeting that began it
  pub record IsRepeat (s : State) (client epoch number : ℕ) (r : Reply) : Type 0 where
    pub session : Session
    pub stands : s.desk.sessions client ≡ Some session
    pub reply_is : r ≡ session.reply
    pub last : number ≡ session.last

  -- a greeting is answered Welcome, or gets the kept reply while the first number is the last
  greeting : (s : State) (e : Entry) (client epoch number : ℕ) (r : Reply) (o : Option Session) → s.desk.sessions client ≡ o → Greets s epoch number e o → e.reply ≡ Some r
      → ((m : ℕ) × (r ≡ reply.Welcome m)) ⊎ ((w : Session) × (s.desk.sessions client ≡ Some w) × (r ≡ w.reply) × (1 ≡ w.last))
  greeting s e client epoch number r None is law given = go (epoch == 0 && number == 1) law
    where
      go : (b : Bool) → Where b (e.reply ≡ Some (reply.Welcome s.ids.epoch)) (Repeats None e) → ((m : ℕ) × (r ≡ reply.Welcome m)) ⊎ ((w : Session) × (s.desk.sessions client ≡ Some w) × (r ≡ w.reply) × (1 ≡ w.last))
      go true h = inl (s.ids.epoch, some-same r (reply.Welcome s.ids.epoch) (sym given ∙ h))
      go false h = (let wrong : None ≡ Some r = sym h.0 ∙ given in cc)
  greeting s e client epoch number r (Some w) is law given = go (epoch == 0 && number == 1 && w.last == 1) refl law
    where
      go : (b : Bool) → (epoch == 0 && number == 1 && w.last == 1) ≡ b → Where b (Repeats (Some w.reply) e) (Repeats None e) → ((m : ℕ) × (r ≡ reply.Welcome m)) ⊎ ((w : Session) × (s.desk.sessions client ≡ Some w) × (r ≡ w.reply) × (1 ≡ w.last))
      go true t h = inr (w, is, some-same r w.reply (sym given ∙ h.0), sym (eqb-true w.last 1 (and_parts (epoch == 0 && number == 1) (w.last == 1) t).1))
      go false t h = (let wrong : None ≡ Some r = sym h.0 ∙ given in cc)

  -- any other call is stale, new, or of the last number
  calling : (s : State) (e : Entry) (client epoch number : ℕ) (r : Reply) (o : Option Session) → s.desk.sessions client ≡ o → CallsOn s epoch number e o → e.reply ≡ Some r
      → TellsNone r ⊎ ((is_new s client epoch number ≡ true) ⊎ (IsRepeat s client epoch number r × (epoch ≡ s.ids.epoch)))
  calling s e client epoch number r None is law given = inl (stale-none r s.ids.epoch (some-same r (reply.Refused (refusal.StaleSession s.ids.epoch)) (sym given ∙ law.0)))
  calling s e client epoch number r (Some w) is law given = here (epoch == s.ids.epoch) refl law
    where
      Result : Type 0
      Result = TellsNone r ⊎ ((is_new s client epoch number ≡ true) ⊎ (IsRepeat s client epoch number r × (epoch ≡ s.ids.epoch)))

      next_one : epoch ≡ s.ids.epoch → (b : Bool) → (number == w.last + 1) ≡ b → Where b (IsSome e.reply) (Repeats None e) → Result
      next_one now true t h =
          let follow : follows s.ids.epoch epoch number (Some w) ≡ true = (λ i. (now i == s.ids.epoch) && t i) ∙ ap (λ b. b && true) (eq-eqb s.ids.epoch s.ids.epoch refl) in
          inr (inl (ap (follows s.ids.epoch epoch number) is ∙ follow))
      next_one now false t h = (let wrong : None ≡ Some r = sym h.0 ∙ given in cc)

      same : epoch ≡ s.ids.epoch → (b : Bool) → (number == w.last) ≡ b → Where b (Repeats (Some w.reply) e) (Where (number == w.last + 1) (IsSome e.reply) (Repeats None e)) → Result
      same now true t h = inr (inr (record { session = w; stands = is; reply_is = some-same r w.reply (sym given ∙ h.0); last = eqb-true number w.last t }, now))
      same now false t h = next_one now (number == w.last + 1) refl h

      here : (b : Bool) → (epoch == s.ids.epoch) ≡ b
          → Where (not b) (Repeats (Some (reply.Refused (refusal.StaleSession s.ids.epoch))) e) (Where (number == w.last) (Repeats (Some w.reply) e) (Where (number == w.last + 1) (IsSome e.reply) (Repeats None e))) → Result
      here true t h = same (eqb-true epoch s.ids.epoch t) (number == w.last) refl h
      here false t h = inl (stale-none r s.ids.epoch (some-same r (reply.Refused (refusal.StaleSession s.ids.epoch)) (sym given ∙ h.0)))

  -- the number of a call that a session's reply was kept for is the first one only of a greeting
  not-first : (n i client epoch number : ℕ) → i ≤ length (journal_of log n) → is_new (state_at log n i) client epoch number ≡ true → 1 ≡ number → ⊥
  not-first n i client epoch number l new one = go ((state_at log n i).desk.sessions client) refl new
    where
      go : (o : Option Session) → (state_at log n i).desk.sessions client ≡ o → follows (state_at log n i).ids.epoch epoch number o ≡ true → ⊥
      go None is h = cc
      go (Some w) is h =
          let low : 1 ≤ w.last = (kept-at n i client w l is).positive in
          let next_is : number ≡ w.last + 1 = eqb-true number (w.last + 1) (and_parts (epoch == (state_at log n i).ids.epoch) (number == w.last + 1) h).1 in
          omega (arith, low, next_is, one)

  -- a greeting tells nothing
  hello-none : (fuel n i client epoch number : ℕ) (name : List ℕ) (e : Entry) (r : Reply) → i < fuel → slice_get (journal_of log n) i ≡ Some e → e.event ≡ event.Call client epoch number (call.Hello name) → e.reply ≡ Some r → TellsNone r
  hello-none zero n i client epoch number name e r low at called given = absurd (omega (arith, low))
  hello-none (suc fuel) n i client epoch number name e r low at called given =
      let s : State = state_at log n i in
      let law : KeepsSessions s e (event.Call client epoch number (call.Hello name)) = subst (KeepsSessions s e) called (lawful-at log proper.lawful proper.linked n i e at).sessions in
      elim (greeting s e client epoch number r (s.desk.sessions client) refl law given) [
        | inl w ↦ welcome-none r w.0 w.1
        | inr k ↦
            let inside : i < length (journal_of log n) = in-list (journal_of log n) i e at in
            let first = kept-at n i client k.0 (omega (arith, inside)) k.1 in
            let before : first.place < i = first.earlier in
            let there : first.place < length (journal_of log n) = in-list (journal_of log n) first.place first.entry first.stands in
            elim first.new [
              | inl c ↦ absurd (not-first n first.place client first.epoch first.number (omega (arith, there)) c.0 (k.3 ∙ sym first.last))
              | inr c ↦
                  hello-none fuel n first.place client first.epoch first.number c.0 first.entry r (omega (arith, low, before)) first.stands (first.called ∙ ap (event.Call client first.epoch first.number) c.1)
                  (first.replied ∙ ap Some (sym k.2))
            ]
      ]

  -- ---- decisions

  -- what was applied stays applied
  stays-applied : (x : Stamp) (s : State) (d : Deed) → Has x s.holder.applied → Has x (state_deed s d).holder.applied
  stays-applied x s d h = go d
    where
      put-one : (y : Stamp) (l : Option Life) → Has x (commits s.holder y l).applied
      put-one y None = h
      put-one y (Some l) = early l.is_early
        where
          early : (b : Bool) → Has x (cond b s.holder.applied (put stamp_cmp y (record { stamp = y; who = l.who; calls = l.calls }) s.holder.applied))
          early true = h
          early false = put-has x y (record { stamp = y; who = l.who; calls = l.calls }) s.holder.applied (inr h)

      granted : (t : TransId) (c : Call) (l : Option Life) → Has x (grants s.holder t c l).applied
      granted t c None = h
      granted t c (Some l) = h

      performed : (t : TransId) (c : PerformedCall) (l : Option Life) → Has x (performs s.holder t c l).applied
      performed t c None = h
      performed t c (Some l) = h

      readied : (t : TransId) (ts : ℕ) (l : Option Life) → Has x (readies s.holder t ts l).applied
      readied t ts None = h
      readied t ts (Some l) = h

      go : (d : Deed) → Has x (state_deed s d).holder.applied
      go (Begins t c u n) = h
      go (Joins j t c u) = h
      go (Enters j t c u) = h
      go (Quits j t c a) = h
      go (Aborts j t c a) = h
      go (Grants t c) = granted t c (s.holder.lives t)
      go (Performs t c) = performed t c (s.holder.lives t)
      go (Releases t) = h
      go (Readies j t ts) = readied t ts (s.holder.lives t)
      go (Applies j y) = put-one y (s.holder.lives y.trans)
      go (Registers t j) = h
      go (Finishes t) = h
      go (Hears t j ts) = h
      go (Decides y js) = put-one y (s.holder.lives y.trans)
      go (Ends t c a) = h
      go (Acknowledges t j) = h
      go (Forgets t) = h
      go (Restarts epoch clock) = h

  all-open : (ds : List Deed) → AllByRecursion (λ d. is_open d ≡ true → Unit {0}) ds
  all-open [] = tt
  all-open (d ∷ ds) = ((λ e. tt), all-open ds)

  applied-end : (n i : ℕ) (x : Stamp) → i ≤ length (journal_of log n) → Has x (state_at log n i).holder.applied → Has x (final log n).holder.applied
  applied-end n i x l h =
      at-end log proper n (λ s. Has x s.holder.applied)
      (stands-from log proper.lawful proper.linked (λ d. Unit {0}) (λ s. Has x s.holder.applied) (λ s d r q. stays-applied x s d q) (λ s desk down pending q. q) n i (length (journal_of log n))
      (λ k e a b at m d q law from. tt) (λ k e epoch clock q up. tt) (h, all-open (state_at log n i).pending) (length (journal_of log n)) l (omega arith) (omega arith)).0

  -- the stamp that a new call is told is decided, where an Outcome names a transaction of this run
  tells-decided : (n i client epoch number : ℕ) (c : Call) (e : Entry) (r : Reply) (x : Stamp) → slice_get (journal_of log n) i ≡ Some e → e.event ≡ event.Call client epoch number c → e.reply ≡ Some r
      → is_new (state_at log n i) client epoch number ≡ true → IsOfRunBy log c → IsIn x (stamps_in r) → IsDecidedStamp log x
  tells-decided n i client epoch number c e r x at called given new run among = go r refl
    where
      after : State
      after = next (state_at log n i) e

      law : TellsIn after c r
      law =
          let told = (lawful-at log proper.lawful proper.linked n i e at).told in
          let there : TellsDecided (state_at log n i) after (event.Call client epoch number c) (Some r) =
          subst (λ (y : Option Reply). TellsDecided (state_at log n i) after (event.Call client epoch number c) y) given (subst (λ (y : Event). TellsDecided (state_at log n i) after y e.reply) called told) in
          subst (λ b. Where b (TellsIn after c r) (Unit {0})) new there

      inside : suc i ≤ length (journal_of log n)
      inside = in-list (journal_of log n) i e at

      here : state_at log n (suc i) ≡ after
      here = state-suc log proper.lawful proper.linked n i e at

      -- a decision of this server that stands in its history
      by-key : (x : Stamp) (js : List JoinNo) → decision_in (after.fates x.trans) ≡ Some (x, js) → Has x after.holder.applied → IsDecidedStamp log x
      by-key x js is has =
          let last : decision_in ((final log n).fates x.trans) ≡ Some (x, js) =
          at-end log proper n (λ s. decision_in (s.fates x.trans) ≡ Some (x, js)) (decided-from log proper n x.trans (x, js) (suc i) (size log proper n) inside (all-of log proper n) (subst (λ (s : State). decision_in (s.fates x.trans) ≡ Some (x, js)) (sym here) is)) in
          let own : x.trans.server ≡ n = (committed-parts log proper n x.trans (x, js) last).0 in
          let there = applied-end n (suc i) x inside (subst (λ (s : State). Has x s.holder.applied) (sym here) has) in
          let is_decision : IsDecision log proper x (joins_of ((final log n).fates x.trans)) = own-decided log proper n x there.0 (find-in x there.0 (final log n).holder.applied there.1) own in
          ((x, joins_of ((final log n).fates x.trans)), in-decided log proper x (joins_of ((final log n).fates x.trans)) is_decision, refl)

      -- an outcome of this run
      by-outcome : (t : TransId) (y : Stamp) → (opening_of log t.server).epoch ≤ t.epoch → ending.Committed y ≡ ending_of after t (after.fates t) → IsDecidedStamp log y
      by-outcome t y young is =
          let d = outcome-decision after t (after.fates t) y is in
          let last : decision_in ((final log n).fates t) ≡ Some (y, d.0) =
          at-end log proper n (λ s. decision_in (s.fates t) ≡ Some (y, d.0)) (decided-from log proper n t (y, d.0) (suc i) (size log proper n) inside (all-of log proper n) (subst (λ (s : State). decision_in (s.fates t) ≡ Some (y, d.0)) (sym here) d.1)) in
          let trans : y.trans ≡ t = decision-trans log proper n t y d.0 last in
          let committed : HasCommitted log n y d.0 = subst (λ (u : TransId). decision_in ((final log n).fates u) ≡ Some (y, d.0)) (sym trans) last in
          let own : t.server ≡ n = (committed-parts log proper n t (y, d.0) last).0 in
          let late : (opening_of log n).epoch ≤ y.trans.epoch = subst (λ (u : TransId). (opening_of log n).epoch ≤ u.epoch) (sym trans) (subst (λ m. (opening_of log m).epoch ≤ t.epoch) own young) in
          ((y, d.0), in-decided log proper y d.0 (here-decision log proper n y d.0 committed (λ b. older-note log proper n y d.0 b late)), refl)

      outcome : (c : Call) (y : Stamp) → IsOfRunBy log c → Outcomes after c (ending.Committed y) → IsDecidedStamp log y
      outcome (call.Outcome t) y young h = by-outcome t y young h.1
      outcome c y young h = absurd h

      go : (q : Reply) → r ≡ q → IsDecidedStamp log x
      go (reply.Committed y) e = elim (subst (λ (q : Reply). IsIn x (stamps_in q)) e among) [
        | inl same ↦ (let h : TellsIn after c (reply.Committed y) = subst (TellsIn after c) e law in subst (IsDecidedStamp log) (sym same) (by-key y h.0 h.1 h.2))
        | inr none ↦ absurd none
      ]
      go (reply.Ended (ending.Committed y)) e = elim (subst (λ (q : Reply). IsIn x (stamps_in q)) e among) [
        | inl same ↦ (let h : TellsIn after c (reply.Ended (ending.Committed y)) = subst (TellsIn after c) e law in subst (IsDecidedStamp log) (sym same) (outcome c y run h))
        | inr none ↦ absurd none
      ]
      go (reply.Ended ending.Running) e = absurd (subst (λ (q : Reply). IsIn x (stamps_in q)) e among)
      go (reply.Ended ending.Aborted) e = absurd (subst (λ (q : Reply). IsIn x (stamps_in q)) e among)
      go (reply.Ended ending.Unknown) e = absurd (subst (λ (q : Reply). IsIn x (stamps_in q)) e among)
      go (reply.Welcome m) e = absurd (subst (λ (q : Reply). IsIn x (stamps_in q)) e among)
      go (reply.Begun t) e = absurd (subst (λ (q : Reply). IsIn x (stamps_in q)) e among)
      go reply.Joined e = absurd (subst (λ (q : Reply). IsIn x (stamps_in q)) e among)
      go (reply.Created f m) e = absurd (subst (λ (q : Reply). IsIn x (stamps_in q)) e among)
      go (reply.Opened m) e = absurd (subst (λ (q : Reply). IsIn x (stamps_in q)) e among)
      go reply.Plain e = absurd (subst (λ (q : Reply). IsIn x (stamps_in q)) e among)
      go (reply.Pages ps) e = absurd (subst (λ (q : Reply). IsIn x (stamps_in q)) e among)
      go (reply.Props ps) e = absurd (subst (λ (q : Reply). IsIn x (stamps_in q)) e among)
      go (reply.Owner o) e = absurd (subst (λ (q : Reply). IsIn x (stamps_in q)) e among)
      go (reply.Refused f) e = absurd (subst (λ (q : Reply). IsIn x (stamps_in q)) e among)

  -- ---- the calls of a client

  -- a call is a greeting, or is answered by its number
  by-call : (s : State) (e : Entry) (client epoch number : ℕ) (c : Call) → KeepsSessions s e (event.Call client epoch number c) → ((name : List ℕ) × (c ≡ call.Hello name)) ⊎ CallsOn s epoch number e (s.desk.sessions client)
  by-call s e client epoch number (call.Hello name) h = inl (name, refl)
  by-call s e client epoch number (call.Begin a) h = inr h
  by-call s e client epoch number (call.Join a) h = inr h
  by-call s e client epoch number (call.CreateFile a b c) h = inr h
  by-call s e client epoch number (call.OpenFile a b c d f) h = inr h
  by-call s e client epoch number (call.CloseFile a b) h = inr h
  by-call s e client epoch number (call.DeleteFile a b c) h = inr h
  by-call s e client epoch number (call.ReadPages a b c d f) h = inr h
  by-call s e client epoch number (call.WritePages a b c d f) h = inr h
  by-call s e client epoch number (call.LockPages a b c d f) h = inr h
  by-call s e client epoch number (call.SetSize a b c d) h = inr h
  by-call s e client epoch number (call.ReadProps a b) h = inr h
  by-call s e client epoch number (call.WriteProps a b c d) h = inr h
  by-call s e client epoch number (call.ReadOwner a b c) h = inr h
  by-call s e client epoch number (call.MakeOwner a b c d f) h = inr h
  by-call s e client epoch number (call.SetQuota a b c d) h = inr h
  by-call s e client epoch number (call.Finish a b) h = inr h
  by-call s e client epoch number (call.Outcome a) h = inr h
  by-call s e client epoch number (call.Collect a) h = inr h

  abbrev client_in : Event → ℕ
  client_in (event.Call client epoch number c) = client
  client_in x = 0

  abbrev epoch_in : Event → ℕ
  epoch_in (event.Call client epoch number c) = epoch
  epoch_in x = 0

  abbrev number_in : Event → ℕ
  number_in (event.Call client epoch number c) = number
  number_in x = 0

  abbrev call_in : Event → Call
  call_in (event.Call client epoch number c) = c
  call_in x = call.Hello []

  greeting-or-not : (c : Call) → ((name : List ℕ) × (c ≡ call.Hello name)) ⊎ IsNoGreeting c
  greeting-or-not (call.Hello name) = inl (name, refl)
  greeting-or-not c = inr tt

  module _ (given : AreOfClients log) where
    -- what came of the call of an item that was handed this reply
    pub data Came (x : Item) (r : Reply) : Type 0 where
      tells_none : TellsNone r → Came x r
      -- its entry, where it was new
      came_new : (i : ℕ) (e : Entry) (q : Sent) → slice_get (journal_of log x.server) i ≡ Some e → x.sent ≡ Some q → e.event ≡ event.Call q.client q.epoch q.number q.call → e.reply ≡ Some r
          → is_new (state_at log x.server i) q.client q.epoch q.number ≡ true → Came x r
      -- or the item of the same number before it, whose entry was new
      came_again : (owner : ℕ) (y : Item) (e : Entry) (b : IsBefore x y) → IsIn y (log.handed owner) → slice_get (journal_of log y.server) b.there ≡ Some e
          → e.event ≡ event.Call b.earlier.client b.earlier.epoch b.earlier.number b.earlier.call → e.reply ≡ Some r → y.reply ≡ Some r
          → is_new (state_at log y.server b.there) b.earlier.client b.earlier.epoch b.earlier.number ≡ true → Came x r

    none-refused : (r : Reply) → IsOfNone (Some r) → TellsNone r
    none-refused r h = elim h [
      | inl e ↦ (let same : r ≡ reply.Refused refusal.BadFrame = some-same r (reply.Refused refusal.BadFrame) e in record { stamps = ap stamps_in same; begun = λ t b. (let wrong : reply.Refused refusal.BadFrame ≡ reply.Begun t = sym same ∙ b in cc) })
      | inr e ↦ (let same : r ≡ reply.Refused refusal.Down = some-same r (reply.Refused refusal.Down) e in record { stamps = ap stamps_in same; begun = λ t b. (let wrong : reply.Refused refusal.Down ≡ reply.Begun t = sym same ∙ b in cc) })
    ]

    -- of a reply that was kept
    kept-came : (x : Item) (i : ℕ) (q : Sent) (r : Reply) → i < length (journal_of log x.server) → x.sent ≡ Some q → x.place ≡ Some i
        → IsRepeat (state_at log x.server i) q.client q.epoch q.number r → q.epoch ≡ (state_at log x.server i).ids.epoch → Came x r
    kept-came x i q r inside sent place rep now =
        let k = kept-at x.server i q.client rep.session (omega (arith, inside)) rep.stands in
        let replied : (k.entry).reply ≡ Some r = k.replied ∙ ap Some (sym rep.reply_is) in
        elim k.new [
          | inr c ↦ tells_none (hello-none (suc k.place) x.server k.place q.client k.epoch k.number c.0 k.entry r (omega arith) k.stands (k.called ∙ ap (event.Call q.client k.epoch k.number) c.1) replied)
          | inl c ↦
              let w = given.whole q.client x.server k.place k.epoch k.number k.made k.entry k.stands k.called in
              let y : Item = w.1 in
              let server : y.server ≡ x.server = w.3 in
              let o : IsOfEntry log y k.place = subst (IsOfPlace log y) w.4 (given.replies w.0 y w.2) in
              let same : o.entry ≡ k.entry = some-same o.entry k.entry (sym o.stands ∙ ap (λ m. slice_get (journal_of log m) k.place) server ∙ k.stands) in
              let call_is : event.Call (o.sent).client (o.sent).epoch (o.sent).number (o.sent).call ≡ event.Call q.client k.epoch k.number k.made = sym o.called ∙ ap (λ (e : Entry). e.event) same ∙ k.called in
              let client : (o.sent).client ≡ q.client = ap client_in call_is in
              let epoch : (o.sent).epoch ≡ k.epoch = ap epoch_in call_is in
              let number : (o.sent).number ≡ k.number = ap number_in call_is in
              let answer : (o.entry).reply ≡ Some r = ap (λ (e : Entry). e.reply) same ∙ replied in
              elim (greeting-or-not (o.sent).call) [
                | inl hello ↦
                    let made : k.made ≡ call.Hello hello.0 = sym (ap call_in call_is) ∙ hello.1 in
                    tells_none (hello-none (suc k.place) x.server k.place q.client k.epoch k.number hello.0 k.entry r (omega arith) k.stands (k.called ∙ ap (event.Call q.client k.epoch k.number) made) replied)
                | inr plain ↦ came_again w.0 y o.entry (record {
                  later = q;
                  earlier = o.sent;
                  there = k.place;
                  here = i;
                  later_sent = sent;
                  earlier_sent = o.said;
                  later_place = place;
                  earlier_place = w.4;
                  server = server;
                  client = client;
                  epoch = epoch ∙ c.1 ∙ sym now;
                  number = number ∙ k.last ∙ sym rep.last;
                  order = k.earlier;
                  no_greeting = plain;
                }) w.2 o.stands o.called answer (o.handed ∙ answer) ((λ j. is_new (state_at log (server j) k.place) (client j) (epoch j) (number j)) ∙ c.0)
              ]
        ]

    pub came : (client : ℕ) (x : Item) (r : Reply) → IsIn x (log.handed client) → x.reply ≡ Some r → Came x r
    came client x r among replied = at x.place refl (given.replies client x among)
      where
        at : (p : Option ℕ) → x.place ≡ p → IsOfPlace log x p → Came x r
        at None place h = tells_none (none-refused r (subst IsOfNone replied h))
        at (Some i) place o =
            let q : Sent = o.sent in
            let s : State = state_at log x.server i in
            let given_reply : (o.entry).reply ≡ Some r = sym o.handed ∙ replied in
            let law : KeepsSessions s o.entry (event.Call q.client q.epoch q.number q.call) = subst (KeepsSessions s o.entry) o.called (lawful-at log proper.lawful proper.linked x.server i o.entry o.stands).sessions in
            elim (by-call s o.entry q.client q.epoch q.number q.call law) [
              | inl hello ↦
                  tells_none (hello-none (suc i) x.server i q.client q.epoch q.number hello.0 o.entry r (omega arith) o.stands (o.called ∙ ap (event.Call q.client q.epoch q.number) hello.1) given_reply)
              | inr law ↦ elim (calling s o.entry q.client q.epoch q.number r (s.desk.sessions q.client) refl law given_reply) [
                | inl none ↦ tells_none none
                | inr some ↦ elim some [
                  | inl new ↦ came_new i o.entry q o.stands o.said o.called given_reply new
                  | inr rep ↦ kept-came x i q r (in-list (journal_of log x.server) i o.entry o.stands) o.said place rep.0 rep.1
                ]
              ]
            ]

    -- ---- stamps told

    of-run : (m : Mark) (q : Sent) → (IsRaw m → ⊥) → IsOfRun log m (Some q) → IsOfRunBy log q.call
    of-run Own q n h = h
    of-run Repeated q n h = h
    of-run Raw q n h = absurd (n tt)

    raw-or : (m : Mark) → IsRaw m ⊎ (IsRaw m → ⊥)
    raw-or Own = inr (λ h. h)
    raw-or Repeated = inr (λ h. h)
    raw-or Raw = inl tt

    told-by : (client : ℕ) (x : Item) (r : Reply) (s : Stamp) → IsIn x (log.handed client) → x.reply ≡ Some r → (IsRaw x.mark → ⊥) → Came x r → IsIn s (stamps_in r) → IsOfRaw log x ⊎ IsDecidedStamp log s
    told-by client x r s among replied own (tells_none n) i = absurd (subst (IsIn s) n.stamps i)
    told-by client x r s among replied own (came_new i e q at sent called answer new) told =
        inr (tells-decided x.server i q.client q.epoch q.number q.call e r s at called answer new (of-run x.mark q own (subst (IsOfRun log x.mark) sent (given.outcomes client x among))) told)
    told-by client x r s among replied own (came_again owner y e b y_among at called answer handed new) told = elim (raw-or y.mark) [
      | inl raw ↦ inl (record { owner = owner; first = y; among = y_among; raw = raw; before = b; counted = new; kept = replied ∙ sym handed })
      | inr not_raw ↦
          inr (tells-decided y.server b.there b.earlier.client b.earlier.epoch b.earlier.number b.earlier.call e r s at called answer new
          (of-run y.mark b.earlier not_raw (subst (IsOfRun log y.mark) b.earlier_sent (given.outcomes owner y y_among))) told)
    ]

    stamps-none : (m : Mark) (s : Stamp) → IsIn s (stamps_by m None) → ⊥
    stamps-none Own s i = i
    stamps-none Repeated s i = i
    stamps-none Raw s i = i

    stamps-some : (m : Mark) (r : Reply) (s : Stamp) → IsIn s (stamps_by m (Some r)) → (IsRaw m → ⊥) × IsIn s (stamps_in r)
    stamps-some Own r s i = ((λ h. h), i)
    stamps-some Repeated r s i = ((λ h. h), i)
    stamps-some Raw r s i = absurd i

    told-decided : (client : ℕ) (x : Item) (s : Stamp) → IsIn x (log.handed client) → IsIn s (stamps_told x) → IsOfRaw log x ⊎ IsDecidedStamp log s
    told-decided client x s among i = go x.reply refl i
      where
        go : (r : Option Reply) → x.reply ≡ r → IsIn s (stamps_by x.mark r) → IsOfRaw log x ⊎ IsDecidedStamp log s
        go None e i = absurd (stamps-none x.mark s i)
        go (Some r) e i = let h = stamps-some x.mark r s i in told-by client x r s among e h.0 (came client x r among e) h.1

    -- ---- begins

    -- only a Begin is answered Begun
    begin-call : (n i client epoch number : ℕ) (c : Call) (e : Entry) (t : TransId) → slice_get (journal_of log n) i ≡ Some e → e.event ≡ event.Call client epoch number c → e.reply ≡ Some (reply.Begun t)
        → is_new (state_at log n i) client epoch number ≡ true → (seen : Stamp) × (c ≡ call.Begin seen)
    begin-call n i client epoch number c e t at called replied new = go c law
      where
        after : State
        after = next (state_at log n i) e

        law : TellsIn after c (reply.Begun t)
        law =
            let told = (lawful-at log proper.lawful proper.linked n i e at).told in
            let there : TellsDecided (state_at log n i) after (event.Call client epoch number c) (Some (reply.Begun t)) =
            subst (λ (y : Option Reply). TellsDecided (state_at log n i) after (event.Call client epoch number c) y) replied (subst (λ (y : Event). TellsDecided (state_at log n i) after y e.reply) called told) in
            subst (λ b. Where b (TellsIn after c (reply.Begun t)) (Unit {0})) new there

        go : (c : Call) → TellsIn after c (reply.Begun t) → (seen : Stamp) × (c ≡ call.Begin seen)
        go (call.Begin seen) h = (seen, refl)
        go c h = absurd h

    earlier-all : (ts : ℕ) (x : Stamp) (before : List Stamp) → ts < x.ts → AllByRecursion (λ (s : Stamp). s.ts ≤ ts) before → AllByRecursion (λ (s : Stamp). stamp_cmp s x ≡ Less) before
    earlier-all ts x [] l h = tt
    earlier-all ts x (s ∷ before) l h = ((let a : s.ts ≤ ts = h.0 in stamp_cmp-earlier s x (omega (arith, l, a))), earlier-all ts x before l h.1)

    begun-above : (client : ℕ) (before : List Stamp) (x : Item) (t : TransId) → IsIn x (log.handed client) → x.reply ≡ Some (reply.Begun t) → IsOwn x.mark → HasSeenIn before x.sent → Came x (reply.Begun t)
        → IsOfRaw log x ⊎ ((d : Decision) → IsIn d (decided log) → IsAbove before t d)
    begun-above client before x t among replied own seen (tells_none n) = absurd (n.begun t refl)
    begun-above client before x t among replied own seen (came_again owner y e b y_among at called answer handed new) =
        inl (record { owner = owner; first = y; among = y_among; raw = given.fresh client owner x y among y_among own b; before = b; counted = new; kept = replied ∙ sym handed })
    begun-above client before x t among replied own seen (came_new i e q at sent called answer new) = inr (λ d d_in same.
        let c = begin-call x.server i q.client q.epoch q.number q.call e t at called answer new in
        let k : IsDecision log proper d.0 d.1 = decided-in log proper d.0 d.1 d_in in
        let low : (c.0).ts < (d.0).ts =
        begins_order log proper x.server i q.client q.epoch q.number e c.0 d.0 at (called ∙ ap (event.Call q.client q.epoch q.number) c.1) (answer ∙ ap (λ u. Some (reply.Begun u)) (sym same)) new (d.1, k.committed, k.young) in
        earlier-all (c.0).ts d.0 before low (subst (HasSeenBy before) c.1 (subst (HasSeenIn before) sent seen)))

    one-above : (client : ℕ) (before : List Stamp) (x : Item) (m : Mark) (r : Option Reply) → IsIn x (log.handed client) → x.mark ≡ m → x.reply ≡ r → HasSeen before m x.sent → BeginsAbove log before x m r
    one-above client before x Raw r among mark replied seen = tt
    one-above client before x Repeated r among mark replied seen = tt
    one-above client before x Own None among mark replied seen = tt
    one-above client before x Own (Some (reply.Begun t)) among mark replied seen = begun-above client before x t among replied (subst IsOwn (sym mark) tt) seen (came client x (reply.Begun t) among replied)
    one-above client before x Own (Some r) among mark replied seen = tt

    all-above : (client : ℕ) (before : List Stamp) (xs : List Item) → ((x : Item) → IsIn x xs → IsIn x (log.handed client)) → HaveSeen before xs → BeginAbove log before xs
    all-above client before [] sub h = tt
    all-above client before (x ∷ xs) sub h = (one-above client before x x.mark x.reply (sub x (inl refl)) refl refl h.0, all-above client (before ++ stamps_told x) xs (λ y i. sub y (inr i)) h.1)

    pub kept-promises : ArePromisesKept log
    kept-promises = record { told = told-decided; begun = λ client. all-above client [] (log.handed client) (λ x i. i) (given.seen client) }

pub promises : Promises
promises log proper given = kept-promises log proper given
