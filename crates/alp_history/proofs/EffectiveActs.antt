-- the decided transactions are those that entries decide with effect, and joins are applied where entries apply them so
use Rattle.std.specs.Prelude.{Bool, true, false, cond, not, nat_le, Option, None, Some}
use Rattle.std.specs.List.{list_any}
use Rattle.std.proofs.Common.{◌≡◌, ℕ, zero, suc, ◌≤◌, List, [], ◌∷◌, ◌++◌, flat_map, filter, slice_get, length, refl, sym, ap, subst, ◌∙◌, ◌⊎◌, inl, inr, arith}
use Rattle.std.proofs.lemmas.Bool.Decides.{nat_tests}
use Rattle.std.proofs.lemmas.Bool.{or_parts}
use Rattle.alp_base.specs.declared.ids.JoinNo.{JoinNo}
use Rattle.alp_base.specs.declared.ids.TransId.{TransId}
use Rattle.alp_base.specs.declared.ids.Stamp.{Stamp}
use Rattle.alp_files.specs.declared.call.Call.{Call}
use Rattle.alp_files.specs.declared.call.Call.TheVariants as call
use Rattle.alp_files.specs.declared.reply.Reply.{Reply}
use Rattle.alp_journal.specs.declared.act.Act.{Act}
use Rattle.alp_journal.specs.declared.act.Act.TheVariants as act
use Rattle.alp_journal.specs.declared.event.Event.{Event}
use Rattle.alp_journal.specs.declared.event.Event.TheVariants as event
use Rattle.alp_journal.specs.declared.message.Message.TheVariants as msg
use Rattle.alp_journal.specs.declared.entry.Entry.{Entry}
use Rattle.alp_journal.specs.Along.{Along, Where, state_after}
use Rattle.alp_journal.specs.Ids.{same_trans, same_join, has_join, has_server}
use Rattle.alp_journal.specs.Deeds.{Deed, Performs, Releases, Readies, Applies, Registers, Decides, Forgets, Restarts}
use Rattle.alp_journal.specs.Coordinator.{Fate, Undrawn, Running, Finishing, Committed, Forgotten, Ended, fate_after, decision_in, has_all}
use Rattle.alp_journal.specs.Participant.{Phase, Unseen, Joining, Active, Ready, Applied, Over, phase_after, phase_noted}
use Rattle.alp_journal.specs.Opening.{ReadyNote}
use Rattle.alp_journal.specs.State.{State, state_deed, opened}
use Rattle.alp_journal.specs.Moves.{is_effective, resolved, asks_for, grants_to, begins_at, act_deeds, event_deeds, done_deeds, stops, tried, told, halted, next}
use Rattle.alp_journal.specs.Laws.{IsStopped, TellsStop, regained_by, StartsRight}
use Rattle.alp_history.specs.Log.{Log, journal_of, opening_of, state_at, final, IsIn, decided}
use Rattle.alp_history.specs.Theorems.{IsProper, IsFoundSo, TakesEffect, DecidedThere, AppliedThere, AreListed, Listing}
use Rattle.alp_journal.proofs.IdLemmas.{same_trans-true}
use Rattle.alp_history.proofs.Places.{in-list, past-end, some-same, state-append, all-in}
use Rattle.alp_history.proofs.BegunOrder.{in-left, in-right}
use Rattle.alp_history.proofs.Turned.{in-flat, flat-in}
use Rattle.alp_history.proofs.Logs.{lawful-at, state-suc, stands-from}
use Rattle.alp_history.proofs.Rights.{IsRightDeed, IsRightEntry}
use Rattle.alp_history.proofs.Fates.{fate-cases}
use Rattle.alp_journal.proofs.Origins.{IsEventFrom, event-from}
use Rattle.alp_history.proofs.LifeMoves.{phase-moves, applied-keeps}
use Rattle.alp_history.proofs.Linked.{linked-opened, IsRested, IsDecidedBefore, IsDecidedHere}
use Rattle.alp_history.proofs.Agreed.{size, all-of, at-end, from-end, Nothing, nothing, applied-committed}
use Rattle.alp_history.proofs.HeldAlong.{applies-there}
use Rattle.alp_history.proofs.Decisions.{older-note, decided-in}
use Rattle.alp_history.proofs.ListedActs.{lists}
use Rattle.alp_history.proofs.FoundActs.{stop-acts, finds}
use Rattle.alp_history.proofs.CommitEntries.{along-in, filter-in, append-in, IsPerforming, done-performs, IsRegained, regained, plain-deeds, plain-calm, restart-or, pending-of}

-- ---- where a deed stands among the acts

-- these deeds come by their acts alone
abbrev IsWrite : Deed → Type 0
IsWrite (Decides x js) = Unit {0}
IsWrite (Applies j x) = Unit {0}
IsWrite d = ⊥

abbrev act_of : Deed → Act
act_of (Decides x js) = act.Decided x js
act_of (Applies j x) = act.Applied j x
act_of d = act.Stopped

module _ (s : State) (e : Event) (d : Deed) (w : IsWrite d) where
  by-grant : (t : TransId) (o : Option Call) → IsIn d (grants_to t o) → ⊥
  by-grant t None i = i
  by-grant t (Some c) i = elim i [ inl same ↦ subst IsWrite same w | inr more ↦ more ]

  by-begin : (x : Event) (t : TransId) → IsIn d (begins_at s x t) → ⊥
  by-begin (event.Call client epoch number (call.Begin seen)) t i = elim i [ inl same ↦ subst IsWrite same w | inr more ↦ more ]
  by-begin (event.Call client epoch number c) t i = i
  by-begin x t i = i

  by-one : (x : Deed) (a : Act) → a ≡ act_of x → IsIn d (x ∷ []) → a ≡ act_of d
  by-one x a is i = elim i [ inl same ↦ is ∙ ap act_of (sym same) | inr more ↦ absurd more ]

  by-other : (x : Deed) (a : Act) → (IsWrite x → ⊥) → IsIn d (x ∷ []) → a ≡ act_of d
  by-other x a other i = elim i [ inl same ↦ absurd (other (subst IsWrite same w)) | inr more ↦ absurd more ]

  by-act : (a : Act) → regained_by a ≡ false → IsIn d (act_deeds s e a) → a ≡ act_of d
  by-act (act.Decided x js) h i = by-one (Decides x js) (act.Decided x js) refl i
  by-act (act.Applied j x) h i = by-one (Applies j x) (act.Applied j x) refl i
  by-act (act.Granted t) h i = absurd (by-grant t (asks_for s e t (s.holder.lives t)) i)
  by-act (act.Drawn t) h i = absurd (by-begin e t i)
  by-act (act.Registered t j) h i = by-other (Registers t j) (act.Registered t j) (λ k. k) i
  by-act (act.Readied t j ts) h i = by-other (Readies j t ts) (act.Readied t j ts) (λ k. k) i
  by-act (act.Released t) h i = by-other (Releases t) (act.Released t) (λ k. k) i
  by-act (act.Forgot t) h i = by-other (Forgets t) (act.Forgot t) (λ k. k) i
  by-act (act.Regained epoch clock ready stamps) h i = cc
  by-act (act.Sent to m) h i = absurd i
  by-act act.Stopped h i = absurd i
  by-act act.Failed h i = absurd i

  no-event-write : (x : Deed) → IsWrite x → IsEventFrom s e x → ⊥
  no-event-write (Decides y js) k h = h
  no-event-write (Applies j y) k h = h
  no-event-write x k h = k

  no-done-write : (x : Deed) → IsWrite x → IsPerforming x → ⊥
  no-done-write (Performs t c) k h = k
  no-done-write x k h = h

  calm-act : (acts : List Act) (a : Act) → list_any regained_by acts ≡ false → IsIn a acts → regained_by a ≡ false
  calm-act [] a h i = absurd i
  calm-act (b ∷ acts) a h i = let parts = or_parts (regained_by b) (list_any regained_by acts) h in elim i [ inl same ↦ ap regained_by same ∙ parts.0 | inr more ↦ calm-act acts a parts.1 more ]

  -- of an entry that is no restart
  named : (r : Option Reply) (acts : List Act) → list_any regained_by acts ≡ false → IsIn d (tried s (record { event = e; reply = r; acts = acts })) → IsIn (act_of d) acts
  named r acts calm i = elim (append-in (event_deeds s e r acts ++ flat_map (act_deeds s e) acts) (done_deeds s e r) d i) [
    | inr a ↦ absurd (no-done-write d w (all-in IsPerforming (done_deeds s e r) d (done-performs s e r) a))
    | inl a ↦ elim (append-in (event_deeds s e r acts) (flat_map (act_deeds s e) acts) d a) [
      | inl b ↦ absurd (no-event-write d w (all-in (IsEventFrom s e) (event_deeds s e r acts) d (event-from s e r acts) b))
      | inr b ↦ (let f = flat-in (act_deeds s e) d acts b in subst (λ z. IsIn z acts) (by-act f.0 (calm-act acts f.0 calm f.1) f.2) f.1)
    ]
  ]

-- ---- what comes about by a deed

decision-new : (t : TransId) (y : Stamp × List JoinNo) (d : Deed) (f : Fate) → decision_in (fate_after d t f) ≡ Some y → (decision_in f ≡ Some y) ⊎ (d ≡ Decides y.0 y.1)
decision-new t y d Undrawn = fate-cases (λ g. decision_in g ≡ Some y → (decision_in Undrawn ≡ Some y) ⊎ (d ≡ Decides y.0 y.1)) d t Undrawn inl (λ c h. inl h) (λ j. inl) inl (λ j ts. inl) (λ x js i e. inl) (λ c. inl) (λ j. inl) inl (λ n. inl)
decision-new t y d (Running a js) = fate-cases (λ g. decision_in g ≡ Some y → (decision_in (Running a js) ≡ Some y) ⊎ (d ≡ Decides y.0 y.1)) d t (Running a js) inl (λ c. inl) (λ j. both j (has_server j.server js)) (λ h. inl h) (λ j ts. inl) (λ x ks i e. inl) (λ c h. inl h) (λ j. inl) inl (λ n h. inl h)
  where
    both : (j : JoinNo) (b : Bool) → decision_in (cond b (Running a js) (Running a (js ++ j ∷ []))) ≡ Some y → (decision_in (Running a js) ≡ Some y) ⊎ (d ≡ Decides y.0 y.1)
    both j true h = inl h
    both j false h = inl h
decision-new t y d (Finishing a js vs) =
    fate-cases (λ g. decision_in g ≡ Some y → (decision_in (Finishing a js vs) ≡ Some y) ⊎ (d ≡ Decides y.0 y.1)) d t (Finishing a js vs) inl (λ c. inl) (λ j. inl) inl (λ j ts h. inl h)
    (λ x ks i e h. inr (e ∙ ap (λ (z : Stamp × List JoinNo). Decides z.0 z.1) (some-same (x, ks) y h))) (λ c h. inl h) (λ j. inl) inl (λ n h. inl h)
decision-new t y d (Committed x js ds) =
    fate-cases (λ g. decision_in g ≡ Some y → (decision_in (Committed x js ds) ≡ Some y) ⊎ (d ≡ Decides y.0 y.1)) d t (Committed x js ds) inl (λ c. inl) (λ j. inl) inl (λ j ts. inl) (λ z ks i e. inl) (λ c. inl) (λ j h. inl h) (both (has_all ds js)) (λ n h. inl h)
  where
    both : (b : Bool) → decision_in (cond b (Forgotten x js) (Committed x js ds)) ≡ Some y → (decision_in (Committed x js ds) ≡ Some y) ⊎ (d ≡ Decides y.0 y.1)
    both true h = inl h
    both false h = inl h
decision-new t y d (Forgotten x js) = fate-cases (λ g. decision_in g ≡ Some y → (decision_in (Forgotten x js) ≡ Some y) ⊎ (d ≡ Decides y.0 y.1)) d t (Forgotten x js) inl (λ c. inl) (λ j. inl) inl (λ j ts. inl) (λ z ks i e. inl) (λ c. inl) (λ j. inl) inl (λ n. inl)
decision-new t y d (Ended c) = fate-cases (λ g. decision_in g ≡ Some y → (decision_in (Ended c) ≡ Some y) ⊎ (d ≡ Decides y.0 y.1)) d t (Ended c) inl (λ c. inl) (λ j. inl) inl (λ j ts. inl) (λ z ks i e. inl) (λ c. inl) (λ j. inl) inl (λ n. inl)

abbrev stamp_in : Stamp → Phase → Stamp
stamp_in z (Applied u y) = y
stamp_in z p = z

abbrev trans_in : TransId → Phase → TransId
trans_in v (Applied u y) = u
trans_in v p = v

-- a join that is applied now was, or is by this deed
abbrev NewApplied : Deed → JoinNo → TransId → Stamp → Phase → Phase → Type 0
NewApplied d j t x p q = q ≡ Applied t x → (p ≡ Applied t x) ⊎ ((d ≡ Applies j x) × (x.trans ≡ t))

pub applied-new : (j : JoinNo) (t : TransId) (x : Stamp) (d : Deed) (p : Phase) → phase_after d j p ≡ Applied t x → (p ≡ Applied t x) ⊎ ((d ≡ Applies j x) × (x.trans ≡ t))
applied-new j t x d Unseen = phase-moves (NewApplied d j t x Unseen) d j Unseen inl (λ u c w e h. cc) (λ u c w e. inl) (λ u ts e. inl) (λ y e. inl) inl (λ u. inl) (λ a b e. inl)
applied-new j t x d (Joining u c w) = phase-moves (NewApplied d j t x (Joining u c w)) d j (Joining u c w) inl (λ v a b e. inl) (λ v a b e h. cc) (λ v ts e. inl) (λ y e. inl) (λ h. cc) (λ v. stop (same_trans v u)) (λ a b e h. cc)
  where
    stop : (b : Bool) → NewApplied d j t x (Joining u c w) (cond b Over (Joining u c w))
    stop true h = cc
    stop false h = inl h
applied-new j t x d (Active u c w) = phase-moves (NewApplied d j t x (Active u c w)) d j (Active u c w) inl (λ v a b e. inl) (λ v a b e. inl) (λ v ts e h. cc) (λ y e. inl) (λ h. cc) (λ v. stop (same_trans v u)) (λ a b e h. cc)
  where
    stop : (b : Bool) → NewApplied d j t x (Active u c w) (cond b Over (Active u c w))
    stop true h = cc
    stop false h = inl h
applied-new j t x d (Ready u c ts) = phase-moves (NewApplied d j t x (Ready u c ts)) d j (Ready u c ts) inl (λ v a b e. inl) (λ v a b e. inl) (λ v n e. inl) (λ y e. go y e (same_trans y.trans u) refl) inl (λ v. stop (same_trans v u)) (λ a b e. inl)
  where
    stop : (b : Bool) → NewApplied d j t x (Ready u c ts) (cond b Over (Ready u c ts))
    stop true h = cc
    stop false h = inl h

    go : (y : Stamp) → d ≡ Applies j y → (b : Bool) → same_trans y.trans u ≡ b → NewApplied d j t x (Ready u c ts) (cond b (Applied u y) (Ready u c ts))
    go y e true f h =
        let stamp : y ≡ x = ap (stamp_in y) h in
        let trans : u ≡ t = ap (trans_in u) h in
        inr (e ∙ ap (Applies j) stamp, sym (ap (λ (z : Stamp). z.trans) stamp) ∙ same_trans-true y.trans u f ∙ trans)
    go y e false f h = inl h
applied-new j t x d (Applied u y) = phase-moves (NewApplied d j t x (Applied u y)) d j (Applied u y) inl (λ v a b e. inl) (λ v a b e. inl) (λ v n e. inl) (λ z e. inl) inl (λ v. inl) (λ a b e. inl)
applied-new j t x d Over = phase-moves (NewApplied d j t x Over) d j Over inl (λ v a b e. inl) (λ v a b e. inl) (λ v n e. inl) (λ z e. inl) inl (λ v. inl) (λ a b e. inl)

-- along a list of deeds
module _ (Q : State → Type 0) (d : Deed) (new : (s : State) (f : Deed) → Q (state_deed s f) → Q s ⊎ (f ≡ d)) where
  pub came : (ds : List Deed) (s : State) → Q (state_after state_deed s ds) → Q s ⊎ IsIn d ds
  came [] s h = inl h
  came (f ∷ ds) s h = elim (came ds (state_deed s f) h) [
    | inr i ↦ inr (inr i)
    | inl k ↦ elim (new s f k) [ inl old ↦ inl old | inr is ↦ inr (inl (sym is)) ]
  ]

-- ---- where it came about

-- a write whose entry stands in a journal, and takes effect
record IsWritten (log : Log) (n : ℕ) (d : Deed) : Type 0 where
  place : ℕ
  entry : Entry
  stands : slice_get (journal_of log n) place ≡ Some entry
  names : IsIn (act_of d) entry.acts
  effect : TakesEffect log n place entry (λ clock ready. (stamps : List Stamp) × (is_effective ready clock stamps d ≡ true))

module _ (log : Log) (proper : IsProper log) (n : ℕ) (Q : State → Type 0) (d : Deed) (w : IsWrite d) (new : (s : State) (f : Deed) → Q (state_deed s f) → Q s ⊎ (f ≡ d))
    (same : (s m : State) → s.fates ≡ m.fates → s.phases ≡ m.phases → Q s → Q m) where
  by-entry : (i : ℕ) (e : Entry) → slice_get (journal_of log n) i ≡ Some e → Q (state_at log n (suc i)) → Q (state_at log n i) ⊎ IsWritten log n d
  by-entry i e at h = go (stops e) refl
    where
      step : state_at log n (suc i) ≡ next (state_at log n i) e
      step = state-suc log proper.lawful proper.linked n i e at

      law : IsRightEntry (state_at log n i) e
      law = lawful-at log proper.lawful proper.linked n i e at

      inside : suc i ≤ size log proper n
      inside = in-list (journal_of log n) i e at

      restarted : e.event ≡ event.Restart → IsRegained e.acts → IsIn d (tried (state_at log n i) e) → IsWritten log n d
      restarted is found among = elim (pending-of log proper n i (omega (arith, inside))) [
        | inl none ↦ absurd (subst (IsIn d) none pended.0)
        | inr p ↦
            let from : s.pending ≡ tried (state_at log n p.place) p.entry = ap (λ (z : State). z.pending) p.leaves in
            record {
              place = p.place;
              entry = p.entry;
              stands = p.stands;
              names = named (state_at log n p.place) (p.entry).event d w (p.entry).reply (p.entry).acts (plain-calm (state_at log n p.place) p.entry (lawful-at log proper.lawful proper.linked n p.place p.entry p.stands) p.plain) (subst (IsIn d) from pended.0);
              effect = inr (record {
                entry = e;
                epoch = found.epoch;
                clock = found.clock;
                ready = found.ready;
                stamps = found.stamps;
                stands = ap (slice_get (journal_of log n)) (sym p.next_one) ∙ at;
                restart = is;
                found = found.is;
                so_found = (found.stamps, pended.1);
              });
            }
      ]
        where
          s : State
          s = state_at log n i

          not-start : (a b : ℕ) → IsIn d (Restarts a b ∷ []) → ⊥
          not-start a b i = elim i [ inl same ↦ subst IsWrite same w | inr more ↦ more ]

          made : IsIn d (resolved (state_at log n i) found.ready found.clock found.stamps)
          made =
              let all : IsIn d ((resolved (state_at log n i) found.ready found.clock found.stamps ++ Restarts found.epoch found.clock ∷ []) ++ []) =
              elim (append-in ((resolved (state_at log n i) found.ready found.clock found.stamps ++ Restarts found.epoch found.clock ∷ []) ++ []) [] d
              (subst (λ (z : Entry). IsIn d (tried (state_at log n i) z)) (λ j. record { event = is j; reply = e.reply; acts = found.is j }) among)) [ inl a ↦ a | inr none ↦ absurd none ] in
              elim (append-in (resolved (state_at log n i) found.ready found.clock found.stamps ++ Restarts found.epoch found.clock ∷ []) [] d all) [
                | inr none ↦ absurd none
                | inl a ↦ elim (append-in (resolved (state_at log n i) found.ready found.clock found.stamps) (Restarts found.epoch found.clock ∷ []) d a) [ inl b ↦ b | inr b ↦ absurd (not-start found.epoch found.clock b) ]
              ]

          pended : IsIn d (state_at log n i).pending × (is_effective found.ready found.clock found.stamps d ≡ true)
          pended = filter-in (is_effective found.ready found.clock found.stamps) (state_at log n i).pending d made

      written : IsIn d (tried (state_at log n i) e) → stops e ≡ false → IsWritten log n d
      written among goes = elim (restart-or e.event) [
        | inl is ↦ restarted is (regained (state_at log n i) e.acts (subst (StartsRight (state_at log n i) e) is law.restart).0) among
        | inr plain ↦ record { place = i; entry = e; stands = at; names = named (state_at log n i) e.event d w e.reply e.acts (plain-calm (state_at log n i) e law plain) among; effect = inl goes }
      ]

      go : (b : Bool) → stops e ≡ b → Q (state_at log n i) ⊎ IsWritten log n d
      go true stopped =
          let is : state_at log n (suc i) ≡ halted (state_at log n i) e = step ∙ ap (λ b. cond b (halted (state_at log n i) e) (told (state_at log n i) e)) stopped in
          inl (same (halted (state_at log n i) e) (state_at log n i) refl refl (subst Q is h))
      go false goes =
          let is : state_at log n (suc i) ≡ told (state_at log n i) e = step ∙ ap (λ b. cond b (halted (state_at log n i) e) (told (state_at log n i) e)) goes in
          elim (came Q d new (tried (state_at log n i) e) (state_at log n i) (same (told (state_at log n i) e) (state_after state_deed (state_at log n i) (tried (state_at log n i) e)) refl refl (subst Q is h))) [
            | inl old ↦ inl old
            | inr among ↦ inr (written among goes)
          ]

  by-journal : (i : ℕ) → i ≤ size log proper n → Q (state_at log n i) → Q (state_at log n 0) ⊎ IsWritten log n d
  by-journal zero le h = inl h
  by-journal (suc i) le h = found (slice_get (journal_of log n) i) refl (λ old. by-journal i (let m : suc i ≤ size log proper n = le in omega (arith, m)) old)
    where
      found : (o : Option Entry) → slice_get (journal_of log n) i ≡ o → (Q (state_at log n i) → Q (state_at log n 0) ⊎ IsWritten log n d) → Q (state_at log n 0) ⊎ IsWritten log n d
      found None at before = absurd (let l : length (journal_of log n) ≤ i = past-end (journal_of log n) i at in let m : suc i ≤ size log proper n = le in omega (arith, l, m))
      found (Some e) at before = elim (by-entry i e at h) [ inl old ↦ before old | inr made ↦ inr made ]

-- ---- what an opening says

noted-applied : (rs : List ReadyNote) (j : JoinNo) (t : TransId) (x : Stamp) → phase_noted rs j ≡ Applied t x → ⊥
noted-applied [] j t x h = cc
noted-applied (r ∷ rs) j t x h = go (same_join r.join j) h (λ k. noted-applied rs j t x k)
  where
    go : (b : Bool) → cond b (Ready r.trans r.client r.ts) (phase_noted rs j) ≡ Applied t x → (phase_noted rs j ≡ Applied t x → ⊥) → ⊥
    go true h rest = cc
    go false h rest = rest h

module _ (log : Log) (proper : IsProper log) where
  opened-decided : (n : ℕ) (x : Stamp) (js : List JoinNo) → (opening_of log n).epoch ≤ x.trans.epoch → decision_in ((opened (opening_of log n)).fates x.trans) ≡ Some (x, js) → ⊥
  opened-decided n x js young h = go ((opened (opening_of log n)).fates x.trans) h ((linked-opened log proper n).fates x.trans)
    where
      before : (y : Stamp) (ks : List JoinNo) → ◌≡◌ {A = Option (Stamp × List JoinNo)} (Some (y, ks)) (Some (x, js)) → IsDecidedBefore log proper n y ks ⊎ IsDecidedHere log proper n [] x.trans y ks → ⊥
      before y ks e r = elim r [
        | inl b ↦ older-note log proper n x js (subst (λ (z : Stamp × List JoinNo). IsDecidedBefore log proper n z.0 z.1) (some-same (y, ks) (x, js) e) b) young
        | inr k ↦ (let wrong : None ≡ Some k.0.0 = k.0.1 in cc)
      ]

      go : (f : Fate) → decision_in f ≡ Some (x, js) → IsRested log proper n [] x.trans f → ⊥
      go Undrawn e r = cc
      go (Running c ks) e r = cc
      go (Finishing c ks vs) e r = cc
      go (Ended c) e r = cc
      go (Committed y ks ds) e r = before y ks e r.1
      go (Forgotten y ks) e r = before y ks e r.1

  timed : (a b : ℕ) → nat_le a b ≡ true → a ≤ b
  timed a b h = grind (arith, nat_tests, h)

  not-true : (b : Bool) → not b ≡ true → b ≡ false
  not-true true h = cc
  not-true false h = refl

  decided-there : (x : Stamp) (js : List JoinNo) → IsIn (x, js) (decided log) → DecidedThere log x.trans.server x js
  decided-there x js i =
      let d = decided-in log proper x js i in
      let n : ℕ = x.trans.server in
      elim (by-journal log proper n (λ s. decision_in (s.fates x.trans) ≡ Some (x, js)) (Decides x js) tt (λ s f h. decision-new x.trans (x, js) f (s.fates x.trans) h)
      (λ s m fates phases h. ap (λ (f : TransId → Fate). decision_in (f x.trans)) (sym fates) ∙ h) (size log proper n) (all-of log proper n)
      (from-end log proper n (λ s. decision_in (s.fates x.trans) ≡ Some (x, js)) d.committed)) [
        | inl old ↦ absurd (opened-decided n x js d.young old)
        | inr w ↦ record {
          place = w.place;
          entry = w.entry;
          stands = w.stands;
          names = w.names;
          effect = elim w.effect [
            | inl goes ↦ inl goes
            | inr f ↦ inr (record { entry = f.entry; epoch = f.epoch; clock = f.clock; ready = f.ready; stamps = f.stamps; stands = f.stands; restart = f.restart; found = f.found; so_found = timed x.ts f.clock f.so_found.1 })
          ];
        }
      ]

  applied-there : (n : ℕ) (j : JoinNo) (t : TransId) (x : Stamp) → (final log n).phases j ≡ Applied t x → AppliedThere log n j x
  applied-there n j t x h =
      elim (by-journal log proper n (λ s. s.phases j ≡ Applied t x) (Applies j x) tt (λ s f k. elim (applied-new j t x f (s.phases j) k) [ inl old ↦ inl old | inr new ↦ inr new.0 ])
      (λ s m fates phases k. ap (λ (p : JoinNo → Phase). p j) (sym phases) ∙ k) (size log proper n) (all-of log proper n)
      (from-end log proper n (λ s. s.phases j ≡ Applied t x) h)) [
        | inl old ↦ absurd (noted-applied (opening_of log n).ready j t x old)
        | inr w ↦ record {
          place = w.place;
          entry = w.entry;
          stands = w.stands;
          names = w.names;
          effect = elim w.effect [
            | inl goes ↦ inl goes
            | inr f ↦ inr (record { entry = f.entry; epoch = f.epoch; clock = f.clock; ready = f.ready; stamps = f.stamps; stands = f.stands; restart = f.restart; found = f.found; so_found = not-true (has_join j f.ready) f.so_found.1 })
          ];
        }
      ]

  -- ---- what is applied with effect

  applied-from : (n i : ℕ) (j : JoinNo) (t : TransId) (x : Stamp) → i ≤ size log proper n → (state_at log n i).phases j ≡ Applied t x → (final log n).phases j ≡ Applied t x
  applied-from n i j t x le h =
      at-end log proper n (λ s. s.phases j ≡ Applied t x)
      (stands-from log proper.lawful proper.linked Nothing (λ s. s.phases j ≡ Applied t x) (λ s d r q. applied-keeps t x d j (s.phases j) q) (λ s desk down pending q. q) n i (size log proper n)
      (λ k e a b at m d q law from. tt) (λ k e epoch clock q l. tt) (h, nothing (state_at log n i).pending) (size log proper n) le (omega arith) (all-of log proper n)).0

  stays-applied : (j : JoinNo) (x : Stamp) (ds : List Deed) (s : State) → s.phases j ≡ Applied x.trans x → (state_after state_deed s ds).phases j ≡ Applied x.trans x
  stays-applied j x [] s h = h
  stays-applied j x (d ∷ ds) s h = stays-applied j x ds (state_deed s d) (applied-keeps x.trans x d j (s.phases j) h)

  applied-now : (j : JoinNo) (x : Stamp) (e : Event) (s m : State) → m.phases j ≡ s.phases j → IsRightDeed e s (Applies j x) → (state_deed m (Applies j x)).phases j ≡ Applied x.trans x
  applied-now j x e s m same law = applies-there x j law.application.client law.application.ts (m.phases j) (same ∙ law.application.ready)

  applied-among : (j : JoinNo) (x : Stamp) (e : Event) (ds : List Deed) (s : State) → Along state_deed (IsRightDeed e) s ds → IsIn (Applies j x) ds → (state_after state_deed s ds).phases j ≡ Applied x.trans x
  applied-among j x e [] s h i = absurd i
  applied-among j x e (d ∷ ds) s h (inl same) =
      stays-applied j x ds (state_deed s d) (subst (λ (y : Deed). (state_deed s y).phases j ≡ Applied x.trans x) same (applied-now j x e s s refl (subst (IsRightDeed e s) (sym same) h.0)))
  applied-among j x e (d ∷ ds) s h (inr more) = applied-among j x e ds (state_deed s d) h.1 more

  -- a restart applies nothing by an act
  not-regained : (acts : List Act) (j : JoinNo) (x : Stamp) → IsRegained acts → IsIn (act.Applied j x) acts → ⊥
  not-regained acts j x h i = elim (subst (IsIn (act.Applied j x)) h.is i) [ inl e ↦ cc | inr more ↦ more ]

  module _ (n i : ℕ) (e : Entry) (at : slice_get (journal_of log n) i ≡ Some e) (j : JoinNo) (x : Stamp) (names : IsIn (act.Applied j x) e.acts) where
    law : IsRightEntry (state_at log n i) e
    law = lawful-at log proper.lawful proper.linked n i e at

    plain : e.event ≡ event.Restart → ⊥
    plain is = not-regained e.acts j x (regained (state_at log n i) e.acts (subst (StartsRight (state_at log n i) e) is law.restart).0) names

    deeds : Along state_deed (IsRightDeed e.event) (state_at log n i) (tried (state_at log n i) e)
    deeds = plain-deeds (state_at log n i) e law plain

    step : state_at log n (suc i) ≡ next (state_at log n i) e
    step = state-suc log proper.lawful proper.linked n i e at

    goes-applied : stops e ≡ false → (state_at log n (suc i)).phases j ≡ Applied x.trans x
    goes-applied goes =
        let s : State = state_at log n i in
        let among : IsIn (Applies j x) (tried s e) =
        in-left (Applies j x) (event_deeds s e.event e.reply e.acts ++ flat_map (act_deeds s e.event) e.acts) (done_deeds s e.event e.reply)
        (in-right (Applies j x) (event_deeds s e.event e.reply e.acts) (flat_map (act_deeds s e.event) e.acts) (in-flat (act_deeds s e.event) (act.Applied j x) (Applies j x) e.acts names (inl refl))) in
        ap (λ (z : State). z.phases j) (step ∙ ap (λ b. cond b (halted s e) (told s e)) goes) ∙ applied-among j x e.event (tried s e) s deeds among

    -- the one write of an entry that stops
    module _ (stopped : stops e ≡ true) (f : IsFoundSo log n i (λ clock ready. has_join j ready ≡ false)) where
      shape : (b : Act) × (e.acts ≡ act.Applied j x ∷ b ∷ [])
      shape = stop-acts e.acts (act.Applied j x) refl (subst (λ b. Where b (IsStopped e.acts × TellsStop e.event e.reply) (Unit {0})) stopped law.stopped).0 names

      abbrev tail : List Deed
      tail = (act_deeds (state_at log n i) e.event shape.0 ++ []) ++ done_deeds (state_at log n i) e.event e.reply

      commit-alone : (s : State) (x : Event) (r : Option Reply) (acts : List Act) (from : ℕ) (y : Stamp) → x ≡ event.Arrive from (msg.Commit y.trans j y) → event_deeds s x r acts ≡ []
      commit-alone s x r acts from y is = ap (λ z. event_deeds s z r acts) is

      told_by : (m : State) × IsRightDeed e.event m (Applies j x)
      told_by =
          along-in (IsRightDeed e.event) (tried (state_at log n i) e) (state_at log n i) (Applies j x) deeds
          (in-left (Applies j x) (event_deeds (state_at log n i) e.event e.reply e.acts ++ flat_map (act_deeds (state_at log n i) e.event) e.acts) (done_deeds (state_at log n i) e.event e.reply)
          (in-right (Applies j x) (event_deeds (state_at log n i) e.event e.reply e.acts) (flat_map (act_deeds (state_at log n i) e.event) e.acts) (in-flat (act_deeds (state_at log n i) e.event) (act.Applied j x) (Applies j x) e.acts names (inl refl))))

      all-deeds : tried (state_at log n i) e ≡ Applies j x ∷ tail
      all-deeds =
          (λ k. (commit-alone (state_at log n i) e.event e.reply e.acts told_by.1.application.from x told_by.1.application.told k ++ flat_map (act_deeds (state_at log n i) e.event) (shape.1 k)) ++ done_deeds (state_at log n i) e.event e.reply)

      first : IsRightDeed e.event (state_at log n i) (Applies j x)
      first = (subst (Along state_deed (IsRightDeed e.event) (state_at log n i)) all-deeds deeds).0

      down : state_at log n (suc i) ≡ halted (state_at log n i) e
      down = step ∙ ap (λ b. cond b (halted (state_at log n i) e) (told (state_at log n i) e)) stopped

      abbrev rest : List Deed
      rest = filter (is_effective f.ready f.clock f.stamps) tail

      made : resolved (halted (state_at log n i) e) f.ready f.clock f.stamps ≡ Applies j x ∷ rest
      made = ap (filter (is_effective f.ready f.clock f.stamps)) all-deeds ∙ ap (λ b. cond (not b) (Applies j x ∷ rest) rest) f.so_found

      again : Entry
      again = record { event = event.Restart; reply = (f.entry).reply; acts = act.Regained f.epoch f.clock f.ready f.stamps ∷ [] }

      up : state_at log n (suc (suc i)) ≡ next (halted (state_at log n i) e) (record { event = event.Restart; reply = (f.entry).reply; acts = act.Regained f.epoch f.clock f.ready f.stamps ∷ [] })
      up =
          state-suc log proper.lawful proper.linked n (suc i) f.entry f.stands
          ∙ (λ k. next (down k) (record { event = f.restart k; reply = (f.entry).reply; acts = f.found k }))

      found-applied : (state_at log n (suc (suc i))).phases j ≡ Applied x.trans x
      found-applied =
          let m : State = halted (state_at log n i) e in
          let one : (state_after state_deed m (Applies j x ∷ rest)).phases j ≡ Applied x.trans x = stays-applied j x rest (state_deed m (Applies j x)) (applied-now j x e.event (state_at log n i) m refl first) in
          let two : (state_after state_deed m (resolved m f.ready f.clock f.stamps)).phases j ≡ Applied x.trans x = ap (λ ds. (state_after state_deed m ds).phases j) made ∙ one in
          let ds : List Deed = resolved m f.ready f.clock f.stamps in
          let start : List Deed = Restarts f.epoch f.clock ∷ [] in
          ap (λ (z : State). z.phases j) (up ∙ refl)
          ∙ ap (λ (z : State). z.phases j) (state-append state_deed m ((ds ++ start) ++ []) [] ∙ state-append state_deed m (ds ++ start) [] ∙ state-append state_deed m ds start)
          ∙ applied-keeps x.trans x (Restarts f.epoch f.clock) j ((state_after state_deed m ds).phases j) two

      behind : suc (suc i) ≤ size log proper n
      behind = in-list (journal_of log n) (suc i) f.entry f.stands

  applied : (n : ℕ) (j : JoinNo) (x : Stamp) → AppliedThere log n j x → (final log n).phases j ≡ Applied x.trans x
  applied n j x w = go (stops w.entry) refl w.effect
    where
      run-on : stops w.entry ≡ false → (final log n).phases j ≡ Applied x.trans x
      run-on goes = applied-from n (suc w.place) j x.trans x (in-list (journal_of log n) w.place w.entry w.stands) (goes-applied n w.place w.entry w.stands j x w.names goes)

      go : (b : Bool) → stops w.entry ≡ b → TakesEffect log n w.place w.entry (λ clock ready. has_join j ready ≡ false) → (final log n).phases j ≡ Applied x.trans x
      go false goes effect = run-on goes
      go true stopped (inl goes) = run-on goes
      go true stopped (inr f) = applied-from n (suc (suc w.place)) j x.trans x (behind n w.place w.entry w.stands j x w.names stopped f) (found-applied n w.place w.entry w.stands j x w.names stopped f)

  decided-by : (n : ℕ) (x : Stamp) (js : List JoinNo) → DecidedThere log n x js → IsIn (x, js) (decided log)
  decided-by n x js w = go (stops w.entry) refl w.effect
    where
      go : (b : Bool) → stops w.entry ≡ b → TakesEffect log n w.place w.entry (λ clock ready. x.ts ≤ clock) → IsIn (x, js) (decided log)
      go false goes effect = lists log proper n w.place w.entry x js w.stands goes w.names
      go true stopped (inl goes) = lists log proper n w.place w.entry x js w.stands goes w.names
      go true stopped (inr f) = finds log proper n w.place f.epoch f.clock w.entry f.entry f.ready f.stamps x js w.stands f.stands stopped w.names f.restart f.found f.so_found

  listed : AreListed log
  listed = record {
    lists = decided-by;
    decides = decided-there;
    applied = applied;
    applies = λ n j t x h. ((applied-committed log proper n j t x h).0, applied-there n j t x h);
  }

pub listing : Listing
listing = listed
