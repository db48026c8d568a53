-- what an entry that did not stop names as decided is one of the decided transactions
use Rattle.std.specs.Prelude.{cond, false, Option, Some}
use Rattle.std.proofs.Common.{◌≡◌, ℕ, suc, ◌+◌, ◌≤◌, List, [], ◌∷◌, ◌++◌, flat_map, slice_get, refl, sym, ap, subst, ◌∙◌, inl, inr, arith}
use Rattle.alp_base.specs.declared.ids.JoinNo.{JoinNo}
use Rattle.alp_base.specs.declared.ids.TransId.{TransId}
use Rattle.alp_base.specs.declared.ids.Stamp.{Stamp}
use Rattle.alp_files.specs.declared.reply.Reply.{Reply}
use Rattle.alp_journal.specs.declared.act.Act.{Act}
use Rattle.alp_journal.specs.declared.act.Act.TheVariants as act
use Rattle.alp_journal.specs.declared.event.Event.{Event}
use Rattle.alp_journal.specs.declared.event.Event.TheVariants as event
use Rattle.alp_journal.specs.declared.entry.Entry.{Entry}
use Rattle.alp_journal.specs.Along.{Along, state_after}
use Rattle.alp_journal.specs.Deeds.{Deed, Decides, Restarts}
use Rattle.alp_journal.specs.Coordinator.{Fate, decision_in, decided as decided_fate}
use Rattle.alp_journal.specs.State.{State, state_deed, ids_after}
use Rattle.alp_journal.specs.Moves.{event_deeds, act_deeds, done_deeds, stops, tried, told, halted, next}
use Rattle.alp_journal.specs.Laws.{CountsOn, MayDecide, Regains}
use Rattle.alp_history.specs.Log.{Log, journal_of, opening_of, state_at, IsIn, decided}
use Rattle.alp_history.specs.Theorems.{IsProper, HasCommitted}
use Rattle.alp_journal.proofs.IdLemmas.{same_trans-itself}
use Rattle.alp_history.proofs.Places.{in-list}
use Rattle.alp_history.proofs.Logs.{lawful-at, state-suc, server-stays}
use Rattle.alp_history.proofs.Rights.{IsRightDeed, IsRightEntry}
use Rattle.alp_history.proofs.Fates.{decision-stays}
use Rattle.alp_history.proofs.Agreed.{size, decided-from, at-end, all-of}
use Rattle.alp_history.proofs.Turned.{in-flat, aged-at}
use Rattle.alp_history.proofs.BegunOrder.{in-left, in-right}
use Rattle.alp_history.proofs.Decisions.{here-decision, in-decided, older-note}

pub stays : (ds : List Deed) (s : State) (t : TransId) (y : Stamp × List JoinNo) → decision_in (s.fates t) ≡ Some y → decision_in ((state_after state_deed s ds).fates t) ≡ Some y
stays [] s t y h = h
stays (d ∷ ds) s t y h = stays ds (state_deed s d) t y (decision-stays y d t (s.fates t) h)

epoch-up : (s : State) (d : Deed) → CountsOn s d → s.ids.epoch ≤ (ids_after s.ids d).epoch
epoch-up s (Restarts epoch clock) h = let up : epoch ≡ s.ids.epoch + 1 = h in omega (arith, up)
epoch-up s d h = omega arith

just-decided : (e : Event) (s : State) (x : Stamp) (js : List JoinNo) → MayDecide e s x js → decision_in ((state_deed s (Decides x js)).fates x.trans) ≡ Some (x, js)
just-decided e s x js law =
    ap (λ b. decision_in (cond b (decided_fate x js (s.fates x.trans)) (s.fates x.trans))) (same_trans-itself x.trans)
    ∙ ap (λ (f : Fate). decision_in (decided_fate x js f)) law.finishing

-- where the deed stands among those of an entry
pub record DecidedAmong (e : Event) (s : State) (ds : List Deed) (x : Stamp) (js : List JoinNo) : Type 0 where
  pub there : State
  pub law : MayDecide e there x js
  pub server : (there.holder).server ≡ s.holder.server
  pub epoch : s.ids.epoch ≤ (there.ids).epoch
  pub after : decision_in ((state_after state_deed s ds).fates x.trans) ≡ Some (x, js)

among : (e : Event) (ds : List Deed) (s : State) (x : Stamp) (js : List JoinNo) → Along state_deed (IsRightDeed e) s ds → IsIn (Decides x js) ds → DecidedAmong e s ds x js
among e [] s x js h i = absurd i
among e (d ∷ ds) s x js h (inl same) =
    let law : IsRightDeed e s (Decides x js) = subst (IsRightDeed e s) (sym same) h.0 in
    record {
      there = s;
      law = law.decision;
      server = refl;
      epoch = omega arith;
      after = stays ds (state_deed s d) x.trans (x, js) (subst (λ (y : Deed). decision_in ((state_deed s y).fates x.trans) ≡ Some (x, js)) same (just-decided e s x js law.decision));
    }
among e (d ∷ ds) s x js h (inr more) =
    let rest = among e ds (state_deed s d) x js h.1 more in
    let up : s.ids.epoch ≤ (ids_after s.ids d).epoch = epoch-up s d (h.0).counts in
    let low : (ids_after s.ids d).epoch ≤ (rest.there).ids.epoch = rest.epoch in
    record {
      there = rest.there;
      law = rest.law;
      server = rest.server ∙ server-stays d s.holder;
      epoch = omega (arith, up, low);
      after = rest.after;
    }

not-restart : (s : State) (acts : List Act) (x : Stamp) (js : List JoinNo) → Regains s acts → IsIn (act.Decided x js) acts → ⊥
not-restart s (act.Regained a b c d ∷ []) x js h i = elim i [ inl e ↦ cc | inr none ↦ absurd none ]
not-restart s acts x js h i = absurd h

module _ (log : Log) (proper : IsProper log) where
  pub deeds-of : (n i : ℕ) (x : Stamp) (js : List JoinNo) (ev : Event) (r : Option Reply) (acts : List Act) → IsRightEntry (state_at log n i) (record { event = ev; reply = r; acts = acts }) → IsIn (act.Decided x js) acts
      → Along state_deed (IsRightDeed ev) (state_at log n i) (tried (state_at log n i) (record { event = ev; reply = r; acts = acts }))
  deeds-of n i x js event.Restart r acts law k = absurd (not-restart (state_at log n i) acts x js law.restart.0 k)
  deeds-of n i x js (event.Call client epoch number c) r acts law k = law.deeds
  deeds-of n i x js (event.Arrive from m) r acts law k = law.deeds
  deeds-of n i x js (event.Timeout t) r acts law k = law.deeds
  deeds-of n i x js event.Tick r acts law k = law.deeds
  deeds-of n i x js event.Force r acts law k = law.deeds

  -- what is decided by a deed of an entry, and stands after a later one, is one of the decided transactions
  pub listed-by : (n i k : ℕ) (ev : Event) (ds : List Deed) (x : Stamp) (js : List JoinNo) → Along state_deed (IsRightDeed ev) (state_at log n i) ds → IsIn (Decides x js) ds
      → suc i ≤ size log proper n → k ≤ size log proper n → decision_in ((state_at log n k).fates x.trans) ≡ Some (x, js) → IsIn (x, js) (decided log)
  listed-by n i k ev ds x js law deed inside le here =
      let before : i ≤ size log proper n = (let l : suc i ≤ size log proper n = inside in omega (arith, l)) in
      let found = among ev ds (state_at log n i) x js law deed in
      let committed : HasCommitted log n x js = at-end log proper n (λ y. decision_in (y.fates x.trans) ≡ Some (x, js)) (decided-from log proper n x.trans (x, js) k (size log proper n) le (all-of log proper n) here) in
      let old : (opening_of log n).epoch ≤ (state_at log n i).ids.epoch = (aged-at log proper n i before).0 in
      let up : (state_at log n i).ids.epoch ≤ (found.there).ids.epoch = found.epoch in
      let now : x.trans.epoch ≡ (found.there).ids.epoch = (found.law).now in
      let late : (opening_of log n).epoch ≤ x.trans.epoch = omega (arith, old, up, now) in
      in-decided log proper x js (here-decision log proper n x js committed (λ b. older-note log proper n x js b late))

  -- what an entry names as decided, where nothing stopped, is one of the decided transactions, with these joins
  pub lists : (n i : ℕ) (e : Entry) (x : Stamp) (js : List JoinNo) → slice_get (journal_of log n) i ≡ Some e → stops e ≡ false → IsIn (act.Decided x js) e.acts → IsIn (x, js) (decided log)
  lists n i e x js at going stands =
      let s : State = state_at log n i in
      let inside : suc i ≤ size log proper n = in-list (journal_of log n) i e at in
      let evs : List Deed = event_deeds s e.event e.reply e.acts in
      let mid : List Deed = flat_map (act_deeds s e.event) e.acts in
      let deed : IsIn (Decides x js) (tried s e) =
      in-left (Decides x js) (evs ++ mid) (done_deeds s e.event e.reply) (in-right (Decides x js) evs mid (in-flat (act_deeds s e.event) (act.Decided x js) (Decides x js) e.acts stands (inl refl))) in
      let law = deeds-of n i x js e.event e.reply e.acts (lawful-at log proper.lawful proper.linked n i e at) stands in
      let found = among e.event (tried s e) s x js law deed in
      let after : decision_in ((next s e).fates x.trans) ≡ Some (x, js) = subst (λ b. decision_in ((cond b (halted s e) (told s e)).fates x.trans) ≡ Some (x, js)) (sym going) found.after in
      let here : decision_in ((state_at log n (suc i)).fates x.trans) ≡ Some (x, js) = subst (λ (y : State). decision_in (y.fates x.trans) ≡ Some (x, js)) (sym (state-suc log proper.lawful proper.linked n i e at)) after in
      listed-by n i (suc i) e.event (tried s e) x js law deed inside inside here
