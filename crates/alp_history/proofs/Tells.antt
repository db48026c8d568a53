-- the stamps that clients are told are of decided transactions
use Rattle.std.specs.Prelude.{Bool, true, false, cond, ◌==◌, Option, None, Some}
use Rattle.std.proofs.Common.{◌≡◌, ℕ, suc, ◌≤◌, List, [], ◌∷◌, sym, ap, subst, ◌∙◌, inl, inr}
use Rattle.alp_base.specs.declared.ids.JoinNo.{JoinNo}
use Rattle.alp_base.specs.declared.ids.TransId.{TransId}
use Rattle.alp_base.specs.declared.ids.Stamp.{Stamp}
use Rattle.alp_files.specs.declared.call.Call.{Call}
use Rattle.alp_files.specs.declared.call.Call.TheVariants as call
use Rattle.alp_files.specs.declared.reply.Reply.{Reply}
use Rattle.alp_files.specs.declared.reply.Reply.TheVariants as reply
use Rattle.alp_files.specs.declared.reply.Ended.{Ended as Ending}
use Rattle.alp_files.specs.declared.reply.Ended.TheVariants as ending
use Rattle.alp_journal.specs.declared.event.Event.{Event}
use Rattle.alp_journal.specs.declared.event.Event.TheVariants as event
use Rattle.alp_journal.specs.Along.{Where}
use Rattle.alp_journal.specs.Coordinator.{Fate, Undrawn, Running, Finishing, Committed, Forgotten, Ended, decision_in}
use Rattle.alp_journal.specs.State.{State}
use Rattle.alp_journal.specs.Moves.{next}
use Rattle.alp_journal.specs.Laws.{TellsIn, TellsDecided, ending_of}
use Rattle.alp_history.specs.Log.{Log, Decision, journal_of, state_at, final, IsIn}
use Rattle.alp_history.specs.Items.{stamps_in}
use Rattle.alp_history.specs.Theorems.{IsProper, HasCommitted, TellsOfDecided, Tellings}
use Rattle.alp_history.proofs.Places.{in-list, some-same}
use Rattle.alp_history.proofs.Logs.{lawful-at, state-suc}
use Rattle.alp_history.proofs.Agreed.{size, all-of, at-end, decided-from, committed-parts}
use Rattle.alp_history.proofs.Linked.{IsRested, IsDecidedHere}
use Rattle.alp_history.proofs.Decisions.{IsDecision, rested, in-decided, linked-end}

-- a decision that an outcome tells of
pub outcome-decision : (s : State) (t : TransId) (f : Fate) (y : Stamp) → ending.Committed y ≡ ending_of s t f → (js : List JoinNo) × (decision_in f ≡ Some (y, js))
outcome-decision s t (Committed z [] ds) y e = go (t.epoch == s.ids.epoch) e
  where
    go : (b : Bool) → ending.Committed y ≡ cond {A = Ending} b (ending.Committed z) ending.Unknown → (ks : List JoinNo) × (decision_in (Committed z [] ds) ≡ Some (y, ks))
    go true e = ([], (let same : y ≡ z = cc in ap (λ (w : Stamp). Some (w, [])) (sym same)))
    go false e = cc
outcome-decision s t (Committed z (j ∷ js) ds) y e = (j ∷ js, (let same : y ≡ z = cc in ap (λ (w : Stamp). Some (w, j ∷ js)) (sym same)))
outcome-decision s t (Forgotten z js) y e = go (t.epoch == s.ids.epoch) e
  where
    go : (b : Bool) → ending.Committed y ≡ cond {A = Ending} b (ending.Committed z) ending.Unknown → (ks : List JoinNo) × (decision_in (Forgotten z js) ≡ Some (y, ks))
    go true e = (js, (let same : y ≡ z = cc in ap (λ (w : Stamp). Some (w, js)) (sym same)))
    go false e = cc
outcome-decision s t (Ended c) y e = go (t.epoch == s.ids.epoch) e
  where
    go : (b : Bool) → ending.Committed y ≡ cond {A = Ending} b ending.Aborted ending.Unknown → (js : List JoinNo) × (decision_in (Ended c) ≡ Some (y, js))
    go true e = cc
    go false e = cc
outcome-decision s t Undrawn y e = cc
outcome-decision s t (Running c js) y e = cc
outcome-decision s t (Finishing c js vs) y e = cc

-- what a reply tells is decided there, of some transaction
told-decision : (s : State) (c : Call) (r : Reply) (x : Stamp) → TellsIn s c r → IsIn x (stamps_in r) → (t : TransId) × (js : List JoinNo) × (decision_in (s.fates t) ≡ Some (x, js))
told-decision s c (reply.Committed y) x h i = elim i [
  | inl same ↦ (y.trans, h.0, h.1 ∙ ap (λ (w : Stamp). Some (w, h.0)) (sym same))
  | inr n ↦ absurd n
]
told-decision s (call.Outcome t) (reply.Ended (ending.Committed y)) x h i = elim i [
  | inl same ↦ (let d = outcome-decision s t (s.fates t) y h.1 in (t, d.0, d.1 ∙ ap (λ (w : Stamp). Some (w, d.0)) (sym same)))
  | inr n ↦ absurd n
]
told-decision s c (reply.Ended (ending.Committed y)) x h i = absurd h
told-decision s c (reply.Ended z) x h i = absurd i
told-decision s c r x h i = absurd i

module _ (log : Log) (proper : IsProper log) where
  -- the decision of a transaction is that of its stamp
  pub decision-trans : (n : ℕ) (t : TransId) (x : Stamp) (js : List JoinNo) → decision_in ((final log n).fates t) ≡ Some (x, js) → x.trans ≡ t
  decision-trans n t x js e = go ((final log n).fates t) e ((linked-end log proper n).fates t)
    where
      go : (f : Fate) → decision_in f ≡ Some (x, js) → IsRested log proper n (final log n).holder.applied t f → x.trans ≡ t
      go (Committed y ks ds) e r = ap (λ (d : Decision). d.0.trans) (sym (some-same (y, ks) (x, js) e)) ∙ r.0
      go (Forgotten y ks) e r = ap (λ (d : Decision). d.0.trans) (sym (some-same (y, ks) (x, js) e)) ∙ r.0
      go Undrawn e r = (let wrong : None ≡ Some (x, js) = e in cc)
      go (Running c ks) e r = (let wrong : None ≡ Some (x, js) = e in cc)
      go (Finishing c ks vs) e r = (let wrong : None ≡ Some (x, js) = e in cc)
      go (Ended c) e r = (let wrong : None ≡ Some (x, js) = e in cc)

  pub tells-of-decided : TellsOfDecided log
  tells-of-decided n i client epoch number c e r x at called replied new i_told =
      let law = (lawful-at log proper.lawful proper.linked n i e at).told in
      let there : TellsDecided (state_at log n i) (next (state_at log n i) e) (event.Call client epoch number c) (Some r) =
      subst (λ (y : Option Reply). TellsDecided (state_at log n i) (next (state_at log n i) e) (event.Call client epoch number c) y) replied (subst (λ (y : Event). TellsDecided (state_at log n i) (next (state_at log n i) e) y e.reply) called law) in
      let tells : TellsIn (next (state_at log n i) e) c r = subst (λ b. Where b (TellsIn (next (state_at log n i) e) c r) (Unit {0})) new there in
      let d = told-decision (next (state_at log n i) e) c r x tells i_told in
      let le : suc i ≤ size log proper n = in-list (journal_of log n) i e at in
      let after : decision_in ((state_at log n (suc i)).fates d.0) ≡ Some (x, d.1) = subst (λ (s : State). decision_in (s.fates d.0) ≡ Some (x, d.1)) (sym (state-suc log proper.lawful proper.linked n i e at)) d.2 in
      let last : decision_in ((final log n).fates d.0) ≡ Some (x, d.1) =
      at-end log proper n (λ s. decision_in (s.fates d.0) ≡ Some (x, d.1)) (decided-from log proper n d.0 (x, d.1) (suc i) (size log proper n) le (all-of log proper n) after) in
      let trans : x.trans ≡ d.0 = decision-trans n d.0 x d.1 last in
      let committed : HasCommitted log n x d.1 = subst (λ (t : TransId). decision_in ((final log n).fates t) ≡ Some (x, d.1)) (sym trans) last in (
        d.1,
        committed,
        elim (rested log proper n x d.1 committed) [
          | inl b ↦ inr b
          | inr k ↦
              let own : n ≡ x.trans.server = sym (committed-parts log proper n x.trans (x, d.1) committed).0 in
              inl (in-decided log proper x d.1 (subst (λ m. HasCommitted log m x d.1 → IsDecidedHere log proper m (final log m).holder.applied x.trans x d.1 → IsDecision log proper x d.1) (sym own) (λ c q. record { committed = c; young = q.1; parts = q.2; key = q.0 }) committed k))
        ],
      )

pub tellings : Tellings
tellings = tells-of-decided
