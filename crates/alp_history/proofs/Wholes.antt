-- the decided transactions are those that their servers committed, with all of their parts
use Rattle.std.specs.Prelude.{true}
use Rattle.std.proofs.Common.{◌≡◌, ℕ, ◌<◌, ◌≤◌, List, refl, sym, ap, subst, arith, inl, inr}
use Rattle.alp_base.specs.declared.ids.JoinNo.{JoinNo}
use Rattle.alp_base.specs.declared.ids.TransId.{TransId}
use Rattle.alp_base.specs.declared.ids.Stamp.{Stamp}
use Rattle.alp_journal.specs.Ids.{has_join}
use Rattle.alp_journal.specs.Participant.{Phase, Unseen, Joining, Active, Ready, Applied, Over}
use Rattle.alp_history.specs.Log.{Log, opening_of, state_at, final}
use Rattle.alp_history.specs.Theorems.{IsProper, IsKept, IsWhole, AreWhole, Wholeness}
use Rattle.alp_history.proofs.Agreed.{size, all-of, at-end, Noted, WasReady, committed-parts, kept}
use Rattle.alp_history.proofs.Stamped.{IsSameVote, vote-from}
use Rattle.alp_history.proofs.Decisions.{IsDecision, here-decision, older-note, decided-in, in-decided}

module _ (log : Log) (proper : IsProper log) where
  module _ (x : Stamp) (js : List JoinNo) (d : IsDecision log proper x js) (j : JoinNo) (has : has_join j js ≡ true) where
    abbrev there : Phase
    there = (final log j.server).phases j

    by-note : Noted log proper x.trans.server x.trans j → ⊥
    by-note b =
        let old : (b.0).stamp.trans.epoch < (opening_of log x.trans.server).epoch = ((proper.sound x.trans.server).decisions b.0 b.1).older in
        let same : (b.0).stamp.trans.epoch ≡ x.trans.epoch = ap (λ (u : TransId). u.epoch) b.2 in
        let young : (opening_of log x.trans.server).epoch ≤ x.trans.epoch = d.young in
        omega (arith, old, same, young)

    by-vote : there ≡ Unseen → WasReady log proper x.trans j → ⊥
    by-vote is r =
        let w : ℕ = j.server in
        let start : IsSameVote x.trans r.2 ((state_at log w r.0).phases j) = subst (IsSameVote x.trans r.2) (sym r.4) (refl, refl) in
        let now : IsSameVote x.trans r.2 there = at-end log proper w (λ s. IsSameVote x.trans r.2 (s.phases j)) (vote-from log proper w j x.trans r.2 r.0 (size log proper w) r.3 (all-of log proper w) start) in
        subst (IsSameVote x.trans r.2) is now

    pub was-seen : there ≡ Unseen → ⊥
    was-seen is = elim ((committed-parts log proper x.trans.server x.trans (x, js) d.committed).1 j has) [ inl b ↦ by-note b | inr r ↦ by-vote is r ]

    whole-so : (p : Phase) → there ≡ p → IsKept x p → IsWhole x p
    whole-so (Ready t c ts) is k = k
    whole-so (Applied t y) is k = k
    whole-so Unseen is k = absurd (was-seen is)
    whole-so (Joining t c w) is k = absurd k
    whole-so (Active t c w) is k = absurd k
    whole-so Over is k = absurd k

    pub part-whole : IsWhole x there
    part-whole = whole-so there refl (kept log proper x.trans.server x js j d.committed has)

  pub are-whole : AreWhole log
  are-whole = record {
    committed = λ x js i. (let d = decided-in log proper x js i in (d.committed, d.young));
    listed = λ x js c young. in-decided log proper x js (here-decision log proper x.trans.server x js c (λ b. older-note log proper x.trans.server x js b young));
    parts = λ x js j i has. part-whole x js (decided-in log proper x js i) j has;
  }

pub wholeness : Wholeness
wholeness = are-whole
