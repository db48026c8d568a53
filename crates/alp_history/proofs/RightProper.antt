-- the right log keeps to all that the theorems ask
use Rattle.std.specs.Prelude.{false, unwrap_or}
use Rattle.std.specs.FinMap as map
use Rattle.std.proofs.Common.{◌≡◌, ℕ, ◌≤◌, arith, sym, subst, List, slice_get, refl, inl, inr}
use Rattle.alp_files.specs.Holdings.{DoAgree, held_by}
use Rattle.alp_files.specs.Sound.{AreSound}
use Rattle.alp_files.specs.Apart.{AreSized}
use Rattle.alp_files.proofs.SoundLemmas.{empty_sound}
use Rattle.alp_journal.specs.declared.entry.Entry.{Entry}
use Rattle.alp_journal.specs.Ids.{same_trans}
use Rattle.alp_journal.specs.Opening.{ReadyNote, DecisionNote}
use Rattle.alp_journal.specs.Laws.{IsLawful}
use Rattle.alp_history.specs.Items.{Handed}
use Rattle.alp_history.specs.Log.{ServerLog, of, held, is_noted, IsIn, AreDifferent, AreDistinct, AreLawful, IsSoundNote, IsSoundDecision, IsSoundOpening, IsLinked}
use Rattle.alp_history.specs.Theorems.{IsProper}
use Rattle.alp_history.specs.RightLog.{hello, ranks_one, ranks_two, runs, both, one, two, items, right}
use Rattle.alp_history.proofs.Quotas.{quota_sound, quota_sized, none_sized}
use Rattle.alp_history.proofs.LinkLemmas.{each_both, links_both}
use Rattle.alp_history.proofs.RightOne.{lawful as one_lawful}
use Rattle.alp_history.proofs.RightTwo.{lawful as two_lawful}

module _ (handed : Handed) (rs qs : List ℕ) (xs ys : List Entry) where
  abbrev at_one : ServerLog
  at_one = runs 1 rs xs

  abbrev at_two : ServerLog
  at_two = runs 2 qs ys

  pub different : AreDifferent (both handed at_one at_two)
  different x i = elim i [
    | inl e ↦ subst (λ (y : ServerLog). of (both handed at_one at_two) y.opening.server ≡ y) (sym e) refl
    | inr more ↦ elim more [
      | inl e ↦ subst (λ (y : ServerLog). of (both handed at_one at_two) y.opening.server ≡ y) (sym e) refl
      | inr none ↦ absurd none
    ]
  ]

  pub sound : (n : ℕ) → IsSoundOpening (both handed at_one at_two) n
  sound n = record {
    few = each_both handed at_one at_two (λ m x. x.opening.servers ≤ 8) (omega arith) (omega arith) (λ m. omega arith) n;
    files = each_both handed at_one at_two (λ m x. AreSound x.opening.cells) (quota_sound 9) (quota_sound 9) (λ m. empty_sound) n;
    files_begun = each_both handed at_one at_two (λ m x. AreSound (held (is_noted (both handed at_one at_two)) x.opening.ready x.opening.cells)) (quota_sound 9) (quota_sound 9) (λ m. empty_sound) n;
    sizes = each_both handed at_one at_two (λ m x. AreSized (map.get x.opening.cells)) quota_sized quota_sized (λ m. none_sized) n;
    ready = each_both handed at_one at_two (λ m x. (r : ReadyNote) → IsIn r x.opening.ready → IsSoundNote (both handed at_one at_two) n r) (λ r i. absurd i) (λ r i. absurd i) (λ m r i. absurd i) n;
    distinct = each_both handed at_one at_two (λ m x. AreDistinct x.opening.ready) tt tt (λ m. tt) n;
    agree = each_both handed at_one at_two (λ m x. (r q : ReadyNote) → IsIn r x.opening.ready → IsIn q x.opening.ready → same_trans r.trans q.trans ≡ false → DoAgree (held_by r.locks) (held_by q.locks)) (λ r q i. absurd i) (λ r q i. absurd i) (λ m r q i. absurd i) n;
    decisions = each_both handed at_one at_two (λ m x. (d : DecisionNote) → IsIn d x.opening.decisions → IsSoundDecision (both handed at_one at_two) n d) (λ d i. absurd i) (λ d i. absurd i) (λ m d i. absurd i) n;
    one_each = each_both handed at_one at_two (λ m x. (d e : DecisionNote) → IsIn d x.opening.decisions → IsIn e x.opening.decisions → d.stamp.trans ≡ e.stamp.trans → d ≡ e) (λ d e i. absurd i) (λ d e i. absurd i) (λ m d e i. absurd i) n;
    once = λ d e j i. absurd i;
  }

-- ---- links

abbrev pub by_one : ℕ → Entry
by_one i = unwrap_or (slice_get one i) (hello 0)

abbrev pub by_two : ℕ → Entry
by_two i = unwrap_or (slice_get two i) (hello 0)

linked : IsLinked right
linked = links_both items (runs 1 ranks_one one) (runs 2 ranks_two two) refl refl refl refl refl refl

pub lawful : AreLawful right
lawful = each_both items (runs 1 ranks_one one) (runs 2 ranks_two two) (λ n x. IsLawful x.opening x.journal) one_lawful two_lawful (λ m. tt)

pub proper : IsProper right
proper = record { different = different items ranks_one ranks_two one two; sound = sound items ranks_one ranks_two one two; lawful = lawful; linked = linked }
