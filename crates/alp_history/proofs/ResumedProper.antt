-- the log that goes on keeps to all that the theorems ask, and its history is the one that is written out
use Rattle.std.specs.Prelude.{true, false, None, Some}
use Rattle.std.specs.FinMap as map
use Rattle.std.proofs.Common.{◌≡◌, ℕ, ◌<◌, ◌≤◌, arith, sym, ap, subst, ◌∙◌, [], ◌∷◌, refl, inl, inr}
use Rattle.alp_base.specs.declared.ids.JoinNo.{JoinNo}
use Rattle.alp_base.specs.declared.key.Key.TheVariants.{Leader, PageOf, OwnerOf}
use Rattle.alp_modes.specs.Modes.{covers_of}
use Rattle.alp_files.specs.Holdings.{DoAgree, IsIntended, held_by}
use Rattle.alp_files.specs.Locks.{Writes}
use Rattle.alp_files.specs.Sound.{AreSound}
use Rattle.alp_files.specs.Apart.{AreSized, IsWithin}
use Rattle.alp_files.proofs.SoundLemmas.{empty_sound}
use Rattle.alp_journal.specs.Along.{state_after}
use Rattle.alp_journal.specs.Ids.{same_trans, same_join, has_join}
use Rattle.alp_journal.specs.Opening.{ReadyNote, DecisionNote}
use Rattle.alp_journal.specs.State.{opened}
use Rattle.alp_journal.specs.Moves.{next}
use Rattle.alp_journal.specs.Laws.{IsLawful}
use Rattle.alp_history.specs.Log.{ServerLog, of, opening_of, held, is_noted, is_decided_in, noted, IsIn, AreDifferent, AreDistinct, AreLawful, IsSoundNote, IsSoundDecision, IsSoundOpening, IsLinked}
use Rattle.alp_history.specs.Theorems.{IsProper}
use Rattle.alp_history.specs.Examples.{trans, join, stamp}
use Rattle.alp_history.specs.RightLog.{with_quota, nothing}
use Rattle.alp_history.specs.ResumedLog.{left_decided, left_ready, opening_two, resumed_two, goes_on_one, goes_on_two, resumed, IsShownResumed}
use Rattle.alp_journal.proofs.IdLemmas.{same_join-true, or-true}
use Rattle.alp_history.proofs.Quotas.{quota_sound, quota_sized, none_sized, put_quota}
use Rattle.alp_history.proofs.LinkLemmas.{each_both, links_both}
use Rattle.alp_history.proofs.ResumedOne.{lawful as one_lawful}
use Rattle.alp_history.proofs.ResumedTwo.{lawful as two_lawful, cells_last}
use Rattle.alp_history.proofs.RightHistory.{ends}
use Rattle.alp_history.proofs.Merged.{history}

different : AreDifferent resumed
different x i = elim i [
  | inl e ↦ subst (λ (y : ServerLog). of resumed y.opening.server ≡ y) (sym e) refl
  | inr more ↦ elim more [
    | inl e ↦ subst (λ (y : ServerLog). of resumed y.opening.server ≡ y) (sym e) refl
    | inr none ↦ absurd none
  ]
]

-- ---- the notes

only_join : (j : JoinNo) → has_join j (join ∷ []) ≡ true → join ≡ j
only_join j h = elim (or-true (same_join join j) false h) [ inl same ↦ same_join-true join j same | inr none ↦ (let wrong : false ≡ true = none in cc) ]

intended : IsIntended (held_by left_ready.locks)
intended (OwnerOf name) f m is h = cc
intended (Leader g) f m is h = let wrong : None ≡ Some m = h in cc
intended (PageOf g n) f m is h = let wrong : None ≡ Some m = h in cc

covered : IsWithin (Writes (held_by left_ready.locks)) left_ready.edits
unfolding covers_of
covered = (refl, tt)

-- the one ready note, and the one decision
the_ready : (P : ReadyNote → Type 0) → P left_ready → (m : ℕ) (r : ReadyNote) → IsIn r (opening_of resumed m).ready → P r
the_ready P p = each_both nothing goes_on_one goes_on_two (λ m (x : ServerLog). (r : ReadyNote) → IsIn r x.opening.ready → P r)
    (λ r i. absurd i) (λ r i. elim i [ inl e ↦ subst P (sym e) p | inr none ↦ absurd none ]) (λ m r i. absurd i)

the_decision : (P : DecisionNote → Type 0) → P left_decided → (m : ℕ) (d : DecisionNote) → IsIn d (opening_of resumed m).decisions → P d
the_decision P p = each_both nothing goes_on_one goes_on_two (λ m (x : ServerLog). (d : DecisionNote) → IsIn d x.opening.decisions → P d)
    (λ d i. elim i [ inl e ↦ subst P (sym e) p | inr none ↦ absurd none ]) (λ d i. absurd i) (λ m d i. absurd i)

one_two : 1 < 2
one_two = omega arith

ready_note : IsSoundNote resumed 2 left_ready
ready_note = record {
  here = refl;
  elsewhere = λ h. (let wrong : 1 ≡ 2 = h in omega (arith, wrong));
  older = one_two;
  drawn = one_two;
  intended = intended;
  covered = covered;
  sized = (tt, tt);
  decided = λ m d i same. the_decision (λ (x : DecisionNote). (has_join join x.joins ≡ true) × (1 ≤ x.stamp.ts)) (refl, omega arith) m d i;
}

decision_note : IsSoundDecision resumed 1 left_decided
decision_note = record {
  here = refl;
  older = one_two;
  some = λ h. cc;
  elsewhere = refl;
  spread = λ j k a b same. sym (only_join j a) ∙ only_join k b;
  its = λ m r i h. the_ready (λ (x : ReadyNote). x.trans ≡ trans) refl m r i;
  known = λ j h. subst (λ (x : JoinNo). x.epoch < (opening_of resumed x.server).epoch) (only_join j h) one_two;
}

the_noted : (d : DecisionNote) → IsIn d (noted resumed) → d.stamp ≡ stamp
the_noted d i = elim i [ inl e ↦ ap (λ (x : DecisionNote). x.stamp) e | inr none ↦ absurd none ]

agree_alone : (r q : ReadyNote) → r ≡ left_ready → q ≡ left_ready → same_trans r.trans q.trans ≡ false → DoAgree (held_by r.locks) (held_by q.locks)
agree_alone r q a b other = absurd (let wrong : true ≡ false = (λ i. same_trans (sym a i).trans (sym b i).trans) ∙ other in let no : ⊥ = cc in no)

sound : (n : ℕ) → IsSoundOpening resumed n
sound n = record {
  few = each_both nothing goes_on_one goes_on_two (λ m x. x.opening.servers ≤ 8) (omega arith) (omega arith) (λ m. omega arith) n;
  files = each_both nothing goes_on_one goes_on_two (λ m x. AreSound x.opening.cells) (quota_sound 9) (quota_sound 9) (λ m. empty_sound) n;
  files_begun = each_both nothing goes_on_one goes_on_two (λ m x. AreSound (held (is_noted resumed) x.opening.ready x.opening.cells)) (quota_sound 9) (subst AreSound (sym (put_quota (with_quota 9) 9 5 refl)) (quota_sound 5)) (λ m. empty_sound) n;
  sizes = each_both nothing goes_on_one goes_on_two (λ m x. AreSized (map.get x.opening.cells)) quota_sized quota_sized (λ m. none_sized) n;
  ready = each_both nothing goes_on_one goes_on_two (λ m x. (r : ReadyNote) → IsIn r x.opening.ready → IsSoundNote resumed m r) (λ r i. absurd i) (λ r i. elim i [ inl e ↦ subst (IsSoundNote resumed 2) (sym e) ready_note | inr none ↦ absurd none ]) (λ m r i. absurd i) n;
  distinct = each_both nothing goes_on_one goes_on_two (λ m x. AreDistinct x.opening.ready) tt (tt, tt) (λ m. tt) n;
  agree = λ r q a b. agree_alone r q (the_ready (λ x. x ≡ left_ready) refl n r a) (the_ready (λ x. x ≡ left_ready) refl n q b);
  decisions = each_both nothing goes_on_one goes_on_two (λ m x. (d : DecisionNote) → IsIn d x.opening.decisions → IsSoundDecision resumed m d) (λ d i. elim i [ inl e ↦ subst (IsSoundDecision resumed 1) (sym e) decision_note | inr none ↦ absurd none ]) (λ d i. absurd i) (λ m d i. absurd i) n;
  one_each = λ d e a b same. the_decision (λ x. x ≡ left_decided) refl n d a ∙ sym (the_decision (λ x. x ≡ left_decided) refl n e b);
  once = λ d e j a b h k. the_noted d a ∙ sym (the_noted e b);
}

-- ---- links

linked : IsLinked resumed
linked = links_both nothing goes_on_one goes_on_two refl refl refl refl refl refl

lawful : AreLawful resumed
lawful = each_both nothing goes_on_one goes_on_two (λ n x. IsLawful x.opening x.journal) one_lawful two_lawful (λ m. tt)

proper : IsProper resumed
proper = record { different = different; sound = sound; lawful = lawful; linked = linked }

pub shown : IsShownResumed
shown = record {
  proper = proper;
  order = refl;
  does_it = refl;
  starts_one = refl;
  starts_two = put_quota (with_quota 9) 9 5 refl;
  ends_one = refl;
  ends_two = ends (is_decided_in resumed) (state_after next (opened opening_two) resumed_two) refl ∙ cells_last;
  thread = history resumed proper;
}
