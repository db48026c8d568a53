-- the notes of a server that is at rest
use Rattle.std.specs.Prelude.{Bool, true, false, ◌||◌, ◌&&◌, Option, None, Some}
use Rattle.std.specs.FinMap as map
use Rattle.std.proofs.Common.{inl, inr, ◌≡◌, ℕ, List, [], ◌∷◌, refl, sym, ◌∙◌, ap, subst, eq-eqb}
use Rattle.alp_base.specs.Notes.{Notes}
use Rattle.alp_base.specs.declared.ids.JoinNo.{JoinNo}
use Rattle.alp_base.specs.declared.ids.TransId.{TransId}
use Rattle.alp_base.specs.declared.ids.Stamp.{Stamp}
use Rattle.alp_fields.specs.ClockNote.{is_clock_note, AreClockNotes}
use Rattle.alp_fields.specs.ReadyNote.{ready_in}
use Rattle.alp_fields.specs.DecisionNote.{decision_in as decision_read}
use Rattle.alp_fields.specs.declared.ready_note.ReadyPart.{ReadyPart}
use Rattle.alp_fields.specs.declared.decision_note.Decision.{Decision}
use Rattle.alp_vault.specs.Volumes.{is_ready_on, is_decision_of}
use Rattle.alp_journal.specs.Coordinator.{Fate, Undrawn, Running, Finishing, Committed, Forgotten, Ended, decision_in}
use Rattle.alp_journal.specs.Holder.{Life}
use Rattle.alp_journal.specs.Ids.{same_stamp}
use Rattle.alp_journal.specs.Laws.{is_standing}
use Rattle.alp_journal.specs.Opening.{ReadyNote, DecisionNote, ready_noted, decision_noted, ready_kept, decisions_kept}
use Rattle.alp_journal.specs.Participant.{Phase, Unseen, Joining, Active, Ready, Applied, Over, is_ready}
use Rattle.alp_journal.specs.State.{State}
use Rattle.alp_journal.proofs.IdLemmas.{same_trans-itself}
use Rattle.alp_regain.specs.Notes.{part_note}
use Rattle.alp_node.specs.Durable.{IsReadyNote, AreNotesOf}
use Rattle.alp_node.specs.Noted.{decision_kept}
use Rattle.alp_node.proofs.FoundNotes.{Has, kept_has, IsReadyAt, IsDecisionAt, ready_stands, decision_stands}
use Rattle.alp_history.specs.Log as logs
use Rattle.alp_history.specs.Theorems.{IsProper, IsSettled}
use Rattle.alp_history.proofs.Tells.{decision-trans}

-- a part that is not ready has no note
unready : (lives : TransId → Option Life) (p : Phase) (x : ReadyPart) → is_ready p ≡ false → IsReadyNote lives p (Some x) → ⊥
unready lives Unseen x h is = let wrong : ◌≡◌ {A = Option ReadyPart} (Some x) None = is in cc
unready lives (Joining t client who) x h is = let wrong : ◌≡◌ {A = Option ReadyPart} (Some x) None = is in cc
unready lives (Active t client who) x h is = let wrong : ◌≡◌ {A = Option ReadyPart} (Some x) None = is in cc
unready lives (Ready t client ts) x h is = let wrong : true ≡ false = h in cc
unready lives (Applied t y) x h is = let wrong : ◌≡◌ {A = Option ReadyPart} (Some x) None = is in cc
unready lives Over x h is = let wrong : ◌≡◌ {A = Option ReadyPart} (Some x) None = is in cc

-- a decision that has a note stands
record IsStanding (f : Fate) : Type 0 where
  stamp : Stamp
  joins : List JoinNo
  decided : decision_in f ≡ Some (stamp, joins)
  stands : is_standing stamp f ≡ true

standing_kept : (f : Fate) (d : Decision) → decision_kept f ≡ Some d → IsStanding f
standing_kept (Committed x [] done) d is = let wrong : ◌≡◌ {A = Option Decision} None (Some d) = is in cc
standing_kept (Committed x (j ∷ js) done) d is = record { stamp = x; joins = j ∷ js; decided = refl; stands = (λ i. eq-eqb x.ts x.ts refl i && same_trans-itself x.trans i) }
standing_kept Undrawn d is = let wrong : ◌≡◌ {A = Option Decision} None (Some d) = is in cc
standing_kept (Running client js) d is = let wrong : ◌≡◌ {A = Option Decision} None (Some d) = is in cc
standing_kept (Finishing client js vs) d is = let wrong : ◌≡◌ {A = Option Decision} None (Some d) = is in cc
standing_kept (Forgotten x js) d is = let wrong : ◌≡◌ {A = Option Decision} None (Some d) = is in cc
standing_kept (Ended cause) d is = let wrong : ◌≡◌ {A = Option Decision} None (Some d) = is in cc

-- what is neither of the other two is the first
one_left : (a b c : Bool) → (a || (b || c)) ≡ true → (b ≡ true → ⊥) → (c ≡ true → ⊥) → a ≡ true
one_left true b c h p q = refl
one_left false true c h p q = absurd (p refl)
one_left false false true h p q = absurd (q refl)
one_left false false false h p q = h

module _ (log : logs.Log) (proper : IsProper log) (n : ℕ) (rest : IsSettled (logs.final log n)) (epoch : ℕ) (notes : Notes) (are : AreNotesOf (logs.final log n) epoch notes) where
  abbrev s : State
  s = logs.final log n

  no_part : (r : ReadyNote) → Has r (ready_kept notes) → ⊥
  no_part r has =
      let a : IsReadyAt notes r = ready_stands notes r has in
      unready s.holder.lives (s.phases r.join) a.part (rest.ready r.join) (subst (IsReadyNote s.holder.lives (s.phases r.join)) a.at (are.ready r.join a.named))

  no_decision : (d : DecisionNote) → Has d (decisions_kept notes) → ⊥
  no_decision d has =
      let a : IsDecisionAt notes d = decision_stands notes d has in
      let t : TransId = d.stamp.trans in
      let k : IsStanding (s.fates t) = standing_kept (s.fates t) a.decision (sym (are.decided t a.named) ∙ a.at) in
      let its : k.stamp.trans ≡ t = decision-trans log proper n t k.stamp k.joins k.decided in
      let none : is_standing k.stamp (s.fates t) ≡ false = subst (λ (u : TransId). is_standing k.stamp (s.fates u) ≡ false) its (rest.decisions k.stamp) in
      let wrong : true ≡ false = sym k.stands ∙ none in
      cc

  -- none stands but that of the clock
  pub only_clock : AreClockNotes notes
  only_clock name value at =
      one_left (is_clock_note name value) (is_ready_on s.holder.server s.servers (ready_in name value)) (is_decision_of s.holder.server s.servers (decision_read name value)) (are.format name value at)
      (λ is. part (ready_in name value) refl is) (λ is. decision (decision_read name value) refl is)
    where
      part : (o : Option (JoinNo × ReadyPart)) → ready_in name value ≡ o → is_ready_on s.holder.server s.servers o ≡ true → ⊥
      part None e is = let wrong : false ≡ true = is in cc
      part (Some x) e is = no_part (part_note x) (kept_has (λ (m : List ℕ) (v : List ℕ). ready_noted (ready_in m v)) notes name value (part_note x) at (ap ready_noted e))

      decision : (o : Option (TransId × Decision)) → decision_read name value ≡ o → is_decision_of s.holder.server s.servers o ≡ true → ⊥
      decision None e is = let wrong : false ≡ true = is in cc
      decision (Some x) e is =
          no_decision (record { stamp = record { ts = x.1.ts; trans = x.0 }; joins = x.1.joins })
          (kept_has (λ (m : List ℕ) (v : List ℕ). decision_noted (decision_read m v)) notes name value (record { stamp = record { ts = x.1.ts; trans = x.0 }; joins = x.1.joins }) at (ap decision_noted e))
