-- notes that begin and end: what they say behind the write, by the journal and by what the server keeps, and that they may be written
use Rattle.std.specs.Prelude.{cond, Bool, true, false, ◌==◌, ◌&&◌, ◌||◌, max, nat_eq, sum_by, Option, None, Some, is_some}
use Rattle.std.specs.List.{list_all}
use Rattle.std.specs.Option.{option_map, option_and_then}
use Rattle.std.specs.FinMap as map
use Rattle.std.specs.FinMap.{get-insert}
use Rattle.std.specs.Cmp.{eq_by_cmp_equiv}
use Rattle.std.specs.Cmp.Lexicographic.{pointwise, nat_list_cmp_total}
use Rattle.std.proofs.lemmas.Bool.{and_parts}
use Rattle.std.proofs.Common.{◌≡◌, ℕ, ◌+◌, ◌*◌, ◌^◌, ◌<◌, ◌≤◌, List, [], ◌∷◌, length, refl, sym, ◌∙◌, ap, subst, arith, eq-eqb}
use Rattle.alp_base.specs.Notes.{Notes, noted, notes_after}
use Rattle.alp_base.specs.declared.bytes.NoteChange.{NoteChange}
use Rattle.alp_base.specs.declared.ids.JoinNo.{JoinNo}
use Rattle.alp_base.specs.declared.ids.Stamp.{Stamp}
use Rattle.alp_base.specs.declared.ids.TransId.{TransId}
use Rattle.alp_files.specs.declared.refusal.Cause.{Cause}
use Rattle.alp_fields.specs.Forms.{whole}
use Rattle.alp_fields.specs.Rising.{text_below}
use Rattle.alp_fields.specs.ClockNote.{clock_name, clock_form, clock_kept, is_clock_note}
use Rattle.alp_fields.specs.declared.clock_note.ClockNote.{ClockNote}
use Rattle.alp_fields.specs.ReadyNote.{ready_name, ready_form, ready_noted, ready_ended, ready_with}
use Rattle.alp_fields.specs.declared.ready_note.ReadyPart.{ReadyPart}
use Rattle.alp_fields.specs.DecisionNote.{decision_name, decision_form, decision_ended, decision_with}
use Rattle.alp_fields.specs.declared.decision_note.Decision.{Decision}
use Rattle.alp_files.proofs.SameLemmas.{same_name-true}
use Rattle.alp_fields.proofs.FormLaws.{whole_back}
use Rattle.alp_fields.proofs.ReadyNoteLaw.{ready_name_law, ready_name_length}
use Rattle.alp_fields.proofs.DecisionNoteLaw.{decision_name_law, decision_name_length}
use Rattle.alp_journal.specs.Coordinator.{Fate}
use Rattle.alp_journal.specs.Deeds.{Aborts, Applies, Readies}
use Rattle.alp_journal.specs.Holder.{Holder, Life, commits, readies, emptied, lapsed}
use Rattle.alp_journal.specs.Ids.{same_trans, same_join}
use Rattle.alp_journal.specs.Participant.{Phase, Unseen, Joining, Active, Ready, Applied, Over, aborted, applied, readied, is_ready}
use Rattle.alp_journal.specs.State.{State, state_deed}
use Rattle.alp_journal.proofs.IdLemmas.{same_trans-true, same_trans-itself, same_join-true}
use Rattle.alp_coord.specs.declared.coordinator.Coordinator.{Coordinator}
use Rattle.alp_coord.specs.Coordinators.{fate_in}
use Rattle.alp_ready.specs.NoteLooks.{Keeps, ready_at, decision_at}
use Rattle.alp_ready.proofs.NoteViews.{put_clock, put_ready, end_ready, end_decision}
use Rattle.alp_vault.specs.Volumes.{AreNoteChanges, AreServerNotes, is_another, is_join_on, is_ready_on, is_decision_of, is_trans_of, may_end, is_server_note, noted_bytes}
use Rattle.alp_vault.proofs.VolumeLemmas.{clock_length}
use Rattle.alp_worker.specs.declared.joins.Joins.{Joins}
use Rattle.alp_worker.specs.declared.live.LiveJoin.{LiveJoin}
use Rattle.alp_worker.specs.declared.live.Stage.{Stage}
use Rattle.alp_worker.specs.declared.live.Stage.TheVariants as stage
use Rattle.alp_worker.specs.declared.room.PartSize.{PartSize}
use Rattle.alp_worker.specs.Lives.{is_open, join_at}
use Rattle.alp_worker.proofs.LiveLemmas.{same_join-itself}
use Rattle.alp_node.specs.Durable.{AreNotesOf, IsReadyNote, IsKeptOf, IsKeptIf}
use Rattle.alp_node.specs.Noted.{AreNoted, HasSize, IsNoteOf, IsNotedAs, IsNotedJoin, decision_kept, size_in}
use Rattle.alp_node.specs.Totals.{LiveMap}
use Rattle.alp_node.specs.Writes.{clock_put}
use Rattle.alp_node.specs.declared.lives.Live.{Live}
use Rattle.alp_node.proofs.JoinMoves.{same_some}
use Rattle.alp_node.proofs.NoteLaw.{AreVoted, IsVoted}
use Rattle.alp_node.proofs.NotedLemmas.{ready_on}

-- ---- by what the journal says

pub keeps_of : (s : State) (epoch : ℕ) (notes : Notes) → AreNotesOf s epoch notes → Keeps s.holder.server s.servers (record { epoch = epoch; clock = s.holder.kept }) (λ i. IsReadyNote s.holder.lives (s.phases i)) (λ u. decision_kept (s.fates u)) notes
keeps_of s epoch notes h = record { clock = h.clock; ready = h.ready; decided = h.decided; format = h.format }

-- only that join may be ready now that was not
fits_one : (s m : State) (j : JoinNo) → ready_name.Fits j → ((i : JoinNo) → same_join j i ≡ false → m.phases i ≡ s.phases i) → ((i : JoinNo) → is_ready (s.phases i) ≡ true → ready_name.Fits i)
    → (i : JoinNo) → is_ready (m.phases i) ≡ true → ready_name.Fits i
fits_one s m j named others was i is = go (same_join j i) refl
  where
    go : (b : Bool) → same_join j i ≡ b → ready_name.Fits i
    go true e = subst (λ (x : JoinNo). ready_name.Fits x) (same_join-true j i e) named
    go false e = was i (ap is_ready (sym (others i e)) ∙ is)

no_note : (lives : TransId → Option Life) (p : Phase) → is_ready p ≡ false → IsReadyNote lives p None
no_note lives (Ready t c ts) n = let wrong : true ≡ false = n in cc
no_note lives Unseen n = refl
no_note lives (Joining t c w) n = refl
no_note lives (Active t c w) n = refl
no_note lives (Applied t stamp) n = refl
no_note lives Over n = refl

number_away : (i j : JoinNo) → (i ≡ j → ⊥) → same_join j i ≡ false
number_away i j other = go (same_join j i) refl
  where
    go : (b : Bool) → same_join j i ≡ b → b ≡ false
    go false e = refl
    go true e = absurd (other (sym (same_join-true j i e)))

-- two that voted are of two transactions
pub voters_apart : (s : State) → AreVoted s → (j : JoinNo) (t : TransId) (client ts : ℕ) → s.phases j ≡ Ready t client ts → (i : JoinNo) (u : TransId) (c n : ℕ) → same_join j i ≡ false → s.phases i ≡ Ready u c n → same_trans u t ≡ false
voters_apart s voted j t client ts ready i u c n away is = go (same_trans u t) refl
  where
    go : (b : Bool) → same_trans u t ≡ b → b ≡ false
    go false e = refl
    go true e =
        let x : IsVoted s i u n = voted i u c n is in
        let y : IsVoted s j t ts = voted j t client ts ready in
        let same_life : x.life ≡ y.life = same_some x.life y.life (sym x.live ∙ ap s.holder.lives (same_trans-true u t e) ∙ y.live) in
        let same : j ≡ i = same_some j i (sym y.join ∙ ap (λ (l : Life). l.join) (sym same_life) ∙ x.join) in
        let wrong : true ≡ false = sym (same_join-itself j) ∙ ap (same_join j) same ∙ away in
        cc

-- and none of them is of one that did not
pub unvoted_apart : (s : State) → AreVoted s → (t : TransId) (l : Life) → s.holder.lives t ≡ Some l → l.vote ≡ None → (i : JoinNo) (u : TransId) (c n : ℕ) → s.phases i ≡ Ready u c n → same_trans u t ≡ false
unvoted_apart s voted t l live unvoted i u c n is = go (same_trans u t) refl
  where
    go : (b : Bool) → same_trans u t ≡ b → b ≡ false
    go false e = refl
    go true e =
        let x : IsVoted s i u n = voted i u c n is in
        let same_life : x.life ≡ l = same_some x.life l (sym x.live ∙ ap s.holder.lives (same_trans-true u t e) ∙ live) in
        let wrong : Some n ≡ None = sym x.vote ∙ ap (λ (y : Life). y.vote) same_life ∙ unvoted in
        cc

-- one part goes on, and the others are as they were
pub record IsOneOn (s m : State) (j : JoinNo) (t : TransId) : Type 0 where
  pub phases : (i : JoinNo) → same_join j i ≡ false → m.phases i ≡ s.phases i
  pub lives : (u : TransId) → same_trans u t ≡ false → m.holder.lives u ≡ s.holder.lives u
  pub apart : (i : JoinNo) (u : TransId) (c n : ℕ) → same_join j i ≡ false → s.phases i ≡ Ready u c n → same_trans u t ≡ false
  pub server : m.holder.server ≡ s.holder.server

module _ (s m : State) (j : JoinNo) (t : TransId) (one : IsOneOn s m j t) where
  -- their notes stand
  others_stand : (i : JoinNo) (x : Option ReadyPart) → (i ≡ j → ⊥) → IsReadyNote s.holder.lives (s.phases i) x → IsReadyNote m.holder.lives (m.phases i) x
  others_stand i x other h =
      subst (λ (p : Phase). IsReadyNote m.holder.lives p x) (sym (one.phases i (number_away i j other)))
      (ready_on s.holder.lives m.holder.lives (s.phases i) x (λ u c n is. one.lives u (one.apart i u c n (number_away i j other) is)) h)

  -- it is over
  pub ended_keeps : is_ready (m.phases j) ≡ false → (clock : ClockNote) (fate : TransId → Option Decision) (notes : Notes) → ready_name.Fits j → Keeps s.holder.server s.servers clock (λ i. IsReadyNote s.holder.lives (s.phases i)) fate notes
      → Keeps s.holder.server s.servers clock (λ i. IsReadyNote m.holder.lives (m.phases i)) fate (noted (ready_name.spell j) None notes)
  ended_keeps over clock fate notes named h =
      end_ready s.holder.server s.servers clock (λ i. IsReadyNote s.holder.lives (s.phases i)) fate notes h (λ i. IsReadyNote m.holder.lives (m.phases i)) j named others_stand (no_note m.holder.lives (m.phases j) over)

  pub ended_voted : is_ready (m.phases j) ≡ false → AreVoted s → AreVoted m
  ended_voted over voted i u c n is = go (same_join j i) refl
    where
      go : (b : Bool) → same_join j i ≡ b → IsVoted m i u n
      go true e = absurd (let wrong : true ≡ false = sym (ap is_ready (ap m.phases (same_join-true j i e) ∙ is)) ∙ over in cc)
      go false e =
          let was : s.phases i ≡ Ready u c n = sym (one.phases i e) ∙ is in
          let v : IsVoted s i u n = voted i u c n was in
          record { life = v.life; live = one.lives u (one.apart i u c n e was) ∙ v.live; vote = v.vote; join = v.join; away = ap (λ (x : ℕ). u.server == x) one.server ∙ v.away }

  -- it votes
  pub voted_keeps : (client ts : ℕ) → m.phases j ≡ Ready t client ts → (p : ReadyPart) (clock : ClockNote) (fate : TransId → Option Decision) (notes : Notes) → ready_name.Fits j → ready_form.Fits p → j.server ≡ s.holder.server → is_another s.holder.server s.servers p.trans.server ≡ true
      → p.trans ≡ t → p.client ≡ client → p.ts ≡ ts → IsKeptIf (m.holder.lives t) p → Keeps s.holder.server s.servers clock (λ i. IsReadyNote s.holder.lives (s.phases i)) fate notes
      → Keeps s.holder.server s.servers clock (λ i. IsReadyNote m.holder.lives (m.phases i)) fate (noted (ready_name.spell j) (Some (ready_form.spell p)) notes)
  voted_keeps client ts now p clock fate notes named fits here far trans its time kept h =
      put_ready s.holder.server s.servers clock (λ i. IsReadyNote s.holder.lives (s.phases i)) fate notes h (λ i. IsReadyNote m.holder.lives (m.phases i)) j named others_stand p fits here far
      (subst (λ (q : Phase). IsReadyNote m.holder.lives q (Some p)) (sym now) (trans, its, time, kept))

-- ---- a part that voted hears of the end

module _ (s : State) (j : JoinNo) (t : TransId) (client ts n : ℕ) (c : Cause) (voted : AreVoted s) (ready : s.phases j ≡ Ready t client ts) where
  abbrev aborted_state : State
  aborted_state = state_deed s (Aborts j t n c)

  pub aborted_one : IsOneOn s (state_deed s (Aborts j t n c)) j t
  aborted_one = record {
    phases = λ i away. ap (λ (b : Bool). cond {A = Phase} b (aborted t (s.phases i)) (s.phases i)) away;
    lives = λ u away. ap (λ (b : Bool). cond {A = Option Life} b (lapsed j (s.holder.lives u)) (s.holder.lives u)) away;
    apart = voters_apart s voted j t client ts ready;
    server = refl;
  }

  pub aborted_over : is_ready ((state_deed s (Aborts j t n c)).phases j) ≡ false
  aborted_over =
      ap (λ (b : Bool). is_ready (cond {A = Phase} b (aborted t (s.phases j)) (s.phases j))) (same_join-itself j) ∙ ap (λ (p : Phase). is_ready (aborted t p)) ready ∙ ap (λ (b : Bool). is_ready (cond {A = Phase} b Over (Ready t client ts))) (same_trans-itself t)

  pub aborted_voted : AreVoted (state_deed s (Aborts j t n c))
  aborted_voted = ended_voted s aborted_state j t aborted_one aborted_over voted

  pub aborted_notes : (epoch : ℕ) (notes : Notes) → ready_name.Fits j → AreNotesOf s epoch notes → AreNotesOf (state_deed s (Aborts j t n c)) epoch (noted (ready_name.spell j) None notes)
  aborted_notes epoch notes named h =
      let k = ended_keeps s aborted_state j t aborted_one aborted_over (record { epoch = epoch; clock = s.holder.kept }) (λ u. decision_kept (s.fates u)) notes named (keeps_of s epoch notes h) in
      record { clock = k.clock; ready = k.ready; decided = k.decided; fit = fits_one s aborted_state j named (λ i away. aborted_one.phases i away) h.fit; fit_decided = h.fit_decided; timely = h.timely; format = k.format }

-- ---- it is applied, and the clock stands

module _ (s : State) (j : JoinNo) (t : TransId) (client ts time : ℕ) (l : Life) (live : s.holder.lives t ≡ Some l) (voted : AreVoted s) (ready : s.phases j ≡ Ready t client ts) where
  abbrev stamp : Stamp
  stamp = record { ts = time; trans = t }

  abbrev applied_state : State
  applied_state = state_deed s (Applies j (record { ts = time; trans = t }))

  of_other : (u : TransId) (o : Option Life) → same_trans u t ≡ false → (commits s.holder stamp o).lives u ≡ s.holder.lives u
  of_other u None e = refl
  of_other u (Some x) e = ap (λ (b : Bool). cond {A = Option Life} b (Some (emptied x)) (s.holder.lives u)) e

  same_server : (o : Option Life) → (commits s.holder stamp o).server ≡ s.holder.server
  same_server None = refl
  same_server (Some x) = refl

  applied_one : IsOneOn s (state_deed s (Applies j (record { ts = time; trans = t }))) j t
  applied_one = record {
    phases = λ i away. ap (λ (b : Bool). cond {A = Phase} b (applied stamp (s.phases i)) (s.phases i)) away;
    lives = λ u away. of_other u (s.holder.lives t) away;
    apart = voters_apart s voted j t client ts ready;
    server = same_server (s.holder.lives t);
  }

  applied_over : is_ready ((state_deed s (Applies j (record { ts = time; trans = t }))).phases j) ≡ false
  applied_over =
      ap (λ (b : Bool). is_ready (cond {A = Phase} b (applied stamp (s.phases j)) (s.phases j))) (same_join-itself j) ∙ ap (λ (p : Phase). is_ready (applied stamp p)) ready
      ∙ ap (λ (b : Bool). is_ready (cond {A = Phase} b (Applied t stamp) (Ready t client ts))) (same_trans-itself t)

  pub applied_voted : AreVoted (state_deed s (Applies j (record { ts = time; trans = t })))
  applied_voted = ended_voted s applied_state j t applied_one applied_over voted

  pub applied_notes : (epoch : ℕ) (notes : Notes) → ready_name.Fits j → clock_form.Fits (record { epoch = epoch; clock = max s.holder.clock time }) → s.holder.kept ≤ s.holder.clock → AreNotesOf s epoch notes
      → AreNotesOf (state_deed s (Applies j (record { ts = time; trans = t }))) epoch (noted (ready_name.spell j) None (noted clock_name (Some (clock_form.spell (record { epoch = epoch; clock = max s.holder.clock time }))) notes))
  applied_notes epoch notes named fits order h =
      let now : ClockNote = record { epoch = epoch; clock = max s.holder.clock time } in
      let first = put_clock s.holder.server s.servers (record { epoch = epoch; clock = s.holder.kept }) (λ i. IsReadyNote s.holder.lives (s.phases i)) (λ u. decision_kept (s.fates u)) notes (keeps_of s epoch notes h) now fits in
      let k = ended_keeps s applied_state j t applied_one applied_over now (λ u. decision_kept (s.fates u)) (noted clock_name (Some (clock_form.spell now)) notes) named first in
      record {
        clock = k.clock ∙ ap (λ (o : Option Life). record { epoch = epoch; clock = (commits s.holder stamp o).kept }) (sym live);
        ready = k.ready;
        decided = k.decided;
        fit = fits_one s applied_state j named (λ i away. applied_one.phases i away) h.fit;
        fit_decided = h.fit_decided;
        timely = λ u d is. subst (λ (o : Option Life). d.ts ≤ (commits s.holder stamp o).kept) (sym live) (let low : d.ts ≤ s.holder.kept = h.timely u d is in omega (arith, low, order));
        format = subst (λ (n : ℕ). AreServerNotes n s.servers (noted (ready_name.spell j) None (noted clock_name (Some (clock_form.spell now)) notes))) (sym (same_server (s.holder.lives t))) k.format;
      }

-- ---- one votes

module _ (s : State) (j : JoinNo) (t : TransId) (client ts : ℕ) (who : List ℕ) (l : Life) (live : s.holder.lives t ≡ Some l) (unvoted : l.vote ≡ None) (voted : AreVoted s) (active : s.phases j ≡ Active t client who) where
  abbrev readied_state : State
  readied_state = state_deed s (Readies j t ts)

  other_lives : (u : TransId) (o : Option Life) → same_trans u t ≡ false → (readies s.holder t ts o).lives u ≡ s.holder.lives u
  other_lives u None e = refl
  other_lives u (Some x) e = ap (λ (b : Bool). cond {A = Option Life} b (Some (record x { vote = Some ts })) (s.holder.lives u)) e

  readied_server : (o : Option Life) → (readies s.holder t ts o).server ≡ s.holder.server
  readied_server None = refl
  readied_server (Some x) = refl

  readied_clock : (o : Option Life) → (readies s.holder t ts o).kept ≡ s.holder.kept
  readied_clock None = refl
  readied_clock (Some x) = refl

  readied_one : IsOneOn s (state_deed s (Readies j t ts)) j t
  readied_one = record {
    phases = λ i away. ap (λ (b : Bool). cond {A = Phase} b (readied ts (s.phases i)) (s.phases i)) away;
    lives = λ u away. other_lives u (s.holder.lives t) away;
    apart = λ i u c n away is. unvoted_apart s voted t l live unvoted i u c n is;
    server = readied_server (s.holder.lives t);
  }

  readied_now : (state_deed s (Readies j t ts)).phases j ≡ Ready t client ts
  readied_now = ap (λ (b : Bool). cond {A = Phase} b (readied ts (s.phases j)) (s.phases j)) (same_join-itself j) ∙ ap (readied ts) active

  readied_life : (p : ReadyPart) → IsKeptOf l p → IsKeptIf ((state_deed s (Readies j t ts)).holder.lives t) p
  readied_life p kept =
      subst (λ (o : Option Life). IsKeptIf ((readies s.holder t ts o).lives t) p) (sym live)
      (subst (λ (b : Bool). IsKeptIf (cond {A = Option Life} b (Some (record l { vote = Some ts })) (s.holder.lives t)) p) (sym (same_trans-itself t)) (record { held = kept.held; intents = kept.intents; once = kept.once; cells = kept.cells }))

  pub readied_notes : (p : ReadyPart) (epoch : ℕ) (notes : Notes) → ready_name.Fits j → ready_form.Fits p → j.server ≡ s.holder.server → is_another s.holder.server s.servers t.server ≡ true → p.trans ≡ t → p.client ≡ client → p.ts ≡ ts → IsKeptOf l p
      → AreNotesOf s epoch notes → AreNotesOf (state_deed s (Readies j t ts)) epoch (noted (ready_name.spell j) (Some (ready_form.spell p)) notes)
  readied_notes p epoch notes named fits here far trans its time kept h =
      let k = voted_keeps s readied_state j t readied_one client ts readied_now p (record { epoch = epoch; clock = s.holder.kept }) (λ u. decision_kept (s.fates u)) notes named fits here
      (ap (λ (u : TransId). is_another s.holder.server s.servers u.server) trans ∙ far) trans its time (readied_life p kept) (keeps_of s epoch notes h) in
      record {
        clock = k.clock ∙ ap (λ (n : ℕ). record { epoch = epoch; clock = n }) (sym (readied_clock (s.holder.lives t)));
        ready = k.ready;
        decided = k.decided;
        fit = fits_one s readied_state j named (λ i away. readied_one.phases i away) h.fit;
        fit_decided = h.fit_decided;
        timely = λ u d is. subst (λ (n : ℕ). d.ts ≤ n) (sym (readied_clock (s.holder.lives t))) (h.timely u d is);
        format = subst (λ (n : ℕ). AreServerNotes n s.servers (noted (ready_name.spell j) (Some (ready_form.spell p)) notes)) (sym (readied_server (s.holder.lives t))) k.format;
      }

-- ---- a decision is forgotten

pub forgotten_notes : (s m : State) (t : TransId) (epoch : ℕ) (notes : Notes) → m.holder ≡ s.holder → m.servers ≡ s.servers → m.phases ≡ s.phases → ((u : TransId) → same_trans t u ≡ false → decision_kept (m.fates u) ≡ decision_kept (s.fates u)) → decision_kept (m.fates t) ≡ None → decision_name.Fits t
    → AreNotesOf s epoch notes → AreNotesOf m epoch (noted (decision_name.spell t) None notes)
forgotten_notes s m t epoch notes holder servers phases others gone named h =
    let k : Keeps s.holder.server s.servers (record { epoch = epoch; clock = s.holder.kept }) (λ i. IsReadyNote s.holder.lives (s.phases i)) (λ u. decision_kept (m.fates u)) (noted (decision_name.spell t) None notes) =
    end_decision s.holder.server s.servers (record { epoch = epoch; clock = s.holder.kept }) (λ i. IsReadyNote s.holder.lives (s.phases i)) (λ u. decision_kept (s.fates u)) notes (keeps_of s epoch notes h) (λ u. decision_kept (m.fates u)) t named
    (λ u other. sym (others u (trans_away u other))) gone in
    record {
      clock = k.clock ∙ ap (λ (x : Holder). record { epoch = epoch; clock = x.kept }) (sym holder);
      ready = λ i fits. subst (λ (x : Holder). IsReadyNote x.lives (m.phases i) (ready_at (noted (decision_name.spell t) None notes) i)) (sym holder)
          (subst (λ (f : JoinNo → Phase). IsReadyNote s.holder.lives (f i) (ready_at (noted (decision_name.spell t) None notes) i)) (sym phases) (k.ready i fits));
      decided = k.decided;
      fit = λ i is. h.fit i (ap (λ (f : JoinNo → Phase). is_ready (f i)) (sym phases) ∙ is);
      fit_decided = λ u is. fits_beside u (same_trans t u) refl is;
      timely = λ u d is. subst (λ (x : Holder). d.ts ≤ x.kept) (sym holder) (timely_beside u d (same_trans t u) refl is);
      format = subst (λ (x : Holder). AreServerNotes x.server m.servers (noted (decision_name.spell t) None notes)) (sym holder) (subst (λ (n : ℕ). AreServerNotes s.holder.server n (noted (decision_name.spell t) None notes)) (sym servers) k.format);
    }
  where
    fits_beside : (u : TransId) (b : Bool) → same_trans t u ≡ b → is_some (decision_kept (m.fates u)) ≡ true → decision_name.Fits u
    fits_beside u true e is = subst (λ (x : TransId). decision_name.Fits x) (same_trans-true t u e) named
    fits_beside u false e is = h.fit_decided u (ap (λ (o : Option Decision). is_some o) (sym (others u e)) ∙ is)

    timely_beside : (u : TransId) (d : Decision) (b : Bool) → same_trans t u ≡ b → decision_kept (m.fates u) ≡ Some d → d.ts ≤ s.holder.kept
    timely_beside u d true e is = let wrong : None ≡ Some d = sym gone ∙ ap (λ (x : TransId). decision_kept (m.fates x)) (same_trans-true t u e) ∙ is in cc
    timely_beside u d false e is = h.timely u d (sym (others u e) ∙ is)

    trans_away : (u : TransId) → (u ≡ t → ⊥) → same_trans t u ≡ false
    trans_away u other = go (same_trans t u) refl
      where
        go : (b : Bool) → same_trans t u ≡ b → b ≡ false
        go false e = refl
        go true e = absurd (other (sym (same_trans-true t u e)))

-- ---- by what the server keeps

module _ (server servers now : ℕ) (lives then : LiveMap) (joins after : Joins) (c : Coordinator) (notes : Notes) (j : JoinNo) (named : ready_name.Fits j) (h : AreNoted server servers now lives joins c notes)
    (others : (i : JoinNo) → same_join j i ≡ false → join_at after.lives i ≡ join_at joins.lives i) (sizes : (i : JoinNo) (x : LiveJoin) → join_at joins.lives i ≡ Some x → same_join j i ≡ false → is_open x.stage ≡ false → size_in then x.trans ≡ size_in lives x.trans) where
  abbrev kept_then : JoinNo → Option ReadyPart → Type 0
  kept_then = λ i. IsNotedJoin then (join_at after.lives i)

  keeps_now : Keeps server servers (clock_kept notes) (λ i. IsNotedJoin lives (join_at joins.lives i)) (λ u. decision_kept (fate_in c u)) notes
  keeps_now = record { clock = refl; ready = h.ready; decided = h.decided; format = h.format }

  others_noted : (i : JoinNo) (x : Option ReadyPart) → (i ≡ j → ⊥) → IsNotedJoin lives (join_at joins.lives i) x → IsNotedJoin then (join_at after.lives i) x
  others_noted i x other q = subst (λ (o : Option LiveJoin). IsNotedJoin then o x) (sym (others i (number_away i j other))) (go (join_at joins.lives i) refl q)
    where
      by : (y : LiveJoin) → join_at joins.lives i ≡ Some y → (s : Stage) → y.stage ≡ s → (z : Option ReadyPart) → IsNotedAs lives y s z → IsNotedAs then y s z
      by y at (stage.Joining who) e z q = q
      by y at (stage.Active who) e z q = q
      by y at (stage.Ready n) e None q = q
      by y at (stage.Ready n) e (Some r) q = record { trans = q.trans; client = q.client; ts = q.ts; size = subst (λ (z : PartSize). HasSize z r) (sym (sizes i y at (number_away i j other) (ap is_open e))) q.size }

      go : (o : Option LiveJoin) → join_at joins.lives i ≡ o → IsNotedJoin lives o x → IsNotedJoin then o x
      go None e q = q
      go (Some y) e q = by y e y.stage refl x q

  -- the join is over
  pub end_noted : join_at after.lives j ≡ None → AreNoted server servers now then after c (noted (ready_name.spell j) None notes)
  end_noted gone =
      let k = end_ready server servers (clock_kept notes) (λ i. IsNotedJoin lives (join_at joins.lives i)) (λ u. decision_kept (fate_in c u)) notes keeps_now kept_then j named others_noted (subst (λ (o : Option LiveJoin). IsNotedJoin then o None) (sym gone) refl) in
      record { epoch = ap (λ (n : ClockNote). n.epoch) k.clock ∙ h.epoch; ready = k.ready; decided = k.decided; format = k.format }

  -- it votes
  pub put_noted : (p : ReadyPart) → ready_form.Fits p → j.server ≡ server → is_another server servers p.trans.server ≡ true → IsNotedJoin then (join_at after.lives j) (Some p) → AreNoted server servers now then after c (noted (ready_name.spell j) (Some (ready_form.spell p)) notes)
  put_noted p fits here far this =
      let k = put_ready server servers (clock_kept notes) (λ i. IsNotedJoin lives (join_at joins.lives i)) (λ u. decision_kept (fate_in c u)) notes keeps_now kept_then j named others_noted p fits here far this in
      record { epoch = ap (λ (n : ClockNote). n.epoch) k.clock ∙ h.epoch; ready = k.ready; decided = k.decided; format = k.format }

-- a decision is forgotten
pub forget_noted : (server servers now : ℕ) (lives : LiveMap) (joins : Joins) (c z : Coordinator) (notes : Notes) (t : TransId) → decision_name.Fits t → AreNoted server servers now lives joins c notes
    → ((u : TransId) → same_trans t u ≡ false → decision_kept (fate_in z u) ≡ decision_kept (fate_in c u)) → decision_kept (fate_in z t) ≡ None → AreNoted server servers now lives joins z (noted (decision_name.spell t) None notes)
forget_noted server servers now lives joins c z notes t named h others gone =
    let keeps : Keeps server servers (clock_kept notes) (λ i. IsNotedJoin lives (join_at joins.lives i)) (λ u. decision_kept (fate_in c u)) notes = record { clock = refl; ready = h.ready; decided = h.decided; format = h.format } in
    let k = end_decision server servers (clock_kept notes) (λ i. IsNotedJoin lives (join_at joins.lives i)) (λ u. decision_kept (fate_in c u)) notes keeps (λ u. decision_kept (fate_in z u)) t named (λ u other. sym (others u (trans_away u other))) gone in
    record { epoch = ap (λ (n : ClockNote). n.epoch) k.clock ∙ h.epoch; ready = k.ready; decided = k.decided; format = k.format }
  where
    trans_away : (u : TransId) → (u ≡ t → ⊥) → same_trans t u ≡ false
    trans_away u other = go (same_trans t u) refl
      where
        go : (b : Bool) → same_trans t u ≡ b → b ≡ false
        go false e = refl
        go true e = absurd (other (sym (same_trans-true t u e)))

-- ---- what may be written

or_left : (b c : Bool) → b ≡ true → (b || c) ≡ true
or_left true c e = refl
or_left false c e = let wrong : false ≡ true = e in cc

or_right : (b c : Bool) → c ≡ true → (b || c) ≡ true
or_right true c e = refl
or_right false c e = e

-- the note of a part of this server may end
pub join_ends : (server : ℕ) (j : JoinNo) → ready_name.Fits j → j.server ≡ server → may_end server (ready_name.spell j) ≡ true
join_ends server j named here =
    or_left (is_join_on server (whole ready_name (ready_name.spell j))) (is_trans_of server (whole decision_name (ready_name.spell j))) (ap (is_join_on server) (whole_back ready_name ready_name_law j named) ∙ eq-eqb j.server server here)

pub end_changes : (server servers : ℕ) (notes : Notes) (j : JoinNo) → ready_name.Fits j → j.server ≡ server → AreServerNotes server servers notes → AreServerNotes server servers (noted (ready_name.spell j) None notes) → map.len notes ≤ 129
    → AreNoteChanges server servers notes (ready_ended j ∷ [])
end_changes server servers notes j named here before after few = record { before = before; after = after; each = ap (λ (b : Bool). b && true) (join_ends server j named here); rise = refl; few = omega (arith, few) }

pub vote_changes : (server servers : ℕ) (notes : Notes) (j : JoinNo) (p : ReadyPart) → AreServerNotes server servers notes → AreServerNotes server servers (noted (ready_name.spell j) (Some (ready_form.spell p)) notes) → map.len notes ≤ 129 → AreNoteChanges server servers notes (ready_noted j p ∷ [])
vote_changes server servers notes j p before after few = record {
  before = before;
  after = after;
  each = ap (λ (b : Bool). b && true) (after (ready_name.spell j) (ready_form.spell p) (found_put notes (ready_name.spell j) (ready_form.spell p)));
  rise = refl;
  few = omega (arith, few);
}
  where
    found_put : (notes : Notes) (name value : List ℕ) → map.get (map.insert notes name value) name ≡ Some value
    found_put notes name value = get-insert nat_list_cmp_total notes name value name ∙ ap (λ (b : Bool). cond {A = Option (List ℕ)} b (Some value) (map.get notes name)) ((eq_by_cmp_equiv nat_list_cmp_total).refl name)

-- names of clocks are before those of parts
clock_first : (j : JoinNo) → text_below clock_name (ready_name.spell j) ≡ true
unfolding ready_name
clock_first j = refl

pub apply_changes : (server servers : ℕ) (notes : Notes) (c : ClockNote) (j : JoinNo) → ready_name.Fits j → j.server ≡ server → AreServerNotes server servers notes → AreServerNotes server servers (noted clock_name (Some (clock_form.spell c)) notes)
    → AreServerNotes server servers (noted (ready_name.spell j) None (noted clock_name (Some (clock_form.spell c)) notes)) → map.len notes ≤ 129 → AreNoteChanges server servers notes (clock_put c ∷ ready_ended j ∷ [])
apply_changes server servers notes c j named here before mid after few = record {
  before = before;
  after = after;
  each = (λ i. clock_format i && (join_ends server j named here i && true));
  rise = ap (λ (b : Bool). b && true) (clock_first j);
  few = omega (arith, few);
}
  where
    clock_format : is_server_note server servers clock_name (clock_form.spell c) ≡ true
    clock_format = mid clock_name (clock_form.spell c) (get-insert nat_list_cmp_total notes clock_name (clock_form.spell c) clock_name)

-- a note in the format that is not the clock's may end
pub server_ends : (server servers : ℕ) (name value : List ℕ) → is_server_note server servers name value ≡ true → (name ≡ clock_name → ⊥) → may_end server name ≡ true
server_ends server servers name value format other = go (is_clock_note name value) refl (whole ready_name name) (whole ready_form value) (whole decision_name name) (whole decision_form value) format
  where
    first : (a b c : Bool) → ((a && b) || false) ≡ true → a ≡ true
    first true b c q = refl
    first false b c q = q

    go : (b : Bool) → is_clock_note name value ≡ b → (oj : Option JoinNo) (op : Option ReadyPart) (ot : Option TransId) (od : Option Decision) → (b || (is_ready_on server servers (ready_with oj op) || is_decision_of server servers (decision_with ot od))) ≡ true
        → (is_join_on server oj || is_trans_of server ot) ≡ true
    go true e oj op ot od on = absurd (other (same_name-true name clock_name (and_parts (pointwise nat_eq name clock_name) (is_some (whole clock_form value)) e).0))
    go false e None op None od on = let wrong : false ≡ true = on in cc
    go false e None op (Some t) None on = let wrong : false ≡ true = on in cc
    go false e None op (Some t) (Some d) on = (and_parts (t.server == server) (list_all (λ i. is_another server servers i.server) d.joins) on).0
    go false e (Some j) None None od on = let wrong : false ≡ true = on in cc
    go false e (Some j) None (Some t) None on = let wrong : false ≡ true = on in cc
    go false e (Some j) None (Some t) (Some d) on = or_right (j.server == server) (t.server == server) (and_parts (t.server == server) (list_all (λ i. is_another server servers i.server) d.joins) on).0
    go false e (Some j) (Some p) None od on = or_left (j.server == server) false (first (j.server == server) (is_another server servers p.trans.server) false on)
    go false e (Some j) (Some p) (Some t) None on = or_left (j.server == server) (t.server == server) (first (j.server == server) (is_another server servers p.trans.server) false on)
    go false e (Some j) (Some p) (Some t) (Some d) on = both (j.server == server) (is_another server servers p.trans.server) (t.server == server) (list_all (λ i. is_another server servers i.server) d.joins) on
      where
        both : (a b c d : Bool) → ((a && b) || (c && d)) ≡ true → (a || c) ≡ true
        both true b c d q = refl
        both false b true d q = refl
        both false b false d q = q

pub forget_changes : (server servers : ℕ) (notes : Notes) (t : TransId) → may_end server (decision_name.spell t) ≡ true → AreServerNotes server servers notes → AreServerNotes server servers (noted (decision_name.spell t) None notes) → map.len notes ≤ 129
    → AreNoteChanges server servers notes (decision_ended t ∷ [])
forget_changes server servers notes t ends before after few = record { before = before; after = after; each = ap (λ (b : Bool). b && true) ends; rise = refl; few = omega (arith, few) }

-- they are short
pub end_short : (j : JoinNo) → sum_by (λ (n : NoteChange). noted_bytes n.name n.value) (ready_ended j ∷ []) ≤ 128
end_short j = omega (arith, ready_name_length j)

pub forget_short : (t : TransId) → sum_by (λ (n : NoteChange). noted_bytes n.name n.value) (decision_ended t ∷ []) ≤ 128
forget_short t = omega (arith, decision_name_length t)

pub apply_short : (c : ClockNote) (j : JoinNo) → sum_by (λ (n : NoteChange). noted_bytes n.name n.value) (clock_put c ∷ ready_ended j ∷ []) ≤ 128
apply_short c j = omega (arith, clock_length c, ready_name_length j)
