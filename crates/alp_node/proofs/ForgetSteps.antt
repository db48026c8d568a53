-- the last part has applied a decision: its note ends in one write, and it is forgotten
use Rattle.std.specs.Prelude.{cond, Bool, true, false, not, ◌==◌, ◌&&◌, sum_by, IsTrue, Option, None, Some, is_some, Result, Ok}
use Rattle.std.specs.List.{list_any}
use Rattle.std.specs.Option.{option_and_then}
use Rattle.std.specs.FinMap as map
use Rattle.std.proofs.lemmas.Bool.{and_parts}
use Rattle.std.proofs.Common.{◌≡◌, ℕ, ◌+◌, ◌≤◌, List, [], ◌∷◌, ◌++◌, length, refl, sym, ◌∙◌, ap, subst, arith, le_refl}
use Rattle.alp_base.specs.Notes.{Notes, noted, notes_after}
use Rattle.alp_base.specs.declared.bytes.NoteChange.{NoteChange}
use Rattle.alp_base.specs.declared.ids.JoinNo.{JoinNo}
use Rattle.alp_base.specs.declared.ids.Stamp.{Stamp}
use Rattle.alp_base.specs.declared.ids.TransId.{TransId}
use Rattle.alp_fields.specs.Forms.{whole}
use Rattle.alp_fields.specs.ClockNote.{clock_name, clock_kept}
use Rattle.alp_fields.specs.DecisionNote.{decision_name, decision_form, decision_ended}
use Rattle.alp_fields.specs.declared.decision_note.Decision.{Decision}
use Rattle.alp_fields.proofs.DecisionNoteLaw.{decision_name_length}
use Rattle.alp_calls.proofs.PartLaws.{same_change}
use Rattle.alp_files.specs.Changes.{edits_of}
use Rattle.alp_files.specs.Edits.{edits_map}
use Rattle.alp_files.specs.Needs.{Intents, no_intents}
use Rattle.alp_journal.specs.declared.act.Act.{Act}
use Rattle.alp_journal.specs.declared.act.Act.TheVariants as act
use Rattle.alp_journal.specs.declared.entry.Entry.{Entry}
use Rattle.alp_journal.specs.declared.event.Event.{Event}
use Rattle.alp_journal.specs.declared.event.Event.TheVariants as event
use Rattle.alp_journal.specs.declared.message.Message.TheVariants as msg
use Rattle.alp_journal.specs.Account.{Account, state_of, IsQuiet, Leads}
use Rattle.alp_journal.specs.Along.{state_after}
use Rattle.alp_journal.specs.Answers.{is_counted}
use Rattle.alp_journal.specs.Coordinator.{Fate, Undrawn, Running, Finishing, Committed, Forgotten, Ended, client_of, decision_in, joins_of, has_all, fate_after}
use Rattle.alp_journal.specs.Coordinator as fate
use Rattle.alp_journal.specs.Deeds.{Deed, Acknowledges, Forgets}
use Rattle.alp_journal.specs.Ids.{same_trans, has_join}
use Rattle.alp_journal.specs.Moves.{acknowledges, is_stop, tried}
use Rattle.alp_journal.specs.State.{State, state_deed}
use Rattle.alp_journal.proofs.DecisionSteps.{forget_leads, with_forgotten_at}
use Rattle.alp_journal.proofs.HaltSteps.{stop_of, stop_entry, with_stop, done_stop_leads}
use Rattle.alp_journal.proofs.IdLemmas.{same_trans-itself, same_trans-true}
use Rattle.alp_coord.specs.declared.answers.Receipt.{Receipt}
use Rattle.alp_coord.specs.declared.answers.Receipt.TheVariants as receipt
use Rattle.alp_coord.specs.declared.coordinator.Coordinator.{Coordinator}
use Rattle.alp_coord.specs.Coordinators.{IsAlong, ComesLike, count_of, counted_of, epoch_of, fate_in, forgotten_as, forgotten_fate, is_applied, receipt_of, server_of}
use Rattle.alp_coord.specs.Likeness.{IsLike, IsFateOf}
use Rattle.alp_coord.specs.Likeness as like
use Rattle.alp_coord.proofs.LikeLemmas.{all_done_alike}
use Rattle.alp_coord.proofs.TieLemmas.{known-after, known-forgotten}
use Rattle.alp_ready.proofs.NoteViews.{end_decision}
use Rattle.alp_trans.specs.Parts.{change_of}
use Rattle.alp_trans.specs.declared.part.Part.{Part}
use Rattle.alp_vault.specs.Contents.{Contents}
use Rattle.alp_vault.specs.Volumes.{AreNoteChanges, AreServerNotes, may_end}
use Rattle.alp_vault.specs.declared.vault.Vault.{Ghosts}
use Rattle.alp_worker.specs.Lives.{join_at}
use Rattle.alp_node.specs.Durable.{AreNotesOf, IsSaidBy, IsStoredBy, IsWritten}
use Rattle.alp_node.specs.Noted.{AreNotesFor, IsNotedJoin, decision_kept, ready_room}
use Rattle.alp_node.specs.Noting.{HasRoomFor}
use Rattle.alp_node.specs.Paired.{ArePaired, IsPairedWith, IsPartOf}
use Rattle.alp_node.specs.ServerState.{IsAs, IsReady, IsReadyForMore}
use Rattle.alp_node.specs.Steps.{Stepped, told_answer}
use Rattle.alp_node.specs.Transactions.{AreDecidedBy, IsCoordinatorBy}
use Rattle.alp_node.specs.Waits.{AreWaiting}
use Rattle.alp_node.specs.Writes.{Writes}
use Rattle.alp_node.specs.declared.answer.Answer.{Answer}
use Rattle.alp_node.specs.declared.lives.Live.{Live}
use Rattle.alp_node.specs.declared.server_state.ServerState.{ServerState}
use Rattle.alp_node.proofs.FatedLemmas.{IsFatedAs, fated_like}
use Rattle.alp_node.proofs.HeardLemmas.{known_receipt}
use Rattle.alp_node.proofs.KeptLemmas.{applied_fated, stands_timely}
use Rattle.alp_node.proofs.LetGoWrites.{said_cells, said_notes}
use Rattle.alp_node.proofs.LogLemmas.{notes_few, small_room}
use Rattle.alp_node.proofs.NoteWrites.{forget_changes, forget_noted, forget_short, forgotten_notes, server_ends}
use Rattle.alp_node.proofs.PairedLemmas.{counted_fewer}
use Rattle.alp_node.proofs.ReadyLemmas.{ready_with, stepped_ready}
use Rattle.alp_node.proofs.EarlyLemmas.{early_acknowledges, early_forgets}
use Rattle.alp_node.proofs.TransactionLemmas.{run_along}
use Rattle.alp_node.proofs.WriteSteps.{HasCome, IsStop, written_stepped}

-- ---- the last word on a decision

pub record IsLastDone (j : JoinNo) (f : Fate) : Type 0 where
  pub stamp : Stamp
  pub joins : List JoinNo
  pub before : List JoinNo
  pub is : f ≡ Committed stamp joins before
  pub its : has_join j joins ≡ true
  pub all : has_all (j ∷ before) joins ≡ true

pub last_receipt : (j : JoinNo) (f : Fate) → receipt_of j f ≡ receipt.Last → IsLastDone j f
last_receipt j Undrawn e = (let wrong : receipt.Dropped ≡ receipt.Last = e in cc)
last_receipt j (Running c js) e = (let wrong : receipt.Dropped ≡ receipt.Last = e in cc)
last_receipt j (Finishing c js vs) e = (let wrong : receipt.Dropped ≡ receipt.Last = e in cc)
last_receipt j (Committed stamp js ds) e = go (has_join j js) refl (not (has_all ds js) && has_all (j ∷ ds) js) refl e
  where
    go : (b : Bool) → has_join j js ≡ b → (c : Bool) → (not (has_all ds js) && has_all (j ∷ ds) js) ≡ c → cond {A = Receipt} b (cond {A = Receipt} c receipt.Last receipt.Kept) receipt.Dropped ≡ receipt.Last → IsLastDone j (Committed stamp js ds)
    go false f c g e = (let wrong : receipt.Dropped ≡ receipt.Last = e in cc)
    go true f false g e = (let wrong : receipt.Kept ≡ receipt.Last = e in cc)
    go true f true g e = record { stamp = stamp; joins = js; before = ds; is = refl; its = f; all = (and_parts (not (has_all ds js)) (has_all (j ∷ ds) js) g).1 }
last_receipt j (Forgotten stamp js) e = (let wrong : receipt.Dropped ≡ receipt.Last = e in cc)
last_receipt j (Ended c) e = (let wrong : receipt.Dropped ≡ receipt.Last = e in cc)

-- it has joins
some_joins : (j : JoinNo) (stamp : Stamp) (js ds : List JoinNo) → has_join j js ≡ true → is_applied (Committed stamp js ds) ≡ has_all ds js
some_joins j stamp [] ds its = let wrong : false ≡ true = its in cc
some_joins j stamp (k ∷ js) ds its = refl

kept_joins : (j : JoinNo) (stamp : Stamp) (js ds : List JoinNo) → has_join j js ≡ true → (d : Decision) × (decision_kept (Committed stamp js ds) ≡ Some d)
kept_joins j stamp [] ds its = absurd (let wrong : false ≡ true = its in cc)
kept_joins j stamp (k ∷ js) ds its = (record { ts = stamp.ts; joins = k ∷ js }, refl)

applied_alike : (f g : Fate) → IsLike f g → is_applied f ≡ is_applied g
applied_alike _ _ (like.same f) = refl
applied_alike _ _ (like.finishing c js vs ws h) = refl
applied_alike _ _ (like.committed stamp [] ds es h) = refl
applied_alike _ _ (like.committed stamp (j ∷ js) ds es h) = all_done_alike (j ∷ js) ds es h

-- what is forgotten is nobody's, counts no more, keeps its time and has no note
forgotten_client : (b : Bool) (f : Fate) → client_of (forgotten_fate b f) ≡ client_of f
forgotten_client b Undrawn = refl
forgotten_client b (Running c js) = refl
forgotten_client b (Finishing c js vs) = refl
forgotten_client b (Committed stamp [] ds) = refl
forgotten_client b (Committed stamp (j ∷ js) ds) = go b (has_all ds (j ∷ js))
  where
    go : (b d : Bool) → client_of (cond {A = Fate} d (forgotten_as b (Committed stamp (j ∷ js) ds)) (Committed stamp (j ∷ js) ds)) ≡ None
    go b false = refl
    go true true = refl
    go false true = refl
forgotten_client b (Forgotten stamp js) = refl
forgotten_client b (Ended c) = refl

forgotten_counts : (b : Bool) (f : Fate) → is_counted (forgotten_fate b f) ≡ true → is_counted f ≡ true
forgotten_counts b Undrawn e = e
forgotten_counts b (Running c js) e = e
forgotten_counts b (Finishing c js vs) e = e
forgotten_counts b (Committed stamp [] ds) e = e
forgotten_counts b (Committed stamp (j ∷ js) ds) e = refl
forgotten_counts b (Forgotten stamp js) e = e
forgotten_counts b (Ended c) e = e

forgotten_decision : (b : Bool) (f : Fate) (s : Stamp) (ks : List JoinNo) → decision_in (forgotten_fate b f) ≡ Some (s, ks) → decision_in f ≡ Some (s, ks)
forgotten_decision b Undrawn s ks e = e
forgotten_decision b (Running c js) s ks e = e
forgotten_decision b (Finishing c js vs) s ks e = e
forgotten_decision b (Committed stamp [] ds) s ks e = e
forgotten_decision b (Committed stamp (j ∷ js) ds) s ks e = go b (has_all ds (j ∷ js)) e
  where
    go : (b d : Bool) → decision_in (cond {A = Fate} d (forgotten_as b (Committed stamp (j ∷ js) ds)) (Committed stamp (j ∷ js) ds)) ≡ Some (s, ks) → decision_in (Committed stamp (j ∷ js) ds) ≡ Some (s, ks)
    go b false e = e
    go true true e = e
    go false true e = let wrong : None ≡ Some (s, ks) = e in cc
forgotten_decision b (Forgotten stamp js) s ks e = e
forgotten_decision b (Ended c) s ks e = e

forgotten_none : (b : Bool) (f : Fate) → is_applied f ≡ true → decision_kept (forgotten_fate b f) ≡ None
forgotten_none b Undrawn e = let wrong : false ≡ true = e in cc
forgotten_none b (Running c js) e = let wrong : false ≡ true = e in cc
forgotten_none b (Finishing c js vs) e = let wrong : false ≡ true = e in cc
forgotten_none b (Committed stamp [] ds) e = let wrong : false ≡ true = e in cc
forgotten_none b (Committed stamp (j ∷ js) ds) e = ap (λ (d : Bool). decision_kept (cond {A = Fate} d (forgotten_as b (Committed stamp (j ∷ js) ds)) (Committed stamp (j ∷ js) ds))) e ∙ go b
  where
    go : (b : Bool) → decision_kept (forgotten_as b (Committed stamp (j ∷ js) ds)) ≡ None
    go true = refl
    go false = refl
forgotten_none b (Forgotten stamp js) e = let wrong : false ≡ true = e in cc
forgotten_none b (Ended c) e = let wrong : false ≡ true = e in cc

-- the journal forgets it too
journal_decision : (b : Bool) (j : JoinNo) (f : Fate) → decision_in (cond {A = Fate} b (fate.forgotten (fate.acknowledged j f)) f) ≡ decision_in f
journal_decision false j f = refl
journal_decision true j Undrawn = refl
journal_decision true j (Running c js) = refl
journal_decision true j (Finishing c js vs) = refl
journal_decision true j (Committed stamp js ds) = go (has_all (j ∷ ds) js)
  where
    go : (b : Bool) → decision_in (cond {A = Fate} b (Forgotten stamp js) (Committed stamp js (j ∷ ds))) ≡ Some (stamp, js)
    go true = refl
    go false = refl
journal_decision true j (Forgotten stamp js) = refl
journal_decision true j (Ended c) = refl

-- ---- the step

module _ {V : Type 0} (G : Ghosts V) (k : ServerState V) (from : ℕ) (t : TransId) (j : JoinNo) (last : receipt_of j (fate_in k.coordinator t) ≡ receipt.Last) (up : k.is_down ≡ false) (ready : IsReadyForMore (G.serves k.vault) k) (named : decision_name.Fits t) where
  abbrev event_of : Event
  event_of = event.Arrive from (msg.Done t j)

  pub its_last : IsLastDone j (fate_in k.coordinator t)
  its_last = last_receipt j (fate_in k.coordinator t) last

  last_told : (a : Account) → IsAs a (G.held k.vault) k → IsLastDone j (a.fates t)
  last_told a h = last_receipt j (a.fates t) (sym (known_receipt a.ids.epoch t j (fate_in k.coordinator t) (a.fates t) (h.coordinator.fates t)) ∙ last)

  -- ---- what may be written

  -- its note stands
  stands : (notes : Notes) → AreNotesFor k notes → may_end k.server (decision_name.spell t) ≡ true
  stands notes are =
      let d = kept_joins j its_last.stamp its_last.joins its_last.before its_last.its in
      go (map.get notes (decision_name.spell t)) refl d.0 (are.decided t named ∙ ap decision_kept its_last.is ∙ d.1)
    where
      not_clock : decision_name.spell t ≡ clock_name → ⊥
      not_clock e = (let same : length (decision_name.spell t) ≡ 1 = ap (λ (bs : List ℕ). length bs) e in let wrong : length (decision_name.spell t) ≡ 10 = decision_name_length t in absurd (omega (arith, same, wrong)))

      go : (o : Option (List ℕ)) → map.get notes (decision_name.spell t) ≡ o → (d : Decision) → option_and_then (λ value. whole decision_form value) o ≡ Some d → may_end k.server (decision_name.spell t) ≡ true
      go None e d at = let wrong : None ≡ Some d = at in cc
      go (Some value) e d at = server_ends k.server k.servers (decision_name.spell t) value (are.format (decision_name.spell t) value e) not_clock

  -- without it they are in the format still
  format_then : (notes : Notes) → AreNotesFor k notes → AreServerNotes k.server k.servers (noted (decision_name.spell t) None notes)
  format_then notes are = (end_decision k.server k.servers (clock_kept notes) (λ i. IsNotedJoin k.lives (join_at k.joins.lives i)) (λ u. decision_kept (fate_in k.coordinator u)) notes
      (record { clock = refl; ready = are.ready; decided = are.decided; format = are.format }) now t named (λ u other. sym (ap (λ (b : Bool). cond {A = Option Decision} b None (decision_kept (fate_in k.coordinator u))) (trans_away u other)))
      (ap (λ (b : Bool). cond {A = Option Decision} b None (decision_kept (fate_in k.coordinator t))) (same_trans-itself t))).format
    where
      now : TransId → Option Decision
      now = λ u. cond {A = Option Decision} (same_trans t u) None (decision_kept (fate_in k.coordinator u))

      trans_away : (u : TransId) → (u ≡ t → ⊥) → same_trans t u ≡ false
      trans_away u other = go (same_trans t u) refl
        where
          go : (b : Bool) → same_trans t u ≡ b → b ≡ false
          go false e = refl
          go true e = absurd (other (sym (same_trans-true t u e)))

  pub may_forget : (notes : Notes) → AreNotesFor k notes → AreNoteChanges k.server k.servers notes (decision_ended t ∷ [])
  may_forget notes are = forget_changes k.server k.servers notes t (stands notes are) are.format (format_then notes are) (notes_few k.server k.servers k.epoch k.lives k.joins k.coordinator notes are ready.2.most)

  pub forget_room : (notes : Notes) → AreNotesFor k notes → HasRoomFor notes k.sizes (decision_ended t ∷ [])
  forget_room notes are = small_room k.server k.servers k.epoch k.lives k.joins k.coordinator notes are ready.2.most k.sizes.area (ready_room k.lives k.joins.lives).greatest _ ready.2.fits (forget_short t)

  -- ---- the server goes down in it

  module _ (p : Part) (idle : p.intents ≡ no_intents) where
    same_cells : (held c : Contents) → c.cells ≡ edits_map (edits_of (change_of p.intents)) held.cells → c.cells ≡ held.cells
    same_cells held c is = is ∙ same_change held.cells p [] idle

    -- the deeds of the word
    deeds_are : (a : Account) → IsAs a (G.held k.vault) k → acknowledges t j (a.fates t) ++ (Forgets t ∷ []) ++ [] ≡ Acknowledges t j ∷ Forgets t ∷ []
    deeds_are a h =
        let o : IsLastDone j (a.fates t) = last_told a h in
        ap (λ (f : Fate). acknowledges t j f ++ (Forgets t ∷ []) ++ []) o.is ∙ ap (λ (b : Bool). cond {A = List Deed} b (Acknowledges t j ∷ []) [] ++ (Forgets t ∷ []) ++ []) o.its

    abbrev done_state : Account → State
    done_state a = state_deed (state_deed (state_of a) (Acknowledges t j)) (Forgets t)

    written_notes : (a : Account) → IsAs a (G.held k.vault) k → (d : Contents) → IsWritten p.intents (decision_ended t ∷ []) (G.held k.vault) d → AreNotesOf (state_deed (state_deed (state_of a) (Acknowledges t j)) (Forgets t)) a.ids.epoch d.notes
    written_notes a h d w =
        let o : IsLastDone j (a.fates t) = last_told a h in
        subst (AreNotesOf (done_state a) a.ids.epoch) (sym w.notes)
        (forgotten_notes (state_of a) (done_state a) t a.ids.epoch (G.held k.vault).notes refl refl refl
        (λ u away. ap (λ (b : Bool). decision_kept (cond {A = Fate} b (fate.forgotten (cond {A = Fate} b (fate.acknowledged j (a.fates u)) (a.fates u))) (cond {A = Fate} b (fate.acknowledged j (a.fates u)) (a.fates u)))) away)
        (ap (λ (b : Bool). decision_kept (cond {A = Fate} b (fate.forgotten (cond {A = Fate} b (fate.acknowledged j (a.fates t)) (a.fates t))) (cond {A = Fate} b (fate.acknowledged j (a.fates t)) (a.fates t)))) (same_trans-itself t)
        ∙ ap (λ (f : Fate). decision_kept (fate.forgotten (fate.acknowledged j f))) o.is ∙ ap (λ (b : Bool). decision_kept (cond {A = Fate} b (Forgotten o.stamp o.joins) (Committed o.stamp o.joins (j ∷ o.before)))) o.all)
        named (h.notes up))

    is_said : (a : Account) (h : IsAs a (G.held k.vault) k) (e : Entry) → tried (state_of a) e ≡ Acknowledges t j ∷ Forgets t ∷ [] → (d : Contents) → IsWritten p.intents (decision_ended t ∷ []) (G.held k.vault) d → IsSaidBy (state_of a) e d
    is_said a h e are d w = subst (λ (ds : List Deed). IsStoredBy a.ids.epoch (state_after state_deed (state_of a) ds) d) (sym are) (record { cells = same_cells (G.held k.vault) d w.cells ∙ h.cells up; notes = written_notes a h d w })

    stop_deeds : (a : Account) → IsAs a (G.held k.vault) k → (b : Bool) → tried (state_of a) (stop_entry a from (msg.Done t j) (act.Forgot t ∷ stop_of b ∷ [])) ≡ Acknowledges t j ∷ Forgets t ∷ []
    stop_deeds a h true = deeds_are a h
    stop_deeds a h false = deeds_are a h

    pub forget_stop : (v : V) → IsStop G k v p (decision_ended t ∷ []) up from (msg.Done t j) (act.Forgot t ∷ [])
    forget_stop v = record {
      stops = λ b. stop_is b;
      causes = λ before now allowance z q. q;
      leads = λ b a h. (let o : IsLastDone j (a.fates t) = last_told a h in done_stop_leads a from t j o.stamp o.joins o.before h.quiet (h.down ∙ up) o.is o.its o.all b);
      said = λ b a h d w. is_said a h (stop_entry a from (msg.Done t j) (act.Forgot t ∷ stop_of b ∷ [])) (stop_deeds a h b) d w;
    }
      where
        stop_is : (b : Bool) → list_any is_stop (act.Forgot t ∷ stop_of b ∷ []) ≡ true
        stop_is true = refl
        stop_is false = refl

  module _ (mid z : Coordinator) (first : IsAlong k.coordinator mid) (heard : ComesLike (Acknowledges t j) k.coordinator mid) (second : IsAlong mid z)
      (forgot : (u : TransId) → fate_in z u ≡ cond {A = Fate} (same_trans t u) (forgotten_fate (u.epoch == epoch_of mid) (fate_in mid u)) (fate_in mid u)) where
    fated : IsFatedAs k.coordinator mid
    fated = fated_like (Acknowledges t j) k.coordinator mid tt first heard

    applied_mid : is_applied (fate_in mid t) ≡ true
    applied_mid =
        applied_alike (fate_in mid t) (fate_after (Acknowledges t j) t (fate_in k.coordinator t)) (heard t)
        ∙ ap (λ (b : Bool). is_applied (cond {A = Fate} b (fate.acknowledged j (fate_in k.coordinator t)) (fate_in k.coordinator t))) (same_trans-itself t) ∙ ap (λ (f : Fate). is_applied (fate.acknowledged j f)) its_last.is
        ∙ some_joins j its_last.stamp its_last.joins (j ∷ its_last.before) its_last.its ∙ its_last.all

    -- another one is as it was
    other_fate : (u : TransId) → same_trans t u ≡ false → fate_in z u ≡ fate_in mid u
    other_fate u away = forgot u ∙ ap (λ (b : Bool). cond {A = Fate} b (forgotten_fate (u.epoch == epoch_of mid) (fate_in mid u)) (fate_in mid u)) away

    this_fate : fate_in z t ≡ forgotten_fate (t.epoch == epoch_of mid) (fate_in mid t)
    this_fate = forgot t ∙ ap (λ (b : Bool). cond {A = Fate} b (forgotten_fate (t.epoch == epoch_of mid) (fate_in mid t)) (fate_in mid t)) (same_trans-itself t)

    others_kept : (u : TransId) → same_trans t u ≡ false → decision_kept (fate_in z u) ≡ decision_kept (fate_in k.coordinator u)
    others_kept u away = ap decision_kept (other_fate u away) ∙ (fated.fates u).noted

    none_kept : decision_kept (fate_in z t) ≡ None
    none_kept = ap decision_kept this_fate ∙ forgotten_none (t.epoch == epoch_of mid) (fate_in mid t) applied_mid

    noted_then : (notes : Notes) → AreNotesFor k notes → AreNotesFor (record k { coordinator = z }) (noted (decision_name.spell t) None notes)
    noted_then notes are = forget_noted k.server k.servers k.epoch k.lives k.joins k.coordinator z notes t named are others_kept none_kept

    -- ---- it was written

    forgot_part : (u : TransId) (l : Live) (o : Option JoinNo) → client_of (fate_in z u) ≡ client_of (fate_in k.coordinator u) → IsPartOf k.joins u l (fate_in k.coordinator u) o → IsPartOf k.joins u l (fate_in z u) o
    forgot_part u l None e q = (e ∙ q.0, q.1)
    forgot_part u l (Some i) e q = (e ∙ q.0, q.1)

    forgot_paired : (u : TransId) (x : Option Live) → client_of (fate_in z u) ≡ client_of (fate_in k.coordinator u) → IsPairedWith k.joins u (fate_in k.coordinator u) x → IsPairedWith k.joins u (fate_in z u) x
    forgot_paired u None e q = e ∙ q
    forgot_paired u (Some l) e q = forgot_part u l l.join e q

    -- each transaction is its client's as it was, counts if it did, and was decided when it was
    pub record IsNoMore (u : TransId) : Type 0 where
      pub client : client_of (fate_in z u) ≡ client_of (fate_in k.coordinator u)
      pub counts : is_counted (fate_in z u) ≡ true → is_counted (fate_in k.coordinator u) ≡ true
      pub decision : (s : Stamp) (ks : List JoinNo) → decision_in (fate_in z u) ≡ Some (s, ks) → decision_in (fate_in k.coordinator u) ≡ Some (s, ks)

    no_more : (u : TransId) → IsNoMore u
    no_more u = go (same_trans t u) (forgot u)
      where
        go : (b : Bool) → fate_in z u ≡ cond {A = Fate} b (forgotten_fate (u.epoch == epoch_of mid) (fate_in mid u)) (fate_in mid u) → IsNoMore u
        go true e = record {
          client = ap client_of e ∙ forgotten_client (u.epoch == epoch_of mid) (fate_in mid u) ∙ (fated.fates u).client;
          counts = λ q. sym (fated.fates u).counted ∙ forgotten_counts (u.epoch == epoch_of mid) (fate_in mid u) (sym (ap is_counted e) ∙ q);
          decision = λ s ks q. sym (fated.fates u).decision ∙ forgotten_decision (u.epoch == epoch_of mid) (fate_in mid u) s ks (sym (ap decision_in e) ∙ q);
        }
        go false e = record { client = ap client_of e ∙ (fated.fates u).client; counts = λ q. sym (fated.fates u).counted ∙ sym (ap is_counted e) ∙ q; decision = λ s ks q. sym (fated.fates u).decision ∙ sym (ap decision_in e) ∙ q }

    along : IsAlong k.coordinator z
    along = run_along (server_of k.coordinator) (epoch_of k.coordinator) (count_of k.coordinator) mid z first second

    forgot_ready : (n : ℕ) (serves : Bool) → IsReady n serves k → IsReady n serves (record k { coordinator = z })
    forgot_ready n serves r = record {
      serving = r.serving;
      halted = r.halted;
      sound = r.sound;
      taken = r.taken;
      waits = subst (λ (m : ℕ). AreWaiting k.server k.epoch k.given m k.sizes k.lives k.waits k.locks.waiting) (sym along.count_same) r.waits;
      known = r.known;
      seat = (along.server_same ∙ r.seat.0, along.epoch_same ∙ r.seat.1);
      joins = r.joins;
      paired = record { parts = λ u. forgot_paired u (map.get k.lives u) (no_more u).client (r.paired.parts u); joins = r.paired.joins; others = r.paired.others; own = λ u client runs. r.paired.own u client (sym (no_more u).client ∙ runs) };
      idle = r.idle;
      opens = r.opens;
      opened = r.opened;
      alive = r.alive;
      places = r.places;
      calls = r.calls;
      replies = r.replies;
      drawn = subst (λ (m : ℕ). m ≤ n) (sym along.count_same) r.drawn;
      times = λ u s ks is. r.times u s ks ((no_more u).decision s ks is);
      given = r.given;
      most = (let fewer : counted_of z ≤ counted_of k.coordinator = counted_fewer k.coordinator z (λ u. (no_more u).counts) in let before : counted_of k.coordinator + length k.joins.lives ≤ 64 = r.most in omega (arith, fewer, before));
      fits = r.fits;
      within = r.within;
      sized = r.sized;
      clock = r.clock;
      raised = r.raised;
      fated = early_forgets k.servers k.server t mid z forgot (early_acknowledges k.servers k.server t j k.coordinator mid heard r.fated);
      last = r.last;
      unheld = r.unheld;
    }

    module _ (p : Part) (idle : p.intents ≡ no_intents) (v : V) (w : Writes G k.vault v p (decision_ended t ∷ []) (Ok tt)) where
      abbrev pub forget_then : ServerState V
      forget_then = record k { coordinator = z; vault = v }

      module _ (a : Account) (h : IsAs a (G.held k.vault) k) where
        o : IsLastDone j (a.fates t)
        o = last_told a h

        abbrev next_state : Account
        next_state = with_forgotten_at a from t j o.stamp o.joins o.before

        leads : Leads false a (record { event = event.Arrive from (msg.Done t j); reply = None; acts = act.Forgot t ∷ [] }) (with_forgotten_at a from t j o.stamp o.joins o.before)
        leads = forget_leads a from t j o.stamp o.joins o.before h.quiet (h.down ∙ up) o.is o.its o.all

        fates_then : (u : TransId) → IsFateOf a.ids.epoch u (fate_in z u) (cond {A = Fate} (same_trans t u) (fate.forgotten (fate.acknowledged j (a.fates u))) (a.fates u))
        fates_then u =
            let now : epoch_of mid ≡ a.ids.epoch = first.epoch_same ∙ h.coordinator.run.epoch_same in
            let one : IsFateOf a.ids.epoch u (fate_in mid u) (fate_after (Acknowledges t j) u (a.fates u)) = known-after a.ids.epoch (Acknowledges t j) u (fate_in k.coordinator u) (fate_in mid u) (a.fates u) refl (h.coordinator.fates u) (heard u) in
            let two : IsFateOf a.ids.epoch u (cond {A = Fate} (same_trans t u) (forgotten_fate (u.epoch == a.ids.epoch) (fate_in mid u)) (fate_in mid u)) (fate_after (Forgets t) u (fate_after (Acknowledges t j) u (a.fates u))) =
            known-forgotten a.ids.epoch t u (fate_in mid u) (fate_after (Acknowledges t j) u (a.fates u)) (λ e. ap (λ (x : TransId). is_applied (fate_in mid x)) (sym (same_trans-true t u e)) ∙ applied_mid) one in
            subst (λ (f : Fate). IsFateOf a.ids.epoch u f (cond {A = Fate} (same_trans t u) (fate.forgotten (fate.acknowledged j (a.fates u))) (a.fates u))) (sym (forgot u ∙ ap (λ (n : ℕ). cond {A = Fate} (same_trans t u) (forgotten_fate (u.epoch == n) (fate_in mid u)) (fate_in mid u)) now))
            (subst (IsFateOf a.ids.epoch u (cond {A = Fate} (same_trans t u) (forgotten_fate (u.epoch == a.ids.epoch) (fate_in mid u)) (fate_in mid u))) (twice (same_trans t u) (a.fates u)) two)
          where
            twice : (b : Bool) (f : Fate) → cond {A = Fate} b (fate.forgotten (cond {A = Fate} b (fate.acknowledged j f) f)) (cond {A = Fate} b (fate.acknowledged j f) f) ≡ cond {A = Fate} b (fate.forgotten (fate.acknowledged j f)) f
            twice true f = refl
            twice false f = refl

        said : (d : Contents) → IsWritten p.intents (decision_ended t ∷ []) (G.held k.vault) d → IsSaidBy (state_of a) (record { event = event.Arrive from (msg.Done t j); reply = None; acts = act.Forgot t ∷ [] }) d
        said d q = is_said p idle a h (record { event = event.Arrive from (msg.Done t j); reply = None; acts = act.Forgot t ∷ [] }) (deeds_are p idle a h) d q

        forgot_as : (then : Contents) → then.cells ≡ a.holder.cells → AreNotesOf (state_of (with_forgotten_at a from t j o.stamp o.joins o.before)) a.ids.epoch then.notes → IsAs (with_forgotten_at a from t j o.stamp o.joins o.before) then (record k { coordinator = z; vault = v })
        forgot_as then same noted = record {
          server = h.server;
          servers = h.servers;
          sizes = h.sizes;
          epoch = h.epoch;
          clock = h.clock;
          cells = λ on. same;
          sized = h.sized;
          notes = λ on. noted;
          places = h.places;
          sessions = h.sessions;
          dead = h.dead;
          waits = h.waits;
          queue = h.queue;
          asked = h.asked;
          lives = h.lives;
          room = h.room;
          unborn = h.unborn;
          coordinator = record { run = run_along a.holder.server a.ids.epoch a.ids.transactions mid z (run_along a.holder.server a.ids.epoch a.ids.transactions k.coordinator mid h.coordinator.run first) second; fates = fates_then };
          decided = applied_fated a next_state refl refl (λ u. journal_decision (same_trans t u) j (a.fates u)) h.decided;
          joins = h.joins;
          files = h.files;
          made = h.made;
          born = h.born;
          earlier = h.earlier;
          quiet = leads.quiet;
          down = h.down;
        }

        stepped : IsTrue (G.tells k.vault) → (x : Answer) → x ≡ told_answer None (act.Forgot t ∷ []) → Stepped a (G.faults k.vault) (G.faults v) (G.held v) forget_then event_of x
        stepped told x so =
            let is : IsWritten p.intents (decision_ended t ∷ []) (G.held k.vault) (G.held v) = record { cells = w.cells told; notes = w.notes } in
            let entry : Entry = record { event = event.Arrive from (msg.Done t j); reply = None; acts = act.Forgot t ∷ [] } in
            written_stepped a next_state (G.faults k.vault) (G.faults v) (G.held v) forget_then event_of x (act.Forgot t ∷ []) so leads
            (forgot_as (G.held v) (said_cells a next_state entry (G.held v) refl leads.leaves (said (G.held v) is)) (said_notes a next_state entry (G.held v) refl leads.leaves (said (G.held v) is)))
            (stands_timely a.holder.clock 0 k.clock h.clock)

      pub forget_come : (x : Answer) → x ≡ told_answer None (act.Forgot t ∷ []) → HasCome G k v p (decision_ended t ∷ []) up forget_then (event.Arrive from (msg.Done t j)) x (act.Forgot t ∷ [])
      forget_come x so = record {
        after = record { vault = refl; server = refl; servers = refl; sizes = refl; epoch = refl; later = le_refl k.clock; sessions = refl; down = refl };
        said = so;
        none = refl;
        causes = λ before now allowance. tt;
        ready = λ n r. ready_with (n + 1) (G.serves k.vault) (G.serves v) (record k { coordinator = z }) v w.ended.0 up (stepped_ready n (G.serves k.vault) (record k { coordinator = z }) (forgot_ready n (G.serves k.vault) r));
        noted = λ are. noted_then (G.held k.vault).notes are;
        steps = λ told a h. stepped a h told x so;
        leaves = λ a h d q. said a h d q;
      }
