-- a part that voted is applied: its intents, the clock and the end of its note stand in one write, and then it lets go
use Rattle.std.specs.Prelude.{cond, Bool, true, false, ◌==◌, ◌&&◌, max, sum_by, flat_map, IsTrue, Option, None, Some, is_some, Result, Ok}
use Rattle.std.specs.List.{list_any, AllByRecursion}
use Rattle.std.specs.FinMap as map
use Rattle.std.specs.FinMap.Entries as entries
use Rattle.std.specs.FinMap.Entries.{put}
use Rattle.std.proofs.Common.{◌≡◌, ℕ, ◌+◌, ◌*◌, ◌^◌, ◌<◌, ◌≤◌, List, [], ◌∷◌, ◌++◌, append-nil, append_assoc, refl, sym, ◌∙◌, ap, subst, arith, le_refl}
use Rattle.alp_base.specs.Notes.{Notes, noted, notes_after}
use Rattle.alp_base.specs.declared.allowance.Allowance.{Allowance}
use Rattle.alp_base.specs.declared.bytes.NoteChange.{NoteChange}
use Rattle.alp_base.specs.declared.ids.JoinNo.{JoinNo}
use Rattle.alp_base.specs.declared.ids.Stamp.{Stamp}
use Rattle.alp_base.specs.declared.ids.TransId.{TransId}
use Rattle.alp_base.specs.declared.key.Key.{Key}
use Rattle.alp_fields.specs.ClockNote.{clock_name, clock_form}
use Rattle.alp_fields.specs.declared.clock_note.ClockNote.{ClockNote}
use Rattle.alp_fields.specs.ReadyNote.{ready_name, ready_ended}
use Rattle.alp_files.specs.Edits.{Edit, edits_map}
use Rattle.alp_files.specs.History.{Decided}
use Rattle.alp_files.specs.Needs.{Intents, intents_of}
use Rattle.alp_files.specs.Cells.{Cells}
use Rattle.alp_journal.specs.declared.act.Act.{Act}
use Rattle.alp_journal.specs.declared.act.Act.TheVariants as act
use Rattle.alp_journal.specs.declared.entry.Entry.{Entry}
use Rattle.alp_journal.specs.declared.event.Event.{Event}
use Rattle.alp_journal.specs.declared.event.Event.TheVariants as event
use Rattle.alp_journal.specs.declared.message.Message.TheVariants as msg
use Rattle.alp_journal.specs.Account.{Account, state_of, AreEarlier, IsQuiet, Leads, IsPhaseOf, grant_acts, with_granted, granted_calls}
use Rattle.alp_journal.specs.Along.{Along, state_after}
use Rattle.alp_journal.specs.Answered.{IsWalk, in_turn}
use Rattle.alp_journal.specs.Coordinator.{Fate, decision_in}
use Rattle.alp_journal.specs.Deeds.{Deed, Applies, Releases}
use Rattle.alp_journal.specs.Holder.{Holder, Life, commits, in_history, with_life}
use Rattle.alp_journal.specs.Ids.{same_trans, same_join, stamp_cmp}
use Rattle.alp_journal.specs.Laws.{IsLawfulDeed}
use Rattle.alp_journal.specs.Moves.{act_deeds, is_stop, tried}
use Rattle.alp_journal.specs.Participant.{Phase, Ready, applied}
use Rattle.alp_journal.specs.State.{State, state_deed}
use Rattle.alp_journal.proofs.HaltSteps.{stop_of, stop_entry, with_stop, commit_stop_leads}
use Rattle.alp_journal.proofs.IdLemmas.{same_trans-itself}
use Rattle.alp_journal.proofs.VoteSteps.{apply_leads, with_apply, with_apply_given}
use Rattle.alp_calls.proofs.PartLaws.{same_change}
use Rattle.alp_coord.specs.Coordinators.{IsAlong}
use Rattle.alp_vault.specs.Contents.{Contents}
use Rattle.alp_vault.specs.Volumes.{AreNoteChanges, noted_bytes}
use Rattle.alp_vault.specs.declared.vault.Vault.{Ghosts}
use Rattle.alp_worker.specs.declared.joins.Joins.{Joins}
use Rattle.alp_worker.specs.declared.live.LiveJoin.{LiveJoin}
use Rattle.alp_worker.specs.declared.live.Stage.TheVariants as stage
use Rattle.alp_worker.specs.Joins.{AreJoins, AreJoinsOf, with_applied}
use Rattle.alp_worker.specs.Lives.{is_ready_in, join_at, without}
use Rattle.alp_worker.specs.Rooms.{applying_of}
use Rattle.alp_node.specs.Durable.{AreNotesOf, IsSaidBy, IsStoredBy, IsWritten}
use Rattle.alp_node.specs.Eases.{eased, new_blocks}
use Rattle.alp_node.specs.Halts.{HaveCauses}
use Rattle.alp_node.specs.Noted.{AreNoted, AreNotesFor, ready_room, size_in, size_of}
use Rattle.alp_node.specs.Releases.{granted_behind, let_go}
use Rattle.alp_node.specs.Says.{said_if, said_to, is_away}
use Rattle.alp_node.specs.ServerState.{IsAs, IsReady, IsReadyForMore}
use Rattle.alp_node.specs.Steps.{IsTimely, Stepped, told_answer}
use Rattle.alp_node.specs.Transactions.{AreDecidedBy}
use Rattle.alp_node.specs.Writes.{HasLogFor, HasMade, Writes, clock_put}
use Rattle.alp_node.specs.declared.answer.Answer.{Answer}
use Rattle.alp_node.specs.declared.lives.Live.{Live}
use Rattle.alp_node.specs.declared.server_state.ServerState.{ServerState}
use Rattle.alp_node.proofs.AbortReady.{IsVoter, is_voter, voter, voter_here, voter_part, voters_stand, without_other}
use Rattle.alp_node.proofs.ClockLaws.{time_fits}
use Rattle.alp_node.proofs.CommitNotes.{noted_clock, put_there}
use Rattle.alp_node.proofs.EaseLemmas.{eased_ready, eased_sizes}
use Rattle.alp_node.proofs.HoldingLemmas.{join_lets}
use Rattle.alp_node.proofs.JoinEnds.{join_gone}
use Rattle.alp_node.proofs.KeptLemmas.{IsLive, live_there, earlier_more}
use Rattle.alp_node.proofs.LetGoWrites.{grants_bring, lets, lets_cells, lets_notes, said_cells, said_notes}
use Rattle.alp_node.proofs.LogLemmas.{commit_room, notes_few, one_of_greatest}
use Rattle.alp_node.proofs.MadeAs.{Made, earlier_put, made_as, made_blocks, made_gone, state_made, woken_calls}
use Rattle.alp_node.proofs.NoteLaw.{stands_voted}
use Rattle.alp_node.proofs.NoteWrites.{applied_notes, applied_voted, apply_changes, apply_short, end_noted}
use Rattle.alp_node.proofs.ReadyLemmas.{LetsPart, ready_with, stepped_ready}
use Rattle.alp_node.proofs.ReleaseLemmas.{let_go_of, let_go_ready, let_gone, grants_go_with, grants_caused_with}
use Rattle.alp_node.proofs.SayLemmas.{away_told, said_goes_on, said_caused}
use Rattle.alp_node.proofs.WriteSteps.{HasCome, IsStop, written_stepped}

module _ {V : Type 0} (G : Ghosts V) (k : ServerState V) (from : ℕ) (j : JoinNo) (t : TransId) (client ts time : ℕ) (there : join_at k.joins.lives j ≡ Some (record { join = j; trans = t; client = client; stage = stage.Ready ts })) (up : k.is_down ≡ false)
    (ready : IsReadyForMore (G.serves k.vault) k) (low : time ≤ 2 ^ 62) where
  abbrev its : LiveJoin → Bool
  its = is_ready_in t

  its_so : is_ready_in t (record { join = j; trans = t; client = client; stage = stage.Ready ts }) ≡ true
  its_so = ap (λ (b : Bool). b && true) (same_trans-itself t)

  abbrev stamp : Stamp
  stamp = record { ts = time; trans = t }

  abbrev event_of : Event
  event_of = event.Arrive from (msg.Commit t j (record { ts = time; trans = t }))

  abbrev clock_then : ClockNote
  clock_then = record { epoch = k.epoch; clock = max k.clock time }

  abbrev pub apply_written : List NoteChange
  apply_written = clock_put (record { epoch = k.epoch; clock = max k.clock time }) ∷ ready_ended j ∷ []

  clock_fits : clock_form.Fits (record { epoch = k.epoch; clock = max k.clock time })
  clock_fits = time_fits clock_then ready.2.last (let before : k.clock ≤ 2 ^ 62 = ready.2.clock in omega (arith, before, low))

  -- ---- what may be written

  -- its part
  abbrev pub apply_part : (l : Live) × (map.get k.lives t ≡ Some l) × (l.join ≡ Some j)
  apply_part = voter_part ready.0 (G.serves k.vault) k ready.2 j t client ts there

  abbrev l : Live
  l = (voter_part ready.0 (G.serves k.vault) k ready.2 j t client ts there).0

  abbrev joins_left : Joins
  joins_left = record k.joins { lives = without j its k.joins.lives }

  gone : join_at (without j its k.joins.lives) j ≡ None
  gone = join_gone k.joins j (voter ready.0 (G.serves k.vault) k ready.2 j t client ts there) its ready.2.joins.once there its_so

  mid_noted : (notes : Notes) → AreNotesFor k notes → AreNotesFor k (noted clock_name (Some (clock_form.spell (record { epoch = k.epoch; clock = max k.clock time }))) notes)
  mid_noted notes are = noted_clock k.server k.servers k.epoch (max k.clock time) k.lives k.joins k.coordinator notes clock_fits are

  pub may_apply : (notes : Notes) → ready_name.Fits j → AreNotesFor k notes → AreNoteChanges k.server k.servers notes (clock_put (record { epoch = k.epoch; clock = max k.clock time }) ∷ ready_ended j ∷ [])
  may_apply notes named are =
      apply_changes k.server k.servers notes clock_then j named (voter_here ready.0 (G.serves k.vault) k ready.2 j t client ts there) are.format (mid_noted notes are).format
      (end_noted k.server k.servers k.epoch k.lives k.lives k.joins joins_left k.coordinator (noted clock_name (Some (clock_form.spell clock_then)) notes) j named (mid_noted notes are)
      (without_other j its k.joins.lives ready.2.joins.once) (λ i x at away voted. refl) gone).format
      (notes_few k.server k.servers k.epoch k.lives k.joins k.coordinator notes are ready.2.most)

  pub apply_log : (notes : Notes) → AreNotesFor k notes → (x : Live) → map.get k.lives t ≡ Some x → HasLogFor notes k.sizes x (clock_put (record { epoch = k.epoch; clock = max k.clock time }) ∷ ready_ended j ∷ [])
  apply_log notes are x at =
      let size : applying_of (size_in k.lives t) ≡ 4 * x.part.counts.cells + 4 = ap (λ (o : Option Live). applying_of (size_of o)) at in
      let greatest : applying_of (size_in k.lives t) ≤ (ready_room k.lives k.joins.lives).greatest = one_of_greatest k.lives k.joins.lives j (voter ready.0 (G.serves k.vault) k ready.2 j t client ts there) there refl in
      commit_room k.server k.servers k.epoch k.lives k.joins k.coordinator notes are ready.2.most k.sizes.area (ready_room k.lives k.joins.lives).greatest x.part.counts.cells (sum_by (λ (n : NoteChange). noted_bytes n.name n.value) apply_written)
      ready.2.fits (omega (arith, size, greatest)) (ready.2.within t x at).part.most (apply_short clock_then j)

  module _ (named : ready_name.Fits j) where
    life_of : (a : Account) → IsAs a (G.held k.vault) k → IsVoter a j t client ts
    life_of a h = is_voter a (G.held k.vault) k ready.0 (G.serves k.vault) h ready.2 j t client ts there

    -- the notes that are written are those with the clock of the journal
    notes_are : (a : Account) → IsAs a (G.held k.vault) k → notes_after apply_written (G.held k.vault).notes ≡ noted (ready_name.spell j) None (noted clock_name (Some (clock_form.spell (record { epoch = a.ids.epoch; clock = max a.holder.clock time }))) (G.held k.vault).notes)
    notes_are a h = λ i. noted (ready_name.spell j) None (noted clock_name (Some (clock_form.spell (record { epoch = sym h.epoch i; clock = max (sym h.clock i) time }))) (G.held k.vault).notes)

    written_notes : (a : Account) → IsAs a (G.held k.vault) k → (d : Contents) → d.notes ≡ notes_after apply_written (G.held k.vault).notes → AreNotesOf (state_deed (state_of a) (Applies j (record { ts = time; trans = t }))) a.ids.epoch d.notes
    written_notes a h d is =
        let y : IsVoter a j t client ts = life_of a h in
        subst (AreNotesOf (state_deed (state_of a) (Applies j stamp)) a.ids.epoch) (sym (is ∙ notes_are a h))
        (applied_notes (state_of a) j t client ts time y.life y.lives (stands_voted a h.quiet) y.phase a.ids.epoch (G.held k.vault).notes named
        (subst (λ (n : ℕ). clock_form.Fits (record { epoch = n; clock = max a.holder.clock time })) (sym h.epoch) (subst (λ (n : ℕ). clock_form.Fits (record { epoch = k.epoch; clock = max n time })) (sym h.clock) clock_fits)) h.quiet.settled.stands.order (h.notes up))

    -- the cells are those of the journal
    written_cells : (a : Account) (h : IsAs a (G.held k.vault) k) → (d : Contents) → IsWritten l.part.intents apply_written (G.held k.vault) d → d.cells ≡ (state_deed (state_of a) (Applies j (record { ts = time; trans = t }))).holder.cells
    written_cells a h d w =
        let y = made_life_of a h in
        w.cells ∙ same_change (G.held k.vault).cells l.part y.life.edits y.alike.intents ∙ ap (edits_map y.life.edits) (h.cells up) ∙ ap (λ (x : Option Life). (commits a.holder stamp x).cells) (sym y.is)
      where
        made_life_of : (a : Account) (h : IsAs a (G.held k.vault) k) → IsLive a.holder.cells k.locks.held (a.locked t) t l (a.holder.lives t)
        made_life_of a h = live_there a.holder.cells k.locks.held (a.locked t) t (map.get k.lives t) (a.holder.lives t) l apply_part.1 (h.lives t)

    -- ---- the server goes down in it

    stop_deeds : (a : Account) (b : Bool) → tried (state_of a) (stop_entry a from (msg.Commit t j (record { ts = time; trans = t })) (act.Applied j (record { ts = time; trans = t }) ∷ stop_of b ∷ [])) ≡ Applies j (record { ts = time; trans = t }) ∷ []
    stop_deeds a true = refl
    stop_deeds a false = refl

    pub apply_stop : (v : V) → IsStop G k v l.part apply_written up from (msg.Commit t j (record { ts = time; trans = t })) (act.Applied j (record { ts = time; trans = t }) ∷ [])
    apply_stop v = record {
      stops = λ b. stop_is b;
      causes = λ before now allowance z q. q;
      leads = λ b a h. (let y : IsVoter a j t client ts = life_of a h in commit_stop_leads a from t j client ts y.life h.quiet (h.down ∙ up) y.phase y.lives time b);
      said = λ b a h d w. subst (λ (ds : List Deed). IsStoredBy a.ids.epoch (state_after state_deed (state_of a) ds) d) (sym (stop_deeds a b)) (record { cells = written_cells a h d w; notes = written_notes a h d w.notes });
    }
      where
        stop_is : (b : Bool) → list_any is_stop (act.Applied j stamp ∷ stop_of b ∷ []) ≡ true
        stop_is true = refl
        stop_is false = refl

    -- ---- it was written

    module _ (v : V) (js : Joins) (js_is : js ≡ with_applied k.joins j t) (deed : (s : State) → AreJoinsOf s k.joins → AreJoinsOf (state_deed s (Applies j (record { ts = time; trans = t }))) js)
        (blocks : List Key) (opened : IsTrue (G.tells k.vault) → (x : Live) → map.get k.lives t ≡ Some x → blocks ≡ new_blocks (G.held k.vault).cells x.part.intents.puts) (w : Writes G k.vault v l.part apply_written (Ok tt)) where
      abbrev pub apply_then : ServerState V
      apply_then = record (let_go k t) { lives = eased blocks (let_go k t).lives (map.keys k.lives); clock = max k.clock time; coordinator = k.coordinator; joins = js; vault = v }

      abbrev sent : List Act
      sent = act.Sent t.server (msg.Done t j) ∷ []

      abbrev acts_of : List Act → List Act
      acts_of more = (act.Applied j (record { ts = time; trans = t }) ∷ act.Released t ∷ grant_acts (granted_behind k t)) ++ more

      still_up : (let_go k t).is_down ≡ false
      still_up = ap (λ (s : ServerState V). s.is_down) (let_go_of k t) ∙ up

      -- whatever the vault tells
      raised : (n : ℕ) → IsReady n (G.serves k.vault) k → LetsPart n (G.serves k.vault) k t k.coordinator joins_left (max k.clock time)
      raised n h =
          let x : LetsPart n (G.serves k.vault) k t k.coordinator joins_left k.clock = join_lets n (G.serves k.vault) k h j (voter n (G.serves k.vault) k h j t client ts there) there refl its its_so in
          record {
            along = x.along;
            times = λ u s ks is. (let before : s.ts ≤ k.clock = x.times u s ks is in omega (arith, before));
            fated = x.fated;
            joins = x.joins;
            paired = x.paired;
            idle = x.idle;
            alive = x.alive;
            most = x.most;
            fits = x.fits;
          }

      ready_then : (n : ℕ) → IsReady n (G.serves k.vault) k → IsReady (n + 1) (G.serves v) apply_then
      ready_then n h =
          subst (λ (xs : Joins). IsReady (n + 1) (G.serves v) (record (let_go k t) { lives = eased blocks (let_go k t).lives (map.keys k.lives); clock = max k.clock time; coordinator = k.coordinator; joins = xs; vault = v })) (sym js_is)
          (ready_with (n + 1) (G.serves k.vault) (G.serves v) (record (let_go k t) { lives = eased blocks (let_go k t).lives (map.keys k.lives); clock = max k.clock time; coordinator = k.coordinator; joins = joins_left }) v w.ended.0 still_up
          (stepped_ready n (G.serves k.vault) (record (let_go k t) { lives = eased blocks (let_go k t).lives (map.keys k.lives); clock = max k.clock time; coordinator = k.coordinator; joins = joins_left })
          (eased_ready n (G.serves k.vault) (record (let_go k t) { clock = max k.clock time; coordinator = k.coordinator; joins = joins_left }) blocks (map.keys k.lives)
          (subst (λ (s : ServerState V). IsReady n (G.serves k.vault) s) (ap (λ (s : ServerState V). record s { clock = max k.clock time; coordinator = k.coordinator; joins = joins_left }) (sym (let_go_of k t)))
          (let_go_ready n k t k.coordinator joins_left (G.serves k.vault) (max k.clock time) (omega arith) (let before : k.clock ≤ 2 ^ 62 = h.clock in omega (arith, before, low)) (raised n h) h)))))

      noted_then : AreNotesFor k (G.held k.vault).notes → AreNotesFor apply_then (notes_after apply_written (G.held k.vault).notes)
      noted_then q =
          subst (λ (xs : Joins). AreNoted (let_go k t).server (let_go k t).servers (let_go k t).epoch (eased blocks (let_go k t).lives (map.keys k.lives)) xs k.coordinator (notes_after apply_written (G.held k.vault).notes)) (sym js_is)
          (subst (λ (s : ServerState V). AreNoted s.server s.servers s.epoch (eased blocks (let_go k t).lives (map.keys k.lives)) joins_left k.coordinator (notes_after apply_written (G.held k.vault).notes)) (sym (let_go_of k t))
          (end_noted k.server k.servers k.epoch k.lives (eased blocks (let_go k t).lives (map.keys k.lives)) k.joins joins_left k.coordinator (noted clock_name (Some (clock_form.spell clock_then)) (G.held k.vault).notes) j named (mid_noted (G.held k.vault).notes q)
          (without_other j its k.joins.lives ready.2.joins.once)
          (λ i x at away voted. eased_sizes blocks (let_go k t).lives (map.keys k.lives) x.trans ∙ voters_stand ready.0 (G.serves k.vault) k ready.2 j t client ts there its its_so i x at away voted) gone))

      -- by what the journal says
      module _ (a : Account) (h : IsAs a (G.held k.vault) k) where
        y : IsVoter a j t client ts
        y = life_of a h

        abbrev z : IsLive a.holder.cells k.locks.held (a.locked t) t l (a.holder.lives t)
        z = live_there a.holder.cells k.locks.held (a.locked t) t (map.get k.lives t) (a.holder.lives t) l apply_part.1 (h.lives t)

        abbrev life : Life
        life = (live_there a.holder.cells k.locks.held (a.locked t) t (map.get k.lives t) (a.holder.lives t) l apply_part.1 (h.lives t)).life

        abbrev applied_now : List (Stamp × Decided)
        applied_now = in_history (record { ts = time; trans = t }) life a.holder.applied

        abbrev left_now : List (Stamp × List Edit)
        left_now = cond {A = List (Stamp × List Edit)} life.is_early a.holder.left (put stamp_cmp (record { ts = time; trans = t }) life.edits a.holder.left)

        abbrev next_state : Account
        next_state = with_apply_given a from t j client ts time life (granted_behind k t)

        g : Made a (G.held k.vault) (G.held v) k t l v ready.0 (G.serves k.vault) h ready.2 up apply_part.1 time applied_now left_now
        g = made_gone a (G.held k.vault) (G.held v) k t l v ready.0 (G.serves k.vault) h ready.2 up apply_part.1 time applied_now left_now

        walk : IsWalk (with_apply a from t j client ts time life).holder (in_turn (with_apply a from t j client ts time life).holder a.waits) (granted_behind k t)
        walk = subst (λ (us : List TransId). IsWalk (with_apply a from t j client ts time life).holder (in_turn (with_apply a from t j client ts time life).holder a.waits) us) (sym g.woken) g.walk

        far : is_away k t.server ≡ true
        far = away_told a (G.held k.vault) k t.server h ∙ (subst (IsPhaseOf a.servers a.holder.server a.ids.epoch a.ids.joins a.joined j) y.phase (h.quiet.settled.stands.phases j)).1

        sent_is : said_to k t.server (msg.Done t j) ≡ sent
        sent_is = ap (λ (b : Bool). said_if b t.server (msg.Done t j)) far

        leads : Leads false a (record { event = event.Arrive from (msg.Commit t j (record { ts = time; trans = t })); reply = None; acts = acts_of sent }) next_state
        leads = apply_leads a from t j client ts time life h.quiet (h.down ∙ up) y.phase z.is (granted_behind k t) walk

        tried_is : tried (state_of a) (record { event = event.Arrive from (msg.Commit t j (record { ts = time; trans = t })); reply = None; acts = acts_of sent }) ≡ Applies j (record { ts = time; trans = t }) ∷ lets (state_of a) event_of t (granted_behind k t)
        tried_is = ap (λ (ds : List Deed). Applies j (record { ts = time; trans = t }) ∷ Releases t ∷ ds)
            (append-nil (flat_map (act_deeds (state_of a) event_of) (grant_acts (granted_behind k t) ++ sent)) ∙ grants_bring (state_of a) event_of (granted_behind k t) sent refl)

        law : Along state_deed (IsLawfulDeed event_of) (state_of a) (Applies j (record { ts = time; trans = t }) ∷ lets (state_of a) event_of t (granted_behind k t))
        law = subst (Along state_deed (IsLawfulDeed event_of) (state_of a)) tried_is leads.lawful.deeds

        said : (d : Contents) → IsWritten l.part.intents apply_written (G.held k.vault) d → IsSaidBy (state_of a) (record { event = event.Arrive from (msg.Commit t j (record { ts = time; trans = t })); reply = None; acts = acts_of sent }) d
        said d q = subst (λ (ds : List Deed). IsStoredBy a.ids.epoch (state_after state_deed (state_of a) ds) d) (sym tried_is) (record {
          cells = written_cells a h d q ∙ sym (lets_cells (state_of a) event_of t (granted_behind k t) (state_deed (state_of a) (Applies j (record { ts = time; trans = t }))));
          notes = lets_notes (state_of a) event_of t (granted_behind k t) (state_deed (state_of a) (Applies j (record { ts = time; trans = t }))) a.ids.epoch d.notes (applied_voted (state_of a) j t client ts time life z.is (stands_voted a h.quiet) y.phase) law.1
              (written_notes a h d q.notes);
        })

        goes_on : list_any is_stop (acts_of sent) ≡ false
        goes_on = grants_go_with (granted_behind k t) sent refl

        -- what was decided is applied still
        still_applied : (b : Bool) → (u : TransId) (s : Stamp) (ks : List JoinNo) → u.epoch ≡ a.ids.epoch → decision_in (a.fates u) ≡ Some (s, ks)
            → is_some (entries.find stamp_cmp s (cond {A = List (Stamp × Decided)} b a.holder.applied (put stamp_cmp (record { ts = time; trans = t }) (record { stamp = record { ts = time; trans = t }; who = life.who; calls = life.calls }) a.holder.applied))) ≡ true
        still_applied true u s ks now at = h.decided u s ks now at
        still_applied false u s ks now at = put_there s stamp (record { stamp = stamp; who = life.who; calls = life.calls }) a.holder.applied (h.decided u s ks now at)

        still_earlier : (b : Bool) → AreEarlier (max a.holder.clock time) (cond {A = List (Stamp × Decided)} b a.holder.applied (put stamp_cmp (record { ts = time; trans = t }) (record { stamp = record { ts = time; trans = t }; who = life.who; calls = life.calls }) a.holder.applied))
        still_earlier b = go b (earlier_more a.holder.clock (max a.holder.clock time) a.holder.applied (omega arith) (earlier_more a.holder.kept a.holder.clock a.holder.applied h.quiet.settled.stands.order h.earlier))
          where
            go : (b : Bool) → AreEarlier (max a.holder.clock time) a.holder.applied
                → AreEarlier (max a.holder.clock time) (cond {A = List (Stamp × Decided)} b a.holder.applied (put stamp_cmp (record { ts = time; trans = t }) (record { stamp = record { ts = time; trans = t }; who = life.who; calls = life.calls }) a.holder.applied))
            go true q = q
            go false q = earlier_put (max a.holder.clock time) stamp (record { stamp = stamp; who = life.who; calls = life.calls }) a.holder.applied (omega arith) q

        state_is : record (state_made a (G.held k.vault) (G.held v) k t l v ready.0 (G.serves k.vault) h ready.2 up apply_part.1 time applied_now left_now g) { fates = a.fates; phases = λ i. cond {A = Phase} (same_join j i) (applied (record { ts = time; trans = t }) (a.phases i)) (a.phases i); is_down = false; pending = [] } ≡ next_state
        state_is = ap (with_granted (with_apply a from t j client ts time life)) (sym (woken_calls a (G.held k.vault) (G.held v) k t l v ready.0 (G.serves k.vault) h ready.2 up apply_part.1 time applied_now left_now g))

        stepped : IsTrue (G.tells k.vault) → (x : Answer) → x ≡ told_answer None (acts_of sent) → Stepped a (G.faults k.vault) (G.faults v) (G.held v) apply_then event_of x
        stepped told x so =
            let is : IsWritten l.part.intents apply_written (G.held k.vault) (G.held v) = record { cells = w.cells told; notes = w.notes } in
            let entry : Entry = record { event = event.Arrive from (msg.Commit t j (record { ts = time; trans = t })); reply = None; acts = acts_of sent } in
            let same_blocks : blocks ≡ made_blocks a (G.held k.vault) (G.held v) k t l v ready.0 (G.serves k.vault) h ready.2 up apply_part.1 time applied_now left_now =
            opened told l apply_part.1 ∙ ap (λ (i : Intents). new_blocks (G.held k.vault).cells i.puts) z.alike.intents ∙ ap (λ (m : Cells). new_blocks m (intents_of life.edits).puts) (h.cells up) in
            written_stepped a next_state (G.faults k.vault) (G.faults v) (G.held v) apply_then event_of x (acts_of sent) so leads
            (subst (λ (m : Account). IsAs m (G.held v) apply_then) state_is
            (made_as a (G.held k.vault) (G.held v) k t l v ready.0 (G.serves k.vault) h ready.2 up apply_part.1 time applied_now left_now g a.fates (λ i. cond {A = Phase} (same_join j i) (applied (record { ts = time; trans = t }) (a.phases i)) (a.phases i)) k.coordinator js blocks same_blocks (record {
              coordinated = h.coordinator;
              joined = subst (λ (xs : List JoinNo). AreJoins a.holder.server a.ids.epoch a.ids.joins (λ i. cond {A = Phase} (same_join j i) (applied (record { ts = time; trans = t }) (a.phases i)) (a.phases i)) xs js) (append-nil a.joined)
                  (joined_then (a.holder.lives t) (deed (state_of a) h.joins));
              decided = still_applied life.is_early;
              earlier = still_earlier life.is_early;
              cells = written_cells a h (G.held v) is ∙ ap (λ (o : Option Life). (commits a.holder stamp o).cells) z.is;
              notes = subst (λ (m : Account). AreNotesOf (state_of m) a.ids.epoch (G.held v).notes) (sym state_is) (said_notes a next_state entry (G.held v) goes_on leads.leaves (said (G.held v) is));
              quiet = subst IsQuiet (sym state_is) leads.quiet;
            })))
            (let clock : a.holder.clock ≡ k.clock = h.clock in omega (arith, clock))
          where
            joined_then : (o : Option Life) → AreJoins (commits a.holder stamp o).server a.ids.epoch a.ids.joins (λ i. cond {A = Phase} (same_join j i) (applied (record { ts = time; trans = t }) (a.phases i)) (a.phases i)) (a.joined ++ []) js
                → AreJoins a.holder.server a.ids.epoch a.ids.joins (λ i. cond {A = Phase} (same_join j i) (applied (record { ts = time; trans = t }) (a.phases i)) (a.phases i)) (a.joined ++ []) js
            joined_then None q = q
            joined_then (Some x) q = q

      pub apply_come : (x : Answer) → x ≡ told_answer None ((act.Applied j (record { ts = time; trans = t }) ∷ act.Released t ∷ grant_acts (granted_behind k t)) ++ said_to k t.server (msg.Done t j))
          → HasCome G k v l.part apply_written up apply_then (event.Arrive from (msg.Commit t j (record { ts = time; trans = t }))) x ((act.Applied j (record { ts = time; trans = t }) ∷ act.Released t ∷ grant_acts (granted_behind k t)) ++ said_to k t.server (msg.Done t j))
      apply_come x so = record {
        after = record {
          vault = refl;
          server = ap (λ (s : ServerState V). s.server) (let_go_of k t);
          servers = ap (λ (s : ServerState V). s.servers) (let_go_of k t);
          sizes = ap (λ (s : ServerState V). s.sizes) (let_go_of k t);
          epoch = ap (λ (s : ServerState V). s.epoch) (let_go_of k t);
          later = omega arith;
          sessions = ap (λ (s : ServerState V). s.sessions) (let_go_of k t);
          down = ap (λ (s : ServerState V). s.is_down) (let_go_of k t);
        };
        said = so;
        none = grants_go_with (granted_behind k t) (said_to k t.server (msg.Done t j)) (said_goes_on (is_away k t.server) t.server (msg.Done t j));
        causes = λ before now allowance. grants_caused_with before now allowance (granted_behind k t) (said_to k t.server (msg.Done t j)) (said_caused (is_away k t.server) t.server (msg.Done t j) tt before now allowance);
        ready = ready_then;
        noted = noted_then;
        steps = λ told a h. stepped a h told x (so ∙ ap (λ (more : List Act). told_answer None (acts_of more)) (sent_is a h));
        leaves = λ a h d q. subst (λ (more : List Act). IsSaidBy (state_of a) (record { event = event_of; reply = None; acts = acts_of more }) d) (sym (sent_is a h)) (said a h d q);
      }
