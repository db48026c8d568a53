-- a part that voted hears of the end: its note ends in one write, and then it lets go
use Rattle.std.specs.Prelude.{cond, Bool, true, false, ◌==◌, ◌&&◌, flat_map, IsTrue, Option, None, Some, Result, Ok}
use Rattle.std.specs.List.{list_any, AllByRecursion}
use Rattle.std.specs.FinMap as map
use Rattle.std.proofs.Common.{◌≡◌, ℕ, ◌+◌, ◌≤◌, List, [], ◌∷◌, ◌++◌, append-nil, refl, sym, ◌∙◌, ap, subst, arith, le_refl}
use Rattle.std.proofs.lemmas.Bool.{and_parts, eqb-true}
use Rattle.alp_base.specs.Notes.{Notes, noted, notes_after}
use Rattle.alp_base.specs.declared.allowance.Allowance.{Allowance}
use Rattle.alp_base.specs.declared.bytes.NoteChange.{NoteChange}
use Rattle.alp_base.specs.declared.ids.JoinNo.{JoinNo}
use Rattle.alp_base.specs.declared.ids.TransId.{TransId}
use Rattle.alp_fields.specs.ReadyNote.{ready_name, ready_ended}
use Rattle.alp_calls.proofs.PartLaws.{same_change}
use Rattle.alp_files.specs.Changes.{edits_of}
use Rattle.alp_files.specs.Edits.{edits_map}
use Rattle.alp_files.specs.Needs.{Intents, no_intents}
use Rattle.alp_files.specs.declared.refusal.Cause.{Cause}
use Rattle.alp_journal.specs.declared.act.Act.{Act}
use Rattle.alp_journal.specs.declared.act.Act.TheVariants as act
use Rattle.alp_journal.specs.declared.entry.Entry.{Entry}
use Rattle.alp_journal.specs.declared.event.Event.{Event}
use Rattle.alp_journal.specs.declared.event.Event.TheVariants as event
use Rattle.alp_journal.specs.declared.message.Message.TheVariants as msg
use Rattle.alp_journal.specs.Account.{Account, state_of, IsQuiet, Leads, grant_acts, with_granted, granted_calls}
use Rattle.alp_journal.specs.Along.{Along, state_after}
use Rattle.alp_journal.specs.Counts.{lock_set}
use Rattle.alp_journal.specs.Deeds.{Deed, Aborts, Releases}
use Rattle.alp_journal.specs.Holder.{Holder, Life, with_life}
use Rattle.alp_journal.specs.Ids.{same_trans, same_join}
use Rattle.alp_journal.specs.Laws.{IsLawfulDeed, IsHolding}
use Rattle.alp_journal.specs.Moves.{act_deeds, if_its, is_stop, tried}
use Rattle.alp_journal.specs.Participant.{Phase, Ready, aborted, live_in}
use Rattle.alp_journal.specs.State.{State, state_deed}
use Rattle.alp_journal.proofs.HaltSteps.{stop_of, stop_entry, with_stop, abort_stop_leads}
use Rattle.alp_journal.proofs.IdLemmas.{same_trans-itself, same_trans-true, same_join-true}
use Rattle.alp_journal.proofs.StandLemmas.{own_server}
use Rattle.alp_journal.proofs.WorkerSteps.{abort_leads}
use Rattle.alp_locks.specs.Releases.{released}
use Rattle.alp_trans.specs.Parts.{change_of}
use Rattle.alp_trans.specs.declared.part.Part.{Part}
use Rattle.alp_vault.specs.Contents.{Contents}
use Rattle.alp_vault.specs.Volumes.{AreNoteChanges}
use Rattle.alp_vault.specs.declared.vault.Vault.{Ghosts}
use Rattle.alp_worker.specs.declared.joins.Joins.{Joins}
use Rattle.alp_worker.specs.declared.live.LiveJoin.{LiveJoin}
use Rattle.alp_worker.specs.declared.live.Stage.{Stage}
use Rattle.alp_worker.specs.declared.live.Stage.TheVariants as stage
use Rattle.alp_worker.specs.Joins.{AreJoins, AreJoinsOf, with_aborted}
use Rattle.alp_worker.specs.Lives.{is_at, is_open, join_at, without, AreOnce}
use Rattle.alp_worker.proofs.LiveLemmas.{same_join-itself, stays_if, without_at}
use Rattle.alp_node.specs.Arrivals.{join_of}
use Rattle.alp_node.specs.Durable.{AreNotesOf, IsSaidBy, IsStoredBy, IsWritten}
use Rattle.alp_node.specs.Noted.{AreNoted, AreNotesFor, HasReadyRoom, ready_room, size_in}
use Rattle.alp_node.specs.Noting.{HasRoomFor}
use Rattle.alp_node.specs.Paired.{is_in}
use Rattle.alp_node.specs.Releases.{granted_behind, let_go}
use Rattle.alp_node.specs.ServerState.{IsAs, IsReady, IsReadyForMore}
use Rattle.alp_node.specs.Steps.{IsStepAs, Stepped, told_answer}
use Rattle.alp_node.specs.Writes.{Writes}
use Rattle.alp_node.specs.declared.answer.Answer.{Answer}
use Rattle.alp_node.specs.declared.dead.DeadPart.{DeadPart}
use Rattle.alp_node.specs.declared.lives.Live.{Live}
use Rattle.alp_node.specs.declared.server_state.ServerState.{ServerState}
use Rattle.alp_node.specs.declared.stored.StoreFault.{StoreFault}
use Rattle.alp_node.proofs.HoldingLemmas.{another, another_number, join_lets, held_end_given, held_walk}
use Rattle.alp_node.proofs.JoinEnds.{idle_left, join_gone}
use Rattle.alp_node.proofs.JoinMoves.{same_some, found_number, was_there, still_there, joined_by}
use Rattle.alp_node.proofs.JoinedLemmas.{join_found, phase_told}
use Rattle.alp_node.proofs.KeptLemmas.{IsLive, live_there, stands_timely}
use Rattle.alp_node.proofs.LeftWrites.{written_ended_as}
use Rattle.alp_node.proofs.LetGoWrites.{lets, lets_cells, lets_notes, said_cells, said_notes}
use Rattle.alp_node.proofs.LogLemmas.{notes_few, small_room}
use Rattle.alp_node.proofs.NoteLaw.{AreVoted, stands_voted}
use Rattle.alp_node.proofs.NoteWrites.{aborted_notes, aborted_voted, end_changes, end_noted, end_short}
use Rattle.alp_node.proofs.NotedLemmas.{AreVotersAlike, HasNoVoter, voters_gone, voters_then}
use Rattle.alp_node.proofs.ReadyLemmas.{ready_with, stepped_ready}
use Rattle.alp_node.proofs.ReleaseLemmas.{let_go_of, late_ready, grants_go_on, grants_caused, voters_granted}
use Rattle.alp_node.proofs.SingleLemmas.{same_number, is_its}
use Rattle.alp_node.proofs.WriteSteps.{HasCome, HasFallen, IsStop, fallen_step, written_step, written_stepped}

-- ---- a join that goes leaves the others

pub without_other : (j : JoinNo) (p : LiveJoin → Bool) (ls : List LiveJoin) → AreOnce ls → (i : JoinNo) → same_join j i ≡ false → join_at (without j p ls) i ≡ join_at ls i
without_other j p ls once i away = without_at j i p ls once ∙ go (join_at ls i) refl
  where
    go : (o : Option LiveJoin) → join_at ls i ≡ o → stays_if p j o ≡ o
    go None is = refl
    go (Some z) is = ap (λ (b : Bool). cond {A = Option LiveJoin} (b && p z) None (Some z)) (ap (same_join j) (sym (found_number ls i z is)) ∙ away)

voted_inside : (s : Stage) → is_open s ≡ false → is_in s ≡ true
voted_inside (stage.Joining w) e = let wrong : true ≡ false = e in cc
voted_inside (stage.Active w) e = refl
voted_inside (stage.Ready ts) e = refl

-- a part that voted and goes: the sizes of the others stand, the journal has its life, and its number is of this server
module _ {V : Type 0} (n : ℕ) (serves : Bool) (k : ServerState V) (h : IsReady n serves k) (j : JoinNo) (t : TransId) (client ts : ℕ) (there : join_at k.joins.lives j ≡ Some (record { join = j; trans = t; client = client; stage = stage.Ready ts })) where
  abbrev pub voter : LiveJoin
  voter = record { join = j; trans = t; client = client; stage = stage.Ready ts }

  pub voters_stand : (p : LiveJoin → Bool) → p (record { join = j; trans = t; client = client; stage = stage.Ready ts }) ≡ true → (i : JoinNo) (x : LiveJoin) → join_at k.joins.lives i ≡ Some x → same_join j i ≡ false → is_open x.stage ≡ false
      → size_in (let_go k t).lives x.trans ≡ size_in k.lives x.trans
  voters_stand p so i x at away voted =
      let left : List LiveJoin = without j p k.joins.lives in
      voters_then k.lives (map.remove k.lives t) (let_go k t).lives left (voters_gone k.lives t left none_left)
      (voters_granted left (released k.locks t).woken (record k { lives = map.remove k.lives t; locks = record (released k.locks t) { woken = [] } }) (idle_left n serves k j p h)) i x (still_there j p k.joins.lives h.joins.once i x at away) voted
    where
      none_left : HasNoVoter (without j p k.joins.lives) t
      none_left i x at voted =
          another k.servers k.server k.coordinator k.joins k.lives h.paired h.joins.once j voter there refl i x (was_there j p k.joins.lives h.joins.once i x at) (voted_inside x.stage voted)
          (another_number k.servers k.server k.coordinator k.joins k.lives h.paired h.joins.once j voter there refl p so i x at)

  -- its part
  pub voter_part : (l : Live) × (map.get k.lives t ≡ Some l) × (l.join ≡ Some j)
  voter_part = h.paired.joins j voter there refl

  pub voter_here : j.server ≡ k.server
  voter_here = own_server k.joins.server k.joins.epoch k.joins.drawn (record { server = j.server; epoch = j.epoch; counter = j.counter }) (h.joins.numbered j voter there) ∙ h.joins.server

-- its life in the journal
pub record IsVoter (a : Account) (j : JoinNo) (t : TransId) (client ts : ℕ) : Type 0 where
  pub phase : a.phases j ≡ Ready t client ts
  pub life : Life
  pub lives : a.holder.lives t ≡ Some life
  pub mine : life.join ≡ Some j
  pub own : life.client ≡ client

pub is_voter : {V : Type 0} (a : Account) (held : Contents) (k : ServerState V) (n : ℕ) (serves : Bool) → IsAs a held k → IsReady n serves k → (j : JoinNo) (t : TransId) (client ts : ℕ) → join_at k.joins.lives j ≡ Some (record { join = j; trans = t; client = client; stage = stage.Ready ts })
    → IsVoter a j t client ts
is_voter a held k n serves h r j t client ts there =
    let v : LiveJoin = record { join = j; trans = t; client = client; stage = stage.Ready ts } in
    let part : (l : Live) × (map.get k.lives t ≡ Some l) × (l.join ≡ Some j) = r.paired.joins j v there refl in
    let y : IsLive a.holder.cells k.locks.held (a.locked t) t part.0 (a.holder.lives t) = live_there a.holder.cells k.locks.held (a.locked t) t (map.get k.lives t) (a.holder.lives t) part.0 part.1 (h.lives t) in
    let x = joined_by k.servers k.server k.coordinator k.joins k.lives t part.0 j r.paired part.1 part.2 in
    let same : v ≡ x.0 = same_some v x.0 (sym there ∙ x.1) in
    record { phase = phase_told a held k j v h there; life = y.life; lives = y.is; mine = y.alike.join ∙ part.2; own = y.alike.client ∙ sym x.3 ∙ ap (λ (z : LiveJoin). z.client) (sym same) }

-- ---- it ends in one write

module _ {V : Type 0} (G : Ghosts V) (k : ServerState V) (from : ℕ) (j : JoinNo) (t : TransId) (client ts : ℕ) (there : join_at k.joins.lives j ≡ Some (record { join = j; trans = t; client = client; stage = stage.Ready ts })) (up : k.is_down ≡ false)
    (ready : IsReadyForMore (G.serves k.vault) k) (c : Cause) where
  abbrev its : LiveJoin → Bool
  its = λ (l : LiveJoin). same_trans t l.trans

  abbrev event_of : Event
  event_of = event.Arrive from (msg.Abort t j c)

  -- ---- what may be written

  pub abort_changes : (notes : Notes) → ready_name.Fits j → AreNotesFor k notes → AreNoteChanges k.server k.servers notes (ready_ended j ∷ [])
  abort_changes notes named are =
      end_changes k.server k.servers notes j named (voter_here ready.0 (G.serves k.vault) k ready.2 j t client ts there) are.format
      (end_noted k.server k.servers k.epoch k.lives k.lives k.joins (record k.joins { lives = without j (λ (l : LiveJoin). same_trans t l.trans) k.joins.lives }) k.coordinator notes j named are
      (without_other j its k.joins.lives ready.2.joins.once) (λ i x at away voted. refl) (join_gone k.joins j (voter ready.0 (G.serves k.vault) k ready.2 j t client ts there) its ready.2.joins.once there (same_trans-itself t))).format
      (notes_few k.server k.servers k.epoch k.lives k.joins k.coordinator notes are ready.2.most)

  pub abort_room : (notes : Notes) → AreNotesFor k notes → HasRoomFor notes k.sizes (ready_ended j ∷ [])
  abort_room notes are =
      small_room k.server k.servers k.epoch k.lives k.joins k.coordinator notes are ready.2.most k.sizes.area (ready_room k.lives k.joins.lives).greatest _ ready.2.fits (end_short j)

  -- ---- its note

  module _ (p : Part) (idle : p.intents ≡ no_intents) (named : ready_name.Fits j) where
    same_cells : (held c : Contents) → c.cells ≡ edits_map (edits_of (change_of p.intents)) held.cells → c.cells ≡ held.cells
    same_cells held c is = is ∙ same_change held.cells p [] idle

    -- the deeds of the word
    stop_deed : (a : Account) → IsAs a (G.held k.vault) k → if_its t (live_in (a.phases j)) (λ n. Aborts j t n c ∷ []) ++ [] ++ [] ≡ Aborts j t client c ∷ []
    stop_deed a h =
        ap (λ (q : Phase). if_its t (live_in q) (λ n. Aborts j t n c ∷ []) ++ [] ++ []) (IsVoter.phase (is_voter a (G.held k.vault) k ready.0 (G.serves k.vault) h ready.2 j t client ts there))
        ∙ ap (λ (b : Bool). cond {A = List Deed} b (Aborts j t client c ∷ []) [] ++ [] ++ []) (same_trans-itself t)

    lets_deed : (a : Account) → IsAs a (G.held k.vault) k → (ds : List Deed) → if_its t (live_in (a.phases j)) (λ n. Aborts j t n c ∷ []) ++ (Releases t ∷ ds) ++ [] ≡ Aborts j t client c ∷ Releases t ∷ ds
    lets_deed a h ds =
        ap (λ (q : Phase). if_its t (live_in q) (λ n. Aborts j t n c ∷ []) ++ (Releases t ∷ ds) ++ []) (IsVoter.phase (is_voter a (G.held k.vault) k ready.0 (G.serves k.vault) h ready.2 j t client ts there))
        ∙ ap (λ (b : Bool). cond {A = List Deed} b (Aborts j t client c ∷ []) [] ++ (Releases t ∷ ds) ++ []) (same_trans-itself t) ∙ ap (λ (es : List Deed). Aborts j t client c ∷ Releases t ∷ es) (append-nil ds)

    -- ---- the server goes down in it

    stop_deeds : (a : Account) → IsAs a (G.held k.vault) k → (b : Bool) → tried (state_of a) (stop_entry a from (msg.Abort t j c) (stop_of b ∷ [])) ≡ Aborts j t client c ∷ []
    stop_deeds a h true = stop_deed a h
    stop_deeds a h false = stop_deed a h

    written_notes : (a : Account) → IsAs a (G.held k.vault) k → (d : Contents) → IsWritten p.intents (ready_ended j ∷ []) (G.held k.vault) d → AreNotesOf (state_deed (state_of a) (Aborts j t client c)) a.ids.epoch d.notes
    written_notes a h d w =
        subst (AreNotesOf (state_deed (state_of a) (Aborts j t client c)) a.ids.epoch) (sym w.notes)
        (aborted_notes (state_of a) j t client ts client c (stands_voted a h.quiet) (IsVoter.phase (is_voter a (G.held k.vault) k ready.0 (G.serves k.vault) h ready.2 j t client ts there)) a.ids.epoch (G.held k.vault).notes named (h.notes up))

    stop_said : (b : Bool) (a : Account) → IsAs a (G.held k.vault) k → (d : Contents) → IsWritten p.intents (ready_ended j ∷ []) (G.held k.vault) d → IsSaidBy (state_of a) (stop_entry a from (msg.Abort t j c) (stop_of b ∷ [])) d
    stop_said b a h d w = subst (λ (ds : List Deed). IsStoredBy a.ids.epoch (state_after state_deed (state_of a) ds) d) (sym (stop_deeds a h b)) (record {
      cells = same_cells (G.held k.vault) d w.cells ∙ h.cells up;
      notes = written_notes a h d w;
    })

    pub abort_stop : (v : V) → IsStop G k v p (ready_ended j ∷ []) up from (msg.Abort t j c) []
    abort_stop v = record {
      stops = λ b. stop_is b;
      causes = λ before now allowance z q. q;
      leads = λ b a h.
          (let y : IsVoter a j t client ts = is_voter a (G.held k.vault) k ready.0 (G.serves k.vault) h ready.2 j t client ts there in
          abort_stop_leads a from t j client ts y.life h.quiet (h.down ∙ up) y.phase y.lives c b);
      said = stop_said;
    }
      where
        stop_is : (b : Bool) → list_any is_stop (stop_of b ∷ []) ≡ true
        stop_is true = refl
        stop_is false = refl

    -- ---- it was written

    module _ (v : V) (js : Joins) (js_is : js ≡ with_aborted k.joins j t) (deed : (s : State) → AreJoinsOf s k.joins → AreJoinsOf (state_deed s (Aborts j t client c)) js) (w : Writes G k.vault v p (ready_ended j ∷ []) (Ok tt)) where
      abbrev dead_then : List DeadPart
      dead_then = k.dead ++ (record { client = client; trans = t; cause = c }) ∷ []

      abbrev pub abort_then : ServerState V
      abort_then = record (let_go k t) { dead = k.dead ++ (record { client = client; trans = t; cause = c }) ∷ []; joins = js; vault = v }

      abbrev acts_then : List Act
      acts_then = act.Released t ∷ grant_acts (granted_behind k t)

      abbrev entry_then : Entry
      entry_then = record { event = event_of; reply = None; acts = acts_then }

      still_up : (let_go k t).is_down ≡ false
      still_up = ap (λ (s : ServerState V). s.is_down) (let_go_of k t) ∙ up

      -- the client has no other join of it
      alone : (n : ℕ) → IsReady n (G.serves k.vault) k → (i : JoinNo) (x : LiveJoin) → join_at (without j its k.joins.lives) i ≡ Some x → (x.client == client && same_trans x.trans t) ≡ false
      alone n h i x at = go (x.client == client && same_trans x.trans t) refl
        where
          active : LiveJoin
          active = record { join = j; trans = t; client = client; stage = stage.Ready ts }

          go : (b : Bool) → (x.client == client && same_trans x.trans t) ≡ b → b ≡ false
          go false e = refl
          go true e =
              let both = and_parts (x.client == client) (same_trans x.trans t) e in
              let was : join_at k.joins.lives i ≡ Some x = was_there j its k.joins.lives h.joins.once i x at in
              let same : same_join i j ≡ true = same_number k.joins.lives client t j i active x h.joins.single there was (is_its client t active refl refl) (is_its client t x (same_trans-true x.trans t both.1) (eqb-true x.client client both.0)) in
              let wrong : ◌≡◌ {A = Option LiveJoin} None (Some x) = sym (join_gone k.joins j active its h.joins.once there (same_trans-itself t)) ∙ ap (join_at (without j its k.joins.lives)) (sym (same_join-true i j same)) ∙ at in
              cc

      late : (n : ℕ) → IsReady n (G.serves k.vault) k → IsReady n (G.serves k.vault) (record (let_go k t) { dead = k.dead ++ (record { client = client; trans = t; cause = c }) ∷ []; joins = record k.joins { lives = without j its k.joins.lives } })
      late n h =
          subst (λ (s : ServerState V). IsReady n (G.serves k.vault) s) (ap (λ (s : ServerState V). record s { dead = dead_then; joins = record k.joins { lives = without j its k.joins.lives } }) (sym (let_go_of k t)))
          (subst (λ (s : ServerState V). IsReady n (G.serves k.vault) s) (ap (λ (s : ServerState V). record s { dead = dead_then; coordinator = k.coordinator; joins = record k.joins { lives = without j its k.joins.lives } }) (let_go_of k t))
          (late_ready n k t k.coordinator (record k.joins { lives = without j its k.joins.lives }) (G.serves k.vault) client c (alone n h) (join_lets n (G.serves k.vault) k h j (voter n (G.serves k.vault) k h j t client ts there) there refl its (same_trans-itself t)) h))

      ready_then : (n : ℕ) → IsReady n (G.serves k.vault) k → IsReady (n + 1) (G.serves v) abort_then
      ready_then n h =
          subst (λ (xs : Joins). IsReady (n + 1) (G.serves v) (record (let_go k t) { dead = dead_then; joins = xs; vault = v })) (sym js_is)
          (ready_with (n + 1) (G.serves k.vault) (G.serves v) (record (let_go k t) { dead = dead_then; joins = record k.joins { lives = without j its k.joins.lives } }) v w.ended.0 still_up
          (stepped_ready n (G.serves k.vault) (record (let_go k t) { dead = dead_then; joins = record k.joins { lives = without j its k.joins.lives } }) (late n h)))

      noted_then : AreNotesFor k (G.held k.vault).notes → AreNotesFor abort_then (notes_after (ready_ended j ∷ []) (G.held k.vault).notes)
      noted_then q =
          subst (λ (xs : Joins). AreNotesFor (record (let_go k t) { dead = dead_then; joins = xs; vault = v }) (noted (ready_name.spell j) None (G.held k.vault).notes)) (sym js_is)
          (subst (λ (s : ServerState V). AreNoted s.server s.servers s.epoch (let_go k t).lives (record k.joins { lives = without j its k.joins.lives }) s.coordinator (noted (ready_name.spell j) None (G.held k.vault).notes)) (sym (let_go_of k t))
          (end_noted k.server k.servers k.epoch k.lives (let_go k t).lives k.joins (record k.joins { lives = without j its k.joins.lives }) k.coordinator (G.held k.vault).notes j named q
          (without_other j its k.joins.lives ready.2.joins.once) (λ i x at away voted. voters_stand ready.0 (G.serves k.vault) k ready.2 j t client ts there its (same_trans-itself t) i x at away voted)
          (join_gone k.joins j (voter ready.0 (G.serves k.vault) k ready.2 j t client ts there) its ready.2.joins.once there (same_trans-itself t))))

      -- by what the journal says
      module _ (a : Account) (h : IsAs a (G.held k.vault) k) where
        abbrev next_state : Account
        next_state = held_end_given a (G.held k.vault) k ready.0 (G.serves k.vault) h ready.2 j t client c (aborted t) js

        y : IsVoter a j t client ts
        y = is_voter a (G.held k.vault) k ready.0 (G.serves k.vault) h ready.2 j t client ts there

        leads : Leads false a (record { event = event.Arrive from (msg.Abort t j c); reply = None; acts = act.Released t ∷ grant_acts (granted_behind k t) }) (held_end_given a (G.held k.vault) k ready.0 (G.serves k.vault) h ready.2 j t client c (aborted t) js)
        leads =
            subst (λ (acts : List Act). Leads false a (record { event = event.Arrive from (msg.Abort t j c); reply = None; acts = acts }) next_state) (append-nil acts_then)
            (abort_leads a from t j client y.life c h.quiet (h.down ∙ up) (ap live_in y.phase) (subst (IsHolding t) (sym y.phase) refl) y.lives y.mine y.own (granted_behind k t)
            (held_walk a (G.held k.vault) k ready.0 (G.serves k.vault) h ready.2 j t client c (aborted t) js))

        tried_is : tried (state_of a) (record { event = event.Arrive from (msg.Abort t j c); reply = None; acts = act.Released t ∷ grant_acts (granted_behind k t) }) ≡ Aborts j t client c ∷ lets (state_of a) event_of t (granted_behind k t)
        tried_is = lets_deed a h (flat_map (act_deeds (state_of a) event_of) (grant_acts (granted_behind k t)))

        law : Along state_deed (IsLawfulDeed event_of) (state_of a) (Aborts j t client c ∷ lets (state_of a) event_of t (granted_behind k t))
        law = subst (Along state_deed (IsLawfulDeed event_of) (state_of a)) tried_is leads.lawful.deeds

        said : (d : Contents) → IsWritten p.intents (ready_ended j ∷ []) (G.held k.vault) d → IsSaidBy (state_of a) (record { event = event.Arrive from (msg.Abort t j c); reply = None; acts = act.Released t ∷ grant_acts (granted_behind k t) }) d
        said d q = subst (λ (ds : List Deed). IsStoredBy a.ids.epoch (state_after state_deed (state_of a) ds) d) (sym tried_is) (record {
          cells = same_cells (G.held k.vault) d q.cells ∙ h.cells up ∙ sym (lets_cells (state_of a) event_of t (granted_behind k t) (state_deed (state_of a) (Aborts j t client c)));
          notes =
              lets_notes (state_of a) event_of t (granted_behind k t) (state_deed (state_of a) (Aborts j t client c)) a.ids.epoch d.notes (aborted_voted (state_of a) j t client ts client c (stands_voted a h.quiet) y.phase) law.1 (written_notes a h d q);
        })

        stepped : IsTrue (G.tells k.vault) → (x : Answer) → x ≡ told_answer None acts_then → Stepped a (G.faults k.vault) (G.faults v) (G.held v) abort_then event_of x
        stepped told x so =
            let is : IsWritten p.intents (ready_ended j ∷ []) (G.held k.vault) (G.held v) = record { cells = w.cells told; notes = w.notes } in
            written_stepped a next_state (G.faults k.vault) (G.faults v) (G.held v) abort_then event_of x acts_then so leads
            (written_ended_as a (G.held k.vault) (G.held v) k ready.0 (G.serves k.vault) h ready.2 j t client c (aborted t) js v up
            (subst (λ (xs : List JoinNo). AreJoins a.holder.server a.ids.epoch a.ids.joins (λ i. cond {A = Phase} (same_join j i) (aborted t (a.phases i)) (a.phases i)) xs js) (append-nil a.joined) (deed (state_of a) h.joins))
            (said_cells a next_state entry_then (G.held v) (grants_go_on (granted_behind k t)) leads.leaves (said (G.held v) is)) (said_notes a next_state entry_then (G.held v) (grants_go_on (granted_behind k t)) leads.leaves (said (G.held v) is)) leads.quiet)
            (stands_timely a.holder.clock 0 (let_go k t).clock (h.clock ∙ ap (λ (s : ServerState V). s.clock) (sym (let_go_of k t))))

      pub abort_come : (x : Answer) → x ≡ told_answer None (act.Released t ∷ grant_acts (granted_behind k t)) → HasCome G k v p (ready_ended j ∷ []) up abort_then (event.Arrive from (msg.Abort t j c)) x (act.Released t ∷ grant_acts (granted_behind k t))
      abort_come x so = record {
        after = record {
          vault = refl;
          server = ap (λ (s : ServerState V). s.server) (let_go_of k t);
          servers = ap (λ (s : ServerState V). s.servers) (let_go_of k t);
          sizes = ap (λ (s : ServerState V). s.sizes) (let_go_of k t);
          epoch = ap (λ (s : ServerState V). s.epoch) (let_go_of k t);
          later = (let same : (let_go k t).clock ≡ k.clock = ap (λ (s : ServerState V). s.clock) (let_go_of k t) in omega (arith, same));
          sessions = ap (λ (s : ServerState V). s.sessions) (let_go_of k t);
          down = ap (λ (s : ServerState V). s.is_down) (let_go_of k t);
        };
        said = so;
        none = grants_go_on (granted_behind k t);
        causes = λ before now allowance. grants_caused before now allowance (granted_behind k t);
        ready = ready_then;
        noted = noted_then;
        steps = λ told a h. stepped a h told x so;
        leaves = λ a h d q. said a h d q;
      }
