-- with the last vote from elsewhere this server votes for the commit: the intents of its part, the clock and the note of the decision stand
-- in one write, and all parts elsewhere are told
use Rattle.std.specs.Prelude.{cond, Bool, true, false, ◌==◌, max, sum_by, flat_map, IsTrue, Option, None, Some, is_some, Ok}
use Rattle.std.specs.List.{list_any, list_all}
use Rattle.std.specs.FinMap as map
use Rattle.std.specs.FinMap.Entries as entries
use Rattle.std.specs.FinMap.Entries.{put}
use Rattle.std.proofs.Common.{◌≡◌, ℕ, ◌+◌, ◌*◌, ◌^◌, ◌<◌, ◌≤◌, List, [], ◌∷◌, ◌++◌, append-nil, length, refl, sym, ◌∙◌, ap, subst, arith, eq-eqb}
use Rattle.std.proofs.lemmas.Bool.{and_parts}
use Rattle.alp_base.specs.Notes.{Notes, noted, notes_after}
use Rattle.alp_base.specs.declared.bytes.NoteChange.{NoteChange}
use Rattle.alp_base.specs.declared.ids.JoinNo.{JoinNo}
use Rattle.alp_base.specs.declared.ids.Stamp.{Stamp}
use Rattle.alp_base.specs.declared.ids.TransId.{TransId}
use Rattle.alp_base.specs.declared.key.Key.{Key}
use Rattle.alp_fields.specs.ClockNote.{clock_name, clock_form}
use Rattle.alp_fields.specs.DecisionNote.{decision_name, decision_form, decision_noted}
use Rattle.alp_fields.specs.declared.decision_note.Decision.{Decision}
use Rattle.alp_files.specs.Cells.{Cells}
use Rattle.alp_files.specs.Edits.{Edit, edits_map}
use Rattle.alp_files.specs.History.{Decided}
use Rattle.alp_files.specs.Needs.{Intents, intents_of}
use Rattle.alp_files.specs.declared.refusal.Cause.{Cause}
use Rattle.alp_journal.specs.declared.act.Act.{Act}
use Rattle.alp_journal.specs.declared.act.Act.TheVariants as act
use Rattle.alp_journal.specs.declared.entry.Entry.{Entry}
use Rattle.alp_journal.specs.declared.event.Event.{Event}
use Rattle.alp_journal.specs.declared.event.Event.TheVariants as event
use Rattle.alp_journal.specs.declared.message.Message.{Message}
use Rattle.alp_journal.specs.declared.message.Message.TheVariants as msg
use Rattle.alp_journal.specs.Account.{Account, state_of, AreEarlier, IsQuiet, Leads, grant_acts, with_granted, granted_calls}
use Rattle.alp_journal.specs.Along.{Along, state_after}
use Rattle.alp_journal.specs.Answered.{IsWalk, in_turn}
use Rattle.alp_journal.specs.Coordinator.{Fate, Finishing, Vote, client_of, decision_in, joins_of, votes_in, with_vote}
use Rattle.alp_journal.specs.Coordinator as fate
use Rattle.alp_journal.specs.Counts.{lock_set}
use Rattle.alp_journal.specs.Deeds.{Deed, Decides, Hears, Releases}
use Rattle.alp_journal.specs.Holder.{Holder, Life, commits, with_life}
use Rattle.alp_journal.specs.Ids.{has_join, same_trans, stamp_cmp}
use Rattle.alp_journal.specs.Laws.{IsLawfulDeed, latest_vote}
use Rattle.alp_journal.specs.Messages.{has_all_votes, why_not_own}
use Rattle.alp_journal.specs.Moves.{act_deeds, abort_in, ends_for, first_sent, hears, is_stop, tried}
use Rattle.alp_journal.specs.State.{State, state_deed}
use Rattle.alp_journal.proofs.DecideSteps.{decide_leads}
use Rattle.alp_journal.proofs.HaltSteps.{stop_of, stop_entry, with_stop, vote_stop_leads}
use Rattle.alp_journal.proofs.IdLemmas.{same_trans-itself}
use Rattle.alp_calls.proofs.PartLaws.{same_change}
use Rattle.alp_coord.specs.declared.answers.Ballot.TheVariants as ballot
use Rattle.alp_coord.specs.declared.coordinator.Coordinator.{Coordinator}
use Rattle.alp_coord.specs.Coordinators.{IsAlong, Comes, ComesLike, ballot_of, count_of, epoch_of, fate_in, server_of}
use Rattle.alp_vault.specs.Contents.{Contents}
use Rattle.alp_vault.specs.Volumes.{AreNoteChanges, is_another, noted_bytes}
use Rattle.alp_vault.specs.declared.vault.Vault.{Ghosts}
use Rattle.alp_worker.specs.Rooms.{applying_of}
use Rattle.alp_node.specs.Durable.{AreNotesOf, IsSaidBy, IsStoredBy, IsWritten}
use Rattle.alp_node.specs.EarlyFates.{IsEarlyFate, IsToDecide}
use Rattle.alp_node.specs.Eases.{eased, new_blocks}
use Rattle.alp_node.specs.Noted.{AreNoted, AreNotesFor, decision_kept, size_in, size_of}
use Rattle.alp_node.specs.Releases.{granted_behind, let_go}
use Rattle.alp_node.specs.Says.{said_each}
use Rattle.alp_node.specs.ServerState.{IsAs, IsReady, IsReadyForMore}
use Rattle.alp_node.specs.Steps.{Stepped, told_answer}
use Rattle.alp_node.specs.Votes.{own_why}
use Rattle.alp_node.specs.Writes.{FitDecision, HasLogFor, Writes, clock_put}
use Rattle.alp_node.specs.declared.answer.Answer.{Answer}
use Rattle.alp_node.specs.declared.lives.Live.{Live}
use Rattle.alp_node.specs.declared.server_state.ServerState.{ServerState}
use Rattle.alp_node.proofs.AskVotes.{each_goes_on, each_caused}
use Rattle.alp_node.proofs.ClockLaws.{time_fits}
use Rattle.alp_node.proofs.CommitLemmas.{own_early, own_log}
use Rattle.alp_node.proofs.CommitNotes.{noted_clock, put_found, put_there}
use Rattle.alp_node.proofs.DecidedNotes.{decide_changes, decide_short, put_format, put_noted, put_notes, put_voted}
use Rattle.alp_node.proofs.EarlyLemmas.{early_hears}
use Rattle.alp_node.proofs.EaseLemmas.{eased_ready, eased_sizes}
use Rattle.alp_node.proofs.EndingLemmas.{said_is}
use Rattle.alp_node.proofs.FatedLemmas.{fated_like, fated_noted, fated_ready}
use Rattle.alp_node.proofs.FewJoins.{few_joins, others_another}
use Rattle.alp_node.proofs.KeptLemmas.{IsLive, live_there, earlier_more}
use Rattle.alp_node.proofs.LastVotes.{IsLast, is_last, last_by, last_decided, last_kept, last_lets, last_told, latest_above, latest_low, latest_timely, others_kept}
use Rattle.alp_node.proofs.LetGoWrites.{grants_bring, lets, lets_cells, lets_notes, said_notes}
use Rattle.alp_node.proofs.LogLemmas.{commit_room, notes_few}
use Rattle.alp_node.proofs.MadeAs.{Made, earlier_put, made_as, made_blocks, made_gone, state_made, woken_calls}
use Rattle.alp_node.proofs.NoteLaw.{AreVoted, deed_says, deed_voted, notes_along, stands_voted}
use Rattle.alp_node.proofs.NotedLemmas.{noted_on, voters_same, voters_then}
use Rattle.alp_node.proofs.PairedLemmas.{running_part}
use Rattle.alp_node.proofs.ReadyLemmas.{LetsPart, own_lets, ready_with, stepped_ready}
use Rattle.alp_node.proofs.ReleaseLemmas.{let_go_of, let_go_ready, let_go_voters, grants_go_with, grants_caused_with}
use Rattle.alp_node.proofs.TransactionLemmas.{run_along}
use Rattle.alp_node.proofs.WriteSteps.{HasCome, IsStop, written_stepped}

-- no grant is the word of an end, nor is a commit
first_behind : (f : Message → Option Cause) (ts : List TransId) (acts : List Act) → first_sent f (grant_acts ts ++ acts) ≡ first_sent f acts
first_behind f [] acts = refl
first_behind f (t ∷ ts) acts = first_behind f ts acts

no_abort : (t : TransId) (stamp : Stamp) (js : List JoinNo) → first_sent (abort_in t) (said_each (λ (i : JoinNo). msg.Commit t i stamp) js) ≡ None
no_abort t stamp [] = refl
no_abort t stamp (j ∷ js) = no_abort t stamp js

said_brings : (s : State) (e : Event) (f : JoinNo → Message) (js : List JoinNo) → flat_map (act_deeds s e) (said_each f js) ≡ []
said_brings s e f [] = refl
said_brings s e f (j ∷ js) = said_brings s e f js

-- its vote is heard, and what the acts bring about comes behind
hears_then : (s : State) (acts : List Act) (t : TransId) (j : JoinNo) (ts client : ℕ) (js : List JoinNo) (vs : List Vote) (ds : List Deed) → s.fates t ≡ Finishing client js vs → has_join j js ≡ true → first_sent (abort_in t) acts ≡ None
    → hears s acts t j ts (s.fates t) ++ ds ++ [] ≡ Hears t j ts ∷ ds
hears_then s acts t j ts client js vs ds is its none =
    ap (λ (f : Fate). hears s acts t j ts f ++ ds ++ []) is
    ∙ ap (λ (b : Bool). cond {A = List Deed} b (Hears t j ts ∷ ends_for t client (first_sent (abort_in t) acts)) [] ++ ds ++ []) its
    ∙ ap (λ (c : Option Cause). (Hears t j ts ∷ ends_for t client c) ++ ds ++ []) none
    ∙ ap (λ (xs : List Deed). Hears t j ts ∷ xs) (append-nil ds)

module _ {V : Type 0} (G : Ghosts V) (k : ServerState V) (from : ℕ) (t : TransId) (j : JoinNo) (ts latest : ℕ) (last : ballot_of j ts (k.clock + 1) (fate_in k.coordinator t) ≡ ballot.Last latest) (low : ts ≤ 2 ^ 62) (up : k.is_down ≡ false)
    (ready : IsReadyForMore (G.serves k.vault) k) (may : own_why k t ≡ None) where
  abbrev pub last_of : IsLast j ts (k.clock + 1) latest (fate_in k.coordinator t)
  last_of = is_last j ts (k.clock + 1) latest (fate_in k.coordinator t) last

  abbrev first : JoinNo
  first = (is_last j ts (k.clock + 1) latest (fate_in k.coordinator t) last).first

  abbrev rest : List JoinNo
  rest = (is_last j ts (k.clock + 1) latest (fate_in k.coordinator t) last).rest

  abbrev pub last_joins : List JoinNo
  last_joins = (is_last j ts (k.clock + 1) latest (fate_in k.coordinator t) last).first ∷ (is_last j ts (k.clock + 1) latest (fate_in k.coordinator t) last).rest

  abbrev client : ℕ
  client = (is_last j ts (k.clock + 1) latest (fate_in k.coordinator t) last).client

  abbrev stamp : Stamp
  stamp = record { ts = latest; trans = t }

  abbrev decision : Decision
  decision = record { ts = latest; joins = first ∷ rest }

  abbrev event_of : Event
  event_of = event.Arrive from (msg.Ready t j ts)

  abbrev pub last_written : List NoteChange
  last_written = clock_put (record { epoch = k.epoch; clock = latest }) ∷ decision_noted t (record { ts = latest; joins = first ∷ rest }) ∷ []

  early : k.clock < 2 ^ 62
  early = own_early k t may

  pub runs : client_of (fate_in k.coordinator t) ≡ Some client
  runs = ap client_of last_of.is

  own : t.server ≡ k.server
  own = ready.2.paired.own t client runs

  -- its part
  abbrev pub last_part : (l : Live) × (map.get k.lives t ≡ Some l) × (l.client ≡ client) × (l.join ≡ None) × (is_some l.who ≡ true)
  last_part = running_part k.servers k.server k.coordinator k.joins k.lives ready.2.paired t client runs

  abbrev l : Live
  l = (running_part k.servers k.server k.coordinator k.joins k.lives ready.2.paired t client runs).0

  to_decide : IsToDecide k.servers k.server last_joins last_of.votes
  to_decide = subst (IsEarlyFate k.servers k.server) last_of.is (ready.2.fated t)

  pub last_low : latest ≤ 2 ^ 62
  last_low = latest_low j ts (k.clock + 1) latest (fate_in k.coordinator t) last_of to_decide.low low (let e : k.clock < 2 ^ 62 = early in omega (arith, e))

  pub last_few : 1 ≤ k.server → k.server ≤ k.servers → k.servers ≤ 8 → length last_joins ≤ 7
  last_few one among most = (let few : length last_joins + 1 ≤ k.servers = few_joins k.servers k.server last_joins to_decide.joins one among in omega (arith, few, most))

  above : k.clock + 1 ≤ latest
  above = latest_above j ts (k.clock + 1) latest (fate_in k.coordinator t) last_of

  far : list_all (λ (i : JoinNo). is_another k.server k.servers i.server) last_joins ≡ true
  far = others_another k.servers k.server last_joins to_decide.joins.0

  clock_fits : clock_form.Fits (record { epoch = k.epoch; clock = latest })
  clock_fits = time_fits (record { epoch = k.epoch; clock = latest }) ready.2.last last_low

  module _ (fits : FitDecision (record { ts = latest; trans = t }) last_joins) where
    -- ---- what may be written

    mid_noted : (notes : Notes) → AreNotesFor k notes → AreNotesFor k (noted clock_name (Some (clock_form.spell (record { epoch = k.epoch; clock = latest }))) notes)
    mid_noted notes are = noted_clock k.server k.servers k.epoch latest k.lives k.joins k.coordinator notes clock_fits are

    -- the decision's note beside others, by a coordinator that goes on so
    then_noted : (lives : _) (mid after : Coordinator) (notes : Notes) → ((u : TransId) → (u ≡ t → ⊥) → decision_kept (fate_in mid u) ≡ decision_kept (fate_in after u)) → decision_kept (fate_in after t) ≡ Some (record { ts = latest; joins = first ∷ rest })
        → AreNoted k.server k.servers k.epoch lives k.joins mid notes → AreNoted k.server k.servers k.epoch lives k.joins after (notes_after last_written notes)
    then_noted lives mid after notes others this are =
        put_noted k.server k.servers k.epoch lives k.joins mid after t decision (noted clock_name (Some (clock_form.spell (record { epoch = k.epoch; clock = latest }))) notes) fits.1 fits.0 own far others this
        (noted_clock k.server k.servers k.epoch latest lives k.joins mid notes clock_fits are)

    pub last_changes : (notes : Notes) → AreNotesFor k notes → AreNoteChanges k.server k.servers notes last_written
    last_changes notes are =
        decide_changes k.server k.servers notes (record { epoch = k.epoch; clock = latest }) t decision are.format (mid_noted notes are).format
        (put_format k.server k.servers k.epoch k.lives k.joins k.coordinator t decision (noted clock_name (Some (clock_form.spell (record { epoch = k.epoch; clock = latest }))) notes) fits.1 fits.0 own far (mid_noted notes are))
        (notes_few k.server k.servers k.epoch k.lives k.joins k.coordinator notes are ready.2.most)

    pub last_log : (notes : Notes) → AreNotesFor k notes → (x : Live) → map.get k.lives t ≡ Some x → HasLogFor notes k.sizes x last_written
    last_log notes are x at =
        let size : applying_of (size_in k.lives t) ≡ 4 * x.part.counts.cells + 4 = ap (λ (o : Option Live). applying_of (size_of o)) at in
        commit_room k.server k.servers k.epoch k.lives k.joins k.coordinator notes are ready.2.most k.sizes.area (applying_of (size_in k.lives t)) x.part.counts.cells (sum_by (λ (n : NoteChange). noted_bytes n.name n.value) last_written)
        (own_log k t may) (omega (arith, size)) (ready.2.within t x at).part.most (decide_short (record { epoch = k.epoch; clock = latest }) t decision fits.0)

    -- ---- by what the journal says

    module _ (a : Account) (h : IsAs a (G.held k.vault) k) where
      abbrev told : (vs : List Vote) × (a.fates t ≡ Finishing client (first ∷ rest) vs) × (has_all_votes j ts (first ∷ rest) vs ≡ true) × (latest ≡ latest_vote (k.clock + 1) (with_vote j ts vs))
      told = last_told a.ids.epoch t j ts (k.clock + 1) latest (fate_in k.coordinator t) (a.fates t) last_of (h.coordinator.fates t) last

      abbrev vs : List Vote
      vs = told.0

      its_there : has_join j (first ∷ rest) ≡ true
      its_there = (and_parts (has_join j (first ∷ rest)) (list_all (λ i. fate.voted i (with_vote j ts vs)) (first ∷ rest)) told.2).0

      time_is : latest ≡ latest_vote (a.holder.clock + 1) (with_vote j ts vs)
      time_is = told.3 ∙ ap (λ (n : ℕ). latest_vote (n + 1) (with_vote j ts vs)) (sym h.clock)

      abbrev z : IsLive a.holder.cells k.locks.held (a.locked t) t l (a.holder.lives t)
      z = live_there a.holder.cells k.locks.held (a.locked t) t (map.get k.lives t) (a.holder.lives t) l last_part.1 (h.lives t)

      abbrev life : Life
      life = (live_there a.holder.cells k.locks.held (a.locked t) t (map.get k.lives t) (a.holder.lives t) l last_part.1 (h.lives t)).life

      part_is : life.join ≡ None
      part_is = z.alike.join ∙ last_part.3

      abbrev hearing : State
      hearing = state_deed (state_of a) (Hears t j ts)

      abbrev decided_state : State
      decided_state = state_deed (state_deed (state_of a) (Hears t j ts)) (Decides (record { ts = latest; trans = t }) (first ∷ rest))

      heard_is : hearing.fates t ≡ Finishing client (first ∷ rest) (with_vote j ts vs)
      heard_is = ap (λ (b : Bool). cond {A = Fate} b (fate.heard j ts (a.fates t)) (a.fates t)) (same_trans-itself t) ∙ ap (fate.heard j ts) told.1

      own_told : (t.server == a.holder.server) ≡ true
      own_told = eq-eqb t.server a.holder.server (own ∙ sym h.server)

      -- the notes that are written are those with the clock of the journal
      notes_are : notes_after last_written (G.held k.vault).notes
          ≡ noted (decision_name.spell t) (Some (decision_form.spell (record { ts = latest; joins = first ∷ rest }))) (noted clock_name (Some (clock_form.spell (record { epoch = a.ids.epoch; clock = max a.holder.clock latest }))) (G.held k.vault).notes)
      notes_are =
          let same : latest ≡ max a.holder.clock latest = (let up_to : k.clock + 1 ≤ latest = above in let clock : a.holder.clock ≡ k.clock = h.clock in omega (arith, up_to, clock)) in
          λ i. noted (decision_name.spell t) (Some (decision_form.spell decision)) (noted clock_name (Some (clock_form.spell (record { epoch = sym h.epoch i; clock = same i }))) (G.held k.vault).notes)

      told_fits : clock_form.Fits (record { epoch = a.ids.epoch; clock = max a.holder.clock latest })
      told_fits = time_fits (record { epoch = a.ids.epoch; clock = max a.holder.clock latest }) (let e : a.ids.epoch ≡ k.epoch = h.epoch in let u : k.epoch < 2 ^ 32 = ready.2.last in omega (arith, e, u))
          (let low_it : latest ≤ 2 ^ 62 = last_low in let clock : a.holder.clock ≡ k.clock = h.clock in let low_clock : k.clock < 2 ^ 62 = early in omega (arith, low_it, clock, low_clock))

      module _ (heard_lawful : IsLawfulDeed event_of (state_of a) (Hears t j ts)) where
        hearing_voted : AreVoted (state_deed (state_of a) (Hears t j ts))
        hearing_voted = deed_voted event_of (state_of a) (Hears t j ts) tt heard_lawful (stands_voted a h.quiet)

        decided_voted : AreVoted (state_deed (state_deed (state_of a) (Hears t j ts)) (Decides (record { ts = latest; trans = t }) (first ∷ rest)))
        decided_voted = put_voted hearing t latest (first ∷ rest) life hearing_voted own_told z.is

        written_notes : (d : Contents) → d.notes ≡ notes_after last_written (G.held k.vault).notes → AreNotesOf (state_deed (state_deed (state_of a) (Hears t j ts)) (Decides (record { ts = latest; trans = t }) (first ∷ rest))) a.ids.epoch d.notes
        written_notes d is =
            subst (AreNotesOf decided_state a.ids.epoch) (sym (is ∙ notes_are))
            (put_notes hearing t latest (first ∷ rest) life hearing_voted own_told z.is decision a.ids.epoch (G.held k.vault).notes fits.1 fits.0 ((λ i. list_all (λ (x : JoinNo). is_another (h.server i) (h.servers i) x.server) last_joins) ∙ far) (own ∙ sym h.server)
            (ap (λ (f : Fate). decision_kept (fate.decided stamp (first ∷ rest) f)) heard_is) told_fits h.quiet.settled.stands.order
            (notes_along (state_of a) hearing a.ids.epoch (G.held k.vault).notes (deed_says event_of (state_of a) (Hears t j ts) tt heard_lawful (stands_voted a h.quiet)) (h.notes up)))

        -- the cells are those of the journal
        written_cells : (d : Contents) → IsWritten l.part.intents last_written (G.held k.vault) d → d.cells ≡ (state_deed (state_deed (state_of a) (Hears t j ts)) (Decides (record { ts = latest; trans = t }) (first ∷ rest))).holder.cells
        written_cells d q =
            q.cells ∙ same_change (G.held k.vault).cells l.part life.edits z.alike.intents ∙ ap (edits_map life.edits) (h.cells up) ∙ ap (λ (x : Option Life). (commits a.holder stamp x).cells) (sym z.is)

    -- ---- the server goes down in it

    module _ (journal : (a : Account) (held : Contents) → IsAs a held k → why_not_own false (state_of a) t ≡ None) where
      stop_leads : (b : Bool) (a : Account) (h : IsAs a (G.held k.vault) k) → Leads false a (stop_entry a from (msg.Ready t j ts) (act.Decided (record { ts = latest; trans = t }) last_joins ∷ stop_of b ∷ []))
          (with_stop a from (msg.Ready t j ts) (act.Decided (record { ts = latest; trans = t }) last_joins ∷ stop_of b ∷ []))
      stop_leads b a h =
          subst (λ (n : ℕ). Leads false a (stop_entry a from (msg.Ready t j ts) (act.Decided (record { ts = n; trans = t }) last_joins ∷ stop_of b ∷ [])) (with_stop a from (msg.Ready t j ts) (act.Decided (record { ts = n; trans = t }) last_joins ∷ stop_of b ∷ [])))
          (sym (time_is a h)) (vote_stop_leads a from t j ts client last_joins (vs a h) (life a h) h.quiet (h.down ∙ up) (told a h).1 (told a h).2 (z a h).is (part_is a h) (journal a (G.held k.vault) h) b)

      stop_deeds : (a : Account) (h : IsAs a (G.held k.vault) k) (b : Bool) → tried (state_of a) (stop_entry a from (msg.Ready t j ts) (act.Decided (record { ts = latest; trans = t }) last_joins ∷ stop_of b ∷ [])) ≡ Hears t j ts ∷ Decides (record { ts = latest; trans = t }) last_joins ∷ []
      stop_deeds a h true = hears_then (state_of a) (act.Decided stamp last_joins ∷ act.Stopped ∷ []) t j ts client last_joins (vs a h) (Decides stamp last_joins ∷ []) (told a h).1 (its_there a h) refl
      stop_deeds a h false = hears_then (state_of a) (act.Decided stamp last_joins ∷ act.Failed ∷ []) t j ts client last_joins (vs a h) (Decides stamp last_joins ∷ []) (told a h).1 (its_there a h) refl

      stop_said : (b : Bool) (a : Account) (h : IsAs a (G.held k.vault) k) (c : Contents) → IsWritten l.part.intents last_written (G.held k.vault) c → IsSaidBy (state_of a) (stop_entry a from (msg.Ready t j ts) (act.Decided (record { ts = latest; trans = t }) last_joins ∷ stop_of b ∷ [])) c
      stop_said b a h c q =
          let law : Along state_deed (IsLawfulDeed event_of) (state_of a) (Hears t j ts ∷ Decides stamp last_joins ∷ []) = subst (Along state_deed (IsLawfulDeed event_of) (state_of a)) (stop_deeds a h b) (stop_leads b a h).lawful.deeds in
          subst (λ (ds : List Deed). IsStoredBy a.ids.epoch (state_after state_deed (state_of a) ds) c) (sym (stop_deeds a h b)) (record { cells = written_cells a h law.0 c q; notes = written_notes a h law.0 c q.notes })

      pub last_stop : (v : V) → IsStop G k v l.part last_written up from (msg.Ready t j ts) (act.Decided (record { ts = latest; trans = t }) last_joins ∷ [])
      last_stop v = record {
        stops = λ b. stop_is b;
        causes = λ before now allowance x q. q;
        leads = stop_leads;
        said = stop_said;
      }
        where
          stop_is : (b : Bool) → list_any is_stop (act.Decided stamp last_joins ∷ stop_of b ∷ []) ≡ true
          stop_is true = refl
          stop_is false = refl

    -- ---- it was written

    module _ (mid after : Coordinator) (hear_along : IsAlong k.coordinator mid) (hears_it : ComesLike (Hears t j ts) k.coordinator mid) (along : IsAlong mid after) (decides : Comes (Decides (record { ts = latest; trans = t }) (joins_of (fate_in mid t))) mid after) where
      module _ (v : V) (blocks : List Key) (opened : IsTrue (G.tells k.vault) → (x : Live) → map.get k.lives t ≡ Some x → blocks ≡ new_blocks (G.held k.vault).cells x.part.intents.puts) (w : Writes G k.vault v l.part last_written (Ok tt))
          (journal : (a : Account) (held : Contents) → IsAs a held k → why_not_own false (state_of a) t ≡ None) where
        abbrev pub last_then : ServerState V
        last_then = record (let_go k t) { lives = eased blocks (let_go k t).lives (map.keys k.lives); clock = max k.clock latest; coordinator = after; joins = k.joins; vault = v }

        abbrev acts_at : ℕ → List Act
        acts_at n = (act.Decided (record { ts = n; trans = t }) last_joins ∷ act.Released t ∷ grant_acts (granted_behind k t)) ++ said_each (λ (i : JoinNo). msg.Commit t i (record { ts = n; trans = t })) last_joins

        still_up : (let_go k t).is_down ≡ false
        still_up = ap (λ (s : ServerState V). s.is_down) (let_go_of k t) ∙ up

        -- whatever the vault tells
        heard_ready : (n : ℕ) → IsReady n (G.serves k.vault) k → IsReady n (G.serves k.vault) (record k { coordinator = mid })
        heard_ready n h = fated_ready n (G.serves k.vault) k mid (fated_like (Hears t j ts) k.coordinator mid tt hear_along hears_it) (early_hears k.servers k.server t j ts k.coordinator mid low hears_it h.fated) h

        lets_it : (n : ℕ) → IsReady n (G.serves k.vault) k → LetsPart n (G.serves k.vault) k t after k.joins latest
        lets_it n h =
            let r : IsReady n (G.serves k.vault) (record k { coordinator = mid }) = heard_ready n h in
            let x : LetsPart n (G.serves k.vault) (record k { coordinator = mid }) t after k.joins latest =
            own_lets n (G.serves k.vault) (record k { coordinator = mid }) t after latest
            (last_lets k.coordinator mid t j ts (k.clock + 1) latest last_of hears_it after decides k.clock along (let up_to : k.clock + 1 ≤ latest = above in omega (arith, up_to)) r.times) own r in
            record {
              along = run_along (server_of k.coordinator) (epoch_of k.coordinator) (count_of k.coordinator) mid after hear_along along;
              times = x.times;
              fated = x.fated;
              joins = x.joins;
              paired = x.paired;
              idle = x.idle;
              alive = x.alive;
              most = x.most;
              fits = x.fits;
            }

        clock_is : max k.clock latest ≡ latest
        clock_is = (let up_to : k.clock + 1 ≤ latest = above in omega (arith, up_to))

        ready_then : (n : ℕ) → IsReady n (G.serves k.vault) k → IsReady (n + 1) (G.serves v) last_then
        ready_then n h =
            subst (λ (m : ℕ). IsReady (n + 1) (G.serves v) (record (let_go k t) { lives = eased blocks (let_go k t).lives (map.keys k.lives); clock = m; coordinator = after; joins = k.joins; vault = v })) (sym clock_is)
            (ready_with (n + 1) (G.serves k.vault) (G.serves v) (record (let_go k t) { lives = eased blocks (let_go k t).lives (map.keys k.lives); clock = latest; coordinator = after; joins = k.joins }) v w.ended.0 still_up
            (stepped_ready n (G.serves k.vault) (record (let_go k t) { lives = eased blocks (let_go k t).lives (map.keys k.lives); clock = latest; coordinator = after; joins = k.joins })
            (eased_ready n (G.serves k.vault) (record (let_go k t) { clock = latest; coordinator = after; joins = k.joins }) blocks (map.keys k.lives)
            (subst (λ (s : ServerState V). IsReady n (G.serves k.vault) s) (ap (λ (s : ServerState V). record s { clock = latest; coordinator = after; joins = k.joins }) (sym (let_go_of k t)))
            (let_go_ready n k t after k.joins (G.serves k.vault) latest (let up_to : k.clock + 1 ≤ latest = above in omega (arith, up_to)) last_low (lets_it n h) h)))))

        noted_then : AreNotesFor k (G.held k.vault).notes → AreNotesFor last_then (notes_after last_written (G.held k.vault).notes)
        noted_then q =
            subst (λ (s : ServerState V). AreNoted s.server s.servers s.epoch (eased blocks (let_go k t).lives (map.keys k.lives)) k.joins after (notes_after last_written (G.held k.vault).notes)) (sym (let_go_of k t))
            (then_noted (eased blocks (let_go k t).lives (map.keys k.lives)) mid after (G.held k.vault).notes (others_kept k.coordinator mid t j ts (k.clock + 1) latest last_of hears_it after decides)
            (last_kept k.coordinator mid t j ts (k.clock + 1) latest last_of hears_it after decides)
            (fated_noted k.server k.servers k.epoch (eased blocks (let_go k t).lives (map.keys k.lives)) k.joins k.coordinator mid (G.held k.vault).notes (fated_like (Hears t j ts) k.coordinator mid tt hear_along hears_it)
            (noted_on k.lives (eased blocks (let_go k t).lives (map.keys k.lives)) k.server k.servers k.epoch k.joins k.coordinator (G.held k.vault).notes
            (voters_then k.lives (let_go k t).lives (eased blocks (let_go k t).lives (map.keys k.lives)) k.joins.lives (let_go_voters ready.0 (G.serves k.vault) k t ready.2 own)
            (voters_same (let_go k t).lives (eased blocks (let_go k t).lives (map.keys k.lives)) k.joins.lives (eased_sizes blocks (let_go k t).lives (map.keys k.lives)))) q)))

        -- by what the journal says
        module _ (a : Account) (h : IsAs a (G.held k.vault) k) where
          abbrev applied_at : ℕ → List (Stamp × Decided)
          applied_at n = put stamp_cmp (record { ts = n; trans = t }) (record { stamp = record { ts = n; trans = t }; who = (life a h).who; calls = (life a h).calls }) a.holder.applied

          abbrev left_at : ℕ → List (Stamp × List Edit)
          left_at n = put stamp_cmp (record { ts = n; trans = t }) (life a h).edits a.holder.left

          abbrev fates_at : ℕ → TransId → Fate
          fates_at n = λ u. cond {A = Fate} (same_trans t u) (fate.decided (record { ts = n; trans = t }) last_joins (fate.heard j ts (a.fates u))) (a.fates u)

          abbrev holder_at : ℕ → Holder
          holder_at n = with_life (record a.holder { cells = edits_map (life a h).edits a.holder.cells; clock = max a.holder.clock n; kept = max a.holder.clock n; applied = applied_at n; left = left_at n }) t None

          abbrev before_grants : ℕ → Account
          before_grants n = record a { holder = holder_at n; fates = fates_at n; locked = lock_set a.locked t []; is_down = false; pending = [] }

          abbrev next_at : ℕ → Account
          next_at n = with_granted (before_grants n) (granted_calls a.waits (granted_behind k t))

          abbrev entry_at : ℕ → Entry
          entry_at n = record { event = event.Arrive from (msg.Ready t j ts); reply = None; acts = acts_at n }

          g : Made a (G.held k.vault) (G.held v) k t l v ready.0 (G.serves k.vault) h ready.2 up last_part.1 latest (applied_at latest) (left_at latest)
          g = made_gone a (G.held k.vault) (G.held v) k t l v ready.0 (G.serves k.vault) h ready.2 up last_part.1 latest (applied_at latest) (left_at latest)

          walk : IsWalk (holder_at latest) (in_turn (holder_at latest) a.waits) (granted_behind k t)
          walk = subst (λ (us : List TransId). IsWalk (holder_at latest) (in_turn (holder_at latest) a.waits) us) (sym g.woken) g.walk

          leads : Leads false a (entry_at latest) (next_at latest)
          leads = subst (λ (n : ℕ). Leads false a (entry_at n) (next_at n)) (sym (time_is a h)) (at_time (latest_vote (a.holder.clock + 1) (with_vote j ts (vs a h))) refl)
            where
              at_time : (n : ℕ) → n ≡ latest_vote (a.holder.clock + 1) (with_vote j ts (vs a h)) → Leads false a (entry_at n) (next_at n)
              at_time n is =
                  subst (λ (n : ℕ). Leads false a (entry_at n) (next_at n)) (sym is)
                  (subst
                  (λ (more : List Act).
                  Leads false a (record { event = event.Arrive from (msg.Ready t j ts); reply = None; acts = (act.Decided (record { ts = latest_vote (a.holder.clock + 1) (with_vote j ts (vs a h)); trans = t }) last_joins ∷ act.Released t ∷ grant_acts (granted_behind k t)) ++ more })
                  (next_at (latest_vote (a.holder.clock + 1) (with_vote j ts (vs a h)))))
                  (sym (said_is (λ i. msg.Commit t i (record { ts = latest_vote (a.holder.clock + 1) (with_vote j ts (vs a h)); trans = t })) last_joins))
                  (decide_leads a from t j ts client last_joins (vs a h) (life a h) h.quiet (h.down ∙ up) (told a h).1 (told a h).2 (z a h).is (part_is a h) (journal a (G.held k.vault) h) (granted_behind k t)
                  (subst (λ (n : ℕ). IsWalk (holder_at n) (in_turn (holder_at n) a.waits) (granted_behind k t)) (time_is a h) walk)))

          no_end : first_sent (abort_in t) (acts_at latest) ≡ None
          no_end = first_behind (abort_in t) (granted_behind k t) (said_each (λ (i : JoinNo). msg.Commit t i stamp) last_joins) ∙ no_abort t stamp last_joins

          tried_is : tried (state_of a) (entry_at latest) ≡ Hears t j ts ∷ Decides (record { ts = latest; trans = t }) last_joins ∷ lets (state_of a) event_of t (granted_behind k t)
          tried_is =
              hears_then (state_of a) (acts_at latest) t j ts client last_joins (vs a h) (flat_map (act_deeds (state_of a) event_of) (acts_at latest)) (told a h).1 (its_there a h) no_end
              ∙ ap (λ (ds : List Deed). Hears t j ts ∷ Decides (record { ts = latest; trans = t }) last_joins ∷ Releases t ∷ ds)
              (grants_bring (state_of a) event_of (granted_behind k t) (said_each (λ (i : JoinNo). msg.Commit t i stamp) last_joins) (said_brings (state_of a) event_of (λ (i : JoinNo). msg.Commit t i stamp) last_joins))

          law : Along state_deed (IsLawfulDeed event_of) (state_of a) (Hears t j ts ∷ Decides (record { ts = latest; trans = t }) last_joins ∷ lets (state_of a) event_of t (granted_behind k t))
          law = subst (Along state_deed (IsLawfulDeed event_of) (state_of a)) tried_is leads.lawful.deeds

          said : (d : Contents) → IsWritten l.part.intents last_written (G.held k.vault) d → IsSaidBy (state_of a) (entry_at latest) d
          said d q = subst (λ (ds : List Deed). IsStoredBy a.ids.epoch (state_after state_deed (state_of a) ds) d) (sym tried_is) (record {
            cells = written_cells a h law.0 d q ∙ sym (lets_cells (state_of a) event_of t (granted_behind k t) (decided_state a h));
            notes = lets_notes (state_of a) event_of t (granted_behind k t) (decided_state a h) a.ids.epoch d.notes (decided_voted a h law.0) law.1.1 (written_notes a h law.0 d q.notes);
          })

          goes_on : list_any is_stop (acts_at latest) ≡ false
          goes_on = grants_go_with (granted_behind k t) (said_each (λ (i : JoinNo). msg.Commit t i stamp) last_joins) (each_goes_on (λ (i : JoinNo). msg.Commit t i stamp) last_joins)

          state_is : record (state_made a (G.held k.vault) (G.held v) k t l v ready.0 (G.serves k.vault) h ready.2 up last_part.1 latest (applied_at latest) (left_at latest) g) { fates = fates_at latest; phases = a.phases; is_down = false; pending = [] } ≡ next_at latest
          state_is = ap (with_granted (before_grants latest)) (sym (woken_calls a (G.held k.vault) (G.held v) k t l v ready.0 (G.serves k.vault) h ready.2 up last_part.1 latest (applied_at latest) (left_at latest) g))

          decided_then : (u : TransId) (s : Stamp) (ks : List JoinNo) → u.epoch ≡ a.ids.epoch → decision_in (fates_at latest u) ≡ Some (s, ks) → is_some (entries.find stamp_cmp s (applied_at latest)) ≡ true
          decided_then u s ks now at =
              last_decided stamp s last_joins ks j ts (same_trans t u) (a.fates u) at (is_some (entries.find stamp_cmp s (applied_at latest)) ≡ true)
              (λ was. put_there s stamp (record { stamp = stamp; who = (life a h).who; calls = (life a h).calls }) a.holder.applied (h.decided u s ks now was))
              (λ same. subst (λ (x : Stamp). is_some (entries.find stamp_cmp x (applied_at latest)) ≡ true) same (put_found stamp (record { stamp = stamp; who = (life a h).who; calls = (life a h).calls }) a.holder.applied))

          earlier_then : AreEarlier (max a.holder.clock latest) (applied_at latest)
          earlier_then =
              earlier_put (max a.holder.clock latest) stamp (record { stamp = stamp; who = (life a h).who; calls = (life a h).calls }) a.holder.applied (omega arith)
              (earlier_more a.holder.clock (max a.holder.clock latest) a.holder.applied (omega arith) (earlier_more a.holder.kept a.holder.clock a.holder.applied h.quiet.settled.stands.order h.earlier))

          timely : max k.clock latest ≤ max a.holder.clock (latest_vote ts (votes_in (a.fates t))) + 1
          timely =
              let o : IsLast j ts (k.clock + 1) latest (a.fates t) = record { client = client; first = first; rest = rest; votes = vs a h; is = (told a h).1; all = (told a h).2; time = (told a h).3 } in
              let up_to : latest ≤ max k.clock (latest_vote ts (vs a h)) + 1 = latest_timely j ts (k.clock + 1) latest (a.fates t) o k.clock refl in
              let seen : latest_vote ts (votes_in (a.fates t)) ≡ latest_vote ts (vs a h) = ap (λ (f : Fate). latest_vote ts (votes_in f)) (told a h).1 in
              let clock : a.holder.clock ≡ k.clock = h.clock in
              omega (arith, up_to, seen, clock)

          stepped : IsTrue (G.tells k.vault) → (x : Answer) → x ≡ told_answer None (acts_at latest) → Stepped a (G.faults k.vault) (G.faults v) (G.held v) last_then event_of x
          stepped tells x so =
              let is : IsWritten l.part.intents last_written (G.held k.vault) (G.held v) = record { cells = w.cells tells; notes = w.notes } in
              let same_blocks : blocks ≡ made_blocks a (G.held k.vault) (G.held v) k t l v ready.0 (G.serves k.vault) h ready.2 up last_part.1 latest (applied_at latest) (left_at latest) =
              opened tells l last_part.1 ∙ ap (λ (i : Intents). new_blocks (G.held k.vault).cells i.puts) (z a h).alike.intents ∙ ap (λ (m : Cells). new_blocks m (intents_of (life a h).edits).puts) (h.cells up) in
              written_stepped a (next_at latest) (G.faults k.vault) (G.faults v) (G.held v) last_then event_of x (acts_at latest) so leads
              (subst (λ (m : Account). IsAs m (G.held v) last_then) state_is
              (made_as a (G.held k.vault) (G.held v) k t l v ready.0 (G.serves k.vault) h ready.2 up last_part.1 latest (applied_at latest) (left_at latest) g (fates_at latest) a.phases after k.joins blocks same_blocks (record {
                coordinated = last_by k.coordinator mid t j ts (k.clock + 1) latest last_of hears_it after decides a.holder.server a.ids.epoch a.ids.transactions a.fates hear_along along h.coordinator;
                joined = h.joins;
                decided = decided_then;
                earlier = earlier_then;
                cells = written_cells a h law.0 (G.held v) is ∙ ap (λ (o : Option Life). (commits a.holder stamp o).cells) (z a h).is;
                notes = subst (λ (m : Account). AreNotesOf (state_of m) a.ids.epoch (G.held v).notes) (sym state_is) (said_notes a (next_at latest) (entry_at latest) (G.held v) goes_on leads.leaves (said (G.held v) is));
                quiet = subst IsQuiet (sym state_is) leads.quiet;
              })))
              timely

        pub last_come : (x : Answer) → x ≡ told_answer None ((act.Decided (record { ts = latest; trans = t }) last_joins ∷ act.Released t ∷ grant_acts (granted_behind k t)) ++ said_each (λ (i : JoinNo). msg.Commit t i (record { ts = latest; trans = t })) last_joins)
            → HasCome G k v l.part last_written up last_then (event.Arrive from (msg.Ready t j ts)) x
            ((act.Decided (record { ts = latest; trans = t }) last_joins ∷ act.Released t ∷ grant_acts (granted_behind k t)) ++ said_each (λ (i : JoinNo). msg.Commit t i (record { ts = latest; trans = t })) last_joins)
        last_come x so = record {
          after = record {
            vault = refl;
            server = ap (λ (s : ServerState V). s.server) (let_go_of k t);
            servers = ap (λ (s : ServerState V). s.servers) (let_go_of k t);
            sizes = ap (λ (s : ServerState V). s.sizes) (let_go_of k t);
            epoch = ap (λ (s : ServerState V). s.epoch) (let_go_of k t);
            later = omega arith;
            sessions = ap (λ (s : ServerState V). s.sessions) (let_go_of k t);
            down = ap (λ (s : ServerState V). s.is_down) (let_go_of k t);
          };
          said = so;
          none = grants_go_with (granted_behind k t) (said_each (λ (i : JoinNo). msg.Commit t i stamp) last_joins) (each_goes_on (λ (i : JoinNo). msg.Commit t i stamp) last_joins);
          causes = λ before now allowance. grants_caused_with before now allowance (granted_behind k t) (said_each (λ (i : JoinNo). msg.Commit t i stamp) last_joins) (each_caused (λ (i : JoinNo). msg.Commit t i stamp) (λ i. last_low) last_joins before now allowance);
          ready = ready_then;
          noted = noted_then;
          steps = λ tells a h. stepped a h tells x so;
          leaves = λ a h d q. said a h d q;
        }
