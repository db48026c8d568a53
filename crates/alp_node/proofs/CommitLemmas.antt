-- commits of transactions without parts on other servers, and halts in them, as the server keeps them
use Rattle.std.specs.Prelude.{cond, Bool, true, false, ◌==◌, ◌&&◌, max, nat_le, nat_lt, flat_map, Option, None, Some, is_none, is_some}
use Rattle.std.specs.List.{list_any, AllByRecursion}
use Rattle.std.specs.FinMap.Entries as entries
use Rattle.std.specs.FinMap.Entries.{put}
use Rattle.std.specs.FinMap as map
use Rattle.std.proofs.Common.{◌⊎◌, ◌≡◌, ℕ, ◌+◌, ◌-◌, ◌^◌, ◌<◌, ◌≤◌, List, [], ◌∷◌, ◌++◌, append-nil, refl, sym, ◌∙◌, ap, subst, arith, eq-eqb, inl, inr}
use Rattle.std.proofs.lemmas.Bool.{leb-false, ltb-false}
use Rattle.alp_base.specs.Notes.{noted, notes_after}
use Rattle.alp_base.specs.declared.ids.Stamp.{Stamp}
use Rattle.alp_base.specs.declared.ids.TransId.{TransId}
use Rattle.alp_base.specs.declared.key.Key.{Key}
use Rattle.alp_base.specs.declared.key.Key.TheVariants.{Leader}
use Rattle.alp_fields.specs.ClockNote.{clock_name, clock_form}
use Rattle.alp_files.specs.Cells.{Cells, View}
use Rattle.alp_files.specs.Changes.{edits_of}
use Rattle.alp_files.specs.Edits.{Edit, edits_at, edits_map}
use Rattle.alp_files.specs.Needs.{Intents, intents_of}
use Rattle.alp_files.specs.History.{Decided}
use Rattle.alp_files.specs.declared.call.Call.TheVariants as call
use Rattle.alp_files.specs.declared.reply.Reply.{Reply}
use Rattle.alp_files.specs.declared.reply.Reply.TheVariants as reply
use Rattle.alp_files.specs.declared.refusal.Refusal.TheVariants as refusal
use Rattle.alp_files.specs.declared.refusal.Why.{Why}
use Rattle.alp_files.specs.declared.refusal.Why.TheVariants as why
use Rattle.alp_files.proofs.HistoryLemmas.{get-edits_map}
use Rattle.alp_locks.specs.Releases.{released}
use Rattle.alp_trans.specs.Parts.{change_of}
use Rattle.alp_calls.proofs.PartLaws.{same_change}
use Rattle.alp_vault.specs.Contents.{Contents}
use Rattle.alp_vault.specs.declared.vault.Vault.{Ghosts}
use Rattle.alp_journal.specs.declared.act.Act.{Act}
use Rattle.alp_journal.specs.declared.act.Act.TheVariants as act
use Rattle.alp_journal.specs.declared.event.Event.{Event}
use Rattle.alp_journal.specs.declared.event.Event.TheVariants as event
use Rattle.alp_journal.specs.declared.entry.Entry.{Entry}
use Rattle.alp_journal.specs.Along.{Along, state_after}
use Rattle.alp_journal.specs.Ids.{same_trans, stamp_cmp}
use Rattle.alp_journal.specs.Deeds.{Deed, Finishes, Decides, Releases}
use Rattle.alp_journal.specs.Holder.{Holder, Life, commits}
use Rattle.alp_journal.specs.Laws.{IsLawfulDeed}
use Rattle.alp_journal.specs.Moves.{tried, act_deeds, finishes, ends_by, stops}
use Rattle.alp_journal.specs.State.{State, state_deed}
use Rattle.alp_journal.specs.Coordinator.{Fate, Running, joins_of}
use Rattle.alp_journal.specs.Coordinator as fate
use Rattle.alp_journal.specs.Desk.{Session, Waiting, waiting_of}
use Rattle.alp_journal.specs.Messages.{why_not_own, first_why, clock_end}
use Rattle.alp_journal.specs.Answered.{IsWalk, in_turn}
use Rattle.alp_journal.specs.Account.{Account, state_of, AreEarlier, IsQuiet, Leads, with_granted, granted_calls, holder_granted, grant_acts}
use Rattle.alp_journal.proofs.StampLemmas.{put-last, AreEarlier-push}
use Rattle.alp_journal.proofs.CallLemmas.{call_entry, call_tried}
use Rattle.alp_journal.proofs.CommitCalls.{with_commit, with_commit_given, commit_leads}
use Rattle.alp_journal.proofs.HaltedCalls.{with_halt, commit_halt_leads}
use Rattle.alp_turns.specs.Laws.{trans_in}
use Rattle.alp_turns.specs.Queues.{queue_of}
use Rattle.alp_coord.specs.declared.coordinator.Coordinator.{Coordinator}
use Rattle.alp_coord.specs.Coordinators.{IsAlong, Comes, count_of, fate_in}
use Rattle.alp_coord.specs.Likeness.{IsFateOf}
use Rattle.alp_worker.specs.Rooms.{applying_of, own_room}
use Rattle.alp_node.specs.Durable.{AreNotesOf, IsStoredBy, IsSaidBy, Leaves, Besides, IsWritten}
use Rattle.alp_node.specs.Eases.{new_blocks, eased}
use Rattle.alp_node.specs.Noted.{ready_room, size_in}
use Rattle.alp_node.specs.Releases.{granted_if, granted_one, granted_all, granted_behind, let_go}
use Rattle.alp_node.specs.Sessions.{session_at}
use Rattle.alp_node.specs.ServerState.{IsAs, IsReady, IsAlike, IsWaitingAs, PutNoneBeyond}
use Rattle.alp_node.specs.Steps.{Stepped, IsTurn, counted_in, told_answer, refused_answer, entry_of}
use Rattle.alp_node.specs.Totals.{LiveMap}
use Rattle.alp_node.specs.Transactions.{IsCoordinatorBy}
use Rattle.alp_node.specs.Votes.{own_why}
use Rattle.alp_node.specs.Waits.{has_waiting, locks_of}
use Rattle.alp_node.specs.Writes.{decision_changes}
use Rattle.alp_node.specs.declared.answer.Answer.{Answer}
use Rattle.alp_node.specs.declared.lives.Live.{Live}
use Rattle.alp_node.specs.declared.server_state.ServerState.{ServerState}
use Rattle.alp_node.specs.declared.sessions.Turn.{Turn}
use Rattle.alp_node.specs.declared.waits.WaitingCall.{WaitingCall}
use Rattle.alp_node.proofs.BesideLemmas.{idle_told}
use Rattle.alp_node.proofs.ClearLemmas.{running_told}
use Rattle.alp_node.proofs.ClockLaws.{time_fits}
use Rattle.alp_node.proofs.CommitNotes.{commit_notes, decided_now, grants_cells, notes_told, put_found, put_there}
use Rattle.alp_node.proofs.EaseLemmas.{eased_room}
use Rattle.alp_node.proofs.FinishLemmas.{turn_session}
use Rattle.alp_node.proofs.GiveOnLemmas.{IsAlikeApart}
use Rattle.alp_node.proofs.GoneLemmas.{HasLetGo, has_let_go, state_gone, gone_of, granted_rest, holder_rest, lives_then}
use Rattle.alp_node.proofs.HaltLemmas.{halted_as}
use Rattle.alp_node.proofs.KeptLemmas.{sessions_as, session_of, session_then, stands_timely, IsLive, live_there, earlier_more, stepped_so}
use Rattle.alp_node.proofs.MapLemmas.{places_set}
use Rattle.alp_node.proofs.NoteLaw.{IsUnkept, acts_free, is_write, stands_voted}
use Rattle.alp_node.proofs.ReleaseLemmas.{grants_go_on}
use Rattle.alp_node.proofs.SeatLemmas.{leaves_as}
use Rattle.alp_node.proofs.SpaceLemmas.{blocks_then, StandsBeside, stands_beside, needs_beside, room_beside, eased_alike}
use Rattle.alp_node.proofs.TransactionLemmas.{run_along, known_decided}
use Rattle.alp_node.proofs.UnderLemmas.{edits_sized}
use Rattle.alp_node.proofs.WaitLemmas.{named_all}

-- ---- who has no call that waits

-- of a live part of which no call waits the journal has none
pub waits_none : {V : Type 0} (a : Account) (held : Contents) (k : ServerState V) (client : ℕ) (t : TransId) (l : Live) (n : ℕ) (serves : Bool) → IsAs a held k → IsReady n serves k → map.get k.lives t ≡ Some l → l.client ≡ client → has_waiting client t k.waits ≡ false
    → waiting_of (state_of a).desk client t ≡ None
waits_none a held k client t l n serves h ready live own idle =
    idle_told a client t k.waits h.waits (named_all k.server k.epoch k.given (count_of k.coordinator) k.sizes k.lives k.waits ready.waits.calls) idle

-- ---- this server's own vote

-- the clock is not at its end
pub own_early : {V : Type 0} (k : ServerState V) (t : TransId) → own_why k t ≡ None → k.clock < 2 ^ 62
own_early k t may = go (nat_le clock_end k.clock) refl (own_room k.sizes.area (ready_room k.lives k.joins.lives) (size_in k.lives t)) may
  where
    go : (b : Bool) → nat_le clock_end k.clock ≡ b → (full : Option Why) → first_why false false b full ≡ None → k.clock < 2 ^ 62
    go true e full is = let wrong : Some why.ClockEnd ≡ None = is in cc
    go false e full is = leb-false clock_end k.clock e

-- and the log has room
pub own_log : {V : Type 0} (k : ServerState V) (t : TransId) → own_why k t ≡ None → 24 + (ready_room k.lives k.joins.lives).weights + applying_of (size_in k.lives t) ≤ k.sizes.area
own_log k t may =
    go (24 + (ready_room k.lives k.joins.lives).weights + 0) (24 + (ready_room k.lives k.joins.lives).weights + applying_of (size_in k.lives t)) (nat_le clock_end k.clock)
    (nat_lt k.sizes.area (24 + (ready_room k.lives k.joins.lives).weights + applying_of (size_in k.lives t))) refl may
  where
    go : (before after : ℕ) (b c : Bool) → nat_lt k.sizes.area after ≡ c → first_why false false b (cond {A = Option Why} c (Some (why.LogFull (k.sizes.area - before) (after - before))) None) ≡ None → after ≤ k.sizes.area
    go before after true c e is = let wrong : Some why.ClockEnd ≡ None = is in cc
    go before after false true e is = let wrong : Some (why.LogFull (k.sizes.area - before) (after - before)) ≡ None = is in cc
    go before after false false e is = ltb-false k.sizes.area after e

-- ---- a commit

module _ {V : Type 0} (a : Account) (held : Contents) (k : ServerState V) (turn : Turn) (t : TransId) (l : Live) where
  module _ (h : IsAs a held k) (is : IsTurn k.sessions turn) (up : k.is_down ≡ false) (live : map.get k.lives t ≡ Some l) (runs : fate_in k.coordinator t ≡ Running turn.client []) (here : t.server ≡ k.server) (idle : waiting_of (state_of a).desk turn.client t ≡ None)
      (early : k.clock < 2 ^ 62) (epoch : k.epoch < 2 ^ 32) (r : Reply) (none : ends_by t turn.client r ≡ []) where
    abbrev finish_entry : List Act → Entry
    finish_entry acts = call_entry a turn.client turn.number (session_of turn is) (call.Finish t true) r acts

    abbrev finish_event : Event
    finish_event = event.Call turn.client a.ids.epoch turn.number (call.Finish t true)

    abbrev write_stamp : Stamp
    write_stamp = record { ts = a.holder.clock + 1; trans = t }

    its : IsLive a.holder.cells k.locks.held (a.locked t) t l (a.holder.lives t)
    its = live_there a.holder.cells k.locks.held (a.locked t) t (map.get k.lives t) (a.holder.lives t) l live (h.lives t)

    told_runs : a.fates t ≡ Running turn.client []
    told_runs = running_told a.ids.epoch t (fate_in k.coordinator t) (a.fates t) turn.client [] (h.coordinator.fates t) runs

    -- what the entry tries
    write_tried : (acts : List Act) (ds : List Deed) → flat_map (act_deeds (state_of a) finish_event) acts ≡ Decides write_stamp [] ∷ ds → tried (state_of a) (finish_entry acts) ≡ Finishes t ∷ Decides write_stamp [] ∷ ds
    write_tried acts ds brings =
        call_tried a turn.client turn.number (session_of turn is) (call.Finish t true) r acts (turn_session a held k turn h is) is.number
        ∙ ap (λ (ws : List Deed). finishes (state_of a).desk turn.client t true r (a.fates t) ++ ws ++ []) brings
        ∙ ap (λ (f : Fate). finishes (state_of a).desk turn.client t true r f ++ (Decides write_stamp [] ∷ ds) ++ []) told_runs
        ∙ ap (λ (b : Bool). cond {A = List Deed} (b && is_none (waiting_of (state_of a).desk turn.client t)) (Finishes t ∷ ends_by t turn.client r) [] ++ (Decides write_stamp [] ∷ ds) ++ []) (eq-eqb turn.client turn.client refl)
        ∙ ap (λ (x : Option Waiting). cond {A = List Deed} (is_none x) (Finishes t ∷ ends_by t turn.client r) [] ++ (Decides write_stamp [] ∷ ds) ++ []) idle
        ∙ ap (λ (ws : List Deed). (Finishes t ∷ ws) ++ (Decides write_stamp [] ∷ ds) ++ []) none
        ∙ ap (λ (ws : List Deed). Finishes t ∷ Decides write_stamp [] ∷ ws) (append-nil ds)

    write_clock : max a.holder.clock (a.holder.clock + 1) ≡ k.clock + 1
    write_clock = omega (arith, h.clock)

    fits : clock_form.Fits (record { epoch = a.ids.epoch; clock = max a.holder.clock (a.holder.clock + 1) })
    fits = time_fits (record { epoch = a.ids.epoch; clock = max a.holder.clock (a.holder.clock + 1) }) (omega (arith, h.epoch, epoch)) (omega (arith, h.clock, early))

    -- the notes that are written are those with the clock of the journal
    notes_are : (c : Contents) → c.notes ≡ notes_after (decision_changes k.epoch (record { ts = k.clock + 1; trans = t }) []) held.notes
        → c.notes ≡ noted clock_name (Some (clock_form.spell (record { epoch = a.ids.epoch; clock = max a.holder.clock (a.holder.clock + 1) }))) held.notes
    notes_are c so = so ∙ (λ i. noted clock_name (Some (clock_form.spell (record { epoch = sym h.epoch i; clock = sym write_clock i }))) held.notes)

    module _ (m : Account) (acts : List Act) (ds : List Deed) (brings : flat_map (act_deeds (state_of a) finish_event) acts ≡ Decides write_stamp [] ∷ ds) (free : AllByRecursion IsUnkept ds) (leads : Leads false a (finish_entry acts) m) where
      law : Along state_deed (IsLawfulDeed finish_event) (state_of a) (Finishes t ∷ Decides write_stamp [] ∷ ds)
      law = subst (Along state_deed (IsLawfulDeed finish_event) (state_of a)) (write_tried acts ds brings) leads.lawful.deeds

      written_notes : AreNotesOf (state_after state_deed (state_of a) (Finishes t ∷ Decides write_stamp [] ∷ ds)) a.ids.epoch (noted clock_name (Some (clock_form.spell (record { epoch = a.ids.epoch; clock = max a.holder.clock (a.holder.clock + 1) }))) held.notes)
      written_notes =
          commit_notes finish_event (state_of a) t (a.holder.clock + 1) its.life ds (stands_voted a h.quiet) (eq-eqb t.server a.holder.server (here ∙ sym h.server)) its.is free law a.ids.epoch held.notes fits h.quiet.settled.stands.order (h.notes up)

      -- so the notes are those of the journal
      pub write_notes : stops (finish_entry acts) ≡ false → (c : Contents) → c.notes ≡ notes_after (decision_changes k.epoch (record { ts = k.clock + 1; trans = t }) []) held.notes → AreNotesOf (state_of m) a.ids.epoch c.notes
      write_notes on c so =
          subst (AreNotesOf (state_of m) a.ids.epoch) (sym (notes_are c so))
          (notes_told (state_of a) (state_of m) (finish_entry acts) a.ids.epoch (noted clock_name (Some (clock_form.spell (record { epoch = a.ids.epoch; clock = max a.holder.clock (a.holder.clock + 1) }))) held.notes) on leads.leaves
          (subst (λ (ws : List Deed). AreNotesOf (state_after state_deed (state_of a) ws) a.ids.epoch (noted clock_name (Some (clock_form.spell (record { epoch = a.ids.epoch; clock = max a.holder.clock (a.holder.clock + 1) }))) held.notes))
          (sym (write_tried acts ds brings)) written_notes))

      -- the one write of a commit is what the journal says of it
      pub write_said : ((n : State) → (state_after state_deed n ds).holder.cells ≡ n.holder.cells) → (c : Contents) → IsWritten l.part.intents (decision_changes k.epoch (record { ts = k.clock + 1; trans = t }) []) held c → IsSaidBy (state_of a) (finish_entry acts) c
      write_said still c w =
          let es : List Edit = its.life.edits in
          let second : State = state_deed (state_deed (state_of a) (Finishes t)) (Decides write_stamp []) in
          let cells : c.cells ≡ edits_map es a.holder.cells = w.cells ∙ same_change held.cells l.part es its.alike.intents ∙ ap (edits_map es) (h.cells up) in
          let made : c.cells ≡ second.holder.cells = cells ∙ ap (λ (x : Option Life). (commits a.holder write_stamp x).cells) (sym its.is) in
          subst (λ (ws : List Deed). IsStoredBy a.ids.epoch (state_after state_deed (state_of a) ws) c) (sym (write_tried acts ds brings)) (record {
            cells = made ∙ sym (still second);
            notes = subst (AreNotesOf (state_after state_deed (state_of a) (Finishes t ∷ Decides write_stamp [] ∷ ds)) a.ids.epoch) (sym (notes_are c w.notes)) written_notes;
          })

      -- so a crash leaves no more of it
      pub write_leaves : (G : Ghosts V) (v : V) (x : Answer) → G.held k.vault ≡ held → x ≡ told_answer (Some r) acts → ((n : State) → (state_after state_deed n ds).holder.cells ≡ n.holder.cells)
          → Leaves G k.vault v (Besides G k.vault (IsWritten l.part.intents (decision_changes k.epoch (record { ts = k.clock + 1; trans = t }) []) (G.held k.vault)))
          → Leaves G k.vault v (Besides G k.vault (IsSaidBy (state_of a) (entry_of (event.Call turn.client k.epoch turn.number (call.Finish t true)) x)))
      write_leaves G v x same so still leaves =
          leaves_as G k.vault v (IsWritten l.part.intents (decision_changes k.epoch (record { ts = k.clock + 1; trans = t }) []) (G.held k.vault))
          (IsSaidBy (state_of a) (entry_of (event.Call turn.client k.epoch turn.number (call.Finish t true)) x))
          (λ c w. subst (λ (e : Entry). IsSaidBy (state_of a) e c)
          (ap (λ (n : ℕ). record { event = event.Call turn.client n turn.number (call.Finish t true); reply = Some r; acts = acts }) h.epoch
          ∙ ap (λ (z : Answer). entry_of (event.Call turn.client k.epoch turn.number (call.Finish t true)) z) (sym so))
          (write_said still c (subst (λ (b : Contents). IsWritten l.part.intents (decision_changes k.epoch (record { ts = k.clock + 1; trans = t }) []) b c) same w)))
          leaves

-- locks go alike, whatever the vault is
granted_vault : {V : Type 0} (k : ServerState V) (v : V) (ts : List TransId) → granted_all (record k { vault = v }) ts ≡ record (granted_all k ts) { vault = v }
granted_vault k v [] = refl
granted_vault k v (t ∷ ts) = ap (λ (y : ServerState _). granted_all y ts) (one (locks_of t k.waits)) ∙ granted_vault (granted_one k t) v ts
  where
    one : (x : Option ℕ) → granted_if (record k { vault = v }) t x ≡ record (granted_if k t x) { vault = v }
    one None = refl
    one (Some n) = refl

pub let_go_vault : {V : Type 0} (k : ServerState V) (v : V) (t : TransId) → let_go (record k { vault = v }) t ≡ record (let_go k t) { vault = v }
let_go_vault k v t = granted_vault (record k { lives = map.remove k.lives t; locks = record (released k.locks t) { woken = [] } }) v (released k.locks t).woken

module _ {V : Type 0} (a : Account) (before now : ℕ) (held then : Contents) (k : ServerState V) (turn : Turn) (t : TransId) (l : Live) (v : V) (mid z : Coordinator) where
  abbrev pub stamp_at : Stamp
  stamp_at = record { ts = k.clock + 1; trans = t }

  -- others have its locks, and the other parts need no place for these blocks any more
  abbrev pub committed_kept : List Key → ServerState V
  committed_kept blocks = record (let_go k t) {
    lives = eased blocks (let_go k t).lives (map.keys k.lives);
    sessions = counted_in k.sessions turn (reply.Committed stamp_at);
    clock = k.clock + 1;
    coordinator = z;
    vault = v;
  }

  abbrev pub commit_acts : List Act
  commit_acts = act.Decided stamp_at [] ∷ act.Released t ∷ grant_acts (granted_behind k t)

  module _ (m : ℕ) (on : Bool) (h : IsAs a held k) (ready : IsReady m on k) (is : IsTurn k.sessions turn) (up : k.is_down ≡ false) (early : k.clock < 2 ^ 62) (here : t.server ≡ k.server) (live : map.get k.lives t ≡ Some l) (runs : fate_in k.coordinator t ≡ Running turn.client [])
      (idle : waiting_of (state_of a).desk turn.client t ≡ None) (may : why_not_own false (state_of a) t ≡ None)
      (first : IsAlong k.coordinator mid) (finished : Comes (Finishes t) k.coordinator mid) (second : IsAlong mid z) (decided : Comes (Decides stamp_at (joins_of (fate_in mid t))) mid z) where
    abbrev w : Session
    w = session_of turn is

    abbrev y : IsLive a.holder.cells k.locks.held (a.locked t) t l (a.holder.lives t)
    y = live_there a.holder.cells k.locks.held (a.locked t) t (map.get k.lives t) (a.holder.lives t) l live (h.lives t)

    abbrev es : List Edit
    es = y.life.edits

    abbrev stamp : Stamp
    stamp = record { ts = a.holder.clock + 1; trans = t }

    abbrev cells_now : Cells
    cells_now = edits_map es a.holder.cells

    abbrev clock_now : ℕ
    clock_now = max a.holder.clock (a.holder.clock + 1)

    abbrev applied_now : List (Stamp × Decided)
    applied_now = put stamp_cmp stamp (record { stamp = stamp; who = y.life.who; calls = y.life.calls }) a.holder.applied

    abbrev left_now : List (Stamp × List Edit)
    left_now = put stamp_cmp stamp es a.holder.left

    abbrev Commit : Type 0
    Commit = HasLetGo a held k t cells_now clock_now clock_now applied_now left_now (StandsBeside a held k h t l live y.life y.is y.alike) cells_now

    commit_gone : Commit
    commit_gone = has_let_go a held k t cells_now clock_now clock_now applied_now left_now (StandsBeside a held k h t l live y.life y.is y.alike) cells_now m on h ready
        (λ u z c lives unvoted away. needs_beside a held k h t l live y.life y.is y.alike u z c lives unvoted away)
        (stands_beside a held k h t l live y.life y.is y.alike) (room_beside a held k h t l live y.life y.is y.alike)

    module _ (g : Commit) where
      abbrev state_commit : Account
      state_commit = with_granted (state_gone a held k t cells_now clock_now clock_now applied_now left_now) g.given

      abbrev server_commit : ServerState V
      server_commit = granted_all (gone_of k t) (trans_in g.given)

      let_go_commit : let_go k t ≡ record k { lives = server_commit.lives; waits = server_commit.waits; locks = record (released k.locks t) { woken = [] } }
      let_go_commit = ap (granted_all (gone_of k t)) g.woken ∙ granted_rest (trans_in g.given) (gone_of k t)

      abbrev first_holder : Holder
      first_holder = (state_gone a held k t cells_now clock_now clock_now applied_now left_now).holder

      rest : holder_granted first_holder g.given ≡ record first_holder { lives = (holder_granted first_holder g.given).lives }
      rest = holder_rest g.given first_holder

      abbrev commit_state : Account
      commit_state = with_commit_given a turn.client turn.number w t y.life (granted_behind k t)

      state_is : with_granted (with_commit a turn.client turn.number w t y.life) g.given ≡ with_commit_given a turn.client turn.number w t y.life (granted_behind k t)
      state_is = ap (with_granted (with_commit a turn.client turn.number w t y.life)) (sym (ap (granted_calls a.waits) g.woken ∙ g.calls))

      each_then : (u : TransId) → IsAlike cells_now (released k.locks t).held (state_commit.locked u) u (map.get (eased (blocks_then a held k h t l live y.life y.is y.alike) server_commit.lives (map.keys k.lives)) u) (state_commit.holder.lives u)
      each_then u =
          eased_alike a held k h t l live y.life y.is y.alike (released k.locks t).held (state_commit.locked u) u server_commit.lives (map.get server_commit.lives u) (state_commit.holder.lives u) refl (λ x z at lives. g.all.parts u x z at lives)
          (lives_then a held k t cells_now clock_now clock_now applied_now left_now (StandsBeside a held k h t l live y.life y.is y.alike) cells_now m on h ready
          (λ u z c lives unvoted away. needs_beside a held k h t l live y.life y.is y.alike u z c lives unvoted away)
          (stands_beside a held k h t l live y.life y.is y.alike) (room_beside a held k h t l live y.life y.is y.alike) g u)

      unborn_then : (u : TransId) (z : Life) (o : Option Live) → map.get server_commit.lives u ≡ o → state_commit.holder.lives u ≡ Some z → IsAlikeApart a.holder.cells (state_commit.locked u) o (state_commit.holder.lives u)
          → PutNoneBeyond a.holder.server a.ids.epoch k.given z.edits
      unborn_then u z (Some x) at lives alike = (g.all.parts u x z at lives).0
      unborn_then u z None at lives alike = absurd (subst (IsAlikeApart a.holder.cells (state_commit.locked u) None) lives alike)

      abbrev kept_with : LiveMap → List WaitingCall → List Key → ServerState V
      kept_with lives calls blocks = record k {
        lives = eased blocks lives (map.keys k.lives);
        waits = calls;
        locks = record (released k.locks t) { woken = [] };
        sessions = counted_in k.sessions turn (reply.Committed stamp_at);
        clock = k.clock + 1;
        coordinator = z;
        vault = v;
      }

      same_stamp : stamp_at ≡ stamp
      same_stamp = λ i. record { ts = sym h.clock i + 1; trans = t }

      before_now : AreEarlier a.holder.clock a.holder.applied
      before_now = earlier_more a.holder.kept a.holder.clock a.holder.applied h.quiet.settled.stands.order h.earlier

      last : applied_now ≡ a.holder.applied ++ (stamp, record { stamp = stamp; who = y.life.who; calls = y.life.calls }) ∷ []
      last = put-last a.holder.applied stamp (record { stamp = stamp; who = y.life.who; calls = y.life.calls }) a.holder.clock before_now (omega arith)

      clock_is : clock_now ≡ k.clock + 1
      clock_is = omega (arith, h.clock)

      told : a.fates t ≡ Running turn.client []
      told = running_told a.ids.epoch t (fate_in k.coordinator t) (a.fates t) turn.client [] (h.coordinator.fates t) runs

      -- it keeps the decision
      coordinated : IsCoordinatorBy a.holder.server a.ids.epoch a.ids.transactions (λ (u : TransId). cond {A = Fate} (same_trans t u) (fate.decided stamp [] (fate.finishing (a.fates u))) (a.fates u)) z
      coordinated = record {
        run = run_along a.holder.server a.ids.epoch a.ids.transactions mid z (run_along a.holder.server a.ids.epoch a.ids.transactions k.coordinator mid h.coordinator.run first) second;
        fates = subst (λ (n : ℕ). (u : TransId) → IsFateOf a.ids.epoch u (fate_in z u) (cond {A = Fate} (same_trans t u) (fate.decided (record { ts = n + 1; trans = t }) [] (fate.finishing (a.fates u))) (a.fates u))) (sym h.clock)
            (known_decided a.ids.epoch t turn.client (k.clock + 1) k.coordinator mid z a.fates told h.coordinator.fates finished decided);
      }

      commit_as : then.cells ≡ cells_now → AreNotesOf (state_of (with_commit_given a turn.client turn.number w t y.life (granted_behind k t))) a.ids.epoch then.notes
          → IsQuiet (with_commit_given a turn.client turn.number w t y.life (granted_behind k t))
          → IsAs (with_commit_given a turn.client turn.number w t y.life (granted_behind k t)) then (kept_with server_commit.lives server_commit.waits (blocks_then a held k h t l live y.life y.is y.alike))
      commit_as same notes quiet =
          let all : Account = with_granted (with_commit a turn.client turn.number w t y.life) g.given in
          subst (λ (x : Account). IsAs x then (kept_with server_commit.lives server_commit.waits (blocks_then a held k h t l live y.life y.is y.alike))) state_is
          (subst (λ (x : Holder). IsAs (record all { holder = x }) then (kept_with server_commit.lives server_commit.waits (blocks_then a held k h t l live y.life y.is y.alike))) (sym rest) (record {
            server = h.server;
            servers = h.servers;
            sizes = h.sizes;
            epoch = h.epoch;
            clock = clock_is;
            cells = λ _. same;
            sized = edits_sized a.holder.cells es h.sized y.alike.sized;
            notes = λ _. subst (λ (x : Holder). AreNotesOf (state_of (record all { holder = x })) a.ids.epoch then.notes) rest (subst (λ (x : Account). AreNotesOf (state_of x) a.ids.epoch then.notes) (sym state_is) notes);
            places = places_set k.sessions turn.client (session_then turn (reply.Committed stamp_at)) h.places;
            sessions = subst (λ (z : Stamp). (c : ℕ) → cond {A = Option Session} (c == turn.client) (Some (session_then turn (reply.Committed z))) (a.sessions c) ≡ session_at (counted_in k.sessions turn (reply.Committed stamp_at)) c) same_stamp
                (sessions_as a.sessions k.sessions turn.client (session_then turn (reply.Committed stamp_at)) h.sessions h.places is.client);
            dead = h.dead;
            waits = g.all.waits;
            queue = subst (λ (x : Holder). (released k.locks t).waiting ≡ queue_of x (released k.locks t).held state_commit.waits) rest g.queue;
            asked = subst (λ (x : Holder). AllByRecursion (IsWaitingAs x state_commit.locked) server_commit.waits) rest g.all.asked;
            lives = each_then;
            room = eased_room (blocks_then a held k h t l live y.life y.is y.alike) k.sizes cells_now server_commit.lives (map.keys k.lives) g.all.fits;
            unborn = λ u z lives. unborn_then u z (map.get server_commit.lives u) refl lives (g.all.lives u);
            coordinator = coordinated;
            decided = λ u s js here at. decided_now stamp s js (same_trans t u) (a.fates u) at (is_some (entries.find stamp_cmp s applied_now) ≡ true)
                (λ was. put_there s stamp (record { stamp = stamp; who = y.life.who; calls = y.life.calls }) a.holder.applied (h.decided u s js here was))
                (λ same_one. subst (λ (x : Stamp). is_some (entries.find stamp_cmp x applied_now) ≡ true) same_one (put_found stamp (record { stamp = stamp; who = y.life.who; calls = y.life.calls }) a.holder.applied));
            joins = h.joins;
            files = h.files;
            made = h.made;
            born = λ f comes. ap (λ (view : View). view (Leader f)) (get-edits_map es a.holder.cells) ∙ ap (edits_at es (Leader f)) (h.born f comes) ∙ h.unborn t y.life y.is f comes;
            earlier = subst (AreEarlier clock_now) (sym last)
                (subst (λ (n : ℕ). AreEarlier n (a.holder.applied ++ (stamp, record { stamp = stamp; who = y.life.who; calls = y.life.calls }) ∷ [])) (omega arith)
                (AreEarlier-push a.holder.applied stamp (record { stamp = stamp; who = y.life.who; calls = y.life.calls }) a.holder.clock before_now (omega arith)));
            quiet = subst (λ (x : Holder). IsQuiet (record all { holder = x })) rest (subst IsQuiet (sym state_is) quiet);
            down = sym up;
          }))

    -- ---- its step

    module _ (x : Answer) (so : x ≡ told_answer (Some (reply.Committed stamp_at)) commit_acts) where
      abbrev told_acts : List Act
      told_acts = act.Decided stamp [] ∷ act.Released t ∷ grant_acts (granted_behind k t)

      abbrev next_state : Account
      next_state = with_commit_given a turn.client turn.number w t y.life (granted_behind k t)

      abbrev finish_at : Event
      finish_at = event.Call turn.client a.ids.epoch turn.number (call.Finish t true)

      abbrev other_deeds : List Deed
      other_deeds = flat_map (act_deeds (state_of a) finish_at) (act.Released t ∷ grant_acts (granted_behind k t))

      says : x ≡ told_answer (Some (reply.Committed stamp)) told_acts
      says = so ∙ (λ i. told_answer (Some (reply.Committed (record { ts = sym h.clock i + 1; trans = t }))) (act.Decided (record { ts = sym h.clock i + 1; trans = t }) [] ∷ act.Released t ∷ grant_acts (granted_behind k t)))

      leads : Commit → Leads false a (call_entry a turn.client turn.number w (call.Finish t true) (reply.Committed stamp) told_acts) next_state
      leads g =
          subst (λ (acts : List Act). Leads false a (call_entry a turn.client turn.number w (call.Finish t true) (reply.Committed stamp) acts) next_state) (append-nil told_acts)
          (commit_leads a turn.client turn.number w t y.life h.quiet (h.down ∙ up) (turn_session a held k turn h is) is.number y.is
          (running_told a.ids.epoch t (fate_in k.coordinator t) (a.fates t) turn.client [] (h.coordinator.fates t) runs) idle may (granted_behind k t)
          (subst (λ (ts : List TransId). IsWalk (with_commit a turn.client turn.number w t y.life).holder (in_turn (with_commit a turn.client turn.number w t y.life).holder a.waits) ts) (sym g.woken) g.walk))

      free_deeds : AllByRecursion IsUnkept other_deeds
      free_deeds = (tt, acts_free (state_of a) finish_at (grant_acts (granted_behind k t)) (none_write (granted_behind k t)))
        where
          none_write : (ts : List TransId) → list_any is_write (grant_acts ts) ≡ false
          none_write [] = refl
          none_write (u ∷ us) = none_write us

      -- a crash leaves no more of it
      pub commit_leaves : (G : Ghosts V) → G.held k.vault ≡ held → Leaves G k.vault v (Besides G k.vault (IsWritten l.part.intents (decision_changes k.epoch stamp_at []) (G.held k.vault)))
          → Leaves G k.vault v (Besides G k.vault (IsSaidBy (state_of a) (entry_of (event.Call turn.client k.epoch turn.number (call.Finish t true)) x)))
      commit_leaves G same leaves =
          write_leaves a held k turn t l h is up live runs here idle early ready.last (reply.Committed stamp) refl next_state told_acts other_deeds refl free_deeds (leads commit_gone) G v x same says
          (λ n. grants_cells (state_of a) finish_at (granted_behind k t) (state_deed n (Releases t))) leaves

      pub commit_stepped : (blocks : List Key) → blocks ≡ new_blocks held.cells l.part.intents.puts → then.cells ≡ edits_map (edits_of (change_of l.part.intents)) held.cells
          → then.notes ≡ notes_after (decision_changes k.epoch stamp_at []) held.notes
          → Stepped a before now then (committed_kept blocks) (event.Call turn.client k.epoch turn.number (call.Finish t true)) x
      commit_stepped blocks opened cells notes = go commit_gone
        where
          go : Commit → Stepped a before now then (committed_kept blocks) (event.Call turn.client k.epoch turn.number (call.Finish t true)) x
          go g =
              let same : then.cells ≡ cells_now = cells ∙ same_change held.cells l.part es y.alike.intents ∙ ap (edits_map es) (h.cells up) in
              let same_blocks : blocks ≡ blocks_then a held k h t l live y.life y.is y.alike = opened ∙ ap (λ (i : Intents). new_blocks held.cells i.puts) y.alike.intents ∙ ap (λ (m : Cells). new_blocks m (intents_of es).puts) (h.cells up) in
              let kept_is : committed_kept blocks ≡ kept_with g (server_commit g).lives (server_commit g).waits (blocks_then a held k h t l live y.life y.is y.alike) =
              ap committed_kept same_blocks
              ∙ ap (λ (q : ServerState V). record q {
                lives = eased (blocks_then a held k h t l live y.life y.is y.alike) q.lives (map.keys k.lives);
                sessions = counted_in k.sessions turn (reply.Committed stamp_at);
                clock = k.clock + 1;
                coordinator = z;
                vault = v;
              }) (let_go_commit g) in
              let kept_notes : AreNotesOf (state_of next_state) a.ids.epoch then.notes =
              write_notes a held k turn t l h is up live runs here idle early ready.last (reply.Committed stamp) refl next_state told_acts other_deeds refl free_deeds (leads g) (grants_go_on (granted_behind k t)) then notes in
              subst (λ (z : ServerState V). Stepped a before now then z (event.Call turn.client k.epoch turn.number (call.Finish t true)) x) (sym kept_is)
              (stepped_so a before now held then k (kept_with g (server_commit g).lives (server_commit g).waits (blocks_then a held k h t l live y.life y.is y.alike)) turn.client turn.number w (call.Finish t true) false (reply.Committed stamp) told_acts
              next_state x says h (leads g) (commit_as g same kept_notes (leads g).quiet) (λ e. cc) (omega (arith, h.clock)))

-- the vault was stopped or failed in it
module _ {V : Type 0} (a : Account) (before now : ℕ) (held then : Contents) (k : ServerState V) (turn : Turn) (t : TransId) (v : V) (z : Act) where
  abbrev pub IsStopAct : Type 0
  IsStopAct = (z ≡ act.Stopped) ⊎ (z ≡ act.Failed)

  module _ (l : Live) (m : ℕ) (on : Bool) (stop : IsStopAct) (h : IsAs a held k) (ready : IsReady m on k) (is : IsTurn k.sessions turn) (up : k.is_down ≡ false) (early : k.clock < 2 ^ 62) (here : t.server ≡ k.server) (live : map.get k.lives t ≡ Some l)
      (runs : fate_in k.coordinator t ≡ Running turn.client []) (idle : waiting_of (state_of a).desk turn.client t ≡ None) (may : why_not_own false (state_of a) t ≡ None)
      (x : Answer) (so : x ≡ refused_answer refusal.Down (act.Decided (record { ts = k.clock + 1; trans = t }) [] ∷ z ∷ [])) where
    abbrev halt_session : Session
    halt_session = session_of turn is

    abbrev halt_acts : List Act
    halt_acts = act.Decided (record { ts = a.holder.clock + 1; trans = t }) [] ∷ z ∷ []

    abbrev halt_entry : Entry
    halt_entry = call_entry a turn.client turn.number halt_session (call.Finish t true) (reply.Refused refusal.Down) halt_acts

    life_there : IsLive a.holder.cells k.locks.held (a.locked t) t l (a.holder.lives t)
    life_there = live_there a.holder.cells k.locks.held (a.locked t) t (map.get k.lives t) (a.holder.lives t) l live (h.lives t)

    halt_says : x ≡ refused_answer refusal.Down halt_acts
    halt_says = so ∙ ap (λ (n : ℕ). refused_answer refusal.Down (act.Decided (record { ts = n + 1; trans = t }) [] ∷ z ∷ [])) (sym h.clock)

    halt_leads : Leads false a halt_entry (with_halt a turn.client turn.number halt_session halt_entry)
    halt_leads =
        commit_halt_leads a turn.client turn.number halt_session t life_there.life z stop h.quiet (h.down ∙ up) (turn_session a held k turn h is) is.number life_there.is
        (running_told a.ids.epoch t (fate_in k.coordinator t) (a.fates t) turn.client [] (h.coordinator.fates t) runs) idle may

    pub commit_halt_stepped : Stepped a before now then (record k { is_down = true; vault = v }) (event.Call turn.client k.epoch turn.number (call.Finish t true)) x
    commit_halt_stepped =
        stepped_so a before now held then k (record k { is_down = true; vault = v }) turn.client turn.number halt_session (call.Finish t true) false (reply.Refused refusal.Down) halt_acts (with_halt a turn.client turn.number halt_session halt_entry) x halt_says h
        halt_leads (halted_as a (with_halt a turn.client turn.number halt_session halt_entry) held then k v (tried (state_of a) halt_entry) refl halt_leads.quiet h) (λ w. cc) (stands_timely a.holder.clock 0 k.clock h.clock)

    -- a crash leaves no more of it
    pub halt_leaves : (G : Ghosts V) → G.held k.vault ≡ held → Leaves G k.vault v (Besides G k.vault (IsWritten l.part.intents (decision_changes k.epoch (record { ts = k.clock + 1; trans = t }) []) (G.held k.vault)))
        → Leaves G k.vault v (Besides G k.vault (IsSaidBy (state_of a) (entry_of (event.Call turn.client k.epoch turn.number (call.Finish t true)) x)))
    halt_leaves G same leaves =
        write_leaves a held k turn t l h is up live runs here idle early ready.last (reply.Refused refusal.Down) refl (with_halt a turn.client turn.number halt_session halt_entry) halt_acts [] (brings z stop) tt halt_leads G v x same halt_says (λ n. refl) leaves
      where
        brings : (z : Act) → (z ≡ act.Stopped) ⊎ (z ≡ act.Failed)
            → flat_map (act_deeds (state_of a) (event.Call turn.client a.ids.epoch turn.number (call.Finish t true))) (act.Decided (record { ts = a.holder.clock + 1; trans = t }) [] ∷ z ∷ []) ≡ Decides (record { ts = a.holder.clock + 1; trans = t }) [] ∷ []
        brings z s = elim s [
          | inl e ↦ ap (λ (b : Act). Decides (record { ts = a.holder.clock + 1; trans = t }) [] ∷ (act_deeds (state_of a) (event.Call turn.client a.ids.epoch turn.number (call.Finish t true)) b ++ [])) e
          | inr e ↦ ap (λ (b : Act). Decides (record { ts = a.holder.clock + 1; trans = t }) [] ∷ (act_deeds (state_of a) (event.Call turn.client a.ids.epoch turn.number (call.Finish t true)) b ++ [])) e
        ]
