-- an active part votes for the commit, once its note stands
use Rattle.std.specs.Prelude.{cond, Bool, true, false, ◌==◌, ◌&&◌, ◌||◌, not, max, nat_le, nat_lt, ◌-◌, sum_by, IsTrue, Option, None, Some, is_some, Result, Ok, map as list_map}
use Rattle.std.specs.List.{list_any, AllByRecursion}
use Rattle.std.specs.Option.{option_map}
use Rattle.std.specs.FinMap as map
use Rattle.std.specs.FinMap.{find, get-entries}
use Rattle.std.proofs.lemmas.Bool.{and_parts, le-leb, leb-false, ltb-false, ltb-true}
use Rattle.std.proofs.Common.{◌≡◌, ℕ, suc, ◌+◌, ◌*◌, ◌^◌, ◌<◌, ◌≤◌, List, [], ◌∷◌, ◌++◌, append-nil, length, refl, sym, ◌∙◌, ap, subst, arith, le_refl}
use Rattle.alp_base.specs.Notes.{Notes, noted, notes_after}
use Rattle.alp_base.specs.Orders.{resource_cmp}
use Rattle.alp_base.specs.declared.allowance.Allowance.{Allowance}
use Rattle.alp_base.specs.declared.bytes.NoteChange.{NoteChange}
use Rattle.alp_base.specs.declared.ids.JoinNo.{JoinNo}
use Rattle.alp_base.specs.declared.ids.TransId.{TransId}
use Rattle.alp_base.specs.declared.key.Resource.{Resource}
use Rattle.alp_fields.specs.ReadyNote.{ready_name, ready_form, ready_noted}
use Rattle.alp_fields.specs.declared.ready_note.ReadyPart.{ReadyPart}
use Rattle.alp_fields.proofs.ReadyNoteLaw.{ready_name_length}
use Rattle.alp_calls.proofs.PartLaws.{same_change}
use Rattle.alp_files.specs.Changes.{edits_of}
use Rattle.alp_base.specs.declared.key.Key.TheVariants.{Leader}
use Rattle.alp_files.specs.Edits.{edits_at, edits_map}
use Rattle.alp_files.specs.Holdings.{held_by}
use Rattle.alp_files.specs.Needs.{Intents, intents_of, no_intents, changed_by}
use Rattle.alp_files.specs.declared.refusal.Why.{Why}
use Rattle.alp_files.specs.declared.refusal.Why.TheVariants as why
use Rattle.alp_modes.specs.declared.Mode.{Mode}
use Rattle.alp_journal.specs.declared.act.Act.{Act}
use Rattle.alp_journal.specs.declared.act.Act.TheVariants as act
use Rattle.alp_journal.specs.declared.entry.Entry.{Entry}
use Rattle.alp_journal.specs.declared.event.Event.{Event}
use Rattle.alp_journal.specs.declared.event.Event.TheVariants as event
use Rattle.alp_journal.specs.declared.message.Message.TheVariants as msg
use Rattle.alp_journal.specs.Account.{Account, state_of, IsQuiet, Leads, IsPhaseOf}
use Rattle.alp_journal.specs.Along.{state_after}
use Rattle.alp_journal.specs.Counts.{weight, ready_sum}
use Rattle.alp_journal.specs.Deeds.{Deed, Readies}
use Rattle.alp_journal.specs.Desk.{Waiting, is_of, file_trans}
use Rattle.alp_journal.specs.Holder.{Holder, Life, readies, with_life}
use Rattle.alp_journal.specs.Ids.{same_trans, same_join}
use Rattle.alp_journal.specs.Messages.{clock_end, first_why, no_room, trans_ready, why_not}
use Rattle.alp_journal.specs.Moves.{if_its, quits_for, is_stop, tried}
use Rattle.alp_journal.specs.Participant.{Phase, Active, Ready, open_in, readied}
use Rattle.alp_journal.specs.State.{State, state_deed}
use Rattle.alp_journal.proofs.HaltSteps.{stop_of, stop_entry, with_stop, ask_stop_leads}
use Rattle.alp_journal.proofs.IdLemmas.{same_trans-itself, same_trans-true, same_join-true}
use Rattle.alp_journal.proofs.StandLemmas.{own_server}
use Rattle.alp_journal.proofs.PartLemmas.{IsAtWork, active_at_work}
use Rattle.alp_journal.proofs.VoteSteps.{ask_votes_leads, with_ready}
use Rattle.alp_coord.specs.Coordinators.{count_of, counted_of, fate_in}
use Rattle.alp_coord.specs.declared.coordinator.Coordinator.{Coordinator}
use Rattle.alp_locks.specs.Tables.{held_of, holding}
use Rattle.alp_ready.proofs.NoteSizes.{ready_most}
use Rattle.alp_ready.specs.NoteLooks.{ready_at}
use Rattle.alp_trans.specs.Parts.{change_of}
use Rattle.alp_trans.specs.declared.part.Part.{Part}
use Rattle.alp_vault.specs.Contents.{Contents}
use Rattle.alp_vault.specs.Volumes.{AreNoteChanges, changed_cells, is_another, noted_bytes}
use Rattle.alp_vault.specs.declared.vault.Vault.{Ghosts}
use Rattle.alp_worker.specs.declared.joins.Joins.{Joins}
use Rattle.alp_worker.specs.declared.live.LiveJoin.{LiveJoin}
use Rattle.alp_worker.specs.declared.live.Stage.{Stage}
use Rattle.alp_worker.specs.declared.live.Stage.TheVariants as stage
use Rattle.alp_worker.specs.declared.live.Step.TheVariants as step
use Rattle.alp_worker.specs.declared.room.PartSize.{PartSize}
use Rattle.alp_worker.specs.declared.room.ReadySum.{ReadySum}
use Rattle.alp_worker.specs.Again.{is_other}
use Rattle.alp_worker.specs.Joins.{AreJoins, AreJoinsOf, with_readied}
use Rattle.alp_worker.specs.Lives.{AreOnce, is_at, is_open, join_at, phase_in, phase_of, stage_after, staged, staged_one}
use Rattle.alp_worker.specs.Rooms.{applying_of, room_for, sum_of, sum_with}
use Rattle.alp_worker.specs.Walks.{ready_in}
use Rattle.alp_worker.proofs.LiveLemmas.{same_join-itself, once_staged, single_staged, staged_at}
use Rattle.alp_node.specs.Durable.{AreNotesOf, IsKeptOf, IsSaidBy, IsStoredBy, IsWritten}
use Rattle.alp_node.specs.Halts.{HaveCauses}
use Rattle.alp_node.specs.Noted.{AreNoted, AreNotesFor, HasReadyRoom, HasSize, IsNotedJoin, ready_room, size_in, size_of}
use Rattle.alp_node.specs.Noting.{HasRoomFor, IsVoteNote}
use Rattle.alp_node.specs.Paired.{is_in, ActsFor, ArePaired, HasPart, IsItsJoin, IsPairedWith, IsPartOf}
use Rattle.alp_node.specs.Says.{is_away, said_if, said_to}
use Rattle.alp_node.specs.ServerState.{AreAlive, AreJoinsHere, IsAlike, IsAlive, IsAs, IsLife, IsReady, IsReadyForMore, PutNoneBeyond}
use Rattle.alp_node.specs.Steps.{IsStepAs, Stepped, told_answer}
use Rattle.alp_node.specs.Totals.{LiveMap}
use Rattle.alp_node.specs.Votes.{why_against}
use Rattle.alp_node.specs.Waits.{AreVotersIdle, has_file_on, has_waiting, is_file_on}
use Rattle.alp_node.specs.Writes.{Writes}
use Rattle.alp_node.specs.declared.answer.Answer.{Answer}
use Rattle.alp_node.specs.declared.lives.Live.{Live}
use Rattle.alp_node.specs.declared.server_state.ServerState.{ServerState}
use Rattle.alp_node.specs.declared.waits.WaitingCall.{WaitingCall}
use Rattle.alp_node.proofs.BesideLemmas.{AreNamed, AreOthers, HasNoCall, others_told, queue_beside, asked_beside}
use Rattle.alp_node.proofs.CountedLocks.{locks_counted}
use Rattle.alp_node.proofs.JoinMoves.{WasStaged, found_number, joined_by, same_some, staged_client, staged_its, staged_other, staged_there, staged_trans, was_staged}
use Rattle.alp_node.proofs.JoinedLemmas.{join_found, phase_told}
use Rattle.alp_node.proofs.KeptLemmas.{IsLive, each_set, live_there, stands_timely}
use Rattle.alp_node.proofs.LetGoWrites.{said_cells, said_notes}
use Rattle.alp_node.proofs.LogLemmas.{notes_few, vote_room}
use Rattle.alp_node.proofs.NoteLaw.{stands_voted}
use Rattle.alp_node.proofs.NoteWrites.{put_noted, readied_notes, vote_changes}
use Rattle.alp_node.proofs.ReadyLemmas.{ready_with, stepped_ready}
use Rattle.alp_node.proofs.SayLemmas.{away_told, quiet_step, said_caused, said_goes_on}
use Rattle.alp_node.proofs.WaitLemmas.{none_waiting, named_all}
use Rattle.alp_node.proofs.WriteSteps.{HasCome, IsStop, written_stepped}
use Rattle.alp_node.specs.Sessions.{IsClient}
use Rattle.alp_node.proofs.LocksNoted.{once_listed}

-- ---- why there is a vote

-- no call of it waits, the clock goes on, and the log has room
pub record MayVote {V : Type 0} (k : ServerState V) (client : ℕ) (t : TransId) : Type 0 where
  pub idle : has_waiting client t k.waits ≡ false
  pub early : k.clock < 2 ^ 62
  pub room : 24 + (weight (size_in k.lives t).cells (size_in k.lives t).locks + (ready_room k.lives k.joins.lives).weights) + max (applying_of (size_in k.lives t)) (ready_room k.lives k.joins.lives).greatest ≤ k.sizes.area

pub may_vote : {V : Type 0} (k : ServerState V) (client : ℕ) (t : TransId) → why_against k client t ≡ None → MayVote k client t
may_vote k client t may =
    let n : ReadySum = ready_room k.lives k.joins.lives in
    let s : PartSize = size_in k.lives t in
    let all =
    go (24 + n.weights + n.greatest) (24 + (weight s.cells s.locks + n.weights) + max (applying_of s) n.greatest) (has_waiting client t k.waits) refl (nat_le clock_end k.clock) refl
    (nat_lt k.sizes.area (24 + (weight s.cells s.locks + n.weights) + max (applying_of s) n.greatest)) refl may in
    record { idle = all.0; early = all.1; room = all.2 }
  where
    go : (before after : ℕ) (w : Bool) → has_waiting client t k.waits ≡ w → (b : Bool) → nat_le clock_end k.clock ≡ b → (d : Bool) → nat_lt k.sizes.area after ≡ d
        → first_why false w b (cond {A = Option Why} d (Some (why.LogFull (k.sizes.area - before) (after - before))) None) ≡ None → (has_waiting client t k.waits ≡ false) × (k.clock < 2 ^ 62) × (after ≤ k.sizes.area)
    go before after true e b f d g is = let wrong : Some why.Waiting ≡ None = is in cc
    go before after false e true f d g is = let wrong : Some why.ClockEnd ≡ None = is in cc
    go before after false e false f true g is = let wrong : Some (why.LogFull (k.sizes.area - before) (after - before)) ≡ None = is in cc
    go before after false e false f false g is = (e, leb-false clock_end k.clock f, ltb-false k.sizes.area after g)

-- ---- joins, one of which votes

module _ (ts : ℕ) where
  abbrev votes : Stage → Stage
  votes = stage_after (step.Vote ts)

  votes_in : (s : Stage) → is_in (stage_after (step.Vote ts) s) ≡ is_in s
  votes_in (stage.Joining who) = refl
  votes_in (stage.Active who) = refl
  votes_in (stage.Ready n) = refl

  votes_acts : (s : Stage) (w : Option (List ℕ)) → ActsFor s w → ActsFor (stage_after (step.Vote ts) s) w
  votes_acts (stage.Joining who) w h = tt
  votes_acts (stage.Active who) w h = tt
  votes_acts (stage.Ready n) w h = tt

  module _ (j : JoinNo) where
    voted_in : (y : LiveJoin) → is_in (staged_one j (stage_after (step.Vote ts)) y).stage ≡ is_in y.stage
    voted_in y = go (is_at j y)
      where
        go : (b : Bool) → is_in (cond {A = LiveJoin} b (record y { stage = stage_after (step.Vote ts) y.stage }) y).stage ≡ is_in y.stage
        go true = votes_in y.stage
        go false = refl

    -- the time of its vote, or it voted before
    voted_time : (P : ℕ → Type 0) → P ts → (y : LiveJoin) (n : ℕ) → ((m : ℕ) → y.stage ≡ stage.Ready m → P m) → (staged_one j (stage_after (step.Vote ts)) y).stage ≡ stage.Ready n → P n
    voted_time P new y n old = go (is_at j y)
      where
        time_in : Stage → ℕ
        time_in (stage.Ready m) = m
        time_in s = ts

        by : (s : Stage) → y.stage ≡ s → stage_after (step.Vote ts) s ≡ stage.Ready n → P n
        by (stage.Joining who) e is = let wrong : stage.Joining who ≡ stage.Ready n = is in cc
        by (stage.Active who) e is = subst P (ap time_in is) new
        by (stage.Ready m) e is = subst P (ap time_in is) (old m e)

        go : (b : Bool) → (cond {A = LiveJoin} b (record y { stage = stage_after (step.Vote ts) y.stage }) y).stage ≡ stage.Ready n → P n
        go true is = by y.stage refl is
        go false is = old n is

    staged_as_many : (ls : List LiveJoin) → length (staged j (stage_after (step.Vote ts)) ls) ≡ length ls
    staged_as_many [] = refl
    staged_as_many (x ∷ xs) = ap suc (staged_as_many xs)

    -- whoever is not there does not vote
    none_votes : (ls : List LiveJoin) → join_at ls j ≡ None → staged j (stage_after (step.Vote ts)) ls ≡ ls
    none_votes [] none = refl
    none_votes (x ∷ xs) none = go (is_at j x) refl none (none_votes xs)
      where
        go : (b : Bool) → is_at j x ≡ b → cond {A = Option LiveJoin} b (Some x) (join_at xs j) ≡ None → (join_at xs j ≡ None → staged j (stage_after (step.Vote ts)) xs ≡ xs) → staged_one j (stage_after (step.Vote ts)) x ∷ staged j (stage_after (step.Vote ts)) xs ≡ x ∷ xs
        go true e at rest = let wrong : Some x ≡ None = at in cc
        go false e at rest = λ i. staged_other j (stage_after (step.Vote ts)) x e i ∷ rest at i

    -- what those that voted come to then
    pub record IsSumWith (lives : LiveMap) (t : TransId) (new old : List LiveJoin) : Type 0 where
      pub weights : (ready_room lives new).weights ≡ (sum_with (size_in lives t) (ready_room lives old)).weights
      pub greatest : (ready_room lives new).greatest ≡ (sum_with (size_in lives t) (ready_room lives old)).greatest

    first_votes : (lives : LiveMap) (xs : List LiveJoin) (t : TransId) (client : ℕ) (who : List ℕ) (z : LiveJoin) → z ≡ record { join = j; trans = t; client = client; stage = stage.Active who }
        → IsSumWith lives t ((record z { stage = stage_after (step.Vote ts) z.stage }) ∷ xs) (z ∷ xs)
    first_votes lives xs t client who z e = subst (λ (q : LiveJoin). IsSumWith lives t ((record q { stage = stage_after (step.Vote ts) q.stage }) ∷ xs) (q ∷ xs)) (sym e) (record { weights = refl; greatest = refl })

    later_votes : (lives : LiveMap) (t : TransId) (x : LiveJoin) (ys xs : List LiveJoin) → IsSumWith lives t ys xs → IsSumWith lives t (x ∷ ys) (x ∷ xs)
    later_votes lives t x ys xs h = (let both = by x.stage in record { weights = both.0; greatest = both.1 })
      where
        by : (s : Stage)
            → ((sum_of (list_map (size_in lives) (trans_ready (phase_in x.trans x.client s) ++ ready_in ys))).weights ≡ (sum_with (size_in lives t) (sum_of (list_map (size_in lives) (trans_ready (phase_in x.trans x.client s) ++ ready_in xs)))).weights)
            × ((sum_of (list_map (size_in lives) (trans_ready (phase_in x.trans x.client s) ++ ready_in ys))).greatest ≡ (sum_with (size_in lives t) (sum_of (list_map (size_in lives) (trans_ready (phase_in x.trans x.client s) ++ ready_in xs)))).greatest)
        by (stage.Joining w) = (h.weights, h.greatest)
        by (stage.Active w) = (h.weights, h.greatest)
        by (stage.Ready n) = (let w = h.weights in omega (arith, w), let g = h.greatest in omega (arith, g))

    pub room_with : (lives : LiveMap) (ls : List LiveJoin) (t : TransId) (client : ℕ) (who : List ℕ) → AreOnce ls → join_at ls j ≡ Some (record { join = j; trans = t; client = client; stage = stage.Active who })
        → IsSumWith lives t (staged j (stage_after (step.Vote ts)) ls) ls
    room_with lives [] t client who once at = absurd (let wrong : ◌≡◌ {A = Option LiveJoin} None (Some (record { join = j; trans = t; client = client; stage = stage.Active who })) = at in cc)
    room_with lives (x ∷ xs) t client who once at = go (is_at j x) refl at (λ e. room_with lives xs t client who once.1 e)
      where
        go : (b : Bool) → is_at j x ≡ b → cond {A = Option LiveJoin} b (Some x) (join_at xs j) ≡ Some (record { join = j; trans = t; client = client; stage = stage.Active who })
            → (join_at xs j ≡ Some (record { join = j; trans = t; client = client; stage = stage.Active who }) → IsSumWith lives t (staged j (stage_after (step.Vote ts)) xs) xs)
            → IsSumWith lives t (staged_one j (stage_after (step.Vote ts)) x ∷ staged j (stage_after (step.Vote ts)) xs) (x ∷ xs)
        go true e at rest =
            let same : x ≡ record { join = j; trans = t; client = client; stage = stage.Active who } = same_some x (record { join = j; trans = t; client = client; stage = stage.Active who }) at in
            let none : join_at xs j ≡ None = ap (join_at xs) (same_join-true j x.join e) ∙ once.0 in
            subst (λ (ys : List LiveJoin). IsSumWith lives t ys (x ∷ xs)) (λ i. sym (staged_its j (stage_after (step.Vote ts)) x e) i ∷ sym (none_votes xs none) i) (first_votes lives xs t client who x same)
        go false e at rest =
            subst (λ (z : LiveJoin). IsSumWith lives t (z ∷ staged j (stage_after (step.Vote ts)) xs) (x ∷ xs)) (sym (staged_other j (stage_after (step.Vote ts)) x e)) (later_votes lives t x (staged j (stage_after (step.Vote ts)) xs) xs (rest at))

-- a join's part goes with it as it votes
module _ (ts : ℕ) (servers here : ℕ) (c : Coordinator) (k : Joins) (lives : LiveMap) (h : ArePaired servers here c k lives) (j : JoinNo) where
  voted_its : (u : TransId) (l : Live) (o : Option LiveJoin) → IsItsJoin u l o → IsItsJoin u l (option_map (staged_one j (stage_after (step.Vote ts))) o)
  voted_its u l None q = q
  voted_its u l (Some y) q = go (is_at j y)
    where
      go : (b : Bool) → IsItsJoin u l (Some (cond {A = LiveJoin} b (record y { stage = stage_after (step.Vote ts) y.stage }) y))
      go true = (q.0, q.1, votes_in ts y.stage ∙ q.2, votes_acts ts y.stage l.who q.3)
      go false = q

  voted_part : (u : TransId) (l : Live) (o : Option JoinNo) → IsPartOf k u l (fate_in c u) o → IsPartOf (with_readied k j ts) u l (fate_in c u) o
  voted_part u l None q = q
  voted_part u l (Some i) q = (q.0, subst (IsItsJoin u l) (sym (staged_at j i (stage_after (step.Vote ts)) k.lives)) (voted_its u l (join_at k.lives i) q.1))

  voted_pair : (u : TransId) (o : Option Live) → IsPairedWith k u (fate_in c u) o → IsPairedWith (with_readied k j ts) u (fate_in c u) o
  voted_pair u None q = q
  voted_pair u (Some l) q = voted_part u l l.join q

  pub paired_voted : ArePaired servers here c (with_readied k j ts) lives
  paired_voted = record {
    parts = λ u. voted_pair u (map.get lives u) (h.parts u);
    joins = λ i x at. part_of i x (was_staged j (stage_after (step.Vote ts)) k.lives i x at);
    others = λ i x at. (let w = was_staged j (stage_after (step.Vote ts)) k.lives i x at in
        ap (λ (u : TransId). is_other servers here u.server) (ap (λ (z : LiveJoin). z.trans) w.now ∙ staged_trans j (stage_after (step.Vote ts)) w.was) ∙ h.others i w.was w.there);
    own = h.own;
  }
    where
      part_of : (i : JoinNo) (x : LiveJoin) → WasStaged j (stage_after (step.Vote ts)) k.lives i x → HasPart lives i x
      part_of i x w inside =
          let p = h.joins i w.was w.there (sym (voted_in ts j w.was) ∙ ap (λ (z : LiveJoin). is_in z.stage) (sym w.now) ∙ inside) in
          (p.0, ap (λ (z : LiveJoin). map.get lives z.trans) w.now ∙ ap (map.get lives) (staged_trans j (stage_after (step.Vote ts)) w.was) ∙ p.1, p.2)

-- ---- whatever the vault tells

module _ {V : Type 0} (n : ℕ) (serves : Bool) (k : ServerState V) (h : IsReady n serves k) (j : JoinNo) (t : TransId) (client : ℕ) (who : List ℕ) (there : join_at k.joins.lives j ≡ Some (record { join = j; trans = t; client = client; stage = stage.Active who })) (may : MayVote k client t) where
  abbrev active : LiveJoin
  active = record { join = j; trans = t; client = client; stage = stage.Active who }

  abbrev f : Stage → Stage
  f = stage_after (step.Vote (k.clock + 1))

  -- its part
  pub active_part : (l : Live) × (map.get k.lives t ≡ Some l) × (l.join ≡ Some j)
  active_part = h.paired.joins j active there refl

  pub active_owner : (active_part.0).client ≡ client
  active_owner =
      let x = joined_by k.servers k.server k.coordinator k.joins k.lives t active_part.0 j h.paired active_part.1 active_part.2 in
      sym x.3 ∙ ap (λ (z : LiveJoin). z.client) (same_some x.0 active (sym x.1 ∙ there))

  pub none_on : HasNoCall client t k.waits
  none_on = none_waiting k.server k.epoch k.given (count_of k.coordinator) k.sizes k.lives client t active_part.0 k.waits active_part.1 active_owner may.idle h.waits.calls

  no_file : (ws : List WaitingCall) → AreOthers t ws → has_file_on t ws ≡ false
  no_file [] q = refl
  no_file (w ∷ ws) q = λ i. q.0 i || no_file ws q.1 i

  pub vote_ready : IsReady n serves (record k { joins = with_readied k.joins j (k.clock + 1) })
  vote_ready = record {
    serving = h.serving;
    halted = h.halted;
    sound = h.sound;
    taken = h.taken;
    waits = h.waits;
    known = h.known;
    seat = h.seat;
    joins = record {
      server = h.joins.server;
      epoch = h.joins.epoch;
      drawn = h.joins.drawn;
      numbered = λ i x at. (let w = was_staged j f k.joins.lives i x at in h.joins.numbered i w.was w.there);
      clients = λ i x at. (let w = was_staged j f k.joins.lives i x at in subst (λ (n : ℕ). IsClient n) (sym (staged_client j f w.was) ∙ ap (λ (z : LiveJoin). z.client) (sym w.now)) (h.joins.clients i w.was w.there));
      once = once_staged j f k.joins.lives h.joins.once;
      single = single_staged j f k.joins.lives h.joins.single;
      times = λ i x m at voted. (let w = was_staged j f k.joins.lives i x at in
          voted_time (k.clock + 1) j (λ q. q ≤ 2 ^ 62) (let early : k.clock < 2 ^ 62 = may.early in omega (arith, early)) w.was m (λ q e. h.joins.times i w.was q w.there e) (ap (λ (z : LiveJoin). z.stage) (sym w.now) ∙ voted));
    };
    paired = paired_voted (k.clock + 1) k.servers k.server k.coordinator k.joins k.lives h.paired j;
    idle = λ i x at voted. (let w = was_staged j f k.joins.lives i x at in
        ap (λ (u : TransId). has_file_on u k.waits) (ap (λ (z : LiveJoin). z.trans) w.now ∙ staged_trans j f w.was) ∙ idle_then i w.was w.there (same_join j i) refl (ap (λ (z : LiveJoin). is_open z.stage) (sym w.now) ∙ voted));
    opens = h.opens;
    opened = h.opened;
    alive = record {
      parts = h.alive.parts;
      joins = λ i x at. (let w = was_staged j f k.joins.lives i x at in
          subst (λ (z : LiveJoin). IsAlive k.dead z.client z.trans) (sym w.now)
          (subst (λ (e : ℕ). IsAlive k.dead e (staged_one j f w.was).trans) (sym (staged_client j f w.was)) (subst (IsAlive k.dead w.was.client) (sym (staged_trans j f w.was)) (h.alive.joins i w.was w.there))));
    };
    places = h.places;
    calls = h.calls;
    replies = h.replies;
    drawn = h.drawn;
    times = h.times;
    given = h.given;
    most = (let same : length (staged j f k.joins.lives) ≡ length k.joins.lives = staged_as_many (k.clock + 1) j k.joins.lives in let before : counted_of k.coordinator + length k.joins.lives ≤ 64 = h.most in omega (arith, same, before));
    fits = (let r = room_with (k.clock + 1) j k.lives k.joins.lives t client who h.joins.once there in let w = r.weights in let g = r.greatest in let room = may.room in omega (arith, w, g, room));
    within = h.within;
    sized = h.sized;
    clock = h.clock;
    raised = h.raised;
    fated = h.fated;
    last = h.last;
    unheld = h.unheld;
  }
    where
      idle_then : (i : JoinNo) (y : LiveJoin) → join_at k.joins.lives i ≡ Some y → (b : Bool) → same_join j i ≡ b → is_open (staged_one j f y).stage ≡ false → has_file_on y.trans k.waits ≡ false
      idle_then i y at true e voted =
          let same : y ≡ active = same_some y active (sym at ∙ ap (join_at k.joins.lives) (sym (same_join-true j i e)) ∙ there) in
          ap (λ (z : LiveJoin). has_file_on z.trans k.waits) same ∙ no_file k.waits none_on.others
      idle_then i y at false e voted =
          h.idle i y at (ap (λ (z : LiveJoin). is_open z.stage) (sym (staged_other j f y (ap (same_join j) (sym (found_number k.joins.lives i y at)) ∙ e))) ∙ voted)

-- another server by both counts
other_another : (server servers n : ℕ) → is_other servers server n ≡ true → is_another server servers n ≡ true
other_another server servers n e =
    let whole = and_parts (nat_lt 0 n && nat_lt n (servers + 1)) (not (n == server)) e in
    let both = and_parts (nat_lt 0 n) (nat_lt n (servers + 1)) whole.0 in
    let low : 0 < n = ltb-true 0 n both.0 in
    let high : n < servers + 1 = ltb-true n (servers + 1) both.1 in
    (λ i. (le-leb 1 n (omega (arith, low)) i && le-leb n servers (omega (arith, high)) i) && whole.1 i)

-- ---- the step

module _ {V : Type 0} (G : Ghosts V) (k : ServerState V) (from : ℕ) (j : JoinNo) (t : TransId) (client : ℕ) (who : List ℕ) (there : join_at k.joins.lives j ≡ Some (record { join = j; trans = t; client = client; stage = stage.Active who })) (up : k.is_down ≡ false)
    (ready : IsReadyForMore (G.serves k.vault) k) (against : why_against k client t ≡ None) (told : (a : Account) (held : Contents) → IsAs a held k → why_not false (state_of a) client t ≡ None) where
  abbrev event_of : Event
  event_of = event.Arrive from (msg.Ask t j)

  pub allowed : MayVote k client t
  allowed = may_vote k client t against

  abbrev asked : LiveJoin
  asked = record { join = j; trans = t; client = client; stage = stage.Active who }

  abbrev g : Stage → Stage
  g = stage_after (step.Vote (k.clock + 1))

  abbrev pub vote_part : (l : Live) × (map.get k.lives t ≡ Some l) × (l.join ≡ Some j)
  vote_part = active_part ready.0 (G.serves k.vault) k ready.2 j t client who there allowed

  abbrev l : Live
  l = (active_part ready.0 (G.serves k.vault) k ready.2 j t client who there allowed).0

  far : is_another k.server k.servers t.server ≡ true
  far = other_another k.server k.servers t.server (ready.2.paired.others j asked there)

  here : j.server ≡ k.server
  here = own_server k.joins.server k.joins.epoch k.joins.drawn (record { server = j.server; epoch = j.epoch; counter = j.counter }) (ready.2.joins.numbered j asked there) ∙ ready.2.joins.server

  its : is_at j asked ≡ true
  its = ap (same_join j) (sym (found_number k.joins.lives j asked there)) ∙ same_join-itself j

  -- its life in the journal
  record IsActive (a : Account) : Type 0 where
    phase : a.phases j ≡ Active t client who
    alive : IsLive a.holder.cells k.locks.held (a.locked t) t l (a.holder.lives t)
    own : alive.life.client ≡ client
    unvoted : alive.life.vote ≡ None

  is_active : (a : Account) → IsAs a (G.held k.vault) k → IsActive a
  is_active a h =
      let y : IsLive a.holder.cells k.locks.held (a.locked t) t l (a.holder.lives t) = live_there a.holder.cells k.locks.held (a.locked t) t (map.get k.lives t) (a.holder.lives t) l vote_part.1 (h.lives t) in
      let phase : a.phases j ≡ Active t client who = phase_told a (G.held k.vault) k j asked h there in
      record { phase = phase; alive = y; own = y.alike.client ∙ active_owner ready.0 (G.serves k.vault) k ready.2 j t client who there allowed; unvoted = IsAtWork.vote (active_at_work a h.quiet.settled.stands t y.life y.is j client who phase) }

  -- the count of locks is never another: there would be no vote
  pub differ_step : (x : Answer) → (length (map.entries (held_of k.locks.held t)) ≡ l.locks → ⊥) → x ≡ told_answer None [] → IsStepAs G None k k (event.Arrive from (msg.Ask t j)) (Ok x)
  differ_step x differ so = quiet_step G k event_of x up so (λ a h. absurd (differ (locks_counted a (G.held k.vault) k t l h vote_part.1)))

  module _ (locks : List (Resource × Mode)) (changes : List NoteChange) (n : IsVoteNote j t client (k.clock + 1) l.part locks changes) (locks_are : locks ≡ map.entries (held_of k.locks.held t)) (counted : length locks ≡ l.locks) where
    abbrev note : ReadyPart
    note = n.kept

    size : HasSize (size_in k.lives t) note
    size = record { locks = n.count ∙ counted ∙ sym (ap (λ (o : Option Live). (size_of o).locks) vote_part.1); cells = n.cells ∙ sym (ap (λ (o : Option Live). (size_of o).cells) vote_part.1) }

    -- ---- what may be written

    noted_now : (notes : Notes) → AreNotesFor k notes → AreNoted k.server k.servers k.epoch k.lives (with_readied k.joins j (k.clock + 1)) k.coordinator (noted (ready_name.spell j) (Some (ready_form.spell n.kept)) notes)
    noted_now notes are =
        put_noted k.server k.servers k.epoch k.lives k.lives k.joins (with_readied k.joins j (k.clock + 1)) k.coordinator notes j n.named are others (λ i x at away voted. refl) note n.fits here
        (ap (λ (u : TransId). is_another k.server k.servers u.server) n.trans ∙ far)
        (subst (λ (o : Option LiveJoin). IsNotedJoin k.lives o (Some n.kept)) (sym (staged_there j g k.joins.lives j asked there ∙ ap Some (staged_its j g asked its))) (record { trans = n.trans; client = n.owner; ts = n.time; size = size }))
      where
        others : (i : JoinNo) → same_join j i ≡ false → join_at (staged j g k.joins.lives) i ≡ join_at k.joins.lives i
        others i away = staged_at j i g k.joins.lives ∙ go (join_at k.joins.lives i) refl
          where
            go : (o : Option LiveJoin) → join_at k.joins.lives i ≡ o → option_map (staged_one j g) o ≡ o
            go None e = refl
            go (Some y) e = ap Some (staged_other j g y (ap (same_join j) (sym (found_number k.joins.lives i y e)) ∙ away))

    pub may_note : (notes : Notes) → AreNotesFor k notes → AreNoteChanges k.server k.servers notes changes
    may_note notes are = subst (AreNoteChanges k.server k.servers notes) (sym n.written)
        (vote_changes k.server k.servers notes j note are.format (noted_now notes are).format (notes_few k.server k.servers k.epoch k.lives k.joins k.coordinator notes are ready.2.most))

    pub note_room : (notes : Notes) → AreNotesFor k notes → HasRoomFor notes k.sizes changes
    note_room notes are = subst (HasRoomFor notes k.sizes) (sym n.written)
        (let s : PartSize = size_in k.lives t in
        let sum : ReadySum = ready_room k.lives k.joins.lives in
        let room : 24 + (weight s.cells s.locks + sum.weights) + max (applying_of s) sum.greatest ≤ k.sizes.area = allowed.room in
        let long : length (ready_form.spell note) ≤ 26 + length note.locks * 27 + changed_cells note.change * 538 = ready_most note n.fits in
        vote_room k.server k.servers k.epoch k.lives k.joins k.coordinator notes are ready.2.most k.sizes.area sum.greatest s.cells s.locks (sum_by (λ (c : NoteChange). noted_bytes c.name c.value) (ready_noted j note ∷ []))
        (omega (arith, room)) (omega (arith, long, ready_name_length j, size.locks, size.cells)))

    module _ (p : Part) (idle : p.intents ≡ no_intents) where
      same_cells : (held c : Contents) → c.cells ≡ edits_map (edits_of (change_of p.intents)) held.cells → c.cells ≡ held.cells
      same_cells held c is = is ∙ same_change held.cells p [] idle

      -- ---- its note

      kept_of : (a : Account) (h : IsAs a (G.held k.vault) k) → IsKeptOf (IsActive.alive (is_active a h)).life n.kept
      kept_of a h =
          let y : IsActive a = is_active a h in
          record {
            held = λ r. n.held r ∙ ap (find resource_cmp r) locks_are ∙ sym (get-entries (held_of k.locks.held t) r) ∙ sym (y.alive.alike.held r);
            intents = n.intents ∙ y.alive.alike.intents;
            once = once_listed n.kept.locks (held_of k.locks.held t) (λ r. n.held r ∙ ap (find resource_cmp r) locks_are ∙ sym (get-entries (held_of k.locks.held t) r)) (n.count ∙ ap (λ (xs : List (Resource × Mode)). length xs) locks_are);
            cells = n.cells ∙ y.alive.alike.counts.cells ∙ ap changed_by (sym (n.intents ∙ y.alive.alike.intents));
          }

      written_notes : (a : Account) → IsAs a (G.held k.vault) k → (d : Contents) → IsWritten p.intents changes (G.held k.vault) d → AreNotesOf (state_deed (state_of a) (Readies j t (k.clock + 1))) a.ids.epoch d.notes
      written_notes a h d w =
          let y : IsActive a = is_active a h in
          subst (AreNotesOf (state_deed (state_of a) (Readies j t (k.clock + 1))) a.ids.epoch) (sym (w.notes ∙ ap (λ (cs : List NoteChange). notes_after cs (G.held k.vault).notes) n.written))
          (readied_notes (state_of a) j t client (k.clock + 1) who y.alive.life y.alive.is y.unvoted (stands_voted a h.quiet) y.phase note a.ids.epoch (G.held k.vault).notes n.named n.fits (here ∙ sym h.server)
          ((λ i. is_another (h.server i) (h.servers i) t.server) ∙ far) n.trans n.owner n.time (kept_of a h) (h.notes up))

      is_said : (a : Account) → IsAs a (G.held k.vault) k → (e : Entry) → tried (state_of a) e ≡ Readies j t (k.clock + 1) ∷ [] → (d : Contents) → IsWritten p.intents changes (G.held k.vault) d → IsSaidBy (state_of a) e d
      is_said a h e are d w = subst (λ (ds : List Deed). IsStoredBy a.ids.epoch (state_after state_deed (state_of a) ds) d) (sym are) (record {
        cells = same_cells (G.held k.vault) d w.cells ∙ h.cells up ∙ cells_stand (a.holder.lives t);
        notes = written_notes a h d w;
      })
        where
          cells_stand : (o : Option Life) → a.holder.cells ≡ (readies a.holder t (k.clock + 1) o).cells
          cells_stand None = refl
          cells_stand (Some x) = refl

      -- the deeds of an entry that says so
      deeds_are : (a : Account) → IsAs a (G.held k.vault) k → if_its t (open_in (a.phases j)) (λ m. quits_for j t m None) ++ (Readies j t (k.clock + 1) ∷ []) ++ [] ≡ Readies j t (k.clock + 1) ∷ []
      deeds_are a h = ap (λ (q : Phase). if_its t (open_in q) (λ m. quits_for j t m None) ++ (Readies j t (k.clock + 1) ∷ []) ++ []) (IsActive.phase (is_active a h)) ∙ none_quits (same_trans t t)
        where
          none_quits : (b : Bool) → cond {A = List Deed} b [] [] ++ (Readies j t (k.clock + 1) ∷ []) ++ [] ≡ Readies j t (k.clock + 1) ∷ []
          none_quits true = refl
          none_quits false = refl

      stop_deeds : (a : Account) → IsAs a (G.held k.vault) k → (b : Bool) → tried (state_of a) (stop_entry a from (msg.Ask t j) (act.Readied t j (k.clock + 1) ∷ stop_of b ∷ [])) ≡ Readies j t (k.clock + 1) ∷ []
      stop_deeds a h true = deeds_are a h
      stop_deeds a h false = deeds_are a h

      pub vote_stop : (v : V) → IsStop G k v p changes up from (msg.Ask t j) (act.Readied t j (k.clock + 1) ∷ [])
      vote_stop v = record {
        stops = λ b. stop_is b;
        causes = λ before now allowance z q. q;
        leads = λ b a h.
            (let y : IsActive a = is_active a h in
            subst (λ (m : ℕ). Leads false a (stop_entry a from (msg.Ask t j) (act.Readied t j (m + 1) ∷ stop_of b ∷ [])) (with_stop a from (msg.Ask t j) (act.Readied t j (m + 1) ∷ stop_of b ∷ []))) h.clock
            (ask_stop_leads a from t j client who y.alive.life h.quiet (h.down ∙ up) y.phase y.alive.is (told a (G.held k.vault) h) b));
        said = λ b a h d w. is_said a h (stop_entry a from (msg.Ask t j) (act.Readied t j (k.clock + 1) ∷ stop_of b ∷ [])) (stop_deeds a h b) d w;
      }
        where
          stop_is : (b : Bool) → list_any is_stop (act.Readied t j (k.clock + 1) ∷ stop_of b ∷ []) ≡ true
          stop_is true = refl
          stop_is false = refl

      -- ---- it was written

      module _ (v : V) (js : Joins) (js_is : js ≡ with_readied k.joins j (k.clock + 1)) (deed : (s : State) (u : TransId) → AreJoinsOf s k.joins → AreJoinsOf (state_deed s (Readies j u (k.clock + 1))) js) (w : Writes G k.vault v p changes (Ok tt)) where
        abbrev pub vote_then : ServerState V
        vote_then = record k { joins = js; vault = v }

        abbrev sent : List Act
        sent = act.Sent t.server (msg.Ready t j (k.clock + 1)) ∷ []

        ready_then : (m : ℕ) → IsReady m (G.serves k.vault) k → IsReady (m + 1) (G.serves v) vote_then
        ready_then m r =
            subst (λ (xs : Joins). IsReady (m + 1) (G.serves v) (record k { joins = xs; vault = v })) (sym js_is)
            (ready_with (m + 1) (G.serves k.vault) (G.serves v) (record k { joins = with_readied k.joins j (k.clock + 1) }) v w.ended.0 up
            (stepped_ready m (G.serves k.vault) (record k { joins = with_readied k.joins j (k.clock + 1) }) (vote_ready m (G.serves k.vault) k r j t client who there allowed)))

        noted_then : AreNotesFor k (G.held k.vault).notes → AreNotesFor vote_then (notes_after changes (G.held k.vault).notes)
        noted_then q =
            subst (λ (xs : Joins). AreNoted k.server k.servers k.epoch k.lives xs k.coordinator (notes_after changes (G.held k.vault).notes)) (sym js_is)
            (subst (λ (cs : List NoteChange). AreNoted k.server k.servers k.epoch k.lives (with_readied k.joins j (k.clock + 1)) k.coordinator (notes_after cs (G.held k.vault).notes)) (sym n.written) (noted_now (G.held k.vault).notes q))

        module _ (a : Account) (h : IsAs a (G.held k.vault) k) where
          abbrev y : IsActive a
          y = is_active a h

          abbrev life : Life
          life = (IsActive.alive (is_active a h)).life

          abbrev life_then : Life
          life_then = record ((IsActive.alive (is_active a h)).life) { vote = Some (a.holder.clock + 1) }

          abbrev next_state : Account
          next_state = with_ready a from t j client who life

          sent_is : said_to k t.server (msg.Ready t j (k.clock + 1)) ≡ sent
          sent_is = ap (λ (b : Bool). said_if b t.server (msg.Ready t j (k.clock + 1))) (away_told a (G.held k.vault) k t.server h ∙ (subst (IsPhaseOf a.servers a.holder.server a.ids.epoch a.ids.joins a.joined j) y.phase (h.quiet.settled.stands.phases j)).1)

          leads : Leads false a (record { event = event.Arrive from (msg.Ask t j); reply = None; acts = act.Readied t j (k.clock + 1) ∷ act.Sent t.server (msg.Ready t j (k.clock + 1)) ∷ [] }) next_state
          leads =
              subst (λ (m : ℕ). Leads false a (record { event = event.Arrive from (msg.Ask t j); reply = None; acts = act.Readied t j (m + 1) ∷ act.Sent t.server (msg.Ready t j (m + 1)) ∷ [] }) next_state) h.clock
              (ask_votes_leads a from t j client who life h.quiet (h.down ∙ up) y.phase y.alive.is y.own (told a (G.held k.vault) h))

          said : (d : Contents) → IsWritten p.intents changes (G.held k.vault) d → IsSaidBy (state_of a) (record { event = event.Arrive from (msg.Ask t j); reply = None; acts = act.Readied t j (k.clock + 1) ∷ act.Sent t.server (msg.Ready t j (k.clock + 1)) ∷ [] }) d
          said d q = is_said a h (record { event = event.Arrive from (msg.Ask t j); reply = None; acts = act.Readied t j (k.clock + 1) ∷ act.Sent t.server (msg.Ready t j (k.clock + 1)) ∷ [] }) (deeds_are a h) d q

          none_file : AreOthers t k.waits
          none_file = (none_on ready.0 (G.serves k.vault) k ready.2 j t client who there allowed).others

          mine : IsLife a.holder.cells k.locks.held (a.locked t) t l life_then
          mine = record {
            client = y.alive.alike.client;
            join = y.alive.alike.join;
            intents = y.alive.alike.intents;
            held = y.alive.alike.held;
            calls = λ e. (let wrong : Some (a.holder.clock + 1) ≡ None = e in cc);
            counts = y.alive.alike.counts;
            within = y.alive.alike.within;
            intended = y.alive.alike.intended;
            sized = y.alive.alike.sized;
            count = y.alive.alike.count;
            known = y.alive.alike.known;
          }

          alike_then : (u : TransId) (b : Bool) → same_trans u t ≡ b → IsAlike a.holder.cells k.locks.held (a.locked u) u (map.get k.lives u) (cond {A = Option Life} b (Some life_then) (a.holder.lives u))
          alike_then u false e = h.lives u
          alike_then u true e =
              subst (λ (x : TransId). IsAlike a.holder.cells k.locks.held (a.locked x) x (map.get k.lives x) (Some life_then)) (sym (same_trans-true u t e))
              (subst (λ (o : Option Live). IsAlike a.holder.cells k.locks.held (a.locked t) t o (Some life_then)) (sym vote_part.1) mine)

          other_life : (u : TransId) → same_trans u t ≡ false → (with_ready a from t j client who life).holder.lives u ≡ a.holder.lives u
          other_life u apart = ap (λ (b : Bool). cond {A = Option Life} b (Some life_then) (a.holder.lives u)) apart

          joined_then : AreJoins a.holder.server a.ids.epoch a.ids.joins (λ i. cond {A = Phase} (same_join j i) (readied (a.holder.clock + 1) (a.phases i)) (a.phases i)) a.joined js
          joined_then =
              subst (λ (m : ℕ). AreJoins a.holder.server a.ids.epoch a.ids.joins (λ i. cond {A = Phase} (same_join j i) (readied (m + 1) (a.phases i)) (a.phases i)) a.joined js) (sym h.clock)
              (subst (λ (xs : List JoinNo). AreJoins a.holder.server a.ids.epoch a.ids.joins (λ i. cond {A = Phase} (same_join j i) (readied (k.clock + 1) (a.phases i)) (a.phases i)) xs js) (append-nil a.joined) (by (a.holder.lives t) (deed (state_of a) t h.joins)))
            where
              by : (o : Option Life) → AreJoins (readies a.holder t (k.clock + 1) o).server a.ids.epoch a.ids.joins (λ i. cond {A = Phase} (same_join j i) (readied (k.clock + 1) (a.phases i)) (a.phases i)) (a.joined ++ []) js
                  → AreJoins a.holder.server a.ids.epoch a.ids.joins (λ i. cond {A = Phase} (same_join j i) (readied (k.clock + 1) (a.phases i)) (a.phases i)) (a.joined ++ []) js
              by None q = q
              by (Some x) q = q

          voted_as : (then : Contents) → then.cells ≡ a.holder.cells → AreNotesOf (state_of (with_ready a from t j client who life)) a.ids.epoch then.notes → IsAs (with_ready a from t j client who life) then (record k { joins = js; vault = v })
          voted_as then same noted = record {
            server = h.server;
            servers = h.servers;
            sizes = h.sizes;
            epoch = h.epoch;
            clock = h.clock;
            cells = λ on. same;
            sized = h.sized;
            notes = λ on. noted;
            places = h.places;
            sessions = h.sessions;
            dead = h.dead;
            waits = h.waits;
            queue = h.queue
                ∙ sym (queue_beside a.holder (next_state).holder k.locks.held k.locks.held t refl other_life (λ u apart. refl) a.waits
                (subst (AllByRecursion (λ (q : Waiting). is_of t (file_trans q.call) ≡ false)) (sym h.waits) (others_told t k.waits (named_all k.server k.epoch k.given (count_of k.coordinator) k.sizes k.lives k.waits ready.2.waits.calls) none_file)));
            asked = asked_beside a.holder (next_state).holder k.locks.held k.locks.held t refl other_life (λ u apart. refl) a.locked a.locked (λ u apart. refl) k.waits none_file h.asked;
            lives = λ u. alike_then u (same_trans u t) refl;
            room = h.room;
            unborn = each_set (λ z. PutNoneBeyond a.holder.server a.ids.epoch k.given z.edits) t (Some life_then) a.holder.lives h.unborn
                (λ z at f comes. ap (λ (q : Life). edits_at q.edits (Leader f) None) (sym (same_some life_then z at)) ∙ h.unborn t life y.alive.is f comes);
            coordinator = h.coordinator;
            decided = h.decided;
            joins = joined_then;
            files = h.files;
            made = h.made;
            born = h.born;
            earlier = h.earlier;
            quiet = leads.quiet;
            down = h.down;
          }

          stepped : IsTrue (G.tells k.vault) → (x : Answer) → x ≡ told_answer None (act.Readied t j (k.clock + 1) ∷ sent) → Stepped a (G.faults k.vault) (G.faults v) (G.held v) vote_then event_of x
          stepped tells x so =
              let is : IsWritten p.intents changes (G.held k.vault) (G.held v) = record { cells = w.cells tells; notes = w.notes } in
              let entry : Entry = record { event = event.Arrive from (msg.Ask t j); reply = None; acts = act.Readied t j (k.clock + 1) ∷ sent } in
              written_stepped a next_state (G.faults k.vault) (G.faults v) (G.held v) vote_then event_of x (act.Readied t j (k.clock + 1) ∷ sent) so leads
              (voted_as (G.held v) (said_cells a next_state entry (G.held v) refl leads.leaves (said (G.held v) is)) (said_notes a next_state entry (G.held v) refl leads.leaves (said (G.held v) is)))
              (stands_timely a.holder.clock 0 k.clock h.clock)

        pub vote_come : (x : Answer) → x ≡ told_answer None (act.Readied t j (k.clock + 1) ∷ said_to k t.server (msg.Ready t j (k.clock + 1)))
            → HasCome G k v p changes up vote_then (event.Arrive from (msg.Ask t j)) x (act.Readied t j (k.clock + 1) ∷ said_to k t.server (msg.Ready t j (k.clock + 1)))
        vote_come x so = record {
          after = record { vault = refl; server = refl; servers = refl; sizes = refl; epoch = refl; later = le_refl k.clock; sessions = refl; down = refl };
          said = so;
          none = said_goes_on (is_away k t.server) t.server (msg.Ready t j (k.clock + 1));
          causes = λ before now allowance. said_caused (is_away k t.server) t.server (msg.Ready t j (k.clock + 1)) (let early : k.clock < 2 ^ 62 = allowed.early in omega (arith, early)) before now allowance;
          ready = ready_then;
          noted = noted_then;
          steps = λ tells a h. stepped a h tells x (so ∙ ap (λ (more : List Act). told_answer None (act.Readied t j (k.clock + 1) ∷ more)) (sent_is a h));
          leaves = λ a h d q. subst (λ (more : List Act). IsSaidBy (state_of a) (record { event = event_of; reply = None; acts = act.Readied t j (k.clock + 1) ∷ more }) d) (sym (sent_is a h)) (said a h d q);
        }
