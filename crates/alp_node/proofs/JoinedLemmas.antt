-- a join that is let in: its part is live from then on, and holds no lock; and one that is not: it is over, and its call goes
use Rattle.std.specs.Prelude.{cond, Bool, true, false, not, ◌==◌, ◌&&◌, ◌||◌, Option, None, Some, is_some, Result, Ok, map as list_map, IsTrue}
use Rattle.std.specs.List.{list_any, list_all, AllByRecursion}
use Rattle.std.specs.FinMap as map
use Rattle.std.proofs.Common.{◌≡◌, ℕ, ◌+◌, ◌^◌, ◌<◌, ◌≤◌, List, [], ◌∷◌, ◌++◌, append-nil, suc, length, refl, sym, ◌∙◌, ap, subst, arith, inl, inr, le_refl}
use Rattle.alp_base.specs.declared.ids.JoinNo.{JoinNo}
use Rattle.alp_base.specs.declared.ids.TransId.{TransId}
use Rattle.alp_base.specs.declared.key.Key.TheVariants.{Leader}
use Rattle.alp_base.specs.declared.key.Resource.{Resource}
use Rattle.alp_base.specs.declared.key.Resource.TheVariants.{Whole}
use Rattle.alp_base.specs.Notes.{Notes}
use Rattle.alp_base.specs.Orders.{trans_cmp}
use Rattle.alp_files.specs.Act.{Own, no_opens}
use Rattle.alp_files.specs.Edits.{edits_at}
use Rattle.alp_files.specs.Needs.{no_intents}
use Rattle.alp_files.specs.declared.open.Open.{Open}
use Rattle.alp_journal.specs.declared.act.Act.{Act}
use Rattle.alp_journal.specs.declared.event.Event.{Event}
use Rattle.alp_journal.specs.declared.event.Event.TheVariants as event
use Rattle.alp_journal.specs.declared.message.Message.TheVariants as msg
use Rattle.alp_journal.specs.Account.{Account, state_of, IsQuiet, Leads}
use Rattle.alp_journal.specs.Deeds.{Enters, Quits}
use Rattle.alp_journal.specs.Desk.{Waiting, file_trans, is_of, is_called, is_of_part}
use Rattle.alp_journal.specs.Holder.{Life, new_life}
use Rattle.alp_journal.specs.Ids.{same_trans, same_join}
use Rattle.alp_journal.specs.Counts.{lock_set}
use Rattle.alp_journal.specs.Moves.{enters, refused_join}
use Rattle.alp_journal.specs.Participant.{Phase, Unseen, Joining, Active, Ready, Applied, Over, entered as entered_phase}
use Rattle.alp_journal.specs.State.{State, state_deed}
use Rattle.alp_journal.proofs.IdLemmas.{same_trans-true, same_trans-itself}
use Rattle.alp_journal.proofs.RegisterSteps.{IsLetIn, joined_either, joined_passed_leads, refused_passed_leads, joined_leads, with_entered as with_entered_join, refused_leads, with_refused}
use Rattle.alp_locks.specs.Asks.{entered}
use Rattle.alp_locks.specs.Tables.{Table, Holders, held_of, holding}
use Rattle.alp_locks.proofs.HeldLemmas.{insert-keeps, insert-knows}
use Rattle.alp_locks.proofs.LawLemmas.{entering-keeps-held}
use Rattle.alp_locks.proofs.SoundLemmas.{entered-sound, each-more, each-filter}
use Rattle.alp_trans.specs.Counting.{AreCountsOf, no_counts}
use Rattle.alp_trans.specs.Parts.{own_of}
use Rattle.alp_trans.specs.declared.part.Part.{Part}
use Rattle.alp_queue.specs.declared.waiter.Waiter.{Waiter}
use Rattle.alp_vault.specs.Contents.{Contents}
use Rattle.alp_vault.specs.declared.vault.Vault.{Ghosts}
use Rattle.alp_worker.specs.declared.joins.Joins.{Joins}
use Rattle.alp_worker.specs.declared.live.LiveJoin.{LiveJoin}
use Rattle.alp_worker.specs.declared.live.Stage.{Stage}
use Rattle.alp_worker.specs.declared.live.Stage.TheVariants as stage
use Rattle.alp_worker.specs.declared.live.Step.TheVariants as step
use Rattle.alp_worker.specs.Joins.{AreJoins, AreJoinsOf, with_entered, with_quit}
use Rattle.alp_worker.specs.Lives.{is_at, is_open, join_at, live_at, phase_in, phase_of, staged, staged_one, stage_after, AreOnce}
use Rattle.alp_worker.specs.Walks.{ready_in}
use Rattle.alp_worker.proofs.LiveLemmas.{staged_at, once_staged, single_staged}
use Rattle.alp_worker.specs.Rooms.{sum_of}
use Rattle.alp_coord.specs.Coordinators.{count_of, counted_of}
use Rattle.alp_journal.specs.Messages.{trans_ready}
use Rattle.alp_fields.specs.declared.ready_note.ReadyPart.{ReadyPart}
use Rattle.alp_calls.proofs.CountLaws.{counts_begin}
use Rattle.std.specs.Option.{option_map}
use Rattle.std.proofs.lemmas.Bool.{or_parts}
use Rattle.alp_node.specs.Arrivals.{join_of}
use Rattle.alp_node.specs.Asks.{is_given, IsHeldHere}
use Rattle.alp_ready.specs.NoteLooks.{ready_at}
use Rattle.alp_node.specs.Noted.{AreNoted, IsNotedAs, IsNotedJoin, HasReadyRoom, ready_room, size_in}
use Rattle.alp_node.specs.Paired.{is_in, ArePaired}
use Rattle.alp_node.specs.Releases.{with_trans}
use Rattle.alp_node.specs.Rooms.{IsWithin}
use Rattle.alp_node.specs.ServerState.{IsAs, IsAlike, IsReady, IsReadyForMore, AreAlive, AreJoinsHere, IsAlive, PutNoneBeyond}
use Rattle.alp_node.specs.Steps.{IsStepAs, Stepped, told_answer}
use Rattle.alp_node.specs.Totals.{LiveMap}
use Rattle.alp_node.specs.Waits.{waiting_calls, has_file_on, is_file_on, without_calls_of, IsWaitingCall, IsOfCalls, AreWaiting, AreVotersIdle}
use Rattle.alp_node.specs.declared.answer.Answer.{Answer}
use Rattle.alp_node.specs.declared.lives.Live.{Live}
use Rattle.alp_node.specs.declared.server_state.ServerState.{ServerState}
use Rattle.alp_node.specs.declared.waits.WaitingCall.{WaitingCall}
use Rattle.alp_node.specs.declared.lock_counts.LockCounts.{LockCounts}
use Rattle.alp_node.proofs.BesideLemmas.{AreNamed, AreOthers, file_named, others_told, queue_beside, asked_beside}
use Rattle.alp_node.proofs.HeldHere.{same_here}
use Rattle.alp_node.specs.Sessions.{IsClient}
use Rattle.alp_node.proofs.KeptLemmas.{alike_set, each_set, none_held}
use Rattle.alp_node.proofs.TotalLemmas.{added_room}
use Rattle.alp_node.proofs.WithinLemmas.{new_within}
use Rattle.alp_node.proofs.JoinMoves.{same_some, found_number, phase_back, WasStaged, was_staged, staged_trans, staged_client, was_there, paired_entered, paired_quit}
use Rattle.alp_node.proofs.MapLemmas.{get_put}
use Rattle.alp_node.proofs.NoteLaw.{notes_stay}
use Rattle.alp_node.proofs.NotedLemmas.{HasNoVoter, voters_put, room_on, noted_on}
use Rattle.alp_node.proofs.SayLemmas.{said_step, quiet_step, silent_stepped}
use Rattle.alp_node.proofs.WaitLemmas.{call_later, like_itself, file_on, named_all}

-- ---- stages

open_entered : (s : Stage) → is_open (stage_after step.Enter s) ≡ is_open s
open_entered (stage.Joining who) = refl
open_entered (stage.Active who) = refl
open_entered (stage.Ready ts) = refl

voted_before : (s : Stage) (ts : ℕ) → stage_after step.Enter s ≡ stage.Ready ts → s ≡ stage.Ready ts
voted_before (stage.Joining who) ts e = let wrong : stage.Active who ≡ stage.Ready ts = e in cc
voted_before (stage.Active who) ts e = e
voted_before (stage.Ready us) ts e = e

staged_stage : (j : JoinNo) (y : LiveJoin) → is_open (staged_one j (stage_after step.Enter) y).stage ≡ is_open y.stage
staged_stage j y = go (is_at j y)
  where
    go : (b : Bool) → is_open (cond {A = LiveJoin} b (record y { stage = stage_after step.Enter y.stage }) y).stage ≡ is_open y.stage
    go true = open_entered y.stage
    go false = refl

staged_voted : (j : JoinNo) (y : LiveJoin) (ts : ℕ) → (staged_one j (stage_after step.Enter) y).stage ≡ stage.Ready ts → y.stage ≡ stage.Ready ts
staged_voted j y ts = go (is_at j y)
  where
    go : (b : Bool) → (cond {A = LiveJoin} b (record y { stage = stage_after step.Enter y.stage }) y).stage ≡ stage.Ready ts → y.stage ≡ stage.Ready ts
    go true e = voted_before y.stage ts e
    go false e = e

-- none votes as it is let in
ready_same : (j : JoinNo) (ls : List LiveJoin) → ready_in (staged j (stage_after step.Enter) ls) ≡ ready_in ls
ready_same j [] = refl
ready_same j (l ∷ ls) = (λ i. go (is_at j l) i ++ ready_same j ls i)
  where
    by : (s : Stage) → trans_ready (phase_in l.trans l.client (stage_after step.Enter s)) ≡ trans_ready (phase_in l.trans l.client s)
    by (stage.Joining who) = refl
    by (stage.Active who) = refl
    by (stage.Ready ts) = refl

    go : (b : Bool) → trans_ready (phase_of (cond {A = LiveJoin} b (record l { stage = stage_after step.Enter l.stage }) l)) ≡ trans_ready (phase_of l)
    go true = by l.stage
    go false = refl

-- and as many are there
staged_length : (j : JoinNo) (f : Stage → Stage) (ls : List LiveJoin) → length (staged j f ls) ≡ length ls
staged_length j f [] = refl
staged_length j f (l ∷ ls) = ap suc (staged_length j f ls)

-- a join's note is the same before it votes and as it is let in
noted_staged : (lives : LiveMap) (j : JoinNo) (ls : List LiveJoin) (i : JoinNo) (x : Option ReadyPart) → IsNotedJoin lives (join_at ls i) x → IsNotedJoin lives (join_at (staged j (stage_after step.Enter) ls) i) x
noted_staged lives j ls i x h = subst (λ (o : Option LiveJoin). IsNotedJoin lives o x) (sym (staged_at j i (stage_after step.Enter) ls)) (go (join_at ls i) h)
  where
    by : (y : LiveJoin) (s : Stage) → IsNotedAs lives y s x → IsNotedAs lives (record y { stage = stage_after step.Enter s }) (stage_after step.Enter s) x
    by y (stage.Joining who) h = h
    by y (stage.Active who) h = h
    by y (stage.Ready ts) h = ready x h
      where
        ready : (x : Option ReadyPart) → IsNotedAs lives y (stage.Ready ts) x → IsNotedAs lives (record y { stage = stage.Ready ts }) (stage.Ready ts) x
        ready None h = h
        ready (Some q) h = record { trans = h.trans; client = h.client; ts = h.ts; size = h.size }

    one : (y : LiveJoin) (b : Bool) → IsNotedAs lives y y.stage x → IsNotedJoin lives (Some (cond {A = LiveJoin} b (record y { stage = stage_after step.Enter y.stage }) y)) x
    one y true h = by y y.stage h
    one y false h = h

    go : (o : Option LiveJoin) → IsNotedJoin lives o x → IsNotedJoin lives (option_map (staged_one j (stage_after step.Enter)) o) x
    go None h = h
    go (Some y) h = one y (is_at j y) h

-- ---- whoever is let in

-- a join in the list, which asks to be let in; no part of its transaction is live, and no file call on it waits
pub record IsAsking {V : Type 0} (k : ServerState V) (j : JoinNo) (t : TransId) (y : LiveJoin) (who : List ℕ) : Type 0 where
  pub there : join_at k.joins.lives j ≡ Some y
  pub trans : y.trans ≡ t
  pub asks : y.stage ≡ stage.Joining who
  pub none : map.get k.lives t ≡ None
  pub off : has_file_on t k.waits ≡ false

module _ {V : Type 0} (k : ServerState V) (j : JoinNo) (t : TransId) (y : LiveJoin) (who : List ℕ) (is : IsAsking k j t y who) (p : Part) (fresh : own_of p ≡ no_opens) (none : p.intents ≡ no_intents) (idle : p.counts ≡ no_counts) where
  abbrev pub let_in : Live
  let_in = record { client = y.client; who = Some who; part = p; locks = 0; join = Some j }

  abbrev pub let_in_kept : ServerState V
  let_in_kept = record (with_trans k t let_in) { joins = with_entered k.joins j }

  -- no waiting call is a file call of it
  others : AreOthers t k.waits
  others = others_of k.waits is.off
    where
      others_of : (ws : List WaitingCall) → has_file_on t ws ≡ false → AreOthers t ws
      others_of [] h = tt
      others_of (w ∷ ws) h = (let parts = or_parts (is_file_on t w) (has_file_on t ws) h in (parts.0, others_of ws parts.1))

  module _ (n : ℕ) (on : Bool) (h : IsReady n on k) where
    no_voter : HasNoVoter k.joins.lives t
    no_voter i x at voted = go (same_trans x.trans t) refl
      where
        in_so : (s : Stage) → is_open s ≡ false → is_in s ≡ true
        in_so (stage.Joining w) e = let wrong : true ≡ false = e in cc
        in_so (stage.Active w) e = refl
        in_so (stage.Ready ts) e = refl

        go : (b : Bool) → same_trans x.trans t ≡ b → b ≡ false
        go false e = refl
        go true e =
            let l = h.paired.joins i x at (in_so x.stage voted) in
            let wrong : None ≡ Some l.0 = sym is.none ∙ ap (map.get k.lives) (sym (same_trans-true x.trans t e)) ∙ l.1 in
            cc

    joins_then : AreJoinsHere k.server k.epoch n (with_entered k.joins j)
    joins_then = record {
      server = h.joins.server;
      epoch = h.joins.epoch;
      drawn = h.joins.drawn;
      numbered = λ i x at. (let w = was_staged j (stage_after step.Enter) k.joins.lives i x at in h.joins.numbered i w.was w.there);
      clients = λ i x at. (let w = was_staged j (stage_after step.Enter) k.joins.lives i x at in subst (λ (n : ℕ). IsClient n) (sym (staged_client j (stage_after step.Enter) w.was) ∙ ap (λ (z : LiveJoin). z.client) (sym w.now)) (h.joins.clients i w.was w.there));
      once = once_staged j (stage_after step.Enter) k.joins.lives h.joins.once;
      single = single_staged j (stage_after step.Enter) k.joins.lives h.joins.single;
      times = λ i x ts at voted. (let w = was_staged j (stage_after step.Enter) k.joins.lives i x at in h.joins.times i w.was ts w.there (staged_voted j w.was ts (ap (λ (z : LiveJoin). z.stage) (sym w.now) ∙ voted)));
    }

    idle_then : AreVotersIdle (with_entered k.joins j).lives k.waits
    idle_then i x at voted =
        let w = was_staged j (stage_after step.Enter) k.joins.lives i x at in
        ap (λ (u : TransId). has_file_on u k.waits) (ap (λ (z : LiveJoin). z.trans) w.now ∙ staged_trans j (stage_after step.Enter) w.was)
        ∙ h.idle i w.was w.there (sym (staged_stage j w.was) ∙ ap (λ (z : LiveJoin). is_open z.stage) (sym w.now) ∙ voted)

    alive_then : AreAlive k.dead (map.insert k.lives t let_in) (with_entered k.joins j).lives
    alive_then = record {
      parts = λ u x there. part u (same_trans u t) refl x (sym (get_put k.lives t let_in u) ∙ there);
      joins = λ i x at.
          (let w = was_staged j (stage_after step.Enter) k.joins.lives i x at in
          subst (λ (z : LiveJoin). IsAlive k.dead z.client z.trans) (sym w.now)
          (subst (λ (c : ℕ). IsAlive k.dead c (staged_one j (stage_after step.Enter) w.was).trans) (sym (staged_client j (stage_after step.Enter) w.was))
          (subst (IsAlive k.dead w.was.client) (sym (staged_trans j (stage_after step.Enter) w.was)) (h.alive.joins i w.was w.there))));
    }
      where
        mine : IsAlive k.dead y.client t
        mine = subst (IsAlive k.dead y.client) is.trans (h.alive.joins j y is.there)

        part : (u : TransId) (b : Bool) → same_trans u t ≡ b → (x : Live) → cond {A = Option Live} b (Some let_in) (map.get k.lives u) ≡ Some x → IsAlive k.dead x.client u
        part u true e x there = subst (λ (z : Live). IsAlive k.dead z.client u) (same_some let_in x there) (subst (IsAlive k.dead y.client) (sym (same_trans-true u t e)) mine)
        part u false e x there = h.alive.parts u x there

    calls_then : AllByRecursion (IsWaitingCall k.server k.epoch k.given (count_of k.coordinator) k.sizes (map.insert k.lives t let_in)) k.waits
    calls_then = go k.waits h.waits.calls others
      where
        older : (w : WaitingCall) → is_file_on t w ≡ false → (z : LockCounts) → w.counts ≡ Some z → (b : Bool) → same_trans w.trans t ≡ b → (x : Live) → cond {A = Option Live} b (Some let_in) (map.get k.lives w.trans) ≡ Some x → map.get k.lives w.trans ≡ Some x
        older w off z counted true e x there = let wrong : true ≡ false = sym (file_on t w z counted e) ∙ off in cc
        older w off z counted false e x there = there

        go : (ws : List WaitingCall) → AllByRecursion (IsWaitingCall k.server k.epoch k.given (count_of k.coordinator) k.sizes k.lives) ws → AreOthers t ws → AllByRecursion (IsWaitingCall k.server k.epoch k.given (count_of k.coordinator) k.sizes (map.insert k.lives t let_in)) ws
        go [] c o = tt
        go (w ∷ ws) c o = (
          call_later k.server k.epoch k.given k.given (le_refl k.given) k.sizes (count_of k.coordinator) (count_of k.coordinator) (le_refl (count_of k.coordinator)) k.lives (map.insert k.lives t let_in) w
              (λ z counted q x there. (x, older w o.0 z counted (same_trans w.trans t) refl x (sym (get_put k.lives t let_in w.trans) ∙ there), like_itself x)) c.0,
          go ws c.1 o.1,
        )

    live_then : (u : TransId) → is_some (map.get k.lives u) ≡ true → is_some (map.get (map.insert k.lives t let_in) u) ≡ true
    live_then u there = ap is_some (get_put k.lives t let_in u) ∙ either_live (same_trans u t) there
      where
        either_live : (b : Bool) → is_some (map.get k.lives u) ≡ true → is_some (cond {A = Option Live} b (Some let_in) (map.get k.lives u)) ≡ true
        either_live true e = refl
        either_live false e = e

    -- each live part is the new one, or was live before
    each_part : (P : TransId → Live → Type 0) → P t let_in → ((u : TransId) (x : Live) → map.get k.lives u ≡ Some x → P u x) → (u : TransId) (x : Live) → map.get (map.insert k.lives t let_in) u ≡ Some x → P u x
    each_part P first old u x there = go (same_trans u t) refl (sym (get_put k.lives t let_in u) ∙ there)
      where
        go : (b : Bool) → same_trans u t ≡ b → cond {A = Option Live} b (Some let_in) (map.get k.lives u) ≡ Some x → P u x
        go true e is = subst (λ (v : TransId). P v x) (sym (same_trans-true u t e)) (subst (P t) (same_some let_in x is) first)
        go false e is = old u x is

    known_then : (u : TransId) (x : Live) → map.get (map.insert k.lives t let_in) u ≡ Some x → is_some (map.get (entered k.locks t).held u) ≡ true
    known_then = each_part (λ u x. is_some (map.get (entered k.locks t).held u) ≡ true) (insert-knows k.locks.held t (held_of k.locks.held t)) (λ u x there. insert-keeps k.locks.held t (held_of k.locks.held t) u (h.known u x there))

    paired_then : ArePaired k.servers k.server k.coordinator (with_entered k.joins j) (map.insert k.lives t let_in)
    paired_then = subst (λ (v : TransId). ArePaired k.servers k.server k.coordinator (with_entered k.joins j) (map.insert k.lives v let_in)) is.trans
        (paired_entered k.servers k.server k.coordinator k.joins k.lives h.paired j y who let_in is.there is.asks (ap (map.get k.lives) is.trans ∙ is.none) refl refl refl)

    fresh_within : IsWithin k.sizes let_in
    fresh_within = (let w = new_within k.sizes y.client (Some who) p none idle h.sized in record { part = w.part; locks = w.locks; log = w.log })

    pub let_in_ready : IsReady (n + 1) on let_in_kept
    let_in_ready = record {
      serving = h.serving;
      halted = h.halted;
      sound = entered-sound k.locks t h.sound;
      taken = h.taken;
      waits = record {
        calls = calls_then;
        apart = h.waits.apart;
        queued = each-more (λ (x : Waiter). IsOfCalls k.server k.epoch k.given k.lives k.waits x) (IsOfCalls k.server k.epoch k.given (map.insert k.lives t let_in) k.waits)
            (λ x o. record { live = live_then x.trans o.live; asks = o.asks; beyond = o.beyond }) k.locks.waiting h.waits.queued;
      };
      known = known_then;
      seat = h.seat;
      joins = record { server = joins_then.server; epoch = joins_then.epoch; drawn = (let low : (with_entered k.joins j).drawn ≤ n = joins_then.drawn in omega arith); numbered = joins_then.numbered; clients = joins_then.clients; once = joins_then.once; single = joins_then.single; times = joins_then.times };
      paired = paired_then;
      idle = idle_then;
      opens = each_part (λ u x. x.part.last ≤ n + 1) (let zero_opens : p.last ≡ 0 = ap (λ (w : Own). w.last) fresh in omega (arith, zero_opens)) (λ u x there. (let low : x.part.last ≤ n = h.opens u x there in omega arith));
      opened = each_part (λ u x. list_all (λ (o : Open). is_given k.server k.epoch k.given o.file) x.part.opens.items ≡ true) (ap (λ (w : Own). list_all (λ (o : Open). is_given k.server k.epoch k.given o.file) w.opens) fresh) h.opened;
      alive = alive_then;
      places = h.places;
      calls = λ client w at. (let low : w.last ≤ n = h.calls client w at in omega arith);
      replies = h.replies;
      drawn = (let low : count_of k.coordinator ≤ n = h.drawn in omega arith);
      times = h.times;
      given = (let low : k.given ≤ n = h.given in omega arith);
      most = subst (λ (m : ℕ). counted_of k.coordinator + m ≤ 64) (sym (staged_length j (stage_after step.Enter) k.joins.lives)) h.most;
      fits = subst (HasReadyRoom k.sizes) (sym (ap (λ (ts : List TransId). sum_of (list_map (size_in (map.insert k.lives t let_in)) ts)) (ready_same j k.joins.lives) ∙ room_on k.lives (map.insert k.lives t let_in) k.joins.lives h.joins.once (voters_put k.lives t let_in k.joins.lives no_voter))) h.fits;
      within = each_part (λ u x. IsWithin k.sizes x) fresh_within h.within;
      sized = h.sized;
      clock = h.clock;
      raised = h.raised;
      fated = h.fated;
      last = h.last;
      unheld = λ u. entered_here u;
    }
      where
        entered_here : (u : TransId) → IsHeldHere k.server k.epoch k.given (holding (entered k.locks t).held u)
        entered_here u = same_here k.server k.epoch k.given (holding k.locks.held u) (holding (entered k.locks t).held u) (λ r i. map.get (entering-keeps-held k.locks t u i) r) (h.unheld u)

    -- the notes are those that they were
    pub let_in_noted : (server servers epoch : ℕ) (notes : Notes) → AreNoted server servers epoch k.lives k.joins k.coordinator notes → AreNoted server servers epoch (map.insert k.lives t let_in) (with_entered k.joins j) k.coordinator notes
    let_in_noted server servers epoch notes q =
        let beside : AreNoted server servers epoch (map.insert k.lives t let_in) k.joins k.coordinator notes = noted_on k.lives (map.insert k.lives t let_in) server servers epoch k.joins k.coordinator notes (voters_put k.lives t let_in k.joins.lives no_voter) q in
        record { epoch = beside.epoch; ready = λ i fits. noted_staged (map.insert k.lives t let_in) j k.joins.lives i (ready_at notes i) (beside.ready i fits); decided = beside.decided; format = beside.format }

-- ---- by what the journal says

-- the journal has the join's phase
pub phase_told : {V : Type 0} (a : Account) (held : Contents) (k : ServerState V) (j : JoinNo) (y : LiveJoin) → IsAs a held k → join_at k.joins.lives j ≡ Some y → a.phases j ≡ phase_of y
phase_told a held k j y h there = phase_back j (a.phases j) y (sym (h.joins.live j) ∙ there)

-- no file call of it waits
off_told : {V : Type 0} (a : Account) (held : Contents) (k : ServerState V) (t : TransId) → IsAs a held k → AreNamed k.waits → AreOthers t k.waits → is_called t a.waits ≡ false
off_told a held k t h named others = none_of a.waits (subst (AllByRecursion (λ (v : Waiting). is_of t (file_trans v.call) ≡ false)) (sym h.waits) (others_told t k.waits named others))
  where
    none_of : (ws : List Waiting) → AllByRecursion (λ (v : Waiting). is_of t (file_trans v.call) ≡ false) ws → is_called t ws ≡ false
    none_of [] h = refl
    none_of (w ∷ ws) h = (λ i. h.0 i || none_of ws h.1 i)

module _ {V : Type 0} (a : Account) (faults : ℕ) (held : Contents) (k : ServerState V) (from : ℕ) (j : JoinNo) (t : TransId) (y : LiveJoin) (who : List ℕ) (is : IsAsking k j t y who) (p : Part) (fresh : own_of p ≡ no_opens) (none : p.intents ≡ no_intents) (idle : p.counts ≡ no_counts) where
  abbrev arriving : Event
  arriving = event.Arrive from (msg.Joined t j)

  let_in_alike : (locks : Holders) → ((u : TransId) (r : Resource) → holding locks u r ≡ holding k.locks.held u r) → IsAs a held k
      → (u : TransId) → IsAlike a.holder.cells locks (lock_set a.locked t [] u) u (map.get (map.insert k.lives t (let_in k j t y who is p fresh none idle)) u) (cond {A = Option Life} (same_trans u t) (Some (new_life (Some j) y.client who)) (a.holder.lives u))
  let_in_alike locks same h u =
      subst (λ (x : Option Live). IsAlike a.holder.cells locks (lock_set a.locked t [] u) u x (cond {A = Option Life} (same_trans u t) (Some (new_life (Some j) y.client who)) (a.holder.lives u))) (sym (get_put k.lives t (let_in k j t y who is p fresh none idle) u))
      (alike_set a.holder.cells k.locks.held locks a.locked t (Some (let_in k j t y who is p fresh none idle)) (Some (new_life (Some j) y.client who)) [] (map.get k.lives) a.holder.lives h.lives (λ v r away. same v r)
      (record {
        client = refl;
        join = refl;
        intents = none;
        held = λ r. sym (same t r ∙ none_held a.holder.cells k.locks.held (a.locked t) t (map.get k.lives t) (a.holder.lives t) is.none (h.lives t) r);
        calls = λ unvoted. record { who = refl; own = fresh; opens = tt };
        counts = subst (AreCountsOf a.holder.cells []) (sym idle) (counts_begin a.holder.cells);
        within = tt;
        intended = λ q f m in_file at. (let wrong : None ≡ Some m = at in cc);
        sized = tt;
        count = refl;
        known = (λ r. refl, tt);
      }) u)

  pub joined_stepped : (x : Answer) (joins : Joins) (locks : Table) → IsAs a held k → k.is_down ≡ false → AreNamed k.waits → joins ≡ with_entered k.joins j
      → ((s : _) (u : TransId) (client : ℕ) (name : List ℕ) → AreJoinsOf s k.joins → AreJoinsOf (state_deed s (Enters j u client name)) joins)
      → locks ≡ entered k.locks t → x ≡ told_answer None []
      → Stepped a faults faults held (record k { lives = map.insert k.lives t (let_in k j t y who is p fresh none idle); locks = locks; joins = joins }) arriving x
  joined_stepped x joins locks h up named entered_is deed locks_is so =
      let y_phase : a.phases j ≡ phase_of y = phase_told a held k j y h is.there in
      let phase : a.phases j ≡ Joining t y.client who = y_phase ∙ (λ i. phase_in (is.trans i) y.client (is.asks i)) in
      let away : AreOthers t k.waits = others k j t y who is p fresh none idle in
      let off : is_called t a.waits ≡ false = off_told a held k t h named away in
      let gone : a.holder.lives t ≡ None = not_live (map.get k.lives t) (a.holder.lives t) is.none (h.lives t) in
      let leads = joined_leads a from t j y.client who h.quiet (h.down ∙ up) phase gone off in
      let m : Account = with_entered_join a from t j y.client who in
      let now : AreJoinsOf (state_of m) joins = subst (λ (js : List JoinNo). AreJoins a.holder.server a.ids.epoch a.ids.joins m.phases js joins) (append-nil a.joined) (deed (state_of a) t y.client who h.joins) in
      let same : (u : TransId) (r : Resource) → holding locks.held u r ≡ holding k.locks.held u r = λ u r. ap (λ (z : Table). holding z.held u r) locks_is ∙ ap (λ q. map.get q r) (entering-keeps-held k.locks t u) in
      let beside : (u : TransId) → held_of locks.held u ≡ held_of k.locks.held u = λ u. ap (λ (z : Table). held_of z.held u) locks_is ∙ entering-keeps-held k.locks t u in
      silent_stepped a m faults held k (record k { lives = map.insert k.lives t (let_in k j t y who is p fresh none idle); locks = locks; joins = joins }) arriving x [] h refl so leads (record {
        server = h.server;
        servers = h.servers;
        sizes = h.sizes;
        epoch = h.epoch;
        clock = h.clock;
        cells = h.cells;
        sized = h.sized;
        notes = λ still. notes_stay a m (record { event = arriving; reply = None; acts = [] }) h.quiet leads.lawful leads.leaves (λ e. let wrong : arriving ≡ event.Restart = e in cc) refl tt a.ids.epoch held.notes (h.notes still);
        places = h.places;
        sessions = h.sessions;
        dead = h.dead;
        waits = h.waits;
        queue = ap (λ (z : Table). z.waiting) locks_is ∙ h.queue
            ∙ sym (queue_beside a.holder m.holder k.locks.held locks.held t refl (λ u apart. ap (λ (b : Bool). cond {A = Option Life} b (Some (new_life (Some j) y.client who)) (a.holder.lives u)) apart) (λ u apart. beside u) a.waits
            (subst (AllByRecursion (λ (v : Waiting). is_of t (file_trans v.call) ≡ false)) (sym h.waits) (others_told t k.waits named away)));
        asked = asked_beside a.holder m.holder k.locks.held locks.held t refl (λ u apart. ap (λ (b : Bool). cond {A = Option Life} b (Some (new_life (Some j) y.client who)) (a.holder.lives u)) apart) (λ u apart. beside u)
            a.locked (lock_set a.locked t []) (λ u apart. ap (λ (b : Bool). cond {A = List Resource} b [] (a.locked u)) apart) k.waits away h.asked;
        lives = let_in_alike locks.held same h;
        room = added_room k.sizes a.holder.cells k.lives t (let_in k j t y who is p fresh none idle) is.none idle h.room;
        unborn = each_set (λ l. PutNoneBeyond a.holder.server a.ids.epoch k.given l.edits) t (Some (new_life (Some j) y.client who)) a.holder.lives h.unborn
            (λ l at f comes. ap (λ (z : Life). edits_at z.edits (Leader f) None) (sym (same_some (new_life (Some j) y.client who) l at)));
        coordinator = h.coordinator;
        decided = h.decided;
        joins = now;
        files = h.files;
        made = h.made;
        born = h.born;
        earlier = h.earlier;
        quiet = leads.quiet;
        down = h.down;
      })
    where
      not_live : (o : Option Live) (z : Option Life) → o ≡ None → IsAlike a.holder.cells k.locks.held (a.locked t) t o z → z ≡ None
      not_live None None e alike = refl
      not_live None (Some l) e alike = absurd alike
      not_live (Some l) z e alike = let wrong : Some l ≡ None = e in cc

-- nothing comes of a word for a join that does not ask, or whose transaction has a part here, or a call
pub joined_passed : {V : Type 0} (a : Account) (faults : ℕ) (held : Contents) (k : ServerState V) (from : ℕ) (t : TransId) (j : JoinNo) (x : Answer) → IsAs a held k → k.is_down ≡ false → x ≡ told_answer None []
    → (IsLetIn a t j → ⊥) → Stepped a faults faults held k (event.Arrive from (msg.Joined t j)) x
joined_passed a faults held k from t j x h up so out =
    silent_stepped a a faults held k k (event.Arrive from (msg.Joined t j)) x [] h refl so
    (joined_passed_leads a from t j h.quiet (h.down ∙ up) (elim (joined_either a t j) [ inl e ↦ e | inr e ↦ absurd (out e) ])) h

-- a join that asks is in the list
pub asks_there : {V : Type 0} (a : Account) (held : Contents) (k : ServerState V) (t : TransId) (j : JoinNo) (client : ℕ) (who : List ℕ) → IsAs a held k → a.phases j ≡ Joining t client who
    → join_of t (join_at k.joins.lives j) ≡ Some (record { join = j; trans = t; client = client; stage = stage.Joining who })
asks_there a held k t j client who h phase =
    ap (join_of t) (h.joins.live j ∙ ap (live_at j) phase) ∙ ap (λ (b : Bool). cond {A = Option LiveJoin} b (Some (record { join = j; trans = t; client = client; stage = stage.Joining who })) None) (same_trans-itself t)

-- one that is let in is not found otherwise: it is in the list, no part of its transaction is live, and no file call on it waits
module _ {V : Type 0} (a : Account) (held : Contents) (k : ServerState V) (t : TransId) (j : JoinNo) (h : IsAs a held k) (one : IsLetIn a t j) where
  pub let_in_found : (o : Option LiveJoin) → o ≡ join_of t (join_at k.joins.lives j) → o ≡ Some (record { join = j; trans = t; client = one.client; stage = stage.Joining one.who })
  let_in_found o is = is ∙ asks_there a held k t j one.client one.who h one.asks

  pub let_in_live : map.get k.lives t ≡ None
  let_in_live = go (map.get k.lives t) (a.holder.lives t) one.none (h.lives t)
    where
      go : (o : Option Live) (z : Option Life) → z ≡ None → IsAlike a.holder.cells k.locks.held (a.locked t) t o z → o ≡ None
      go None z e alike = refl
      go (Some l) None e alike = absurd alike
      go (Some l) (Some z) e alike = let wrong : Some z ≡ None = e in cc

  pub let_in_off : AreNamed k.waits → has_file_on t k.waits ≡ false
  let_in_off named = sym (called_named k.waits named) ∙ ap (is_called t) (sym h.waits) ∙ one.off
    where
      called_named : (ws : List WaitingCall) → AreNamed ws → is_called t (waiting_calls ws) ≡ has_file_on t ws
      called_named [] named = refl
      called_named (w ∷ ws) named = (λ i. file_named t w named.0 i || called_named ws named.1 i)

-- a word that is passed by changes nothing
pub passed_step : {V : Type 0} (G : Ghosts V) (k : ServerState V) (from : ℕ) (t : TransId) (j : JoinNo) (x : Answer) → k.is_down ≡ false → x ≡ told_answer None []
    → ((a : Account) (held : Contents) → IsAs a held k → IsLetIn a t j → ⊥) → IsStepAs G None k k (event.Arrive from (msg.Joined t j)) (Ok x)
passed_step G k from t j x up so out = quiet_step G k (event.Arrive from (msg.Joined t j)) x up so
    (λ a h. joined_passed_leads a from t j h.quiet (h.down ∙ up) (elim (joined_either a t j) [ inl e ↦ e | inr e ↦ absurd (out a (G.held k.vault) h e) ]))

-- what is found of the transaction is the join, and is the transaction's
pub record IsFound (t : TransId) (o : Option LiveJoin) (y : LiveJoin) : Type 0 where
  pub there : o ≡ Some y
  pub trans : y.trans ≡ t

pub join_found : (t : TransId) (o : Option LiveJoin) (y : LiveJoin) → join_of t o ≡ Some y → IsFound t o y
join_found t None y e = (let wrong : ◌≡◌ {A = Option LiveJoin} None (Some y) = e in cc)
join_found t (Some x) y e = go (same_trans x.trans t) refl e
  where
    go : (b : Bool) → same_trans x.trans t ≡ b → cond {A = Option LiveJoin} b (Some x) None ≡ Some y → IsFound t (Some x) y
    go true its is = (let one : x ≡ y = same_some x y is in record { there = ap Some one; trans = ap (λ (z : LiveJoin). z.trans) (sym one) ∙ same_trans-true x.trans t its })
    go false its is = (let wrong : ◌≡◌ {A = Option LiveJoin} None (Some y) = is in cc)

-- each call that waits is one of its transaction
pub ready_named : {V : Type 0} (on : Bool) (k : ServerState V) → IsReadyForMore on k → AreNamed k.waits
ready_named on k ready = named_all k.server k.epoch k.given (count_of k.coordinator) k.sizes k.lives k.waits ready.2.waits.calls

-- and what it is, by its stage
pub found_as : (t : TransId) (j : JoinNo) (ls : List LiveJoin) (y : LiveJoin) (s : Stage) → join_of t (join_at ls j) ≡ Some y → y.stage ≡ s → join_of t (join_at ls j) ≡ Some (record { join = j; trans = t; client = y.client; stage = s })
found_as t j ls y s e is =
    let found : IsFound t (join_at ls j) y = join_found t (join_at ls j) y e in
    let number : j ≡ y.join = found_number ls j y found.there in
    e ∙ (λ i. Some (record y { join = sym number i; trans = found.trans i; stage = is i }))

-- the step of one that is let in
module _ {V : Type 0} (G : Ghosts V) (k : ServerState V) (from : ℕ) (j : JoinNo) (t : TransId) (y : LiveJoin) (who : List ℕ) (is : IsAsking k j t y who) (p : Part) (fresh : own_of p ≡ no_opens) (none : p.intents ≡ no_intents) (idle : p.counts ≡ no_counts) (ready : IsReadyForMore (G.serves k.vault) k) where
  abbrev DoesEnter : Joins → Joins → Type 0
  DoesEnter old new = (s : State) (u : TransId) (client : ℕ) (name : List ℕ) → AreJoinsOf s old → AreJoinsOf (state_deed s (Enters j u client name)) new

  abbrev here : Live
  here = let_in k j t y who is p fresh none idle

  base_step : (x : Answer) (joins : Joins) → joins ≡ with_entered k.joins j → DoesEnter k.joins joins → k.is_down ≡ false → x ≡ told_answer None []
      → IsStepAs G None k (record (with_trans k t here) { joins = joins }) (event.Arrive from (msg.Joined t j)) (Ok x)
  base_step x joins entered_is deed up so =
      said_step G k (record (with_trans k t here) { joins = joins }) (event.Arrive from (msg.Joined t j)) x []
      (record { vault = refl; server = refl; servers = refl; sizes = refl; epoch = refl; clock = refl; sessions = refl; down = refl }) up so refl (λ before now allowance. tt)
      (λ n h. subst (λ (js : Joins). IsReady (n + 1) (G.serves k.vault) (record (with_trans k t here) { joins = js })) (sym entered_is) (let_in_ready k j t y who is p fresh none idle n (G.serves k.vault) h))
      (λ notes. subst (λ (js : Joins). AreNoted k.server k.servers k.epoch (map.insert k.lives t here) js k.coordinator (G.held k.vault).notes) (sym entered_is) (noted_then notes))
      (λ a h. joined_stepped a (G.faults k.vault) (G.held k.vault) k from j t y who is p fresh none idle x joins (entered k.locks t) h up (ready_named (G.serves k.vault) k ready) entered_is deed refl so)
    where
      noted_then : AreNoted k.server k.servers k.epoch k.lives k.joins k.coordinator (G.held k.vault).notes → AreNoted k.server k.servers k.epoch (map.insert k.lives t here) (with_entered k.joins j) k.coordinator (G.held k.vault).notes
      noted_then notes = let_in_noted k j t y who is p fresh none idle ready.0 (G.serves k.vault) ready.2 k.server k.servers k.epoch (G.held k.vault).notes notes

  pub let_in_step : (x : Answer) (z : ServerState V) (joins : Joins) → z ≡ with_trans k t here → joins ≡ with_entered z.joins j → DoesEnter z.joins joins → k.is_down ≡ false → x ≡ told_answer None []
      → IsStepAs G None k (record z { joins = joins }) (event.Arrive from (msg.Joined t j)) (Ok x)
  let_in_step x z joins z_is entered_is deed up so =
      subst (λ (s : ServerState V). joins ≡ with_entered s.joins j → DoesEnter s.joins joins → IsStepAs G None k (record s { joins = joins }) (event.Arrive from (msg.Joined t j)) (Ok x)) (sym z_is)
      (λ e d. base_step x joins e d up so) entered_is deed
