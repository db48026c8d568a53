-- a join that was refused is over, and the calls of it go: nobody is to be told
use Rattle.std.specs.Prelude.{cond, Bool, true, false, not, ◌==◌, ◌&&◌, Option, None, Some, is_some, Result, Ok}
use Rattle.std.specs.FinMap as map
use Rattle.std.specs.List.{AllByRecursion}
use Rattle.std.proofs.Common.{◌≡◌, ℕ, ◌+◌, List, [], ◌∷◌, append-nil, refl, sym, ◌∙◌, ap, subst}
use Rattle.std.proofs.lemmas.Bool.{eqb-true}
use Rattle.alp_base.specs.declared.ids.JoinNo.{JoinNo}
use Rattle.alp_base.specs.declared.ids.TransId.{TransId}
use Rattle.alp_journal.specs.declared.event.Event.TheVariants as event
use Rattle.alp_journal.specs.declared.message.Message.TheVariants as msg
use Rattle.alp_journal.specs.Account.{Account, state_of}
use Rattle.alp_journal.specs.Deeds.{Deed, Quits}
use Rattle.alp_journal.specs.Desk.{Waiting, file_trans, is_of_part, without}
use Rattle.alp_journal.specs.Holder.{Holder, Life}
use Rattle.alp_journal.specs.Moves.{refused_join}
use Rattle.alp_journal.specs.Ids.{same_trans}
use Rattle.alp_journal.specs.Participant.{Phase, Unseen, Joining, Active, Ready, Applied, Over}
use Rattle.alp_journal.specs.State.{State, state_deed}
use Rattle.alp_journal.proofs.IdLemmas.{same_trans-true}
use Rattle.alp_journal.proofs.RegisterSteps.{with_refused, refused_leads, refused_passed_leads}
use Rattle.alp_locks.specs.Tables.{Holders}
use Rattle.alp_locks.proofs.SoundLemmas.{each-filter, each-more}
use Rattle.alp_queue.specs.declared.waiter.Waiter.{Waiter}
use Rattle.alp_turns.specs.Queues.{request_at, queue_of}
use Rattle.alp_turns.proofs.MoveLemmas.{GoesIdle, queue_without}
use Rattle.alp_coord.specs.Coordinators.{count_of}
use Rattle.alp_vault.specs.Contents.{Contents}
use Rattle.alp_vault.specs.declared.vault.Vault.{Ghosts}
use Rattle.alp_worker.specs.declared.joins.Joins.{Joins}
use Rattle.alp_worker.specs.declared.live.LiveJoin.{LiveJoin}
use Rattle.alp_worker.specs.declared.live.Stage.TheVariants as stage
use Rattle.alp_worker.specs.Joins.{AreJoins, AreJoinsOf, with_quit}
use Rattle.alp_worker.specs.Lives.{join_at}
use Rattle.alp_node.specs.Arrivals.{join_of}
use Rattle.alp_node.specs.Noted.{AreNotesFor}
use Rattle.alp_node.specs.ServerState.{IsAs, IsAlike, IsWaitingAs, IsReady, IsReadyForMore}
use Rattle.alp_node.specs.Steps.{IsStepAs, told_answer}
use Rattle.alp_node.specs.Totals.{LiveMap}
use Rattle.alp_node.specs.Waits.{waiting, waiting_calls, without_calls_of, is_of, IsCallBy, IsWaitingCall, IsOfCalls}
use Rattle.alp_node.specs.declared.answer.Answer.{Answer}
use Rattle.alp_node.specs.declared.lives.Live.{Live}
use Rattle.alp_node.specs.declared.lock_counts.LockCounts.{LockCounts}
use Rattle.alp_node.specs.declared.server_state.ServerState.{ServerState}
use Rattle.alp_node.specs.declared.waits.WaitingCall.{WaitingCall}
use Rattle.alp_node.proofs.BesideLemmas.{AreNamed, part_alike}
use Rattle.alp_node.proofs.GoneLemmas.{calls_gone, each_left, idle_calls}
use Rattle.alp_node.proofs.JoinedLemmas.{phase_told, ready_named, asks_there}
use Rattle.alp_node.proofs.NoteLaw.{notes_stay}
use Rattle.alp_node.proofs.QuitLemmas.{asks, there, quit_kept, quit_ready, quit_noted}
use Rattle.alp_node.proofs.ReadyLemmas.{waits_ready, stepped_ready}
use Rattle.alp_node.proofs.SayLemmas.{said_step, quiet_step, silent_stepped}
use Rattle.alp_node.proofs.SingleLemmas.{its_part}
use Rattle.alp_node.proofs.WaitLemmas.{IsOwned, all_owned, asks_apart, filter_apart, idle_fewer}

-- ---- the calls of a client that has no live part of the transaction

module _ (client : ℕ) (t : TransId) (lives : LiveMap) (other : (l : Live) → map.get lives t ≡ Some l → (l.client == client) ≡ false) where
  -- none of them is a file call of a live part: nothing was asked for it in the table
  pub goes_idle : (h : Holder) (parts : Holders) → (map.get lives t ≡ None → h.lives t ≡ None) → (ws : List WaitingCall) → AreNamed ws → AllByRecursion (IsOwned lives) ws → AllByRecursion (GoesIdle h parts (is_of_part client t)) (waiting_calls ws)
  goes_idle h parts gone ws named owned = go (map.get lives t) refl
    where
      each : (l : Live) → map.get lives t ≡ Some l → (vs : List WaitingCall) → AreNamed vs → AllByRecursion (IsOwned lives) vs → AllByRecursion (GoesIdle h parts (is_of_part client t)) (waiting_calls vs)
      each l at [] n o = tt
      each l at (w ∷ vs) n o = (one, each l at vs n.1 o.1)
        where
          parted : (b c : Bool) → (b && c) ≡ true → (b ≡ true) × (c ≡ true)
          parted true true e = (refl, refl)
          parted true false e = let wrong : false ≡ true = e in cc
          parted false c e = let wrong : false ≡ true = e in cc

          by : (w.client == client) ≡ true → same_trans w.trans t ≡ true → (x : Option LockCounts) → w.counts ≡ x → IsCallBy w.call w.trans x → request_at h parts (waiting w) (file_trans w.call) ≡ []
          by mine its None e k = ap (request_at h parts (waiting w)) k.0
          by mine its (Some z) e k =
              let theirs : w.client ≡ l.client = o.0 l (ap (map.get lives) (same_trans-true w.trans t its) ∙ at) (ap is_some e) in
              let wrong : true ≡ false = sym mine ∙ ap (λ (n : ℕ). n == client) theirs ∙ other l at in
              cc

          one : is_of_part client t (waiting w) ≡ true → request_at h parts (waiting w) (file_trans w.call) ≡ []
          one e = (let both = parted (w.client == client) (same_trans w.trans t) (sym (part_alike client t w n.0) ∙ e) in by both.0 both.1 w.counts refl n.0)

      go : (o : Option Live) → map.get lives t ≡ o → AllByRecursion (GoesIdle h parts (is_of_part client t)) (waiting_calls ws)
      go None e = idle_calls h parts client t (gone e) ws named
      go (Some l) e = each l e ws named owned

-- ---- the step

module _ {V : Type 0} (G : Ghosts V) (k : ServerState V) (from : ℕ) (j : JoinNo) (t : TransId) (client : ℕ) (who : List ℕ) (found : join_of t (join_at k.joins.lives j) ≡ Some (record { join = j; trans = t; client = client; stage = stage.Joining who })) (up : k.is_down ≡ false)
    (ready : IsReadyForMore (G.serves k.vault) k) (joins : Joins) (quits : joins ≡ with_quit k.joins j) (deed : (s : State) → AreJoinsOf s k.joins → AreJoinsOf (state_deed s (Quits j t client None)) joins) where
  -- who is live of it is another client's
  other : (n : ℕ) → IsReady n (G.serves k.vault) k → (l : Live) → map.get k.lives t ≡ Some l → (l.client == client) ≡ false
  other n h l live = go (l.client == client) refl
    where
      go : (b : Bool) → (l.client == client) ≡ b → b ≡ false
      go false e = refl
      go true e =
          let wrong : false ≡ true = its_part k.servers k.server k.coordinator k.joins k.lives h.paired h.joins.single j (asks k j t client who found) (there k j t client who found) l live (eqb-true l.client client e) in
          cc

  refused_ready : (n : ℕ) → IsReady n (G.serves k.vault) k → IsReady (n + 1) (G.serves k.vault) (record k { joins = joins; waits = without_calls_of client t k.waits })
  refused_ready n h =
      subst (λ (js : Joins). IsReady (n + 1) (G.serves k.vault) (record k { joins = js; waits = without_calls_of client t k.waits })) (sym quits)
      (stepped_ready n (G.serves k.vault) (record (quit_kept k j t client who found) { waits = without_calls_of client t k.waits })
      (waits_ready n (G.serves k.vault) (quit_kept k j t client who found) (without_calls_of client t k.waits) (record {
        calls = each-filter (IsWaitingCall k.server k.epoch k.given (count_of k.coordinator) k.sizes k.lives) (λ w. not (is_of client t w)) k.waits h.waits.calls;
        apart = filter_apart (λ w. not (is_of client t w)) k.waits h.waits.apart;
        queued = each-more (IsOfCalls k.server k.epoch k.given k.lives k.waits) (IsOfCalls k.server k.epoch k.given k.lives (without_calls_of client t k.waits))
            (λ x o. record { live = o.live; asks = asks_apart client t k.lives k.waits x.trans (other n h) o.live (all_owned k.server k.epoch k.given (count_of k.coordinator) k.sizes k.lives k.waits h.waits.calls) o.asks; beyond = o.beyond }) k.locks.waiting h.waits.queued;
      }) (idle_fewer (λ w. not (is_of client t w)) (with_quit k.joins j).lives k.waits (quit_ready k j t client who found n (G.serves k.vault) h).idle) (quit_ready k j t client who found n (G.serves k.vault) h)))

  refused_as : (a : Account) (held : Contents) (h : IsAs a held k) → IsAs (with_refused a from t j client who) held (record k { joins = joins; waits = without_calls_of client t k.waits })
  refused_as a held h =
      let asking : a.phases j ≡ Joining t client who = phase_told a held k j (asks k j t client who found) h (there k j t client who found) in
      let leads = refused_leads a from t j client who h.quiet (h.down ∙ up) asking in
      let named : AreNamed k.waits = ready_named (G.serves k.vault) k ready in
      record {
        server = h.server;
        servers = h.servers;
        sizes = h.sizes;
        epoch = h.epoch;
        clock = h.clock;
        cells = h.cells;
        sized = h.sized;
        notes = λ on. notes_stay a (with_refused a from t j client who) (record { event = event.Arrive from (msg.JoinRefused t j); reply = None; acts = [] }) h.quiet leads.lawful leads.leaves
            (λ e. (let wrong : event.Arrive from (msg.JoinRefused t j) ≡ event.Restart = e in cc)) refl tt a.ids.epoch held.notes (h.notes on);
        places = h.places;
        sessions = h.sessions;
        dead = h.dead;
        waits = ap (without (is_of_part client t)) h.waits ∙ calls_gone client t k.waits named;
        queue = h.queue ∙ sym (queue_without a.holder k.locks.held (is_of_part client t) a.waits
            (subst (AllByRecursion (GoesIdle a.holder k.locks.held (is_of_part client t))) (sym h.waits)
            (goes_idle client t k.lives (other ready.0 ready.2) a.holder k.locks.held (λ none. gone (map.get k.lives t) (a.holder.lives t) none (h.lives t)) k.waits named (all_owned k.server k.epoch k.given (count_of k.coordinator) k.sizes k.lives k.waits ready.2.waits.calls))));
        asked = each_left (IsWaitingAs a.holder a.locked) (λ (w : WaitingCall). not (is_of client t w)) k.waits h.asked;
        lives = h.lives;
        room = h.room;
        unborn = h.unborn;
        coordinator = h.coordinator;
        decided = h.decided;
        joins = subst (λ (js : List JoinNo). AreJoins a.holder.server a.ids.epoch a.ids.joins (with_refused a from t j client who).phases js joins) (append-nil a.joined) (deed (state_of a) h.joins);
        files = h.files;
        made = h.made;
        born = h.born;
        earlier = h.earlier;
        quiet = leads.quiet;
        down = h.down;
      }
    where
      gone : (o : Option Live) (z : Option Life) → o ≡ None → IsAlike a.holder.cells k.locks.held (a.locked t) t o z → z ≡ None
      gone None None e alike = refl
      gone None (Some z) e alike = absurd alike
      gone (Some l) z e alike = let wrong : Some l ≡ None = e in cc

  pub refused_step : (x : Answer) → x ≡ told_answer None [] → IsStepAs G None k (record k { joins = joins; waits = without_calls_of client t k.waits }) (event.Arrive from (msg.JoinRefused t j)) (Ok x)
  refused_step x so =
      said_step G k (record k { joins = joins; waits = without_calls_of client t k.waits }) (event.Arrive from (msg.JoinRefused t j)) x []
      (record { vault = refl; server = refl; servers = refl; sizes = refl; epoch = refl; clock = refl; sessions = refl; down = refl }) up so refl (λ before now allowance. tt) refused_ready
      (λ notes. subst (λ (js : Joins). AreNotesFor (record k { joins = js }) (G.held k.vault).notes) (sym quits) (quit_noted k j t client who found ready.0 (G.serves k.vault) ready.2 (G.held k.vault).notes notes))
      (λ a h. silent_stepped a (with_refused a from t j client who) (G.faults k.vault) (G.held k.vault) k (record k { joins = joins; waits = without_calls_of client t k.waits }) (event.Arrive from (msg.JoinRefused t j)) x [] h refl so
      (refused_leads a from t j client who h.quiet (h.down ∙ up) (phase_told a (G.held k.vault) k j (asks k j t client who found) h (there k j t client who found))) (refused_as a (G.held k.vault) h))

-- nothing comes of it where the join does not ask to be let in
pub unasked_step : {V : Type 0} (G : Ghosts V) (k : ServerState V) (from : ℕ) (j : JoinNo) (t : TransId) (x : Answer) → k.is_down ≡ false → x ≡ told_answer None []
    → ((client : ℕ) (who : List ℕ) → join_of t (join_at k.joins.lives j) ≡ Some (record { join = j; trans = t; client = client; stage = stage.Joining who }) → ⊥) → IsStepAs G None k k (event.Arrive from (msg.JoinRefused t j)) (Ok x)
unasked_step G k from j t x up so out = quiet_step G k (event.Arrive from (msg.JoinRefused t j)) x up so (λ a h. refused_passed_leads a from t j h.quiet (h.down ∙ up) (none a h (a.phases j) refl))
  where
    none : (a : Account) → IsAs a (G.held k.vault) k → (p : Phase) → a.phases j ≡ p → refused_join j t p ≡ []
    none a h (Joining u client who) is = go (same_trans u t) refl
      where
        go : (b : Bool) → same_trans u t ≡ b → cond {A = List Deed} b (Quits j t client None ∷ []) [] ≡ []
        go false e = refl
        go true e = absurd (out client who (asks_there a (G.held k.vault) k t j client who h (is ∙ ap (λ (v : TransId). Joining v client who) (same_trans-true u t e))))
    none a h Unseen is = refl
    none a h (Active u client who) is = refl
    none a h (Ready u client ts) is = refl
    none a h (Applied u stamp) is = refl
    none a h Over is = refl
