-- a step whose part ended
use Rattle.std.specs.Prelude.{cond, Bool, true, false, ◌||◌, IsTrue, None, Some, Ok}
use Rattle.std.proofs.Common.{◌≡◌, ℕ, ◌+◌, ◌≤◌, List, [], ◌∷◌, ◌++◌, refl, sym, ◌∙◌, ap, subst, arith}
use Rattle.alp_base.specs.Allowances.{Spends}
use Rattle.alp_base.specs.declared.ids.TransId.{TransId}
use Rattle.alp_files.specs.declared.call.Call.{Call}
use Rattle.alp_files.specs.declared.reply.Reply.TheVariants as reply
use Rattle.alp_files.specs.declared.refusal.Refusal.{Refusal}
use Rattle.alp_files.specs.declared.refusal.Refusal.TheVariants as refusal
use Rattle.alp_files.specs.declared.refusal.Cause.{Cause}
use Rattle.std.specs.List.{list_any}
use Rattle.alp_base.specs.declared.allowance.Allowance.{Allowance}
use Rattle.alp_files.specs.declared.reply.Reply.{Reply}
use Rattle.alp_journal.specs.declared.act.Act.{Act}
use Rattle.alp_journal.specs.declared.act.Act.TheVariants as act
use Rattle.alp_journal.specs.Moves.{is_stop}
use Rattle.alp_journal.specs.Answered.{is_read_fault}
use Rattle.alp_vault.specs.Vault.{IsSameVault}
use Rattle.alp_node.specs.Durable.{IsSaidBy, Leaves, Besides}
use Rattle.alp_node.specs.Halts.{HaveCauses, says_shut}
use Rattle.alp_node.proofs.SeatLemmas.{KeepsNotes, left_alone, left_step_as, left_step}
use Rattle.alp_journal.specs.declared.event.Event.{Event}
use Rattle.alp_journal.specs.declared.event.Event.TheVariants as event
use Rattle.alp_journal.specs.Account.{Account, state_of}
use Rattle.alp_journal.specs.Coordinator.{Fate, Undrawn, Running, Finishing, Committed, Forgotten, Ended}
use Rattle.alp_journal.specs.Coordinator as fate
use Rattle.alp_journal.specs.Deeds.{Begins, Ends}
use Rattle.alp_journal.specs.Ids.{same_trans}
use Rattle.alp_coord.specs.declared.coordinator.Coordinator.{Coordinator}
use Rattle.alp_coord.specs.Coordinators.{IsAlong, Comes, fate_in, next_id}
use Rattle.alp_vault.specs.declared.vault.Vault.{Ghosts}
use Rattle.alp_node.specs.ServerState.{IsAs, IsReady}
use Rattle.alp_node.specs.Steps.{Stepped, IsStepAs, IsStep, IsTurn, counted_in, ended, told_answer, refused_answer, entry_of}
use Rattle.alp_node.specs.Turns.{IsInSession, HasTurned}
use Rattle.alp_worker.specs.declared.joins.Joins.{Joins}
use Rattle.alp_node.specs.declared.answer.Answer.{Answer}
use Rattle.alp_node.specs.declared.server_state.ServerState.{ServerState}
use Rattle.alp_node.specs.declared.sessions.CallOrder.TheVariants as order
use Rattle.alp_node.specs.declared.sessions.Turn.{Turn}
use Rattle.alp_node.proofs.GivenLemmas.{counts_none, counts_down, reply_given, calm_given}
use Rattle.alp_node.proofs.ReadyLemmas.{own_lets, counted_ready, down_ready}
use Rattle.alp_node.proofs.ReleaseLemmas.{ended_ready, ended_as, ended_of, let_go_voters, grants_go_with, grants_caused_with}
use Rattle.alp_base.specs.Notes.{Notes}
use Rattle.std.specs.FinMap as map
use Rattle.alp_node.specs.declared.lives.Live.{Live}
use Rattle.alp_node.proofs.NotedLemmas.{noted_on, noted_decided, voters_put}
use Rattle.alp_node.proofs.PairedLemmas.{own_unjoined}
use Rattle.alp_node.specs.Noted.{AreNoted, AreNotesFor, decision_kept}
use Rattle.alp_node.specs.Releases.{grant_acts, let_go}
use Rattle.alp_node.proofs.TransactionLemmas.{lets_end}
use Rattle.alp_node.proofs.TurnLemmas.{counts_refused}

-- a step in which the vault was stopped, or failed in its commit
module _ {V : Type 0} (G : Ghosts V) (k new : ServerState V) (v : V) where
  pub down_step : (turn : Turn) (c : Call) (x : Answer) (acts : List Act) → IsSameVault G.tells G.volume G.server G.servers k.vault v → Spends (G.allowance k.vault) (G.allowance v) → G.serves v ≡ false → G.faults k.vault ≤ G.faults v
      → new ≡ record k { is_down = true; vault = v }
      → x ≡ refused_answer refusal.Down acts → list_any is_stop acts ≡ true → HaveCauses (G.faults k.vault) (G.faults v) (G.allowance v) acts
      → (IsTrue (G.tells k.vault) → (a : Account) → IsAs a (G.held k.vault) k
      → Stepped a (G.faults k.vault) (G.faults v) (G.held v) (record k { is_down = true; vault = v }) (event.Call turn.client k.epoch turn.number c) x)
      → (IsTrue (G.tells k.vault) → (a : Account) → IsAs a (G.held k.vault) k
      → Leaves G k.vault v (Besides G k.vault (IsSaidBy (state_of a) (entry_of (event.Call turn.client k.epoch turn.number c) x))))
      → IsStep G k new (event.Call turn.client k.epoch turn.number c) (Ok x)
  down_step turn c x acts same spends off later down so stop causes steps leaves =
      subst (λ (y : ServerState V). IsStep G k y (event.Call turn.client k.epoch turn.number c) (Ok x)) (sym down) (record {
        stepped = steps;
        given = reply_given (G.faults k.vault) (G.faults v) (G.allowance v) true (reply.Refused refusal.Down) acts x so (counts_down (G.faults k.vault) (G.faults v) later) (sym stop) causes;
        ready = λ n h. down_ready n (G.serves k.vault) (G.serves v) k v off h;
        noted = λ h e. (let wrong : true ≡ false = e in cc);
        still = tt;
        seat = record { server = refl; servers = refl; sizes = refl; epoch = refl; same = same; spends = spends };
        turned = λ up. cc;
        leaves = leaves;
      })

-- a step that leaves the vault alone
module _ {V : Type 0} (G : Ghosts V) (k new : ServerState V) where
  pub plain_step : (turn : Turn) (c : Call) (x : Answer) (r : Reply) (acts : List Act) → new.vault ≡ k.vault → new.server ≡ k.server → new.servers ≡ k.servers → new.sizes ≡ k.sizes → new.epoch ≡ k.epoch → k.is_down ≡ false → new.is_down ≡ false → KeepsNotes k new → (is_read_fault (Some r) || says_shut (Some r)) ≡ false
      → x ≡ told_answer (Some r) acts → list_any is_stop acts ≡ false → ((before now : ℕ) (allowance : Allowance) → HaveCauses before now allowance acts)
      → ((n : ℕ) → IsReady n (G.serves k.vault) k → IsReady (n + 1) (G.serves k.vault) new)
      → (IsTrue (G.tells k.vault) → (a : Account) → IsAs a (G.held k.vault) k → Stepped a (G.faults k.vault) (G.faults k.vault) (G.held k.vault) new (event.Call turn.client k.epoch turn.number c) x)
      → HasTurned (Some order.Next) k new (event.Call turn.client k.epoch turn.number c) (Some r)
      → IsStep G k new (event.Call turn.client k.epoch turn.number c) (Ok x)
  plain_step turn c x r acts vault server servers sizes epoch was up keeps quiet so none causes ready steps turned =
      left_step G k new server servers sizes epoch (left_alone G k.vault new.vault vault) (event.Call turn.client k.epoch turn.number c) x was keeps
      (λ told a h. subst (λ (v : V). Stepped a (G.faults k.vault) (G.faults v) (G.held v) new (event.Call turn.client k.epoch turn.number c) x) (sym vault) (steps told a h))
      (reply_given (G.faults k.vault) (G.faults new.vault) (G.allowance new.vault) new.is_down r acts x so (counts_none (G.faults k.vault) (G.faults new.vault) new.is_down (Some r) quiet (ap G.faults vault) up) (up ∙ sym none) (causes (G.faults k.vault) (G.faults new.vault) (G.allowance new.vault)))
      (λ n h. subst (λ (v : V). IsReady (n + 1) (G.serves v) new) (sym vault) (ready n h))
      (λ on. subst (λ (y : Answer). HasTurned (Some order.Next) k new (event.Call turn.client k.epoch turn.number c) y.kept) (sym so) turned)

  -- the call is refused, and the session counts it
  pub refused_step : (turn : Turn) (c : Call) (x : Answer) (f : Refusal) → (is_read_fault (Some (reply.Refused f)) || says_shut (Some (reply.Refused f))) ≡ false → IsTurn k.sessions turn → k.is_down ≡ false → new ≡ record k { sessions = counted_in k.sessions turn (reply.Refused f) } → x ≡ refused_answer f []
      → (IsTrue (G.tells k.vault) → (a : Account) → IsAs a (G.held k.vault) k → Stepped a (G.faults k.vault) (G.faults k.vault) (G.held k.vault) (record k { sessions = counted_in k.sessions turn (reply.Refused f) }) (event.Call turn.client k.epoch turn.number c) x)
      → IsInSession (reply.Refused f)
      → IsStep G k new (event.Call turn.client k.epoch turn.number c) (Ok x)
  refused_step turn c x f quiet is up same so steps inside =
      plain_step turn c x (reply.Refused f) [] (ap (λ (y : ServerState V). y.vault) same) (ap (λ (y : ServerState V). y.server) same) (ap (λ (y : ServerState V). y.servers) same) (ap (λ (y : ServerState V). y.sizes) same) (ap (λ (y : ServerState V). y.epoch) same) up (ap (λ (y : ServerState V). y.is_down) same ∙ up) (subst (KeepsNotes k) (sym same) (λ ns h. h)) quiet so refl
      (λ m n b. tt) (λ n h. subst (λ (y : ServerState V). IsReady (n + 1) (G.serves k.vault) y) (sym same) (counted_ready n (G.serves k.vault) k turn (reply.Refused f) is (record { inside = inside; times = tt }) h))
      (λ told a h. subst (λ (y : ServerState V). Stepped a (G.faults k.vault) (G.faults k.vault) (G.held k.vault) y (event.Call turn.client k.epoch turn.number c) x) (sym same) (steps told a h))
      (counts_refused k new turn is c f inside (ap (λ (y : ServerState V). y.clock) same) (ap (λ (y : ServerState V). y.sessions) same))

  -- an event that is met with silence
  pub silent_step : (e : Event) (x : Answer) (acts : List Act) → new.vault ≡ k.vault → new.server ≡ k.server → new.servers ≡ k.servers → new.sizes ≡ k.sizes → new.epoch ≡ k.epoch → k.is_down ≡ false → new.is_down ≡ false → KeepsNotes k new
      → x ≡ told_answer None acts
      → list_any is_stop acts ≡ false → ((before now : ℕ) (allowance : Allowance) → HaveCauses before now allowance acts) → ((n : ℕ) → IsReady n (G.serves k.vault) k → IsReady (n + 1) (G.serves k.vault) new)
      → ((a : Account) → IsAs a (G.held k.vault) k → Stepped a (G.faults k.vault) (G.faults k.vault) (G.held k.vault) new e x)
      → new.clock ≡ k.clock → new.sessions ≡ k.sessions → IsStepAs G None k new e (Ok x)
  silent_step e x acts vault server servers sizes epoch was up keeps so none causes ready steps clock sessions =
      left_step_as G k new server servers sizes epoch (left_alone G k.vault new.vault vault) None e x was keeps
      (λ told a h. subst (λ (v : V). Stepped a (G.faults k.vault) (G.faults v) (G.held v) new e x) (sym vault) (steps a h))
      (calm_given (G.faults k.vault) (G.faults new.vault) (G.allowance new.vault) new.is_down None None acts x so refl refl refl (ap G.faults vault) up (up ∙ sym none) (causes (G.faults k.vault) (G.faults new.vault) (G.allowance new.vault)))
      (λ n h. subst (λ (v : V). IsReady (n + 1) (G.serves v) new) (sym vault) (ready n h))
      (λ on. subst (λ (y : Answer). HasTurned None k new e y.kept) (sym so) (record { later = omega (arith, clock); times = tt; sessions = sessions; pages = tt }))

  -- A part of this server's own ends without effect, others have its locks, and these messages go to its parts elsewhere.
  pub ended_step : (turn : Turn) (t : TransId) (ts : List TransId) (sent : List Act) (c : Call) (cause : Cause) (x : Answer) (z : Coordinator) → IsAlong k.coordinator z → ((client : ℕ) → Comes (Ends t client cause) k.coordinator z) → t.server ≡ k.server → IsTurn k.sessions turn → k.is_down ≡ false
      → new ≡ record (ended k turn t (reply.Refused (refusal.Aborted cause))) { coordinator = z } → x ≡ refused_answer (refusal.Aborted cause) ((act.Released t ∷ grant_acts ts) ++ sent)
      → list_any is_stop sent ≡ false → ((before now : ℕ) (allowance : Allowance) → HaveCauses before now allowance sent) → KeepsNotes k (record (ended k turn t (reply.Refused (refusal.Aborted cause))) { coordinator = z })
      → (IsTrue (G.tells k.vault) → (a : Account) → IsAs a (G.held k.vault) k
      → Stepped a (G.faults k.vault) (G.faults k.vault) (G.held k.vault) (record (ended k turn t (reply.Refused (refusal.Aborted cause))) { coordinator = z }) (event.Call turn.client k.epoch turn.number c) x)
      → IsStep G k new (event.Call turn.client k.epoch turn.number c) (Ok x)
  ended_step turn t ts sent c cause x z along ends own is up done so calm causes keeps steps =
      let r : Reply = reply.Refused (refusal.Aborted cause) in
      plain_step turn c x r ((act.Released t ∷ grant_acts ts) ++ sent) (ap (λ (y : ServerState V). y.vault) done ∙ ended_as k turn t r (λ (y : ServerState V). y.vault)) (ap (λ (y : ServerState V). y.server) done ∙ ended_as k turn t r (λ (y : ServerState V). y.server))
      (ap (λ (y : ServerState V). y.servers) done ∙ ended_as k turn t r (λ (y : ServerState V). y.servers))
      (ap (λ (y : ServerState V). y.sizes) done ∙ ended_as k turn t r (λ (y : ServerState V). y.sizes)) (ap (λ (y : ServerState V). y.epoch) done ∙ ended_as k turn t r (λ (y : ServerState V). y.epoch)) up
      (ap (λ (y : ServerState V). y.is_down) done ∙ ended_as k turn t r (λ (y : ServerState V). y.is_down) ∙ up) (subst (KeepsNotes k) (sym done) keeps) refl so (grants_go_with ts sent calm)
      (λ m n b. grants_caused_with m n b ts sent (causes m n b))
      (λ n h. subst (λ (y : ServerState V). IsReady (n + 1) (G.serves k.vault) y)
      (ap (λ (js : Joins). record (ended k turn t r) { coordinator = z; joins = js }) (sym (ended_as k turn t r (λ (y : ServerState V). y.joins))) ∙ sym done)
      (ended_ready n k t z k.joins turn (G.serves k.vault) r (own_lets n (G.serves k.vault) k t z k.clock (lets_end k.coordinator z t cause k.clock along ends h.times) own h) is (record { inside = tt; times = tt }) h))
      (λ told a h. subst (λ (y : ServerState V). Stepped a (G.faults k.vault) (G.faults k.vault) (G.held k.vault) y (event.Call turn.client k.epoch turn.number c) x) (sym done) (steps told a h))
      (counts_refused k new turn is c (refusal.Aborted cause) tt (ap (λ (y : ServerState V). y.clock) done ∙ ended_as k turn t r (λ (y : ServerState V). y.clock)) (ap (λ (y : ServerState V). y.sessions) done))

-- what its notes tell of stays as its part goes: of a decision without parts elsewhere, or of none, there is no note
pub ended_notes : {V : Type 0} (n : ℕ) (serves : Bool) (k : ServerState V) (turn : Turn) (t : TransId) (r : Reply) (z : Coordinator) → IsReady n serves k → t.server ≡ k.server → ((u : TransId) → decision_kept (fate_in z u) ≡ decision_kept (fate_in k.coordinator u))
    → KeepsNotes k (record (ended k turn t r) { coordinator = z })
ended_notes n serves k turn t r z h own same notes are =
    subst (λ (y : ServerState _). AreNotesFor y notes) (ap (λ (y : ServerState _). record y { coordinator = z }) (sym (ended_of k turn t r)))
    (noted_decided k.server k.servers k.epoch (let_go k t).lives k.joins k.coordinator z notes same
    (noted_on k.lives (let_go k t).lives k.server k.servers k.epoch k.joins k.coordinator notes (let_go_voters n serves k t h own) are))

-- nor is there a note of one that begins, or of its part
pub begun_notes : {V : Type 0} (n : ℕ) (serves : Bool) (k : ServerState V) (client seen : ℕ) (who : List ℕ) (l : Live) (z : Coordinator) → IsReady n serves k → Comes (Begins (next_id k.coordinator) client who seen) k.coordinator z → (notes : Notes) → AreNotesFor k notes
    → AreNoted k.server k.servers k.epoch (map.insert k.lives (next_id k.coordinator) l) k.joins z notes
begun_notes n serves k client seen who l z h comes notes are =
    noted_decided k.server k.servers k.epoch (map.insert k.lives t l) k.joins k.coordinator z notes (λ u. ap decision_kept (comes u) ∙ go u (same_trans t u))
    (noted_on k.lives (map.insert k.lives t l) k.server k.servers k.epoch k.joins k.coordinator notes
    (voters_put k.lives t l k.joins.lives (λ j x at voted. own_unjoined k.servers k.server k.coordinator k.joins k.lives h.paired t h.seat.0 j x at)) are)
  where
    t : TransId
    t = next_id k.coordinator

    this : (f : Fate) → decision_kept (fate.begun client f) ≡ decision_kept f
    this Undrawn = refl
    this (Running c js) = refl
    this (Finishing c js vs) = refl
    this (Committed s js ds) = refl
    this (Forgotten s js) = refl
    this (Ended c) = refl

    go : (u : TransId) (b : Bool) → decision_kept (cond {A = Fate} b (fate.begun client (fate_in k.coordinator u)) (fate_in k.coordinator u)) ≡ decision_kept (fate_in k.coordinator u)
    go u true = this (fate_in k.coordinator u)
    go u false = refl

-- there is none of one that ends
pub ends_kept : (c z : Coordinator) (t : TransId) (cause : Cause) → ((client : ℕ) → Comes (Ends t client cause) c z) → (u : TransId) → decision_kept (fate_in z u) ≡ decision_kept (fate_in c u)
ends_kept c z t cause ends u = ap decision_kept (ends 0 u) ∙ go (same_trans t u) (fate_in c u)
  where
    go : (b : Bool) (f : Fate) → decision_kept (cond {A = Fate} b (fate.ended cause f) f) ≡ decision_kept f
    go false f = refl
    go true Undrawn = refl
    go true (Running m js) = refl
    go true (Finishing m js vs) = refl
    go true (Committed s js ds) = refl
    go true (Forgotten s js) = refl
    go true (Ended why) = refl
