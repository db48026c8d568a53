-- a transaction of this server that was not decided ends: its client is to be told, and its parts elsewhere are
use Rattle.std.specs.Prelude.{cond, Bool, true, false, ◌==◌, ◌&&◌, Option, None, Some, is_some, Result, Ok, Err, IfOk, OnOk, OnErr}
use Rattle.std.specs.FinMap as map
use Rattle.std.specs.List.{list_any}
use Rattle.std.proofs.Common.{◌≡◌, ℕ, ◌+◌, List, [], ◌∷◌, ◌++◌, refl, sym, ◌∙◌, ap, subst}
use Rattle.alp_base.specs.declared.allowance.Allowance.{Allowance}
use Rattle.alp_base.specs.declared.ids.JoinNo.{JoinNo}
use Rattle.alp_base.specs.declared.ids.TransId.{TransId}
use Rattle.alp_base.specs.declared.memory.OutOfMemory.{OutOfMemory}
use Rattle.alp_files.specs.declared.refusal.Cause.{Cause}
use Rattle.alp_files.specs.declared.refusal.Cause.TheVariants as cause
use Rattle.alp_files.specs.declared.refusal.Why.{Why}
use Rattle.alp_journal.specs.declared.act.Act.{Act}
use Rattle.alp_journal.specs.declared.act.Act.TheVariants as act
use Rattle.alp_journal.specs.declared.event.Event.{Event}
use Rattle.alp_journal.specs.declared.event.Event.TheVariants as event
use Rattle.alp_journal.specs.declared.message.Message.TheVariants as msg
use Rattle.alp_journal.specs.Account.{Account, state_of, IsQuiet, Leads, with_granted, granted_calls, grant_acts, sent_acts}
use Rattle.alp_journal.specs.Along.{Where}
use Rattle.alp_journal.specs.Answered.{in_turn, IsWalk}
use Rattle.alp_journal.specs.Coordinator.{Fate, Undrawn, Finishing, Committed, Vote, client_of, joins_of}
use Rattle.alp_journal.specs.Coordinator as fate
use Rattle.alp_journal.specs.Counts.{lock_set}
use Rattle.alp_journal.specs.Deeds.{Deed, Ends}
use Rattle.alp_journal.specs.Holder.{Life, with_life}
use Rattle.alp_journal.specs.Ids.{same_trans, has_join}
use Rattle.alp_journal.specs.Messages.{Mail, to_each, on_no}
use Rattle.alp_journal.specs.Moves.{is_stop, refuses}
use Rattle.alp_journal.proofs.TimeoutLemmas.{timeout_leads}
use Rattle.alp_journal.proofs.DecisionSteps.{no_passed_leads, no_leads}
use Rattle.alp_coord.specs.Coordinators.{IsAlong, Comes, fate_in, is_finishing_fate}
use Rattle.alp_coord.specs.Likeness.{IsLike, IsLikeOld, IsFateOf, is_over, standing, nothing}
use Rattle.alp_coord.specs.Likeness as like
use Rattle.alp_coord.specs.declared.coordinator.Coordinator.{Coordinator}
use Rattle.alp_locks.specs.Releases.{released}
use Rattle.alp_vault.specs.Contents.{Contents}
use Rattle.alp_vault.specs.declared.vault.Vault.{Ghosts}
use Rattle.alp_worker.specs.declared.live.LiveJoin.{LiveJoin}
use Rattle.alp_worker.specs.Lives.{join_at}
use Rattle.alp_node.specs.Durable.{AreNotesOf}
use Rattle.alp_node.specs.Halts.{HaveCauses}
use Rattle.alp_node.specs.Noted.{AreNoted, AreNotesFor}
use Rattle.alp_node.specs.Releases.{granted_behind, let_go}
use Rattle.alp_node.specs.Says.{said_each}
use Rattle.alp_node.specs.ServerState.{IsAs, IsReady, IsReadyForMore}
use Rattle.alp_node.specs.Steps.{IsStepAs, Stepped, told_answer}
use Rattle.alp_node.specs.declared.answer.Answer.{Answer}
use Rattle.alp_node.specs.declared.dead.DeadPart.{DeadPart}
use Rattle.alp_node.specs.declared.lives.Live.{Live}
use Rattle.alp_node.specs.declared.server_state.ServerState.{ServerState}
use Rattle.alp_node.proofs.AskVotes.{each_goes_on, each_caused}
use Rattle.alp_node.proofs.ClearLemmas.{running_told}
use Rattle.alp_node.proofs.DeadLemmas.{dead_then}
use Rattle.alp_node.proofs.EndingLemmas.{said_is}
use Rattle.alp_node.proofs.GoneLemmas.{Gone, gone, state_then, server_then, let_go_is, left_as}
use Rattle.alp_node.proofs.JoinMoves.{same_some}
use Rattle.alp_node.proofs.KeptLemmas.{IsLive, live_there, ended_decision}
use Rattle.alp_node.proofs.NoteCalls.{grants_write, sent_write}
use Rattle.alp_node.proofs.NoteLaw.{is_write, AbortsNoVote, notes_stay}
use Rattle.alp_node.proofs.NotedLemmas.{noted_on, noted_decided}
use Rattle.alp_node.proofs.PairedLemmas.{own_unjoined, running_part}
use Rattle.alp_node.proofs.ReadyLemmas.{own_lets, stepped_ready}
use Rattle.alp_node.proofs.ReleaseLemmas.{let_go_of, let_go_voters, late_ready, grants_go_with, grants_caused_with}
use Rattle.alp_node.proofs.SayLemmas.{said_step, quiet_step, silent_stepped, still_wanting}
use Rattle.alp_node.proofs.StepLemmas.{ends_kept}
use Rattle.alp_node.proofs.TransactionLemmas.{lets_end, ended_by}

-- a transaction that is finishing is so in the journal, whoever voted in whatever order
pub record IsFinishingSo (client : ℕ) (js : List JoinNo) (f : Fate) : Type 0 where
  pub votes : List Vote
  pub is : f ≡ Finishing client js votes

pub finishing_told : (epoch : ℕ) (t : TransId) (known told : Fate) (client : ℕ) (js : List JoinNo) (vs : List Vote) → IsFateOf epoch t known told → known ≡ Finishing client js vs → IsFinishingSo client js told
finishing_told epoch t known told client js vs h is = go (t.epoch == epoch) h is
  where
    joins_in : Fate → List JoinNo
    joins_in (Finishing c ks ws) = ks
    joins_in f = []

    client_in : Fate → ℕ
    client_in (Finishing c ks ws) = c
    client_in f = 0

    alike : (f g : Fate) → IsLike f g → f ≡ Finishing client js vs → IsFinishingSo client js g
    alike _ _ (like.same f) e = record { votes = vs; is = e }
    alike _ _ (like.finishing c ks ws xs k) e = record { votes = xs; is = λ i. Finishing (ap client_in e i) (ap joins_in e i) xs }
    alike _ _ (like.committed s ks ds es k) e = absurd (let wrong : Committed s ks ds ≡ Finishing client js vs = e in cc)

    old : (f g : Fate) → IsLikeOld f g → f ≡ Finishing client js vs → IsFinishingSo client js g
    old _ _ (standing s j ks ds es k) e = absurd (let wrong : Committed s (j ∷ ks) ds ≡ Finishing client js vs = e in cc)
    old _ _ (nothing f over) e = absurd (let wrong : Undrawn ≡ Finishing client js vs = e in cc)

    go : (b : Bool) → Where b (IsLike known told) (IsLikeOld known told) → known ≡ Finishing client js vs → IsFinishingSo client js told
    go true k e = alike known told k e
    go false k e = old known told k e

-- ---- by what the journal says

module _ {V : Type 0} (a : Account) (held : Contents) (k : ServerState V) (m : ℕ) (on : Bool) (h : IsAs a held k) (ready : IsReady m on k) (t : TransId) (client : ℕ) (c : Cause) (z : Coordinator) where
  -- it ended, its part is gone, and what that held is given on
  abbrev pub lapsed_given : Account
  lapsed_given = with_granted (record a {
    holder = with_life a.holder t None;
    fates = λ u. cond {A = Fate} (same_trans t u) (fate.ended c (a.fates u)) (a.fates u);
    dead = λ e u. cond {A = Option Cause} (e == client && same_trans u t) (Some c) (a.dead e u);
    locked = lock_set a.locked t [];
    is_down = false;
    pending = [];
  }) (granted_calls a.waits (granted_behind k t))

  pub lapsed_walk : IsWalk (with_life a.holder t None) (in_turn (with_life a.holder t None) a.waits) (granted_behind k t)
  lapsed_walk = (let g : Gone a held k t = gone a held k t m on h ready in subst (λ (ts : List TransId). IsWalk (with_life a.holder t None) (in_turn (with_life a.holder t None) a.waits) ts) (sym g.woken) g.walk)

  pub lapsed_as : k.is_down ≡ false → IsAlong k.coordinator z → ((n : ℕ) → Comes (Ends t n c) k.coordinator z)
      → (AreNotesOf (state_of a) a.ids.epoch held.notes → AreNotesOf (state_of lapsed_given) a.ids.epoch held.notes) → IsQuiet lapsed_given
      → IsAs lapsed_given held (record (let_go k t) { dead = k.dead ++ (record { client = client; trans = t; cause = c }) ∷ []; coordinator = z })
  lapsed_as up along ends noted quiet =
      subst (λ (x : ServerState V). IsAs lapsed_given held x) (sym (ap (λ (x : ServerState V). record x { dead = k.dead ++ (record { client = client; trans = t; cause = c }) ∷ []; coordinator = z }) (let_go_is a held k t m on h ready (gone a held k t m on h ready))))
      (subst (λ (x : Account). IsAs x held (record k { lives = (server_then a held k t m on h ready (gone a held k t m on h ready)).lives; waits = (server_then a held k t m on h ready (gone a held k t m on h ready)).waits; locks = record (released k.locks t) { woken = [] }; dead = k.dead ++ (record { client = client; trans = t; cause = c }) ∷ []; coordinator = z })) same_state
      (left_as a held k t m on h ready (gone a held k t m on h ready) (λ u. cond {A = Fate} (same_trans t u) (fate.ended c (a.fates u)) (a.fates u)) a.phases a.sessions (λ e u. cond {A = Option Cause} (e == client && same_trans u t) (Some c) (a.dead e u))
      (state_then a held k t m on h ready (gone a held k t m on h ready)).waits k.sessions (k.dead ++ (record { client = client; trans = t; cause = c }) ∷ []) (server_then a held k t m on h ready (gone a held k t m on h ready)).waits z k.joins up
      (ended_by a.holder.server a.ids.epoch a.ids.transactions a.fates t c k.coordinator z along ends h.coordinator) h.joins (λ u. ended_decision (same_trans t u) c (a.fates u))
      (λ q. subst (λ (x : Account). AreNotesOf (state_of x) a.ids.epoch held.notes) (sym same_state) (noted q)) h.places h.sessions
      (λ d u. ap (λ (x : Option Cause). cond {A = Option Cause} (d == client && same_trans u t) (Some c) x) (h.dead d u) ∙ dead_then k.dead client t c d u)
      (gone a held k t m on h ready).all.waits (gone a held k t m on h ready).all.asked (gone a held k t m on h ready).queue (subst IsQuiet (sym same_state) quiet)))
    where
      same_state : record (state_then a held k t m on h ready (gone a held k t m on h ready)) { fates = λ u. cond {A = Fate} (same_trans t u) (fate.ended c (a.fates u)) (a.fates u); dead = λ e u. cond {A = Option Cause} (e == client && same_trans u t) (Some c) (a.dead e u); is_down = false; pending = [] } ≡ lapsed_given
      same_state = ap (with_granted (record a {
        holder = with_life a.holder t None;
        fates = λ u. cond {A = Fate} (same_trans t u) (fate.ended c (a.fates u)) (a.fates u);
        dead = λ e u. cond {A = Option Cause} (e == client && same_trans u t) (Some c) (a.dead e u);
        locked = lock_set a.locked t [];
        is_down = false;
        pending = [];
      })) (sym (ap (granted_calls a.waits) (gone a held k t m on h ready).woken ∙ (gone a held k t m on h ready).calls))

-- ---- the step

module _ {V : Type 0} (G : Ghosts V) (k : ServerState V) (t : TransId) (client : ℕ) (runs : client_of (fate_in k.coordinator t) ≡ Some client) (up : k.is_down ≡ false) (ready : IsReadyForMore (G.serves k.vault) k) (c : Cause) (z : Coordinator) (along : IsAlong k.coordinator z)
    (ends : (n : ℕ) → Comes (Ends t n c) k.coordinator z) where
  own : t.server ≡ k.server
  own = ready.2.paired.own t client runs

  -- its part
  pub own_part : (l : Live) × (map.get k.lives t ≡ Some l) × (l.client ≡ client) × (l.join ≡ None) × (is_some l.who ≡ true)
  own_part = running_part k.servers k.server k.coordinator k.joins k.lives ready.2.paired t client runs

  lapsed_ready : (n : ℕ) → IsReady n (G.serves k.vault) k → IsReady (n + 1) (G.serves k.vault) (record (let_go k t) { dead = k.dead ++ (record { client = client; trans = t; cause = c }) ∷ []; coordinator = z })
  lapsed_ready n h =
      stepped_ready n (G.serves k.vault) (record (let_go k t) { dead = k.dead ++ (record { client = client; trans = t; cause = c }) ∷ []; coordinator = z })
      (subst (λ (s : ServerState V). IsReady n (G.serves k.vault) s) (ap (λ (s : ServerState V). record s { dead = k.dead ++ (record { client = client; trans = t; cause = c }) ∷ []; coordinator = z }) (sym (let_go_of k t)))
      (subst (λ (s : ServerState V). IsReady n (G.serves k.vault) s) (ap (λ (s : ServerState V). record s { dead = k.dead ++ (record { client = client; trans = t; cause = c }) ∷ []; coordinator = z; joins = k.joins }) (let_go_of k t))
      (late_ready n k t z k.joins (G.serves k.vault) client c (λ j x at. neither (x.client == client) (same_trans x.trans t) (own_unjoined k.servers k.server k.coordinator k.joins k.lives h.paired t own j x at))
      (own_lets n (G.serves k.vault) k t z k.clock (lets_end k.coordinator z t c k.clock along ends h.times) own h) h)))
    where
      neither : (b d : Bool) → d ≡ false → (b && d) ≡ false
      neither true d e = e
      neither false d e = refl

  lapsed_noted : AreNotesFor k (G.held k.vault).notes → AreNotesFor (record (let_go k t) { dead = k.dead ++ (record { client = client; trans = t; cause = c }) ∷ []; coordinator = z }) (G.held k.vault).notes
  lapsed_noted q =
      subst (λ (s : ServerState V). AreNotesFor (record s { dead = k.dead ++ (record { client = client; trans = t; cause = c }) ∷ []; coordinator = z }) (G.held k.vault).notes) (sym (let_go_of k t))
      (noted_decided k.server k.servers k.epoch (let_go k t).lives k.joins k.coordinator z (G.held k.vault).notes (ends_kept k.coordinator z t c ends)
      (noted_on k.lives (let_go k t).lives k.server k.servers k.epoch k.joins k.coordinator (G.held k.vault).notes (let_go_voters ready.0 (G.serves k.vault) k t ready.2 own) q))

  pub lapse_step : (js : List JoinNo) (e : Event) (x : Answer) → x ≡ told_answer None ((act.Released t ∷ grant_acts (granted_behind k t)) ++ said_each (λ i. msg.Abort t i c) js)
      → ((a : Account) (h : IsAs a (G.held k.vault) k) (life : Life) → a.holder.lives t ≡ Some life → life.join ≡ None → life.client ≡ client
      → Leads false a (record { event = e; reply = None; acts = (act.Released t ∷ grant_acts (granted_behind k t)) ++ said_each (λ i. msg.Abort t i c) js }) (lapsed_given a (G.held k.vault) k ready.0 (G.serves k.vault) h ready.2 t client c z))
      → (e ≡ event.Restart → ⊥) → ((a : Account) → IsAs a (G.held k.vault) k → AbortsNoVote (state_of a) e)
      → IsStepAs G None k (record (let_go k t) { dead = k.dead ++ (record { client = client; trans = t; cause = c }) ∷ []; coordinator = z }) e (Ok x)
  lapse_step js e x said leads on aborts =
      said_step G k (record (let_go k t) { dead = k.dead ++ (record { client = client; trans = t; cause = c }) ∷ []; coordinator = z }) e x ((act.Released t ∷ grant_acts (granted_behind k t)) ++ said_each (λ i. msg.Abort t i c) js)
      (record {
        vault = ap (λ (s : ServerState V). s.vault) (let_go_of k t);
        server = ap (λ (s : ServerState V). s.server) (let_go_of k t);
        servers = ap (λ (s : ServerState V). s.servers) (let_go_of k t);
        sizes = ap (λ (s : ServerState V). s.sizes) (let_go_of k t);
        epoch = ap (λ (s : ServerState V). s.epoch) (let_go_of k t);
        clock = ap (λ (s : ServerState V). s.clock) (let_go_of k t);
        sessions = ap (λ (s : ServerState V). s.sessions) (let_go_of k t);
        down = ap (λ (s : ServerState V). s.is_down) (let_go_of k t);
      }) up said (grants_go_with (granted_behind k t) (said_each (λ i. msg.Abort t i c) js) (each_goes_on (λ i. msg.Abort t i c) js))
      (λ before now allowance. grants_caused_with before now allowance (granted_behind k t) (said_each (λ i. msg.Abort t i c) js) (each_caused (λ i. msg.Abort t i c) (λ i. tt) js before now allowance))
      lapsed_ready lapsed_noted (λ a h. by a h (its_life a h))
    where
      unwritten : (is : List JoinNo) → list_any is_write (said_each (λ i. msg.Abort t i c) is) ≡ false
      unwritten [] = refl
      unwritten (i ∷ is) = unwritten is

      its_life : (a : Account) (h : IsAs a (G.held k.vault) k) → IsLive a.holder.cells k.locks.held (a.locked t) t own_part.0 (a.holder.lives t)
      its_life a h = live_there a.holder.cells k.locks.held (a.locked t) t (map.get k.lives t) (a.holder.lives t) own_part.0 own_part.1 (h.lives t)

      by : (a : Account) (h : IsAs a (G.held k.vault) k) → IsLive a.holder.cells k.locks.held (a.locked t) t own_part.0 (a.holder.lives t)
          → Stepped a (G.faults k.vault) (G.faults k.vault) (G.held k.vault) (record (let_go k t) { dead = k.dead ++ (record { client = client; trans = t; cause = c }) ∷ []; coordinator = z }) e x
      by a h y =
          let m : Account = lapsed_given a (G.held k.vault) k ready.0 (G.serves k.vault) h ready.2 t client c z in
          let ok = leads a h y.life y.is (y.alike.join ∙ own_part.3) (y.alike.client ∙ own_part.2) in
          silent_stepped a m (G.faults k.vault) (G.held k.vault) k (record (let_go k t) { dead = k.dead ++ (record { client = client; trans = t; cause = c }) ∷ []; coordinator = z }) e x ((act.Released t ∷ grant_acts (granted_behind k t)) ++ said_each (λ i. msg.Abort t i c) js) h
          (ap (λ (s : ServerState V). s.clock) (let_go_of k t)) said ok
          (lapsed_as a (G.held k.vault) k ready.0 (G.serves k.vault) h ready.2 t client c z up along ends
          (notes_stay a m (record { event = e; reply = None; acts = (act.Released t ∷ grant_acts (granted_behind k t)) ++ said_each (λ i. msg.Abort t i c) js }) h.quiet ok.lawful ok.leaves on
          (grants_write (granted_behind k t) (said_each (λ i. msg.Abort t i c) js) (unwritten js)) (aborts a h) a.ids.epoch (G.held k.vault).notes) ok.quiet)

-- ---- a part elsewhere votes against the commit

pub finishing_known : (epoch : ℕ) (t : TransId) (known told : Fate) (client : ℕ) (js : List JoinNo) (vs : List Vote) → IsFateOf epoch t known told → told ≡ Finishing client js vs → IsFinishingSo client js known
finishing_known epoch t known told client js vs h is = go (t.epoch == epoch) h is
  where
    joins_in : Fate → List JoinNo
    joins_in (Finishing c ks ws) = ks
    joins_in f = []

    client_in : Fate → ℕ
    client_in (Finishing c ks ws) = c
    client_in f = 0

    alike : (f g : Fate) → IsLike f g → g ≡ Finishing client js vs → IsFinishingSo client js f
    alike _ _ (like.same f) e = record { votes = vs; is = e }
    alike _ _ (like.finishing c ks ws xs k) e = record { votes = ws; is = λ i. Finishing (ap client_in e i) (ap joins_in e i) ws }
    alike _ _ (like.committed s ks ds es k) e = absurd (let wrong : Committed s ks es ≡ Finishing client js vs = e in cc)

    old : (f g : Fate) → IsLikeOld f g → g ≡ Finishing client js vs → IsFinishingSo client js f
    old _ _ (standing s j ks ds es k) e = absurd (let wrong : Committed s (j ∷ ks) es ≡ Finishing client js vs = e in cc)
    old _ _ (nothing f over) e = absurd (let wrong : false ≡ true = ap is_over (sym e) ∙ over in cc)

    go : (b : Bool) → Where b (IsLike known told) (IsLikeOld known told) → told ≡ Finishing client js vs → IsFinishingSo client js known
    go true k e = alike known told k e
    go false k e = old known told k e

-- it is one of a transaction that is finishing
pub record IsAmong (j : JoinNo) (f : Fate) : Type 0 where
  pub client : ℕ
  pub joins : List JoinNo
  pub votes : List Vote
  pub is : f ≡ Finishing client joins votes
  pub its : has_join j joins ≡ true

pub finishing_shape : (f : Fate) (client : ℕ) → is_finishing_fate f ≡ true → client_of f ≡ Some client → IsFinishingSo client (joins_of f) f
finishing_shape Undrawn client e own = absurd (let wrong : false ≡ true = e in cc)
finishing_shape (fate.Running c js) client e own = absurd (let wrong : false ≡ true = e in cc)
finishing_shape (Finishing c js vs) client e own = record { votes = vs; is = ap (λ (n : ℕ). Finishing n js vs) (same_some c client own) }
finishing_shape (Committed s js ds) client e own = absurd (let wrong : false ≡ true = e in cc)
finishing_shape (fate.Forgotten s js) client e own = absurd (let wrong : false ≡ true = e in cc)
finishing_shape (fate.Ended c) client e own = absurd (let wrong : false ≡ true = e in cc)

module _ {V : Type 0} (G : Ghosts V) (k : ServerState V) (from : ℕ) (t : TransId) (j : JoinNo) (w : Why) (up : k.is_down ≡ false) where
  nothing_brought : (f : Fate) → (IsAmong j f → ⊥) → refuses t j (cause.Voted j.server w) f ≡ []
  nothing_brought Undrawn out = refl
  nothing_brought (fate.Running c js) out = refl
  nothing_brought (Finishing c js vs) out = go (has_join j js) refl
    where
      go : (b : Bool) → has_join j js ≡ b → cond {A = List Deed} b (Ends t c (cause.Voted j.server w) ∷ []) [] ≡ []
      go false e = refl
      go true e = absurd (out (record { client = c; joins = js; votes = vs; is = refl; its = e }))
  nothing_brought (Committed s js ds) out = refl
  nothing_brought (fate.Forgotten s js) out = refl
  nothing_brought (fate.Ended c) out = refl

  nothing_said : (f : Fate) → (IsAmong j f → ⊥) → on_no t j w f ≡ []
  nothing_said Undrawn out = refl
  nothing_said (fate.Running c js) out = refl
  nothing_said (Finishing c js vs) out = go (has_join j js) refl
    where
      go : (b : Bool) → has_join j js ≡ b → cond {A = List Mail} b (to_each (λ (i : JoinNo). msg.Abort t i (cause.Voted j.server w)) js) [] ≡ []
      go false e = refl
      go true e = absurd (out (record { client = c; joins = js; votes = vs; is = refl; its = e }))
  nothing_said (Committed s js ds) out = refl
  nothing_said (fate.Forgotten s js) out = refl
  nothing_said (fate.Ended c) out = refl

  -- it is none of a transaction that is finishing
  pub no_passed_step : (x : Answer) → (IsAmong j (fate_in k.coordinator t) → ⊥) → x ≡ told_answer None [] → IsStepAs G None k k (event.Arrive from (msg.No t j w)) (Ok x)
  no_passed_step x out so = quiet_step G k (event.Arrive from (msg.No t j w)) x up so
      (λ a h. no_passed_leads a from t j w h.quiet (h.down ∙ up) (nothing_brought (a.fates t) (told_out a h)) (nothing_said (a.fates t) (told_out a h)))
    where
      told_out : (a : Account) → IsAs a (G.held k.vault) k → IsAmong j (a.fates t) → ⊥
      told_out a h o =
          let s : IsFinishingSo o.client o.joins (fate_in k.coordinator t) = finishing_known a.ids.epoch t (fate_in k.coordinator t) (a.fates t) o.client o.joins o.votes (h.coordinator.fates t) o.is in
          out (record { client = o.client; joins = o.joins; votes = s.votes; is = s.is; its = o.its })

  -- its transaction ends
  pub no_step : (x : Answer) (client : ℕ) (js : List JoinNo) (vs : List Vote) → fate_in k.coordinator t ≡ Finishing client js vs → has_join j js ≡ true → IsReadyForMore (G.serves k.vault) k
      → (z : Coordinator) → IsAlong k.coordinator z → ((n : ℕ) → Comes (Ends t n (cause.Voted j.server w)) k.coordinator z)
      → x ≡ told_answer None ((act.Released t ∷ grant_acts (granted_behind k t)) ++ said_each (λ i. msg.Abort t i (cause.Voted j.server w)) js)
      → IsStepAs G None k (record (let_go k t) { dead = k.dead ++ (record { client = client; trans = t; cause = cause.Voted j.server w }) ∷ []; coordinator = z }) (event.Arrive from (msg.No t j w)) (Ok x)
  no_step x client js vs is its ready z along ends so =
      lapse_step G k t client (ap client_of is) up ready (cause.Voted j.server w) z along ends js (event.Arrive from (msg.No t j w)) x so leads (λ e. (let wrong : event.Arrive from (msg.No t j w) ≡ event.Restart = e in cc)) (λ a h. tt)
    where
      leads : (a : Account) (h : IsAs a (G.held k.vault) k) (life : Life) → a.holder.lives t ≡ Some life → life.join ≡ None → life.client ≡ client
          → Leads false a (record { event = event.Arrive from (msg.No t j w); reply = None; acts = (act.Released t ∷ grant_acts (granted_behind k t)) ++ said_each (λ i. msg.Abort t i (cause.Voted j.server w)) js })
          (lapsed_given a (G.held k.vault) k ready.0 (G.serves k.vault) h ready.2 t client (cause.Voted j.server w) z)
      leads a h life live part own =
          let s : IsFinishingSo client js (a.fates t) = finishing_told a.ids.epoch t (fate_in k.coordinator t) (a.fates t) client js vs (h.coordinator.fates t) is in
          subst (λ (acts : List Act). Leads false a (record { event = event.Arrive from (msg.No t j w); reply = None; acts = (act.Released t ∷ grant_acts (granted_behind k t)) ++ acts })
          (lapsed_given a (G.held k.vault) k ready.0 (G.serves k.vault) h ready.2 t client (cause.Voted j.server w) z)) (sym (said_is (λ i. msg.Abort t i (cause.Voted j.server w)) js))
          (no_leads a from t j w client js s.votes life h.quiet (h.down ∙ up) s.is its live part (granted_behind k t) (lapsed_walk a (G.held k.vault) k ready.0 (G.serves k.vault) h ready.2 t client (cause.Voted j.server w) z))

  -- or memory was wanting
  pub no_lapsed : (new : ServerState V) (r : Result Answer OutOfMemory) (client : ℕ) (js : List JoinNo) (vs : List Vote) → fate_in k.coordinator t ≡ Finishing client js vs → has_join j js ≡ true → IsReadyForMore (G.serves k.vault) k
      → OnOk r (new ≡ record (let_go k t) { dead = k.dead ++ (record { client = client; trans = t; cause = cause.Voted j.server w }) ∷ []; coordinator = new.coordinator })
      → OnOk r (IsAlong k.coordinator new.coordinator) → OnOk r ((n : ℕ) → Comes (Ends t n (cause.Voted j.server w)) k.coordinator new.coordinator)
      → IfOk r (λ x. x ≡ told_answer None ((act.Released t ∷ grant_acts (granted_behind k t)) ++ said_each (λ i. msg.Abort t i (cause.Voted j.server w)) js)) → OnErr r (new ≡ k)
      → IsStepAs G None k new (event.Arrive from (msg.No t j w)) r
  no_lapsed new (Ok x) client js vs is its ready kept along ends said wanting =
      subst (λ (s : ServerState V). IsStepAs G None k s (event.Arrive from (msg.No t j w)) (Ok x)) (sym kept) (no_step x client js vs is its ready new.coordinator along ends said)
  no_lapsed new (Err f) client js vs is its ready kept along ends said wanting =
      subst (λ (s : ServerState V). IsStepAs G None k s (event.Arrive from (msg.No t j w)) (Err f)) (sym wanting) (still_wanting G k (event.Arrive from (msg.No t j w)) f)

-- ---- time runs out for it

-- the journal knows its parts
pub parts_told : (epoch : ℕ) (t : TransId) (known told : Fate) (client : ℕ) → IsFateOf epoch t known told → client_of known ≡ Some client → joins_of told ≡ joins_of known
parts_told epoch t known told client h own = go known refl own
  where
    go : (f : Fate) → known ≡ f → client_of known ≡ Some client → joins_of told ≡ joins_of known
    go Undrawn is own = let wrong : None ≡ Some client = ap client_of (sym is) ∙ own in cc
    go (fate.Running c js) is own = ap joins_of (running_told epoch t known told c js h is) ∙ ap joins_of (sym is)
    go (Finishing c js vs) is own = ap joins_of (IsFinishingSo.is (finishing_told epoch t known told c js vs h is)) ∙ ap joins_of (sym is)
    go (Committed s js ds) is own = let wrong : None ≡ Some client = ap client_of (sym is) ∙ own in cc
    go (fate.Forgotten s js) is own = let wrong : None ≡ Some client = ap client_of (sym is) ∙ own in cc
    go (fate.Ended c) is own = let wrong : None ≡ Some client = ap client_of (sym is) ∙ own in cc

module _ {V : Type 0} (G : Ghosts V) (k : ServerState V) (t : TransId) (client : ℕ) (runs : client_of (fate_in k.coordinator t) ≡ Some client) (up : k.is_down ≡ false) (ready : IsReadyForMore (G.serves k.vault) k) where
  timeout_step : (x : Answer) (z : Coordinator) → IsAlong k.coordinator z → ((n : ℕ) → Comes (Ends t n cause.TimedOut) k.coordinator z)
      → x ≡ told_answer None ((act.Released t ∷ grant_acts (granted_behind k t)) ++ said_each (λ i. msg.Abort t i cause.TimedOut) (joins_of (fate_in k.coordinator t)))
      → IsStepAs G None k (record (let_go k t) { dead = k.dead ++ (record { client = client; trans = t; cause = cause.TimedOut }) ∷ []; coordinator = z }) (event.Timeout t) (Ok x)
  timeout_step x z along ends so =
      lapse_step G k t client runs up ready cause.TimedOut z along ends (joins_of (fate_in k.coordinator t)) (event.Timeout t) x so leads (λ e. (let wrong : event.Timeout t ≡ event.Restart = e in cc)) (λ a h. tt)
    where
      leads : (a : Account) (h : IsAs a (G.held k.vault) k) (life : Life) → a.holder.lives t ≡ Some life → life.join ≡ None → life.client ≡ client
          → Leads false a (record { event = event.Timeout t; reply = None; acts = (act.Released t ∷ grant_acts (granted_behind k t)) ++ said_each (λ i. msg.Abort t i cause.TimedOut) (joins_of (fate_in k.coordinator t)) })
          (lapsed_given a (G.held k.vault) k ready.0 (G.serves k.vault) h ready.2 t client cause.TimedOut z)
      leads a h life live part own =
          subst (λ (acts : List Act). Leads false a (record { event = event.Timeout t; reply = None; acts = (act.Released t ∷ grant_acts (granted_behind k t)) ++ acts })
          (lapsed_given a (G.held k.vault) k ready.0 (G.serves k.vault) h ready.2 t client cause.TimedOut z))
          (sym (said_is (λ i. msg.Abort t i cause.TimedOut) (joins_of (fate_in k.coordinator t)) ∙ ap (λ (js : List JoinNo). sent_acts (to_each (λ (i : JoinNo). msg.Abort t i cause.TimedOut) js)) (sym (parts_told a.ids.epoch t (fate_in k.coordinator t) (a.fates t) client (h.coordinator.fates t) runs))))
          (subst (λ (n : ℕ). Leads false a (record { event = event.Timeout t; reply = None; acts = (act.Released t ∷ grant_acts (granted_behind k t)) ++ sent_acts (to_each (λ (i : JoinNo). msg.Abort t i cause.TimedOut) (joins_of (a.fates t))) })
          (lapsed_given a (G.held k.vault) k ready.0 (G.serves k.vault) h ready.2 t n cause.TimedOut z)) own
          (timeout_leads a t life h.quiet (h.down ∙ up) live part (granted_behind k t) (lapsed_walk a (G.held k.vault) k ready.0 (G.serves k.vault) h ready.2 t client cause.TimedOut z)))

  pub timed_out : (new : ServerState V) (r : Result Answer OutOfMemory)
      → OnOk r (new ≡ record (let_go k t) { dead = k.dead ++ (record { client = client; trans = t; cause = cause.TimedOut }) ∷ []; coordinator = new.coordinator })
      → OnOk r (IsAlong k.coordinator new.coordinator) → OnOk r ((n : ℕ) → Comes (Ends t n cause.TimedOut) k.coordinator new.coordinator)
      → IfOk r (λ x. x ≡ told_answer None ((act.Released t ∷ grant_acts (granted_behind k t)) ++ said_each (λ i. msg.Abort t i cause.TimedOut) (joins_of (fate_in k.coordinator t)))) → OnErr r (new ≡ k)
      → IsStepAs G None k new (event.Timeout t) r
  timed_out new (Ok x) kept along ends said wanting = subst (λ (s : ServerState V). IsStepAs G None k s (event.Timeout t) (Ok x)) (sym kept) (timeout_step x new.coordinator along ends said)
  timed_out new (Err f) kept along ends said wanting = subst (λ (s : ServerState V). IsStepAs G None k s (event.Timeout t) (Err f)) (sym wanting) (still_wanting G k (event.Timeout t) f)
