-- a join that was not let in is over, and its client is to be told
use Rattle.std.specs.Prelude.{cond, Bool, true, false, ◌==◌, ◌&&◌, Option, None, Some, Result, Ok}
use Rattle.std.specs.FinMap as map
use Rattle.std.proofs.Common.{◌≡◌, ℕ, ◌+◌, ◌≤◌, List, [], ◌∷◌, ◌++◌, append-nil, refl, sym, ◌∙◌, ap, subst, arith}
use Rattle.std.proofs.lemmas.Bool.{and_parts, eqb-true}
use Rattle.std.specs.List.{list_any}
use Rattle.alp_base.specs.declared.allowance.Allowance.{Allowance}
use Rattle.alp_base.specs.declared.ids.JoinNo.{JoinNo}
use Rattle.alp_base.specs.declared.ids.TransId.{TransId}
use Rattle.alp_files.specs.declared.refusal.Cause.{Cause}
use Rattle.alp_files.specs.declared.refusal.Cause.TheVariants as cause
use Rattle.alp_files.specs.declared.refusal.Why.TheVariants as why
use Rattle.alp_journal.specs.declared.act.Act.{Act}
use Rattle.alp_journal.specs.declared.act.Act.TheVariants as act
use Rattle.alp_journal.specs.declared.event.Event.{Event}
use Rattle.alp_journal.specs.declared.event.Event.TheVariants as event
use Rattle.alp_journal.specs.declared.message.Message.TheVariants as msg
use Rattle.alp_journal.specs.Account.{Account, state_of, Leads, IsPhaseOf}
use Rattle.alp_journal.specs.Deeds.{Quits}
use Rattle.alp_journal.specs.Ids.{same_trans, same_join}
use Rattle.alp_journal.specs.Moves.{is_stop}
use Rattle.alp_journal.specs.Participant.{Joining, is_ready}
use Rattle.alp_journal.specs.State.{State, state_deed, is_other_server}
use Rattle.alp_journal.proofs.IdLemmas.{same_trans-true, same_join-true}
use Rattle.alp_journal.proofs.WorkerSteps.{with_quit as with_quit_join, ask_joining_leads, abort_joining_leads}
use Rattle.alp_vault.specs.Contents.{Contents}
use Rattle.alp_vault.specs.declared.vault.Vault.{Ghosts}
use Rattle.alp_worker.specs.declared.joins.Joins.{Joins}
use Rattle.alp_worker.specs.declared.live.LiveJoin.{LiveJoin}
use Rattle.alp_worker.specs.declared.live.Stage.TheVariants as stage
use Rattle.alp_worker.specs.Joins.{AreJoins, AreJoinsOf, with_quit}
use Rattle.alp_worker.specs.Lives.{is_open, join_at}
use Rattle.alp_node.specs.Arrivals.{join_of}
use Rattle.alp_node.specs.Dead.{cause_in}
use Rattle.alp_node.specs.Halts.{HaveCauses}
use Rattle.alp_node.specs.Noted.{AreNotesFor}
use Rattle.alp_node.specs.Says.{said_if, is_away, said_to}
use Rattle.alp_node.specs.ServerState.{IsAs, IsReady, IsReadyForMore, AreAlive, IsAlive}
use Rattle.alp_node.specs.Steps.{Stepped, IsStepAs, told_answer}
use Rattle.alp_node.specs.declared.answer.Answer.{Answer}
use Rattle.alp_node.specs.declared.dead.DeadPart.{DeadPart}
use Rattle.alp_node.specs.declared.lives.Live.{Live}
use Rattle.alp_node.specs.declared.server_state.ServerState.{ServerState}
use Rattle.alp_node.proofs.DeadLemmas.{dead_then}
use Rattle.alp_node.proofs.JoinEnds.{joins_left, idle_left, alive_left, most_left, room_left, join_gone, noted_left, paired_left}
use Rattle.alp_node.proofs.JoinMoves.{same_some, was_there}
use Rattle.alp_node.proofs.JoinedLemmas.{join_found, phase_told}
use Rattle.alp_node.proofs.NoteLaw.{is_write, AbortsNoVote, notes_stay}
use Rattle.alp_node.proofs.ReadyLemmas.{buried_ready, stepped_ready}
use Rattle.alp_node.proofs.SayLemmas.{away_told, said_step, said_goes_on, said_caused, silent_stepped}
use Rattle.alp_node.proofs.SingleLemmas.{same_number, is_its, its_part}

module _ {V : Type 0} (k : ServerState V) (j : JoinNo) (t : TransId) (client : ℕ) (who : List ℕ) (found : join_of t (join_at k.joins.lives j) ≡ Some (record { join = j; trans = t; client = client; stage = stage.Joining who })) where
  abbrev pub asks : LiveJoin
  asks = record { join = j; trans = t; client = client; stage = stage.Joining who }

  pub there : join_at k.joins.lives j ≡ Some (record { join = j; trans = t; client = client; stage = stage.Joining who })
  there = (join_found t (join_at k.joins.lives j) asks found).there

  -- the server where it is over
  abbrev pub quit_kept : ServerState V
  quit_kept = record k { joins = with_quit k.joins j }

  pub quit_ready : (n : ℕ) (serves : Bool) → IsReady n serves k → IsReady n serves quit_kept
  quit_ready n serves h = record {
    serving = h.serving;
    halted = h.halted;
    sound = h.sound;
    taken = h.taken;
    waits = h.waits;
    known = h.known;
    seat = h.seat;
    joins = joins_left n serves k j (λ (l : LiveJoin). is_open l.stage) h;
    paired = paired_left k.joins j asks (λ (l : LiveJoin). is_open l.stage) h.joins.once there refl k.servers k.server k.coordinator k.lives refl h.paired;
    idle = idle_left n serves k j (λ (l : LiveJoin). is_open l.stage) h;
    opens = h.opens;
    opened = h.opened;
    alive = record { parts = h.alive.parts; joins = alive_left n serves k j (λ (l : LiveJoin). is_open l.stage) h };
    places = h.places;
    calls = h.calls;
    replies = h.replies;
    drawn = h.drawn;
    times = h.times;
    given = h.given;
    most = most_left n serves k j (λ (l : LiveJoin). is_open l.stage) h;
    fits = room_left n serves k j (λ (l : LiveJoin). is_open l.stage) h;
    within = h.within;
    sized = h.sized;
    clock = h.clock;
    raised = h.raised;
    fated = h.fated;
    last = h.last;
    unheld = h.unheld;
  }

  pub quit_noted : (n : ℕ) (serves : Bool) → IsReady n serves k → (notes : _) → AreNotesFor k notes → AreNotesFor quit_kept notes
  quit_noted n serves h notes noted = noted_left k.joins j asks (λ (l : LiveJoin). is_open l.stage) h.joins.once there refl k.lives k.server k.servers k.epoch k.coordinator notes refl noted

  -- ---- its client is to be told

  module _ (c : Cause) where
    abbrev dead_then_all : List DeadPart
    dead_then_all = k.dead ++ (record { client = client; trans = t; cause = c }) ∷ []

    still : (n : ℕ) (u : TransId) → (n == client && same_trans u t) ≡ false → cause_in k.dead n u ≡ None → cause_in (k.dead ++ (record { client = client; trans = t; cause = c }) ∷ []) n u ≡ None
    still n u away none = sym (dead_then k.dead client t c n u) ∙ ap (λ (b : Bool). cond {A = Option Cause} b (Some c) (cause_in k.dead n u)) away ∙ none

    told_alive : (n : ℕ) (serves : Bool) → IsReady n serves k → AreAlive (k.dead ++ (record { client = client; trans = t; cause = c }) ∷ []) k.lives (with_quit k.joins j).lives
    told_alive n serves h = record {
      parts = λ u l live. still l.client u (no_part u l live (l.client == client && same_trans u t) refl) (h.alive.parts u l live);
      joins = λ i x at. still x.client x.trans (no_join i x at (x.client == client && same_trans x.trans t) refl) (alive_left n serves k j (λ (l : LiveJoin). is_open l.stage) h i x at);
    }
      where
        no_part : (u : TransId) (l : Live) → map.get k.lives u ≡ Some l → (b : Bool) → (l.client == client && same_trans u t) ≡ b → b ≡ false
        no_part u l live false e = refl
        no_part u l live true e =
            let both = and_parts (l.client == client) (same_trans u t) e in
            let wrong : false ≡ true = its_part k.servers k.server k.coordinator k.joins k.lives h.paired h.joins.single j asks there l (ap (map.get k.lives) (sym (same_trans-true u t both.1)) ∙ live) (eqb-true l.client client both.0) in
            cc

        no_join : (i : JoinNo) (x : LiveJoin) → join_at (with_quit k.joins j).lives i ≡ Some x → (b : Bool) → (x.client == client && same_trans x.trans t) ≡ b → b ≡ false
        no_join i x at false e = refl
        no_join i x at true e =
            let both = and_parts (x.client == client) (same_trans x.trans t) e in
            let was : join_at k.joins.lives i ≡ Some x = was_there j (λ (l : LiveJoin). is_open l.stage) k.joins.lives h.joins.once i x at in
            let same : same_join i j ≡ true = same_number k.joins.lives client t j i asks x h.joins.single there was (is_its client t asks refl refl) (is_its client t x (same_trans-true x.trans t both.1) (eqb-true x.client client both.0)) in
            let wrong : ◌≡◌ {A = Option LiveJoin} None (Some x) = sym (join_gone k.joins j asks (λ (l : LiveJoin). is_open l.stage) h.joins.once there refl) ∙ ap (join_at (with_quit k.joins j).lives) (sym (same_join-true i j same)) ∙ at in
            cc

    -- what the server keeps then
    module _ (a : Account) (from : ℕ) (held : Contents) (h : IsAs a held k) where
      phase : a.phases j ≡ Joining t client who
      phase = phase_told a held k j asks h there

      pub quit_as : (joins : Joins) → ((s : State) → AreJoinsOf s k.joins → AreJoinsOf (state_deed s (Quits j t client (Some c))) joins) → (e : Event) (acts : List Act)
          → Leads false a (record { event = e; reply = None; acts = acts }) (with_quit_join a from t j client who c) → (e ≡ event.Restart → ⊥) → list_any is_write acts ≡ false → AbortsNoVote (state_of a) e
          → IsAs (with_quit_join a from t j client who c) held (record k { dead = k.dead ++ (record { client = client; trans = t; cause = c }) ∷ []; joins = joins })
      quit_as joins deed e acts leads on unwritten aborts = record {
        server = h.server;
        servers = h.servers;
        sizes = h.sizes;
        epoch = h.epoch;
        clock = h.clock;
        cells = h.cells;
        sized = h.sized;
        notes = λ up. notes_stay a (with_quit_join a from t j client who c) (record { event = e; reply = None; acts = acts }) h.quiet leads.lawful leads.leaves on unwritten aborts a.ids.epoch held.notes (h.notes up);
        places = h.places;
        sessions = h.sessions;
        dead = λ d u. ap (λ (x : Option Cause). cond {A = Option Cause} (d == client && same_trans u t) (Some c) x) (h.dead d u) ∙ dead_then k.dead client t c d u;
        waits = h.waits;
        queue = h.queue;
        asked = h.asked;
        lives = h.lives;
        room = h.room;
        unborn = h.unborn;
        coordinator = h.coordinator;
        decided = h.decided;
        joins = subst (λ (js : List JoinNo). AreJoins a.holder.server a.ids.epoch a.ids.joins (with_quit_join a from t j client who c).phases js joins) (append-nil a.joined) (deed (state_of a) h.joins);
        files = h.files;
        made = h.made;
        born = h.born;
        earlier = h.earlier;
        quiet = leads.quiet;
        down = h.down;
      }

-- ---- the steps

module _ {V : Type 0} (G : Ghosts V) (k : ServerState V) (from : ℕ) (j : JoinNo) (t : TransId) (client : ℕ) (who : List ℕ) (found : join_of t (join_at k.joins.lives j) ≡ Some (record { join = j; trans = t; client = client; stage = stage.Joining who })) (up : k.is_down ≡ false)
    (ready : IsReadyForMore (G.serves k.vault) k) (c : Cause) (joins : Joins) (quits : joins ≡ with_quit k.joins j) (deed : (s : State) → AreJoinsOf s k.joins → AreJoinsOf (state_deed s (Quits j t client (Some c))) joins) where
  after_ready : (n : ℕ) → IsReady n (G.serves k.vault) k → IsReady (n + 1) (G.serves k.vault) (record k { dead = k.dead ++ (record { client = client; trans = t; cause = c }) ∷ []; joins = joins })
  after_ready n h =
      subst (λ (js : Joins). IsReady (n + 1) (G.serves k.vault) (record k { dead = k.dead ++ (record { client = client; trans = t; cause = c }) ∷ []; joins = js })) (sym quits)
      (stepped_ready n (G.serves k.vault) (record (quit_kept k j t client who found) { dead = k.dead ++ (record { client = client; trans = t; cause = c }) ∷ [] })
      (buried_ready n (G.serves k.vault) (quit_kept k j t client who found) (k.dead ++ (record { client = client; trans = t; cause = c }) ∷ []) (told_alive k j t client who found c n (G.serves k.vault) h) (quit_ready k j t client who found n (G.serves k.vault) h)))

  -- by what the journal says
  pub quit_step : (e : Event) (x : Answer) (acts : List Act) → x ≡ told_answer None acts → list_any is_stop acts ≡ false → ((before now : ℕ) (allowance : Allowance) → HaveCauses before now allowance acts)
      → ((a : Account) → IsAs a (G.held k.vault) k → Leads false a (record { event = e; reply = None; acts = acts }) (with_quit_join a from t j client who c)) → (e ≡ event.Restart → ⊥) → list_any is_write acts ≡ false → ((a : Account) → IsAs a (G.held k.vault) k → AbortsNoVote (state_of a) e)
      → IsStepAs G None k (record k { dead = k.dead ++ (record { client = client; trans = t; cause = c }) ∷ []; joins = joins }) e (Ok x)
  quit_step e x acts so none causes leads on unwritten aborts =
      said_step G k (record k { dead = k.dead ++ (record { client = client; trans = t; cause = c }) ∷ []; joins = joins }) e x acts
      (record { vault = refl; server = refl; servers = refl; sizes = refl; epoch = refl; clock = refl; sessions = refl; down = refl }) up so none causes after_ready
      (λ notes. subst (λ (js : Joins). AreNotesFor (record k { joins = js }) (G.held k.vault).notes) (sym quits) (quit_noted k j t client who found ready.0 (G.serves k.vault) ready.2 (G.held k.vault).notes notes))
      (λ a h. silent_stepped a (with_quit_join a from t j client who c) (G.faults k.vault) (G.held k.vault) k (record k { dead = k.dead ++ (record { client = client; trans = t; cause = c }) ∷ []; joins = joins }) e x acts h refl so (leads a h)
      (quit_as k j t client who found c a from (G.held k.vault) h joins deed e acts (leads a h) on unwritten (aborts a h)))

  -- it hears that its transaction ended
  pub aborted_step : (x : Answer) → x ≡ told_answer None [] → IsStepAs G None k (record k { dead = k.dead ++ (record { client = client; trans = t; cause = c }) ∷ []; joins = joins }) (event.Arrive from (msg.Abort t j c)) (Ok x)
  aborted_step x so =
      quit_step (event.Arrive from (msg.Abort t j c)) x [] so refl (λ before now allowance. tt)
      (λ a h. abort_joining_leads a from t j c client who h.quiet (h.down ∙ up) (asking a h)) (λ e. (let wrong : event.Arrive from (msg.Abort t j c) ≡ event.Restart = e in cc)) refl
      (λ a h. ap is_ready (asking a h))
    where
      asking : (a : Account) (h : IsAs a (G.held k.vault) k) → a.phases j ≡ Joining t client who
      asking a h = phase k j t client who found c a from (G.held k.vault) h

-- it is asked for its vote, which is against the commit
pub early_step : {V : Type 0} (G : Ghosts V) (k : ServerState V) (from : ℕ) (j : JoinNo) (t : TransId) (client : ℕ) (who : List ℕ) (found : join_of t (join_at k.joins.lives j) ≡ Some (record { join = j; trans = t; client = client; stage = stage.Joining who })) → k.is_down ≡ false
    → IsReadyForMore (G.serves k.vault) k → (joins : Joins) → joins ≡ with_quit k.joins j
    → ((s : State) → AreJoinsOf s k.joins → AreJoinsOf (state_deed s (Quits j t client (Some (cause.Voted k.server why.Waiting)))) joins)
    → (x : Answer) → x ≡ told_answer None (said_to k t.server (msg.No t j why.Waiting))
    → IsStepAs G None k (record k { dead = k.dead ++ (record { client = client; trans = t; cause = cause.Voted k.server why.Waiting }) ∷ []; joins = joins }) (event.Arrive from (msg.Ask t j)) (Ok x)
early_step G k from j t client who found up ready joins quits deed x so =
    quit_step G k from j t client who found up ready (cause.Voted k.server why.Waiting) joins quits deed (event.Arrive from (msg.Ask t j)) x (said_to k t.server (msg.No t j why.Waiting)) so
    (said_goes_on (is_away k t.server) t.server (msg.No t j why.Waiting)) (said_caused (is_away k t.server) t.server (msg.No t j why.Waiting) tt) leads
    (λ e. (let wrong : event.Arrive from (msg.Ask t j) ≡ event.Restart = e in cc)) (unwritten (is_away k t.server)) (λ a h. tt)
  where
    unwritten : (b : Bool) → list_any is_write (said_if b t.server (msg.No t j why.Waiting)) ≡ false
    unwritten true = refl
    unwritten false = refl

    leads : (a : Account) → IsAs a (G.held k.vault) k → Leads false a (record { event = event.Arrive from (msg.Ask t j); reply = None; acts = said_to k t.server (msg.No t j why.Waiting) }) (with_quit_join a from t j client who (cause.Voted k.server why.Waiting))
    leads a h =
        let asks : a.phases j ≡ Joining t client who = phase k j t client who found (cause.Voted k.server why.Waiting) a from (G.held k.vault) h in
        let far : is_away k t.server ≡ true = away_told a (G.held k.vault) k t.server h ∙ (subst (IsPhaseOf a.servers a.holder.server a.ids.epoch a.ids.joins a.joined j) asks (h.quiet.settled.stands.phases j)).1 in
        subst (λ (b : Bool). Leads false a (record { event = event.Arrive from (msg.Ask t j); reply = None; acts = said_if b t.server (msg.No t j why.Waiting) }) (with_quit_join a from t j client who (cause.Voted k.server why.Waiting))) (sym far)
        (subst (λ (n : ℕ). Leads false a (record { event = event.Arrive from (msg.Ask t j); reply = None; acts = act.Sent t.server (msg.No t j why.Waiting) ∷ [] }) (with_quit_join a from t j client who (cause.Voted n why.Waiting))) h.server
        (ask_joining_leads a from t j client who h.quiet (h.down ∙ up) asks))
