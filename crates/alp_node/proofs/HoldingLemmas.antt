-- a join that was let in is over, and what its part held is given on
use Rattle.std.specs.Prelude.{cond, Bool, true, false, not, nat_le, nat_lt, ◌-◌, ◌==◌, ◌&&◌, Option, None, Some, Result, Ok}
use Rattle.std.specs.FinMap as map
use Rattle.std.specs.List.{list_any}
use Rattle.std.proofs.Common.{◌≡◌, ℕ, ◌+◌, ◌≤◌, List, [], ◌∷◌, ◌++◌, append-nil, refl, sym, ◌∙◌, ap, subst, arith, le_refl}
use Rattle.std.proofs.lemmas.Bool.{and_parts, eqb-true}
use Rattle.alp_base.specs.declared.ids.JoinNo.{JoinNo}
use Rattle.alp_base.specs.declared.ids.TransId.{TransId}
use Rattle.alp_base.specs.Notes.{Notes}
use Rattle.alp_files.specs.declared.refusal.Cause.{Cause}
use Rattle.alp_journal.specs.Account.{Account, state_of, IsQuiet, Leads, IsPhaseOf, with_granted, granted_calls, grant_acts}
use Rattle.alp_journal.specs.Answered.{in_turn, IsWalk}
use Rattle.alp_journal.specs.Coordinator.{Fate, client_of}
use Rattle.alp_journal.specs.Counts.{lock_set}
use Rattle.alp_journal.specs.Holder.{Life, with_life}
use Rattle.alp_journal.specs.Ids.{same_trans, same_join}
use Rattle.alp_journal.specs.Participant.{Phase, Active, aborted, quit, live_in, is_ready}
use Rattle.alp_journal.proofs.IdLemmas.{same_trans-true, same_trans-itself, same_join-true}
use Rattle.alp_coord.specs.Coordinators.{IsAlong, fate_in}
use Rattle.alp_coord.specs.declared.coordinator.Coordinator.{Coordinator}
use Rattle.alp_locks.specs.Releases.{released}
use Rattle.alp_vault.specs.Contents.{Contents}
use Rattle.alp_worker.specs.declared.joins.Joins.{Joins}
use Rattle.alp_worker.specs.declared.live.LiveJoin.{LiveJoin}
use Rattle.alp_worker.specs.declared.live.Stage.{Stage}
use Rattle.alp_worker.specs.declared.live.Stage.TheVariants as stage
use Rattle.alp_worker.specs.Joins.{AreJoins, AreJoinsOf, with_aborted, with_quit}
use Rattle.alp_worker.specs.Lives.{is_open, join_at, without, AreOnce, AreSingle}
use Rattle.alp_worker.proofs.LiveLemmas.{same_join-itself, once_filter}
use Rattle.alp_base.specs.declared.allowance.Allowance.{Allowance}
use Rattle.alp_journal.specs.declared.act.Act.{Act}
use Rattle.alp_journal.specs.declared.act.Act.TheVariants as act
use Rattle.alp_journal.specs.declared.message.Message.TheVariants as msg
use Rattle.alp_journal.specs.Deeds.{Aborts, Quits}
use Rattle.alp_journal.specs.Messages.{clock_end, no_room, full_or, first_why, why_not}
use Rattle.alp_files.specs.declared.refusal.Why.TheVariants as why
use Rattle.alp_worker.specs.Rooms.{room_for}
use Rattle.alp_node.specs.Votes.{why_against}
use Rattle.alp_node.specs.Waits.{has_waiting}
use Rattle.alp_files.specs.declared.refusal.Cause.TheVariants as cause
use Rattle.alp_files.specs.declared.refusal.Why.{Why}
use Rattle.alp_node.specs.Says.{said_if, is_away, said_to}
use Rattle.alp_journal.specs.State.{State, state_deed}
use Rattle.alp_journal.specs.Laws.{IsHolding}
use Rattle.alp_journal.proofs.WorkerSteps.{abort_leads, ask_against_leads}
use Rattle.alp_journal.specs.declared.event.Event.{Event}
use Rattle.alp_journal.specs.declared.event.Event.TheVariants as event
use Rattle.alp_journal.specs.Moves.{is_stop}
use Rattle.alp_vault.specs.declared.vault.Vault.{Ghosts}
use Rattle.alp_node.specs.Arrivals.{join_of}
use Rattle.alp_node.specs.Halts.{HaveCauses, MaySay}
use Rattle.alp_node.specs.Steps.{IsStepAs, told_answer}
use Rattle.alp_node.specs.declared.answer.Answer.{Answer}
use Rattle.alp_node.proofs.JoinedLemmas.{join_found, phase_told}
use Rattle.alp_node.proofs.NoteLaw.{is_write, AbortsNoVote, notes_stay}
use Rattle.alp_node.proofs.SayLemmas.{away_told, said_step, said_goes_on, said_caused, silent_stepped}
use Rattle.alp_node.proofs.SingleLemmas.{same_number, is_its}
use Rattle.alp_node.specs.Durable.{AreNotesOf}
use Rattle.alp_node.specs.Noted.{AreNoted, AreNotesFor, HasReadyRoom, ready_room, size_in}
use Rattle.alp_node.specs.Paired.{is_in, IsPartOf, IsPairedWith, HasPart, ArePaired}
use Rattle.alp_node.specs.Releases.{granted_behind, let_go}
use Rattle.alp_node.specs.ServerState.{IsAs, IsReady, IsReadyForMore}
use Rattle.alp_node.specs.Totals.{LiveMap}
use Rattle.alp_node.specs.declared.dead.DeadPart.{DeadPart}
use Rattle.alp_node.specs.declared.lives.Live.{Live}
use Rattle.alp_node.specs.declared.server_state.ServerState.{ServerState}
use Rattle.alp_node.proofs.DeadLemmas.{dead_then}
use Rattle.alp_node.proofs.GoneLemmas.{Gone, gone, state_then, server_then, let_go_is, left_as}
use Rattle.alp_node.proofs.JoinEnds.{joins_left, idle_left, alive_left, most_left, room_left, join_gone, noted_left}
use Rattle.alp_node.proofs.JoinMoves.{same_some, was_there, still_there, joined_by, part_stands}
use Rattle.alp_node.proofs.KeptLemmas.{IsLive, live_there}
use Rattle.alp_node.proofs.MapLemmas.{get_gone}
use Rattle.alp_node.proofs.NoteCalls.{grants_write}
use Rattle.alp_node.proofs.NotedLemmas.{HasNoVoter, room_on, noted_on, voters_gone}
use Rattle.alp_node.proofs.ReadyLemmas.{LetsPart, stepped_ready}
use Rattle.alp_node.proofs.ReleaseLemmas.{let_go_of, let_go_alike, late_ready, grants_go_with, grants_caused_with}

-- ---- how joins and parts go together then

module _ (servers here : ℕ) (c : Coordinator) (k : Joins) (lives : LiveMap) (h : ArePaired servers here c k lives) (once : AreOnce k.lives) (j : JoinNo) (y : LiveJoin) (there : join_at k.lives j ≡ Some y) (let_in : is_in y.stage ≡ true) where
  -- its part
  mine : (l : Live) × (map.get lives y.trans ≡ Some l) × (l.join ≡ Some j)
  mine = h.joins j y there let_in

  -- another join that was let in is of another transaction
  pub another : (i : JoinNo) (x : LiveJoin) → join_at k.lives i ≡ Some x → is_in x.stage ≡ true → same_join j i ≡ false → same_trans x.trans y.trans ≡ false
  another i x at inside apart = go (same_trans x.trans y.trans) refl
    where
      go : (b : Bool) → same_trans x.trans y.trans ≡ b → b ≡ false
      go false e = refl
      go true e =
          let its = h.joins i x at inside in
          let part : mine.0 ≡ its.0 = same_some mine.0 its.0 (sym mine.1 ∙ ap (map.get lives) (sym (same_trans-true x.trans y.trans e)) ∙ its.1) in
          let same : j ≡ i = same_some j i (sym mine.2 ∙ ap (λ (l : Live). l.join) part ∙ its.2) in
          let wrong : true ≡ false = sym (same_join-itself j) ∙ ap (same_join j) same ∙ apart in
          cc

  module _ (p : LiveJoin → Bool) (so : p y ≡ true) where
    abbrev left : Joins
    left = record k { lives = without j p k.lives }

    -- who is left has another number
    pub another_number : (i : JoinNo) (x : LiveJoin) → join_at (without j p k.lives) i ≡ Some x → same_join j i ≡ false
    another_number i x at = go (same_join j i) refl
      where
        go : (b : Bool) → same_join j i ≡ b → b ≡ false
        go false e = refl
        go true e = let wrong : None ≡ Some x = sym (join_gone k j y p once there so) ∙ ap (join_at (without j p k.lives)) (same_join-true j i e) ∙ at in cc

    pub paired_let_go : ArePaired servers here c (record k { lives = without j p k.lives }) (map.remove lives y.trans)
    paired_let_go = record {
      parts = λ u. subst (IsPairedWith (record k { lives = without j p k.lives }) u (fate_in c u)) (sym (get_gone lives y.trans u)) (part u (same_trans u y.trans) refl);
      joins = λ i x at inside. stays i x (was_there j p k.lives once i x at) inside (another_number i x at);
      others = λ i x at. h.others i x (was_there j p k.lives once i x at);
      own = h.own;
    }
      where
        stays : (i : JoinNo) (x : LiveJoin) → join_at k.lives i ≡ Some x → is_in x.stage ≡ true → same_join j i ≡ false → (l : Live) × (map.get (map.remove lives y.trans) x.trans ≡ Some l) × (l.join ≡ Some i)
        stays i x at inside apart =
            let its = h.joins i x at inside in
            (its.0, get_gone lives y.trans x.trans ∙ ap (λ (b : Bool). cond {A = Option Live} b None (map.get lives x.trans)) (another i x at inside apart) ∙ its.1, its.2)

        -- a join's transaction is nobody's here
        nobody : (l : Live) → map.get lives y.trans ≡ Some l → l.join ≡ Some j → client_of (fate_in c y.trans) ≡ None
        nobody l live of = from l.join of (subst (IsPairedWith k y.trans (fate_in c y.trans)) live (h.parts y.trans))
          where
            from : (o : Option JoinNo) → o ≡ Some j → IsPartOf k y.trans l (fate_in c y.trans) o → client_of (fate_in c y.trans) ≡ None
            from None e q = let wrong : None ≡ Some j = e in cc
            from (Some i) e q = q.0

        other_part : (u : TransId) → same_trans u y.trans ≡ false → (m : Live) → map.get lives u ≡ Some m → IsPartOf k u m (fate_in c u) m.join → IsPartOf (record k { lives = without j p k.lives }) u m (fate_in c u) m.join
        other_part u away m live q = part_stands k (record k { lives = without j p k.lives }) u m (fate_in c u) m.join (λ i z of at. still_there j p k.lives once i z at (apart i of)) q
          where
            apart : (i : JoinNo) → m.join ≡ Some i → same_join j i ≡ false
            apart i of = go (same_join j i) refl
              where
                go : (b : Bool) → same_join j i ≡ b → b ≡ false
                go false e = refl
                go true e =
                    let x = joined_by servers here c k lives u m i h live of in
                    let same : y ≡ x.0 = same_some y x.0 (sym there ∙ ap (join_at k.lives) (same_join-true j i e) ∙ x.1) in
                    let wrong : true ≡ false = sym (same_trans-itself u) ∙ ap (same_trans u) (sym x.2 ∙ ap (λ (z : LiveJoin). z.trans) (sym same)) ∙ away in
                    cc

        other : (u : TransId) → same_trans u y.trans ≡ false → (o : Option Live) → map.get lives u ≡ o → IsPairedWith k u (fate_in c u) o → IsPairedWith (record k { lives = without j p k.lives }) u (fate_in c u) o
        other u away None live q = q
        other u away (Some m) live q = other_part u away m live q

        part : (u : TransId) (b : Bool) → same_trans u y.trans ≡ b → IsPairedWith (record k { lives = without j p k.lives }) u (fate_in c u) (cond {A = Option Live} b None (map.get lives u))
        part u true e = ap (λ (v : TransId). client_of (fate_in c v)) (same_trans-true u y.trans e) ∙ nobody mine.0 mine.1 mine.2
        part u false e = other u e (map.get lives u) refl (h.parts u)

-- ---- whatever the vault tells

module _ {V : Type 0} (n : ℕ) (serves : Bool) (k : ServerState V) (h : IsReady n serves k) (j : JoinNo) (y : LiveJoin) (there : join_at k.joins.lives j ≡ Some y) (let_in : is_in y.stage ≡ true) (p : LiveJoin → Bool) (so : p y ≡ true) where
  pub join_lets : LetsPart n serves k y.trans k.coordinator (record k.joins { lives = without j p k.joins.lives }) k.clock
  join_lets = record {
    along = record { server_same = refl; epoch_same = refl; count_same = refl };
    times = h.times;
    fated = h.fated;
    joins = joins_left n serves k j p h;
    paired = paired_let_go k.servers k.server k.coordinator k.joins k.lives h.paired h.joins.once j y there let_in p so;
    idle = idle_left n serves k j p h;
    alive = alive_left n serves k j p h;
    most = most_left n serves k j p h;
    fits = subst (HasReadyRoom k.sizes)
        (sym (room_on k.lives (map.remove k.lives y.trans) (without j p k.joins.lives) (once_filter _ k.joins.lives h.joins.once) (voters_gone k.lives y.trans (without j p k.joins.lives) none_left)))
        (room_left n serves k j p h);
  }
    where
      inside : (s : Stage) → is_open s ≡ false → is_in s ≡ true
      inside (stage.Joining w) e = let wrong : true ≡ false = e in cc
      inside (stage.Active w) e = refl
      inside (stage.Ready ts) e = refl

      none_left : HasNoVoter (without j p k.joins.lives) y.trans
      none_left i x at voted =
          another k.servers k.server k.coordinator k.joins k.lives h.paired h.joins.once j y there let_in i x (was_there j p k.joins.lives h.joins.once i x at) (inside x.stage voted)
          (another_number k.servers k.server k.coordinator k.joins k.lives h.paired h.joins.once j y there let_in p so i x at)

  -- where it had not voted none of its transaction had
  pub open_alone : is_open y.stage ≡ true → HasNoVoter k.joins.lives y.trans
  open_alone early i x at voted = go (same_join j i) refl
    where
      inside : (s : Stage) → is_open s ≡ false → is_in s ≡ true
      inside (stage.Joining w) e = let wrong : true ≡ false = e in cc
      inside (stage.Active w) e = refl
      inside (stage.Ready ts) e = refl

      go : (b : Bool) → same_join j i ≡ b → same_trans x.trans y.trans ≡ false
      go true e =
          let same : y ≡ x = same_some y x (sym there ∙ ap (join_at k.joins.lives) (same_join-true j i e) ∙ at) in
          let wrong : true ≡ false = sym early ∙ ap (λ (z : LiveJoin). is_open z.stage) same ∙ voted in
          cc
      go false e = another k.servers k.server k.coordinator k.joins k.lives h.paired h.joins.once j y there let_in i x at (inside x.stage voted) e

  -- it had no note, and the notes of the others stand
  pub open_noted : is_open y.stage ≡ true → (notes : Notes) → AreNoted k.server k.servers k.epoch k.lives k.joins k.coordinator notes
      → AreNoted k.server k.servers k.epoch (let_go k y.trans).lives (record k.joins { lives = without j p k.joins.lives }) k.coordinator notes
  open_noted early notes q =
      noted_left k.joins j y p h.joins.once there so (let_go k y.trans).lives k.server k.servers k.epoch k.coordinator notes early
      (noted_on k.lives (let_go k y.trans).lives k.server k.servers k.epoch k.joins k.coordinator notes (let_go_alike n serves k y.trans h (open_alone early)) q)

-- ---- by what the journal says

module _ {V : Type 0} (a : Account) (held : Contents) (k : ServerState V) (m : ℕ) (on : Bool) (h : IsAs a held k) (ready : IsReady m on k) (j : JoinNo) (t : TransId) (client : ℕ) (c : Cause) (move : Phase → Phase) (js : Joins) where
  -- the part is gone, its client is to be told, and its join is over
  abbrev pub held_end : Account
  held_end = record a {
    holder = with_life a.holder t None;
    phases = λ i. cond {A = Phase} (same_join j i) (move (a.phases i)) (a.phases i);
    dead = λ e u. cond {A = Option Cause} (e == client && same_trans u t) (Some c) (a.dead e u);
    locked = lock_set a.locked t [];
    is_down = false;
    pending = [];
  }

  abbrev pub held_end_given : Account
  held_end_given = with_granted (record a {
    holder = with_life a.holder t None;
    phases = λ i. cond {A = Phase} (same_join j i) (move (a.phases i)) (a.phases i);
    dead = λ e u. cond {A = Option Cause} (e == client && same_trans u t) (Some c) (a.dead e u);
    locked = lock_set a.locked t [];
    is_down = false;
    pending = [];
  }) (granted_calls a.waits (granted_behind k t))

  -- who is granted
  pub held_walk : IsWalk (with_life a.holder t None) (in_turn (with_life a.holder t None) a.waits) (granted_behind k t)
  held_walk = (let g : Gone a held k t = gone a held k t m on h ready in subst (λ (ts : List TransId). IsWalk (with_life a.holder t None) (in_turn (with_life a.holder t None) a.waits) ts) (sym g.woken) g.walk)

  pub held_ended_as : k.is_down ≡ false → AreJoins a.holder.server a.ids.epoch a.ids.joins (λ i. cond {A = Phase} (same_join j i) (move (a.phases i)) (a.phases i)) a.joined js
      → (AreNotesOf (state_of a) a.ids.epoch held.notes → AreNotesOf (state_of held_end_given) a.ids.epoch held.notes) → IsQuiet held_end_given
      → IsAs held_end_given held (record (let_go k t) { dead = k.dead ++ (record { client = client; trans = t; cause = c }) ∷ []; joins = js })
  held_ended_as up joined noted quiet =
      subst (λ (x : ServerState V). IsAs held_end_given held x) (sym (ap (λ (x : ServerState V). record x { dead = k.dead ++ (record { client = client; trans = t; cause = c }) ∷ []; joins = js }) (let_go_is a held k t m on h ready (gone a held k t m on h ready))))
      (subst (λ (x : Account). IsAs x held (record k { lives = (server_then a held k t m on h ready (gone a held k t m on h ready)).lives; waits = (server_then a held k t m on h ready (gone a held k t m on h ready)).waits; locks = record (released k.locks t) { woken = [] }; dead = k.dead ++ (record { client = client; trans = t; cause = c }) ∷ []; joins = js })) same_state
      (left_as a held k t m on h ready (gone a held k t m on h ready) a.fates (λ i. cond {A = Phase} (same_join j i) (move (a.phases i)) (a.phases i)) a.sessions (λ e u. cond {A = Option Cause} (e == client && same_trans u t) (Some c) (a.dead e u)) (state_then a held k t m on h ready (gone a held k t m on h ready)).waits k.sessions (k.dead ++ (record { client = client; trans = t; cause = c }) ∷ []) (server_then a held k t m on h ready (gone a held k t m on h ready)).waits k.coordinator js up h.coordinator joined (λ u. refl)
      (λ q. subst (λ (x : Account). AreNotesOf (state_of x) a.ids.epoch held.notes) (sym same_state) (noted q)) h.places h.sessions
      (λ d u. ap (λ (x : Option Cause). cond {A = Option Cause} (d == client && same_trans u t) (Some c) x) (h.dead d u) ∙ dead_then k.dead client t c d u)
      (gone a held k t m on h ready).all.waits (gone a held k t m on h ready).all.asked (gone a held k t m on h ready).queue (subst IsQuiet (sym same_state) quiet)))
    where
      same_state : record (state_then a held k t m on h ready (gone a held k t m on h ready)) { phases = λ i. cond {A = Phase} (same_join j i) (move (a.phases i)) (a.phases i); dead = λ e u. cond {A = Option Cause} (e == client && same_trans u t) (Some c) (a.dead e u); is_down = false; pending = [] } ≡ held_end_given
      same_state = ap (with_granted (record a {
        holder = with_life a.holder t None;
        phases = λ i. cond {A = Phase} (same_join j i) (move (a.phases i)) (a.phases i);
        dead = λ e u. cond {A = Option Cause} (e == client && same_trans u t) (Some c) (a.dead e u);
        locked = lock_set a.locked t [];
        is_down = false;
        pending = [];
      })) (sym (ap (granted_calls a.waits) (gone a held k t m on h ready).woken ∙ (gone a held k t m on h ready).calls))

-- ---- the step

-- the join's part had not voted: its join goes, its client is to be told, and this is said
module _ {V : Type 0} (G : Ghosts V) (k : ServerState V) (j : JoinNo) (t : TransId) (client : ℕ) (who : List ℕ) (found : join_of t (join_at k.joins.lives j) ≡ Some (record { join = j; trans = t; client = client; stage = stage.Active who })) (up : k.is_down ≡ false)
    (ready : IsReadyForMore (G.serves k.vault) k) (c : Cause) (p : LiveJoin → Bool) (so : p (record { join = j; trans = t; client = client; stage = stage.Active who }) ≡ true) (js : Joins) (js_is : js ≡ record k.joins { lives = without j p k.joins.lives }) where
  abbrev pub active : LiveJoin
  active = record { join = j; trans = t; client = client; stage = stage.Active who }

  pub active_there : join_at k.joins.lives j ≡ Some (record { join = j; trans = t; client = client; stage = stage.Active who })
  active_there = (join_found t (join_at k.joins.lives j) active found).there

  -- the client has no other join of it
  apart : (n : ℕ) → IsReady n (G.serves k.vault) k → (i : JoinNo) (x : LiveJoin) → join_at (without j p k.joins.lives) i ≡ Some x → (x.client == client && same_trans x.trans t) ≡ false
  apart n h i x at = go (x.client == client && same_trans x.trans t) refl
    where
      go : (b : Bool) → (x.client == client && same_trans x.trans t) ≡ b → b ≡ false
      go false e = refl
      go true e =
          let both = and_parts (x.client == client) (same_trans x.trans t) e in
          let was : join_at k.joins.lives i ≡ Some x = was_there j p k.joins.lives h.joins.once i x at in
          let same : same_join i j ≡ true = same_number k.joins.lives client t j i active x h.joins.single active_there was (is_its client t active refl refl) (is_its client t x (same_trans-true x.trans t both.1) (eqb-true x.client client both.0)) in
          let wrong : ◌≡◌ {A = Option LiveJoin} None (Some x) = sym (join_gone k.joins j active p h.joins.once active_there so) ∙ ap (join_at (without j p k.joins.lives)) (sym (same_join-true i j same)) ∙ at in
          cc

  then_ready : (n : ℕ) → IsReady n (G.serves k.vault) k → IsReady (n + 1) (G.serves k.vault) (record (let_go k t) { dead = k.dead ++ (record { client = client; trans = t; cause = c }) ∷ []; joins = js })
  then_ready n h =
      subst (λ (xs : Joins). IsReady (n + 1) (G.serves k.vault) (record (let_go k t) { dead = k.dead ++ (record { client = client; trans = t; cause = c }) ∷ []; joins = xs })) (sym js_is)
      (stepped_ready n (G.serves k.vault) (record (let_go k t) { dead = k.dead ++ (record { client = client; trans = t; cause = c }) ∷ []; joins = record k.joins { lives = without j p k.joins.lives } }) late)
    where
      late : IsReady n (G.serves k.vault) (record (let_go k t) { dead = k.dead ++ (record { client = client; trans = t; cause = c }) ∷ []; joins = record k.joins { lives = without j p k.joins.lives } })
      late =
          subst (λ (s : ServerState V). IsReady n (G.serves k.vault) s) (ap (λ (s : ServerState V). record s { dead = k.dead ++ (record { client = client; trans = t; cause = c }) ∷ []; joins = record k.joins { lives = without j p k.joins.lives } }) (sym (let_go_of k t)))
          (subst (λ (s : ServerState V). IsReady n (G.serves k.vault) s) (ap (λ (s : ServerState V). record s { dead = k.dead ++ (record { client = client; trans = t; cause = c }) ∷ []; coordinator = k.coordinator; joins = record k.joins { lives = without j p k.joins.lives } }) (let_go_of k t))
          (late_ready n k t k.coordinator (record k.joins { lives = without j p k.joins.lives }) (G.serves k.vault) client c (apart n h) (join_lets n (G.serves k.vault) k h j active active_there refl p so) h))

  then_noted : AreNotesFor k (G.held k.vault).notes → AreNotesFor (record (let_go k t) { dead = k.dead ++ (record { client = client; trans = t; cause = c }) ∷ []; joins = js }) (G.held k.vault).notes
  then_noted q =
      subst (λ (xs : Joins). AreNotesFor (record (let_go k t) { dead = k.dead ++ (record { client = client; trans = t; cause = c }) ∷ []; joins = xs }) (G.held k.vault).notes) (sym js_is)
      (subst (λ (s : ServerState V). AreNoted s.server s.servers s.epoch (let_go k t).lives (record k.joins { lives = without j p k.joins.lives }) s.coordinator (G.held k.vault).notes) (same_seat (sym (let_go_of k t)))
      (open_noted ready.0 (G.serves k.vault) k ready.2 j active active_there refl p so refl (G.held k.vault).notes q))
    where
      same_seat : record k { waits = (let_go k t).waits; lives = (let_go k t).lives; locks = record (released k.locks t) { woken = [] } } ≡ let_go k t → record k { waits = (let_go k t).waits; lives = (let_go k t).lives; locks = record (released k.locks t) { woken = [] } } ≡ let_go k t
      same_seat e = e

  pub active_step : (move : Phase → Phase) (e : Event) (x : Answer) (acts : List Act) → x ≡ told_answer None acts → list_any is_stop acts ≡ false → ((before now : ℕ) (allowance : Allowance) → HaveCauses before now allowance acts)
      → ((a : Account) (h : IsAs a (G.held k.vault) k) → AreJoins a.holder.server a.ids.epoch a.ids.joins (λ i. cond {A = Phase} (same_join j i) (move (a.phases i)) (a.phases i)) a.joined js)
      → ((a : Account) (h : IsAs a (G.held k.vault) k) → Leads false a (record { event = e; reply = None; acts = acts }) (held_end_given a (G.held k.vault) k ready.0 (G.serves k.vault) h ready.2 j t client c move js))
      → (e ≡ event.Restart → ⊥) → list_any is_write acts ≡ false → ((a : Account) → IsAs a (G.held k.vault) k → AbortsNoVote (state_of a) e)
      → IsStepAs G None k (record (let_go k t) { dead = k.dead ++ (record { client = client; trans = t; cause = c }) ∷ []; joins = js }) e (Ok x)
  active_step move e x acts said none causes joined leads on unwritten aborts =
      said_step G k (record (let_go k t) { dead = k.dead ++ (record { client = client; trans = t; cause = c }) ∷ []; joins = js }) e x acts
      (record {
        vault = ap (λ (s : ServerState V). s.vault) (let_go_of k t);
        server = ap (λ (s : ServerState V). s.server) (let_go_of k t);
        servers = ap (λ (s : ServerState V). s.servers) (let_go_of k t);
        sizes = ap (λ (s : ServerState V). s.sizes) (let_go_of k t);
        epoch = ap (λ (s : ServerState V). s.epoch) (let_go_of k t);
        clock = ap (λ (s : ServerState V). s.clock) (let_go_of k t);
        sessions = ap (λ (s : ServerState V). s.sessions) (let_go_of k t);
        down = ap (λ (s : ServerState V). s.is_down) (let_go_of k t);
      }) up said none causes then_ready then_noted
      (λ a h.
      (let m : Account = held_end_given a (G.held k.vault) k ready.0 (G.serves k.vault) h ready.2 j t client c move js in
      silent_stepped a m (G.faults k.vault) (G.held k.vault) k (record (let_go k t) { dead = k.dead ++ (record { client = client; trans = t; cause = c }) ∷ []; joins = js }) e x acts h (ap (λ (s : ServerState V). s.clock) (let_go_of k t)) said (leads a h)
      (held_ended_as a (G.held k.vault) k ready.0 (G.serves k.vault) h ready.2 j t client c move js up (joined a h)
      (notes_stay a m (record { event = e; reply = None; acts = acts }) h.quiet (leads a h).lawful (leads a h).leaves on unwritten (aborts a h) a.ids.epoch (G.held k.vault).notes) (leads a h).quiet)))

  -- its life in the journal
  pub record IsHeldBy (a : Account) : Type 0 where
    pub phase : a.phases j ≡ Active t client who
    pub life : Life
    pub lives : a.holder.lives t ≡ Some life
    pub mine : life.join ≡ Some j
    pub own : life.client ≡ client

  pub held_by : (a : Account) → IsAs a (G.held k.vault) k → IsHeldBy a
  held_by a h =
      let r : IsReady ready.0 (G.serves k.vault) k = ready.2 in
      let part : (l : Live) × (map.get k.lives t ≡ Some l) × (l.join ≡ Some j) = r.paired.joins j active active_there refl in
      let y : IsLive a.holder.cells k.locks.held (a.locked t) t part.0 (a.holder.lives t) = live_there a.holder.cells k.locks.held (a.locked t) t (map.get k.lives t) (a.holder.lives t) part.0 part.1 (h.lives t) in
      let x = joined_by k.servers k.server k.coordinator k.joins k.lives t part.0 j r.paired part.1 part.2 in
      let same : active ≡ x.0 = same_some active x.0 (sym active_there ∙ x.1) in
      record {
        phase = phase_told a (G.held k.vault) k j active h active_there;
        life = y.life;
        lives = y.is;
        mine = y.alike.join ∙ part.2;
        own = y.alike.client ∙ sym x.3 ∙ ap (λ (z : LiveJoin). z.client) (sym same);
      }

-- told that its transaction ended
pub aborted_active_step : {V : Type 0} (G : Ghosts V) (k : ServerState V) (from : ℕ) (j : JoinNo) (t : TransId) (client : ℕ) (who : List ℕ) (found : join_of t (join_at k.joins.lives j) ≡ Some (record { join = j; trans = t; client = client; stage = stage.Active who })) → k.is_down ≡ false
    → IsReadyForMore (G.serves k.vault) k → (c : Cause) (js : Joins) → js ≡ with_aborted k.joins j t
    → ((s : State) → AreJoinsOf s k.joins → AreJoinsOf (state_deed s (Aborts j t client c)) js)
    → (x : Answer) → x ≡ told_answer None (act.Released t ∷ grant_acts (granted_behind k t))
    → IsStepAs G None k (record (let_go k t) { dead = k.dead ++ (record { client = client; trans = t; cause = c }) ∷ []; joins = js }) (event.Arrive from (msg.Abort t j c)) (Ok x)
aborted_active_step G k from j t client who found up ready c js js_is deed x so =
    active_step G k j t client who found up ready c (λ (l : LiveJoin). same_trans t l.trans) (same_trans-itself t) js js_is (aborted t) (event.Arrive from (msg.Abort t j c)) x ((act.Released t ∷ grant_acts (granted_behind k t)) ++ [])
    (so ∙ ap (told_answer None) (sym (append-nil (act.Released t ∷ grant_acts (granted_behind k t))))) (grants_go_with (granted_behind k t) [] refl) (λ before now allowance. grants_caused_with before now allowance (granted_behind k t) [] tt)
    (λ a h. subst (λ (xs : List JoinNo). AreJoins a.holder.server a.ids.epoch a.ids.joins (λ i. cond {A = Phase} (same_join j i) (aborted t (a.phases i)) (a.phases i)) xs js) (append-nil a.joined) (deed (state_of a) h.joins))
    (λ a h.
    (let b : IsHeldBy G k j t client who found up ready c (λ (l : LiveJoin). same_trans t l.trans) (same_trans-itself t) js js_is a = held_by G k j t client who found up ready c (λ (l : LiveJoin). same_trans t l.trans) (same_trans-itself t) js js_is a h in
    abort_leads a from t j client b.life c h.quiet (h.down ∙ up) (ap live_in b.phase) (subst (IsHolding t) (sym b.phase) refl) b.lives b.mine b.own (granted_behind k t)
    (held_walk a (G.held k.vault) k ready.0 (G.serves k.vault) h ready.2 j t client c (aborted t) js)))
    (λ e. (let wrong : event.Arrive from (msg.Abort t j c) ≡ event.Restart = e in cc)) (grants_write (granted_behind k t) [] refl)
    (λ a h.
    (let b : IsHeldBy G k j t client who found up ready c (λ (l : LiveJoin). same_trans t l.trans) (same_trans-itself t) js js_is a = held_by G k j t client who found up ready c (λ (l : LiveJoin). same_trans t l.trans) (same_trans-itself t) js js_is a h in
    ap is_ready b.phase))

-- a vote against a commit never says that a read failed
pub may_against : {V : Type 0} (k : ServerState V) (client : ℕ) (t : TransId) (j : JoinNo) (w : Why) → why_against k client t ≡ Some w → MaySay (msg.No t j w)
may_against k client t j w is = first (has_waiting client t k.waits) (nat_le clock_end k.clock) is
  where
    full : (x : Option Why) → ((v : Why) → x ≡ Some v → MaySay (msg.No t j v)) → full_or false x ≡ Some w → MaySay (msg.No t j w)
    full None may e = absurd (let wrong : ◌≡◌ {A = Option Why} None (Some w) = e in cc)
    full (Some v) may e = may w e

    room : (area before after : ℕ) (v : Why) → no_room area before after ≡ Some v → MaySay (msg.No t j v)
    room area before after v e = go (nat_lt area after) e
      where
        go : (b : Bool) → cond {A = Option Why} b (Some (why.LogFull (area - before) (after - before))) None ≡ Some v → MaySay (msg.No t j v)
        go true e = subst (λ (u : Why). MaySay (msg.No t j u)) (same_some (why.LogFull (area - before) (after - before)) v e) tt
        go false e = absurd (let wrong : ◌≡◌ {A = Option Why} None (Some v) = e in cc)

    first : (b d : Bool) → first_why false b d (room_for k.sizes.area (ready_room k.lives k.joins.lives) (size_in k.lives t)) ≡ Some w → MaySay (msg.No t j w)
    first true d e = subst (λ (u : Why). MaySay (msg.No t j u)) (same_some why.Waiting w e) tt
    first false true e = subst (λ (u : Why). MaySay (msg.No t j u)) (same_some why.ClockEnd w e) tt
    first false false e = full (room_for k.sizes.area (ready_room k.lives k.joins.lives) (size_in k.lives t)) (λ v is. room _ _ _ v is) e

-- asked for its vote, which is against the commit
pub against_step : {V : Type 0} (G : Ghosts V) (k : ServerState V) (from : ℕ) (j : JoinNo) (t : TransId) (client : ℕ) (who : List ℕ) (found : join_of t (join_at k.joins.lives j) ≡ Some (record { join = j; trans = t; client = client; stage = stage.Active who })) → k.is_down ≡ false
    → IsReadyForMore (G.serves k.vault) k → (w : Why) → ((a : Account) (held : Contents) → IsAs a held k → why_not false (state_of a) client t ≡ Some w) → MaySay (msg.No t j w) → (js : Joins) → js ≡ with_quit k.joins j
    → ((s : State) → AreJoinsOf s k.joins → AreJoinsOf (state_deed s (Quits j t client (Some (cause.Voted k.server w)))) js)
    → (x : Answer) → x ≡ told_answer None ((act.Released t ∷ grant_acts (granted_behind k t)) ++ said_to k t.server (msg.No t j w))
    → IsStepAs G None k (record (let_go k t) { dead = k.dead ++ (record { client = client; trans = t; cause = cause.Voted k.server w }) ∷ []; joins = js }) (event.Arrive from (msg.Ask t j)) (Ok x)
against_step G k from j t client who found up ready w not may js js_is deed x so =
    active_step G k j t client who found up ready (cause.Voted k.server w) (λ (l : LiveJoin). is_open l.stage) refl js js_is quit (event.Arrive from (msg.Ask t j)) x ((act.Released t ∷ grant_acts (granted_behind k t)) ++ said_to k t.server (msg.No t j w))
    so (grants_go_with (granted_behind k t) (said_to k t.server (msg.No t j w)) (said_goes_on (is_away k t.server) t.server (msg.No t j w)))
    (λ before now allowance. grants_caused_with before now allowance (granted_behind k t) (said_to k t.server (msg.No t j w)) (said_caused (is_away k t.server) t.server (msg.No t j w) may before now allowance))
    (λ a h. subst (λ (xs : List JoinNo). AreJoins a.holder.server a.ids.epoch a.ids.joins (λ i. cond {A = Phase} (same_join j i) (quit (a.phases i)) (a.phases i)) xs js) (append-nil a.joined) (deed (state_of a) h.joins))
    leads (λ e. (let wrong : event.Arrive from (msg.Ask t j) ≡ event.Restart = e in cc)) (grants_write (granted_behind k t) (said_to k t.server (msg.No t j w)) (unwritten (is_away k t.server))) (λ a h. tt)
  where
    unwritten : (b : Bool) → list_any is_write (said_if b t.server (msg.No t j w)) ≡ false
    unwritten true = refl
    unwritten false = refl

    leads : (a : Account) (h : IsAs a (G.held k.vault) k) → Leads false a (record { event = event.Arrive from (msg.Ask t j); reply = None; acts = (act.Released t ∷ grant_acts (granted_behind k t)) ++ said_to k t.server (msg.No t j w) })
        (held_end_given a (G.held k.vault) k ready.0 (G.serves k.vault) h ready.2 j t client (cause.Voted k.server w) quit js)
    leads a h =
        let b : IsHeldBy G k j t client who found up ready (cause.Voted k.server w) (λ (l : LiveJoin). is_open l.stage) refl js js_is a = held_by G k j t client who found up ready (cause.Voted k.server w) (λ (l : LiveJoin). is_open l.stage) refl js js_is a h in
        let far : is_away k t.server ≡ true = away_told a (G.held k.vault) k t.server h ∙ (subst (IsPhaseOf a.servers a.holder.server a.ids.epoch a.ids.joins a.joined j) b.phase (h.quiet.settled.stands.phases j)).1 in
        subst (λ (d : Bool). Leads false a (record { event = event.Arrive from (msg.Ask t j); reply = None; acts = (act.Released t ∷ grant_acts (granted_behind k t)) ++ said_if d t.server (msg.No t j w) }) (held_end_given a (G.held k.vault) k ready.0 (G.serves k.vault) h ready.2 j t client (cause.Voted k.server w) quit js)) (sym far)
        (ask_against_leads a from t j client b.life (cause.Voted k.server w) false w who (ap (λ (n : ℕ). cause.Voted n w) (sym h.server)) h.quiet (h.down ∙ up) b.phase b.lives b.own (not a (G.held k.vault) h) (granted_behind k t)
        (held_walk a (G.held k.vault) k ready.0 (G.serves k.vault) h ready.2 j t client (cause.Voted k.server w) quit js))
