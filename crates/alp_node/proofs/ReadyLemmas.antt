-- a server stays ready, step by step
use Rattle.std.specs.Prelude.{cond, Bool, true, false, not, ◌==◌, ◌&&◌, IsTrue, Option, None, Some, is_some}
use Rattle.std.specs.FinMap as map
use Rattle.std.specs.List.{list_all, AllByRecursion}
use Rattle.std.proofs.Common.{◌≡◌, ℕ, ◌+◌, ◌^◌, ◌<◌, ◌≤◌, List, [], ◌∷◌, ◌++◌, length, refl, sym, ◌∙◌, ap, subst, arith, le_refl}
use Rattle.alp_base.specs.declared.ids.JoinNo.{JoinNo}
use Rattle.alp_base.specs.declared.ids.TransId.{TransId}
use Rattle.alp_base.specs.declared.key.Resource.{Resource}
use Rattle.alp_base.specs.declared.key.Resource.TheVariants.{Whole}
use Rattle.alp_base.specs.Orders.{trans_cmp}
use Rattle.alp_files.specs.declared.reply.Ended.TheVariants as ended
use Rattle.alp_files.specs.declared.reply.Reply.{Reply}
use Rattle.alp_files.specs.declared.reply.Reply.TheVariants as reply
use Rattle.alp_files.specs.Act.{Own, no_opens}
use Rattle.alp_files.specs.declared.open.Open.{Open}
use Rattle.alp_trans.specs.Parts.{own_of}
use Rattle.alp_locks.specs.Tables.{Table, held_of, holding}
use Rattle.alp_locks.specs.Asks.{entered}
use Rattle.alp_locks.specs.Releases.{released}
use Rattle.alp_locks.proofs.HeldLemmas.{insert-keeps, insert-knows}
use Rattle.alp_locks.proofs.LawLemmas.{entering-keeps-held}
use Rattle.alp_locks.proofs.SoundLemmas.{released-sound, entered-sound, each-more, each-both, each-filter, not-true}
use Rattle.alp_locks.proofs.WakeLemmas.{taken-sound, released-each, released-knows}
use Rattle.alp_queue.specs.Order.{is_of as is_waiter_of}
use Rattle.alp_queue.specs.declared.waiter.Waiter.{Waiter}
use Rattle.alp_journal.specs.Ids.{same_trans}
use Rattle.alp_journal.specs.Answers.{is_counted}
use Rattle.alp_journal.specs.Coordinator.{decision_in}
use Rattle.alp_journal.specs.Deeds.{Begins}
use Rattle.alp_journal.proofs.IdLemmas.{same_trans-itself, same_trans-true}
use Rattle.alp_coord.specs.declared.coordinator.Coordinator.{Coordinator}
use Rattle.alp_coord.specs.Coordinators.{IsOf, IsAlong, Comes, Keeps, server_of, epoch_of, count_of, next_id, counted_of}
use Rattle.alp_worker.specs.declared.joins.Joins.{Joins}
use Rattle.alp_worker.specs.declared.live.LiveJoin.{LiveJoin}
use Rattle.alp_worker.specs.Lives.{join_at}
use Rattle.alp_node.specs.Asks.{is_given, IsHeldHere}
use Rattle.alp_node.specs.Dead.{cause_in, without_client}
use Rattle.alp_node.specs.Rooms.{IsWithin}
use Rattle.alp_node.specs.Sessions.{session_at, with_session}
use Rattle.alp_node.specs.EarlyFates.{AreEarly}
use Rattle.alp_node.specs.Noted.{HasReadyRoom, ready_room}
use Rattle.alp_node.specs.Paired.{ArePaired}
use Rattle.alp_node.specs.ServerState.{IsAlive, AreAlive, AreJoinsHere, IsReady}
use Rattle.alp_node.specs.Totals.{LiveMap}
use Rattle.alp_node.specs.Transactions.{AreDecidedBy}
use Rattle.alp_node.specs.Releases.{buried, cleared}
use Rattle.alp_node.specs.Steps.{IsTurn, counted_in}
use Rattle.alp_node.specs.Turns.{TellsUpTo, IsKeepable}
use Rattle.alp_node.specs.declared.server_state.ServerState.{ServerState}
use Rattle.alp_node.specs.declared.dead.DeadPart.{DeadPart}
use Rattle.alp_node.specs.Waits.{is_of, is_other_at, without_calls_of, without_other_at, outlives, without_dead, stays, live_calls, IsNamed, IsCurrent, IsWaitingCall, IsOfOther, IsOfCalls, AreWaiting, AreVotersIdle, asks_for}
use Rattle.alp_node.specs.declared.lock_counts.LockCounts.{LockCounts}
use Rattle.alp_node.specs.declared.lives.Live.{Live}
use Rattle.alp_node.specs.declared.waits.WaitingCall.{WaitingCall}
use Rattle.alp_node.proofs.DeadLemmas.{none_left, dead_buried, alive_still}
use Rattle.alp_node.proofs.WaitLemmas.{call_later, like_itself, filter_apart, IsOwned, all_owned, asks_undead, asks_live, asks_other, asks_without_other, each_so, pushed_each, pushed_apart, pushed_asks, file_pushed, idle_fewer}
use Rattle.alp_node.proofs.NotedLemmas.{room_on, voters_put, voters_gone}
use Rattle.alp_node.proofs.EarlyLemmas.{early_begins, early_keeps, early_lets}
use Rattle.alp_node.proofs.PairedLemmas.{HasNoJoinOf, own_unjoined, part_has, paired_begun, paired_gone, paired_kept, counted_fewer, counted_gone, counted_begun}
use Rattle.alp_node.proofs.TransactionLemmas.{LetsGo, times_begun}
use Rattle.alp_journal.specs.Desk.{Session}
use Rattle.alp_node.specs.declared.sessions.Sessions.{Sessions}
use Rattle.alp_node.specs.declared.sessions.Turn.{Turn}
use Rattle.alp_node.proofs.MapLemmas.{session_kept, places_set, get_put, get_gone, tied_same}
use Rattle.alp_node.proofs.HeldHere.{same_here, released_here}

-- ---- sessions

same_session : (a b : Session) → Some a ≡ Some b → a ≡ b
same_session a b e = cc

same_live : (a b : Live) → Some a ≡ Some b → a ≡ b
same_live a b e = cc

-- no session counts further than so many steps
calls_set : (sessions : Sessions) (client : ℕ) (w : Session) (n : ℕ) → length sessions.places ≡ 17 → client ≤ 16 → ((c : ℕ) (x : Session) → session_at sessions c ≡ Some x → x.last ≤ n) → w.last ≤ n + 1
    → (c : ℕ) (x : Session) → session_at (with_session sessions client w) c ≡ Some x → x.last ≤ n + 1
calls_set sessions client w n full le all low c x is = go (c == client) (sym (session_kept sessions client w c full le) ∙ is)
  where
    go : (b : Bool) → cond {A = Option Session} b (Some w) (session_at sessions c) ≡ Some x → x.last ≤ n + 1
    go true e = subst (λ (y : Session). y.last ≤ n + 1) (same_session w x e) low
    go false e = (let before : x.last ≤ n = all c x e in omega arith)

turn_within : (sessions : Sessions) (t : Turn) (n : ℕ) → IsTurn sessions t → ((c : ℕ) (x : Session) → session_at sessions c ≡ Some x → x.last ≤ n) → t.number ≤ n + 1
turn_within sessions t n turn all = (let low : turn.last ≤ n = all t.client (record { who = t.who; last = turn.last; reply = turn.kept }) turn.session in omega (arith, turn.number))

-- what a reply tells is no later at a later clock
tells_later : (m n : ℕ) (r : Reply) → m ≤ n → TellsUpTo m r → TellsUpTo n r
tells_later m n (reply.Committed stamp) le h = omega (arith, le, h)
tells_later m n (reply.Ended (ended.Committed stamp)) le h = omega (arith, le, h)
tells_later m n (reply.Ended ended.Running) le h = tt
tells_later m n (reply.Ended ended.Aborted) le h = tt
tells_later m n (reply.Ended ended.Unknown) le h = tt
tells_later m n (reply.Welcome e) le h = tt
tells_later m n (reply.Begun t) le h = tt
tells_later m n reply.Joined le h = tt
tells_later m n (reply.Created f k) le h = tt
tells_later m n (reply.Opened k) le h = tt
tells_later m n reply.Plain le h = tt
tells_later m n (reply.Pages ps) le h = tt
tells_later m n (reply.Props p) le h = tt
tells_later m n (reply.Owner o) le h = tt
tells_later m n (reply.Refused f) le h = tt

pub keepable_later : (m n : ℕ) (r : Reply) → m ≤ n → IsKeepable m r → IsKeepable n r
keepable_later m n r le h = record { inside = h.inside; times = tells_later m n r le h.times }

-- each session keeps what it may, and so does one that is set
replies_set : (sessions : Sessions) (client : ℕ) (w : Session) (m n : ℕ) → length sessions.places ≡ 17 → client ≤ 16 → m ≤ n → ((c : ℕ) (x : Session) → session_at sessions c ≡ Some x → IsKeepable m x.reply) → IsKeepable n w.reply
    → (c : ℕ) (x : Session) → session_at (with_session sessions client w) c ≡ Some x → IsKeepable n x.reply
replies_set sessions client w m n full small le all new c x is = go (c == client) (sym (session_kept sessions client w c full small) ∙ is)
  where
    go : (b : Bool) → cond {A = Option Session} b (Some w) (session_at sessions c) ≡ Some x → IsKeepable n x.reply
    go true e = subst (λ (y : Session). IsKeepable n y.reply) (same_session w x e) new
    go false e = keepable_later m n x.reply le (all c x e)

-- ---- locks

away : (t u : TransId) (m : map.FinMap trans_cmp Live) (l : Live) → map.get m u ≡ None → map.get m t ≡ Some l → same_trans u t ≡ false
away t u m l none there = go (same_trans u t) refl
  where
    go : (b : Bool) → same_trans u t ≡ b → b ≡ false
    go true e = let wrong : None ≡ Some l = sym none ∙ ap (map.get m) (same_trans-true u t e) ∙ there in cc
    go false e = refl

pub turned : (u t : TransId) → same_trans u t ≡ false → same_trans t u ≡ false
turned u t e = go (same_trans t u) refl
  where
    go : (b : Bool) → same_trans t u ≡ b → b ≡ false
    go true f = let wrong : true ≡ false = sym (ap (same_trans u) (same_trans-true t u f) ∙ same_trans-itself u) ∙ e in cc
    go false f = refl

-- a file of the server and its epoch, by its counter
abbrev pub numbered : {V : Type 0} → ServerState V → ℕ → Resource
numbered k m = Whole (record { server = k.server; epoch = k.epoch; counter = m })

-- as the client's dead parts go, whoever was not dead is not
pub alive_buried : (client : ℕ) (dead : List DeadPart) (lives : LiveMap) (joins : List LiveJoin) → AreAlive dead lives joins → AreAlive (without_client client dead) lives joins
alive_buried client dead lives joins h = record {
  parts = λ t l is. still l.client t (h.parts t l is);
  joins = λ j x is. still x.client x.trans (h.joins j x is);
}
  where
    still : (n : ℕ) (t : TransId) → cause_in dead n t ≡ None → cause_in (without_client client dead) n t ≡ None
    still n t none = alive_still (n == client) (cause_in dead n t) (cause_in (without_client client dead) n t) (dead_buried client dead n t) none

-- the joins of a server are within more steps
pub joins_later : (server epoch m n : ℕ) (js : Joins) → m ≤ n → AreJoinsHere server epoch m js → AreJoinsHere server epoch n js
joins_later server epoch m n js more h = record { server = h.server; epoch = h.epoch; drawn = omega (arith, more, h.drawn); numbered = h.numbered; clients = h.clients; once = h.once; single = h.single; times = h.times }

module _ {V : Type 0} (n : ℕ) (serves : Bool) (k : ServerState V) where
  -- a session begins
  pub hello_ready : (client : ℕ) (name : List ℕ) → client ≤ 16 → IsReady n serves k → IsReady (n + 1) serves (record k { sessions = with_session k.sessions client (record { who = name; last = 1; reply = reply.Welcome k.epoch }) })
  hello_ready client name le h = record {
    serving = h.serving;
    halted = h.halted;
    sound = h.sound;
    taken = h.taken;
    waits = h.waits;
    known = h.known;
    paired = h.paired;
    idle = h.idle;
    opens = λ t l is. (let low : l.part.last ≤ n = h.opens t l is in omega arith);
    opened = h.opened;
    alive = h.alive;
    places = places_set k.sessions client (record { who = name; last = 1; reply = reply.Welcome k.epoch }) h.places;
    calls = calls_set k.sessions client (record { who = name; last = 1; reply = reply.Welcome k.epoch }) n h.places le h.calls (omega arith);
    replies = replies_set k.sessions client (record { who = name; last = 1; reply = reply.Welcome k.epoch }) k.clock k.clock h.places le (le_refl k.clock) h.replies (record { inside = tt; times = tt });
    drawn = omega (arith, h.drawn);
    given = omega (arith, h.given);
    most = h.most;
    fits = h.fits;
    within = h.within;
    sized = h.sized;
    clock = h.clock;
    raised = h.raised;
    fated = h.fated;
    last = h.last;
    unheld = h.unheld;
    seat = h.seat;
    joins = joins_later k.server k.epoch n (n + 1) k.joins (omega arith) h.joins;
    times = h.times;
  }

  -- the session counts on, and keeps the reply
  pub counted_ready : (turn : Turn) (r : Reply) → IsTurn k.sessions turn → IsKeepable k.clock r → IsReady n serves k → IsReady (n + 1) serves (record k { sessions = counted_in k.sessions turn r })
  counted_ready turn r is keeps h = record {
    serving = h.serving;
    halted = h.halted;
    sound = h.sound;
    taken = h.taken;
    waits = h.waits;
    known = h.known;
    paired = h.paired;
    idle = h.idle;
    opens = λ t l there. (let low : l.part.last ≤ n = h.opens t l there in omega arith);
    opened = h.opened;
    alive = h.alive;
    places = places_set k.sessions turn.client (record { who = turn.who; last = turn.number; reply = r }) h.places;
    calls = calls_set k.sessions turn.client (record { who = turn.who; last = turn.number; reply = r }) n h.places is.client h.calls (turn_within k.sessions turn n is h.calls);
    replies = replies_set k.sessions turn.client (record { who = turn.who; last = turn.number; reply = r }) k.clock k.clock h.places is.client (le_refl k.clock) h.replies keeps;
    drawn = omega (arith, h.drawn);
    given = omega (arith, h.given);
    most = h.most;
    fits = h.fits;
    within = h.within;
    sized = h.sized;
    clock = h.clock;
    raised = h.raised;
    fated = h.fated;
    last = h.last;
    unheld = h.unheld;
    seat = h.seat;
    joins = joins_later k.server k.epoch n (n + 1) k.joins (omega arith) h.joins;
    times = h.times;
  }

  -- one step more
  pub stepped_ready : IsReady n serves k → IsReady (n + 1) serves k
  stepped_ready h = record {
    serving = h.serving;
    halted = h.halted;
    sound = h.sound;
    taken = h.taken;
    waits = h.waits;
    known = h.known;
    paired = h.paired;
    idle = h.idle;
    opens = λ t l is. (let low : l.part.last ≤ n = h.opens t l is in omega arith);
    opened = h.opened;
    alive = h.alive;
    places = h.places;
    calls = λ c w is. (let low : w.last ≤ n = h.calls c w is in omega arith);
    replies = h.replies;
    drawn = omega (arith, h.drawn);
    given = omega (arith, h.given);
    most = h.most;
    fits = h.fits;
    within = h.within;
    sized = h.sized;
    clock = h.clock;
    raised = h.raised;
    fated = h.fated;
    last = h.last;
    unheld = h.unheld;
    seat = h.seat;
    joins = joins_later k.server k.epoch n (n + 1) k.joins (omega arith) h.joins;
    times = h.times;
  }

  -- a transaction is gone and its locks go, but nobody is woken yet, and the coordinator, the joins and the clock go on
  abbrev pub gone_kept : TransId → Coordinator → Joins → ℕ → ServerState V
  gone_kept t c js clock = record k { lives = map.remove k.lives t; locks = record (released k.locks t) { woken = [] }; coordinator = c; joins = js; clock = clock }

  -- what holds of these then
  pub record LetsPart (t : TransId) (c : Coordinator) (js : Joins) (clock : ℕ) : Type 0 where
    pub along : IsAlong k.coordinator c
    pub times : AreDecidedBy clock c
    pub fated : AreEarly k.servers k.server c
    pub joins : AreJoinsHere k.server k.epoch n js
    pub paired : ArePaired k.servers k.server c js (map.remove k.lives t)
    pub idle : AreVotersIdle js.lives k.waits
    pub alive : (j : JoinNo) (x : LiveJoin) → join_at js.lives j ≡ Some x → IsAlive k.dead x.client x.trans
    pub most : counted_of c + length js.lives ≤ 64
    pub fits : HasReadyRoom k.sizes (ready_room (map.remove k.lives t) js.lives)

  -- one of this server runs no more
  pub own_lets : (t : TransId) (c : Coordinator) (clock : ℕ) → LetsGo k.coordinator c t clock → t.server ≡ k.server → IsReady n serves k → LetsPart t c k.joins clock
  own_lets t c clock lets own h =
      let none : HasNoJoinOf k.joins.lives t = own_unjoined k.servers k.server k.coordinator k.joins k.lives h.paired t own in
      record {
        along = lets.along;
        times = lets.times;
        fated = early_lets k.servers k.server t k.coordinator c lets.gone lets.others h.fated;
        joins = h.joins;
        paired = paired_gone k.servers k.server k.coordinator k.joins k.lives h.paired c t clock lets none;
        idle = h.idle;
        alive = h.alive.joins;
        most = (let fewer : counted_of c ≤ counted_of k.coordinator = counted_gone k.coordinator c t clock lets in omega (arith, fewer, h.most));
        fits = subst (HasReadyRoom k.sizes) (sym (room_on k.lives (map.remove k.lives t) k.joins.lives h.joins.once (voters_gone k.lives t k.joins.lives (λ j x is voted. none j x is)))) h.fits;
      }

  pub gone_ready : (t : TransId) (c : Coordinator) (js : Joins) (clock : ℕ) → k.clock ≤ clock → clock ≤ 2 ^ 62 → LetsPart t c js clock → IsReady n serves k → IsReady n serves (gone_kept t c js clock)
  gone_ready t c js clock later low lets h = record {
    serving = h.serving;
    halted = h.halted;
    sound = taken-sound (released k.locks t) (released-sound k.locks t h.sound);
    taken = refl;
    waits = record {
      calls = each-more (IsWaitingCall k.server k.epoch k.given (count_of k.coordinator) k.sizes k.lives) (IsWaitingCall k.server k.epoch k.given (count_of c) k.sizes (map.remove k.lives t))
          (λ w. call_later k.server k.epoch k.given k.given (le_refl k.given) k.sizes (count_of k.coordinator) (count_of c) (omega (arith, lets.along.count_same)) k.lives (map.remove k.lives t) w
          (λ z counted o l is. (l, kept w.trans (same_trans w.trans t) l (λ there. there) (sym (get_gone k.lives t w.trans) ∙ is), like_itself l))) k.waits h.waits.calls;
      apart = h.waits.apart;
      queued = each-more (λ (x : Waiter). IsOfCalls k.server k.epoch k.given k.lives k.waits x × (not (is_waiter_of t x) ≡ true)) (IsOfCalls k.server k.epoch k.given (map.remove k.lives t) k.waits)
          (λ x o. record { live = stays_live x.trans (turned t x.trans (sym (tied_same t x.trans) ∙ not-true (is_waiter_of t x) o.1)) o.0.live; asks = o.0.asks; beyond = o.0.beyond })
          (released k.locks t).waiting (released-each (IsOfCalls k.server k.epoch k.given k.lives k.waits) k.locks t h.waits.queued);
    };
    known = λ u l is. go u (same_trans u t) refl l (sym (get_gone k.lives t u) ∙ is);
    seat = (lets.along.server_same ∙ h.seat.0, lets.along.epoch_same ∙ h.seat.1);
    joins = lets.joins;
    paired = lets.paired;
    idle = lets.idle;
    opens = λ u l is. kept u (same_trans u t) l (λ there. h.opens u l there) (sym (get_gone k.lives t u) ∙ is);
    opened = λ u l is. kept u (same_trans u t) l (λ there. h.opened u l there) (sym (get_gone k.lives t u) ∙ is);
    alive = record { parts = λ u l is. kept u (same_trans u t) l (λ there. h.alive.parts u l there) (sym (get_gone k.lives t u) ∙ is); joins = lets.alive };
    places = h.places;
    calls = h.calls;
    replies = λ client w is. keepable_later k.clock clock w.reply later (h.replies client w is);
    drawn = omega (arith, lets.along.count_same, h.drawn);
    times = lets.times;
    given = h.given;
    most = lets.most;
    fits = lets.fits;
    within = λ u l is. kept u (same_trans u t) l (λ there. h.within u l there) (sym (get_gone k.lives t u) ∙ is);
    sized = h.sized;
    clock = low;
    raised = h.raised;
    fated = lets.fated;
    last = h.last;
    unheld = released_here k.server k.epoch k.given k.locks t h.unheld
        (each-more (IsOfCalls k.server k.epoch k.given k.lives k.waits) (λ (x : Waiter). IsHeldHere k.server k.epoch k.given (map.get x.after)) (λ x o. o.beyond) k.locks.waiting h.waits.queued);
  }
    where
      go : (u : TransId) (b : Bool) → same_trans u t ≡ b → (l : Live) → cond {A = Option Live} b None (map.get k.lives u) ≡ Some l → is_some (map.get (released k.locks t).held u) ≡ true
      go u true e l is = let wrong : None ≡ Some l = is in cc
      go u false e l is = released-knows k.locks t u (tied_same t u ∙ turned u t e) (h.known u l is)

      kept : (u : TransId) (b : Bool) (l : Live) {Q : Type 0} → (map.get k.lives u ≡ Some l → Q) → cond {A = Option Live} b None (map.get k.lives u) ≡ Some l → Q
      kept u true l f is = let wrong : None ≡ Some l = is in cc
      kept u false l f is = f is

      stays_live : (u : TransId) → same_trans u t ≡ false → is_some (map.get k.lives u) ≡ true → is_some (map.get (map.remove k.lives t) u) ≡ true
      stays_live u e there = ap is_some (get_gone k.lives t u ∙ ap (λ (x : Bool). cond {A = Option Live} x None (map.get k.lives u)) e) ∙ there

  -- a transaction begins
  module _ (turn : Turn) (l : Live) (clock : ℕ) (c : Coordinator) where
    abbrev t : TransId
    t = next_id k.coordinator

    -- the client's calls of dead parts go, and then those of no live part
    abbrev waits_then : List WaitingCall
    waits_then = live_calls turn.client c k.joins (without_dead turn.client k.dead k.waits)

    abbrev pub begun_kept : ServerState V
    begun_kept = record k { sessions = counted_in k.sessions turn (reply.Begun t); clock = clock; coordinator = c; dead = without_client turn.client k.dead; lives = map.insert k.lives t l; waits = waits_then; locks = entered k.locks t }

    pub begin_ready : IsTurn k.sessions turn → l.client ≡ turn.client → l.join ≡ None → IsOf (server_of k.coordinator) (epoch_of k.coordinator) (count_of k.coordinator + 1) c → ((who : List ℕ) (seen : ℕ) → Comes (Begins t turn.client who seen) k.coordinator c)
        → is_some l.who ≡ true → own_of l.part ≡ no_opens → IsWithin k.sizes l → counted_of k.coordinator + length k.joins.lives < 64 → k.clock ≤ clock → clock ≤ 2 ^ 62 → IsReady n serves k → IsReady (n + 1) serves begun_kept
    begin_ready is its joinless one comes caller none fresh less later low h = record {
      serving = h.serving;
      halted = h.halted;
      sound = entered-sound k.locks t h.sound;
      taken = h.taken;
      waits = record {
        calls = each-filter Called (stays turn.client c k.joins) (without_dead turn.client k.dead k.waits) (each-filter Called (outlives turn.client k.dead) k.waits calls_then);
        apart = filter_apart (stays turn.client c k.joins) (without_dead turn.client k.dead k.waits) (filter_apart (outlives turn.client k.dead) k.waits h.waits.apart);
        queued = each-more (IsOfCalls k.server k.epoch k.given k.lives k.waits) (IsOfCalls k.server k.epoch k.given (map.insert k.lives t l) waits_then)
            (λ x o. record {
              live = live_then x.trans o.live;
              asks = asks_live turn.client c k.joins (map.insert k.lives t l) (without_dead turn.client k.dead k.waits) x.trans
                  (λ m there. part_has k.servers k.server c k.joins (map.insert k.lives t l) paired_then x.trans m there) (live_then x.trans o.live) owned_then
                  (asks_undead turn.client k.dead k.lives k.waits x.trans (λ m there. h.alive.parts x.trans m there) o.live (all_owned k.server k.epoch k.given (count_of k.coordinator) k.sizes k.lives k.waits h.waits.calls) o.asks);
              beyond = o.beyond;
            }) k.locks.waiting h.waits.queued;
      };
      known = λ u x there. known_so u (same_trans u t) refl x (sym (get_put k.lives t l u) ∙ there);
      seat = (one.server_same ∙ h.seat.0, one.epoch_same ∙ h.seat.1);
      joins = joins_later k.server k.epoch n (n + 1) k.joins (omega arith) h.joins;
      paired = paired_then;
      idle = idle_fewer (stays turn.client c k.joins) k.joins.lives (without_dead turn.client k.dead k.waits) (idle_fewer (outlives turn.client k.dead) k.joins.lives k.waits h.idle);
      opens = λ u x there. opens_so u (same_trans u t) x (sym (get_put k.lives t l u) ∙ there);
      opened = λ u x there. opened_so u (same_trans u t) x (sym (get_put k.lives t l u) ∙ there);
      alive = record {
        parts = λ u x there. alive_so u (same_trans u t) x (sym (get_put k.lives t l u) ∙ there);
        joins = (alive_buried turn.client k.dead k.lives k.joins.lives h.alive).joins;
      };
      places = places_set k.sessions turn.client (record { who = turn.who; last = turn.number; reply = reply.Begun t }) h.places;
      calls = calls_set k.sessions turn.client (record { who = turn.who; last = turn.number; reply = reply.Begun t }) n h.places is.client h.calls (turn_within k.sessions turn n is h.calls);
      replies = replies_set k.sessions turn.client (record { who = turn.who; last = turn.number; reply = reply.Begun t }) k.clock clock h.places is.client later h.replies (record { inside = tt; times = tt });
      drawn = omega (arith, one.count_same, h.drawn);
      given = omega (arith, h.given);
      most = (let more : counted_of c ≤ counted_of k.coordinator + 1 = counted_begun turn.client 0 turn.who k.coordinator c (comes turn.who 0) in omega (arith, more, less));
      fits = subst (HasReadyRoom k.sizes) (sym (room_on k.lives (map.insert k.lives t l) k.joins.lives h.joins.once (voters_put k.lives t l k.joins.lives
          (λ j x is voted. own_unjoined k.servers k.server k.coordinator k.joins k.lives h.paired t h.seat.0 j x is)))) h.fits;
      within = λ u x there. within_so u (same_trans u t) x (sym (get_put k.lives t l u) ∙ there);
      sized = h.sized;
      clock = low;
      raised = h.raised;
      fated = early_begins k.servers k.server t turn.client 0 turn.who k.coordinator c (comes turn.who 0) h.fated;
      last = h.last;
      times = times_begun k.clock clock turn.client 0 turn.who t k.coordinator c later (comes turn.who 0) h.times;
      unheld = λ u. same_here k.server k.epoch k.given (holding k.locks.held u) (holding (entered k.locks t).held u) (λ r i. map.get (entering-keeps-held k.locks t u i) r) (h.unheld u);
    }
      where
        paired_then : ArePaired k.servers k.server c k.joins (map.insert k.lives t l)
        paired_then = paired_begun k.servers k.server k.coordinator k.joins k.lives h.paired turn.client 0 turn.who c l h.seat.0 its joinless caller (comes turn.who 0)

        alive_so : (u : TransId) (b : Bool) (x : Live) → cond {A = Option Live} b (Some l) (map.get k.lives u) ≡ Some x → cause_in (without_client turn.client k.dead) x.client u ≡ None
        alive_so u true x there = none_left k.dead x.client turn.client u (ap (λ (y : Live). y.client) (sym (same_live l x there)) ∙ its)
        alive_so u false x there = alive_still (x.client == turn.client) (cause_in k.dead x.client u) (cause_in (without_client turn.client k.dead) x.client u) (dead_buried turn.client k.dead x.client u) (h.alive.parts u x there)

        Called : WaitingCall → Type 0
        Called = IsWaitingCall k.server k.epoch k.given (count_of c) k.sizes (map.insert k.lives t l)

        older : (u : TransId) (b : Bool) → same_trans u t ≡ b → (u.server ≡ k.server → u.counter ≤ count_of k.coordinator) → (x : Live) → cond {A = Option Live} b (Some l) (map.get k.lives u) ≡ Some x → map.get k.lives u ≡ Some x
        older u true e before x there =
            let counter : u.counter ≡ count_of k.coordinator + 1 = ap (λ (v : TransId). v.counter) (same_trans-true u t e) in
            let low : u.counter ≤ count_of k.coordinator = before (ap (λ (v : TransId). v.server) (same_trans-true u t e) ∙ h.seat.0) in
            absurd (omega (arith, counter, low))
        older u false e before x there = there

        calls_then : AllByRecursion Called k.waits
        calls_then = each-more (IsWaitingCall k.server k.epoch k.given (count_of k.coordinator) k.sizes k.lives) Called
            (λ w. call_later k.server k.epoch k.given k.given (le_refl k.given) k.sizes (count_of k.coordinator) (count_of c) (omega (arith, one.count_same)) k.lives (map.insert k.lives t l) w
            (λ z counted o x there. (x, older w.trans (same_trans w.trans t) refl o.begun x (sym (get_put k.lives t l w.trans) ∙ there), like_itself x))) k.waits h.waits.calls

        owned_then : AllByRecursion (IsOwned (map.insert k.lives t l)) (without_dead turn.client k.dead k.waits)
        owned_then = each-filter (IsOwned (map.insert k.lives t l)) (outlives turn.client k.dead) k.waits (all_owned k.server k.epoch k.given (count_of c) k.sizes (map.insert k.lives t l) k.waits calls_then)

        live_then : (u : TransId) → is_some (map.get k.lives u) ≡ true → is_some (map.get (map.insert k.lives t l) u) ≡ true
        live_then u there = ap is_some (get_put k.lives t l u) ∙ either_live (same_trans u t) there
          where
            either_live : (b : Bool) → is_some (map.get k.lives u) ≡ true → is_some (cond {A = Option Live} b (Some l) (map.get k.lives u)) ≡ true
            either_live true e = refl
            either_live false e = e

        known_so : (u : TransId) (b : Bool) → same_trans u t ≡ b → (x : Live) → cond {A = Option Live} b (Some l) (map.get k.lives u) ≡ Some x → is_some (map.get (entered k.locks t).held u) ≡ true
        known_so u true e x there = ap (λ (v : TransId). is_some (map.get (entered k.locks t).held v)) (same_trans-true u t e) ∙ insert-knows k.locks.held t (held_of k.locks.held t)
        known_so u false e x there = insert-keeps k.locks.held t (held_of k.locks.held t) u (h.known u x there)

        within_so : (u : TransId) (b : Bool) (x : Live) → cond {A = Option Live} b (Some l) (map.get k.lives u) ≡ Some x → IsWithin k.sizes x
        within_so u true x there = subst (IsWithin k.sizes) (same_live l x there) fresh
        within_so u false x there = h.within u x there

        opens_so : (u : TransId) (b : Bool) (x : Live) → cond {A = Option Live} b (Some l) (map.get k.lives u) ≡ Some x → x.part.last ≤ n + 1
        opens_so u true x there =
            let zero_opens : x.part.last ≡ 0 = ap (λ (y : Live). y.part.last) (sym (same_live l x there)) ∙ ap (λ (w : Own). w.last) none in
            omega (arith, zero_opens)
        opens_so u false x there = (let low : x.part.last ≤ n = h.opens u x there in omega arith)

        opened_so : (u : TransId) (b : Bool) (x : Live) → cond {A = Option Live} b (Some l) (map.get k.lives u) ≡ Some x → list_all (λ (o : Open). is_given k.server k.epoch k.given o.file) x.part.opens.items ≡ true
        opened_so u true x there = ap (λ (y : Live). list_all (λ (o : Open). is_given k.server k.epoch k.given o.file) y.part.opens.items) (sym (same_live l x there)) ∙ ap (λ (w : Own). list_all (λ (o : Open). is_given k.server k.epoch k.given o.file) w.opens) none
        opened_so u false x there = h.opened u x there

  -- where a begin was taken back it is ready as before
  pub back_ready : (c : Coordinator) → IsAlong k.coordinator c → Keeps k.coordinator c → IsReady n serves k → IsReady n serves (record k { coordinator = c })
  back_ready c along keeps h = record {
    serving = h.serving;
    halted = h.halted;
    sound = h.sound;
    taken = h.taken;
    waits = subst (λ (m : ℕ). AreWaiting k.server k.epoch k.given m k.sizes k.lives k.waits k.locks.waiting) (sym along.count_same) h.waits;
    known = h.known;
    seat = (along.server_same ∙ h.seat.0, along.epoch_same ∙ h.seat.1);
    joins = h.joins;
    paired = paired_kept k.servers k.server k.coordinator k.joins k.lives h.paired c keeps;
    idle = h.idle;
    opens = h.opens;
    opened = h.opened;
    alive = h.alive;
    places = h.places;
    calls = h.calls;
    replies = h.replies;
    drawn = omega (arith, along.count_same, h.drawn);
    times = λ t stamp js is. h.times t stamp js (ap decision_in (sym (keeps t)) ∙ is);
    given = h.given;
    most = (let fewer : counted_of c ≤ counted_of k.coordinator = counted_fewer k.coordinator c (λ t counts. ap is_counted (sym (keeps t)) ∙ counts) in omega (arith, fewer, h.most));
    fits = h.fits;
    within = h.within;
    sized = h.sized;
    clock = h.clock;
    raised = h.raised;
    fated = early_keeps k.servers k.server k.coordinator c keeps h.fated;
    last = h.last;
    unheld = h.unheld;
  }

  -- what becomes of the calls that wait does not matter to the rest
  pub waits_ready : (ws : List WaitingCall) → AreWaiting k.server k.epoch k.given (count_of k.coordinator) k.sizes k.lives ws k.locks.waiting → AreVotersIdle k.joins.lives ws → IsReady n serves k → IsReady n serves (record k { waits = ws })
  waits_ready ws all idle h = record {
    serving = h.serving;
    halted = h.halted;
    sound = h.sound;
    taken = h.taken;
    waits = all;
    known = h.known;
    paired = h.paired;
    idle = idle;
    opens = h.opens;
    opened = h.opened;
    alive = h.alive;
    places = h.places;
    calls = h.calls;
    replies = h.replies;
    drawn = h.drawn;
    given = h.given;
    most = h.most;
    fits = h.fits;
    within = h.within;
    sized = h.sized;
    clock = h.clock;
    raised = h.raised;
    fated = h.fated;
    last = h.last;
    unheld = h.unheld;
    seat = h.seat;
    joins = h.joins;
    times = h.times;
  }

  -- the calls of a part go of which nobody waits in the table
  pub without_ready : (client : ℕ) (t : TransId) → AllByRecursion (λ (x : Waiter). same_trans x.trans t ≡ false) k.locks.waiting → IsReady n serves k → IsReady n serves (record k { waits = without_calls_of client t k.waits })
  without_ready client t others h = waits_ready (without_calls_of client t k.waits) (record {
    calls = each-filter (IsWaitingCall k.server k.epoch k.given (count_of k.coordinator) k.sizes k.lives) (λ w. not (is_of client t w)) k.waits h.waits.calls;
    apart = filter_apart (λ w. not (is_of client t w)) k.waits h.waits.apart;
    queued = each-both (λ (x : Waiter). same_trans x.trans t ≡ false) (IsOfCalls k.server k.epoch k.given k.lives k.waits) (IsOfCalls k.server k.epoch k.given k.lives (without_calls_of client t k.waits))
        (λ x e o. record { live = o.live; asks = asks_other client t k.waits x.trans e o.asks; beyond = o.beyond }) k.locks.waiting others h.waits.queued;
  }) (idle_fewer (λ w. not (is_of client t w)) k.joins.lives k.waits h.idle) h

  -- who waits in the table is live
  pub live_others : (t : TransId) → map.get k.lives t ≡ None → IsReady n serves k → AllByRecursion (λ (x : Waiter). same_trans x.trans t ≡ false) k.locks.waiting
  live_others t none h = each-more (IsOfCalls k.server k.epoch k.given k.lives k.waits) (λ (x : Waiter). same_trans x.trans t ≡ false) (λ x o. go x (same_trans x.trans t) refl o.live) k.locks.waiting h.waits.queued
    where
      go : (x : Waiter) (b : Bool) → same_trans x.trans t ≡ b → is_some (map.get k.lives x.trans) ≡ true → b ≡ false
      go x false e live = refl
      go x true e live = let wrong : false ≡ true = sym (ap (λ (u : TransId). is_some (map.get k.lives u)) (same_trans-true x.trans t e) ∙ ap is_some none) ∙ live in cc

  -- and has a call that asks
  pub asking_others : (t : TransId) → asks_for k.waits t ≡ false → IsReady n serves k → AllByRecursion (λ (x : Waiter). same_trans x.trans t ≡ false) k.locks.waiting
  asking_others t none h = each-more (IsOfCalls k.server k.epoch k.given k.lives k.waits) (λ (x : Waiter). same_trans x.trans t ≡ false) (λ x o. go x (same_trans x.trans t) refl o.asks) k.locks.waiting h.waits.queued
    where
      go : (x : Waiter) (b : Bool) → same_trans x.trans t ≡ b → asks_for k.waits x.trans ≡ true → b ≡ false
      go x false e asks = refl
      go x true e asks = let wrong : false ≡ true = sym (ap (asks_for k.waits) (same_trans-true x.trans t e) ∙ none) ∙ asks in cc

  -- of a client's calls those of dead parts go
  pub undead_calls_ready : (client : ℕ) → IsReady n serves k → IsReady n serves (record k { waits = without_dead client k.dead k.waits })
  undead_calls_ready client h = waits_ready (without_dead client k.dead k.waits) (record {
    calls = each-filter (IsWaitingCall k.server k.epoch k.given (count_of k.coordinator) k.sizes k.lives) (outlives client k.dead) k.waits h.waits.calls;
    apart = filter_apart (outlives client k.dead) k.waits h.waits.apart;
    queued = each-more (IsOfCalls k.server k.epoch k.given k.lives k.waits) (IsOfCalls k.server k.epoch k.given k.lives (without_dead client k.dead k.waits))
        (λ x o. record {
          live = o.live;
          asks = asks_undead client k.dead k.lives k.waits x.trans (λ l there. h.alive.parts x.trans l there) o.live (all_owned k.server k.epoch k.given (count_of k.coordinator) k.sizes k.lives k.waits h.waits.calls) o.asks;
          beyond = o.beyond;
        }) k.locks.waiting h.waits.queued;
  }) (idle_fewer (outlives client k.dead) k.joins.lives k.waits h.idle) h

  -- and those that are of no live part
  pub live_calls_ready : (client : ℕ) → IsReady n serves k → IsReady n serves (record k { waits = live_calls client k.coordinator k.joins k.waits })
  live_calls_ready client h = waits_ready (live_calls client k.coordinator k.joins k.waits) (record {
    calls = each-filter (IsWaitingCall k.server k.epoch k.given (count_of k.coordinator) k.sizes k.lives) (stays client k.coordinator k.joins) k.waits h.waits.calls;
    apart = filter_apart (stays client k.coordinator k.joins) k.waits h.waits.apart;
    queued = each-more (IsOfCalls k.server k.epoch k.given k.lives k.waits) (IsOfCalls k.server k.epoch k.given k.lives (live_calls client k.coordinator k.joins k.waits))
        (λ x o. record {
          live = o.live;
          asks = asks_live client k.coordinator k.joins k.lives k.waits x.trans (λ l there. part_has k.servers k.server k.coordinator k.joins k.lives h.paired x.trans l there) o.live
              (all_owned k.server k.epoch k.given (count_of k.coordinator) k.sizes k.lives k.waits h.waits.calls) o.asks;
          beyond = o.beyond;
        }) k.locks.waiting h.waits.queued;
  }) (idle_fewer (stays client k.coordinator k.joins) k.joins.lives k.waits h.idle) h

  -- a Join or a Finish of the client goes
  pub without_other_ready : (client number : ℕ) → IsReady n serves k → IsReady n serves (record k { waits = without_other_at client number k.waits })
  without_other_ready client number h = waits_ready (without_other_at client number k.waits) (record {
    calls = each-filter (IsWaitingCall k.server k.epoch k.given (count_of k.coordinator) k.sizes k.lives) (λ w. not (is_other_at client number w)) k.waits h.waits.calls;
    apart = filter_apart (λ w. not (is_other_at client number w)) k.waits h.waits.apart;
    queued = each-more (IsOfCalls k.server k.epoch k.given k.lives k.waits) (IsOfCalls k.server k.epoch k.given k.lives (without_other_at client number k.waits))
        (λ x o. record { live = o.live; asks = asks_without_other client number k.waits x.trans o.asks; beyond = o.beyond }) k.locks.waiting h.waits.queued;
  }) (idle_fewer (λ w. not (is_other_at client number w)) k.joins.lives k.waits h.idle) h

  -- a Join or a Finish waits besides
  pub other_waits_ready : (w : WaitingCall) → w.counts ≡ None → IsNamed w → IsCurrent k.epoch w.call → IsReady n serves k → IsReady n serves (record k { waits = k.waits ++ w ∷ [] })
  other_waits_ready w none named current h = waits_ready (k.waits ++ w ∷ []) (record {
    calls = pushed_each (IsWaitingCall k.server k.epoch k.given (count_of k.coordinator) k.sizes k.lives) k.waits w h.waits.calls
        (record { named = named; current = current; file = λ z counted. (let wrong : None ≡ Some z = sym none ∙ counted in cc) });
    apart = pushed_apart k.waits w h.waits.apart (each_so (λ v. IsOfOther v w) (λ v. no_file v) k.waits);
    queued = each-more (IsOfCalls k.server k.epoch k.given k.lives k.waits) (IsOfCalls k.server k.epoch k.given k.lives (k.waits ++ w ∷ []))
        (λ x o. record { live = o.live; asks = pushed_asks k.waits w x.trans o.asks; beyond = o.beyond }) k.locks.waiting h.waits.queued;
  }) (λ j x is voted. file_pushed x.trans k.waits w (ap (λ (z : Option LockCounts). is_some z && same_trans w.trans x.trans) none) ∙ h.idle j x is voted) h
    where
      neither : (b : Bool) → (b && false) ≡ false
      neither true = refl
      neither false = refl

      no_file : (v : WaitingCall) → IsOfOther v w
      no_file v = ap (λ (z : Option LockCounts). is_some v.counts && (is_some z && same_trans w.trans v.trans)) none ∙ neither (is_some v.counts)

  -- whom else it remembers as dead does not matter
  pub buried_ready : (ds : List DeadPart) → AreAlive ds k.lives k.joins.lives → IsReady n serves k → IsReady n serves (record k { dead = ds })
  buried_ready ds alive h = record {
    serving = h.serving;
    halted = h.halted;
    sound = h.sound;
    taken = h.taken;
    waits = h.waits;
    known = h.known;
    paired = h.paired;
    idle = h.idle;
    opens = h.opens;
    opened = h.opened;
    alive = alive;
    places = h.places;
    calls = h.calls;
    replies = h.replies;
    drawn = h.drawn;
    given = h.given;
    most = h.most;
    fits = h.fits;
    within = h.within;
    sized = h.sized;
    clock = h.clock;
    raised = h.raised;
    fated = h.fated;
    last = h.last;
    unheld = h.unheld;
    seat = h.seat;
    joins = h.joins;
    times = h.times;
  }

not_both : (b : Bool) → b ≡ false → b ≡ true → ⊥
not_both b up down = let wrong : false ≡ true = sym up ∙ down in cc

-- with another vault it is ready as before, where that serves
pub ready_with : {V : Type 0} (n : ℕ) (before serves : Bool) (k : ServerState V) (v : V) → IsTrue serves → k.is_down ≡ false → IsReady n before k → IsReady n serves (record k { vault = v })
ready_with n before serves k v on up h = record {
  serving = λ _. on;
  halted = λ down. absurd (not_both k.is_down up down);
  sound = h.sound;
  taken = h.taken;
  waits = h.waits;
  known = h.known;
  paired = h.paired;
  idle = h.idle;
  opens = h.opens;
  opened = h.opened;
  alive = h.alive;
  places = h.places;
  calls = h.calls;
  replies = h.replies;
  drawn = h.drawn;
  given = h.given;
  most = h.most;
  fits = h.fits;
  within = h.within;
  sized = h.sized;
  clock = h.clock;
  raised = h.raised;
  fated = h.fated;
  last = h.last;
  unheld = h.unheld;
  seat = h.seat;
  joins = h.joins;
  times = h.times;
}

-- whoever is down does not serve
pub down_ready : {V : Type 0} (n : ℕ) (before serves : Bool) (k : ServerState V) (v : V) → serves ≡ false → IsReady n before k → IsReady (n + 1) serves (record k { is_down = true; vault = v })
down_ready n before serves k v off h =
    let c = stepped_ready n before k h in
    let never : true ≡ false → ⊥ = λ e. cc in
    record {
      serving = λ e. absurd (never e);
      halted = λ _. off;
      sound = c.sound;
      taken = c.taken;
      waits = c.waits;
      known = c.known;
      paired = c.paired;
      idle = c.idle;
      opens = c.opens;
      opened = c.opened;
      alive = c.alive;
      places = c.places;
      calls = c.calls;
      replies = c.replies;
      drawn = c.drawn;
      given = c.given;
      most = c.most;
      fits = c.fits;
      within = c.within;
      sized = c.sized;
      clock = c.clock;
      raised = c.raised;
      fated = c.fated;
      last = c.last;
      unheld = c.unheld;
      seat = c.seat;
      joins = c.joins;
      times = c.times;
    }

-- the client's dead parts go as it is answered, with their calls
pub buried_told_ready : {V : Type 0} (n : ℕ) (serves : Bool) (k : ServerState V) (turn : Turn) (r : Reply) → IsTurn k.sessions turn → IsKeepable k.clock r → IsReady n serves k
    → IsReady (n + 1) serves (record (buried k turn.client) { sessions = counted_in k.sessions turn r })
buried_told_ready n serves k turn r is keeps h =
    buried_ready (n + 1) serves (record k { sessions = counted_in k.sessions turn r; waits = without_dead turn.client k.dead k.waits }) (without_client turn.client k.dead)
    (alive_buried turn.client k.dead k.lives k.joins.lives h.alive)
    (counted_ready n serves (record k { waits = without_dead turn.client k.dead k.waits }) turn r is keeps (undead_calls_ready n serves k turn.client h))

-- and so do those that are of no live part, where its begin is refused
pub refused_ready : {V : Type 0} (n : ℕ) (serves : Bool) (k : ServerState V) (turn : Turn) (r : Reply) → IsTurn k.sessions turn → IsKeepable k.clock r → IsReady n serves k
    → IsReady (n + 1) serves (record (cleared k turn.client) { sessions = counted_in k.sessions turn r })
refused_ready n serves k turn r is keeps h =
    let left : List WaitingCall = without_dead turn.client k.dead k.waits in
    buried_ready (n + 1) serves (record k { sessions = counted_in k.sessions turn r; waits = live_calls turn.client k.coordinator k.joins left }) (without_client turn.client k.dead)
    (alive_buried turn.client k.dead k.lives k.joins.lives h.alive)
    (counted_ready n serves (record k { waits = live_calls turn.client k.coordinator k.joins left }) turn r is keeps (live_calls_ready n serves (record k { waits = left }) turn.client (undead_calls_ready n serves k turn.client h)))
