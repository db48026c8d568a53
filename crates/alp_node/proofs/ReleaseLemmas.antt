-- a server stays ready where locks go and others get them
use Rattle.std.specs.Prelude.{cond, Bool, true, false, not, ◌==◌, ◌&&◌, ◌||◌, find, IsTrue, Option, None, Some, is_some}
use Rattle.std.specs.FinMap as map
use Rattle.std.specs.List.{list_all, list_any, AllByRecursion}
use Rattle.std.proofs.Common.{◌≡◌, ℕ, ◌+◌, ◌^◌, ◌<◌, ◌≤◌, List, [], ◌∷◌, ◌++◌, refl, sym, ◌∙◌, ap, subst, arith, le_refl}
use Rattle.alp_base.specs.declared.allowance.Allowance.{Allowance}
use Rattle.alp_base.specs.declared.ids.JoinNo.{JoinNo}
use Rattle.alp_base.specs.declared.ids.TransId.{TransId}
use Rattle.alp_files.specs.declared.open.Open.{Open}
use Rattle.alp_files.specs.declared.refusal.Cause.{Cause}
use Rattle.alp_files.specs.declared.reply.Reply.{Reply}
use Rattle.alp_journal.specs.Counts.{log_need}
use Rattle.alp_journal.specs.declared.act.Act.{Act}
use Rattle.alp_journal.specs.Ids.{same_trans}
use Rattle.alp_journal.specs.Moves.{is_stop}
use Rattle.alp_journal.proofs.IdLemmas.{same_trans-itself, same_trans-true}
use Rattle.alp_locks.specs.Releases.{released}
use Rattle.alp_locks.proofs.SoundLemmas.{each-more, each-both, each-filter}
use Rattle.alp_locks.proofs.WakeLemmas.{IsNoneOf, released-others}
use Rattle.alp_trans.specs.declared.part.Part.{Part}
use Rattle.alp_queue.specs.Order.{is_of as is_waiter_of}
use Rattle.alp_queue.specs.declared.waiter.Waiter.{Waiter}
use Rattle.alp_coord.specs.declared.coordinator.Coordinator.{Coordinator}
use Rattle.alp_coord.specs.Coordinators.{count_of}
use Rattle.alp_worker.specs.declared.joins.Joins.{Joins}
use Rattle.alp_worker.specs.declared.live.LiveJoin.{LiveJoin}
use Rattle.alp_worker.specs.Lives.{join_at}
use Rattle.alp_node.specs.Asks.{is_given}
use Rattle.alp_node.specs.Dead.{cause_in, without_part}
use Rattle.alp_node.specs.Halts.{HaveCauses}
use Rattle.alp_node.specs.Releases.{grant_acts, with_locks, granted_if, granted_one, granted_all, let_go}
use Rattle.alp_node.specs.Rooms.{IsWithin}
use Rattle.alp_node.specs.Noted.{HasReadyRoom}
use Rattle.alp_node.specs.ServerState.{AreAlive, IsReady}
use Rattle.alp_node.specs.Steps.{IsTurn, counted_in, ended}
use Rattle.alp_node.specs.Totals.{LiveMap}
use Rattle.alp_node.specs.Turns.{IsKeepable}
use Rattle.alp_node.specs.Waits.{is_file_on, count_asked, locks_in, locks_of, has_file_on, grant_of, without_calls_of, IsWithinLimits, IsFileCall, IsWaitingCall, IsOfCalls, AreVotersIdle}
use Rattle.alp_node.specs.declared.dead.DeadPart.{DeadPart}
use Rattle.alp_node.specs.declared.lives.Live.{Live}
use Rattle.alp_node.specs.declared.server_state.ServerState.{ServerState}
use Rattle.alp_node.specs.declared.sessions.Turn.{Turn}
use Rattle.alp_node.specs.declared.waits.WaitingCall.{WaitingCall}
use Rattle.alp_node.proofs.DeadLemmas.{part_left, alive_still, dead_then}
use Rattle.alp_node.proofs.LockedLemmas.{locked_each, locked_length, locked_live, locked_none, granted_locks, locked_theirs, locked_voters}
use Rattle.alp_node.proofs.MapLemmas.{get_gone, tied_same, gone_length}
use Rattle.alp_node.proofs.ReadyLemmas.{LetsPart, gone_kept, gone_ready, counted_ready, buried_ready, without_ready, live_others, turned}
use Rattle.alp_node.proofs.NotedLemmas.{AreVotersAlike, HasNoVoter, voters_same, voters_then, voters_gone, room_on}
use Rattle.alp_node.proofs.PairedLemmas.{own_unjoined, paired_on, alive_on}
use Rattle.alp_node.proofs.WaitLemmas.{find_each, counts_there, file_counts, file_at, call_later, IsLikePart, like_itself, grant_call, grant_apart, grant_asks, idle_granted, called_unvoted}
use Rattle.alp_node.proofs.WithinLemmas.{log_most}

-- ---- one grant

-- the call that is granted is one of those that wait
abbrev pub IsGrant : List WaitingCall → TransId → ℕ → (WaitingCall → Type 0) → Type 0
IsGrant ws t n P = (w : WaitingCall) × P w × (is_file_on t w ≡ true) × (count_asked w.counts ≡ Some n)

pub grant_found : (P : WaitingCall → Type 0) (ws : List WaitingCall) (t : TransId) (n : ℕ) → locks_of t ws ≡ Some n → AllByRecursion P ws → IsGrant ws t n P
grant_found P ws t n is h = go (find (is_file_on t) ws) refl is
  where
    go : (x : Option WaitingCall) → find (is_file_on t) ws ≡ x → locks_in x ≡ Some n → IsGrant ws t n P
    go None e f = let wrong : None ≡ Some n = f in cc
    go (Some w) e f = let found = find_each P (is_file_on t) ws w e h in (w, found.0, found.1, f)

pub calls_there : (t : TransId) (ws : List WaitingCall) (n : ℕ) → locks_of t ws ≡ Some n → has_file_on t ws ≡ true
calls_there t [] n is = let wrong : None ≡ Some n = is in cc
calls_there t (w ∷ ws) n is = go (is_file_on t w) is (calls_there t ws n)
  where
    go : (b : Bool) → locks_in (cond {A = Option WaitingCall} b (Some w) (find (is_file_on t) ws)) ≡ Some n → (locks_of t ws ≡ Some n → has_file_on t ws ≡ true) → (b || has_file_on t ws) ≡ true
    go true e more = refl
    go false e more = more e

module _ {V : Type 0} (n : ℕ) (serves : Bool) (k : ServerState V) (t : TransId) where
  granted_ready_so : (m : ℕ) → locks_of t k.waits ≡ Some m → AllByRecursion (λ (x : Waiter). is_waiter_of t x ≡ false) k.locks.waiting → IsReady n serves k → IsReady n serves (granted_if k t (Some m))
  granted_ready_so m found others h = record {
    serving = h.serving;
    halted = h.halted;
    sound = h.sound;
    taken = h.taken;
    waits = record {
      calls = grant_call (IsWaitingCall k.server k.epoch k.given (count_of k.coordinator) k.sizes now) t granted_call k.waits
          (each-more (IsWaitingCall k.server k.epoch k.given (count_of k.coordinator) k.sizes k.lives) (IsWaitingCall k.server k.epoch k.given (count_of k.coordinator) k.sizes now)
          (λ w. call_later k.server k.epoch k.given k.given (le_refl k.given) k.sizes (count_of k.coordinator) (count_of k.coordinator) (le_refl (count_of k.coordinator)) k.lives now w (λ z counted o l is. was w.trans l is)) k.waits h.waits.calls);
      apart = grant_apart t k.waits h.waits.apart;
      queued = each-both (λ (x : Waiter). is_waiter_of t x ≡ false) (IsOfCalls k.server k.epoch k.given k.lives k.waits) (IsOfCalls k.server k.epoch k.given now (grant_of t k.waits))
          (λ x e o. record { live = locked_live k.lives t m x.trans o.live; asks = grant_asks t x.trans k.waits (turned t x.trans (sym (tied_same t x.trans) ∙ e)) ∙ o.asks; beyond = o.beyond }) k.locks.waiting others h.waits.queued;
    };
    known = locked_each k.lives t m (λ u l. is_some (map.get k.locks.held u) ≡ true) h.known (λ l there. h.known t l there);
    joins = h.joins;
    paired = paired_on k.servers k.server k.coordinator k.joins k.lives now (locked_theirs k.lives t m) h.paired;
    idle = idle_granted t k.joins.lives k.waits h.idle;
    opens = locked_each k.lives t m (λ u l. l.part.last ≤ n) h.opens (λ l there. h.opens t l there);
    opened = locked_each k.lives t m (λ u l. list_all (λ (o : Open). is_given k.server k.epoch k.given o.file) l.part.opens.items ≡ true) h.opened (λ l there. h.opened t l there);
    alive = alive_on k.servers k.server k.coordinator k.joins k.lives now (locked_theirs k.lives t m) k.dead h.alive;
    places = h.places;
    calls = h.calls;
    replies = h.replies;
    drawn = h.drawn;
    given = h.given;
    most = h.most;
    fits = subst (HasReadyRoom k.sizes) (sym (room_on k.lives now k.joins.lives h.joins.once (locked_voters k.lives t m k.joins.lives (called_unvoted k.joins.lives k.waits t h.idle (calls_there t k.waits m found))))) h.fits;
    within = locked_each k.lives t m (λ u l. IsWithin k.sizes l) h.within within_then;
    sized = h.sized;
    clock = h.clock;
    raised = h.raised;
    fated = h.fated;
    last = h.last;
    unheld = h.unheld;
    seat = h.seat;
    times = h.times;
  }
    where
      now : LiveMap
      now = with_locks k.lives t m

      granted_call : (w : WaitingCall) → IsWaitingCall k.server k.epoch k.given (count_of k.coordinator) k.sizes now w → IsWaitingCall k.server k.epoch k.given (count_of k.coordinator) k.sizes now (record w { is_granted = true })
      granted_call w o = record {
        named = o.named;
        current = o.current;
        file = λ z counted. (
            let q : IsFileCall k.server k.epoch k.given (count_of k.coordinator) k.sizes now w z = o.file z counted in
            record {
              formed = q.formed;
              some = q.some;
              begun = q.begun;
              limits = λ l is. (let x = q.limits l is in record { its = x.its; shape = x.shape; fewer = x.fewer; locks = x.locks; log = x.log });
            });
      }

      same_count : (a b : ℕ) → Some a ≡ Some b → a ≡ b
      same_count a b e = cc

      was : (u : TransId) (l : Live) → map.get now u ≡ Some l → (x : Live) × (map.get k.lives u ≡ Some x) × IsLikePart x l
      was u l is = locked_each k.lives t m (λ v y. (x : Live) × (map.get k.lives v ≡ Some x) × IsLikePart x y) (λ v y there. (y, there, like_itself y)) (λ y there. (y, there, record { client = refl; opens = refl; cells = refl })) u l is

      within_then : (l : Live) → map.get k.lives t ≡ Some l → IsWithin k.sizes (record l { locks = m })
      within_then l there =
          let g = grant_found (IsWaitingCall k.server k.epoch k.given (count_of k.coordinator) k.sizes k.lives) k.waits t m found h.waits.calls in
          let z = counts_there g.0.counts (file_counts t g.0 g.2) in
          let asked : z.0.asked ≡ m = same_count z.0.asked m (sym (ap count_asked z.1) ∙ g.3) in
          let limits : IsWithinLimits k.server k.epoch k.given k.sizes g.0 z.0 l = (g.1.file z.0 z.1).limits l (ap (map.get k.lives) (file_at t g.0 g.2) ∙ there) in
          record {
            part = (h.within t l there).part;
            locks = omega (arith, limits.fewer, limits.locks, asked);
            log = subst (λ (x : ℕ). log_need l.part.counts.cells x ≤ k.sizes.area) asked (log_most l.part.counts.cells z.0.asked z.0.made k.sizes.area limits.fewer limits.log);
          }

  -- the call of a transaction that waits in the table no more has its locks
  pub granted_one_ready : AllByRecursion (λ (x : Waiter). is_waiter_of t x ≡ false) k.locks.waiting → IsReady n serves k → IsReady n serves (granted_one k t)
  granted_one_ready others h = go (locks_of t k.waits) refl
    where
      go : (x : Option ℕ) → locks_of t k.waits ≡ x → IsReady n serves (granted_if k t x)
      go None e = h
      go (Some m) e = granted_ready_so m e others h

-- ---- all of them

one_of : (t : TransId) (ts : List TransId) (ws : List Waiter) → AllByRecursion (IsNoneOf (t ∷ ts)) ws → AllByRecursion (λ (x : Waiter). is_waiter_of t x ≡ false) ws × AllByRecursion (IsNoneOf ts) ws
one_of t ts [] h = (tt, tt)
one_of t ts (w ∷ ws) h = let rest = one_of t ts ws h.1 in ((h.0.0, rest.0), (h.0.1, rest.1))

pub granted_all_ready : {V : Type 0} (n : ℕ) (serves : Bool) (k : ServerState V) (ts : List TransId) → AllByRecursion (IsNoneOf ts) k.locks.waiting → IsReady n serves k → IsReady n serves (granted_all k ts)
granted_all_ready n serves k [] others h = h
granted_all_ready n serves k (t ∷ ts) others h =
    let parts = one_of t ts k.locks.waiting others in
    granted_all_ready n serves (granted_one k t) ts (subst (λ (x : List Waiter). AllByRecursion (IsNoneOf ts) x) (ap (λ x. x.waiting) (sym (granted_locks k t))) parts.1) (granted_one_ready n serves k t parts.0 h)

-- ---- what a grant leaves of a server

-- it changes the waiting calls and the counts of locks alone
abbrev pub IsGrantOf : {V : Type 0} → ServerState V → ServerState V → Type 0
IsGrantOf k now = now ≡ record k { waits = now.waits; lives = now.lives }

granted_one_of : {V : Type 0} (k : ServerState V) (t : TransId) → IsGrantOf k (granted_one k t)
granted_one_of k t = go (locks_of t k.waits)
  where
    go : (x : Option ℕ) → IsGrantOf k (granted_if k t x)
    go None = refl
    go (Some m) = refl

pub granted_of : {V : Type 0} (k : ServerState V) (ts : List TransId) → IsGrantOf k (granted_all k ts)
granted_of k [] = refl
granted_of k (t ∷ ts) = granted_of (granted_one k t) ts ∙ ap (λ (y : ServerState _). record y { waits = (granted_all (granted_one k t) ts).waits; lives = (granted_all (granted_one k t) ts).lives }) (granted_one_of k t)

pub granted_none : {V : Type 0} (k : ServerState V) (ts : List TransId) (u : TransId) → map.get k.lives u ≡ None → map.get (granted_all k ts).lives u ≡ None
granted_none k [] u none = none
granted_none k (t ∷ ts) u none = granted_none (granted_one k t) ts u (go (locks_of t k.waits))
  where
    go : (x : Option ℕ) → map.get (granted_if k t x).lives u ≡ None
    go None = none
    go (Some m) = locked_none k.lives t m u none

-- the transaction is gone
pub let_go_none : {V : Type 0} (k : ServerState V) (t : TransId) → map.get (let_go k t).lives t ≡ None
let_go_none k t = granted_none (record k { lives = map.remove k.lives t; locks = record (released k.locks t) { woken = [] } }) (released k.locks t).woken t (get_gone k.lives t t ∙ ap (λ (b : Bool). cond {A = Option Live} b None (map.get k.lives t)) (same_trans-itself t))

-- a server that let a transaction go is the one before, but for these
pub let_go_of : {V : Type 0} (k : ServerState V) (t : TransId) → let_go k t ≡ record k { waits = (let_go k t).waits; lives = (let_go k t).lives; locks = record (released k.locks t) { woken = [] } }
let_go_of k t = granted_of (record k { lives = map.remove k.lives t; locks = record (released k.locks t) { woken = [] } }) (released k.locks t).woken

-- a coordinator, joins and a clock that go on stand aside
later_one : {V : Type 0} (k : ServerState V) (c : Coordinator) (js : Joins) (clock : ℕ) (t : TransId) (x : Option ℕ) → granted_if (record k { coordinator = c; joins = js; clock = clock }) t x ≡ record (granted_if k t x) { coordinator = c; joins = js; clock = clock }
later_one k c js clock t None = refl
later_one k c js clock t (Some n) = refl

later_all : {V : Type 0} (ts : List TransId) (k : ServerState V) (c : Coordinator) (js : Joins) (clock : ℕ) → granted_all (record k { coordinator = c; joins = js; clock = clock }) ts ≡ record (granted_all k ts) { coordinator = c; joins = js; clock = clock }
later_all [] k c js clock = refl
later_all {V} (t ∷ ts) k c js clock = ap (λ (z : ServerState V). granted_all z ts) (later_one k c js clock t (locks_of t k.waits)) ∙ later_all ts (granted_one k t) c js clock

-- ---- parts behind a grant

-- each part is one of those before
granted_parts : {V : Type 0} (P : Part → Type 0) (ts : List TransId) (k : ServerState V) → ((u : TransId) (l : Live) → map.get k.lives u ≡ Some l → P l.part) → (u : TransId) (l : Live) → map.get (granted_all k ts).lives u ≡ Some l → P l.part
granted_parts P [] k all = all
granted_parts P (t ∷ ts) k all = granted_parts P ts (granted_one k t) (go (locks_of t k.waits))
  where
    go : (x : Option ℕ) → (u : TransId) (l : Live) → map.get (granted_if k t x).lives u ≡ Some l → P l.part
    go None = all
    go (Some m) = locked_each k.lives t m (λ u l. P l.part) all (λ l there. all t l there)

-- and there are as many
granted_length : {V : Type 0} (ts : List TransId) (k : ServerState V) → map.len (granted_all k ts).lives ≡ map.len k.lives
granted_length [] k = refl
granted_length (t ∷ ts) k = granted_length ts (granted_one k t) ∙ go (locks_of t k.waits)
  where
    go : (x : Option ℕ) → map.len (granted_if k t x).lives ≡ map.len k.lives
    go None = refl
    go (Some m) = locked_length k.lives t m

pub let_go_parts : {V : Type 0} (P : Part → Type 0) (k : ServerState V) (t : TransId) → ((u : TransId) (l : Live) → map.get k.lives u ≡ Some l → P l.part) → (u : TransId) (l : Live) → map.get (let_go k t).lives u ≡ Some l → P l.part
let_go_parts P k t all = granted_parts P (released k.locks t).woken (record k { lives = map.remove k.lives t; locks = record (released k.locks t) { woken = [] } }) (λ u l is. left u l (same_trans u t) (sym (get_gone k.lives t u) ∙ is))
  where
    left : (u : TransId) (l : Live) (b : Bool) → cond {A = Option Live} b None (map.get k.lives u) ≡ Some l → P l.part
    left u l true is = let wrong : None ≡ Some l = is in cc
    left u l false is = all u l is

-- the parts that voted have the sizes that they had
pub voters_granted : {V : Type 0} (ls : List LiveJoin) (ts : List TransId) (k : ServerState V) → AreVotersIdle ls k.waits → AreVotersAlike k.lives (granted_all k ts).lives ls
voters_granted ls [] k idle = voters_same k.lives k.lives ls (λ u. refl)
voters_granted ls (t ∷ ts) k idle =
    voters_then k.lives (granted_one k t).lives (granted_all (granted_one k t) ts).lives ls (one (locks_of t k.waits) refl) (voters_granted ls ts (granted_one k t) (still (locks_of t k.waits)))
  where
    one : (x : Option ℕ) → locks_of t k.waits ≡ x → AreVotersAlike k.lives (granted_if k t x).lives ls
    one None e = voters_same k.lives k.lives ls (λ u. refl)
    one (Some m) e = locked_voters k.lives t m ls (called_unvoted ls k.waits t idle (calls_there t k.waits m e))

    still : (x : Option ℕ) → AreVotersIdle ls (granted_if k t x).waits
    still None = idle
    still (Some m) = idle_granted t ls k.waits idle

pub let_go_alike : {V : Type 0} (n : ℕ) (serves : Bool) (k : ServerState V) (t : TransId) → IsReady n serves k → HasNoVoter k.joins.lives t → AreVotersAlike k.lives (let_go k t).lives k.joins.lives
let_go_alike n serves k t h none =
    voters_then k.lives (map.remove k.lives t) (let_go k t).lives k.joins.lives (voters_gone k.lives t k.joins.lives none)
    (voters_granted k.joins.lives (released k.locks t).woken (record k { lives = map.remove k.lives t; locks = record (released k.locks t) { woken = [] } }) h.idle)

pub let_go_voters : {V : Type 0} (n : ℕ) (serves : Bool) (k : ServerState V) (t : TransId) → IsReady n serves k → t.server ≡ k.server → AreVotersAlike k.lives (let_go k t).lives k.joins.lives
let_go_voters n serves k t h own = let_go_alike n serves k t h (λ j x is voted. own_unjoined k.servers k.server k.coordinator k.joins k.lives h.paired t own j x is)

pub let_go_most : {V : Type 0} (k : ServerState V) (t : TransId) → map.len (let_go k t).lives ≤ map.len k.lives
let_go_most k t =
    let same : map.len (let_go k t).lives ≡ map.len (map.remove k.lives t) = granted_length (released k.locks t).woken (record k { lives = map.remove k.lives t; locks = record (released k.locks t) { woken = [] } }) in
    let fewer : map.len (map.remove k.lives t) ≤ map.len k.lives = gone_length k.lives t in
    omega (arith, same, fewer)

-- ---- steps that let a transaction go

-- as one of the client's dead parts goes, whoever was not dead is not
pub alive_forgotten : (client : ℕ) (t : TransId) (dead : List DeadPart) (lives : LiveMap) (joins : List LiveJoin) → AreAlive dead lives joins → AreAlive (without_part client t dead) lives joins
alive_forgotten client t dead lives joins h = record {
  parts = λ u l is. still l.client u (h.parts u l is);
  joins = λ j x is. still x.client x.trans (h.joins j x is);
}
  where
    still : (n : ℕ) (u : TransId) → cause_in dead n u ≡ None → cause_in (without_part client t dead) n u ≡ None
    still n u none = alive_still (n == client && same_trans u t) (cause_in dead n u) (cause_in (without_part client t dead) n u) (part_left dead client t n u) none

module _ {V : Type 0} (n : ℕ) (k : ServerState V) (t : TransId) (c : Coordinator) (js : Joins) where
  abbrev pub let_gone : ℕ → ServerState V
  let_gone clock = record k { waits = (let_go k t).waits; lives = (let_go k t).lives; locks = record (released k.locks t) { woken = [] }; coordinator = c; joins = js; clock = clock }

  -- others have its locks, and the coordinator, the joins and the clock go on
  pub let_go_ready : (serves : Bool) (clock : ℕ) → k.clock ≤ clock → clock ≤ 2 ^ 62 → LetsPart n serves k t c js clock → IsReady n serves k → IsReady n serves (let_gone clock)
  let_go_ready serves clock later low lets h =
      subst (λ (y : ServerState V). IsReady n serves y)
      (later_all (released k.locks t).woken (record k { lives = map.remove k.lives t; locks = record (released k.locks t) { woken = [] } }) c js clock ∙ ap (λ (y : ServerState V). record y { coordinator = c; joins = js; clock = clock }) (let_go_of k t))
      (granted_all_ready n serves (gone_kept n serves k t c js clock) (released k.locks t).woken (released-others k.locks t h.taken h.sound.apart) (gone_ready n serves k t c js clock later low lets h))

  gone_so : (serves : Bool) → LetsPart n serves k t c js k.clock → IsReady n serves k → IsReady n serves (let_gone k.clock)
  gone_so serves lets h = let_go_ready serves k.clock (le_refl k.clock) h.clock lets h

  -- it ends as time runs out
  pub timed_ready : (serves : Bool) → LetsPart n serves k t c js k.clock → IsReady n serves k → IsReady n serves (record (let_go k t) { coordinator = c; joins = js })
  timed_ready serves lets h = subst (λ (y : ServerState V). IsReady n serves y) (ap (λ (y : ServerState V). record y { coordinator = c; joins = js }) (sym (let_go_of k t))) (gone_so serves lets h)

  -- its client is to be told, who has no live join of it any more
  pub late_ready : (serves : Bool) (client : ℕ) (why : Cause) → ((j : JoinNo) (x : LiveJoin) → join_at js.lives j ≡ Some x → (x.client == client && same_trans x.trans t) ≡ false) → LetsPart n serves k t c js k.clock → IsReady n serves k
      → IsReady n serves (record (let_go k t) { dead = k.dead ++ (record { client = client; trans = t; cause = why }) ∷ []; coordinator = c; joins = js })
  late_ready serves client why apart lets h = buried_ready n serves (record (let_go k t) { coordinator = c; joins = js }) (k.dead ++ (record { client = client; trans = t; cause = why }) ∷ []) alive (timed_ready serves lets h)
    where
      off : (u : TransId) (l : Live) → map.get (let_go k t).lives u ≡ Some l → (b : Bool) → same_trans u t ≡ b → b ≡ false
      off u l there false e = refl
      off u l there true e = let wrong : None ≡ Some l = sym (let_go_none k t) ∙ sym (ap (map.get (let_go k t).lives) (same_trans-true u t e)) ∙ there in cc

      neither : (b d : Bool) → d ≡ false → (b && d) ≡ false
      neither true d e = e
      neither false d e = refl

      still : (n : ℕ) (u : TransId) → (n == client && same_trans u t) ≡ false → cause_in k.dead n u ≡ None → cause_in (k.dead ++ (record { client = client; trans = t; cause = why }) ∷ []) n u ≡ None
      still n u away none = sym (dead_then k.dead client t why n u) ∙ ap (λ (b : Bool). cond {A = Option Cause} b (Some why) (cause_in k.dead n u)) away ∙ none

      alive : AreAlive (k.dead ++ (record { client = client; trans = t; cause = why }) ∷ []) (let_go k t).lives js.lives
      alive = record {
        parts = λ u l there. still l.client u (neither (l.client == client) (same_trans u t) (off u l there (same_trans u t) refl)) (sym (ap (λ (y : ServerState V). cause_in y.dead l.client u) (let_go_of k t)) ∙ (timed_ready serves lets h).alive.parts u l there);
        joins = λ j x is. still x.client x.trans (apart j x is) (lets.alive j x is);
      }

  -- its calls go, and its client is told
  pub ended_ready : (turn : Turn) (serves : Bool) (r : Reply) → LetsPart n serves k t c js k.clock → IsTurn k.sessions turn → IsKeepable k.clock r → IsReady n serves k → IsReady (n + 1) serves (record (ended k turn t r) { coordinator = c; joins = js })
  ended_ready turn serves r lets is keeps h =
      subst (λ (y : ServerState V). IsReady (n + 1) serves y)
      (ap (λ (y : ServerState V). record y { waits = without_calls_of turn.client t (let_go k t).waits; sessions = counted_in k.sessions turn r; dead = without_part turn.client t k.dead; coordinator = c; joins = js }) (sym (let_go_of k t)))
      (buried_ready (n + 1) serves (record (let_gone k.clock) { waits = without_calls_of turn.client t (let_go k t).waits; sessions = counted_in k.sessions turn r }) (without_part turn.client t k.dead)
      (alive_forgotten turn.client t k.dead (let_go k t).lives js.lives (gone_so serves lets h).alive)
      (counted_ready n serves (record (let_gone k.clock) { waits = without_calls_of turn.client t (let_go k t).waits }) turn r is keeps
      (without_ready n serves (let_gone k.clock) turn.client t (live_others n serves (let_gone k.clock) t (let_go_none k t) (gone_so serves lets h)) (gone_so serves lets h))))

-- it is the server before, but for what ends with the part
pub ended_of : {V : Type 0} (k : ServerState V) (turn : Turn) (t : TransId) (r : Reply) → ended k turn t r ≡ record k {
  waits = without_calls_of turn.client t (let_go k t).waits;
  lives = (let_go k t).lives;
  locks = record (released k.locks t) { woken = [] };
  sessions = counted_in k.sessions turn r;
  dead = without_part turn.client t k.dead;
}
ended_of k turn t r = ap (λ (y : ServerState _). record y { waits = without_calls_of turn.client t (let_go k t).waits; sessions = counted_in k.sessions turn r; dead = without_part turn.client t k.dead }) (let_go_of k t)

pub ended_as : {V X : Type 0} (k : ServerState V) (turn : Turn) (t : TransId) (r : Reply) (f : ServerState V → X) → f (ended k turn t r) ≡ f (record k {
  waits = without_calls_of turn.client t (let_go k t).waits;
  lives = (let_go k t).lives;
  locks = record (released k.locks t) { woken = [] };
  sessions = counted_in k.sessions turn r;
  dead = without_part turn.client t k.dead;
})
ended_as k turn t r f = ap f (ended_of k turn t r)

-- ---- the acts of grants

-- no device stops by them
pub grants_go_on : (ts : List TransId) → list_any is_stop (grant_acts ts) ≡ false
grants_go_on [] = refl
grants_go_on (t ∷ ts) = grants_go_on ts

pub grants_caused : (before now : ℕ) (allowance : Allowance) (ts : List TransId) → HaveCauses before now allowance (grant_acts ts)
grants_caused before now allowance [] = tt
grants_caused before now allowance (t ∷ ts) = grants_caused before now allowance ts

-- nor by what comes behind them
pub grants_go_with : (ts : List TransId) (more : List Act) → list_any is_stop more ≡ false → list_any is_stop (grant_acts ts ++ more) ≡ false
grants_go_with [] more none = none
grants_go_with (t ∷ ts) more none = grants_go_with ts more none

pub grants_caused_with : (before now : ℕ) (allowance : Allowance) (ts : List TransId) (more : List Act) → HaveCauses before now allowance more → HaveCauses before now allowance (grant_acts ts ++ more)
grants_caused_with before now allowance [] more h = h
grants_caused_with before now allowance (t ∷ ts) more h = grants_caused_with before now allowance ts more h
