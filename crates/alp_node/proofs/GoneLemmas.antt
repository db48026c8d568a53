-- a part goes, and its locks are given on: what the server keeps behind it
use Rattle.std.specs.Prelude.{cond, Bool, true, false, not, ◌&&◌, ◌==◌, Option, None, Some, IsSome, is_some, find, filter}
use Rattle.std.specs.List.{AllByRecursion}
use Rattle.std.specs.Ordering.{eq_by_cmp}
use Rattle.std.specs.FinMap as map
use Rattle.std.proofs.Common.{◌≡◌, ℕ, List, [], ◌∷◌, length, refl, sym, ◌∙◌, ap, subst}
use Rattle.alp_base.specs.declared.ids.TransId.{TransId}
use Rattle.alp_base.specs.declared.ids.Stamp.{Stamp}
use Rattle.alp_base.specs.declared.key.Resource.{Resource}
use Rattle.alp_base.specs.declared.faults.Sizes.{Sizes}
use Rattle.alp_base.specs.Orders.{trans_cmp}
use Rattle.alp_modes.specs.declared.Mode.{Mode}
use Rattle.alp_files.specs.Cells.{Cells}
use Rattle.alp_files.specs.Edits.{Edit}
use Rattle.alp_files.specs.History.{Decided}
use Rattle.alp_files.specs.Holdings.{agree_held}
use Rattle.alp_files.specs.Locks.{HoldsEach, needs_of, request_of}
use Rattle.alp_files.specs.declared.call.Call.{Call}
use Rattle.alp_files.specs.declared.refusal.Cause.{Cause}
use Rattle.alp_files.proofs.HoldingLemmas.{agree-turned}
use Rattle.alp_locks.specs.Releases.{released, walked}
use Rattle.alp_locks.specs.Tables.{Holders, holding, IsAgreeing}
use Rattle.alp_locks.proofs.ReleaseLemmas.{removed-holds}
use Rattle.alp_queue.specs.Order.{without as without_of}
use Rattle.alp_queue.specs.declared.waiter.Waiter.{Waiter}
use Rattle.alp_trans.specs.declared.part.Part.{Part}
use Rattle.alp_vault.specs.Contents.{Contents}
use Rattle.alp_base.specs.declared.ids.JoinNo.{JoinNo}
use Rattle.alp_journal.specs.Participant.{Phase}
use Rattle.alp_worker.specs.Joins.{AreJoins}
use Rattle.alp_worker.specs.declared.joins.Joins.{Joins}
use Rattle.alp_journal.specs.Account.{Account, state_of, AreApart, AreTwo, IsQuiet, with_granted, granted_calls, call_on, is_on_trans, holder_granted}
use Rattle.alp_journal.specs.Answered.{in_turn, IsWalk}
use Rattle.alp_journal.specs.Counts.{lock_set, request_in, with_resources}
use Rattle.alp_journal.specs.Coordinator.{Fate, decision_in}
use Rattle.alp_journal.specs.Desk.{Session, Waiting, file_trans, is_of_part, without}
use Rattle.alp_journal.specs.Holder.{Holder, Life, with_life, view_in, grants, held_for}
use Rattle.alp_journal.specs.Ids.{same_trans}
use Rattle.alp_journal.specs.Moves.{call_of}
use Rattle.alp_journal.proofs.GivenLemmas.{IsOpenCall, open_calls}
use Rattle.alp_journal.proofs.IdLemmas.{same_trans-itself, same_trans-true}
use Rattle.alp_turns.specs.Laws.{GivesOnAlike, trans_in}
use Rattle.alp_turns.specs.Queues.{AreHeldAlike, AreCallsApart, IsOnOther, request_for, request_at, queue_of}
use Rattle.alp_turns.proofs.MoveLemmas.{GoesIdle, IsGone, StandsStill, queue_gone, queue_without}
use Rattle.alp_turns.proofs.QueueLemmas.{gives_on}
use Rattle.alp_turns.proofs.RequestLemmas.{tied_same}
use Rattle.alp_node.specs.Durable.{AreNotesOf}
use Rattle.alp_node.specs.Dead.{cause_in}
use Rattle.alp_coord.specs.declared.coordinator.Coordinator.{Coordinator}
use Rattle.alp_coord.specs.Coordinators.{count_of}
use Rattle.alp_node.specs.Releases.{granted_if, granted_one, granted_all, granted_behind, let_go}
use Rattle.alp_node.specs.Sessions.{session_at}
use Rattle.alp_node.specs.ServerState.{IsAs, IsReady, IsLife, IsAlike, IsAskedAs, IsWaitingAs, PutNoneBeyond}
use Rattle.alp_node.specs.Totals.{LiveMap, HaveRoom, totals_of}
use Rattle.alp_node.specs.Waits.{waiting, waiting_calls, is_of, is_file_on, locks_of, without_calls_of, IsCallBy, IsWaitingCall, IsOfOther, AreApart as AreCallsOnce}
use Rattle.alp_node.specs.Transactions.{IsCoordinatorBy}
use Rattle.alp_node.specs.declared.lives.Live.{Live}
use Rattle.alp_node.specs.declared.lock_counts.LockCounts.{LockCounts}
use Rattle.alp_node.specs.declared.server_state.ServerState.{ServerState}
use Rattle.alp_node.specs.declared.dead.DeadPart.{DeadPart}
use Rattle.alp_node.specs.declared.sessions.Sessions.{Sessions}
use Rattle.alp_node.specs.declared.waits.WaitingCall.{WaitingCall}
use Rattle.alp_node.proofs.BesideLemmas.{AreNamed, counted_named, file_named, part_alike}
use Rattle.alp_node.proofs.GiveOnLemmas.{IsAlikeApart, alike_apart, alike_with_held, AreKept, HasCall, all_granted}
use Rattle.alp_node.proofs.KeptLemmas.{applied_fated}
use Rattle.alp_node.proofs.MapLemmas.{get_gone}
use Rattle.alp_node.proofs.TotalLemmas.{gone_room}
use Rattle.alp_node.proofs.WaitLemmas.{counts_there, file_counts, file_at}

-- ---- the call of a grant is one that the server keeps

pub named_each : (server epoch given drawn : ℕ) (sizes : Sizes) (lives : LiveMap) (ws : List WaitingCall) → AllByRecursion (IsWaitingCall server epoch given drawn sizes lives) ws
    → AreNamed ws
named_each server epoch given drawn sizes lives [] all = tt
named_each server epoch given drawn sizes lives (w ∷ ws) all = (all.0.named, named_each server epoch given drawn sizes lives ws all.1)

-- the server where the part is gone, and who was woken has been taken
abbrev pub gone_of : {V : Type 0} → ServerState V → TransId → ServerState V
gone_of k t = record k { lives = map.remove k.lives t; locks = record (released k.locks t) { woken = [] } }

record IsFound (t : TransId) (c : Call) (ws : List WaitingCall) : Type 0 where
  its : WaitingCall
  counts : LockCounts
  counted : its.counts ≡ Some counts
  found : find (is_file_on t) ws ≡ Some its
  call : its.call ≡ c
  only : AllByRecursion (λ (w : WaitingCall). is_file_on t w ≡ true → w.call ≡ c) ws

others_only : (t : TransId) (c : Call) (w : WaitingCall) (ws : List WaitingCall) → is_file_on t w ≡ true → AllByRecursion (IsOfOther w) ws → AllByRecursion (λ (v : WaitingCall). is_file_on t v ≡ true → v.call ≡ c) ws
others_only t c w [] at all = tt
others_only t c w (v ∷ vs) at all = (
  λ e. let both : (is_some w.counts && is_file_on w.trans v) ≡ is_file_on t v = (λ i. file_counts t w at i && is_file_on (file_at t w at i) v) in
      let wrong : true ≡ false = sym (both ∙ e) ∙ all.0 in cc,
  others_only t c w vs at all.1,
)

found_call : (t : TransId) (c : Call) (ws : List WaitingCall) → AreNamed ws → AreCallsOnce ws → call_on (waiting_calls ws) t ≡ Some c → IsFound t c ws
found_call t c [] named once is = cc
found_call t c (w ∷ ws) named once is = go (is_file_on t w) refl (sym (ap (λ (b : Bool). call_of (cond {A = Option Waiting} b (Some (waiting w)) (find (is_on_trans t) (waiting_calls ws)))) (file_named t w named.0)) ∙ is) (found_call t c ws named.1 once.1)
  where
    some_call : (x y : Call) → Some x ≡ Some y → x ≡ y
    some_call x y e = cc

    go : (b : Bool) → is_file_on t w ≡ b → call_of (cond {A = Option Waiting} b (Some (waiting w)) (find (is_on_trans t) (waiting_calls ws))) ≡ Some c
        → (call_on (waiting_calls ws) t ≡ Some c → IsFound t c ws) → IsFound t c (w ∷ ws)
    go true e at rest = record {
      its = w;
      counts = (counts_there w.counts (file_counts t w e)).0;
      counted = (counts_there w.counts (file_counts t w e)).1;
      found = ap (λ (b : Bool). cond {A = Option WaitingCall} b (Some w) (find (is_file_on t) ws)) e;
      call = some_call w.call c at;
      only = ((λ f. some_call w.call c at), others_only t c w ws e once.0);
    }
    go false e at rest = more (rest at)
      where
        more : IsFound t c ws → IsFound t c (w ∷ ws)
        more f = record {
          its = f.its;
          counts = f.counts;
          counted = f.counted;
          found = ap (λ (b : Bool). cond {A = Option WaitingCall} b (Some w) (find (is_file_on t) ws)) e ∙ f.found;
          call = f.call;
          only = ((λ x. let wrong : true ≡ false = sym x ∙ e in cc), f.only);
        }

-- ---- two waiting calls are of two transactions

calls_apart : (ws : List Waiting) → AreApart ws → AreCallsApart ws
calls_apart [] h = tt
calls_apart (w ∷ ws) h = (each ws h.0, calls_apart ws h.1)
  where
    each : (vs : List Waiting) → AllByRecursion (AreTwo w) vs → AllByRecursion (IsOnOther (file_trans w.call)) vs
    each [] all = tt
    each (v ∷ vs) all = (all.0.0, each vs all.1)

-- ---- where locks go the others still agree

remove_agrees : (holders : Holders) (t : TransId) → IsAgreeing holders → IsAgreeing (map.remove holders t)
remove_agrees holders t agree x y apart r =
    (λ i. agree_held (removed-holds holders t x r i) (removed-holds holders t y r i)) ∙ go (eq_by_cmp trans_cmp x t) (eq_by_cmp trans_cmp y t)
  where
    go : (b c : Bool) → agree_held (cond {A = Option Mode} b None (holding holders x r)) (cond {A = Option Mode} c None (holding holders y r)) ≡ true
    go true c = refl
    go false true = agree-turned (holding holders x r) None
    go false false = agree x y apart r

-- ---- a grant changes lives and waiting calls alone

one_rest : {V : Type 0} (k : ServerState V) (t : TransId) (x : Option ℕ) → granted_if k t x ≡ record k { lives = (granted_if k t x).lives; waits = (granted_if k t x).waits }
one_rest k t None = refl
one_rest k t (Some n) = refl

pub granted_rest : {V : Type 0} (ts : List TransId) (k : ServerState V) → granted_all k ts ≡ record k { lives = (granted_all k ts).lives; waits = (granted_all k ts).waits }
granted_rest [] k = refl
granted_rest {V} (t ∷ ts) k =
    granted_rest ts (granted_one k t)
    ∙ ap (λ (z : ServerState V). record z { lives = (granted_all (granted_one k t) ts).lives; waits = (granted_all (granted_one k t) ts).waits }) (one_rest k t (locks_of t k.waits))

grants_rest : (h : Holder) (t : TransId) (c : Call) (z : Option Life) → grants h t c z ≡ record h { lives = (grants h t c z).lives }
grants_rest h t c None = refl
grants_rest h t c (Some l) = refl

-- and the lives of the journal's holder
pub holder_rest : (gs : List (TransId × Call)) (h : Holder) → holder_granted h gs ≡ record h { lives = (holder_granted h gs).lives }
holder_rest [] h = refl
holder_rest (g ∷ gs) h =
    holder_rest gs (grants h g.0 g.1 (h.lives g.0)) ∙ ap (λ (x : Holder). record x { lives = (holder_granted (grants h g.0 g.1 (h.lives g.0)) gs).lives }) (grants_rest h g.0 g.1 (h.lives g.0))

-- who is gone stays so
pub still_gone : (t : TransId) (gs : List (TransId × Call)) (h : Holder) → h.lives t ≡ None → (holder_granted h gs).lives t ≡ None
still_gone t [] h none = none
still_gone t (g ∷ gs) h none = still_gone t gs (grants h g.0 g.1 (h.lives g.0)) (go (h.lives g.0) refl)
  where
    away : (b : Bool) → same_trans t g.0 ≡ b → (l : Life) → h.lives g.0 ≡ Some l → cond {A = Option Life} b (Some (record l { held = held_for h l g.1 })) (h.lives t) ≡ None
    away false e l at = none
    away true e l at = let wrong : None ≡ Some l = sym none ∙ ap h.lives (same_trans-true t g.0 e) ∙ at in cc

    go : (z : Option Life) → h.lives g.0 ≡ z → (grants h g.0 g.1 z).lives t ≡ None
    go None at = none
    go (Some l) at = away (same_trans t g.0) refl l at

-- ---- the calls of the part go

pub calls_gone : (client : ℕ) (t : TransId) (ws : List WaitingCall) → AreNamed ws → without (is_of_part client t) (waiting_calls ws) ≡ waiting_calls (without_calls_of client t ws)
calls_gone client t [] named = refl
calls_gone client t (w ∷ ws) named =
    ap (λ (b : Bool). cond {A = List Waiting} (not b) (waiting w ∷ without (is_of_part client t) (waiting_calls ws)) (without (is_of_part client t) (waiting_calls ws))) (part_alike client t w named.0)
    ∙ go (is_of client t w) (calls_gone client t ws named.1)
  where
    go : (b : Bool) → without (is_of_part client t) (waiting_calls ws) ≡ waiting_calls (without_calls_of client t ws)
        → cond {A = List Waiting} (not b) (waiting w ∷ without (is_of_part client t) (waiting_calls ws)) (without (is_of_part client t) (waiting_calls ws)) ≡ waiting_calls (cond {A = List WaitingCall} (not b) (w ∷ without_calls_of client t ws) (without_calls_of client t ws))
    go true rest = rest
    go false rest = ap (λ (vs : List Waiting). waiting w ∷ vs) rest

pub each_left : (P : WaitingCall → Type 0) (p : WaitingCall → Bool) (ws : List WaitingCall) → AllByRecursion P ws → AllByRecursion P (filter p ws)
each_left P p [] all = tt
each_left P p (w ∷ ws) all = go (p w) (each_left P p ws all.1)
  where
    go : (b : Bool) → AllByRecursion P (filter p ws) → AllByRecursion P (cond {A = List WaitingCall} b (w ∷ filter p ws) (filter p ws))
    go true rest = (all.0, rest)
    go false rest = rest

-- what they ask for is nothing any more
pub idle_calls : (h : Holder) (parts : Holders) (client : ℕ) (t : TransId) → h.lives t ≡ None → (ws : List WaitingCall) → AreNamed ws → AllByRecursion (GoesIdle h parts (is_of_part client t)) (waiting_calls ws)
idle_calls h parts client t none [] named = tt
idle_calls h parts client t none (w ∷ ws) named = (one, idle_calls h parts client t none ws named.1)
  where
    second : (a b : Bool) → (a && b) ≡ true → b ≡ true
    second true b e = e
    second false b e = cc

    by : same_trans w.trans t ≡ true → (x : Option LockCounts) → IsCallBy w.call w.trans x → request_at h parts (waiting w) (file_trans w.call) ≡ []
    by same None k = ap (request_at h parts (waiting w)) k.0
    by same (Some n) k = ap (request_at h parts (waiting w)) k ∙ ap (request_for h parts (waiting w) w.trans) (ap h.lives (same_trans-true w.trans t same) ∙ none)

    one : is_of_part client t (waiting w) ≡ true → request_at h parts (waiting w) (file_trans w.call) ≡ []
    one e = by (second (w.client == client) (same_trans w.trans t) (sym (part_alike client t w named.0) ∙ e)) w.counts named.0

-- ---- the part goes

module _ {V : Type 0} (a : Account) (held : Contents) (k : ServerState V) (t : TransId) (cells : Cells) (clock kept : ℕ) (applied : List (Stamp × Decided)) (left : List (Stamp × List Edit)) where
  -- the holder with these cells, where the part is gone
  abbrev pub holder_gone : Holder
  holder_gone = with_life (record a.holder { cells = cells; clock = clock; kept = kept; applied = applied; left = left }) t None

  abbrev pub state_gone : Account
  state_gone = record a { holder = holder_gone; locked = lock_set a.locked t [] }

  abbrev pub table_gone : Holders
  table_gone = map.remove k.locks.held t

  -- what a call needs of a part that lives on and did not vote stands
  abbrev pub NeedsStand : Type 0
  NeedsStand = (u : TransId) (l : Life) (c : Call) → a.holder.lives u ≡ Some l → l.vote ≡ None → same_trans u t ≡ false → needs_of (view_in holder_gone l) l.own c ≡ needs_of (view_in a.holder l) l.own c

  -- what is left behind the grants
  pub record HasLetGo (P : TransId → Part → List Edit → Type 0) (room : Cells) : Type 0 where
    pub given : List (TransId × Call)
    pub walk : IsWalk holder_gone (in_turn holder_gone a.waits) (trans_in given)
    pub woken : granted_behind k t ≡ trans_in given
    pub calls : granted_calls a.waits (trans_in given) ≡ given
    pub all : AreKept P a.holder.cells k.sizes room (with_granted state_gone given) (granted_all (gone_of k t) (trans_in given))
    pub held_as : AreHeldAlike (with_granted state_gone given).holder (released k.locks t).held
    pub queue : (released k.locks t).waiting ≡ queue_of (with_granted state_gone given).holder (released k.locks t).held (with_granted state_gone given).waits

  module _ (P : TransId → Part → List Edit → Type 0) (room : Cells) (m : ℕ) (on : Bool) (h : IsAs a held k) (ready : IsReady m on k) (stand : NeedsStand)
      (parts : (u : TransId) (l : Live) (life : Life) → map.get k.lives u ≡ Some l → a.holder.lives u ≡ Some life → same_trans u t ≡ false → P u l.part life.edits) (fits : HaveRoom k.sizes room (totals_of (map.remove k.lives t))) where
    some_life : (x y : Life) → Some x ≡ Some y → x ≡ y
    some_life x y e = cc

    -- ---- what each part holds

    held_gone : AreHeldAlike holder_gone table_gone
    held_gone = record { live = λ u l is r. lives u l r (same_trans u t) refl is; none = λ u none r. nobody u r (same_trans u t) refl none }
      where
        removed : (u : TransId) (r : Resource) (b : Bool) → same_trans u t ≡ b → holding table_gone u r ≡ cond {A = Option Mode} b None (holding k.locks.held u r)
        removed u r b e = removed-holds k.locks.held t u r ∙ ap (λ (x : Bool). cond {A = Option Mode} x None (holding k.locks.held u r)) (tied_same u t ∙ e)

        own : (u : TransId) (l : Life) (r : Resource) (o : Option Live) (y : Option Life) → y ≡ Some l → IsAlike a.holder.cells k.locks.held (a.locked u) u o y → l.held r ≡ holding k.locks.held u r
        own u l r None None is alike = let wrong : None ≡ Some l = is in cc
        own u l r (Some z) None is alike = absurd alike
        own u l r None (Some y) is alike = absurd alike
        own u l r (Some z) (Some y) is alike = ap (λ (x : Life). x.held r) (sym (some_life y l is)) ∙ IsLife.held alike r

        none_of : (u : TransId) (r : Resource) (o : Option Live) (y : Option Life) → y ≡ None → IsAlike a.holder.cells k.locks.held (a.locked u) u o y → holding k.locks.held u r ≡ None
        none_of u r None None is alike = alike r
        none_of u r (Some z) None is alike = absurd alike
        none_of u r o (Some y) is alike = let wrong : Some y ≡ None = is in cc

        lives : (u : TransId) (l : Life) (r : Resource) (b : Bool) → same_trans u t ≡ b → cond {A = Option Life} b None (a.holder.lives u) ≡ Some l → l.held r ≡ holding table_gone u r
        lives u l r true e is = let wrong : None ≡ Some l = is in cc
        lives u l r false e is = own u l r (map.get k.lives u) (a.holder.lives u) is (h.lives u) ∙ sym (removed u r false e)

        nobody : (u : TransId) (r : Resource) (b : Bool) → same_trans u t ≡ b → cond {A = Option Life} b None (a.holder.lives u) ≡ None → holding table_gone u r ≡ None
        nobody u r true e is = removed u r true e
        nobody u r false e is = removed u r false e ∙ none_of u r (map.get k.lives u) (a.holder.lives u) is (h.lives u)

    -- ---- the queue

    -- the parts of calls that wait did not vote
    open_waits : AllByRecursion (IsOpenCall a) a.waits
    open_waits = open_calls a h.quiet.settled

    stays_still : (ws : List Waiting) → AllByRecursion (IsOpenCall a) ws → AllByRecursion (StandsStill a.holder holder_gone k.locks.held t) ws
    stays_still [] opens = tt
    stays_still (w ∷ ws) opens = ((λ u l for away. ap (request_of l.held) (stand u l w.call for.live ((opens.0 u l for.call for.live).1 l for.live) away)), stays_still ws opens.1)

    is_gone : IsGone a.holder holder_gone k.locks.held t
    is_gone = record {
      gone = ap (λ (b : Bool). cond {A = Option Life} b None (a.holder.lives t)) (same_trans-itself t);
      others = λ u away. ap (λ (b : Bool). cond {A = Option Life} b None (a.holder.lives u)) away;
    }

    queue_then : without_of k.locks.waiting t ≡ queue_of holder_gone table_gone a.waits
    queue_then = ap (λ (qs : List Waiter). without_of qs t) h.queue ∙ sym (queue_gone a.holder holder_gone k.locks.held t a.waits is_gone (stays_still a.waits open_waits))

    walks : GivesOnAlike holder_gone a.waits (walked (record { held = table_gone; waiting = []; woken = [] }) (queue_of holder_gone table_gone a.waits))
    walks = gives_on holder_gone table_gone a.waits held_gone (remove_agrees k.locks.held t ready.sound.agreeing) (calls_apart a.waits h.quiet.settled.tells.apart)

    released_is : walked (record { held = table_gone; waiting = []; woken = [] }) (queue_of holder_gone table_gone a.waits) ≡ released k.locks t
    released_is = (λ i. walked (record { held = table_gone; waiting = []; woken = sym ready.taken i }) (sym queue_then i))

    -- ---- what is kept before the grants

    kept_lives : (u : TransId) → IsAlikeApart a.holder.cells (lock_set a.locked t [] u) (map.get (map.remove k.lives t) u) (holder_gone.lives u)
    kept_lives u = subst (λ (o : Option Live). IsAlikeApart a.holder.cells (lock_set a.locked t [] u) o (holder_gone.lives u)) (sym (get_gone k.lives t u)) (go (same_trans u t))
      where
        go : (b : Bool) → IsAlikeApart a.holder.cells (cond {A = List Resource} b [] (a.locked u)) (cond {A = Option Live} b None (map.get k.lives u)) (cond {A = Option Life} b None (a.holder.lives u))
        go true = tt
        go false = alike_apart a.holder.cells k.locks.held (a.locked u) u (map.get k.lives u) (a.holder.lives u) (h.lives u)

    kept_asked : (ws : List WaitingCall) → AreNamed ws → AllByRecursion (IsOpenCall a) (waiting_calls ws) → AllByRecursion (IsWaitingAs a.holder a.locked) ws → AllByRecursion (IsWaitingAs state_gone.holder state_gone.locked) ws
    kept_asked [] named opens all = tt
    kept_asked (w ∷ ws) named opens all = ((λ n l counted is. go n l counted (same_trans w.trans t) refl is), kept_asked ws named.1 opens.1 all.1)
      where
        go : (n : LockCounts) (l : Life) → w.counts ≡ Some n → (b : Bool) → same_trans w.trans t ≡ b → cond {A = Option Life} b None (a.holder.lives w.trans) ≡ Some l → IsAskedAs state_gone.holder state_gone.locked w n l
        go n l counted true e is = let wrong : None ≡ Some l = is in cc
        go n l counted false e is =
            let was : IsAskedAs a.holder a.locked w n l = all.0 n l counted is in
            let same : needs_of (view_in holder_gone l) l.own w.call ≡ needs_of (view_in a.holder l) l.own w.call = stand w.trans l w.call is ((opens.0 w.trans l (counted_named w n counted named.0) is).1 l is) e in
            record {
              asked = was.asked ∙ (λ i. length (with_resources (request_of l.held (sym same i)) (a.locked w.trans)))
                  ∙ ap (λ (x : Bool). length (with_resources (request_in holder_gone w.call (Some l)) (cond {A = List Resource} x [] (a.locked w.trans)))) (sym e);
              made = was.made;
              covered = λ g. subst (HoldsEach l.held) (sym same) (was.covered g);
            }

    kept_parts : (u : TransId) (l : Live) (life : Life) → map.get (map.remove k.lives t) u ≡ Some l → holder_gone.lives u ≡ Some life → P u l.part life.edits
    kept_parts u l life there is = go (same_trans u t) refl (sym (get_gone k.lives t u) ∙ there) is
      where
        go : (b : Bool) → same_trans u t ≡ b → cond {A = Option Live} b None (map.get k.lives u) ≡ Some l → cond {A = Option Life} b None (a.holder.lives u) ≡ Some life → P u l.part life.edits
        go true e x y = let wrong : None ≡ Some l = x in cc
        go false e x y = parts u l life x y e

    kept_first : AreKept P a.holder.cells k.sizes room state_gone (gone_of k t)
    kept_first = record {
      lives = kept_lives;
      waits = h.waits;
      named = named_each k.server k.epoch k.given (count_of k.coordinator) k.sizes k.lives k.waits ready.waits.calls;
      asked = kept_asked k.waits (named_each k.server k.epoch k.given (count_of k.coordinator) k.sizes k.lives k.waits ready.waits.calls) (subst (AllByRecursion (IsOpenCall a)) h.waits open_waits) h.asked;
      fits = fits;
      parts = kept_parts;
    }

    -- ---- each grant is of a call that is kept, and its part lives on

    call_there : (u : TransId) (c : Call) → IsSome (holder_gone.lives u) → call_on a.waits u ≡ Some c → HasCall (gone_of k t) (u, c)
    call_there u c lives is =
        let f : IsFound u c k.waits = found_call u c k.waits (named_each k.server k.epoch k.given (count_of k.coordinator) k.sizes k.lives k.waits ready.waits.calls) ready.waits.apart (ap (λ (ws : List Waiting). call_on ws u) (sym h.waits) ∙ is) in
        go f (map.get (map.remove k.lives t) u) (holder_gone.lives u) refl lives (kept_lives u)
      where
        go : IsFound u c k.waits → (o : Option Live) (y : Option Life) → map.get (map.remove k.lives t) u ≡ o → IsSome y → IsAlikeApart a.holder.cells (lock_set a.locked t [] u) o y → HasCall (gone_of k t) (u, c)
        go f None None at some alike = cc
        go f None (Some l) at some alike = absurd alike
        go f (Some z) None at some alike = absurd alike
        go f (Some z) (Some l) at some alike = record { waiting_call = f.its; counts = f.counts; counted = f.counted; found = f.found; only = f.only; live = z; there = at }

    calls_there : (gs : List (TransId × Call)) → AllByRecursion (λ (g : TransId × Call). call_on a.waits g.0 ≡ Some g.1) gs → AllByRecursion (λ (u : TransId). IsSome (holder_gone.lives u)) (trans_in gs) → AllByRecursion (HasCall (gone_of k t)) gs
    calls_there [] called living = tt
    calls_there (g ∷ gs) called living = (call_there g.0 g.1 living.0 called.0, calls_there gs called.1 living.1)

    pub has_let_go : HasLetGo P room
    has_let_go = go (subst (GivesOnAlike holder_gone a.waits) released_is walks)
      where
        go : GivesOnAlike holder_gone a.waits (released k.locks t) → HasLetGo P room
        go g = record {
          given = g.given;
          walk = g.walk;
          woken = g.woken;
          calls = g.calls;
          all = all_granted P a.holder.cells k.sizes room g.given state_gone (gone_of k t) kept_first (calls_there g.given g.called g.living);
          held_as = g.alike;
          queue = g.queue;
        }

    -- ---- what is so of it then

    module _ (g : HasLetGo P room) where
      pub lives_then : (u : TransId) → IsAlike a.holder.cells (released k.locks t).held ((with_granted state_gone g.given).locked u) u (map.get (granted_all (gone_of k t) (trans_in g.given)).lives u) ((with_granted state_gone g.given).holder.lives u)
      lives_then u =
          alike_with_held a.holder.cells (with_granted state_gone g.given).holder (released k.locks t).held ((with_granted state_gone g.given).locked u) u (map.get (granted_all (gone_of k t) (trans_in g.given)).lives u)
          ((with_granted state_gone g.given).holder.lives u) g.held_as refl (g.all.lives u)

-- ---- a part ends without effect: the server behind it

module _ {V : Type 0} (a : Account) (held : Contents) (k : ServerState V) (t : TransId) where
  abbrev none_beyond : TransId → Part → List Edit → Type 0
  none_beyond u p es = PutNoneBeyond a.holder.server a.ids.epoch k.given es

  abbrev pub Gone : Type 0
  Gone = HasLetGo a held k t a.holder.cells a.holder.clock a.holder.kept a.holder.applied a.holder.left none_beyond a.holder.cells

  module _ (m : ℕ) (on : Bool) (h : IsAs a held k) (ready : IsReady m on k) where
    -- what its locks left to others
    pub gone : Gone
    gone = has_let_go a held k t a.holder.cells a.holder.clock a.holder.kept a.holder.applied a.holder.left none_beyond a.holder.cells m on h ready (λ u l c live unvoted away. refl) (λ u l life there live away. h.unborn u life live)
        (gone_room k.sizes a.holder.cells k.lives t h.room)

    module _ (g : Gone) where
      abbrev pub state_then : Account
      state_then = with_granted (state_gone a held k t a.holder.cells a.holder.clock a.holder.kept a.holder.applied a.holder.left) g.given

      abbrev pub server_then : ServerState V
      server_then = granted_all (gone_of k t) (trans_in g.given)

      pub let_go_is : let_go k t ≡ record k { lives = server_then.lives; waits = server_then.waits; locks = record (released k.locks t) { woken = [] } }
      let_go_is = ap (granted_all (gone_of k t)) g.woken ∙ granted_rest (trans_in g.given) (gone_of k t)

      -- with these fates, joins, sessions, ends that are to be told, and waiting calls
      module _ (fates : TransId → Fate) (phases : JoinNo → Phase) (sessions : ℕ → Option Session) (dead : ℕ → TransId → Option Cause) (waits : List Waiting) (kept_sessions : Sessions) (kept_dead : List DeadPart) (kept_waits : List WaitingCall) (c : Coordinator) (js : Joins) where
        abbrev pub state_left : Account
        state_left = record state_then { fates = fates; phases = phases; sessions = sessions; dead = dead; waits = waits; is_down = false; pending = [] }

        abbrev pub server_left : ServerState V
        server_left = record k { lives = server_then.lives; locks = record (released k.locks t) { woken = [] }; sessions = kept_sessions; dead = kept_dead; waits = kept_waits; coordinator = c; joins = js }

        pub left_as : k.is_down ≡ false → IsCoordinatorBy a.holder.server a.ids.epoch a.ids.transactions fates c → AreJoins a.holder.server a.ids.epoch a.ids.joins phases a.joined js → ((u : TransId) → decision_in (fates u) ≡ decision_in (a.fates u)) → (AreNotesOf (state_of a) a.ids.epoch held.notes → AreNotesOf (state_of state_left) a.ids.epoch held.notes)
            → length kept_sessions.places ≡ 17 → ((client : ℕ) → sessions client ≡ session_at kept_sessions client) → ((client : ℕ) (u : TransId) → dead client u ≡ cause_in kept_dead client u)
            → waits ≡ waiting_calls kept_waits → AllByRecursion (IsWaitingAs state_then.holder state_then.locked) kept_waits → (released k.locks t).waiting ≡ queue_of state_then.holder (released k.locks t).held waits
            → IsQuiet state_left → IsAs state_left held server_left
        left_as up coordinated joined none_decided noted places same_sessions same_dead same_waits asked queue quiet = subst (λ (x : Holder). IsAs (record state_left { holder = x }) held server_left) (sym rest) (record {
          server = h.server;
          servers = h.servers;
          sizes = h.sizes;
          epoch = h.epoch;
          clock = h.clock;
          cells = h.cells;
          sized = h.sized;
          notes = λ on. subst (λ (x : Holder). AreNotesOf (state_of (record state_left { holder = x })) a.ids.epoch held.notes) rest (noted (h.notes on));
          places = places;
          sessions = same_sessions;
          dead = same_dead;
          waits = same_waits;
          queue = subst (λ (x : Holder). (released k.locks t).waiting ≡ queue_of x (released k.locks t).held waits) rest queue;
          asked = subst (λ (x : Holder). AllByRecursion (IsWaitingAs x state_left.locked) kept_waits) rest asked;
          lives = lives_then a held k t a.holder.cells a.holder.clock a.holder.kept a.holder.applied a.holder.left none_beyond a.holder.cells m on h ready (λ u l c live unvoted away. refl) (λ u l life there live away. h.unborn u life live)
              (gone_room k.sizes a.holder.cells k.lives t h.room) g;
          room = g.all.fits;
          unborn = λ u l is. unborn_then u l (map.get server_then.lives u) refl is (g.all.lives u);
          coordinator = coordinated;
          decided = applied_fated a (record state_left { holder = record first { lives = (holder_granted first g.given).lives } }) refl refl none_decided h.decided;
          joins = joined;
          files = h.files;
          made = h.made;
          born = h.born;
          earlier = h.earlier;
          quiet = subst (λ (x : Holder). IsQuiet (record state_left { holder = x })) rest quiet;
          down = sym up;
        })
          where
            first : Holder
            first = with_life a.holder t None

            unborn_then : (u : TransId) (l : Life) (o : Option Live) → map.get server_then.lives u ≡ o → state_then.holder.lives u ≡ Some l → IsAlikeApart a.holder.cells (state_then.locked u) o (state_then.holder.lives u)
                → PutNoneBeyond a.holder.server a.ids.epoch k.given l.edits
            unborn_then u l (Some z) at is alike = g.all.parts u z l at is
            unborn_then u l None at is alike = absurd (subst (IsAlikeApart a.holder.cells (state_then.locked u) None) is alike)

            rest : (holder_granted first g.given) ≡ record first { lives = (holder_granted first g.given).lives }
            rest = holder_rest g.given first

      -- with the joins as they were
      module _ (fates : TransId → Fate) (sessions : ℕ → Option Session) (dead : ℕ → TransId → Option Cause) (waits : List Waiting) (kept_sessions : Sessions) (kept_dead : List DeadPart) (kept_waits : List WaitingCall) (c : Coordinator) where
        abbrev pub state_told : Account
        state_told = record state_then { fates = fates; sessions = sessions; dead = dead; waits = waits; is_down = false; pending = [] }

        abbrev pub server_told : ServerState V
        server_told = record k { lives = server_then.lives; locks = record (released k.locks t) { woken = [] }; sessions = kept_sessions; dead = kept_dead; waits = kept_waits; coordinator = c }

        pub gone_as : k.is_down ≡ false → IsCoordinatorBy a.holder.server a.ids.epoch a.ids.transactions fates c → ((u : TransId) → decision_in (fates u) ≡ decision_in (a.fates u)) → (AreNotesOf (state_of a) a.ids.epoch held.notes → AreNotesOf (state_of state_told) a.ids.epoch held.notes)
            → length kept_sessions.places ≡ 17 → ((client : ℕ) → sessions client ≡ session_at kept_sessions client) → ((client : ℕ) (u : TransId) → dead client u ≡ cause_in kept_dead client u)
            → waits ≡ waiting_calls kept_waits → AllByRecursion (IsWaitingAs state_then.holder state_then.locked) kept_waits → (released k.locks t).waiting ≡ queue_of state_then.holder (released k.locks t).held waits
            → IsQuiet state_told → IsAs state_told held server_told
        gone_as up coordinated none_decided noted places same_sessions same_dead same_waits asked queue quiet =
            left_as fates a.phases sessions dead waits kept_sessions kept_dead kept_waits c k.joins up coordinated h.joins none_decided noted places same_sessions same_dead same_waits asked queue quiet

      -- where the waiting call of the part goes too
      module _ (client : ℕ) where
        abbrev pub waits_left : List Waiting
        waits_left = without (is_of_part client t) state_then.waits

        abbrev pub calls_left : List WaitingCall
        calls_left = without_calls_of client t server_then.waits

        pub waits_as : waits_left ≡ waiting_calls calls_left
        waits_as = ap (without (is_of_part client t)) g.all.waits ∙ calls_gone client t server_then.waits g.all.named

        pub asked_left : AllByRecursion (IsWaitingAs state_then.holder state_then.locked) calls_left
        asked_left = each_left (IsWaitingAs state_then.holder state_then.locked) (λ (w : WaitingCall). not (is_of client t w)) server_then.waits g.all.asked

        pub queue_left : (released k.locks t).waiting ≡ queue_of state_then.holder (released k.locks t).held waits_left
        queue_left =
            g.queue ∙ sym (queue_without state_then.holder (released k.locks t).held (is_of_part client t) state_then.waits
            (subst (AllByRecursion (GoesIdle state_then.holder (released k.locks t).held (is_of_part client t))) (sym g.all.waits)
            (idle_calls state_then.holder (released k.locks t).held client t (still_gone t g.given (with_life a.holder t None) (ap (λ (b : Bool). cond {A = Option Life} b None (a.holder.lives t)) (same_trans-itself t))) server_then.waits g.all.named)))
