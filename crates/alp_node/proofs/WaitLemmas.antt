-- calls that wait, as the parts that they are of go on
use Rattle.std.specs.Prelude.{cond, Bool, true, false, not, ◌&&◌, ◌||◌, ◌==◌, find, filter, Option, None, Some, is_some, is_none}
use Rattle.std.specs.List.{list_any, AllByRecursion}
use Rattle.std.specs.Option.{option_or}
use Rattle.std.specs.FinMap as map
use Rattle.std.proofs.lemmas.Bool.{eqb-true}
use Rattle.alp_base.proofs.NameLemmas.{and_left, and_right}
use Rattle.std.proofs.Common.{◌≡◌, ℕ, zero, suc, ◌+◌, ◌<◌, ◌≤◌, List, [], ◌∷◌, ◌++◌, length, take, drop, get_or, slice_set, refl, sym, ◌∙◌, ap, subst, arith, eq-eqb, le_refl}
use Rattle.alp_base.specs.declared.faults.Sizes.{Sizes}
use Rattle.alp_base.specs.declared.ids.JoinNo.{JoinNo}
use Rattle.alp_base.specs.declared.ids.TransId.{TransId}
use Rattle.alp_files.specs.declared.call.Call.{Call}
use Rattle.alp_files.specs.declared.call.Call.TheVariants as call
use Rattle.alp_files.specs.declared.refusal.Cause.{Cause}
use Rattle.alp_files.specs.declared.refusal.Refusal.{Refusal}
use Rattle.alp_files.specs.declared.refusal.Refusal.TheVariants as refusal
use Rattle.alp_journal.specs.Answers.{if_over}
use Rattle.alp_journal.specs.Counts.{log_need}
use Rattle.alp_journal.specs.Desk.{file_trans}
use Rattle.alp_journal.specs.Ids.{same_trans}
use Rattle.alp_journal.proofs.IdLemmas.{same_trans-itself, same_trans-true}
use Rattle.alp_locks.proofs.SoundLemmas.{each-more, each-both, each-filter}
use Rattle.alp_coord.specs.declared.coordinator.Coordinator.{Coordinator}
use Rattle.alp_worker.specs.declared.joins.Joins.{Joins}
use Rattle.alp_queue.specs.Order.{is_of as is_waiter_of, waits}
use Rattle.alp_queue.specs.declared.waiter.Waiter.{Waiter}
use Rattle.alp_node.specs.Asks.{is_given}
use Rattle.alp_node.specs.Shapes.{shape_of, no_open}
use Rattle.alp_node.specs.Totals.{LiveMap}
use Rattle.alp_node.specs.Dead.{cause_in}
use Rattle.alp_worker.specs.declared.live.LiveJoin.{LiveJoin}
use Rattle.alp_worker.specs.Lives.{is_open, join_at}
use Rattle.alp_node.specs.Waits.{is_of, is_file_on, is_at, is_other_at, without_calls_of, has_waiting, has_file_on, grant_one, grant_of, outlives, without_dead, without_other_at, has_part, stays, live_calls, IsCurrent, IsWithinLimits, IsFileCall, IsNamed, IsWaitingCall, IsOfOther, AreApart, is_asking, asks_for, IsOfCalls, AreWaiting, AreVotersIdle}
use Rattle.alp_node.specs.declared.dead.DeadPart.{DeadPart}
use Rattle.alp_node.specs.declared.lives.Live.{Live}
use Rattle.alp_node.specs.declared.lock_counts.LockCounts.{LockCounts}
use Rattle.alp_node.specs.declared.waits.WaitingCall.{WaitingCall}
use Rattle.alp_node.proofs.BesideLemmas.{AreNamed, AreOthers, HasNoCall}
use Rattle.alp_node.proofs.HeldHere.{here_later}
use Rattle.alp_node.proofs.MapLemmas.{tied_same}
use Rattle.alp_node.proofs.OpenLemmas.{given_later}

-- ---- lists

pub find_each : {X : Type 0} (P : X → Type 0) (p : X → Bool) (xs : List X) (x : X) → find p xs ≡ Some x → AllByRecursion P xs → P x × (p x ≡ true)
find_each P p [] x is h = let wrong : None ≡ Some x = is in cc
find_each P p (y ∷ ys) x is h = go (p y) refl is (λ f. find_each P p ys x f h.1)
  where
    same_one : {A : Type 0} (a b : A) → Some a ≡ Some b → a ≡ b
    same_one a b e = cc

    go : (b : Bool) → p y ≡ b → cond b (Some y) (find p ys) ≡ Some x → (find p ys ≡ Some x → P x × (p x ≡ true)) → P x × (p x ≡ true)
    go true e f rest = subst (λ z. P z × (p z ≡ true)) (same_one y x f) (h.0, e)
    go false e f rest = rest f

pub each_so : {X : Type 0} (P : X → Type 0) → ((x : X) → P x) → (xs : List X) → AllByRecursion P xs
each_so P h [] = tt
each_so P h (x ∷ xs) = (h x, each_so P h xs)

pub any_filter : {X : Type 0} (P : X → Type 0) (p q : X → Bool) (xs : List X) → ((x : X) → P x → q x ≡ true → p x ≡ true) → AllByRecursion P xs → list_any q xs ≡ true → list_any q (filter p xs) ≡ true
any_filter P p q [] keeps all h = h
any_filter P p q (x ∷ xs) keeps all h = go (q x) (p x) refl refl h (any_filter P p q xs keeps all.1)
  where
    go : (a b : Bool) → q x ≡ a → p x ≡ b → (a || list_any q xs) ≡ true → (list_any q xs ≡ true → list_any q (filter p xs) ≡ true) → list_any q (cond b (x ∷ filter p xs) (filter p xs)) ≡ true
    go true true e f g rest = ap (λ (c : Bool). c || list_any q (filter p xs)) e
    go true false e f g rest = let wrong : true ≡ false = sym (keeps x all.0 e) ∙ f in cc
    go false true e f g rest = ap (λ (c : Bool). c || list_any q (filter p xs)) e ∙ rest g
    go false false e f g rest = rest g

-- ---- file calls

-- counts that are there
pub counts_there : (x : Option LockCounts) → is_some x ≡ true → (n : LockCounts) × (x ≡ Some n)
counts_there None some = let wrong : false ≡ true = some in cc
counts_there (Some n) some = (n, refl)

pub file_counts : (t : TransId) (w : WaitingCall) → is_file_on t w ≡ true → is_some w.counts ≡ true
file_counts t w e = and_left (is_some w.counts) (same_trans w.trans t) e

pub file_at : (t : TransId) (w : WaitingCall) → is_file_on t w ≡ true → w.trans ≡ t
file_at t w e = same_trans-true w.trans t (and_right (is_some w.counts) (same_trans w.trans t) e)

-- one of this transaction is a file call on it
pub file_on : (t : TransId) (w : WaitingCall) (n : LockCounts) → w.counts ≡ Some n → same_trans w.trans t ≡ true → is_file_on t w ≡ true
file_on t w n counted e = ap (λ (x : Option LockCounts). is_some x && same_trans w.trans t) counted ∙ e

-- ---- shapes

over_later : (b c : Bool) (f : Refusal) (o : Option Refusal) → (b ≡ true → c ≡ true) → option_or (if_over (not b) f) o ≡ None → option_or (if_over (not c) f) o ≡ None
over_later true true f o keeps h = h
over_later true false f o keeps h = let wrong : false ≡ true = keeps refl in cc
over_later false c f o keeps h = let wrong : Some f ≡ None = h in cc

-- a call has its shape still where more files were given ids
pub shape_later : (server epoch m n opens : ℕ) → m ≤ n → (c : Call) → shape_of server epoch m opens c ≡ None → shape_of server epoch n opens c ≡ None
shape_later server epoch m n opens le (call.OpenFile t f access mode choice) h =
    over_later (is_given server epoch m f) (is_given server epoch n f) refusal.UnknownFile (no_open opens) (given_later server epoch m n le f) h
shape_later server epoch m n opens le c h = h

-- ---- one call

-- a part counts as many cells, has as many opens and the same client
pub record IsLikePart (l now : Live) : Type 0 where
  pub client : now.client ≡ l.client
  pub opens : length now.part.opens.items ≡ length l.part.opens.items
  pub cells : now.part.counts.cells ≡ l.part.counts.cells

pub like_itself : (l : Live) → IsLikePart l l
like_itself l = record { client = refl; opens = refl; cells = refl }

module _ (server epoch m n : ℕ) (more : m ≤ n) (sizes : Sizes) where
  pub limits_later : (w : WaitingCall) (z : LockCounts) (l now : Live) → IsLikePart l now → IsWithinLimits server epoch m sizes w z l → IsWithinLimits server epoch n sizes w z now
  limits_later w z l now like h = record {
    its = h.its ∙ sym like.client;
    shape = subst (λ (k : ℕ). shape_of server epoch n k w.call ≡ None) (sym like.opens) (shape_later server epoch m n (length l.part.opens.items) more w.call h.shape);
    fewer = h.fewer;
    locks = h.locks;
    log = subst (λ (k : ℕ). log_need k z.made ≤ sizes.area) (sym like.cells) h.log;
  }

  -- whoever is live then was a like part before, where the file call is of its transaction
  pub call_later : (drawn drawn_then : ℕ) → drawn ≤ drawn_then → (lives now : LiveMap) (w : WaitingCall)
      → ((z : LockCounts) → w.counts ≡ Some z → IsFileCall server epoch m drawn sizes lives w z → (l : Live) → map.get now w.trans ≡ Some l → (x : Live) × (map.get lives w.trans ≡ Some x) × IsLikePart x l)
      → IsWaitingCall server epoch m drawn sizes lives w → IsWaitingCall server epoch n drawn_then sizes now w
  call_later drawn drawn_then low lives now w was h = record {
    named = h.named;
    current = h.current;
    file = λ z counted. (
        let o : IsFileCall server epoch m drawn sizes lives w z = h.file z counted in
        record {
          formed = o.formed;
          some = o.some;
          begun = λ own. (let before : w.trans.counter ≤ drawn = o.begun own in omega (arith, low, before));
          limits = λ l is. let x = was z counted o l is in limits_later w z x.0 l x.2 (o.limits x.0 x.1);
        });
  }

-- ---- a grant

pub grant_call : (P : WaitingCall → Type 0) (t : TransId) → ((w : WaitingCall) → P w → P (record w { is_granted = true })) → (ws : List WaitingCall) → AllByRecursion P ws → AllByRecursion P (grant_of t ws)
grant_call P t keeps [] h = tt
grant_call P t keeps (w ∷ ws) h = (go (is_file_on t w), grant_call P t keeps ws h.1)
  where
    go : (b : Bool) → P (cond {A = WaitingCall} b (record w { is_granted = true }) w)
    go true = keeps w h.0
    go false = h.0

pub grant_apart : (t : TransId) (ws : List WaitingCall) → AreApart ws → AreApart (grant_of t ws)
grant_apart t [] h = tt
grant_apart t (w ∷ ws) h = (go (is_file_on t w), grant_apart t ws h.1)
  where
    go : (b : Bool) → AllByRecursion (IsOfOther (cond {A = WaitingCall} b (record w { is_granted = true }) w)) (grant_of t ws)
    go true = grant_call (IsOfOther w) t (λ v e. e) ws h.0
    go false = grant_call (IsOfOther w) t (λ v e. e) ws h.0

asking_one : (t u : TransId) (w : WaitingCall) → same_trans u t ≡ false → is_asking u (grant_one t w) ≡ is_asking u w
asking_one t u w apart = go (is_file_on t w) refl
  where
    go : (b : Bool) → is_file_on t w ≡ b → is_asking u (cond {A = WaitingCall} b (record w { is_granted = true }) w) ≡ is_asking u w
    go false e = refl
    go true e = none (same_trans w.trans u) refl
      where
        neither : (c x y : Bool) → ((c && false) && x) ≡ ((c && false) && y)
        neither true x y = refl
        neither false x y = refl

        none : (c : Bool) → same_trans w.trans u ≡ c → ((is_some w.counts && c) && false) ≡ ((is_some w.counts && c) && not w.is_granted)
        none false f = neither (is_some w.counts) false (not w.is_granted)
        none true f =
            let its : same_trans w.trans t ≡ true = and_right (is_some w.counts) (same_trans w.trans t) e in
            let wrong : true ≡ false = sym its ∙ ap (λ (x : TransId). same_trans x t) (same_trans-true w.trans u f) ∙ apart in
            cc

-- others go on asking
pub grant_asks : (t u : TransId) (ws : List WaitingCall) → same_trans u t ≡ false → asks_for (grant_of t ws) u ≡ asks_for ws u
grant_asks t u [] apart = refl
grant_asks t u (w ∷ ws) apart = λ i. asking_one t u w apart i || grant_asks t u ws apart i

-- ---- calls that go

pub filter_apart : (p : WaitingCall → Bool) (ws : List WaitingCall) → AreApart ws → AreApart (filter p ws)
filter_apart p [] h = tt
filter_apart p (w ∷ ws) h = go (p w) (filter_apart p ws h.1)
  where
    go : (b : Bool) → AreApart (filter p ws) → AreApart (cond b (w ∷ filter p ws) (filter p ws))
    go true rest = (each-filter (IsOfOther w) p ws h.0, rest)
    go false rest = rest

-- an asking call is of its transaction
asking_is : (t : TransId) (w : WaitingCall) → is_asking t w ≡ true → w.trans ≡ t
asking_is t w e = file_at t w (and_left (is_file_on t w) (not w.is_granted) e)

-- the file call of a live part is its client's
abbrev pub IsOwned : LiveMap → WaitingCall → Type 0
IsOwned lives w = (l : Live) → map.get lives w.trans ≡ Some l → is_some w.counts ≡ true → w.client ≡ l.client

pub owned_of : (server epoch given drawn : ℕ) (sizes : Sizes) (lives : LiveMap) (w : WaitingCall) → IsWaitingCall server epoch given drawn sizes lives w → IsOwned lives w
owned_of server epoch given drawn sizes lives w h l there some = let n = counts_there w.counts some in ((h.file n.0 n.1).limits l there).its

pub all_owned : (server epoch given drawn : ℕ) (sizes : Sizes) (lives : LiveMap) (ws : List WaitingCall) → AllByRecursion (IsWaitingCall server epoch given drawn sizes lives) ws → AllByRecursion (IsOwned lives) ws
all_owned server epoch given drawn sizes lives ws h = each-more (IsWaitingCall server epoch given drawn sizes lives) (IsOwned lives) (λ w o. owned_of server epoch given drawn sizes lives w o) ws h

-- whoever is live goes on asking where calls of dead parts go
pub asks_undead : (client : ℕ) (ds : List DeadPart) (lives : LiveMap) (ws : List WaitingCall) (t : TransId) → ((l : Live) → map.get lives t ≡ Some l → cause_in ds l.client t ≡ None) → is_some (map.get lives t) ≡ true
    → AllByRecursion (IsOwned lives) ws → asks_for ws t ≡ true → asks_for (without_dead client ds ws) t ≡ true
asks_undead client ds lives ws t alive live owned asks = any_filter (IsOwned lives) (outlives client ds) (is_asking t) ws keeps owned asks
  where
    by : (w : WaitingCall) (l : Live) → w.trans ≡ t → w.client ≡ l.client → cause_in ds l.client t ≡ None → (b : Bool) → (w.client == client) ≡ b → (not b || is_none (cause_in ds client w.trans)) ≡ true
    by w l at its none false e = refl
    by w l at its none true e =
        let same : client ≡ l.client = sym (eqb-true w.client client e) ∙ its in
        ap (λ (x : Option Cause). is_none x) ((λ i. cause_in ds (same i) (at i)) ∙ none)

    go : (w : WaitingCall) → IsOwned lives w → is_some w.counts ≡ true → w.trans ≡ t → (x : Option Live) → map.get lives t ≡ x → is_some x ≡ true → outlives client ds w ≡ true
    go w own some at None e s = let wrong : false ≡ true = s in cc
    go w own some at (Some l) e s = by w l at (own l (ap (map.get lives) at ∙ e) some) (alive l e) (w.client == client) refl

    keeps : (w : WaitingCall) → IsOwned lives w → is_asking t w ≡ true → outlives client ds w ≡ true
    keeps w own e = go w own (file_counts t w (and_left (is_file_on t w) (not w.is_granted) e)) (asking_is t w e) (map.get lives t) refl live

-- and where those go that are of no live part
pub asks_live : (client : ℕ) (c : Coordinator) (k : Joins) (lives : LiveMap) (ws : List WaitingCall) (t : TransId) → ((l : Live) → map.get lives t ≡ Some l → has_part l.client c k t ≡ true) → is_some (map.get lives t) ≡ true
    → AllByRecursion (IsOwned lives) ws → asks_for ws t ≡ true → asks_for (live_calls client c k ws) t ≡ true
asks_live client c k lives ws t has live owned asks = any_filter (IsOwned lives) (stays client c k) (is_asking t) ws keeps owned asks
  where
    by : (w : WaitingCall) (l : Live) → w.trans ≡ t → w.client ≡ l.client → has_part l.client c k t ≡ true → (b : Bool) → (w.client == client) ≡ b → (not b || has_part client c k w.trans) ≡ true
    by w l at its there false e = refl
    by w l at its there true e =
        let same : client ≡ l.client = sym (eqb-true w.client client e) ∙ its in
        (λ i. has_part (same i) c k (at i)) ∙ there

    go : (w : WaitingCall) → IsOwned lives w → is_some w.counts ≡ true → w.trans ≡ t → (x : Option Live) → map.get lives t ≡ x → is_some x ≡ true → stays client c k w ≡ true
    go w own some at None e s = let wrong : false ≡ true = s in cc
    go w own some at (Some l) e s = by w l at (own l (ap (map.get lives) at ∙ e) some) (has l e) (w.client == client) refl

    keeps : (w : WaitingCall) → IsOwned lives w → is_asking t w ≡ true → stays client c k w ≡ true
    keeps w own e = go w own (file_counts t w (and_left (is_file_on t w) (not w.is_granted) e)) (asking_is t w e) (map.get lives t) refl live

-- and where those go of a client that has no live part of the transaction
pub asks_apart : (client : ℕ) (t : TransId) (lives : LiveMap) (ws : List WaitingCall) (u : TransId) → ((l : Live) → map.get lives t ≡ Some l → (l.client == client) ≡ false) → is_some (map.get lives u) ≡ true
    → AllByRecursion (IsOwned lives) ws → asks_for ws u ≡ true → asks_for (without_calls_of client t ws) u ≡ true
asks_apart client t lives ws u other live owned asks = any_filter (IsOwned lives) (λ w. not (is_of client t w)) (is_asking u) ws keeps owned asks
  where
    theirs : (w : WaitingCall) → IsOwned lives w → is_some w.counts ≡ true → w.trans ≡ u → same_trans w.trans t ≡ true → (x : Option Live) → map.get lives u ≡ x → is_some x ≡ true → (w.client == client) ≡ false
    theirs w own some at its None e s = let wrong : false ≡ true = s in cc
    theirs w own some at its (Some l) e s = ap (λ (n : ℕ). n == client) (own l (ap (map.get lives) at ∙ e) some) ∙ other l (ap (map.get lives) (sym (same_trans-true w.trans t its) ∙ at) ∙ e)

    passes : (b c : Bool) → (c ≡ true → b ≡ false) → not (b && c) ≡ true
    passes false c h = refl
    passes true false h = refl
    passes true true h = let wrong : true ≡ false = h refl in cc

    keeps : (w : WaitingCall) → IsOwned lives w → is_asking u w ≡ true → not (is_of client t w) ≡ true
    keeps w own e = passes (w.client == client) (same_trans w.trans t) (λ its. theirs w own (file_counts u w (and_left (is_file_on u w) (not w.is_granted) e)) (asking_is u w e) its (map.get lives u) refl live)

pub asks_other : (client : ℕ) (t : TransId) (ws : List WaitingCall) (u : TransId) → same_trans u t ≡ false → asks_for ws u ≡ true → asks_for (filter (λ w. not (is_of client t w)) ws) u ≡ true
asks_other client t ws u apart asks =
    any_filter (λ (w : WaitingCall). Unit {0}) (λ w. not (is_of client t w)) (is_asking u) ws (λ w o e. go w (w.client == client) (ap (λ (x : TransId). same_trans x t) (asking_is u w e) ∙ apart)) (each_so (λ (w : WaitingCall). Unit {0}) (λ w. tt) ws) asks
  where
    go : (w : WaitingCall) (b : Bool) → same_trans w.trans t ≡ false → not (b && same_trans w.trans t) ≡ true
    go w true e = ap not e
    go w false e = refl

-- who asks goes on where a Join or a Finish goes
pub asks_without_other : (client number : ℕ) (ws : List WaitingCall) (u : TransId) → asks_for ws u ≡ true → asks_for (without_other_at client number ws) u ≡ true
asks_without_other client number ws u asks =
    any_filter (λ (w : WaitingCall). Unit {0}) (λ w. not (is_other_at client number w)) (is_asking u) ws (λ w o e. go (is_at client number w) w.counts (file_counts u w (and_left (is_file_on u w) (not w.is_granted) e)))
    (each_so (λ (w : WaitingCall). Unit {0}) (λ w. tt) ws) asks
  where
    go : (b : Bool) (x : Option LockCounts) → is_some x ≡ true → not (b && is_none x) ≡ true
    go b None e = let wrong : false ≡ true = e in cc
    go true (Some n) e = refl
    go false (Some n) e = refl

-- ---- calls of parts that voted

none_filter : (q p : WaitingCall → Bool) (ws : List WaitingCall) → list_any q ws ≡ false → list_any q (filter p ws) ≡ false
none_filter q p [] h = refl
none_filter q p (w ∷ ws) h = by (q w) refl h (none_filter q p ws)
  where
    go : (b : Bool) → q w ≡ false → list_any q (filter p ws) ≡ false → list_any q (cond {A = List WaitingCall} b (w ∷ filter p ws) (filter p ws)) ≡ false
    go true e rest = ap (λ (x : Bool). x || list_any q (filter p ws)) e ∙ rest
    go false e rest = rest

    by : (d : Bool) → q w ≡ d → (d || list_any q ws) ≡ false → (list_any q ws ≡ false → list_any q (filter p ws) ≡ false) → list_any q (cond {A = List WaitingCall} (p w) (w ∷ filter p ws) (filter p ws)) ≡ false
    by true e f more = let wrong : true ≡ false = f in cc
    by false e f more = go (p w) e (more f)

-- none waits where fewer do
pub idle_fewer : (p : WaitingCall → Bool) (ls : List LiveJoin) (ws : List WaitingCall) → AreVotersIdle ls ws → AreVotersIdle ls (filter p ws)
idle_fewer p ls ws h j x is voted = none_filter (is_file_on x.trans) p ws (h j x is voted)

-- nor as one is granted its locks
pub file_granted : (u t : TransId) (ws : List WaitingCall) → has_file_on u (grant_of t ws) ≡ has_file_on u ws
file_granted u t [] = refl
file_granted u t (w ∷ ws) = λ i. go (is_file_on t w) i || file_granted u t ws i
  where
    go : (b : Bool) → is_file_on u (cond {A = WaitingCall} b (record w { is_granted = true }) w) ≡ is_file_on u w
    go true = refl
    go false = refl

pub idle_granted : (t : TransId) (ls : List LiveJoin) (ws : List WaitingCall) → AreVotersIdle ls ws → AreVotersIdle ls (grant_of t ws)
idle_granted t ls ws h j x is voted = file_granted x.trans t ws ∙ h j x is voted

-- a call that is no file call of the transaction
pub file_pushed : (t : TransId) (ws : List WaitingCall) (w : WaitingCall) → is_file_on t w ≡ false → has_file_on t (ws ++ w ∷ []) ≡ has_file_on t ws
file_pushed t [] w e = ap (λ (b : Bool). b || false) e
file_pushed t (v ∷ vs) w e = ap (λ (b : Bool). is_file_on t v || b) (file_pushed t vs w e)

-- a file call of a transaction of which none voted waits besides
pub idle_pushed : (ls : List LiveJoin) (ws : List WaitingCall) (w : WaitingCall) → ((j : JoinNo) (x : LiveJoin) → join_at ls j ≡ Some x → is_open x.stage ≡ false → same_trans x.trans w.trans ≡ false) → AreVotersIdle ls ws → AreVotersIdle ls (ws ++ w ∷ [])
idle_pushed ls ws w none h j x is voted = file_pushed x.trans ws w (away (is_some w.counts) (same_trans w.trans x.trans) refl) ∙ h j x is voted
  where
    away : (a b : Bool) → same_trans w.trans x.trans ≡ b → (a && b) ≡ false
    away true true e = let wrong : true ≡ false = sym (ap (same_trans x.trans) (same_trans-true w.trans x.trans e) ∙ same_trans-itself x.trans) ∙ none j x is voted in cc
    away true false e = refl
    away false b e = refl

-- whose file call waits did not vote
pub called_unvoted : (ls : List LiveJoin) (ws : List WaitingCall) (t : TransId) → AreVotersIdle ls ws → has_file_on t ws ≡ true → (j : JoinNo) (x : LiveJoin) → join_at ls j ≡ Some x → is_open x.stage ≡ false → same_trans x.trans t ≡ false
called_unvoted ls ws t h called j x is voted = go (same_trans x.trans t) refl
  where
    go : (b : Bool) → same_trans x.trans t ≡ b → b ≡ false
    go false e = refl
    go true e = let wrong : false ≡ true = sym (h j x is voted) ∙ ap (λ (u : TransId). has_file_on u ws) (same_trans-true x.trans t e) ∙ called in cc

-- ---- a call that comes

each_last : {X : Type 0} (P : X → Type 0) (xs : List X) (x : X) → AllByRecursion P xs → P x → AllByRecursion P (xs ++ x ∷ [])
each_last P [] x h k = (k, tt)
each_last P (y ∷ ys) x h k = (h.0, each_last P ys x h.1 k)

pub pushed_each : (P : WaitingCall → Type 0) (ws : List WaitingCall) (w : WaitingCall) → AllByRecursion P ws → P w → AllByRecursion P (ws ++ w ∷ [])
pushed_each P ws w h k = each_last P ws w h k

pub pushed_apart : (ws : List WaitingCall) (w : WaitingCall) → AreApart ws → AllByRecursion (λ v. IsOfOther v w) ws → AreApart (ws ++ w ∷ [])
pushed_apart [] w h k = (tt, tt)
pushed_apart (v ∷ vs) w h k = (each_last (IsOfOther v) vs w h.0 k.0, pushed_apart vs w h.1 k.1)

pub pushed_asks : (ws : List WaitingCall) (w : WaitingCall) (t : TransId) → asks_for ws t ≡ true → asks_for (ws ++ w ∷ []) t ≡ true
pushed_asks [] w t h = let wrong : false ≡ true = h in cc
pushed_asks (v ∷ vs) w t h = go (is_asking t v) h (pushed_asks vs w t)
  where
    go : (b : Bool) → (b || asks_for vs t) ≡ true → (asks_for vs t ≡ true → asks_for (vs ++ w ∷ []) t ≡ true) → (b || asks_for (vs ++ w ∷ []) t) ≡ true
    go true e rest = refl
    go false e rest = rest e

pub asks_last : (ws : List WaitingCall) (w : WaitingCall) → is_some w.counts ≡ true → w.is_granted ≡ false → asks_for (ws ++ w ∷ []) w.trans ≡ true
asks_last [] w some new = (λ i. ((some i && same_trans-itself w.trans i) && not (new i)) || false)
asks_last (v ∷ vs) w some new = go (is_asking w.trans v) (asks_last vs w some new)
  where
    go : (b : Bool) → asks_for (vs ++ w ∷ []) w.trans ≡ true → (b || asks_for (vs ++ w ∷ []) w.trans) ≡ true
    go true rest = refl
    go false rest = rest

-- ---- who does not wait

-- of a live part of which no call waits no file call of its transaction does
none_on : (server epoch given drawn : ℕ) (sizes : Sizes) (lives : LiveMap) (client : ℕ) (t : TransId) (l : Live) (ws : List WaitingCall) → map.get lives t ≡ Some l → l.client ≡ client → has_waiting client t ws ≡ false
    → AllByRecursion (IsWaitingCall server epoch given drawn sizes lives) ws → AreOthers t ws
none_on server epoch given drawn sizes lives client t l [] live own idle h = tt
none_on server epoch given drawn sizes lives client t l (w ∷ ws) live own idle h =
    (go (is_file_on t w) refl, none_on server epoch given drawn sizes lives client t l ws live own (right (is_of client t w) (has_waiting client t ws) idle) h.1)
  where
    left : (a b : Bool) → (a || b) ≡ false → a ≡ false
    left true b e = let wrong : true ≡ false = e in cc
    left false b e = refl

    right : (a b : Bool) → (a || b) ≡ false → b ≡ false
    right true b e = let wrong : true ≡ false = e in cc
    right false b e = e

    go : (b : Bool) → is_file_on t w ≡ b → b ≡ false
    go false e = refl
    go true e =
        let there : map.get lives w.trans ≡ Some l = ap (map.get lives) (file_at t w e) ∙ live in
        let its : w.client ≡ client = owned_of server epoch given drawn sizes lives w h.0 l there (file_counts t w e) ∙ own in
        let of : is_of client t w ≡ true = (λ i. eq-eqb w.client client its i && and_right (is_some w.counts) (same_trans w.trans t) e i) in
        let wrong : true ≡ false = sym of ∙ left (is_of client t w) (has_waiting client t ws) idle in
        cc

pub none_waiting : (server epoch given drawn : ℕ) (sizes : Sizes) (lives : LiveMap) (client : ℕ) (t : TransId) (l : Live) (ws : List WaitingCall) → map.get lives t ≡ Some l → l.client ≡ client → has_waiting client t ws ≡ false
    → AllByRecursion (IsWaitingCall server epoch given drawn sizes lives) ws → HasNoCall client t ws
none_waiting server epoch given drawn sizes lives client t l ws live own idle h = record { others = none_on server epoch given drawn sizes lives client t l ws live own idle h; idle = idle }

pub asks_none : (t : TransId) (ws : List WaitingCall) → AreOthers t ws → asks_for ws t ≡ false
asks_none t [] h = refl
asks_none t (w ∷ ws) h = λ i. (h.0 i && not w.is_granted) || asks_none t ws h.1 i

-- who has no call that asks does not wait in the table
pub idle_in : (server epoch given : ℕ) (lives : LiveMap) (ws : List WaitingCall) (t : TransId) (queue : List Waiter) → asks_for ws t ≡ false → AllByRecursion (IsOfCalls server epoch given lives ws) queue → waits queue t ≡ false
idle_in server epoch given lives ws t [] none h = refl
idle_in server epoch given lives ws t (x ∷ xs) none h = go (is_waiter_of t x) refl (idle_in server epoch given lives ws t xs none h.1)
  where
    go : (b : Bool) → is_waiter_of t x ≡ b → waits xs t ≡ false → (b || waits xs t) ≡ false
    go false e rest = rest
    go true e rest =
        let is : same_trans t x.trans ≡ true = sym (tied_same t x.trans) ∙ e in
        let wrong : false ≡ true = sym none ∙ ap (asks_for ws) (same_trans-true t x.trans is) ∙ h.0.asks in
        cc

-- ---- a walk along the calls that marks those of a transaction

marked : (t : TransId) (ws : List WaitingCall) (i : ℕ) (x : WaitingCall) → i < length ws → x ≡ get_or (grant_of t (take i ws) ++ drop i ws) i x
    → slice_set (grant_of t (take i ws) ++ drop i ws) i (grant_one t x) ≡ grant_of t (take (suc i) ws) ++ drop (suc i) ws
marked t [] zero x lt is = absurd (omega (arith, lt))
marked t [] (suc i) x lt is = absurd (omega (arith, lt))
marked t (w ∷ ws) zero x lt is = ap (λ (v : WaitingCall). grant_one t v ∷ ws) is
marked t (w ∷ ws) (suc i) x lt is = ap (λ (vs : List WaitingCall). grant_one t w ∷ vs) (marked t ws i x (omega (arith, lt)) is)

passed : (t : TransId) (ws : List WaitingCall) (i : ℕ) (x : WaitingCall) → i < length ws → x ≡ get_or (grant_of t (take i ws) ++ drop i ws) i x → grant_one t x ≡ x
    → grant_of t (take i ws) ++ drop i ws ≡ grant_of t (take (suc i) ws) ++ drop (suc i) ws
passed t [] zero x lt is same = absurd (omega (arith, lt))
passed t [] (suc i) x lt is same = absurd (omega (arith, lt))
passed t (w ∷ ws) zero x lt is same = ap (λ (v : WaitingCall). v ∷ ws) (sym is ∙ sym same ∙ ap (grant_one t) is)
passed t (w ∷ ws) (suc i) x lt is same = ap (λ (vs : List WaitingCall). grant_one t w ∷ vs) (passed t ws i x (omega (arith, lt)) is same)

-- what is put back changes nothing
set_itself : (ws : List WaitingCall) (i : ℕ) (x : WaitingCall) → slice_set ws i (get_or ws i x) ≡ ws
set_itself [] zero x = refl
set_itself [] (suc i) x = refl
set_itself (w ∷ ws) zero x = refl
set_itself (w ∷ ws) (suc i) x = ap (λ (vs : List WaitingCall). w ∷ vs) (set_itself ws i x)

module _ (t : TransId) (ws items now : List WaitingCall) (i : ℕ) (x : WaitingCall) (lt : i < length ws) (before : items ≡ grant_of t (take i ws) ++ drop i ws) (is : x ≡ get_or items i x) where
  abbrev then_marked : ℕ → List WaitingCall
  then_marked n = grant_of t (take n ws) ++ drop n ws

  one : suc i ≡ i + 1
  one = omega arith

  pub marked_step : is_file_on t x ≡ true → now ≡ slice_set items i (record x { is_granted = true }) → now ≡ then_marked (i + 1)
  marked_step same so =
      so
      ∙ ap (λ (vs : List WaitingCall). slice_set vs i (record x { is_granted = true })) before
      ∙ ap (λ (b : Bool). slice_set (then_marked i) i (cond {A = WaitingCall} b (record x { is_granted = true }) x)) (sym same)
      ∙ marked t ws i x lt (is ∙ ap (λ (vs : List WaitingCall). get_or vs i x) before)
      ∙ ap then_marked one

  pub passed_step : is_file_on t x ≡ false → now ≡ slice_set items i (get_or items i x) → now ≡ then_marked (i + 1)
  passed_step other so =
      so
      ∙ set_itself items i x
      ∙ before
      ∙ passed t ws i x lt (is ∙ ap (λ (vs : List WaitingCall). get_or vs i x) before) (ap (λ (b : Bool). cond {A = WaitingCall} b (record x { is_granted = true }) x) other)
      ∙ ap then_marked one

-- ---- all that waits, where the server goes on

-- the part of a file call was live before, and is like that
abbrev pub IsLikeThen : (lives now : LiveMap) → WaitingCall → Type 0
IsLikeThen lives now w = (z : LockCounts) → w.counts ≡ Some z → (l : Live) → map.get now w.trans ≡ Some l → (x : Live) × (map.get lives w.trans ≡ Some x) × IsLikePart x l

module _ (server epoch m n : ℕ) (more : m ≤ n) (drawn : ℕ) (sizes : Sizes) (lives now : LiveMap) (ws : List WaitingCall) (queue : List Waiter) where
  -- each part of a file call was live before and counted as many cells, and none that waits has gone
  pub waiting_parts : AllByRecursion (IsLikeThen lives now) ws
      → ((t : TransId) → is_some (map.get lives t) ≡ true → is_some (map.get now t) ≡ true)
      → AreWaiting server epoch m drawn sizes lives ws queue → AreWaiting server epoch n drawn sizes now ws queue
  waiting_parts was stays_live h = record {
    calls = each-both (IsLikeThen lives now) (IsWaitingCall server epoch m drawn sizes lives) (IsWaitingCall server epoch n drawn sizes now)
        (λ w from o. call_later server epoch m n more sizes drawn drawn (le_refl drawn) lives now w (λ z counted q l is. from z counted l is) o) ws was h.calls;
    apart = h.apart;
    queued = each-more (IsOfCalls server epoch m lives ws) (IsOfCalls server epoch n now ws) (λ x o. record { live = stays_live x.trans o.live; asks = o.asks; beyond = here_later server epoch m n more (map.get x.after) o.beyond }) queue h.queued;
  }

all_like : (lives : LiveMap) (ws : List WaitingCall) → AllByRecursion (IsLikeThen lives lives) ws
all_like lives [] = tt
all_like lives (w ∷ ws) = ((λ z counted l is. (l, is, like_itself l)), all_like lives ws)

-- more files were made
pub waiting_later : (server epoch m n : ℕ) → m ≤ n → (drawn : ℕ) (sizes : Sizes) (lives : LiveMap) (ws : List WaitingCall) (queue : List Waiter) → AreWaiting server epoch m drawn sizes lives ws queue → AreWaiting server epoch n drawn sizes lives ws queue
waiting_later server epoch m n more drawn sizes lives ws queue h = waiting_parts server epoch m n more drawn sizes lives lives ws queue (all_like lives ws) (λ t live. live) h

-- each call is one of its transaction
-- a file call is no Finish
pub file_current : (epoch : ℕ) (t : TransId) (c : Call) → file_trans c ≡ Some t → IsCurrent epoch c
file_current epoch t (call.Finish u commit) named = let wrong : None ≡ Some t = named in cc
file_current epoch t c named = tt

pub named_all : (server epoch given drawn : ℕ) (sizes : Sizes) (lives : LiveMap) (ws : List WaitingCall) → AllByRecursion (IsWaitingCall server epoch given drawn sizes lives) ws → AreNamed ws
named_all server epoch given drawn sizes lives ws h = each-more (IsWaitingCall server epoch given drawn sizes lives) IsNamed (λ w o. o.named) ws h

-- where none is of the transaction nothing is asked of its part
pub not_like : (t : TransId) (l now : Live) (ws : List WaitingCall) → AreOthers t ws → AllByRecursion (λ (w : WaitingCall). is_file_on t w ≡ true → IsLikePart l now) ws
not_like t l now [] away = tt
not_like t l now (w ∷ ws) away = ((λ e. let wrong : false ≡ true = sym away.0 ∙ e in cc), not_like t l now ws away.1)

-- and an id of the server beyond the count has none
pub none_newer : (server epoch given drawn : ℕ) (sizes : Sizes) (lives : LiveMap) (t : TransId) (ws : List WaitingCall) → t.server ≡ server → drawn < t.counter → AllByRecursion (IsWaitingCall server epoch given drawn sizes lives) ws → AreOthers t ws
none_newer server epoch given drawn sizes lives t [] own high h = tt
none_newer server epoch given drawn sizes lives t (w ∷ ws) own high h = (go (is_file_on t w) refl, none_newer server epoch given drawn sizes lives t ws own high h.1)
  where
    go : (b : Bool) → is_file_on t w ≡ b → b ≡ false
    go false e = refl
    go true e =
        let n = counts_there w.counts (file_counts t w e) in
        let counter : w.trans.counter ≡ t.counter = ap (λ (u : TransId). u.counter) (file_at t w e) in
        let low : w.trans.counter ≤ drawn = (h.0.file n.0 n.1).begun (ap (λ (u : TransId). u.server) (file_at t w e) ∙ own) in
        absurd (omega (arith, counter, low, high))
