-- requests of waiting calls, where others are granted
use Rattle.std.specs.Prelude.{cond, Bool, true, false, not, ◌==◌, ◌&&◌, Option, None, Some, is_none, map as list_map}
use Rattle.std.specs.List.{AllByRecursion}
use Rattle.std.specs.Ordering.{eq_by_cmp}
use Rattle.std.specs.Cmp.{eq_by_cmp_equiv}
use Rattle.std.specs.FinMap as map
use Rattle.std.proofs.Common.{◌≡◌, List, [], ◌∷◌, ◌++◌, refl, sym, ◌∙◌, ap, subst, eq-eqb}
use Rattle.std.proofs.lemmas.Bool.{eqb-true}
use Rattle.alp_base.specs.declared.ids.TransId.{TransId}
use Rattle.alp_base.specs.declared.key.Resource.{Resource}
use Rattle.alp_base.specs.Orders.{trans_cmp, exact_transactions, transactions_total}
use Rattle.alp_modes.specs.declared.Mode.{Mode}
use Rattle.alp_files.specs.Holdings.{agree_held, join_held, held_by}
use Rattle.alp_files.proofs.HoldingLemmas.{agree-turned}
use Rattle.alp_files.specs.Locks.{Need}
use Rattle.alp_files.specs.declared.call.Call.{Call}
use Rattle.alp_queue.specs.Rises.{Held}
use Rattle.alp_queue.specs.Order.{is_of}
use Rattle.alp_queue.specs.declared.waiter.Waiter.{Waiter}
use Rattle.alp_locks.specs.Tables.{Holders, held_of, holding, IsAgreeing}
use Rattle.alp_locks.specs.Asks.{blocker, waiter_of}
use Rattle.alp_locks.specs.Releases.{is_free}
use Rattle.alp_locks.proofs.FreeLemmas.{granted-agrees, held-other, held-same}
use Rattle.alp_locks.proofs.HeldLemmas.{tied}
use Rattle.alp_locks.proofs.LawLemmas.{joined-holds}
use Rattle.alp_journal.specs.Ids.{same_trans}
use Rattle.alp_journal.proofs.IdLemmas.{same_trans-true, same_trans-itself}
use Rattle.alp_journal.specs.Holder.{Holder, Life, held_for, grants}
use Rattle.alp_journal.specs.Desk.{Waiting, file_trans, is_of as is_of_trans, grant_in}
use Rattle.alp_journal.specs.Counts.{request_in}
use Rattle.alp_journal.specs.Laws.{IsFree}
use Rattle.alp_journal.specs.Answered.{IsWaitingFor}
use Rattle.alp_turns.specs.Queues.{AreHeldAlike, IsOnOther, request_if, request_for, request_at, requests_of}
use Rattle.alp_turns.proofs.WayLemmas.{none_in_way}

-- ---- ids compare alike

pub tied_same : (t u : TransId) → eq_by_cmp trans_cmp t u ≡ same_trans t u
tied_same t u = go (eq_by_cmp trans_cmp t u) (same_trans t u) refl refl
  where
    go : (a b : Bool) → eq_by_cmp trans_cmp t u ≡ a → same_trans t u ≡ b → a ≡ b
    go true true p q = refl
    go false false p q = refl
    go true false p q =
        let one : t ≡ u = exact_transactions t u (tied (trans_cmp t u) p) in
        let wrong : true ≡ false = sym (ap (same_trans t) (sym one) ∙ same_trans-itself t) ∙ q in
        cc
    go false true p q =
        let one : t ≡ u = same_trans-true t u q in
        let wrong : true ≡ false = sym (ap (eq_by_cmp trans_cmp t) (sym one) ∙ (eq_by_cmp_equiv transactions_total).refl t) ∙ p in
        cc

-- ---- a request is free in the table just where it is in the journal

module _ (h : Holder) (parts : Holders) (t : TransId) (l : Life) (c : Call) where
  abbrev pub asked : List Need
  asked = request_in h c (Some l)

  abbrev pub request : Waiter
  request = waiter_of (held_of parts t) t asked

  -- what the part would hold is what the table would leave
  pub would_hold : AreHeldAlike h parts → h.lives t ≡ Some l → (r : Resource) → held_for h l c r ≡ map.get request.after r
  would_hold alike live r = ap (λ (x : Option Mode). join_held x (held_by asked r)) (alike.live t l live r) ∙ sym (joined-holds asked (held_of parts t) r)

  pub free_so : AreHeldAlike h parts → IsAgreeing parts → h.lives t ≡ Some l → is_free parts request ≡ true → IsFree h t l c
  free_so alike agreeing live free u k there away r =
      let apart : eq_by_cmp trans_cmp t u ≡ false = tied_same t u ∙ turned_away u t away in
      ap (λ (x : Option Mode). agree_held x (held_for h l c r)) (alike.live u k there r)
      ∙ ap (agree_held (holding parts u r)) (would_hold alike live r)
      ∙ agree-turned (holding parts u r) (map.get request.after r)
      ∙ granted-agrees parts t request.after agreeing (none_is (blocker parts t request.rises) free) u apart r
    where
      none_is : (o : Option TransId) → is_none o ≡ true → o ≡ None
      none_is None e = refl
      none_is (Some x) e = cc

      turned_away : (a b : TransId) → same_trans a b ≡ false → same_trans b a ≡ false
      turned_away a b e = sym (tied_same b a) ∙ (eq_by_cmp_equiv transactions_total).symm b a ∙ tied_same a b ∙ e

  pub free_there : AreHeldAlike h parts → h.lives t ≡ Some l → IsFree h t l c → is_free parts request ≡ true
  free_there alike live free = ap is_none (none_in_way parts t asked (λ u apart r. go u apart r (h.lives u) refl))
    where
      away : (u : TransId) → eq_by_cmp trans_cmp t u ≡ false → same_trans u t ≡ false
      away u apart = sym (tied_same u t) ∙ (eq_by_cmp_equiv transactions_total).symm u t ∙ apart

      go : (u : TransId) → eq_by_cmp trans_cmp t u ≡ false → (r : Resource) → (x : Option Life) → h.lives u ≡ x → agree_held (map.get request.after r) (holding parts u r) ≡ true
      go u apart r None none = ap (agree_held (map.get request.after r)) (alike.none u none r) ∙ agree-turned (map.get request.after r) None
      go u apart r (Some k) there =
          agree-turned (map.get request.after r) (holding parts u r)
          ∙ ap (agree_held (holding parts u r)) (sym (would_hold alike live r))
          ∙ ap (λ (x : Option Mode). agree_held x (held_for h l c r)) (sym (alike.live u k there r))
          ∙ free u k there (away u apart) r

  -- ---- with the grant

  abbrev pub with_grant : Holder
  with_grant = grants h t c (Some l)

  abbrev pub parts_with : Holders
  parts_with = map.insert parts t request.after

  some_is : (x y : Life) → Some x ≡ Some y → x ≡ y
  some_is x y e = cc

  some_none : (x : Life) → Some x ≡ None → ⊥
  some_none x e = cc

  -- each part holds what the table says
  pub alike_with : AreHeldAlike h parts → h.lives t ≡ Some l → AreHeldAlike with_grant parts_with
  alike_with alike live = record { live = λ u k there r. lives u k r (same_trans u t) refl there; none = λ u none r. nobody u r (same_trans u t) refl none }
    where
      lives : (u : TransId) (k : Life) (r : Resource) (b : Bool) → same_trans u t ≡ b → cond {A = Option Life} b (Some (record l { held = held_for h l c })) (h.lives u) ≡ Some k → k.held r ≡ holding parts_with u r
      lives u k r true e is =
          ap (λ (x : Life). x.held r) (sym (some_is (record l { held = held_for h l c }) k is)) ∙ would_hold alike live r ∙ ap (λ (x : Held). map.get x r) (sym (held-same parts t request.after u (tied_same u t ∙ e)))
      lives u k r false e is = alike.live u k is r ∙ ap (λ (x : Held). map.get x r) (sym (held-other parts t request.after u (tied_same u t ∙ e)))

      nobody : (u : TransId) (r : Resource) (b : Bool) → same_trans u t ≡ b → cond {A = Option Life} b (Some (record l { held = held_for h l c })) (h.lives u) ≡ None → holding parts_with u r ≡ None
      nobody u r true e is = absurd (some_none (record l { held = held_for h l c }) is)
      nobody u r false e is = ap (λ (x : Held). map.get x r) (held-other parts t request.after u (tied_same u t ∙ e)) ∙ alike.none u is r

  -- the requests of other transactions stay as they are
  pub request_kept : h.lives t ≡ Some l → (w : Waiting) (x : Option TransId) → AllByRecursion (λ v. is_of t v ≡ false) (request_at h parts w x) → request_at with_grant parts_with w x ≡ request_at h parts w x
  request_kept live w None apart = refl
  request_kept live w (Some u) apart = go (same_trans u t) refl
    where
      none_if : (b : Bool) (ns ms : List Need) → AllByRecursion (λ v. is_of t v ≡ false) (request_if b parts u ns) → same_trans u t ≡ true → request_if b parts_with u ms ≡ request_if b parts u ns
      none_if false ns ms a e = refl
      none_if true ns ms a e =
          let wrong : true ≡ false = sym (tied_same t u ∙ ap (same_trans t) (same_trans-true u t e) ∙ same_trans-itself t) ∙ a.0 in cc

      same : (z : Option Life) → same_trans u t ≡ false → request_for with_grant parts_with w u z ≡ request_for h parts w u z
      same None e = refl
      same (Some k) e = ap (λ (x : Held). cond {A = List Waiter} (not w.is_granted && w.client == k.client) (waiter_of x u (request_in h w.call (Some k)) ∷ []) []) (held-other parts t request.after u (tied_same u t ∙ e))

      go : (b : Bool) → same_trans u t ≡ b → request_for with_grant parts_with w u (cond {A = Option Life} b (Some (record l { held = held_for h l c })) (h.lives u)) ≡ request_for h parts w u (h.lives u)
      go false e = same (h.lives u) e
      go true e =
          let here : h.lives u ≡ Some l = ap h.lives (same_trans-true u t e) ∙ live in
          none_if (not w.is_granted && w.client == l.client) asked_there (request_in with_grant w.call (Some (record l { held = held_for h l c })))
          (subst (λ (z : Option Life). AllByRecursion (λ v. is_of t v ≡ false) (request_for h parts w u z)) here apart) e
          ∙ ap (request_for h parts w u) (sym here)
        where
          asked_there : List Need
          asked_there = request_in h w.call (Some l)

  pub requests_kept : h.lives t ≡ Some l → (ws : List Waiting) → AllByRecursion (λ v. is_of t v ≡ false) (requests_of h parts ws) → requests_of with_grant parts_with ws ≡ requests_of h parts ws
  requests_kept live [] apart = refl
  requests_kept live (w ∷ ws) apart =
      let both = each_parts (request_at h parts w (file_trans w.call)) (requests_of h parts ws) apart in
      ap (λ (qs : List Waiter). qs ++ requests_of with_grant parts_with ws) (request_kept live w (file_trans w.call) both.0) ∙ ap (λ (qs : List Waiter). request_at h parts w (file_trans w.call) ++ qs) (requests_kept live ws both.1)
    where
      each_parts : (xs ys : List Waiter) → AllByRecursion (λ v. is_of t v ≡ false) (xs ++ ys) → AllByRecursion (λ v. is_of t v ≡ false) xs × AllByRecursion (λ v. is_of t v ≡ false) ys
      each_parts [] ys a = (tt, a)
      each_parts (x ∷ xs) ys a = let rest = each_parts xs ys a.1 in ((a.0, rest.0), rest.1)

  -- and so do they with the mark of a grant
  pub request_marked : h.lives t ≡ Some l → (w : Waiting) → AllByRecursion (λ v. is_of t v ≡ false) (request_at h parts w (file_trans w.call))
      → request_at with_grant parts_with (grant_in t w) (file_trans (grant_in t w).call) ≡ request_at h parts w (file_trans w.call)
  request_marked live w apart = go (file_trans w.call) refl
    where
      none_if : (b : Bool) (u : TransId) (ns : List Need) → same_trans u t ≡ true → AllByRecursion (λ v. is_of t v ≡ false) (request_if b parts u ns) → [] ≡ request_if b parts u ns
      none_if false u ns e a = refl
      none_if true u ns e a = let wrong : true ≡ false = sym (tied_same t u ∙ ap (same_trans t) (same_trans-true u t e) ∙ same_trans-itself t) ∙ a.0 in cc

      none_for : (u : TransId) (z : Option Life) → same_trans u t ≡ true → AllByRecursion (λ v. is_of t v ≡ false) (request_for h parts w u z) → [] ≡ request_for h parts w u z
      none_for u None e a = refl
      none_for u (Some k) e a = none_if (not w.is_granted && w.client == k.client) u (request_in h w.call (Some k)) e a

      granted_none : (v : Waiting) (u : TransId) (z : Option Life) → request_for with_grant parts_with (record v { is_granted = true }) u z ≡ []
      granted_none v u None = refl
      granted_none v u (Some k) = refl

      marked : (u : TransId) (b : Bool) → same_trans u t ≡ b → file_trans w.call ≡ Some u
          → request_at with_grant parts_with (cond {A = Waiting} b (record w { is_granted = true }) w) (file_trans (cond {A = Waiting} b (record w { is_granted = true }) w).call) ≡ request_at h parts w (file_trans w.call)
      marked u false e is = request_kept live w (file_trans w.call) apart
      marked u true e is =
          ap (request_at with_grant parts_with (record w { is_granted = true })) is
          ∙ granted_none w u (with_grant.lives u)
          ∙ none_for u (h.lives u) e (subst (λ (x : Option TransId). AllByRecursion (λ v. is_of t v ≡ false) (request_at h parts w x)) is apart)
          ∙ ap (request_at h parts w) (sym is)

      go : (x : Option TransId) → file_trans w.call ≡ x → request_at with_grant parts_with (grant_in t w) (file_trans (grant_in t w).call) ≡ request_at h parts w (file_trans w.call)
      go None is = ap (λ (b : Bool). request_at with_grant parts_with (cond {A = Waiting} b (record w { is_granted = true }) w) (file_trans (cond {A = Waiting} b (record w { is_granted = true }) w).call)) (ap (is_of_trans t) is) ∙ request_kept live w (file_trans w.call) apart
      go (Some u) is =
          ap (λ (b : Bool). request_at with_grant parts_with (cond {A = Waiting} b (record w { is_granted = true }) w) (file_trans (cond {A = Waiting} b (record w { is_granted = true }) w).call)) (ap (is_of_trans t) is)
          ∙ marked u (same_trans u t) refl is

-- ---- whether a waiting call asks

pub data Asking (h : Holder) (parts : Holders) (w : Waiting) : Type 0 where
  idle : request_at h parts w (file_trans w.call) ≡ [] → ((t : TransId) (l : Life) → IsWaitingFor h w t l → ⊥) → Asking h parts w
  asks : (t : TransId) (l : Life) → IsWaitingFor h w t l → request_at h parts w (file_trans w.call) ≡ request h parts t l w.call ∷ [] → Asking h parts w

pub asking : (h : Holder) (parts : Holders) (w : Waiting) → Asking h parts w
asking h parts w = call (file_trans w.call) refl
  where
    some_trans : (t u : TransId) → Some t ≡ Some u → t ≡ u
    some_trans t u e = cc

    some_life : (k l : Life) → Some k ≡ Some l → k ≡ l
    some_life k l e = cc

    here : (t : TransId) → file_trans w.call ≡ Some t → (u : TransId) (k : Life) → IsWaitingFor h w u k → h.lives t ≡ Some k
    here t is u k for = ap h.lives (some_trans t u (sym is ∙ for.call)) ∙ for.live

    flags : (t : TransId) (l : Life) → file_trans w.call ≡ Some t → h.lives t ≡ Some l → (a b : Bool) → w.is_granted ≡ a → (w.client == l.client) ≡ b → Asking h parts w
    flags t l is live true b g c = Asking.idle
        (ap (request_at h parts w) is ∙ ap (request_for h parts w t) live ∙ ap (λ (x : Bool). request_if (not x && w.client == l.client) parts t (request_in h w.call (Some l))) g)
        (λ u k for. let wrong : true ≡ false = sym g ∙ for.ungranted in cc)
    flags t l is live false false g c = Asking.idle
        (ap (request_at h parts w) is ∙ ap (request_for h parts w t) live ∙ ap (λ (x : Bool). request_if (not x && w.client == l.client) parts t (request_in h w.call (Some l))) g
        ∙ ap (λ (x : Bool). request_if x parts t (request_in h w.call (Some l))) c)
        (λ u k for.
        let one : l ≡ k = some_life l k (sym live ∙ here t is u k for) in
        let wrong : true ≡ false = sym (eq-eqb w.client k.client for.its) ∙ ap (λ (x : Life). w.client == x.client) (sym one) ∙ c in cc)
    flags t l is live false true g c = Asking.asks t l (record { call = is; ungranted = g; live = live; its = eqb-true w.client l.client c })
        (ap (request_at h parts w) is ∙ ap (request_for h parts w t) live ∙ ap (λ (x : Bool). request_if (not x && w.client == l.client) parts t (request_in h w.call (Some l))) g
        ∙ ap (λ (x : Bool). request_if x parts t (request_in h w.call (Some l))) c)

    life : (t : TransId) → file_trans w.call ≡ Some t → (z : Option Life) → h.lives t ≡ z → Asking h parts w
    life t is None none = Asking.idle (ap (request_at h parts w) is ∙ ap (request_for h parts w t) none) (λ u k for. let wrong : None ≡ Some k = sym none ∙ here t is u k for in cc)
    life t is (Some l) live = flags t l is live w.is_granted (w.client == l.client) refl refl

    call : (x : Option TransId) → file_trans w.call ≡ x → Asking h parts w
    call None is = Asking.idle (ap (request_at h parts w) is) (λ u k for. let wrong : None ≡ Some u = sym is ∙ for.call in cc)
    call (Some t) is = life t is (h.lives t) refl

-- ---- requests of other transactions

-- what a call on another transaction asks is another's request
pub request_other : (h : Holder) (parts : Holders) (t : TransId) (w : Waiting) → IsOnOther (Some t) w → AllByRecursion (λ v. is_of t v ≡ false) (request_at h parts w (file_trans w.call))
request_other h parts t w other = call (file_trans w.call) (other t refl)
  where
    flag : (u : TransId) (b : Bool) (ns : List Need) → same_trans u t ≡ false → AllByRecursion (λ v. is_of t v ≡ false) (request_if b parts u ns)
    flag u false ns away = tt
    flag u true ns away = ((eq_by_cmp_equiv transactions_total).symm t u ∙ tied_same u t ∙ away, tt)

    life : (u : TransId) (z : Option Life) → same_trans u t ≡ false → AllByRecursion (λ v. is_of t v ≡ false) (request_for h parts w u z)
    life u None away = tt
    life u (Some k) away = flag u (not w.is_granted && w.client == k.client) (request_in h w.call (Some k)) away

    call : (x : Option TransId) → is_of_trans t x ≡ false → AllByRecursion (λ v. is_of t v ≡ false) (request_at h parts w x)
    call None away = tt
    call (Some u) away = life u (h.lives u) away

pub requests_other : (h : Holder) (parts : Holders) (t : TransId) (ws : List Waiting) → AllByRecursion (IsOnOther (Some t)) ws → AllByRecursion (λ v. is_of t v ≡ false) (requests_of h parts ws)
requests_other h parts t [] all = tt
requests_other h parts t (w ∷ ws) all = join (request_at h parts w (file_trans w.call)) (request_other h parts t w all.0) (requests_other h parts t ws all.1)
  where
    join : (xs : List Waiter) → AllByRecursion (λ v. is_of t v ≡ false) xs → AllByRecursion (λ v. is_of t v ≡ false) (requests_of h parts ws) → AllByRecursion (λ v. is_of t v ≡ false) (xs ++ requests_of h parts ws)
    join [] a b = b
    join (x ∷ xs) a b = (a.0, join xs a.1 b)

-- no mark of the grant stands on them
pub unmarked : (t : TransId) (ws : List Waiting) → AllByRecursion (IsOnOther (Some t)) ws → list_map (grant_in t) ws ≡ ws
unmarked t [] all = refl
unmarked t (w ∷ ws) all = ap (λ (b : Bool). cond {A = Waiting} b (record w { is_granted = true }) w ∷ list_map (grant_in t) ws) (all.0 t refl) ∙ ap (λ (vs : List Waiting). w ∷ vs) (unmarked t ws all.1)
