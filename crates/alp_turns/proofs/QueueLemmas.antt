-- the queue behind a walk is that of the waiting list behind it
use Rattle.std.specs.Prelude.{cond, Bool, true, false, not, Option, None, Some, IsSome, filter, find, map as list_map}
use Rattle.std.specs.List.{AllByRecursion}
use Rattle.std.proofs.Common.{◌≡◌, ◌⊎◌, inl, inr, List, [], ◌∷◌, ◌++◌, refl, sym, ◌∙◌, ap, subst}
use Rattle.std.proofs.lemmas.List.{append_assoc}
use Rattle.alp_base.specs.declared.ids.TransId.{TransId}
use Rattle.alp_files.specs.declared.call.Call.{Call}
use Rattle.alp_queue.specs.declared.waiter.Waiter.{Waiter}
use Rattle.alp_locks.specs.Tables.{Holders, Table}
use Rattle.alp_locks.specs.Releases.{walked}
use Rattle.alp_journal.specs.Ids.{same_trans}
use Rattle.alp_journal.specs.Holder.{Holder, Life, held_for, grants}
use Rattle.alp_journal.specs.Desk.{Waiting, file_trans, is_of as is_of_trans, grant_in}
use Rattle.std.specs.Cmp.{eq_by_cmp_equiv}
use Rattle.alp_base.specs.Orders.{transactions_total}
use Rattle.alp_journal.specs.Answered.{in_turn, is_conversion, is_conversion_of, IsWalk}
use Rattle.alp_turns.specs.Queues.{IsOnOther, AreCallsApart, request_at, requests_of, queue_of}
use Rattle.alp_turns.specs.Laws.{GivesOnAlike, WalksAlike, trans_in}
use Rattle.alp_journal.specs.Account.{holder_granted, waits_granted, granted_calls, call_on, with_its, is_on_trans}
use Rattle.alp_journal.specs.Moves.{call_of}
use Rattle.alp_journal.proofs.IdLemmas.{same_trans-itself, same_trans-true}
use Rattle.alp_turns.proofs.RequestLemmas.{tied_same, Asking, asking}
use Rattle.alp_turns.proofs.WalkLemmas.{mark_along, IsCallOf, IsWalkedAlike, walk_on, marks_each, marks_none}

-- ---- calls that stand in another order

other_turned : (w v : Waiting) → IsOnOther (file_trans w.call) v → IsOnOther (file_trans v.call) w
other_turned w v other t is = go (file_trans w.call) refl
  where
    turned : (a b : TransId) → same_trans a b ≡ false → same_trans b a ≡ false
    turned a b e = sym (tied_same b a) ∙ (eq_by_cmp_equiv transactions_total).symm b a ∙ tied_same a b ∙ e

    go : (x : Option TransId) → file_trans w.call ≡ x → is_of_trans t x ≡ false
    go None none = refl
    go (Some u) at = turned t u (sym (ap (is_of_trans u) is) ∙ other u at)

each_joined : {X : Type 0} (P : X → Type 0) (xs ys : List X) → AllByRecursion P xs → AllByRecursion P ys → AllByRecursion P (xs ++ ys)
each_joined P [] ys a b = b
each_joined P (x ∷ xs) ys a b = (a.0, each_joined P xs ys a.1 b)

each_left : {X : Type 0} (P : X → Type 0) (xs ys : List X) → AllByRecursion P (xs ++ ys) → AllByRecursion P xs × AllByRecursion P ys
each_left P [] ys a = (tt, a)
each_left P (x ∷ xs) ys a = let rest = each_left P xs ys a.1 in ((a.0, rest.0), rest.1)

each_kept : {X : Type 0} (P : X → Type 0) (p : X → Bool) (xs : List X) → AllByRecursion P xs → AllByRecursion P (filter p xs)
each_kept P p [] a = tt
each_kept P p (x ∷ xs) a = go (p x) (each_kept P p xs a.1)
  where
    go : (b : Bool) → AllByRecursion P (filter p xs) → AllByRecursion P (cond b (x ∷ filter p xs) (filter p xs))
    go true t = (a.0, t)
    go false t = t

-- one more may stand anywhere
put_in : (before bs : List Waiting) (w : Waiting) → AllByRecursion (IsOnOther (file_trans w.call)) (before ++ bs) → AreCallsApart (before ++ bs) → AreCallsApart (before ++ w ∷ bs)
put_in [] bs w others apart = (others, apart)
put_in (a ∷ before) bs w others apart =
    let parts = each_left (IsOnOther (file_trans a.call)) before bs apart.0 in
    (each_joined (IsOnOther (file_trans a.call)) before (w ∷ bs) parts.0 (other_turned w a others.0, parts.1), put_in before bs w others.1 apart.1)

-- some first and the others behind them
pub apart_sorted : (p : Waiting → Bool) (ws : List Waiting) → AreCallsApart ws → AreCallsApart (filter p ws ++ filter (λ w. not (p w)) ws)
apart_sorted p [] apart = tt
apart_sorted p (w ∷ ws) apart = go (p w) (apart_sorted p ws apart.1)
  where
    R : Waiting → Type 0
    R = IsOnOther (file_trans w.call)

    others : AllByRecursion R (filter p ws ++ filter (λ v. not (p v)) ws)
    others = each_joined R (filter p ws) (filter (λ v. not (p v)) ws) (each_kept R p ws apart.0) (each_kept R (λ v. not (p v)) ws apart.0)

    go : (b : Bool) → AreCallsApart (filter p ws ++ filter (λ v. not (p v)) ws) → AreCallsApart (cond b (w ∷ filter p ws) (filter p ws) ++ cond (not b) (w ∷ filter (λ v. not (p v)) ws) (filter (λ v. not (p v)) ws))
    go true rest = (others, rest)
    go false rest = put_in (filter p ws) (filter (λ v. not (p v)) ws) w others rest

-- ---- a list in turn, behind a walk

-- what is asked of calls that are picked, where they are changed alike whether before or behind
module _ (h then : Holder) (parts : Holders) (f : Waiting → Waiting) where
  abbrev asks_then : Waiting → List Waiter
  asks_then w = request_at then parts w (file_trans w.call)

  -- each asks nothing then, or is picked as it was before
  abbrev pub IsPickedAlike : Waiting → Type 0
  IsPickedAlike w = (asks_then (f w) ≡ []) ⊎ (is_conversion then (f w) (file_trans (f w).call) ≡ is_conversion h w (file_trans w.call))

  pub requests_joined : (xs ys : List Waiting) → requests_of then parts (xs ++ ys) ≡ requests_of then parts xs ++ requests_of then parts ys
  requests_joined [] ys = refl
  requests_joined (x ∷ xs) ys = ap (λ (qs : List Waiter). asks_then x ++ qs) (requests_joined xs ys) ∙ sym (append_assoc (asks_then x) (requests_of then parts xs) (requests_of then parts ys))

  picked_alike : (turn : Bool → Bool) (ws : List Waiting) → AllByRecursion IsPickedAlike ws
      → requests_of then parts (filter (λ v. turn (is_conversion then v (file_trans v.call))) (list_map f ws)) ≡ requests_of then parts (list_map f (filter (λ v. turn (is_conversion h v (file_trans v.call))) ws))
  picked_alike turn [] all = refl
  picked_alike turn (w ∷ ws) all = go all.0 (picked_alike turn ws all.1)
    where
      before : Bool
      before = turn (is_conversion h w (file_trans w.call))

      behind : Bool
      behind = turn (is_conversion then (f w) (file_trans (f w).call))

      xs : List Waiting
      xs = filter (λ v. turn (is_conversion then v (file_trans v.call))) (list_map f ws)

      ys : List Waiting
      ys = filter (λ v. turn (is_conversion h v (file_trans v.call))) ws

      none : (b c : Bool) → asks_then (f w) ≡ [] → requests_of then parts xs ≡ requests_of then parts (list_map f ys) → requests_of then parts (cond {A = List Waiting} b (f w ∷ xs) xs) ≡ requests_of then parts (list_map f (cond {A = List Waiting} c (w ∷ ys) ys))
      none true true e rest = (λ i. e i ++ rest i) ∙ ap (λ (qs : List Waiter). qs ++ requests_of then parts (list_map f ys)) (sym e)
      none true false e rest = ap (λ (qs : List Waiter). qs ++ requests_of then parts xs) e ∙ rest
      none false true e rest = rest ∙ ap (λ (qs : List Waiter). qs ++ requests_of then parts (list_map f ys)) (sym e)
      none false false e rest = rest

      same : (b : Bool) → requests_of then parts xs ≡ requests_of then parts (list_map f ys) → requests_of then parts (cond {A = List Waiting} b (f w ∷ xs) xs) ≡ requests_of then parts (list_map f (cond {A = List Waiting} b (w ∷ ys) ys))
      same true rest = ap (λ (qs : List Waiter). asks_then (f w) ++ qs) rest
      same false rest = rest

      go : IsPickedAlike w → requests_of then parts xs ≡ requests_of then parts (list_map f ys) → requests_of then parts (cond {A = List Waiting} behind (f w ∷ xs) xs) ≡ requests_of then parts (list_map f (cond {A = List Waiting} before (w ∷ ys) ys))
      go (inl e) rest = none behind before e rest
      go (inr e) rest = ap (λ (b : Bool). requests_of then parts (cond {A = List Waiting} b (f w ∷ xs) xs)) (ap turn e) ∙ same before rest

  map_joined : (xs ys : List Waiting) → list_map f (xs ++ ys) ≡ list_map f xs ++ list_map f ys
  map_joined [] ys = refl
  map_joined (x ∷ xs) ys = ap (λ (vs : List Waiting). f x ∷ vs) (map_joined xs ys)

  -- the queue is that of the list in the turn of before
  pub queue_alike : (ws : List Waiting) → AllByRecursion IsPickedAlike ws → queue_of then parts (list_map f ws) ≡ requests_of then parts (list_map f (in_turn h ws))
  queue_alike ws all =
      requests_joined (filter (λ v. is_conversion then v (file_trans v.call)) (list_map f ws)) (filter (λ v. not (is_conversion then v (file_trans v.call))) (list_map f ws))
      ∙ (λ i. picked_alike (λ b. b) ws all i ++ picked_alike not ws all i)
      ∙ sym (requests_joined (list_map f (filter (λ v. is_conversion h v (file_trans v.call)) ws)) (list_map f (filter (λ v. not (is_conversion h v (file_trans v.call))) ws)))
      ∙ ap (requests_of then parts) (sym (map_joined (filter (λ v. is_conversion h v (file_trans v.call)) ws) (filter (λ v. not (is_conversion h v (file_trans v.call))) ws)))

-- the marks stand on each
pub marks_map : (gs : List (TransId × Call)) (ws : List Waiting) → waits_granted ws gs ≡ list_map (mark_along gs) ws
marks_map gs [] = marks_none gs
marks_map gs (w ∷ ws) = marks_each gs w ws ∙ ap (λ (vs : List Waiting). mark_along gs w ∷ vs) (marks_map gs ws)

-- ---- grants leave the turn of those who wait on

still_marked : (gs : List (TransId × Call)) (w : Waiting) → w.is_granted ≡ true → (mark_along gs w).is_granted ≡ true
still_marked [] w e = e
still_marked (g ∷ gs) w e = still_marked gs (grant_in g.0 w) (go (is_of_trans g.0 (file_trans w.call)))
  where
    go : (b : Bool) → (cond {A = Waiting} b (record w { is_granted = true }) w).is_granted ≡ true
    go true = refl
    go false = e

-- whether another's call converts does not change with a grant
turn_kept : (h : Holder) (t : TransId) (c : Call) (w : Waiting) → is_of_trans t (file_trans w.call) ≡ false → is_conversion (grants h t c (h.lives t)) w (file_trans w.call) ≡ is_conversion h w (file_trans w.call)
turn_kept h t c w other = call (file_trans w.call) other (h.lives t)
  where
    same : (l : Life) (z : Option Life) → is_conversion_of (grants h t c (Some l)) w z ≡ is_conversion_of h w z
    same l None = refl
    same l (Some k) = refl

    call : (x : Option TransId) → is_of_trans t x ≡ false → (z : Option Life) → is_conversion (grants h t c z) w x ≡ is_conversion h w x
    call None other z = refl
    call (Some u) other None = refl
    call (Some u) other (Some l) = ap (λ (b : Bool). is_conversion_of (grants h t c (Some l)) w (cond {A = Option Life} b (Some (record l { held = held_for h l c })) (h.lives u))) other ∙ same l (h.lives u)

turns_kept : (gs : List (TransId × Call)) (h : Holder) (w : Waiting) → (mark_along gs w).is_granted ≡ false
    → is_conversion (holder_granted h gs) (mark_along gs w) (file_trans (mark_along gs w).call) ≡ is_conversion h w (file_trans w.call)
turns_kept [] h w e = refl
turns_kept (g ∷ gs) h w e = go (is_of_trans g.0 (file_trans w.call)) refl e (turns_kept gs (grants h g.0 g.1 (h.lives g.0)) (grant_in g.0 w) e)
  where
    then : Holder
    then = holder_granted (grants h g.0 g.1 (h.lives g.0)) gs

    mark : Bool → Waiting
    mark b = cond {A = Waiting} b (record w { is_granted = true }) w

    go : (b : Bool) → is_of_trans g.0 (file_trans w.call) ≡ b → (mark_along gs (mark b)).is_granted ≡ false
        → is_conversion then (mark_along gs (mark b)) (file_trans (mark_along gs (mark b)).call) ≡ is_conversion (grants h g.0 g.1 (h.lives g.0)) (mark b) (file_trans (mark b).call)
        → is_conversion then (mark_along gs (mark b)) (file_trans (mark_along gs (mark b)).call) ≡ is_conversion h w (file_trans w.call)
    go true is f rest = let wrong : true ≡ false = sym (still_marked gs (record w { is_granted = true }) refl) ∙ f in cc
    go false is f rest = rest ∙ turn_kept h g.0 g.1 w is

picked_then : (gs : List (TransId × Call)) (h : Holder) (parts : Holders) (ws : List Waiting) → AllByRecursion (IsPickedAlike h (holder_granted h gs) parts (mark_along gs)) ws
picked_then gs h parts [] = tt
picked_then gs h parts (w ∷ ws) = (go (asking (holder_granted h gs) parts (mark_along gs w)), picked_then gs h parts ws)
  where
    go : Asking (holder_granted h gs) parts (mark_along gs w) → IsPickedAlike h (holder_granted h gs) parts (mark_along gs) w
    go (Asking.idle none never) = inl none
    go (Asking.asks t l for is) = inr (turns_kept gs h w for.ungranted)

-- ---- the call of a grant is the one that waits on its transaction

call_in_joined : (xs ys : List Waiting) (g : TransId × Call) → IsCallOf (xs ++ ys) g → IsCallOf xs g ⊎ IsCallOf ys g
call_in_joined [] ys g h = inr h
call_in_joined (x ∷ xs) ys g (inl h) = inl (inl h)
call_in_joined (x ∷ xs) ys g (inr h) = elim (call_in_joined xs ys g h) [ inl k ↦ inl (inr k) | inr k ↦ inr k ]

call_in_picked : (p : Waiting → Bool) (ws : List Waiting) (g : TransId × Call) → IsCallOf (filter p ws) g → IsCallOf ws g
call_in_picked p [] g h = h
call_in_picked p (w ∷ ws) g h = go (p w) h (call_in_picked p ws g)
  where
    go : (b : Bool) → IsCallOf (cond {A = List Waiting} b (w ∷ filter p ws) (filter p ws)) g → (IsCallOf (filter p ws) g → IsCallOf ws g) → IsCallOf (w ∷ ws) g
    go true (inl k) rest = inl k
    go true (inr k) rest = inr (rest k)
    go false k rest = inr (rest k)

other_call : (x : Option TransId) (ws : List Waiting) (g : TransId × Call) → AllByRecursion (IsOnOther x) ws → IsCallOf ws g → is_of_trans g.0 x ≡ false
other_call x [] g all h = absurd h
other_call None (w ∷ ws) g all h = refl
other_call (Some u) (w ∷ ws) g all (inl k) = sym (tied_same u g.0) ∙ (eq_by_cmp_equiv transactions_total).symm u g.0 ∙ tied_same g.0 u ∙ sym (ap (is_of_trans u) k.0) ∙ all.0 u refl
other_call (Some u) (w ∷ ws) g all (inr k) = other_call (Some u) ws g all.1 k

call_found : (ws : List Waiting) (g : TransId × Call) → AreCallsApart ws → IsCallOf ws g → call_on ws g.0 ≡ Some g.1
call_found [] g apart h = absurd h
call_found (w ∷ ws) g apart (inl k) = ap (λ (b : Bool). call_of (cond {A = Option Waiting} b (Some w) (find (is_on_trans g.0) ws))) (ap (is_of_trans g.0) k.0 ∙ same_trans-itself g.0) ∙ ap Some (sym k.1)
call_found (w ∷ ws) g apart (inr k) = ap (λ (b : Bool). call_of (cond {A = Option Waiting} b (Some w) (find (is_on_trans g.0) ws))) (other_call (file_trans w.call) ws g apart.0 k) ∙ call_found ws g apart.1 k

calls_found : (ws vs : List Waiting) (gs : List (TransId × Call)) → ((g : TransId × Call) → IsCallOf vs g → IsCallOf ws g) → AreCallsApart ws → AllByRecursion (IsCallOf vs) gs → granted_calls ws (trans_in gs) ≡ gs
calls_found ws vs [] more apart all = refl
calls_found ws vs (g ∷ gs) more apart all = (λ i. with_its g.0 (call_found ws g apart (more g all.0) i) ++ calls_found ws vs gs more apart all.1 i)

call_in_turn : (h : Holder) (ws : List Waiting) (g : TransId × Call) → IsCallOf (in_turn h ws) g → IsCallOf ws g
call_in_turn h ws g k =
    elim (call_in_joined (filter (λ w. is_conversion h w (file_trans w.call)) ws) (filter (λ w. not (is_conversion h w (file_trans w.call))) ws) g k)
    [ inl m ↦ call_in_picked (λ w. is_conversion h w (file_trans w.call)) ws g m | inr m ↦ call_in_picked (λ w. not (is_conversion h w (file_trans w.call))) ws g m ]

calls_each : (ws vs : List Waiting) (gs : List (TransId × Call)) → ((g : TransId × Call) → IsCallOf vs g → IsCallOf ws g) → AreCallsApart ws → AllByRecursion (IsCallOf vs) gs
    → AllByRecursion (λ (g : TransId × Call). call_on ws g.0 ≡ Some g.1) gs
calls_each ws vs [] more apart all = tt
calls_each ws vs (g ∷ gs) more apart all = (call_found ws g apart (more g all.0), calls_each ws vs gs more apart all.1)

-- ---- who is granted lives

still_lives : (h : Holder) (t : TransId) (c : Call) (l : Life) → h.lives t ≡ Some l → (ts : List TransId) → AllByRecursion (λ (u : TransId). IsSome ((grants h t c (h.lives t)).lives u)) ts → AllByRecursion (λ (u : TransId). IsSome (h.lives u)) ts
still_lives h t c l live [] all = tt
still_lives h t c l live (u ∷ us) all = (go (same_trans u t) refl (subst (λ (z : Option Life). IsSome ((grants h t c z).lives u)) live all.0), still_lives h t c l live us all.1)
  where
    go : (b : Bool) → same_trans u t ≡ b → IsSome (cond {A = Option Life} b (Some (record l { held = held_for h l c })) (h.lives u)) → IsSome (h.lives u)
    go true e some = subst (λ (z : Option Life). IsSome z) (sym (ap h.lives (same_trans-true u t e) ∙ live)) refl
    go false e some = some

all_live : (h : Holder) (ws : List Waiting) (ts : List TransId) → IsWalk h ws ts → AllByRecursion (λ (t : TransId). IsSome (h.lives t)) ts
all_live h ws ts (IsWalk.ends g) = tt
all_live h ws ts (IsWalk.passes g w vs us never rest) = all_live g vs us rest
all_live h ws ts (IsWalk.takes g w vs us t l for free rest) = (subst (λ (z : Option Life). IsSome z) (sym for.live) refl, still_lives g t w.call l for.live us (all_live (grants g t w.call (g.lives t)) vs us rest))

-- ---- the walk as a whole

pub gives_on : WalksAlike
gives_on h parts ws alike agreeing apart = go (walk_on (in_turn h ws) h parts [] [] alike agreeing (apart_sorted (λ w. is_conversion h w (file_trans w.call)) ws apart))
  where
    after : Table
    after = walked (record { held = parts; waiting = []; woken = [] }) (queue_of h parts ws)

    go : IsWalkedAlike h parts (in_turn h ws) [] [] after → GivesOnAlike h ws after
    go r = record {
      given = r.given;
      walk = r.walk;
      calls = calls_found ws (in_turn h ws) r.given (call_in_turn h ws) apart r.calls;
      called = calls_each ws (in_turn h ws) r.given (call_in_turn h ws) apart r.calls;
      living = all_live h (in_turn h ws) (trans_in r.given) r.walk;
      woken = r.awake;
      alike = r.alike;
      queue = r.queue ∙ ap (requests_of (holder_granted h r.given) after.held) (marks_map r.given (in_turn h ws))
          ∙ sym (queue_alike h (holder_granted h r.given) after.held (mark_along r.given) ws (picked_then r.given h after.held ws))
          ∙ ap (queue_of (holder_granted h r.given) after.held) (sym (marks_map r.given ws));
    }
