-- the table walks its requests as the journal walks the calls that wait
use Rattle.std.specs.Prelude.{cond, is_none, Bool, true, false, Option, None, Some, map as list_map}
use Rattle.std.specs.List.{AllByRecursion}
use Rattle.std.proofs.Common.{◌≡◌, ◌⊎◌, inl, inr, List, [], ◌∷◌, ◌++◌, refl, sym, ◌∙◌, ap, subst}
use Rattle.std.proofs.lemmas.List.{append-nil, append_assoc}
use Rattle.alp_base.specs.declared.ids.TransId.{TransId}
use Rattle.alp_files.specs.declared.call.Call.{Call}
use Rattle.alp_queue.specs.Order.{is_of}
use Rattle.alp_queue.specs.declared.waiter.Waiter.{Waiter}
use Rattle.alp_locks.specs.Tables.{Holders, Table, IsAgreeing}
use Rattle.alp_locks.specs.Asks.{blocker}
use Rattle.alp_locks.specs.Releases.{is_free, with_woken, with_kept, walked}
use Rattle.alp_locks.proofs.FreeLemmas.{turned, granted-agrees, insert-agreeing}
use Rattle.alp_journal.specs.Holder.{Holder, Life, grants}
use Rattle.alp_journal.proofs.IdLemmas.{same_trans-itself}
use Rattle.alp_journal.specs.Desk.{Waiting, file_trans, is_of as is_of_trans, grant_in}
use Rattle.alp_journal.specs.Laws.{IsFree}
use Rattle.alp_journal.specs.Answered.{IsWalk, IsWaitingFor}
use Rattle.alp_turns.specs.Queues.{AreHeldAlike, IsOnOther, AreCallsApart, request_for, request_at, requests_of}
use Rattle.alp_turns.specs.Laws.{trans_in}
use Rattle.alp_journal.specs.Account.{holder_granted, waits_granted}
use Rattle.alp_turns.proofs.RequestLemmas.{Asking, asking, request, free_so, free_there, with_grant, parts_with, alike_with, requests_kept, request_marked, requests_other, unmarked}

-- a waiting call where these were granted
abbrev pub mark_along : List (TransId × Call) → Waiting → Waiting
mark_along [] w = w
mark_along (g ∷ gs) w = mark_along gs (grant_in g.0 w)

pub marks_each : (gs : List (TransId × Call)) (w : Waiting) (ws : List Waiting) → waits_granted (w ∷ ws) gs ≡ mark_along gs w ∷ waits_granted ws gs
marks_each [] w ws = refl
marks_each (g ∷ gs) w ws = marks_each gs (grant_in g.0 w) (list_map (grant_in g.0) ws)

pub marks_none : (gs : List (TransId × Call)) → waits_granted [] gs ≡ []
marks_none [] = refl
marks_none (g ∷ gs) = marks_none gs

-- the requests behind those grants, one by one
requests_each : (kept : List Waiter) (h : Holder) (parts : Holders) (gs : List (TransId × Call)) (w : Waiting) (ws : List Waiting)
    → kept ++ (request_at h parts (mark_along gs w) (file_trans (mark_along gs w).call) ++ requests_of h parts (waits_granted ws gs)) ≡ kept ++ requests_of h parts (waits_granted (w ∷ ws) gs)
requests_each kept h parts gs w ws = ap (λ (vs : List Waiting). kept ++ requests_of h parts vs) (sym (marks_each gs w ws))

-- these requests are of other transactions than those
abbrev pub AreOther : List Waiter → List Waiter → Type 0
AreOther qs rs = AllByRecursion (λ (q : Waiter). AllByRecursion (λ (r : Waiter). is_of q.trans r ≡ false) rs) qs

-- one request alone, before others
one_other : (q : Waiter) (rs : List Waiter) → AllByRecursion (λ (r : Waiter). is_of q.trans r ≡ false) rs → (v : Waiter) → AreOther (v ∷ []) (q ∷ rs) → AreOther (v ∷ []) rs
one_other q rs a v o = (o.0.1, tt)

each_head : (qs : List Waiter) (q : Waiter) (rs : List Waiter) → AreOther qs (q ∷ rs) → AllByRecursion (λ v. is_of q.trans v ≡ false) qs × AreOther qs rs
each_head [] q rs o = (tt, tt)
each_head (v ∷ qs) q rs o = let rest = each_head qs q rs o.1 in ((turned v.trans q.trans false o.0.0, rest.0), (o.0.1, rest.1))

-- a grant is for one of these calls
abbrev pub IsCallOf : List Waiting → TransId × Call → Type 0
IsCallOf [] g = ⊥
IsCallOf (w ∷ ws) g = ((file_trans w.call ≡ Some g.0) × (g.1 ≡ w.call)) ⊎ IsCallOf ws g

calls_more : (w : Waiting) (ws : List Waiting) (gs : List (TransId × Call)) → AllByRecursion (IsCallOf ws) gs → AllByRecursion (IsCallOf (w ∷ ws)) gs
calls_more w ws [] all = tt
calls_more w ws (g ∷ gs) all = (inr all.0, calls_more w ws gs all.1)

-- behind the walk over these calls, with these waiters kept before and these transactions woken before
pub record IsWalkedAlike (h : Holder) (parts : Holders) (ws : List Waiting) (kept : List Waiter) (woken : List TransId) (after : Table) : Type 0 where
  pub given : List (TransId × Call)
  pub walk : IsWalk h ws (trans_in given)
  pub calls : AllByRecursion (IsCallOf ws) given
  pub awake : after.woken ≡ woken ++ trans_in given
  pub alike : AreHeldAlike (holder_granted h given) after.held
  pub queue : after.waiting ≡ kept ++ requests_of (holder_granted h given) after.held (waits_granted ws given)
  pub others : (v : Waiting) → AreOther (request_at h parts v (file_trans v.call)) (requests_of h parts ws)
      → request_at (holder_granted h given) after.held (mark_along given v) (file_trans (mark_along given v).call) ≡ request_at h parts v (file_trans v.call)

-- what is shown of the walk over these calls, from wherever it begins
abbrev pub WalksAlike : List Waiting → Type 0
WalksAlike ws = (h : Holder) (parts : Holders) (kept : List Waiter) (woken : List TransId) → AreHeldAlike h parts → IsAgreeing parts → AreCallsApart ws
    → IsWalkedAlike h parts ws kept woken (walked (record { held = parts; waiting = kept; woken = woken }) (requests_of h parts ws))

-- ---- a call before these

module _ (w : Waiting) (ws : List Waiting) (on : WalksAlike ws) (h : Holder) (parts : Holders) (kept : List Waiter) (woken : List TransId) (alike : AreHeldAlike h parts) (agreeing : IsAgreeing parts) (apart : AreCallsApart (w ∷ ws)) where
  abbrev start : Table
  start = record { held = parts; waiting = kept; woken = woken }

  abbrev Goal : List Waiter → Type 0
  Goal qs = IsWalkedAlike h parts (w ∷ ws) kept woken (walked start (qs ++ requests_of h parts ws))

  -- it asks for nothing
  skipped : request_at h parts w (file_trans w.call) ≡ [] → ((t : TransId) (l : Life) → IsWaitingFor h w t l → ⊥) → Goal []
  skipped none never = go (on h parts kept woken alike agreeing apart.1)
    where
      go : IsWalkedAlike h parts ws kept woken (walked start (requests_of h parts ws)) → Goal []
      go r = record {
        given = r.given;
        walk = IsWalk.passes h w ws (trans_in r.given) (λ t l for free. never t l for) r.walk;
        calls = calls_more w ws r.given r.calls;
        awake = r.awake;
        alike = r.alike;
        queue = r.queue
            ∙ ap (λ (qs : List Waiter). kept ++ (qs ++ requests_of (holder_granted h r.given) (walked start (requests_of h parts ws)).held (waits_granted ws r.given)))
            (sym (r.others w (subst (λ (qs : List Waiter). AreOther qs (requests_of h parts ws)) (sym none) tt) ∙ none))
            ∙ requests_each kept (holder_granted h r.given) (walked start (requests_of h parts ws)).held r.given w ws;
        others = λ v o. r.others v (subst (λ (qs : List Waiter). AreOther (request_at h parts v (file_trans v.call)) (qs ++ requests_of h parts ws)) none o);
      }

  module _ (t : TransId) (l : Life) (for : IsWaitingFor h w t l) (is : request_at h parts w (file_trans w.call) ≡ request h parts t l w.call ∷ []) where
    abbrev q : Waiter
    q = request h parts t l w.call

    calls_other : AllByRecursion (IsOnOther (Some t)) ws
    calls_other = subst (λ (x : Option TransId). AllByRecursion (IsOnOther x) ws) for.call apart.0

    others_apart : AllByRecursion (λ v. is_of t v ≡ false) (requests_of h parts ws)
    others_apart = requests_other h parts t ws calls_other

    beside : (v : Waiting) → AreOther (request_at h parts v (file_trans v.call)) (request_at h parts w (file_trans w.call) ++ requests_of h parts ws)
        → AllByRecursion (λ x. is_of t x ≡ false) (request_at h parts v (file_trans v.call)) × AreOther (request_at h parts v (file_trans v.call)) (requests_of h parts ws)
    beside v o = each_head (request_at h parts v (file_trans v.call)) q (requests_of h parts ws) (subst (λ (qs : List Waiter). AreOther (request_at h parts v (file_trans v.call)) (qs ++ requests_of h parts ws)) is o)

    -- another is in its way
    some_trans : (x y : TransId) → Some x ≡ Some y → x ≡ y
    some_trans x y e = cc

    some_life : (x y : Life) → Some x ≡ Some y → x ≡ y
    some_life x y e = cc

    stuck : is_free parts q ≡ false → (u : TransId) (k : Life) → IsWaitingFor h w u k → IsFree h u k w.call → ⊥
    stuck blocked u k fits free =
        let same : t ≡ u = some_trans t u (sym for.call ∙ fits.call) in
        let one : l ≡ k = some_life l k (sym for.live ∙ ap h.lives same ∙ fits.live) in
        let wrong : true ≡ false = sym (free_there h parts t l w.call alike for.live (subst (λ (x : TransId). IsFree h x l w.call) (sym same) (subst (λ (y : Life). IsFree h u y w.call) (sym one) free))) ∙ blocked in
        cc

    passed : is_free parts q ≡ false → (after : Table) → IsWalkedAlike h parts ws (kept ++ q ∷ []) woken after → IsWalkedAlike h parts (w ∷ ws) kept woken after
    passed blocked after r = record {
      given = r.given;
      walk = IsWalk.passes h w ws (trans_in r.given) (stuck blocked) r.walk;
      calls = calls_more w ws r.given r.calls;
      awake = r.awake;
      alike = r.alike;
      queue = r.queue ∙ append_assoc kept (q ∷ []) (requests_of (holder_granted h r.given) after.held (waits_granted ws r.given))
          ∙ ap (λ (qs : List Waiter). kept ++ (qs ++ requests_of (holder_granted h r.given) after.held (waits_granted ws r.given)))
          (sym (r.others w (subst (λ (qs : List Waiter). AreOther qs (requests_of h parts ws)) (sym is) (others_apart, tt)) ∙ is))
          ∙ requests_each kept (holder_granted h r.given) after.held r.given w ws;
      others = λ v o. r.others v (beside v o).1;
    }

    -- nobody is
    abbrev with_it : Holder
    with_it = with_grant h parts t l w.call

    abbrev holders_then : Holders
    holders_then = parts_with h parts t l w.call

    none_of : (u : TransId) (z : Option Life) → request_for with_it holders_then (record w { is_granted = true }) u z ≡ []
    none_of u None = refl
    none_of u (Some k) = refl

    -- it is granted, and asks for nothing any more
    marked : request_at with_it holders_then (grant_in t w) (file_trans (grant_in t w).call) ≡ []
    marked =
        ap (λ (b : Bool). request_at with_it holders_then (cond {A = Waiting} b (record w { is_granted = true }) w) (file_trans (cond {A = Waiting} b (record w { is_granted = true }) w).call)) (ap (is_of_trans t) for.call ∙ same_trans-itself t)
        ∙ ap (request_at with_it holders_then (record w { is_granted = true })) for.call ∙ none_of t (with_it.lives t)

    none_is : (o : Option TransId) → is_none o ≡ true → o ≡ None
    none_is None e = refl
    none_is (Some x) e = cc

    agreeing_then : is_free parts q ≡ true → IsAgreeing holders_then
    agreeing_then free = insert-agreeing parts t q.after agreeing (granted-agrees parts t q.after agreeing (none_is (blocker parts t q.rises) free))

    -- the walk goes on where it is granted
    abbrev table_then : Table
    table_then = record { held = holders_then; waiting = kept; woken = woken ++ t ∷ [] }

    -- what the holder is in which the grant is told
    abbrev told : Option Life → Holder
    told z = grants h t w.call z

    others_then : requests_of with_it holders_then ws ≡ requests_of h parts ws → (v : Waiting)
        → AllByRecursion (λ x. is_of t x ≡ false) (request_at h parts v (file_trans v.call)) × AreOther (request_at h parts v (file_trans v.call)) (requests_of h parts ws)
        → AreOther (request_at with_it holders_then (grant_in t v) (file_trans (grant_in t v).call)) (requests_of with_it holders_then ws)
    others_then same v o =
        subst (AreOther (request_at with_it holders_then (grant_in t v) (file_trans (grant_in t v).call))) (sym same)
        (subst (λ (qs : List Waiter). AreOther qs (requests_of h parts ws)) (sym (request_marked h parts t l w.call for.live v o.0)) o.1)

    first : is_free parts q ≡ true → (after : Table) → IsWalkedAlike with_it holders_then ws kept (woken ++ t ∷ []) after → requests_of with_it holders_then ws ≡ requests_of h parts ws
        → IsWalkedAlike h parts (w ∷ ws) kept woken after
    first free after r same = record {
      given = (t, w.call) ∷ r.given;
      walk = IsWalk.takes h w ws (trans_in r.given) t l for (free_so h parts t l w.call alike agreeing for.live free) (subst (λ (z : Option Life). IsWalk (told z) ws (trans_in r.given)) (sym for.live) r.walk);
      calls = (inl (for.call, refl), calls_more w ws r.given r.calls);
      awake = r.awake ∙ append_assoc woken (t ∷ []) (trans_in r.given);
      alike = subst (λ (z : Option Life). AreHeldAlike (holder_granted (told z) r.given) after.held) (sym for.live) r.alike;
      queue = r.queue
          ∙ ap (λ (qs : List Waiter). kept ++ (qs ++ requests_of (holder_granted with_it r.given) after.held (waits_granted ws r.given)))
          (sym (r.others (grant_in t w) (subst (λ (qs : List Waiter). AreOther qs (requests_of with_it holders_then ws)) (sym marked) tt) ∙ marked))
          ∙ requests_each kept (holder_granted with_it r.given) after.held r.given (grant_in t w) ws
          ∙ ap (λ (vs : List Waiting). kept ++ requests_of (holder_granted with_it r.given) after.held (waits_granted (grant_in t w ∷ vs) r.given)) (sym (unmarked t ws calls_other))
          ∙ ap (λ (z : Option Life). kept ++ requests_of (holder_granted (told z) r.given) after.held (waits_granted (w ∷ ws) ((t, w.call) ∷ r.given))) (sym for.live);
      others = λ v o.
          ap (λ (z : Option Life). request_at (holder_granted (told z) r.given) after.held (mark_along r.given (grant_in t v)) (file_trans (mark_along r.given (grant_in t v)).call)) for.live
          ∙ r.others (grant_in t v) (others_then same v (beside v o)) ∙ request_marked h parts t l w.call for.live v (beside v o).0;
    }

    taken : is_free parts q ≡ true → IsWalkedAlike h parts (w ∷ ws) kept woken (walked table_then (requests_of h parts ws))
    taken free =
        let same : requests_of with_it holders_then ws ≡ requests_of h parts ws = requests_kept h parts t l w.call for.live ws others_apart in
        first free (walked table_then (requests_of h parts ws))
        (subst (λ (qs : List Waiter). IsWalkedAlike with_it holders_then ws kept (woken ++ t ∷ []) (walked table_then qs)) same
        (on with_it holders_then kept (woken ++ t ∷ []) (alike_with h parts t l w.call alike for.live) (agreeing_then free) apart.1)) same

    either : (b : Bool) → is_free parts q ≡ b → IsWalkedAlike h parts (w ∷ ws) kept woken (walked (cond b (with_woken start q) (with_kept start q)) (requests_of h parts ws))
    either true e = taken e
    either false e = passed e (walked (with_kept start q) (requests_of h parts ws)) (on h parts (kept ++ q ∷ []) woken alike agreeing apart.1)

  by_request : Asking h parts w → Goal (request_at h parts w (file_trans w.call))
  by_request (Asking.idle none never) = subst Goal (sym none) (skipped none never)
  by_request (Asking.asks t l for is) = subst Goal (sym is) (either t l for is (is_free parts (request h parts t l w.call)) refl)

pub walk_on : (ws : List Waiting) → WalksAlike ws
walk_on [] h parts kept woken alike agreeing apart = record {
  given = [];
  walk = IsWalk.ends h;
  calls = tt;
  awake = sym (append-nil woken);
  alike = alike;
  queue = sym (append-nil kept);
  others = λ v o. refl;
}
walk_on (w ∷ ws) h parts kept woken alike agreeing apart = by_request w ws (walk_on ws) h parts kept woken alike agreeing apart (asking h parts w)
