-- how the queue changes as parts and calls come and go
use Rattle.std.specs.Prelude.{cond, Bool, true, false, not, ◌&&◌, ◌||◌, ◌==◌, is_some, Option, None, Some, filter}
use Rattle.std.specs.List.{AllByRecursion, list_any}
use Rattle.std.specs.FinMap as map
use Rattle.std.specs.Cmp.{eq_by_cmp_equiv}
use Rattle.std.proofs.Common.{◌≡◌, inl, inr, List, [], ◌∷◌, ◌++◌, refl, sym, ◌∙◌, ap, subst}
use Rattle.std.proofs.lemmas.List.{append-nil, append_assoc, map-id}
use Rattle.alp_base.specs.declared.ids.TransId.{TransId}
use Rattle.alp_base.specs.Orders.{transactions_total}
use Rattle.alp_files.specs.Locks.{Need}
use Rattle.alp_queue.specs.Rises.{Held}
use Rattle.alp_queue.specs.Order.{placed, is_of, without as without_of}
use Rattle.alp_queue.specs.declared.waiter.Waiter.{Waiter}
use Rattle.alp_locks.specs.Tables.{Holders, held_of}
use Rattle.alp_locks.specs.Asks.{waiter_of}
use Rattle.alp_locks.proofs.SoundLemmas.{held-removed}
use Rattle.alp_journal.specs.Ids.{same_trans}
use Rattle.alp_journal.proofs.IdLemmas.{same_trans-true, same_trans-itself}
use Rattle.alp_journal.specs.Holder.{Holder, Life}
use Rattle.alp_journal.specs.Desk.{Waiting, file_trans, without}
use Rattle.alp_journal.specs.Counts.{request_in}
use Rattle.alp_journal.specs.Answered.{in_turn, is_conversion, is_conversion_of, rises_on, IsWaitingFor}
use Rattle.alp_turns.specs.Queues.{AreHeldAlike, request_if, request_for, request_at, requests_of, queue_of}
use Rattle.alp_turns.proofs.RiseLemmas.{converts_as}
use Rattle.alp_turns.proofs.RequestLemmas.{tied_same, request, Asking, asking}
use Rattle.alp_turns.proofs.QueueLemmas.{IsPickedAlike, queue_alike}

-- ---- what holds of each call holds of each in turn

each_passing : (P : Waiting → Type 0) (p : Waiting → Bool) (ws : List Waiting) → AllByRecursion P ws → AllByRecursion P (filter p ws)
each_passing P p [] all = tt
each_passing P p (w ∷ ws) all = go (p w) (each_passing P p ws all.1)
  where
    go : (b : Bool) → AllByRecursion P (filter p ws) → AllByRecursion P (cond b (w ∷ filter p ws) (filter p ws))
    go true rest = (all.0, rest)
    go false rest = rest

each_appended : (P : Waiting → Type 0) (xs ys : List Waiting) → AllByRecursion P xs → AllByRecursion P ys → AllByRecursion P (xs ++ ys)
each_appended P [] ys a b = b
each_appended P (x ∷ xs) ys a b = (a.0, each_appended P xs ys a.1 b)

pub each_in_turn : (P : Waiting → Type 0) (h : Holder) (ws : List Waiting) → AllByRecursion P ws → AllByRecursion P (in_turn h ws)
each_in_turn P h ws all =
    each_appended P (filter (λ w. is_conversion h w (file_trans w.call)) ws) (filter (λ w. not (is_conversion h w (file_trans w.call))) ws)
    (each_passing P (λ w. is_conversion h w (file_trans w.call)) ws all) (each_passing P (λ w. not (is_conversion h w (file_trans w.call))) ws all)

-- ---- another state in which each call asks what it asked

module _ (h then : Holder) (parts others : Holders) where
  -- the call asks the same in both
  abbrev pub AsksAlike : Waiting → Type 0
  AsksAlike w = request_at then others w (file_trans w.call) ≡ request_at h parts w (file_trans w.call)

  abbrev pub TurnsAlike : Waiting → Type 0
  TurnsAlike w = IsPickedAlike h then others (λ v. v) w

  requests_alike : (ws : List Waiting) → AllByRecursion AsksAlike ws → requests_of then others ws ≡ requests_of h parts ws
  requests_alike [] all = refl
  requests_alike (w ∷ ws) all = (λ i. all.0 i ++ requests_alike ws all.1 i)

  pub queue_kept : (ws : List Waiting) → AllByRecursion AsksAlike ws → AllByRecursion TurnsAlike ws → queue_of then others ws ≡ queue_of h parts ws
  queue_kept ws asks turns =
      ap (queue_of then others) (sym (map-id ws))
      ∙ queue_alike h then others (λ v. v) ws turns
      ∙ ap (requests_of then others) (map-id (in_turn h ws))
      ∙ requests_alike (in_turn h ws) (each_in_turn AsksAlike h ws asks)

-- ---- calls go that ask for nothing

module _ (h : Holder) (parts : Holders) (p : Waiting → Bool) where
  -- it stays, or asks for nothing
  abbrev pub GoesIdle : Waiting → Type 0
  GoesIdle w = p w ≡ true → request_at h parts w (file_trans w.call) ≡ []

  requests_without : (pick : Waiting → Bool) (ws : List Waiting) → AllByRecursion GoesIdle ws → requests_of h parts (filter pick (without p ws)) ≡ requests_of h parts (filter pick ws)
  requests_without pick [] all = refl
  requests_without pick (w ∷ ws) all = go (p w) refl (pick w) refl (requests_without pick ws all.1)
    where
      asked : List Waiter
      asked = request_at h parts w (file_trans w.call)

      stays : (b : Bool) → pick w ≡ b → requests_of h parts (filter pick (without p ws)) ≡ requests_of h parts (filter pick ws)
          → requests_of h parts (cond {A = List Waiting} (pick w) (w ∷ filter pick (without p ws)) (filter pick (without p ws))) ≡ requests_of h parts (cond {A = List Waiting} b (w ∷ filter pick ws) (filter pick ws))
      stays true e rest = ap (λ (b : Bool). requests_of h parts (cond {A = List Waiting} b (w ∷ filter pick (without p ws)) (filter pick (without p ws)))) e ∙ ap (λ (qs : List Waiter). asked ++ qs) rest
      stays false e rest = ap (λ (b : Bool). requests_of h parts (cond {A = List Waiting} b (w ∷ filter pick (without p ws)) (filter pick (without p ws)))) e ∙ rest

      goes : (b : Bool) → asked ≡ [] → requests_of h parts (filter pick (without p ws)) ≡ requests_of h parts (filter pick ws)
          → requests_of h parts (filter pick (without p ws)) ≡ requests_of h parts (cond {A = List Waiting} b (w ∷ filter pick ws) (filter pick ws))
      goes true none rest = rest ∙ ap (λ (qs : List Waiter). qs ++ requests_of h parts (filter pick ws)) (sym none)
      goes false none rest = rest

      go : (a : Bool) → p w ≡ a → (b : Bool) → pick w ≡ b → requests_of h parts (filter pick (without p ws)) ≡ requests_of h parts (filter pick ws)
          → requests_of h parts (filter pick (cond {A = List Waiting} (not a) (w ∷ without p ws) (without p ws))) ≡ requests_of h parts (cond {A = List Waiting} b (w ∷ filter pick ws) (filter pick ws))
      go true e b f rest = goes b (all.0 e) rest
      go false e b f rest = stays b f rest

  pub queue_without : (ws : List Waiting) → AllByRecursion GoesIdle ws → queue_of h parts (without p ws) ≡ queue_of h parts ws
  queue_without ws all =
      joined (filter (λ w. is_conversion h w (file_trans w.call)) (without p ws)) (filter (λ w. not (is_conversion h w (file_trans w.call))) (without p ws))
      ∙ (λ i. requests_without (λ w. is_conversion h w (file_trans w.call)) ws all i ++ requests_without (λ w. not (is_conversion h w (file_trans w.call))) ws all i)
      ∙ sym (joined (filter (λ w. is_conversion h w (file_trans w.call)) ws) (filter (λ w. not (is_conversion h w (file_trans w.call))) ws))
    where
      joined : (xs ys : List Waiting) → requests_of h parts (xs ++ ys) ≡ requests_of h parts xs ++ requests_of h parts ys
      joined = Rattle.alp_turns.proofs.QueueLemmas.requests_joined h h parts (λ v. v)

-- ---- a call comes

filter_joined : (p : Waiting → Bool) (xs ys : List Waiting) → filter p (xs ++ ys) ≡ filter p xs ++ filter p ys
filter_joined p [] ys = refl
filter_joined p (x ∷ xs) ys = go (p x) (filter_joined p xs ys)
  where
    go : (b : Bool) → filter p (xs ++ ys) ≡ filter p xs ++ filter p ys → cond {A = List Waiting} b (x ∷ filter p (xs ++ ys)) (filter p (xs ++ ys)) ≡ cond {A = List Waiting} b (x ∷ filter p xs) (filter p xs) ++ filter p ys
    go true e = ap (λ (zs : List Waiting). x ∷ zs) e
    go false e = e

not_true : (b : Bool) → not b ≡ true → b ≡ false
not_true true e = cc
not_true false e = refl

-- a waiter that converts comes behind those that do, and before the others; any other comes last
placed_last : (xs : List Waiter) (q : Waiter) → q.converts ≡ false → placed xs q ≡ xs ++ q ∷ []
placed_last [] q e = refl
placed_last (x ∷ xs) q e = ap (λ (b : Bool). cond {A = List Waiter} (b && not x.converts) (q ∷ x ∷ xs) (x ∷ placed xs q)) e ∙ ap (λ (ys : List Waiter). x ∷ ys) (placed_last xs q e)

placed_between : (xs ys : List Waiter) (q : Waiter) → q.converts ≡ true → AllByRecursion (λ (x : Waiter). x.converts ≡ true) xs → AllByRecursion (λ (y : Waiter). y.converts ≡ false) ys
    → placed (xs ++ ys) q ≡ xs ++ q ∷ ys
placed_between [] [] q e a b = refl
placed_between [] (y ∷ ys) q e a b = (λ i. cond {A = List Waiter} (e i && not (b.0 i)) (q ∷ y ∷ ys) (y ∷ placed ys q))
placed_between (x ∷ xs) ys q e a b = (λ i. cond {A = List Waiter} (e i && not (a.0 i)) (q ∷ x ∷ (xs ++ ys)) (x ∷ placed (xs ++ ys) q)) ∙ ap (λ (zs : List Waiter). x ∷ zs) (placed_between xs ys q e a.1 b)

module _ (h : Holder) (parts : Holders) (alike : AreHeldAlike h parts) where
  -- the table's request is a conversion just where the journal's call is
  pub converts_alike : (t : TransId) (l : Life) (w : Waiting) → IsWaitingFor h w t l → (request h parts t l w.call).converts ≡ is_conversion h w (file_trans w.call)
  converts_alike t l w for =
      converts_as (held_of parts t) (request_in h w.call (Some l))
      ∙ same (request_in h w.call (Some l))
      ∙ ap (is_conversion_of h w) (sym for.live) ∙ ap (is_conversion h w) (sym for.call)
    where
      same : (ns : List Need) → list_any (λ (n : Need). rises_on (map.get (held_of parts t)) n && is_some (map.get (held_of parts t) n.0)) ns
          ≡ list_any (λ (n : Need). rises_on l.held n && is_some (l.held n.0)) ns
      same [] = refl
      same (n ∷ ns) = (λ i. (rises_on (λ r. sym (alike.live t l for.live r) i) n && is_some (sym (alike.live t l for.live n.0) i)) || same ns i)

  -- so the requests of a kind are of that kind
  all_of_kind : (kind : Bool) (pick : Bool → Bool) → ((b : Bool) → pick b ≡ true → b ≡ kind) → (ws : List Waiting)
      → AllByRecursion (λ (q : Waiter). q.converts ≡ kind) (requests_of h parts (filter (λ w. pick (is_conversion h w (file_trans w.call))) ws))
  all_of_kind kind pick is [] = tt
  all_of_kind kind pick is (w ∷ ws) = go (pick (is_conversion h w (file_trans w.call))) refl (all_of_kind kind pick is ws) (asking h parts w)
    where
      rest : List Waiting
      rest = filter (λ v. pick (is_conversion h v (file_trans v.call))) ws

      go : (b : Bool) → pick (is_conversion h w (file_trans w.call)) ≡ b → AllByRecursion (λ (q : Waiter). q.converts ≡ kind) (requests_of h parts rest) → Asking h parts w
          → AllByRecursion (λ (q : Waiter). q.converts ≡ kind) (requests_of h parts (cond {A = List Waiting} b (w ∷ rest) rest))
      go false e all how = all
      go true e all (Asking.idle none never) = subst (λ (qs : List Waiter). AllByRecursion (λ (q : Waiter). q.converts ≡ kind) (qs ++ requests_of h parts rest)) (sym none) all
      go true e all (Asking.asks t l for at) = subst (λ (qs : List Waiter). AllByRecursion (λ (q : Waiter). q.converts ≡ kind) (qs ++ requests_of h parts rest)) (sym at)
          (converts_alike t l w for ∙ is (is_conversion h w (file_trans w.call)) e, all)

  -- behind the others of its kind
  pub queue_with : (ws : List Waiting) (w : Waiting) (t : TransId) (l : Life) → IsWaitingFor h w t l → request_at h parts w (file_trans w.call) ≡ request h parts t l w.call ∷ []
      → queue_of h parts (ws ++ w ∷ []) ≡ placed (queue_of h parts ws) (request h parts t l w.call)
  queue_with ws w t l for at = go (is_conversion h w (file_trans w.call)) refl
    where
      q : Waiter
      q = request h parts t l w.call

      pick : Waiting → Bool
      pick v = is_conversion h v (file_trans v.call)

      first : List Waiting
      first = filter (λ v. is_conversion h v (file_trans v.call)) ws

      last : List Waiting
      last = filter (λ v. not (is_conversion h v (file_trans v.call))) ws

      joined : (xs ys : List Waiting) → requests_of h parts (xs ++ ys) ≡ requests_of h parts xs ++ requests_of h parts ys
      joined = Rattle.alp_turns.proofs.QueueLemmas.requests_joined h h parts (λ v. v)

      alone : requests_of h parts (w ∷ []) ≡ q ∷ []
      alone = ap (λ (qs : List Waiter). qs ++ []) at

      go : (b : Bool) → is_conversion h w (file_trans w.call) ≡ b → queue_of h parts (ws ++ w ∷ []) ≡ placed (queue_of h parts ws) q
      go true e =
          (λ i. requests_of h parts (filter_joined pick ws (w ∷ []) i ++ filter_joined (λ v. not (pick v)) ws (w ∷ []) i))
          ∙ ap (λ (b : Bool). requests_of h parts ((first ++ cond {A = List Waiting} b (w ∷ []) []) ++ (last ++ cond {A = List Waiting} (not b) (w ∷ []) []))) e
          ∙ joined (first ++ w ∷ []) (last ++ []) ∙ (λ i. joined first (w ∷ []) i ++ requests_of h parts (append-nil last i))
          ∙ ap (λ (qs : List Waiter). (requests_of h parts first ++ qs) ++ requests_of h parts last) alone
          ∙ append_assoc (requests_of h parts first) (q ∷ []) (requests_of h parts last)
          ∙ sym (placed_between (requests_of h parts first) (requests_of h parts last) q (converts_alike t l w for ∙ e) (all_of_kind true (λ b. b) (λ b f. f) ws) (all_of_kind false not not_true ws))
          ∙ ap (λ (zs : List Waiter). placed zs q) (sym (joined first last))
      go false e =
          (λ i. requests_of h parts (filter_joined pick ws (w ∷ []) i ++ filter_joined (λ v. not (pick v)) ws (w ∷ []) i))
          ∙ ap (λ (b : Bool). requests_of h parts ((first ++ cond {A = List Waiting} b (w ∷ []) []) ++ (last ++ cond {A = List Waiting} (not b) (w ∷ []) []))) e
          ∙ joined (first ++ []) (last ++ w ∷ []) ∙ (λ i. requests_of h parts (append-nil first i) ++ joined last (w ∷ []) i)
          ∙ ap (λ (qs : List Waiter). requests_of h parts first ++ (requests_of h parts last ++ qs)) alone
          ∙ sym (append_assoc (requests_of h parts first) (requests_of h parts last) (q ∷ []))
          ∙ ap (λ (zs : List Waiter). zs ++ q ∷ []) (sym (joined first last))
          ∙ sym (placed_last (queue_of h parts ws) q (converts_alike t l w for ∙ e))

-- ---- a part goes

module _ (h then : Holder) (parts : Holders) (u : TransId) where
  -- a call that waits for its locks asks the same then
  abbrev pub StandsStill : Waiting → Type 0
  StandsStill w = (t : TransId) (l : Life) → IsWaitingFor h w t l → same_trans t u ≡ false → request_in then w.call (Some l) ≡ request_in h w.call (Some l)

  -- the part is gone, and the others are as they were
  pub record IsGone : Type 0 where
    pub gone : then.lives u ≡ None
    pub others : (t : TransId) → same_trans t u ≡ false → then.lives t ≡ h.lives t

  abbrev parts_then : Holders
  parts_then = map.remove parts u

  -- what it asks then, and its turn
  record GoesOn (w : Waiting) : Type 0 where
    asks : request_at then parts_then w (file_trans w.call) ≡ without_of (request_at h parts w (file_trans w.call)) u
    turn : IsPickedAlike h then parts_then (λ v. v) w

  goes_on : (w : Waiting) → IsGone → StandsStill w → GoesOn w
  goes_on w g still = by (asking h parts w)
    where
      away : (a b : TransId) → same_trans a b ≡ false → same_trans b a ≡ false
      away a b e = sym (tied_same b a) ∙ (eq_by_cmp_equiv transactions_total).symm b a ∙ tied_same a b ∙ e

      -- who asked for nothing asks for nothing
      idle_then : (x : Option TransId) → file_trans w.call ≡ x → request_at h parts w x ≡ [] → request_at then parts_then w x ≡ []
      idle_then None is none = refl
      idle_then (Some t) is none = go (same_trans t u) refl
        where
          flags : (b : Bool) (ns ms : List Need) → request_if b parts t ns ≡ [] → request_if b parts_then t ms ≡ []
          flags false ns ms e = refl
          flags true ns ms e = cc

          life : (z : Option Life) → request_for h parts w t z ≡ [] → request_for then parts_then w t z ≡ []
          life None e = refl
          life (Some l) e = flags (not w.is_granted && w.client == l.client) (request_in h w.call (Some l)) (request_in then w.call (Some l)) e

          go : (b : Bool) → same_trans t u ≡ b → request_for then parts_then w t (then.lives t) ≡ []
          go true e = ap (request_for then parts_then w t) (ap then.lives (same_trans-true t u e) ∙ g.gone)
          go false e = ap (request_for then parts_then w t) (g.others t e) ∙ life (h.lives t) none

      by : Asking h parts w → GoesOn w
      by (Asking.idle none never) = record { asks = idle_then (file_trans w.call) refl none ∙ ap (λ (qs : List Waiter). without_of qs u) (sym none); turn = inl (idle_then (file_trans w.call) refl none) }
      by (Asking.asks t l for at) = go (same_trans t u) refl
        where
          gone_at : same_trans t u ≡ true → request_at then parts_then w (file_trans w.call) ≡ []
          gone_at e = ap (request_at then parts_then w) for.call ∙ ap (request_for then parts_then w t) (ap then.lives (same_trans-true t u e) ∙ g.gone)

          kept : (b : Bool) → is_of u (request h parts t l w.call) ≡ b → without_of (request h parts t l w.call ∷ []) u ≡ cond {A = List Waiter} (not b) (request h parts t l w.call ∷ []) []
          kept b e = ap (λ (x : Bool). cond {A = List Waiter} (not x) (request h parts t l w.call ∷ []) []) e

          asks_same : same_trans t u ≡ false → request_at then parts_then w (file_trans w.call) ≡ request h parts t l w.call ∷ []
          asks_same e =
              ap (request_at then parts_then w) for.call ∙ ap (request_for then parts_then w t) (g.others t e ∙ for.live)
              ∙ (λ i. request_if (not w.is_granted && w.client == l.client) parts_then t (still t l for e i))
              ∙ ap (λ (x : Held). cond {A = List Waiter} (not w.is_granted && w.client == l.client) (waiter_of x t (request_in h w.call (Some l)) ∷ []) []) (held-removed parts u t (tied_same t u ∙ e))
              ∙ sym (ap (request_at h parts w) for.call ∙ ap (request_for h parts w t) for.live) ∙ at

          turn_same : same_trans t u ≡ false → is_conversion then w (file_trans w.call) ≡ is_conversion h w (file_trans w.call)
          turn_same e =
              ap (is_conversion then w) for.call ∙ ap (is_conversion_of then w) (g.others t e ∙ for.live)
              ∙ ap (λ (ns : List Need). list_any (λ (n : Need). rises_on l.held n && is_some (l.held n.0)) ns) (still t l for e)
              ∙ sym (ap (is_conversion h w) for.call ∙ ap (is_conversion_of h w) for.live)

          go : (b : Bool) → same_trans t u ≡ b → GoesOn w
          go true e = record {
            asks = gone_at e ∙ sym (ap (λ (qs : List Waiter). without_of qs u) at ∙ kept true (tied_same u t ∙ ap (same_trans u) (same_trans-true t u e) ∙ same_trans-itself u));
            turn = inl (gone_at e);
          }
          go false e = record { asks = asks_same e ∙ sym (ap (λ (qs : List Waiter). without_of qs u) at ∙ kept false (tied_same u t ∙ away t u e)); turn = inr (turn_same e) }

  requests_gone : (ws : List Waiting) → AllByRecursion GoesOn ws → requests_of then parts_then ws ≡ without_of (requests_of h parts ws) u
  requests_gone [] all = refl
  requests_gone (w ∷ ws) all = (λ i. all.0.asks i ++ requests_gone ws all.1 i) ∙ sym (split (request_at h parts w (file_trans w.call)))
    where
      split : (qs : List Waiter) → without_of (qs ++ requests_of h parts ws) u ≡ without_of qs u ++ without_of (requests_of h parts ws) u
      split [] = refl
      split (q ∷ qs) = go (is_of u q) (split qs)
        where
          go : (b : Bool) → without_of (qs ++ requests_of h parts ws) u ≡ without_of qs u ++ without_of (requests_of h parts ws) u
              → cond {A = List Waiter} (not b) (q ∷ without_of (qs ++ requests_of h parts ws) u) (without_of (qs ++ requests_of h parts ws) u)
              ≡ cond {A = List Waiter} (not b) (q ∷ without_of qs u) (without_of qs u) ++ without_of (requests_of h parts ws) u
          go true e = e
          go false e = ap (λ (zs : List Waiter). q ∷ zs) e

  all_go_on : (ws : List Waiting) → IsGone → AllByRecursion StandsStill ws → AllByRecursion GoesOn ws
  all_go_on [] g still = tt
  all_go_on (w ∷ ws) g still = (goes_on w g still.0, all_go_on ws g still.1)

  all_turn : (ws : List Waiting) → AllByRecursion GoesOn ws → AllByRecursion (IsPickedAlike h then parts_then (λ v. v)) ws
  all_turn [] all = tt
  all_turn (w ∷ ws) all = (all.0.turn, all_turn ws all.1)

  -- its requests are gone from the queue
  pub queue_gone : (ws : List Waiting) → IsGone → AllByRecursion StandsStill ws → queue_of then parts_then ws ≡ without_of (queue_of h parts ws) u
  queue_gone ws g still =
      ap (queue_of then parts_then) (sym (map-id ws))
      ∙ queue_alike h then parts_then (λ v. v) ws (all_turn ws (all_go_on ws g still))
      ∙ ap (requests_of then parts_then) (map-id (in_turn h ws))
      ∙ requests_gone (in_turn h ws) (all_go_on (in_turn h ws) g (each_in_turn StandsStill h ws still))
