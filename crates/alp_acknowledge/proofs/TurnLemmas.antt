-- a client and its server go on in step
use Rattle.alp_base.specs.declared.lists.TheConstants.{PAGES_PER_FILE}
use Rattle.alp_files.specs.Locks.{page_limit}
use Rattle.std.specs.Prelude.{false, Option, None, Some}
use Rattle.std.proofs.Common.{◌≡◌, ℕ, List, ◌+◌, ◌<◌, ◌≤◌, ◌^◌, length, refl, sym, ◌∙◌, ap, subst, arith}
use Rattle.alp_files.specs.declared.call.Call.{Call}
use Rattle.alp_files.specs.declared.call.Call.TheVariants as call
use Rattle.alp_files.specs.declared.reply.Reply.{Reply}
use Rattle.alp_files.specs.declared.reply.Reply.TheVariants as reply
use Rattle.alp_journal.specs.declared.event.Event.TheVariants as event
use Rattle.alp_vault.specs.declared.vault.Vault.{Ghosts}
use Rattle.alp_node.specs.NodeStates.{NodeState}
use Rattle.alp_node.specs.Nodes.{IsConsistent}
use Rattle.alp_node.specs.Orders.{order_in, order_of}
use Rattle.alp_node.specs.Served.{IsServed, IsTurnCall}
use Rattle.alp_node.specs.Sessions.{no_sessions, session_at, with_session}
use Rattle.alp_node.specs.Turns.{HasTurned}
use Rattle.alp_node.specs.declared.sessions.CallOrder.{CallOrder}
use Rattle.alp_node.specs.declared.sessions.CallOrder.TheVariants as order
use Rattle.alp_node.specs.declared.server_state.ServerState.{ServerState}
use Rattle.alp_journal.specs.Desk.{Session}
use Rattle.alp_node.specs.declared.sessions.Sessions.{Sessions}
use Rattle.alp_node.proofs.MapLemmas.{session_kept}
use Rattle.alp_node.proofs.OrderLemmas.{is_next, turn_askable, turn_no_greeting}
use Rattle.alp_node.proofs.StartLemmas.{no_session}
use Rattle.alp_acknowledge.specs.Turns.{HasComeTo, KnowsSession}

-- a session has come no further than so many steps
pub at_most : (o : Option Session) (last steps : ℕ) → HasComeTo last o → ((w : Session) → o ≡ Some w → w.last ≤ steps) → last ≤ steps
at_most None last steps h most = absurd h
at_most (Some w) last steps h most = subst (λ (n : ℕ). n ≤ steps) h (most w refl)

-- sizes up to that of the largest file are numbers of pages
pub small_size : (size : ℕ) → size ≤ PAGES_PER_FILE → size < page_limit
unfolding page_limit
small_size size h = omega (arith, h)

-- a session that was set has come to its number
pub come_to : (old new : Sessions) (w : Session) → length old.places ≡ 17 → new ≡ with_session old 1 w → HasComeTo w.last (session_at new 1)
come_to old new w long is = subst (λ (s : Sessions). HasComeTo w.last (session_at s 1)) (sym is) (subst (HasComeTo w.last) (sym (session_kept old 1 w 1 long (omega arith))) refl)

-- each call of the client's session is served
pub call_served : (here number : ℕ) (c : Call) → IsTurnCall c → IsServed (event.Call 1 here number c)
call_served here number c own = (omega arith, omega arith, turn_askable c own)

-- and in its turn it is the next one there
pub next_asked : {V : Type 0} (n : NodeState V) (here last seen : ℕ) (c : Call) → KnowsSession here last seen n → IsTurnCall c → order_in n.kept (event.Call 1 here (last + 1) c) ≡ Some order.Next
next_asked n here last seen c is own = go (session_at n.kept.sessions 1) refl is.session
  where
    go : (o : Option Session) → session_at n.kept.sessions 1 ≡ o → HasComeTo last o → order_in n.kept (event.Call 1 here (last + 1) c) ≡ Some order.Next
    go None at h = absurd h
    go (Some w) at h =
        ap (λ (v : Option Session). Some (order_of n.kept.epoch here (last + 1) c v)) at
        ∙ ap (λ (x : CallOrder). Some x) (is_next n.kept.epoch here (last + 1) c w (turn_no_greeting c own) is.epoch (ap (λ (k : ℕ). k + 1) (sym h)))

-- the greeting of a client that has no session begins one
pub first_asked : {V : Type 0} (k : ServerState V) (name : List ℕ) → k.sessions ≡ no_sessions → order_in k (event.Call 1 0 1 (call.Hello name)) ≡ Some order.First
first_asked k name none =
    ap (λ (s : Sessions). Some (order_of k.epoch 0 1 (call.Hello name) (session_at s 1))) none
    ∙ ap (λ (w : Option Session). Some (order_of k.epoch 0 1 (call.Hello name) w)) (no_session 1)

-- it has asked no more often than the server made entries
pub few_asked : {V : Type 0} (G : Ghosts V) (n : NodeState V) (here last seen : ℕ) → KnowsSession here last seen n → IsConsistent G n → last ≤ length n.journal
few_asked G n here last seen is k = at_most (session_at n.kept.sessions 1) last (length n.journal) is.session (λ w e. k.ready.calls 1 w e)

-- and what it saw is a time
pub seen_time : {V : Type 0} (G : Ghosts V) (n : NodeState V) (here last seen : ℕ) → KnowsSession here last seen n → IsConsistent G n → seen ≤ 2 ^ 62
seen_time G n here last seen is k = let at : seen ≤ n.kept.clock = is.told in let low : n.kept.clock ≤ 2 ^ 62 = k.ready.clock in omega (arith, at, low)

module _ {V : Type 0} (old new : NodeState V) where
  -- behind its next call the client is in step
  pub in_step : (epoch last told : ℕ) (c : Call) (r : Option Reply) → KnowsSession epoch last told old → IsTurnCall c → length old.kept.sessions.places ≡ 17
      → new.kept.is_down ≡ false → new.kept.epoch ≡ old.kept.epoch → HasTurned (order_in old.kept (event.Call 1 epoch (last + 1) c)) old.kept new.kept (event.Call 1 epoch (last + 1) c) r → KnowsSession epoch (last + 1) told new
  in_step epoch last told c r is own long up same t =
      let turned : HasTurned (Some order.Next) old.kept new.kept (event.Call 1 epoch (last + 1) c) r = subst (λ (o : Option CallOrder). HasTurned o old.kept new.kept (event.Call 1 epoch (last + 1) c) r) (next_asked old epoch last told c is own) t in
      let (x, given, on) = turned.sessions in
      let (inside, stood, stood_there, counted) = on in
      let later : old.kept.clock ≤ new.kept.clock = turned.later in
      let before : told ≤ old.kept.clock = is.told in
      record {
        up = up;
        epoch = is.epoch ∙ sym same;
        session = come_to old.kept.sessions new.kept.sessions (record stood { last = last + 1; reply = x }) long counted;
        told = omega (arith, before, later);
      }

  -- and behind its greeting
  pub greeted : (epoch : ℕ) (name : List ℕ) (r : Option Reply) → r ≡ Some (reply.Welcome epoch) → old.kept.sessions ≡ no_sessions → length old.kept.sessions.places ≡ 17
      → new.kept.is_down ≡ false → new.kept.epoch ≡ old.kept.epoch → HasTurned (order_in old.kept (event.Call 1 0 1 (call.Hello name))) old.kept new.kept (event.Call 1 0 1 (call.Hello name)) r → KnowsSession epoch 1 0 new
  greeted epoch name r is none long up same t =
      let turned : HasTurned (Some order.First) old.kept new.kept (event.Call 1 0 1 (call.Hello name)) r = subst (λ (o : Option CallOrder). HasTurned o old.kept new.kept (event.Call 1 0 1 (call.Hello name)) r) (first_asked old.kept name none) t in
      let said : Some (reply.Welcome old.kept.epoch) ≡ Some (reply.Welcome epoch) = sym turned.sessions.0 ∙ is in
      record {
        up = up;
        epoch = let here : old.kept.epoch ≡ epoch = cc in sym here ∙ sym same;
        session = come_to old.kept.sessions new.kept.sessions (record { who = name; last = 1; reply = reply.Welcome old.kept.epoch }) long (ap (λ (k : ServerState V). k.sessions) turned.sessions.1);
        told = omega arith;
      }
