-- how the sessions of a server go on in a step, and that their replies have frames
use Rattle.std.specs.Prelude.{◌==◌, true, false, Bool, cond, Option, None, Some, IfSome, is_some, length}
use Rattle.std.proofs.Common.{inl, inr, ◌≡◌, ℕ, ◌+◌, ◌≤◌, ◌^◌, List, refl, sym, ◌∙◌, ap, subst, arith}
use Rattle.std.proofs.lemmas.Bool.Decides.{eqb_tells}
use Rattle.alp_files.specs.declared.call.Call.{Call}
use Rattle.alp_files.specs.declared.call.Call.TheVariants as call
use Rattle.alp_files.specs.declared.reply.Reply.{Reply}
use Rattle.alp_files.specs.declared.reply.Reply.TheVariants as reply
use Rattle.alp_files.specs.declared.reply.Ended.TheVariants as ended
use Rattle.alp_journal.specs.Answered.{is_read_fault}
use Rattle.alp_journal.specs.Desk.{Session}
use Rattle.alp_journal.specs.declared.event.Event.{Event}
use Rattle.alp_journal.specs.declared.event.Event.TheVariants as event
use Rattle.alp_node.specs.Orders.{order_in, order_of, idle_reply, is_answered}
use Rattle.alp_node.specs.Served.{IsServed}
use Rattle.alp_node.specs.Sessions.{session_at, with_session}
use Rattle.alp_node.specs.Turns.{HasGreeted, HasTurned, IsInSession, TellsRun, TellsUpTo, asked_in}
use Rattle.alp_node.specs.declared.server_state.ServerState.{ServerState}
use Rattle.alp_node.specs.declared.sessions.CallOrder.{CallOrder}
use Rattle.alp_node.specs.declared.sessions.CallOrder.TheVariants as order
use Rattle.alp_node.specs.declared.sessions.Sessions.{Sessions}
use Rattle.alp_node.proofs.MapLemmas.{session_kept}
use Rattle.alp_node.proofs.OrderLemmas.{first_is, next_is}
use Rattle.alp_rpc.specs.Replies.{IsSendable}
use Rattle.alp_berth.specs.Berths.{AreSendable}

-- ---- the replies of a server have frames

-- its times are within a clock that clocks may show, and its pages are a run
fresh_sendable : (clock : ℕ) (asked : Option ℕ) (r : Reply) → clock ≤ 2 ^ 62 → TellsUpTo clock r → TellsRun asked r → IsSendable r
fresh_sendable clock asked (reply.Pages pages) low times told = (told.1, omega (arith, told.2))
fresh_sendable clock asked (reply.Committed s) low times told = omega (arith, low, times)
fresh_sendable clock asked (reply.Ended (ended.Committed s)) low times told = omega (arith, low, times)
fresh_sendable clock asked (reply.Ended e) low times told = tt
fresh_sendable clock asked r low times told = tt

next_sendable : (clock : ℕ) (asked : Option ℕ) (r : Option Reply) → clock ≤ 2 ^ 62 → IfSome r (TellsUpTo clock) → IfSome r (TellsRun asked) → IfSome r IsSendable
next_sendable clock asked None low times told = tt
next_sendable clock asked (Some r) low times told = fresh_sendable clock asked r low times told

-- ---- sessions

-- they are as before; or a client without a session greeted; or the next call of a session was answered, whose reply has a frame
pub data Change {V : Type 0} (old new : ServerState V) (r : Option Reply) : Type 0 where
  still : new.sessions ≡ old.sessions → Change old new r
  greets : (client : ℕ) (name : List ℕ) → client ≤ 16 → session_at old.sessions client ≡ None → r ≡ Some (reply.Welcome old.epoch)
      → new.sessions ≡ with_session old.sessions client (record { who = name; last = 1; reply = reply.Welcome old.epoch }) → Change old new r
  counts : (client : ℕ) (w : Session) (y : Reply) → client ≤ 16 → session_at old.sessions client ≡ Some w → r ≡ Some y → IsSendable y → IsInSession y
      → new.sessions ≡ with_session old.sessions client (record w { last = w.last + 1; reply = y }) → Change old new r

same_sessions : {V : Type 0} (old new : ServerState V) → new ≡ old → new.sessions ≡ old.sessions
same_sessions old new is = ap (λ (k : ServerState _). k.sessions) is

same_session : (v w : Session) → ◌≡◌ {A = Option Session} (Some v) (Some w) → v ≡ w
same_session v w e = cc

module _ {V : Type 0} (old new : ServerState V) (client epoch number : ℕ) (c : Call) (r : Option Reply) (small : client ≤ 16) (low : new.clock ≤ 2 ^ 62) where
  greets_by : (x : Call) (name : List ℕ) → x ≡ call.Hello name → session_at old.sessions client ≡ None → HasGreeted old new client x r → Change old new r
  greets_by x name is none h =
      let mine : HasGreeted old new client (call.Hello name) r = subst (λ (y : Call). HasGreeted old new client y r) is h in
      greets client name small none mine.0 (ap (λ (k : ServerState V). k.sessions) mine.1)

  change_by : (o : CallOrder) → order_of old.epoch epoch number c (session_at old.sessions client) ≡ o → HasTurned (Some o) old new (event.Call client epoch number c) r → Change old new r
  change_by order.First is turned =
      let f = first_is old.epoch epoch number c (session_at old.sessions client) is in
      greets_by c f.name f.greets f.none turned.sessions
  change_by order.Next is turned =
      let (y, told, on) = turned.sessions in
      let (inside, w, stood, now) = on in
      let n = next_is old.epoch epoch number c (session_at old.sessions client) is in
      let same : n.session ≡ w = same_session n.session w (sym n.there ∙ stood) in
      let number_is : number ≡ w.last + 1 = n.number_is ∙ ap (λ (v : Session). v.last + 1) same in
      let all : IfSome r IsSendable = next_sendable new.clock (asked_in old.waits client c) r low turned.times turned.pages in
      counts client w y small stood told (subst (λ (q : Option Reply). IfSome q IsSendable) told all) inside
      (now ∙ ap (λ (m : ℕ). with_session old.sessions client (record w { last = m; reply = y })) number_is)
  change_by order.Repeat is turned = still (same_sessions old new turned.sessions.1)
  change_by order.Stale is turned = still (same_sessions old new turned.sessions.1)
  change_by order.Astray is turned = still (same_sessions old new turned.sessions.1)

-- by an event that is served
pub change : {V : Type 0} (old new : ServerState V) (e : Event) (r : Option Reply) → IsServed e → new.clock ≤ 2 ^ 62 → HasTurned (order_in old e) old new e r → Change old new r
change old new (event.Call client epoch number c) r served low turned = change_by old new client epoch number c r served.1 low (order_of old.epoch epoch number c (session_at old.sessions client)) refl turned
change old new (event.Timeout t) r served low turned = still turned.sessions
change old new event.Tick r served low turned = still turned.sessions
change old new event.Force r served low turned = still turned.sessions
change old new (event.Arrive from message) r served low turned = still turned.sessions
change old new event.Restart r served low turned = absurd served

-- ---- the session of one client

module _ {V : Type 0} (old new : ServerState V) (places : length old.sessions.places ≡ 17) where
  session_now : (client : ℕ) (w : Session) (j : ℕ) → client ≤ 16 → new.sessions ≡ with_session old.sessions client w → session_at new.sessions j ≡ cond {A = Option Session} (j == client) (Some w) (session_at old.sessions j)
  session_now client w j small is = ap (λ (s : Sessions). session_at s j) is ∙ session_kept old.sessions client w j places small

  -- what the session of a client is then: as it was, or that
  session_cases : (P : Option Session → Type 0) (client : ℕ) (w : Session) (j : ℕ) → client ≤ 16 → new.sessions ≡ with_session old.sessions client w → (j ≡ client → P (Some w)) → P (session_at old.sessions j) → P (session_at new.sessions j)
  session_cases P client w j small is mine other = subst P (sym (session_now client w j small is)) (elim (eqb_tells j client) [
    | inl same ↦ subst (λ (b : Bool). P (cond b (Some w) (session_at old.sessions j))) (sym same.0) (mine same.1)
    | inr away ↦ subst (λ (b : Bool). P (cond b (Some w) (session_at old.sessions j))) (sym away.0) other
  ])

  -- ---- what is kept has a frame

  module _ (before : AreSendable old) where
    kept_some : (j : ℕ) (o : Option Session) → session_at old.sessions j ≡ o → IfSome o (λ w. IsSendable w.reply)
    kept_some j None is = tt
    kept_some j (Some w) is = before j w is

    kept_each : (j : ℕ) (r : Option Reply) → Change old new r → IfSome (session_at new.sessions j) (λ w. IsSendable w.reply)
    kept_each j r (still now) = subst (λ (s : Sessions). IfSome (session_at s j) (λ w. IsSendable w.reply)) (sym now) (kept_some j (session_at old.sessions j) refl)
    kept_each j r (greets client name small none told now) =
        session_cases (λ o. IfSome o (λ w. IsSendable w.reply)) client (record { who = name; last = 1; reply = reply.Welcome old.epoch }) j small now
        (λ mine. tt) (kept_some j (session_at old.sessions j) refl)
    kept_each j r (counts client v y small stood told right inside now) =
        session_cases (λ o. IfSome o (λ w. IsSendable w.reply)) client (record v { last = v.last + 1; reply = y }) j small now
        (λ mine. right) (kept_some j (session_at old.sessions j) refl)

    pub kept_all : (r : Option Reply) → Change old new r → AreSendable new
    kept_all r went j w is = subst (λ (o : Option Session). IfSome o (λ v. IsSendable v.reply)) is (kept_each j r went)

-- ---- what is answered has one

module _ {V : Type 0} (old new : ServerState V) (low : new.clock ≤ 2 ^ 62) (before : AreSendable old) where
  again_sendable : (client : ℕ) (w : Option Session) → session_at old.sessions client ≡ w → IfSome (idle_reply order.Repeat old.epoch w) IsSendable
  again_sendable client None is = tt
  again_sendable client (Some w) is = before client w is

  greeted_sendable : (client : ℕ) (c : Call) (r : Option Reply) → HasGreeted old new client c r → IfSome r IsSendable
  greeted_sendable client (call.Hello name) r h = subst (λ (x : Option Reply). IfSome x IsSendable) (sym h.0) tt
  greeted_sendable client c r h = absurd h

  -- whatever the call is among those of its client
  pub told_sendable : (o : CallOrder) (client epoch number : ℕ) (c : Call) (r : Option Reply) → HasTurned (Some o) old new (event.Call client epoch number c) r → IfSome r IsSendable
  told_sendable order.First client epoch number c r turned = greeted_sendable client c r turned.sessions
  told_sendable order.Next client epoch number c r turned = next_sendable new.clock (asked_in old.waits client c) r low turned.times turned.pages
  told_sendable order.Repeat client epoch number c r turned = subst (λ (x : Option Reply). IfSome x IsSendable) (sym turned.sessions.0) (again_sendable client (session_at old.sessions client) refl)
  told_sendable order.Stale client epoch number c r turned = subst (λ (x : Option Reply). IfSome x IsSendable) (sym turned.sessions.0) tt
  told_sendable order.Astray client epoch number c r turned = subst (λ (x : Option Reply). IfSome x IsSendable) (sym turned.sessions.0) tt

  no_reply : (r : Option Reply) → is_some r ≡ false → IfSome r IsSendable
  no_reply None is = tt
  no_reply (Some y) is = (let wrong : true ≡ false = is in cc)

  -- whichever event it is
  pub all_sendable : (e : Event) (r : Option Reply) → IsServed e → HasTurned (order_in old e) old new e r → is_some r ≡ is_answered (order_in old e) → IfSome r IsSendable
  all_sendable (event.Call client epoch number c) r served turned some = told_sendable (order_of old.epoch epoch number c (session_at old.sessions client)) client epoch number c r turned
  all_sendable (event.Timeout t) r served turned some = no_reply r some
  all_sendable event.Tick r served turned some = no_reply r some
  all_sendable event.Force r served turned some = no_reply r some
  all_sendable (event.Arrive from message) r served turned some = no_reply r some
  all_sendable event.Restart r served turned some = absurd served
