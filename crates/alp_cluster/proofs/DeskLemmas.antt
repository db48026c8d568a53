-- how the sessions of a server go on in a step, and what they keep then
use Rattle.std.specs.Prelude.{◌==◌, true, false, Bool, cond, Option, None, Some, IfSome, length}
use Rattle.std.proofs.Common.{inl, inr, ◌≡◌, ℕ, ◌+◌, ◌≤◌, ◌^◌, List, refl, sym, ◌∙◌, ap, subst, arith}
use Rattle.std.proofs.lemmas.Bool.Decides.{eqb_tells}
use Rattle.alp_files.specs.declared.call.Call.{Call}
use Rattle.alp_files.specs.declared.call.Call.TheVariants as call
use Rattle.alp_files.specs.declared.reply.Reply.{Reply}
use Rattle.alp_files.specs.declared.reply.Reply.TheVariants as reply
use Rattle.alp_files.specs.declared.reply.Ended.TheVariants as ended
use Rattle.alp_journal.specs.Answered.{is_read_fault}
use Rattle.alp_journal.specs.Desk.{Session}
use Rattle.alp_journal.specs.declared.event.Event.{Event}
use Rattle.alp_journal.specs.declared.event.Event.TheVariants as event
use Rattle.alp_node.specs.Orders.{order_in, order_of, idle_reply}
use Rattle.alp_node.specs.Served.{IsServed}
use Rattle.alp_node.specs.Sessions.{session_at, with_session}
use Rattle.alp_node.specs.Turns.{HasGreeted, HasTurned, IsInSession, TellsRun, TellsUpTo, asked_in}
use Rattle.alp_node.specs.declared.server_state.ServerState.{ServerState}
use Rattle.alp_node.specs.declared.sessions.CallOrder.{CallOrder}
use Rattle.alp_node.specs.declared.sessions.CallOrder.TheVariants as order
use Rattle.alp_node.specs.declared.sessions.Sessions.{Sessions}
use Rattle.alp_node.proofs.MapLemmas.{session_kept}
use Rattle.alp_node.proofs.OrderLemmas.{first_is, next_is}
use Rattle.alp_rpc.specs.Replies.{IsSendable}
use Rattle.alp_cluster.specs.Come.{Come, IsReached, IsReachedIn}
use Rattle.alp_cluster.specs.Servers.{IsKeptReply, AreKept}

-- ---- the replies of a server have frames

-- its times are within a clock that clocks may show, and its pages are a run
fresh_sendable : (clock : ℕ) (asked : Option ℕ) (r : Reply) → clock ≤ 2 ^ 62 → TellsUpTo clock r → TellsRun asked r → IsSendable r
fresh_sendable clock asked (reply.Pages pages) low times told = (told.1, omega (arith, told.2))
fresh_sendable clock asked (reply.Committed s) low times told = omega (arith, low, times)
fresh_sendable clock asked (reply.Ended (ended.Committed s)) low times told = omega (arith, low, times)
fresh_sendable clock asked (reply.Ended e) low times told = tt
fresh_sendable clock asked r low times told = tt

next_sendable : (clock : ℕ) (asked : Option ℕ) (r : Option Reply) → clock ≤ 2 ^ 62 → IfSome r (TellsUpTo clock) → IfSome r (TellsRun asked) → IfSome r IsSendable
next_sendable clock asked None low times told = tt
next_sendable clock asked (Some r) low times told = fresh_sendable clock asked r low times told

-- ---- sessions

-- they are as before; or a client without a session greeted; or the next call of a session was answered, whose reply has a frame
pub data Change {V : Type 0} (old new : ServerState V) (r : Option Reply) : Type 0 where
  still : new.sessions ≡ old.sessions → Change old new r
  greets : (client : ℕ) (name : List ℕ) → client ≤ 16 → session_at old.sessions client ≡ None → r ≡ Some (reply.Welcome old.epoch)
      → new.sessions ≡ with_session old.sessions client (record { who = name; last = 1; reply = reply.Welcome old.epoch }) → Change old new r
  counts : (client : ℕ) (w : Session) (y : Reply) → client ≤ 16 → session_at old.sessions client ≡ Some w → r ≡ Some y → IsSendable y → IsInSession y
      → new.sessions ≡ with_session old.sessions client (record w { last = w.last + 1; reply = y }) → Change old new r

same_sessions : {V : Type 0} (old new : ServerState V) → new ≡ old → new.sessions ≡ old.sessions
same_sessions old new is = ap (λ (k : ServerState _). k.sessions) is

same_session : (v w : Session) → ◌≡◌ {A = Option Session} (Some v) (Some w) → v ≡ w
same_session v w e = cc

module _ {V : Type 0} (old new : ServerState V) (client epoch number : ℕ) (c : Call) (r : Option Reply) (small : client ≤ 16) (low : new.clock ≤ 2 ^ 62) where
  greets_by : (x : Call) (name : List ℕ) → x ≡ call.Hello name → session_at old.sessions client ≡ None → HasGreeted old new client x r → Change old new r
  greets_by x name is none h =
      let mine : HasGreeted old new client (call.Hello name) r = subst (λ (y : Call). HasGreeted old new client y r) is h in
      greets client name small none mine.0 (ap (λ (k : ServerState V). k.sessions) mine.1)

  change_by : (o : CallOrder) → order_of old.epoch epoch number c (session_at old.sessions client) ≡ o → HasTurned (Some o) old new (event.Call client epoch number c) r → Change old new r
  change_by order.First is turned =
      let f = first_is old.epoch epoch number c (session_at old.sessions client) is in
      greets_by c f.name f.greets f.none turned.sessions
  change_by order.Next is turned =
      let (y, told, on) = turned.sessions in
      let (inside, w, stood, now) = on in
      let n = next_is old.epoch epoch number c (session_at old.sessions client) is in
      let same : n.session ≡ w = same_session n.session w (sym n.there ∙ stood) in
      let number_is : number ≡ w.last + 1 = n.number_is ∙ ap (λ (v : Session). v.last + 1) same in
      let all : IfSome r IsSendable = next_sendable new.clock (asked_in old.waits client c) r low turned.times turned.pages in
      counts client w y small stood told (subst (λ (q : Option Reply). IfSome q IsSendable) told all) inside
      (now ∙ ap (λ (m : ℕ). with_session old.sessions client (record w { last = m; reply = y })) number_is)
  change_by order.Repeat is turned = still (same_sessions old new turned.sessions.1)
  change_by order.Stale is turned = still (same_sessions old new turned.sessions.1)
  change_by order.Astray is turned = still (same_sessions old new turned.sessions.1)

-- by an event that is served
pub change : {V : Type 0} (old new : ServerState V) (e : Event) (r : Option Reply) → IsServed e → new.clock ≤ 2 ^ 62 → HasTurned (order_in old e) old new e r → Change old new r
change old new (event.Call client epoch number c) r served low turned = change_by old new client epoch number c r served.1 low (order_of old.epoch epoch number c (session_at old.sessions client)) refl turned
change old new (event.Timeout t) r served low turned = still turned.sessions
change old new event.Tick r served low turned = still turned.sessions
change old new event.Force r served low turned = still turned.sessions
change old new (event.Arrive from message) r served low turned = still turned.sessions
change old new event.Restart r served low turned = absurd served

-- ---- the session of one client

module _ {V : Type 0} (old new : ServerState V) (places : length old.sessions.places ≡ 17) where
  session_now : (client : ℕ) (w : Session) (j : ℕ) → client ≤ 16 → new.sessions ≡ with_session old.sessions client w → session_at new.sessions j ≡ cond {A = Option Session} (j == client) (Some w) (session_at old.sessions j)
  session_now client w j small is = ap (λ (s : Sessions). session_at s j) is ∙ session_kept old.sessions client w j places small

  -- what the session of a client is then: as it was, or that
  session_cases : (P : Option Session → Type 0) (client : ℕ) (w : Session) (j : ℕ) → client ≤ 16 → new.sessions ≡ with_session old.sessions client w → (j ≡ client → P (Some w)) → P (session_at old.sessions j) → P (session_at new.sessions j)
  session_cases P client w j small is mine other = subst P (sym (session_now client w j small is)) (elim (eqb_tells j client) [
    | inl same ↦ subst (λ (b : Bool). P (cond b (Some w) (session_at old.sessions j))) (sym same.0) (mine same.1)
    | inr away ↦ subst (λ (b : Bool). P (cond b (Some w) (session_at old.sessions j))) (sym away.0) other
  ])

  -- ---- what came stays come

  reached_in : (j number : ℕ) (w : Option Session) → session_at old.sessions j ≡ w → (r : Option Reply) → Change old new r → IsReachedIn false w number → IsReachedIn false (session_at new.sessions j) number
  reached_in j number w is r (still same) h = subst (λ (o : Option Session). IsReachedIn false o number) (sym (ap (λ (s : Sessions). session_at s j) same ∙ is)) h
  reached_in j number w is r (greets client name small none told now) h =
      session_cases (λ o. IsReachedIn false o number) client (record { who = name; last = 1; reply = reply.Welcome old.epoch }) j small now
      (λ same. absurd (subst (λ (o : Option Session). IsReachedIn false o number) (sym is ∙ ap (session_at old.sessions) same ∙ none) h)) (subst (λ (o : Option Session). IsReachedIn false o number) (sym is) h)
  reached_in j number w is r (counts client v y small stood told right inside now) h =
      session_cases (λ o. IsReachedIn false o number) client (record v { last = v.last + 1; reply = y }) j small now
      (λ same. (let low : number ≤ v.last = subst (λ (o : Option Session). IsReachedIn false o number) (sym is ∙ ap (session_at old.sessions) same ∙ stood) h in omega (arith, low))) (subst (λ (o : Option Session). IsReachedIn false o number) (sym is) h)

  -- ---- what is kept is right

  module _ (epoch : ℕ) (before : (j : ℕ) (w : Session) → session_at old.sessions j ≡ Some w → IsKeptReply epoch w) where
    kept_some : (j : ℕ) (o : Option Session) → session_at old.sessions j ≡ o → IfSome o (IsKeptReply epoch)
    kept_some j None is = tt
    kept_some j (Some w) is = before j w is

    kept_each : (j : ℕ) (r : Option Reply) → old.epoch ≡ epoch → IfSome r (λ y. is_read_fault (Some y) ≡ false) → Change old new r → IfSome (session_at new.sessions j) (IsKeptReply epoch)
    kept_each j r same calm (still now) = subst (λ (s : Sessions). IfSome (session_at s j) (IsKeptReply epoch)) (sym now) (kept_some j (session_at old.sessions j) refl)
    kept_each j r same calm (greets client name small none told now) =
        session_cases (λ o. IfSome o (IsKeptReply epoch)) client (record { who = name; last = 1; reply = reply.Welcome old.epoch }) j small now
        (λ mine. record { sendable = tt; calm = refl; counted = omega arith; greeting = λ one. ap reply.Welcome same }) (kept_some j (session_at old.sessions j) refl)
    kept_each j r same calm (counts client v y small stood told right inside now) =
        session_cases (λ o. IfSome o (IsKeptReply epoch)) client (record v { last = v.last + 1; reply = y }) j small now
        (λ mine. record {
          sendable = right;
          calm = subst (λ (q : Option Reply). IfSome q (λ z. is_read_fault (Some z) ≡ false)) told calm;
          counted = omega arith;
          greeting = λ one. (let low : 1 ≤ v.last = (before client v stood).counted in absurd (omega (arith, one, low)));
        }) (kept_some j (session_at old.sessions j) refl)

    pub kept_all : (r : Option Reply) → old.epoch ≡ epoch → IfSome r (λ y. is_read_fault (Some y) ≡ false) → Change old new r → (j : ℕ) (w : Session) → session_at new.sessions j ≡ Some w → IsKeptReply epoch w
    kept_all r same calm went j w is = subst (λ (o : Option Session). IfSome o (IsKeptReply epoch)) is (kept_each j r same calm went)

-- what has come has come still, where the server goes down or answers on
pub reached_on : {V : Type 0} (old new : ServerState V) (r : Option Reply) → length old.sessions.places ≡ 17 → new.epoch ≡ old.epoch → old.is_down ≡ false → (new.is_down ≡ false → Change old new r) → (k : ℕ) (a : Come) → IsReached old k a → IsReached new k a
reached_on old new r places epoch up went k a (inl lower) = inl (omega (arith, lower, epoch))
reached_on old new r places epoch up went k a (inr (same, come)) = inr (same ∙ sym epoch, by_down new.is_down refl)
  where
    by_down : (b : Bool) → new.is_down ≡ b → IsReachedIn new.is_down (session_at new.sessions k) a.number
    by_down true down = subst (λ (b : Bool). IsReachedIn b (session_at new.sessions k) a.number) (sym down) tt
    by_down false goes = subst (λ (b : Bool). IsReachedIn b (session_at new.sessions k) a.number) (sym goes)
        (reached_in old new places k a.number (session_at old.sessions k) refl r (went goes) (subst (λ (b : Bool). IsReachedIn b (session_at old.sessions k) a.number) up come))

-- ---- what is answered to a frame has one

module _ {V : Type 0} (old new : ServerState V) (low : new.clock ≤ 2 ^ 62) (before : AreKept old) where
  again_sendable : (client : ℕ) (w : Option Session) → session_at old.sessions client ≡ w → IfSome (idle_reply order.Repeat old.epoch w) IsSendable
  again_sendable client None is = tt
  again_sendable client (Some w) is = (before client w is).sendable

  greeted_sendable : (client : ℕ) (c : Call) (r : Option Reply) → HasGreeted old new client c r → IfSome r IsSendable
  greeted_sendable client (call.Hello name) r h = subst (λ (x : Option Reply). IfSome x IsSendable) (sym h.0) tt
  greeted_sendable client c r h = absurd h

  -- whatever the call is among those of its client
  pub told_sendable : (o : CallOrder) (client epoch number : ℕ) (c : Call) (r : Option Reply) → HasTurned (Some o) old new (event.Call client epoch number c) r → IfSome r IsSendable
  told_sendable order.First client epoch number c r turned = greeted_sendable client c r turned.sessions
  told_sendable order.Next client epoch number c r turned = next_sendable new.clock (asked_in old.waits client c) r low turned.times turned.pages
  told_sendable order.Repeat client epoch number c r turned = subst (λ (x : Option Reply). IfSome x IsSendable) (sym turned.sessions.0) (again_sendable client (session_at old.sessions client) refl)
  told_sendable order.Stale client epoch number c r turned = subst (λ (x : Option Reply). IfSome x IsSendable) (sym turned.sessions.0) tt
  told_sendable order.Astray client epoch number c r turned = subst (λ (x : Option Reply). IfSome x IsSendable) (sym turned.sessions.0) tt
