-- what a client is told by a server, and how far its calls have come then
use Rattle.std.specs.Prelude.{◌==◌, true, false, Bool, cond, Option, None, Some, IfSome, length}
use Rattle.std.proofs.Common.{inl, inr, ◌≡◌, ℕ, ◌+◌, ◌<◌, ◌≤◌, ◌^◌, List, refl, sym, ◌∙◌, ap, subst, arith}
use Rattle.std.proofs.lemmas.Bool.{eqb-true}
use Rattle.std.proofs.lemmas.Bool.Decides.{eqb_tells}
use Rattle.alp_files.specs.declared.call.Call.{Call}
use Rattle.alp_files.specs.declared.call.Call.TheVariants as call
use Rattle.alp_files.specs.declared.reply.Reply.{Reply}
use Rattle.alp_files.specs.declared.reply.Reply.TheVariants as reply
use Rattle.alp_files.specs.declared.reply.Ended.TheVariants as ended
use Rattle.alp_files.specs.declared.refusal.Refusal.TheVariants as refusal
use Rattle.alp_journal.specs.Desk.{Session}
use Rattle.alp_rpc.specs.declared.frame.Request.{Request}
use Rattle.alp_session.specs.Frames.{number_after}
use Rattle.alp_session.specs.declared.greeted.Greeted.{Greeted}
use Rattle.alp_node.specs.Orders.{order_in, order_of, idle_reply}
use Rattle.alp_node.specs.Served.{IsServed}
use Rattle.alp_node.specs.Sessions.{session_at, with_session}
use Rattle.alp_node.specs.Turns.{HasCounted, HasTurned, TellsUpTo, is_greeting}
use Rattle.alp_node.specs.declared.server_state.ServerState.{ServerState}
use Rattle.alp_node.specs.declared.sessions.CallOrder.{CallOrder}
use Rattle.alp_node.specs.declared.sessions.CallOrder.TheVariants as order
use Rattle.alp_node.specs.declared.sessions.Sessions.{Sessions}
use Rattle.alp_node.specs.NodeStates.{NodeState}
use Rattle.alp_node.proofs.MapLemmas.{session_kept}
use Rattle.alp_vault.specs.declared.vault.Vault.{Ghosts}
use Rattle.alp_cluster.specs.Come.{Come, IsUpTo, IsReached, IsReachedIn}
use Rattle.alp_cluster.specs.Exchanges.{event_of}
use Rattle.alp_cluster.specs.Servers.{IsOn, AreKept, Steps}
use Rattle.alp_cluster.specs.Clients.{come_in}
use Rattle.alp_cluster.proofs.ComeLemmas.{after_most}
use Rattle.alp_cluster.proofs.DeskLemmas.{change, reached_on}

-- ---- a request and its answer

tells_more : (low high : ℕ) (r : Reply) → low ≤ high → TellsUpTo low r → TellsUpTo high r
tells_more low high (reply.Committed s) up h = omega (arith, up, h)
tells_more low high (reply.Ended (ended.Committed s)) up h = omega (arith, up, h)
tells_more low high (reply.Ended e) up h = tt
tells_more low high r up h = tt

times_more : (low high : ℕ) (r : Option Reply) → low ≤ high → IfSome r (TellsUpTo low) → IfSome r (TellsUpTo high)
times_more low high None up h = tt
times_more low high (Some r) up h = tells_more low high r up h

-- what a server makes of a request
pub record Hears {V : Type 0} (s t : ServerState V) (q : Request) (r : Option Reply) : Type 0 where
  pub on : (j : ℕ) (a : Come) → IsReached s j a → IsReached t j a
  pub times : IfSome r (TellsUpTo (2 ^ 62))
  pub epoch : t.epoch ≡ s.epoch
  pub places : length s.sessions.places ≡ 17
  pub small : q.client ≤ 16
  pub raised : 0 < s.epoch
  pub kept : s.is_down ≡ false → AreKept s
  pub turned : s.is_down ≡ false → t.is_down ≡ false → HasTurned (order_in s (event_of q)) s t (event_of q) r
  pub shut : s.is_down ≡ true → r ≡ Some (reply.Refused refusal.Down)
  pub closes : s.is_down ≡ false → t.is_down ≡ true → r ≡ Some (reply.Refused refusal.Down)

down_times : (r : Option Reply) → r ≡ Some (reply.Refused refusal.Down) → IfSome r (TellsUpTo (2 ^ 62))
down_times r is = subst (λ (o : Option Reply). IfSome o (TellsUpTo (2 ^ 62))) (sym is) tt

pub hears_of : {V : Type 0} (G : Ghosts V) (n m : NodeState V) (q : Request) (r : Option Reply) → IsOn G n → IsServed (event_of q) → Steps G n.kept.is_down n m (event_of q) r → Hears n.kept m.kept q r
hears_of {V = V} G n m q r on served = go n.kept.is_down refl
  where
    go : (b : Bool) → n.kept.is_down ≡ b → Steps G b n m (event_of q) r → Hears n.kept m.kept q r
    go true down h =
        let same : m.kept ≡ n.kept = ap (λ (x : NodeState V). x.kept) h.same in
        record {
          on = λ j a old. subst (λ (k : ServerState V). IsReached k j a) (sym same) old;
          times = down_times r h.reply;
          epoch = ap (λ (k : ServerState V). k.epoch) same;
          places = on.kept.ready.places;
          small = served.1;
          raised = on.kept.ready.raised;
          kept = on.replies;
          turned = λ up goes. (let wrong : true ≡ false = sym down ∙ up in cc);
          shut = λ _. h.reply;
          closes = λ up goes. h.reply;
        }
    go false up h = record {
      on = reached_on n.kept m.kept r on.kept.ready.places h.epoch up (λ goes. change n.kept m.kept (event_of q) r served h.on.kept.ready.clock (h.turned goes));
      times = by_down m.kept.is_down refl;
      epoch = h.epoch;
      places = on.kept.ready.places;
      small = served.1;
      raised = on.kept.ready.raised;
      kept = on.replies;
      turned = λ _ goes. h.turned goes;
      shut = λ down. (let wrong : true ≡ false = sym down ∙ up in cc);
      closes = λ _ down. h.closes down;
    }
      where
        by_down : (b : Bool) → m.kept.is_down ≡ b → IfSome r (TellsUpTo (2 ^ 62))
        by_down true down = down_times r (h.closes down)
        by_down false goes = times_more m.kept.clock (2 ^ 62) r h.on.kept.ready.clock (h.turned goes).times

-- ---- a greeting

-- It is answered by the welcome of the epoch: no call of this client in it had come before, and the greeting has. Or nothing is said,
-- or that the server is down.
pub data Greets {V : Type 0} (s t : ServerState V) (k : ℕ) (r : Option Reply) : Type 0 where
  welcome : r ≡ Some (reply.Welcome s.epoch) → IsReached t k (record { epoch = s.epoch; number = 1 }) → ((a : Come) → IsReached s k a → IsUpTo a (record { epoch = s.epoch; number = 1 })) → Greets s t k r
  silent : r ≡ None → Greets s t k r
  is_down : r ≡ Some (reply.Refused refusal.Down) → Greets s t k r

module _ {V : Type 0} (s t : ServerState V) (k : ℕ) (name : List ℕ) (r : Option Reply) (h : Hears s t (record { client = k; epoch = 0; number = 1; call = call.Hello name }) r) (up : s.is_down ≡ false) (goes : t.is_down ≡ false) where
  -- where the session stands so
  first_here : session_at s.sessions k ≡ None → HasCounted order.First s t k 1 (call.Hello name) r → Greets s t k r
  first_here none counted =
      let w : Session = record { who = name; last = 1; reply = reply.Welcome s.epoch } in
      let now : t.sessions ≡ with_session s.sessions k w = ap (λ (x : ServerState V). x.sessions) counted.1 in
      let mine : session_at t.sessions k ≡ Some w =
      ap (λ (x : Sessions). session_at x k) now ∙ session_kept s.sessions k w k h.places h.small ∙ elim (eqb_tells k k) [
        | inl same ↦ ap (λ (b : Bool). cond {A = Option Session} b (Some w) (session_at s.sessions k)) same.0
        | inr away ↦ absurd (away.1 refl)
      ] in
      welcome counted.0
      (inr (sym h.epoch, subst (λ (b : Bool). IsReachedIn b (session_at t.sessions k) 1) (sym goes) (subst (λ (o : Option Session). IsReachedIn false o 1) (sym mine) (omega arith))))
      up_to
    where
      up_to : (a : Come) → IsReached s k a → IsUpTo a (record { epoch = s.epoch; number = 1 })
      up_to a (inl lower) = inl lower
      up_to a (inr (same, come)) = absurd (subst (λ (o : Option Session). IsReachedIn false o a.number) none (subst (λ (b : Bool). IsReachedIn b (session_at s.sessions k) a.number) up come))

  again_here : (w : Session) → session_at s.sessions k ≡ Some w → w.last ≡ 1 → HasCounted order.Repeat s t k 1 (call.Hello name) r → Greets s t k r
  again_here w stood one counted =
      let told : r ≡ Some w.reply = counted.0 ∙ ap (idle_reply order.Repeat s.epoch) stood in
      let is : w.reply ≡ reply.Welcome s.epoch = (h.kept up k w stood).greeting one in
      welcome (told ∙ ap Some is) (h.on k (record { epoch = s.epoch; number = 1 }) (inr (refl, subst (λ (b : Bool). IsReachedIn b (session_at s.sessions k) 1) (sym up) (subst (λ (o : Option Session). IsReachedIn false o 1) (sym stood) (omega (arith, one)))))) up_to
    where
      up_to : (a : Come) → IsReached s k a → IsUpTo a (record { epoch = s.epoch; number = 1 })
      up_to a (inl lower) = inl lower
      up_to a (inr (same, come)) =
          let low : a.number ≤ w.last = subst (λ (o : Option Session). IsReachedIn false o a.number) stood (subst (λ (b : Bool). IsReachedIn b (session_at s.sessions k) a.number) up come) in
          inr (same, omega (arith, low, one))

  some_here : (w : Session) → session_at s.sessions k ≡ Some w → (b : Bool) → (w.last == 1) ≡ b → HasCounted (cond {A = CallOrder} b order.Repeat order.Astray) s t k 1 (call.Hello name) r → Greets s t k r
  some_here w stood true is counted = again_here w stood (eqb-true w.last 1 is) counted
  some_here w stood false is counted = silent counted.0

  greets_here : (o : Option Session) → session_at s.sessions k ≡ o → HasCounted (order_of s.epoch 0 1 (call.Hello name) o) s t k 1 (call.Hello name) r → Greets s t k r
  greets_here None none counted = first_here none counted
  greets_here (Some w) stood counted = some_here w stood (w.last == 1) refl counted

pub greets : {V : Type 0} (s t : ServerState V) (k : ℕ) (name : List ℕ) (r : Option Reply) → Hears s t (record { client = k; epoch = 0; number = 1; call = call.Hello name }) r → Greets s t k r
greets s t k name r h = by_down s.is_down t.is_down refl refl
  where
    by_down : (a b : Bool) → s.is_down ≡ a → t.is_down ≡ b → Greets s t k r
    by_down true b down z = is_down (h.shut down)
    by_down false true up down = is_down (h.closes up down)
    by_down false false up goes =
        greets_here s t k name r h up goes (session_at s.sessions k) refl (h.turned up goes).sessions

-- ---- the next call of what the client takes for its session

-- the server has come to it
module _ {V : Type 0} (s t : ServerState V) (q : Request) (r : Option Reply) (h : Hears s t q r) (up : s.is_down ≡ false) (goes : t.is_down ≡ false) (w : Session) (stood : session_at s.sessions q.client ≡ Some w) (low : q.number ≤ w.last + 1) where
  still_here : t ≡ s → q.number ≤ w.last → IsReachedIn false (session_at t.sessions q.client) q.number
  still_here same le = subst (λ (o : Option Session). IsReachedIn false o q.number) (sym (ap (λ (x : ServerState V). session_at x.sessions q.client) same ∙ stood)) le

  next_here : order_of s.epoch q.epoch q.number q.call (session_at s.sessions q.client) ≡ order.Next → HasCounted order.Next s t q.client q.number q.call r → IsReachedIn false (session_at t.sessions q.client) q.number
  next_here is counted =
      let (y, told, on) = counted in
      let (inside, v, there, now) = on in
      let mine : session_at t.sessions q.client ≡ Some (record v { last = q.number; reply = y }) =
      ap (λ (x : Sessions). session_at x q.client) now ∙ session_kept s.sessions q.client (record v { last = q.number; reply = y }) q.client h.places h.small ∙ elim (eqb_tells q.client q.client) [
        | inl same ↦ ap (λ (b : Bool). cond {A = Option Session} b (Some (record v { last = q.number; reply = y })) (session_at s.sessions q.client)) same.0
        | inr away ↦ absurd (away.1 refl)
      ] in
      subst (λ (o : Option Session). IsReachedIn false o q.number) (sym mine) (omega arith)

  -- by what the call is among those of its client
  come_by_order : q.epoch ≡ s.epoch → is_greeting q.call ≡ false → IsReachedIn false (session_at t.sessions q.client) q.number
  come_by_order epoch other = go (q.number == w.last) (q.number == w.last + 1) refl refl
    where
      eq_same : (x y : ℕ) → x ≡ y → (x == y) ≡ true
      eq_same x y same = elim (eqb_tells x y) [ inl is ↦ is.0 | inr away ↦ absurd (away.1 same) ]

      session_order_is : (here epoch number : ℕ) (c : Call) (w : Session) (a b : Bool) → is_greeting c ≡ false → epoch ≡ here → (number == w.last) ≡ a → (number == w.last + 1) ≡ b
          → order_of here epoch number c (Some w) ≡ cond {A = CallOrder} a order.Repeat (cond {A = CallOrder} b order.Next order.Astray)
      session_order_is here epoch number (call.Hello name) w a b other same one two = cc
      session_order_is here epoch number c w a b other same one two =
          ap (λ (z : Bool). cond {A = CallOrder} z (cond {A = CallOrder} (number == w.last) order.Repeat (cond {A = CallOrder} (number == w.last + 1) order.Next order.Astray)) order.Stale) (eq_same epoch here same)
          ∙ (λ i. cond {A = CallOrder} (one i) order.Repeat (cond {A = CallOrder} (two i) order.Next order.Astray))

      below : (x y : ℕ) → x ≤ y + 1 → (x ≡ y → ⊥) → (x ≡ y + 1 → ⊥) → x ≤ y
      below x y le one two = omega (arith, le, one, two)

      turned : HasTurned (order_in s (event_of q)) s t (event_of q) r
      turned = h.turned up goes

      at_order : (o : CallOrder) → order_of s.epoch q.epoch q.number q.call (session_at s.sessions q.client) ≡ o → HasCounted o s t q.client q.number q.call r
      at_order o is = subst (λ (x : CallOrder). HasCounted x s t q.client q.number q.call r) is turned.sessions

      order_is : (a b : Bool) → (q.number == w.last) ≡ a → (q.number == w.last + 1) ≡ b → order_of s.epoch q.epoch q.number q.call (session_at s.sessions q.client) ≡ cond {A = CallOrder} a order.Repeat (cond {A = CallOrder} b order.Next order.Astray)
      order_is a b one two = ap (order_of s.epoch q.epoch q.number q.call) stood ∙ session_order_is s.epoch q.epoch q.number q.call w a b other epoch one two

      go : (a b : Bool) → (q.number == w.last) ≡ a → (q.number == w.last + 1) ≡ b → IsReachedIn false (session_at t.sessions q.client) q.number
      go true b one two = still_here (at_order order.Repeat (order_is true b one two)).1 (let same : q.number ≡ w.last = eqb-true q.number w.last one in omega (arith, same))
      go false true one two = next_here (order_is false true one two) (at_order order.Next (order_is false true one two))
      go false false one two = still_here (at_order order.Astray (order_is false false one two)).1 (elim (eqb_tells q.number w.last) [
        | inl same ↦ (let wrong : true ≡ false = sym same.0 ∙ one in cc)
        | inr away ↦ elim (eqb_tells q.number (w.last + 1)) [
          | inl same ↦ (let wrong : true ≡ false = sym same.0 ∙ two in cc)
          | inr far ↦ below q.number w.last low away.1 far.1
        ]
      ])

-- the call behind the last one of the session, whatever that is at the server
pub own_reached : {V : Type 0} (s t : ServerState V) (k : ℕ) (g : Greeted) (c : Call) (r : Option Reply) → Hears s t (record { client = k; epoch = g.epoch; number = number_after g.last; call = c }) r → is_greeting c ≡ false → IsReached s k (come_in g)
    → IsReached t k (record { epoch = g.epoch; number = number_after g.last })
own_reached s t k g c r h other (inl lower) = inl (omega (arith, lower, h.epoch))
own_reached s t k g c r h other (inr (same, come)) = by_down s.is_down t.is_down refl refl
  where
    at_some : s.is_down ≡ false → t.is_down ≡ false → (o : Option Session) → session_at s.sessions k ≡ o → IsReachedIn false o g.last → IsReachedIn false (session_at t.sessions k) (number_after g.last)
    at_some up goes None is low = absurd low
    at_some up goes (Some w) is low =
        come_by_order s t (record { client = k; epoch = g.epoch; number = number_after g.last; call = c }) r h up goes w is (let most : number_after g.last ≤ g.last + 1 = after_most g.last in omega (arith, most, low)) same other

    by_down : (a b : Bool) → s.is_down ≡ a → t.is_down ≡ b → IsReached t k (record { epoch = g.epoch; number = number_after g.last })
    by_down a true is down = inr (same ∙ sym h.epoch, subst (λ (b : Bool). IsReachedIn b (session_at t.sessions k) (number_after g.last)) (sym down) tt)
    by_down true false down goes = h.on k (record { epoch = g.epoch; number = number_after g.last }) (inr (same, subst (λ (b : Bool). IsReachedIn b (session_at s.sessions k) (number_after g.last)) (sym down) tt))
    by_down false false up goes =
        inr (
          same ∙ sym h.epoch,
          subst (λ (b : Bool). IsReachedIn b (session_at t.sessions k) (number_after g.last)) (sym goes)
              (at_some up goes (session_at s.sessions k) refl (subst (λ (b : Bool). IsReachedIn b (session_at s.sessions k) g.last) up come)),
        )
