-- what a call is among those of its client
use Rattle.std.specs.Prelude.{cond, Bool, true, false, ◌==◌, ◌&&◌, Option, None, Some}
use Rattle.std.proofs.Common.{◌≡◌, ℕ, ◌+◌, List, refl, sym, ◌∙◌, ap, eq-eqb, arith}
use Rattle.std.proofs.lemmas.Bool.{eqb-true, ne_eqb}
use Rattle.alp_files.specs.declared.call.Call.{Call}
use Rattle.alp_files.specs.declared.call.Call.TheVariants as call
use Rattle.alp_files.specs.declared.reply.Reply.{Reply}
use Rattle.alp_journal.specs.Desk.{Session}
use Rattle.alp_journal.specs.Moves.{follows}
use Rattle.alp_node.specs.Orders.{session_order, order_of, idle_reply}
use Rattle.alp_node.specs.Served.{IsAskable, IsTurnCall}
use Rattle.alp_node.specs.Turns.{is_greeting}
use Rattle.alp_node.specs.declared.sessions.CallOrder.{CallOrder}
use Rattle.alp_node.specs.declared.sessions.CallOrder.TheVariants as order

-- a call that brings nothing about
abbrev pub IsIdle : CallOrder → Type 0
IsIdle order.First = ⊥
IsIdle order.Next = ⊥
IsIdle o = Unit {0}

both : (x y : Bool) → (x && y) ≡ true → (x ≡ true) × (y ≡ true)
both true y e = (refl, e)
both false y e = cc

and_false : (b : Bool) → (b && false) ≡ false
and_false true = refl
and_false false = refl

-- the next number is not the last one
pub last_not_next : (number last : ℕ) → number ≡ last → (number == last + 1) ≡ false
last_not_next number last same = ne_eqb number (last + 1) (λ next. omega (arith, same, next))

-- ---- the first call

-- it is a greeting, with epoch 0 and number 1, of a client without a session
pub record IsFirst (epoch number : ℕ) (c : Call) (w : Option Session) : Type 0 where
  pub name : List ℕ
  pub greets : c ≡ call.Hello name
  pub none : w ≡ None
  pub epoch_is : epoch ≡ 0
  pub number_is : number ≡ 1

not_first : (here epoch number : ℕ) (w : Option Session) → session_order here epoch number w ≡ order.First → ⊥
not_first here epoch number None e = cc
not_first here epoch number (Some w) e = go (epoch == here) (number == w.last) (number == w.last + 1) e
  where
    go : (x y z : Bool) → cond {A = CallOrder} x (cond {A = CallOrder} y order.Repeat (cond {A = CallOrder} z order.Next order.Astray)) order.Stale ≡ order.First → ⊥
    go true true z e = cc
    go true false true e = cc
    go true false false e = cc
    go false y z e = cc

pub first_is : (here epoch number : ℕ) (c : Call) (w : Option Session) → order_of here epoch number c w ≡ order.First → IsFirst epoch number c w
first_is here epoch number (call.Hello name) None e = go (epoch == 0) (number == 1) refl refl e
  where
    go : (x y : Bool) → (epoch == 0) ≡ x → (number == 1) ≡ y → cond {A = CallOrder} (x && y) order.First order.Astray ≡ order.First → IsFirst epoch number (call.Hello name) None
    go true true p q e = record { name = name; greets = refl; none = refl; epoch_is = eqb-true epoch 0 p; number_is = eqb-true number 1 q }
    go true false p q e = cc
    go false y p q e = cc
first_is here epoch number (call.Hello name) (Some w) e = go (epoch == 0 && number == 1 && w.last == 1) e
  where
    go : (b : Bool) → cond {A = CallOrder} b order.Repeat order.Astray ≡ order.First → IsFirst epoch number (call.Hello name) (Some w)
    go true e = cc
    go false e = cc
first_is here epoch number c w e = absurd (not_first here epoch number w e)

-- ---- the next call

-- it has the session's epoch and the number behind its last one, and is no greeting
pub record IsNext (here epoch number : ℕ) (c : Call) (w : Option Session) : Type 0 where
  pub session : Session
  pub there : w ≡ Some session
  pub epoch_is : epoch ≡ here
  pub number_is : number ≡ session.last + 1
  pub other : is_greeting c ≡ false

next_session : (here epoch number : ℕ) (c : Call) (w : Option Session) → is_greeting c ≡ false → session_order here epoch number w ≡ order.Next → IsNext here epoch number c w
next_session here epoch number c None other e = cc
next_session here epoch number c (Some w) other e = go (epoch == here) (number == w.last) (number == w.last + 1) refl refl e
  where
    go : (x y z : Bool) → (epoch == here) ≡ x → (number == w.last + 1) ≡ z → cond {A = CallOrder} x (cond {A = CallOrder} y order.Repeat (cond {A = CallOrder} z order.Next order.Astray)) order.Stale ≡ order.Next → IsNext here epoch number c (Some w)
    go true true z p q e = cc
    go true false true p q e = record { session = w; there = refl; epoch_is = eqb-true epoch here p; number_is = eqb-true number (w.last + 1) q; other = other }
    go true false false p q e = cc
    go false y z p q e = cc

pub next_is : (here epoch number : ℕ) (c : Call) (w : Option Session) → order_of here epoch number c w ≡ order.Next → IsNext here epoch number c w
next_is here epoch number (call.Hello name) None e = go (epoch == 0 && number == 1) e
  where
    go : (b : Bool) → cond {A = CallOrder} b order.First order.Astray ≡ order.Next → IsNext here epoch number (call.Hello name) None
    go true e = cc
    go false e = cc
next_is here epoch number (call.Hello name) (Some w) e = go (epoch == 0 && number == 1 && w.last == 1) e
  where
    go : (b : Bool) → cond {A = CallOrder} b order.Repeat order.Astray ≡ order.Next → IsNext here epoch number (call.Hello name) (Some w)
    go true e = cc
    go false e = cc
next_is here epoch number c w e = next_session here epoch number c w refl e

-- and such a call is the next one
pub is_next : (here epoch number : ℕ) (c : Call) (w : Session) → is_greeting c ≡ false → epoch ≡ here → number ≡ w.last + 1 → order_of here epoch number c (Some w) ≡ order.Next
is_next here epoch number (call.Hello name) w other same next = cc
is_next here epoch number c w other same next =
    ap (λ (b : Bool). cond {A = CallOrder} b (cond {A = CallOrder} (number == w.last) order.Repeat (cond {A = CallOrder} (number == w.last + 1) order.Next order.Astray)) order.Stale) (eq-eqb epoch here same)
    ∙ ap (λ (b : Bool). cond {A = CallOrder} b order.Repeat (cond {A = CallOrder} (number == w.last + 1) order.Next order.Astray)) (ne_eqb number w.last (λ last. omega (arith, last, next)))
    ∙ ap (λ (b : Bool). cond {A = CallOrder} b order.Next order.Astray) (eq-eqb number (w.last + 1) next)

-- one that may be asked, and is no greeting, is one of a session
pub turn_call : (c : Call) → is_greeting c ≡ false → IsAskable c → IsTurnCall c
turn_call (call.Hello name) other h = cc
turn_call c other h = h

-- ---- calls that bring nothing about

-- where such a call is answered it is not the next one of its session
pub idle_not_new : (here epoch number : ℕ) (c : Call) (w : Option Session) (y : Reply) → IsIdle (order_of here epoch number c w) → idle_reply (order_of here epoch number c w) here w ≡ Some y → follows here epoch number w ≡ false
idle_not_new here epoch number c None y idle told = refl
idle_not_new here epoch number (call.Hello name) (Some w) y idle told = go (epoch == 0 && number == 1 && w.last == 1) refl told
  where
    go : (b : Bool) → (epoch == 0 && number == 1 && w.last == 1) ≡ b → idle_reply (cond {A = CallOrder} b order.Repeat order.Astray) here (Some w) ≡ Some y → follows here epoch number (Some w) ≡ false
    go true e told =
        let last = both (epoch == 0 && number == 1) (w.last == 1) e in
        let first = both (epoch == 0) (number == 1) last.0 in
        let same : number ≡ w.last = eqb-true number 1 first.1 ∙ sym (eqb-true w.last 1 last.1) in
        ap (λ (b : Bool). epoch == here && b) (last_not_next number w.last same) ∙ and_false (epoch == here)
    go false e told = cc
idle_not_new here epoch number c (Some w) y idle told = go (epoch == here) (number == w.last) (number == w.last + 1) refl idle (λ e. last_not_next number w.last (eqb-true number w.last e))
  where
    go : (x y z : Bool) → (number == w.last) ≡ y → IsIdle (cond {A = CallOrder} x (cond {A = CallOrder} y order.Repeat (cond {A = CallOrder} z order.Next order.Astray)) order.Stale) → ((number == w.last) ≡ true → z ≡ false) → (x && z) ≡ false
    go false y z p idle later = refl
    go true true z p idle later = later p
    go true false true p idle later = absurd idle
    go true false false p idle later = refl

-- ---- a call of a session

-- it may be asked
pub turn_askable : (c : Call) → IsTurnCall c → IsAskable c
turn_askable (call.Hello name) turn = absurd turn
turn_askable c turn = turn

-- and is no greeting
pub turn_no_greeting : (c : Call) → IsTurnCall c → is_greeting c ≡ false
turn_no_greeting (call.Hello name) turn = absurd turn
turn_no_greeting c turn = refl
