-- A carrier on its way.
use Rattle.std.specs.Prelude.{◌≡◌, ℕ, ◌≤◌, Bool, false, List, length, None, IfSome, option_to_list}
use Rattle.alp_monitor.specs.Passes.{IsHeld, number, turns}
use Rattle.alp_monitor.specs.declared.monitor.Monitor.{Monitor}
use Rattle.alp_monitor.specs.declared.monitor.Pass.{Pass}
use Rattle.alp_carrier.specs.Sights.{Sight}
use Rattle.alp_carrier.specs.Plans.{dice_of, plan_step, plan_steps}
use Rattle.alp_carrier.specs.Takes.{IsLater, AreTaken, sent_before}
use Rattle.alp_carrier.specs.Brings.{Brings}
use Rattle.alp_carrier.specs.declared.carrying.Carried.{Carried}
use Rattle.alp_carrier.specs.declared.carrying.Way.{Way}
use Rattle.alp_carrier.specs.declared.route.Route.{Route}
use Rattle.alp_carrier.specs.declared.steps.Delivery.{Delivery}
use Rattle.alp_carrier.specs.declared.taken.Taken.{Taken}

-- the delivery of a pass that lost nothing yet
abbrev pub unlost : {S B E : Type 0} → Pass S B E → Delivery S B E
unlost p = record { pass = p; lost = 0 }

module _ {S B E : Type 0} (base_of : S → B) (sight : Sight B E) (m : Monitor S B E) (from : ℕ) where
  -- the message's roll was made, and what that brings was brought
  pub record HasRolled (x : Taken) (before now : Way S B E) : Type 0 where
    pub sender : now.sender ≡ before.sender
    pub next_is : now.next ≡ before.next
    pub dice : now.dice ≡ (plan_step (before.dice, before.delayed) x).1.0
    pub delayed : now.delayed ≡ (plan_step (before.dice, before.delayed) x).1.1
    pub timely : IfSome now.delayed (λ y. sight.is_timely y.message)
    pub brings : Brings base_of sight m from before.delivery now.delivery (plan_step (before.dice, before.delayed) x).0

  -- what was still delayed was brought too
  pub record Finishes (w : Way S B E) (c : Carried S B E) : Type 0 where
    pub sender : c.sender ≡ w.sender
    pub next_is : c.next ≡ w.next
    pub brings : Brings base_of sight m from w.delivery (record { pass = c.receiver; lost = c.lost }) (option_to_list w.delayed)

module _ {S B E : Type 0} (base_of : S → B) (sight : Sight B E) (r : Route S B E) where
  -- its passes may enter, and what it delays may come
  pub record IsReadyToGo (w : Way S B E) : Type 0 where
    pub sender : IsHeld base_of r.from.now (number w.sender) w.sender
    pub receiver : IsHeld base_of r.to.now (number w.delivery.pass) w.delivery.pass
    pub delayed : IfSome w.delayed (λ x. sight.is_timely x.message)

  -- It came so far since it had these passes: the rolls of what it took were made, and what they bring was brought.
  pub record IsOnWay (seed : ℕ) (sender receiver : Pass S B E) (w : Way S B E) : Type 0 where
    pub sends : IsLater base_of r.from.now sender w.sender
    pub looks : turns w.sender ≡ turns sender
    pub taken : List Taken
    pub are_taken : AreTaken base_of sight r.from.now r.pair w.next w.sender taken
    pub brings : Brings base_of sight r.to.now r.pair.from (unlost receiver) w.delivery (plan_steps (dice_of seed, None) taken).0
    pub dice : w.dice ≡ (plan_steps (dice_of seed, None) taken).1.0
    pub delayed : w.delayed ≡ (plan_steps (dice_of seed, None) taken).1.1

  -- it goes on, wherever it came from; where it took nothing, it saw nothing more sent
  pub record GoesOn (before now : Way S B E) (took : Bool) : Type 0 where
    pub ready : IsReadyToGo now
    pub all : took ≡ false → length (sent_before base_of sight r.from.now now.sender) ≤ now.next
    pub on : (seed : ℕ) (sender receiver : Pass S B E) → IsOnWay seed sender receiver before → IsOnWay seed sender receiver now
