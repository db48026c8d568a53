-- What a carrier did when it is done.
use Rattle.std.specs.Prelude.{◌≡◌, ◌⊎◌, ℕ, List, length}
use Rattle.alp_monitor.specs.Passes.{turns}
use Rattle.alp_monitor.specs.declared.monitor.Pass.{Pass}
use Rattle.alp_carrier.specs.Sights.{Sight}
use Rattle.alp_carrier.specs.Plans.{planned}
use Rattle.alp_carrier.specs.Takes.{IsLater, AreTaken, sent_before}
use Rattle.alp_carrier.specs.Brings.{Brings}
use Rattle.alp_carrier.specs.OnWay.{unlost}
use Rattle.alp_carrier.specs.declared.carrying.Carried.{Carried}
use Rattle.alp_carrier.specs.declared.route.Route.{Route}
use Rattle.alp_carrier.specs.declared.taken.Taken.{Taken}

module _ {S B E : Type 0} (base_of : S → B) (sight : Sight B E) (r : Route S B E) where
  -- With these passes it took the messages of the pair, without an entry at the sender. It stopped where its pass saw nothing more sent, or
  -- at the last place. At the receiver it brought of them what the plan of the seed says, but for those that were missed.
  pub record HasCarried (seed : ℕ) (sender receiver : Pass S B E) (c : Carried S B E) : Type 0 where
    pub sends : IsLater base_of r.from.now sender c.sender
    pub looks : turns c.sender ≡ turns sender
    pub taken : List Taken
    pub are_taken : AreTaken base_of sight r.from.now r.pair c.next c.sender taken
    pub ended : (c.next ≡ 4294967295) ⊎ (length (sent_before base_of sight r.from.now c.sender) ≡ c.next)
    pub brings : Brings base_of sight r.to.now r.pair.from (unlost receiver) (record { pass = c.receiver; lost = c.lost }) (planned seed taken)
