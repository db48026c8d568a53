-- What follows of each carrier that did what `carry` promises.
use Rattle.std.specs.Prelude.{◌≡◌, ℕ, ◌+◌, ◌*◌, ◌<◌, ◌≤◌, List, [], ◌∷◌, ◌++◌, Option, None, Some, slice_get}
use Rattle.std.specs.List.{AllByRecursion}
use Rattle.alp_journal.specs.declared.message.Message.{Message}
use Rattle.alp_monitor.specs.declared.monitor.Pass.{Pass}
use Rattle.alp_carrier.specs.Sights.{Arrival, Sight}
use Rattle.alp_carrier.specs.Takes.{sent_before, messages_up_to}
use Rattle.alp_carrier.specs.Carries.{HasCarried}
use Rattle.alp_carrier.specs.declared.carrying.Carried.{Carried}
use Rattle.alp_carrier.specs.declared.route.Route.{Route}

abbrev pub message_in : Option Arrival → List Message
message_in None = []
message_in (Some a) = a.message ∷ []

-- the messages that these turns brought, in order
abbrev pub messages_of : {B E : Type 0} → Sight B E → List (ℕ × E) → List Message
messages_of sight [] = []
messages_of sight (t ∷ ts) = message_in (sight.arrived t.1) ++ messages_of sight ts

-- what these messages weigh together
abbrev pub weight_of : (Message → ℕ) → List Message → ℕ
weight_of w [] = 0
weight_of w (m ∷ ms) = w m + weight_of w ms

module _ {S B E : Type 0} (base_of : S → B) (sight : Sight B E) where
  -- The turn brought a message of the pair, which the sender had sent by an entry with a smaller rank. Its pass saw that, at a place that was taken.
  pub record WasSentBefore (r : Route S B E) (c : Carried S B E) (t : ℕ × E) : Type 0 where
    pub arrival : Arrival
    pub arrived_is : sight.arrived t.1 ≡ Some arrival
    pub from_is : arrival.from ≡ r.pair.from
    pub place : ℕ
    pub among : (r.pair.first ≤ place) × (place < c.next)
    pub rank : ℕ
    pub sent_is : slice_get (sent_before base_of sight r.from.now c.sender) place ≡ Some (rank, record { to = r.pair.to; message = arrival.message })
    pub earlier : rank < arrival.rank

  -- each turn at the receiver did that
  abbrev pub BringsWhatWasSent : Type 0
  BringsWhatWasSent = (r : Route S B E) (seed : ℕ) (sender receiver : Pass S B E) (c : Carried S B E)
      → (h : HasCarried base_of sight r seed sender receiver c) → AllByRecursion (WasSentBefore r c) h.brings.more

  -- whatever messages weigh, those that were brought weigh at most twice those that were taken
  abbrev pub BringsTwiceAtMost : Type 0
  BringsTwiceAtMost = (r : Route S B E) (seed : ℕ) (sender receiver : Pass S B E) (c : Carried S B E)
      → (h : HasCarried base_of sight r seed sender receiver c) (w : Message → ℕ)
      → weight_of w (messages_of sight h.brings.more) ≤ 2 * weight_of w (messages_up_to base_of sight r.from.now r.pair c.next c.sender)
