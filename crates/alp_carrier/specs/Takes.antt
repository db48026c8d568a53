-- What a carrier takes at the sender.
use Rattle.std.specs.Prelude.{◌≡◌, ℕ, ◌+◌, ◌≤◌, ◌==◌, List, [], ◌∷◌, length, take, drop, map as list_map, if◌then◌else◌}
use mathlib.Core.List.{IsPrefix}
use Rattle.alp_journal.specs.declared.message.Envelope.{Envelope}
use Rattle.alp_journal.specs.declared.message.Message.{Message}
use Rattle.alp_monitor.specs.History.{entries_in}
use Rattle.alp_monitor.specs.Passes.{IsHeld, number, front, first_base}
use Rattle.alp_monitor.specs.declared.monitor.Monitor.{Monitor}
use Rattle.alp_monitor.specs.declared.monitor.Pass.{Pass}
use Rattle.alp_carrier.specs.Sights.{Sight, IsShown}
use Rattle.alp_carrier.specs.declared.route.Pair.{Pair}
use Rattle.alp_carrier.specs.declared.taken.Taken.{Taken}

-- the messages to that server among these envelopes, in order
abbrev pub addressed_to : ℕ → List (ℕ × Envelope) → List Message
addressed_to to [] = []
addressed_to to (x ∷ xs) = if x.1.to == to then x.1.message ∷ addressed_to to xs else addressed_to to xs

abbrev pub message_of : Taken → Message
message_of x = x.message

module _ {S B E : Type 0} (base_of : S → B) where
  -- one pass of this monitor, before and after some turns
  pub record IsLater (m : Monitor S B E) (before now : Pass S B E) : Type 0 where
    pub held : IsHeld base_of m (number before) now
    pub begins : IsPrefix (front before) (front now)

module _ {S B E : Type 0} (base_of : S → B) (sight : Sight B E) (m : Monitor S B E) where
  -- all that the monitor's server sent, as far as the pass saw
  abbrev pub sent_before : Pass S B E → List (ℕ × Envelope)
  sent_before p = sight.sent (first_base base_of m) (entries_in (front p))

  -- the rank of the last entry that the pass saw
  abbrev pub last_before : Pass S B E → ℕ
  last_before p = sight.last (first_base base_of m) (entries_in (front p))

  -- the pair's messages from its first place up to the next one, in order
  abbrev pub messages_up_to : Pair → ℕ → Pass S B E → List Message
  messages_up_to pair next p = addressed_to pair.to (drop pair.first (take next (sent_before p)))

  -- the pass saw it sent to that server, after so many entries, the last of which had the rank that it was taken with
  pub record WasSeen (to : ℕ) (p : Pass S B E) (x : Taken) : Type 0 where
    pub after : ℕ
    pub within : after ≤ length (front p)
    pub place : ℕ
    pub shown : IsShown sight (first_base base_of m) (take after (entries_in (front p))) place (record { to = to; message = x.message })
    pub seen_is : x.seen ≡ sight.last (first_base base_of m) (take after (entries_in (front p)))

  -- they were seen one after the other, each at a place of its own: none before the place k, and all before the place `next`
  abbrev pub AreSeen : ℕ → Pass S B E → ℕ → ℕ → List Taken → Type 0
  AreSeen to p next k [] = k ≤ next
  AreSeen to p next k (x ∷ xs) = (s : WasSeen to p x) × (k ≤ s.place) × AreSeen to p next (s.place + 1) xs

  -- these are just those messages
  pub record AreTaken (pair : Pair) (next : ℕ) (p : Pass S B E) (taken : List Taken) : Type 0 where
    pub from_first : pair.first ≤ next
    pub within : next ≤ length (sent_before p)
    pub are : list_map message_of taken ≡ messages_up_to pair next p
    pub seen : AreSeen pair.to p next pair.first taken
