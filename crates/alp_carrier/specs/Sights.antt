-- What a carrier sees of a server.
use Rattle.std.specs.Prelude.{◌≡◌, ◌⊎◌, ℕ, ◌+◌, ◌≤◌, max, List, [], ◌∷◌, ◌++◌, Option, Some, slice_get}
use mathlib.Core.List.{IsPrefix}
use Rattle.alp_journal.specs.declared.message.Envelope.{Envelope}
use Rattle.alp_journal.specs.declared.message.Message.{Message}

-- a message that an entry brought: the server that sent it, and the entry's rank
pub record Arrival : Type 0 where
  pub from : ℕ
  pub message : Message
  pub rank : ℕ

-- What carriers see of a server. Its base and the list of its entries say all of it.
pub record Sight (B E : Type 0) : Type 1 where
  -- all that it sent, in order, each with the rank of the entry that sent it
  pub sent : B → List E → List (ℕ × Envelope)
  -- the message that an entry brought, if it brought one
  pub arrived : E → Option Arrival
  -- the rank of the last entry
  pub last : B → List E → ℕ
  -- it takes no entry more: it is down, or its journal is full
  pub is_shut : B → List E → Type 0
  -- memory was refused as this message of that server was to come; nothing but `deliver` tells it
  pub is_starved : B → List E → ℕ → Message → Type 0
  -- a message that may be brought
  pub is_timely : Message → Type 0
  -- what was sent stays sent, at its place
  pub stays : (b : B) (es more : List E) → IsPrefix (sent b es) (sent b (es ++ more))

module _ {B E : Type 0} (sight : Sight B E) (b : B) where
  -- The envelope stands at this place of all that was sent. The entry that sent it has no rank above the last one. It may be brought.
  pub record IsShown (es : List E) (place : ℕ) (e : Envelope) : Type 0 where
    pub rank : ℕ
    pub sent_is : slice_get (sight.sent b es) place ≡ Some (rank, e)
    pub earlier : rank ≤ sight.last b es
    pub timely : sight.is_timely e.message

  -- the rank of a message that comes after these entries, whose sender's last rank was `seen`
  abbrev pub next_rank : List E → ℕ → ℕ
  next_rank es seen = max (sight.last b es) seen + 1

  -- the entry brought this message, after these entries
  abbrev pub IsArrival : ℕ → Message → ℕ → List E → E → Type 0
  IsArrival from m seen es e = sight.arrived e ≡ Some (record { from = from; message = m; rank = next_rank es seen })

  -- one entry more brought the message, or none did and the server is shut
  abbrev pub Arrives : ℕ → Message → ℕ → List E → List E → Type 0
  Arrives from m seen before now = ((e : E) × (now ≡ before ++ e ∷ []) × IsArrival from m seen before e) ⊎ ((now ≡ before) × sight.is_shut b before)
