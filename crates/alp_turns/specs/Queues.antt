-- The lock table's queue as the journal tells it: the requests of the calls that wait, conversions first and then by arrival.
use Rattle.std.specs.Prelude.{◌≡◌, Bool, false, not, ◌==◌, ◌&&◌, List, [], ◌∷◌, flat_map, Option, None, Some, if◌then◌else◌}
use Rattle.std.specs.List.{AllByRecursion}
use Rattle.alp_base.specs.declared.ids.TransId.{TransId}
use Rattle.alp_base.specs.declared.key.Resource.{Resource}
use Rattle.alp_files.specs.Locks.{Need}
use Rattle.alp_queue.specs.declared.waiter.Waiter.{Waiter}
use Rattle.alp_locks.specs.Tables.{Holders, held_of, holding}
use Rattle.alp_locks.specs.Asks.{waiter_of}
use Rattle.alp_journal.specs.Holder.{Holder, Life}
use Rattle.alp_journal.specs.Desk.{Waiting, file_trans, is_of}
use Rattle.alp_journal.specs.Counts.{request_in}
use Rattle.alp_journal.specs.Answered.{in_turn}

-- whoever lives holds what the table says, and nobody else holds anything
pub record AreHeldAlike (h : Holder) (parts : Holders) : Type 0 where
  pub live : (t : TransId) (l : Life) → h.lives t ≡ Some l → (r : Resource) → l.held r ≡ holding parts t r
  pub none : (t : TransId) → h.lives t ≡ None → (r : Resource) → holding parts t r ≡ None

-- no two of these calls are of one transaction
abbrev pub IsOnOther : Option TransId → Waiting → Type 0
IsOnOther x w = (t : TransId) → x ≡ Some t → is_of t (file_trans w.call) ≡ false

abbrev pub AreCallsApart : List Waiting → Type 0
AreCallsApart [] = Unit {0}
AreCallsApart (w ∷ ws) = AllByRecursion (IsOnOther (file_trans w.call)) ws × AreCallsApart ws

-- a request, as the table makes it ready
abbrev pub request_if : Bool → Holders → TransId → List Need → List Waiter
request_if asks parts t ns = if asks then waiter_of (held_of parts t) t ns ∷ [] else []

-- a call of a live part that is its client's asks for its locks, until they are granted
abbrev pub request_for : Holder → Holders → Waiting → TransId → Option Life → List Waiter
request_for h parts w t None = []
request_for h parts w t (Some l) = request_if (not w.is_granted && w.client == l.client) parts t (request_in h w.call (Some l))

abbrev pub request_at : Holder → Holders → Waiting → Option TransId → List Waiter
request_at h parts w None = []
request_at h parts w (Some t) = request_for h parts w t (h.lives t)

-- the requests of these calls
abbrev pub requests_of : Holder → Holders → List Waiting → List Waiter
requests_of h parts ws = flat_map (λ w. request_at h parts w (file_trans w.call)) ws

-- the queue: the requests in turn
abbrev pub queue_of : Holder → Holders → List Waiting → List Waiter
queue_of h parts ws = requests_of h parts (in_turn h ws)
