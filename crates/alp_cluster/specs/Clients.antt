-- The clients of a run and its servers in step: what each knows of the other.
use Rattle.std.specs.Prelude.{◌≡◌, ◌⊎◌, ℕ, ◌+◌, ◌<◌, ◌≤◌, ◌^◌, ◌==◌, Bool, List, ◌∷◌, [], length, filter, Option, None, Some, IfSome}
use Rattle.std.specs.FinMap as map
use Rattle.std.specs.List.{AllByRecursion}
use Rattle.std.specs.Option.{option_map}
use Rattle.alp_base.specs.declared.ids.Stamp.{Stamp}
use Rattle.alp_base.specs.declared.ids.TransId.{TransId}
use Rattle.alp_files.specs.declared.call.Call.{Call}
use Rattle.alp_files.specs.declared.call.Call.TheVariants as call
use Rattle.alp_files.specs.declared.reply.Reply.TheVariants as reply
use Rattle.alp_fields.specs.Forms.{whole}
use Rattle.alp_rpc.specs.Frames.{request}
use Rattle.alp_rpc.specs.declared.frame.Request.{Request}
use Rattle.alp_history.specs.Items.{Mark, Own, Repeated, Raw, Sent, stamps_told}
use Rattle.alp_history.specs.Items as items
use Rattle.alp_history.specs.Handed.{HaveSeen}
use Rattle.alp_session.specs.declared.client.Client.{Client}
use Rattle.alp_session.specs.declared.greeted.Greeted.{Greeted}
use Rattle.alp_session.specs.Frames.{KeepsRequests}
use Rattle.alp_session.specs.Crowd.{Crowd}
use Rattle.alp_session.specs.Crowds.{client_at}
use Rattle.alp_vault.specs.declared.vault.Vault.{Ghosts}
use Rattle.alp_node.specs.declared.server_state.ServerState.{ServerState}
use Rattle.alp_cluster.specs.Come.{Come, none_come, IsUpTo, IsBelow, further}
use Rattle.alp_cluster.specs.Stations.{AreOn, state_at, IsReachedBy}
use Rattle.alp_cluster.specs.declared.stations.Stations.{Stations}

-- ---- sessions

-- what the client takes for its session has come to its last number
abbrev pub come_in : Greeted → Come
come_in g = record { epoch = g.epoch; number = g.last }

-- how far the client's session with a server has come, if it has one
abbrev pub session_of : ℕ → Client → Option Come
session_of n c = option_map come_in (map.get c.sessions n)

abbrev pub HasReached : {V : Type 0} → Option (ServerState V) → ℕ → Option Come → Type 0
HasReached k client None = Unit {0}
HasReached k client (Some g) = (0 < g.epoch) × (g.number < 2 ^ 32) × IsReachedBy k client g

-- it does not go past the client's session, if it has one
abbrev pub IsWithin : Option Come → Come → Type 0
IsWithin None a = Unit {0}
IsWithin (Some g) a = IsUpTo a g

-- ---- what a client may send again

-- a greeting; or a call that is not past the client's session, and to which the server has come
abbrev pub IsPastCall : {V : Type 0} → Option (ServerState V) → ℕ → Option Come → Come → Call → Type 0
IsPastCall k client session a (call.Hello name) = Unit {0}
IsPastCall k client session a c = (0 < a.epoch) × IsWithin session a × IsReachedBy k client a

abbrev pub IsPastRequest : {V : Type 0} → Option (ServerState V) → ℕ → Option Come → Request → Type 0
IsPastRequest k client session r = IsPastCall k client session (record { epoch = r.epoch; number = r.number }) r.call

-- what the bytes spell is such a request
abbrev pub SpellsPast : {V : Type 0} → Option (ServerState V) → ℕ → Option Come → List ℕ → Type 0
SpellsPast k client session bytes = (r : Request) → whole request bytes ≡ Some r → IsPastRequest k client session r

-- what each server keeps, by its number
abbrev pub States : Type 0 → Type 0
States V = ℕ → Option (ServerState V)

-- no frame that the client may send again is a new call at its server
pub record KeepsPast {V : Type 0} (s : States V) (client : ℕ) (c : Client) : Type 0 where
  pub last : IfSome c.frames.last (λ f. SpellsPast (s f.server) client (session_of f.server c) f.bytes)
  pub before : IfSome c.frames.before (λ f. SpellsPast (s f.server) client (session_of f.server c) f.bytes)

-- Each server has come to what the client takes for its session there; no stamp that the client was told is one that clocks do not show;
-- and the frames that it may send again are requests of its own that are past.
pub record IsInStep {V : Type 0} (s : States V) (number : ℕ) (c : Client) : Type 0 where
  pub session : (n : ℕ) → HasReached (s n) number (session_of n c)
  pub told : c.told.ts ≤ 2 ^ 62
  pub frames : KeepsRequests number c
  pub past : KeepsPast s number c

-- all clients are in step with the servers
pub record InStep {V : Type 0} (G : Ghosts V) (c : Crowd) (s : Stations V) : Type 0 where
  pub on : AreOn G s
  pub places : length c.places ≡ 17
  pub each : (k : ℕ) → IsInStep (state_at s) k (client_at c k)

-- ---- what a client's list says of it

abbrev pub come_of : Sent → Come
come_of s = record { epoch = s.epoch; number = s.number }

-- how far the calls of the client's own frames have come with this one: a greeting is none of them, and a raw line's is not its own
abbrev pub come_by : Come → Call → Come → Come
come_by a (call.Hello name) b = a
come_by a c b = further a b

abbrev pub come_with : Come → Mark → Option Sent → Come
come_with a Raw s = a
come_with a m None = a
come_with a m (Some s) = come_by a s.call (come_of s)

abbrev pub come_to : Come → List items.Item → Come
come_to a [] = a
come_to a (x ∷ xs) = come_to (come_with a x.mark x.sent) xs

-- a greeting of its own is of epoch 0, and any other call of its own comes behind all before
abbrev pub IsOwnTurn : Come → Come → Call → Type 0
IsOwnTurn a b (call.Hello name) = b.epoch ≡ 0
IsOwnTurn a b c = (0 < b.epoch) × IsBelow a b

-- a call that is sent again may be any
abbrev pub IsAgainTurn : Come → Call → Type 0
IsAgainTurn b (call.Hello name) = Unit {0}
IsAgainTurn b c = 0 < b.epoch

abbrev pub IsInTurn : Come → Mark → Sent → Type 0
IsInTurn a Own s = IsOwnTurn a (come_of s) s.call
IsInTurn a Repeated s = IsAgainTurn (come_of s) s.call
IsInTurn a Raw s = Unit {0}

-- of the client with that number, but a raw line may name any
abbrev pub IsSentBy : ℕ → Come → Mark → Option Sent → Type 0
IsSentBy k a Raw s = Unit {0}
IsSentBy k a m None = ⊥
IsSentBy k a m (Some s) = (s.client ≡ k) × IsInTurn a m s

-- its own calls come one behind the other
abbrev pub AreNumbered : ℕ → Come → List items.Item → Type 0
AreNumbered k a [] = Unit {0}
AreNumbered k a (x ∷ xs) = IsSentBy k a x.mark x.sent × AreNumbered k (come_with a x.mark x.sent) xs

-- it was told that the transaction began
abbrev pub IsToldOf : TransId → List items.Item → Type 0
IsToldOf t [] = ⊥
IsToldOf t (x ∷ xs) = (x.reply ≡ Some (reply.Begun t)) ⊎ IsToldOf t xs

-- what asks for an outcome asks for that of such a transaction
abbrev pub AsksOfTold : List items.Item → Call → Type 0
AsksOfTold xs (call.Outcome t) = IsToldOf t xs
AsksOfTold xs c = Unit {0}

abbrev pub SentOfTold : List items.Item → Mark → Option Sent → Type 0
SentOfTold xs Raw s = Unit {0}
SentOfTold xs m None = Unit {0}
SentOfTold xs m (Some s) = AsksOfTold xs s.call

abbrev pub SpellsOfTold : List items.Item → List ℕ → Type 0
SpellsOfTold xs bytes = (r : Request) → whole request bytes ≡ Some r → AsksOfTold xs r.call

-- its session's last number is at most that of what it sent
abbrev pub HasSentFor : ℕ → Option Come → Type 0
HasSentFor sent None = Unit {0}
HasSentFor sent (Some g) = g.number ≤ sent

-- what a client sent to one server
abbrev pub at_server : ℕ → List items.Item → List items.Item
at_server n xs = filter (λ (x : items.Item). x.server == n) xs

-- What it sent to a server: its own calls come in turn, its session there is no further, and the server has come to all of them.
pub record HasSaidTo {V : Type 0} (s : Option (ServerState V)) (k : ℕ) (session : Option Come) (xs : List items.Item) : Type 0 where
  pub numbered : AreNumbered k none_come xs
  pub within : IsWithin session (come_to none_come xs)
  pub reached : IsReachedBy s k (come_to none_come xs)
  pub many : HasSentFor (length xs) session

-- What it sent and was handed, as its machine and the servers have it: calls in turn at each server; begins of its own that have seen all
-- that it was told; and outcomes of what it was told began.
pub record HasSaid {V : Type 0} (s : States V) (k : ℕ) (c : Client) (xs : List items.Item) : Type 0 where
  pub to : (n : ℕ) → HasSaidTo (s n) k (session_of n c) (at_server n xs)
  pub told : AllByRecursion (λ (x : items.Item). AllByRecursion (λ (s : Stamp). s.ts ≤ c.told.ts) (stamps_told x)) xs
  pub seen : HaveSeen [] xs
  pub begun : IfSome c.begun (λ t. IsToldOf t xs)
  pub last : IfSome c.frames.last (λ f. SpellsOfTold xs f.bytes)
  pub before : IfSome c.frames.before (λ f. SpellsOfTold xs f.bytes)
  pub outcomes : AllByRecursion (λ (x : items.Item). SentOfTold xs x.mark x.sent) xs

-- a client's list is short of the last number that a call may have
abbrev pub IsShort : List items.Item → Type 0
IsShort xs = length xs + 4 < 2 ^ 32
