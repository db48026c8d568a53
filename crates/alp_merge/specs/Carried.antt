-- What carriers brought to a server, as turns of a storm.
use Rattle.std.specs.Prelude.{◌≡◌, ℕ, ◌+◌, ◌≤◌, ◌^◌, ◌*◌, true, List, [], ◌∷◌, ◌++◌, length, take, drop, flat_map, map as list_map, slice_get, Option, None, Some}
use Rattle.std.specs.List.{AllByRecursion, list_any}
use mathlib.Core.List.{IsPrefix}
use Rattle.alp_carrier.specs.Carries.{HasCarried}
use Rattle.alp_carrier.specs.Claims.{weight_of}
use Rattle.alp_carrier.specs.Plans.{planned}
use Rattle.alp_carrier.specs.Sights.{Arrival, Sight}
use Rattle.alp_carrier.specs.Takes.{addressed_to, message_of}
use Rattle.alp_carrier.specs.declared.carrying.Carried.{Carried}
use Rattle.alp_carrier.specs.declared.route.Route.{Route}
use Rattle.alp_carrier.specs.declared.taken.Taken.{Taken}
use Rattle.alp_journal.specs.Answered.{entries_limit}
use Rattle.alp_journal.specs.Moves.{stops}
use Rattle.alp_journal.specs.declared.act.Act.{Act}
use Rattle.alp_journal.specs.declared.act.Act.TheVariants as act
use Rattle.alp_journal.specs.declared.event.Event.{Event}
use Rattle.alp_journal.specs.declared.event.Event.TheVariants as event
use Rattle.alp_journal.specs.declared.message.Envelope.{Envelope}
use Rattle.alp_journal.specs.declared.message.Message.{Message}
use Rattle.alp_monitor.specs.History.{entries_in}
use Rattle.alp_monitor.specs.Passes.{front, turns, first_base}
use Rattle.alp_monitor.specs.declared.monitor.Pass.{Pass}
use Rattle.alp_course.specs.Courses.{Seat, last_rank, IsSentBy, Occurrence, comes}
use Rattle.alp_merge.specs.Served.{Ranked, entries_of, ranks_of, seat_behind, AreTurnsOf}

-- ---- what entries send and bring

abbrev pub sent_by : Act → List Envelope
sent_by (act.Sent to m) = record { to = to; message = m } ∷ []
sent_by a = []

abbrev pub ranked_as : ℕ → Envelope → ℕ × Envelope
ranked_as rank e = (rank, e)

abbrev pub sent_at : Ranked → List (ℕ × Envelope)
sent_at x = list_map (ranked_as x.rank) (flat_map sent_by x.entry.acts)

-- all that these entries sent, each with the rank of its entry
abbrev pub sent_in : List Ranked → List (ℕ × Envelope)
sent_in xs = flat_map sent_at xs

abbrev pub arrival_by : ℕ → Event → Option Arrival
arrival_by rank (event.Arrive from m) = Some (record { from = from; message = m; rank = rank })
arrival_by rank e = None

-- A server takes no entry more behind these: one of them stopped it, or it has no place left.
pub data IsShutBehind (xs : List Ranked) : Type 0 where
  stopped : list_any (λ (x : Ranked). stops x.entry) xs ≡ true → IsShutBehind xs
  full : entries_limit ≤ length xs → IsShutBehind xs

-- What carriers see of a server with this base is what its entries say, those of the base first.
pub record IsReadAs {B E : Type 0} (sight : Sight B E) (base : B → List Ranked) (read : E → Ranked) (b : B) : Type 0 where
  pub sent_is : (es : List E) → sight.sent b es ≡ sent_in (base b ++ list_map read es)
  pub last_is : (es : List E) → sight.last b es ≡ last_rank (ranks_of (base b ++ list_map read es))
  pub arrived_is : (e : E) → sight.arrived e ≡ arrival_by (read e).rank (read e).entry.event
  pub shut_is : (es : List E) → sight.is_shut b es → IsShutBehind (base b ++ list_map read es)

-- the server stood as these entries say
pub record IsBased (s : Seat) (base : List Ranked) : Type 0 where
  pub journal : s.journal ≡ entries_of base
  pub ranks : s.ranks ≡ ranks_of base

-- ---- what is brought

-- Why a message does not come to a server behind these entries of it, where memory may have been refused. It was taken at that rank.
pub data IsKeptOff (Starved : Type 0) (seen : ℕ) (xs : List Ranked) : Type 0 where
  shut : IsShutBehind xs → IsKeptOff Starved seen xs
  starved : Starved → IsKeptOff Starved seen xs
  ranks_end_here : 2 ^ 62 ≤ last_rank (ranks_of xs) → IsKeptOff Starved seen xs
  ranks_end_there : 2 ^ 62 ≤ seen → IsKeptOff Starved seen xs

module _ (Starved : ℕ → Message → Type 0) (from to : ℕ) (base entries : List Ranked) where
  -- From this place of the receiver's further entries on, one after the other: each message came by an entry, or did not for a cause.
  -- Nothing else came from there.
  pub data AreBroughtTo : ℕ → List Taken → List Occurrence → Type 0 where
    nothing : (place : ℕ) → AreBroughtTo place [] []
    one_came : (place at_place : ℕ) (x : Taken) (e : Ranked) (xs : List Taken) (os : List Occurrence) → place ≤ at_place → slice_get entries at_place ≡ Some e → e.entry.event ≡ event.Arrive from x.message
        → AreBroughtTo (at_place + 1) xs os → AreBroughtTo place (x ∷ xs) (comes from to x.message x.seen ∷ os)
    one_missed : (place behind : ℕ) (x : Taken) (xs : List Taken) (os : List Occurrence) → place ≤ behind → behind ≤ length entries → IsKeptOff (Starved behind x.message) x.seen (base ++ take behind entries)
        → AreBroughtTo behind xs os → AreBroughtTo place (x ∷ xs) os

-- A message was taken behind so many of its sender's further entries. What it saw is the last rank there.
pub record WasTakenBehind (there there_more : List Ranked) (x : Taken) : Type 0 where
  pub behind : ℕ
  pub within : behind ≤ length there_more
  pub seen_is : x.seen ≡ last_rank (ranks_of (there ++ take behind there_more))

-- These are the messages to a server from this place of all that the sender sent up to some next one, in order and each once. They were
-- brought as the plan of the seed says.
pub record AreCarriedBy (Starved : ℕ → Message → Type 0) (seed first : ℕ) (from to : ℕ) (there here : List Ranked) (there_more here_more : List Ranked) (taken : List Taken) (done : List Occurrence) : Type 0 where
  pub next : ℕ
  pub from_first : first ≤ next
  pub within : next ≤ length (sent_in (there ++ there_more))
  pub are : list_map message_of taken ≡ addressed_to to (drop first (take next (sent_in (there ++ there_more))))
  pub seen : AllByRecursion (WasTakenBehind there there_more) taken
  pub brought : AreBroughtTo Starved from to here here_more 0 (planned seed taken) done

-- ---- the law

module _ {S B E : Type 0} (base_of : S → B) (sight : Sight B E) (base : B → List Ranked) (read : E → Ranked) where
  abbrev pub base_there : Route S B E → List Ranked
  base_there r = base (first_base base_of r.from.now)

  abbrev pub base_here : Route S B E → List Ranked
  base_here r = base (first_base base_of r.to.now)

  abbrev pub all_read : List (ℕ × E) → List Ranked
  all_read history = list_map read (entries_in history)

  abbrev pub read_turn : ℕ × E → ℕ × Ranked
  read_turn t = (t.0, read t.1)

  abbrev pub was_starved : Route S B E → List (ℕ × E) → ℕ → Message → Type 0
  was_starved r history behind m = sight.is_starved (first_base base_of r.to.now) (take behind (entries_in history)) r.pair.from m

  -- the sender sent it, as its entries say in the end
  abbrev pub WasSentThere : Route S B E → Seat → List (ℕ × E) → Occurrence → Type 0
  WasSentThere r s there (comes from to m seen) = (from ≡ r.pair.from) × (to ≡ r.pair.to) × IsSentBy (seat_behind s (all_read there)) to m seen
  WasSentThere r s there o = ⊥

  -- What a carrier did where both histories are known in the end: its turns brought messages that were sent before, by the plan.
  pub record IsCarrying (r : Route S B E) (seed : ℕ) (s t : Seat) (there here : List (ℕ × E)) (c : Carried S B E) : Type 0 where
    pub done : List Occurrence
    pub are : AreTurnsOf t r.pair.to (all_read here) done (list_map read_turn (turns c.receiver))
    pub sent : AllByRecursion (WasSentThere r s there) done
    pub taken : List Taken
    pub carried : AreCarriedBy (was_starved r here) seed r.pair.first r.pair.from r.pair.to (base_there r) (base_here r) (all_read there) (all_read here) taken done

module _ {S B E : Type 0} (base_of : S → B) (sight : Sight B E) where
  -- Each carrier that began with new passes did that.
  abbrev pub CarriersTakeTurns : Type 0
  CarriersTakeTurns = (base : B → List Ranked) (read : E → Ranked) (r : Route S B E) → IsReadAs sight base read (first_base base_of r.from.now) → IsReadAs sight base read (first_base base_of r.to.now) → (seed : ℕ) (sender receiver : Pass S B E) (c : Carried S B E) → HasCarried base_of sight r seed sender receiver c
      → turns receiver ≡ [] → front receiver ≡ [] → (s t : Seat) → IsBased s (base_there base_of sight base read r) → IsBased t (base_here base_of sight base read r)
      → (there here : List (ℕ × E)) → IsPrefix (front c.sender) there → IsPrefix (front c.receiver) here → IsCarrying base_of sight base read r seed s t there here c

-- ---- how often a message comes

abbrev pub message_by : Occurrence → List Message
message_by (comes from to m seen) = m ∷ []
message_by o = []

-- the messages that these occurrences brought, in order
abbrev pub messages_by : List Occurrence → List Message
messages_by [] = []
messages_by (o ∷ os) = message_by o ++ messages_by os

-- Whatever messages weigh, those that were brought weigh at most twice those that were taken: each comes at most twice as often as it was sent.
-- So it is even where memory may have been refused each time.
abbrev pub ComeTwiceAtMost : Type 0
ComeTwiceAtMost = (seed first from to : ℕ) (there here there_more here_more : List Ranked) (taken : List Taken) (done : List Occurrence)
    → (h : AreCarriedBy (λ (behind : ℕ) (m : Message). Unit {0}) seed first from to there here there_more here_more taken done) (w : Message → ℕ)
    → weight_of w (messages_by done) ≤ 2 * weight_of w (addressed_to to (drop first (take h.next (sent_in (there ++ there_more)))))
