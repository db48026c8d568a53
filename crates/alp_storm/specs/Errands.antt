-- What a thread of a storm is to do, and what it gives back.
use Rattle.std.specs.Prelude.{◌≡◌, ◌≢◌, ℕ, ◌+◌, ◌*◌, ◌%◌, ◌^◌, ◌≤◌, ◌<◌, List, [], length, set, Option, None, Some, slice_get}
use Rattle.alp_session.specs.Crowds.{client_at}
use Rattle.alp_session.specs.Frames.{IsReady}
use Rattle.alp_jobs.specs.States.{JobState}
use Rattle.alp_monitor.specs.Passes.{turns, front, first_base}
use Rattle.alp_monitor.specs.declared.monitor.Monitor.{Monitor}
use Rattle.alp_monitor.specs.declared.monitor.Pass.{Pass}
use Rattle.alp_carrier.specs.Sights.{Sight}
use Rattle.alp_carrier.specs.Takes.{sent_before}
use Rattle.alp_carrier.specs.Carries.{HasCarried}
use Rattle.alp_carrier.specs.declared.carrying.Carried.{Carried}
use Rattle.alp_carrier.specs.declared.route.Pair.{Pair}
use Rattle.alp_carrier.specs.declared.route.Route.{Route}
use Rattle.alp_storm.specs.Logs.{Log}
use Rattle.alp_storm.specs.Rings.{IsRing}
use Rattle.alp_storm.specs.Works.{IsBack}
use Rattle.alp_storm.specs.declared.errand.Errand.{Errand}
use Rattle.alp_storm.specs.declared.errand.Task.{Task}
use Rattle.alp_storm.specs.declared.errand.Task.TheVariants.{Work, Carry}

-- two servers of so many
pub record IsPairOf (servers : ℕ) (pair : Pair) : Type 0 where
  pub sender : (1 ≤ pair.from) × (pair.from ≤ servers)
  pub receiver : (1 ≤ pair.to) × (pair.to ≤ servers)
  pub apart : pair.from ≢ pair.to

-- the seed of a pair, by that of the plan
abbrev pub seed_of : ℕ → Pair → ℕ
seed_of seed pair = (seed + (16 * pair.from + pair.to)) % 2 ^ 64

module _ {S B E : Type 0} (base_of : S → B) (sight : Sight B E) where
  -- its first place is none beyond what its pass saw sent
  abbrev pub IsFirst : List (Monitor S B E) → Pair → List (Pass S B E) → Type 0
  IsFirst ms pair ps = (i : ℕ) (m : Monitor S B E) (p : Pass S B E) → pair.from ≡ i + 1 → slice_get ms i ≡ Some m → slice_get ps i ≡ Some p → pair.first ≤ length (sent_before base_of sight m p)

  -- between these monitors it did what alp_carrier promises, by the plan of the pair
  pub record HasCarriedOn (seed : ℕ) (pair : Pair) (a b : Monitor S B E) (sender receiver : Pass S B E) (carried : Carried S B E) : Type 0 where
    pub route : Route S B E
    pub pair_is : route.pair ≡ pair
    pub from_is : route.from.now ≡ a
    pub to_is : route.to.now ≡ b
    pub did : HasCarried base_of sight route (seed_of seed pair) sender receiver carried

  -- a carrier came back with its passes, and the other passes of its ring are as they were
  pub record HasGone (seed : ℕ) (ms : List (Monitor S B E)) (pair : Pair) (ring ring_now : List (Pass S B E)) (next lost : ℕ) : Type 0 where
    pub here : ℕ
    pub there : ℕ
    pub here_is : pair.from ≡ here + 1
    pub there_is : pair.to ≡ there + 1
    pub sends : Monitor S B E
    pub receives : Monitor S B E
    pub sends_is : slice_get ms here ≡ Some sends
    pub receives_is : slice_get ms there ≡ Some receives
    pub sender : Pass S B E
    pub receiver : Pass S B E
    pub sender_is : slice_get ring here ≡ Some sender
    pub receiver_is : slice_get ring there ≡ Some receiver
    pub carried : Carried S B E
    pub next_is : carried.next ≡ next
    pub lost_is : carried.lost ≡ lost
    pub ring_is : ring_now ≡ set (set ring here carried.sender) there carried.receiver
    pub did : HasCarriedOn seed pair sends receives sender receiver carried

  abbrev pub HasCarriedTask : ℕ → List (Monitor S B E) → Pair → List (Pass S B E) → Task → List (Pass S B E) → Type 0
  HasCarriedTask seed ms pair ring (Carry to next lost) ring_now = (to ≡ pair) × HasGone seed ms pair ring ring_now next lost
  HasCarriedTask seed ms pair ring (Work job fault) ring_now = ⊥

  abbrev pub HasCarriedBy : ℕ → List (Monitor S B E) → Pair → List (Pass S B E) → Errand S B E → Type 0
  HasCarriedBy seed ms pair ring d = HasCarriedTask seed ms pair ring d.task d.ring.items

  -- a task that the passes serve for
  abbrev pub FitsTask : List (Monitor S B E) → List (Pass S B E) → Task → Type 0
  FitsTask ms ring (Work job fault) = IsReady job.number (client_at job.crowd job.number)
  FitsTask ms ring (Carry pair next lost) = IsPairOf (length ms) pair × IsFirst ms pair ring

  -- an errand with the number k, whose passes may enter
  pub record IsDue (ms : List (Monitor S B E)) (k : ℕ) (d : Errand S B E) : Type 0 where
    pub ring_is : IsRing base_of ms k d.ring.items
    pub fits : FitsTask ms d.ring.items d.task

  abbrev pub AreDue : List (Monitor S B E) → List (Errand S B E) → Type 0
  AreDue ms ds = (k : ℕ) (d : Errand S B E) → slice_get ds k ≡ Some d → IsDue ms k d

module _ {S B E : Type 0} (base_of : S → B) (log : Log B E) (sight : Sight B E) (seed : ℕ) where
  -- the task was done
  abbrev pub DidTask : List (Monitor S B E) → ℕ → Task → List (Pass S B E) → Task → List (Pass S B E) → Type 0
  DidTask ms k (Work job fault) ring (Work now fault_now) ring_now = IsBack base_of log ms k fault_now job ring now ring_now
  DidTask ms k (Carry pair next lost) ring (Carry to next_now lost_now) ring_now = (to ≡ pair) × HasGone base_of sight seed ms pair ring ring_now next_now lost_now
  DidTask ms k t ring u ring_now = ⊥

  -- the errand with the number k came back, as this
  pub record IsDone (ms : List (Monitor S B E)) (k : ℕ) (before now : Errand S B E) : Type 0 where
    pub ring_is : IsRing base_of ms k now.ring.items
    pub did : DidTask ms k before.task before.ring.items now.task now.ring.items

  -- so did all of them
  pub record AreDone (ms : List (Monitor S B E)) (before now : List (Errand S B E)) : Type 0 where
    pub long : length now ≡ length before
    pub each : (k : ℕ) (d e : Errand S B E) → slice_get before k ≡ Some d → slice_get now k ≡ Some e → IsDone ms k d e
