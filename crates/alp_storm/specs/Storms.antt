-- A storm: monitors of all servers, opened and closed, and an errand for each thread.
use Rattle.std.specs.Prelude.{◌≡◌, ◌≢◌, ◌⊎◌, ℕ, zero, suc, ◌+◌, ◌<◌, ◌≤◌, ◌==◌, if◌then◌else◌, min, Bool, true, false, List, [], ◌∷◌, ◌++◌, length, map, Option, None, Some, slice_get, slice_index_or, Vec}
use Rattle.std.specs.List.{list_any}
use Rattle.std.specs.Vec.{vec_len, vec_capacity}
use Rattle.std.specs.Global.{Global}
use mathlib.Core.List.{IsPrefix}
use Rattle.alp_journal.specs.Moves.{stops}
use Rattle.alp_session.specs.Crowds.{client_at}
use Rattle.alp_session.specs.Frames.{IsReady}
use Rattle.alp_jobs.specs.States.{JobState}
use Rattle.alp_monitor.specs.History.{entries_in, turns_of}
use Rattle.alp_monitor.specs.Passes.{turns, front, first_base, pass_count}
use Rattle.alp_monitor.specs.declared.monitor.Monitor.{Monitor}
use Rattle.alp_monitor.specs.declared.monitor.Pass.{Pass}
use Rattle.alp_carrier.specs.Sights.{Sight}
use Rattle.alp_carrier.specs.declared.route.Pair.{Pair}
use Rattle.alp_storm.specs.Logs.{Log}
use Rattle.alp_storm.specs.Rings.{IsRing}
use Rattle.alp_storm.specs.Errands.{AreDone}
use Rattle.alp_storm.specs.declared.errand.Errand.{Errand}
use Rattle.alp_storm.specs.declared.errand.Task.{Task}
use Rattle.alp_storm.specs.declared.errand.Task.TheVariants.{Work, Carry}
use Rattle.alp_storm.specs.declared.fault.StormFault.{StormFault}
use Rattle.alp_storm.specs.declared.fault.StormFault.TheVariants as fault

module _ {S B E : Type 0} where
  -- new passes: they made no turns and saw no history
  abbrev pub AreFirst : List (Pass S B E) → Type 0
  AreFirst ps = (i : ℕ) (p : Pass S B E) → slice_get ps i ≡ Some p → (turns p ≡ []) × (front p ≡ [])

  -- each ring has a pass
  abbrev pub HaveLast : List (Errand S B E) → Type 0
  HaveLast ds = (k : ℕ) (d : Errand S B E) → k < length ds → 0 < length (slice_index_or ds k d).ring.items

  -- each errand gives the last pass of its ring
  abbrev pub Gathers : List (Errand S B E) → List (Errand S B E) → List (Pass S B E) → Type 0
  Gathers before now room = (k : ℕ) (d : Errand S B E) (p : Pass S B E) → k < length before →
      ((slice_index_or before k d).ring.items ≡ (slice_index_or now k d).ring.items ++ slice_index_or room k p ∷ [])
      × ((slice_index_or now k d).task ≡ (slice_index_or before k d).task)

  -- each ring has room for one more
  abbrev pub HaveSpace : List (Errand S B E) → Type 0
  HaveSpace ds = (k : ℕ) (d : Errand S B E) → k < length ds → vec_len (slice_index_or ds k d).ring < vec_capacity (slice_index_or ds k d).ring

  -- each errand has one pass more, and is else as it was
  abbrev pub Spreads : List (Errand S B E) → List (Errand S B E) → List (Pass S B E) → Type 0
  Spreads before now room = (k : ℕ) (d : Errand S B E) (p : Pass S B E) → k < length before →
      ((slice_index_or now k d).ring.items ≡ (slice_index_or before k d).ring.items ++ slice_index_or room k p ∷ [])
      × ((slice_index_or now k d).task ≡ (slice_index_or before k d).task)
      × (vec_capacity (slice_index_or now k d).ring ≡ vec_capacity (slice_index_or before k d).ring)

  -- the tasks are the same
  abbrev pub task_of : Errand S B E → Task
  task_of d = d.task

  abbrev pub HaveTasks : List (Errand S B E) → List (Errand S B E) → Type 0
  HaveTasks before now = (k : ℕ) (d e : Errand S B E) → slice_get before k ≡ Some d → slice_get now k ≡ Some e → e.task ≡ d.task

  -- each monitor made so many passes
  abbrev pub AllCount : List (Monitor S B E) → ℕ → Type 0
  AllCount ms n = (i : ℕ) (m : Monitor S B E) → slice_get ms i ≡ Some m → pass_count m ≡ n

  -- empty lists with room for so many passes
  abbrev pub AreRooms : List (Vec (Pass S B E) Global) → ℕ → Type 0
  AreRooms rooms n = (i : ℕ) (v : Vec (Pass S B E) Global) → slice_get rooms i ≡ Some v → (v.items ≡ []) × (vec_len v ≡ 0) × (n ≤ vec_capacity v)

-- the states have the bases that they had
abbrev pub KeepBases : {S B : Type 0} → (S → B) → List S → List S → Type 0
KeepBases {S} {B} base_of ys zs = (i : ℕ) (y z : S) → slice_get ys i ≡ Some y → slice_get zs i ≡ Some z → base_of z ≡ base_of y

module _ {S B E : Type 0} (base_of : S → B) where
  abbrev pub AreRings : List (Monitor S B E) → List (Errand S B E) → Type 0
  AreRings ms ds = (k : ℕ) (d : Errand S B E) → slice_get ds k ≡ Some d → IsRing base_of ms k d.ring.items

  -- an errand among so many servers, whose ring has new passes of the monitors that stand open
  pub record IsOpen (n : ℕ) (ms : List (Monitor S B E)) (k : ℕ) (d : Errand S B E) : Type 0 where
    pub ring : IsRing base_of ms k d.ring.items
    pub fresh : AreFirst d.ring.items
    pub space : n ≤ vec_capacity d.ring

  abbrev pub AreOpen : ℕ → List (Monitor S B E) → List (Errand S B E) → Type 0
  AreOpen n ms ds = (k : ℕ) (d : Errand S B E) → slice_get ds k ≡ Some d → IsOpen n ms k d

  -- the monitors were made of states with these bases
  abbrev pub AreOf : List (Monitor S B E) → List S → Type 0
  AreOf ms ys = (i : ℕ) (m : Monitor S B E) (y : S) → slice_get ms i ≡ Some m → slice_get ys i ≡ Some y → first_base base_of m ≡ base_of y

module _ {S B E : Type 0} (base_of : S → B) (entries_of : S → List E) where
  -- no state has an entry
  abbrev pub AreEmpty : List S → Type 0
  AreEmpty ys = (i : ℕ) (y : S) → slice_get ys i ≡ Some y → entries_of y ≡ []

  -- the states have the bases that they had, and no entries
  abbrev pub AreAsBefore : List S → List S → Type 0
  AreAsBefore ys zs = (i : ℕ) (y z : S) → slice_get ys i ≡ Some y → slice_get zs i ≡ Some z → (base_of z ≡ base_of y) × (entries_of z ≡ [])

  -- all monitors stand open, and each errand has a pass at each
  pub record Opened (n : ℕ) (ys : List S) (ms : List (Monitor S B E)) (rooms : List (Vec (Pass S B E) Global)) (before ds : List (Errand S B E)) : Type 0 where
    pub open_are : AreOpen base_of n ms ds
    pub counts : AllCount ms (length ds)
    pub rooms_are : AreRooms rooms (length ds)
    pub monitors_long : length ms ≡ length ys
    pub rooms_long : length rooms ≡ length ys
    pub of : AreOf base_of ms ys
    pub tasks : HaveTasks before ds

  -- The state of the monitor at the place i, once the errands gave their passes back. Its entries are those of one history: it begins with
  -- what each pass saw, has the turns of each, and no others.
  pub record IsClosed (m : Monitor S B E) (i : ℕ) (ds : List (Errand S B E)) (y : S) : Type 0 where
    pub base_is : base_of y ≡ first_base base_of m
    pub history : List (ℕ × E)
    pub told_is : entries_in history ≡ entries_of y
    pub fronts : (k : ℕ) (d : Errand S B E) (p : Pass S B E) → slice_get ds k ≡ Some d → slice_get d.ring.items i ≡ Some p → IsPrefix (front p) history
    pub turns_are : (k : ℕ) (d : Errand S B E) (p : Pass S B E) → slice_get ds k ≡ Some d → slice_get d.ring.items i ≡ Some p → turns_of k history ≡ turns p
    pub makers : (n : ℕ) (x : ℕ × E) → slice_get history n ≡ Some x → x.0 < length ds

  abbrev pub AreClosed : List (Monitor S B E) → List (Errand S B E) → List S → Type 0
  AreClosed ms ds ys = (i : ℕ) (m : Monitor S B E) (y : S) → slice_get ms i ≡ Some m → slice_get ys i ≡ Some y → IsClosed m i ds y

-- ---- errands

abbrev pub work : JobState → Task
work j = Work j None

-- from one server to another, from that place on
abbrev pub carrier_to : (from first to : ℕ) → List Task
carrier_to from first to = if to == from then [] else Carry (record { from = from; to = to; first = first }) 0 0 ∷ []

-- from one server to each of so many others, in order, from the same place on
abbrev pub carriers_to : (from first : ℕ) → ℕ → List Task
carriers_to from first zero = []
carriers_to from first (suc to) = carriers_to from first to ++ carrier_to from first (suc to)

-- from each of these servers, with its first place, to each of so many
abbrev pub carriers_from : (servers : ℕ) → ℕ → List ℕ → List Task
carriers_from n k [] = []
carriers_from n k (first ∷ firsts) = carriers_to (k + 1) first n ++ carriers_from n (k + 1) firsts

-- what tasks came to: their jobs, and the first fault of these
abbrev pub job_in : Task → List JobState
job_in (Work j f) = j ∷ []
job_in (Carry pair next lost) = []

abbrev pub jobs_in : List Task → List JobState
jobs_in [] = []
jobs_in (t ∷ ts) = job_in t ++ jobs_in ts

abbrev pub fault_in : Task → Option StormFault
fault_in (Work j f) = f
fault_in (Carry pair next lost) = None

abbrev pub or_else : Option StormFault → Option StormFault → Option StormFault
or_else None g = g
or_else (Some f) g = Some f

abbrev pub first_fault : List Task → Option StormFault
first_fault [] = None
first_fault (t ∷ ts) = or_else (fault_in t) (first_fault ts)

module _ {S B E : Type 0} (base_of : S → B) (sight : Sight B E) where
  -- the end of what a server sent before the storm, as a place of 32 bits
  abbrev pub end_of : S → ℕ
  end_of y = min (length (sight.sent (base_of y) [])) 4294967295

  -- a worker for each job, by number, and then a carrier for each ordered pair of servers
  abbrev pub tasks_for : List S → List JobState → List Task
  tasks_for ys jobs = map work jobs ++ carriers_from (length ys) 0 (map end_of ys)

-- each client is one that may ask
abbrev pub AreReady : List JobState → Type 0
AreReady jobs = (k : ℕ) (j : JobState) → slice_get jobs k ≡ Some j → IsReady j.number (client_at j.crowd j.number)

module _ {S B E : Type 0} (base_of : S → B) (entries_of : S → List E) (log : Log B E) (sight : Sight B E) where
  -- the first of these servers that went down, or nothing
  abbrev pub is_down : S → Bool
  is_down y = list_any (λ x. stops (log.entry x)) (entries_of y)

  -- it names the first of these servers that is down, or none is
  abbrev pub IsDownFault : List S → Option StormFault → Type 0
  IsDownFault [] None = Unit {0}
  IsDownFault [] (Some f) = ⊥
  IsDownFault (y ∷ ys) g = ((is_down y ≡ true) × (g ≡ Some (fault.DiskFault (log.server (base_of y))))) ⊎ ((is_down y ≡ false) × IsDownFault ys g)

  -- The errands were done at these monitors, and the servers are what the monitors gave as they were closed. The fault is the first of the
  -- jobs, by number, or that of the first server that is down.
  pub record HasRun (seed : ℕ) (ms : List (Monitor S B E)) (begun : List (Errand S B E)) (zs : List S) (jobs : List JobState) (f : Option StormFault) : Type 0 where
    pub done : List (Errand S B E)
    pub long : length zs ≡ length ms
    pub did : AreDone base_of log sight seed ms begun done
    pub closed : AreClosed base_of entries_of ms done zs
    pub jobs_are : jobs ≡ jobs_in (map task_of done)
    pub later : Option StormFault
    pub fault_is : f ≡ or_else (first_fault (map task_of done)) later
    pub later_is : IsDownFault zs later

  -- A storm over these servers, of these jobs. There is a monitor of each server, and an errand for each job and each ordered pair, with a new
  -- pass at each monitor. Each errand was done. The servers are what the monitors gave as they were closed.
  pub record IsStorm (seed : ℕ) (ys : List S) (jobs : List JobState) (zs : List S) (jobs_now : List JobState) (f : Option StormFault) : Type 0 where
    pub monitors : List (Monitor S B E)
    pub begun : List (Errand S B E)
    pub long : length monitors ≡ length ys
    pub of : AreOf base_of monitors ys
    pub tasks : map task_of begun ≡ tasks_for base_of sight ys jobs
    pub fresh : (k : ℕ) (d : Errand S B E) → slice_get begun k ≡ Some d → IsRing base_of monitors k d.ring.items × AreFirst d.ring.items
    pub ran : HasRun seed monitors begun zs jobs_now f

  -- what came of it: a storm; or memory was refused before the first thread, and all is as it was
  pub data HasStormed (seed : ℕ) (ys : List S) (jobs : List JobState) (zs : List S) (jobs_now : List JobState) (f : Option StormFault) : Type 0 where
    stormed : IsStorm seed ys jobs zs jobs_now f → HasStormed seed ys jobs zs jobs_now f
    refused : f ≡ Some fault.OutOfMemory → AreAsBefore base_of entries_of ys zs → jobs_now ≡ jobs → HasStormed seed ys jobs zs jobs_now f
