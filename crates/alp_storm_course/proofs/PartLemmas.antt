-- What each errand did, as turns at all servers.
use Rattle.std.specs.Prelude.{◌==◌, min, Bool, true, false, filter, take, set, map as list_map, slice_get, Option, None, Some, if◌then◌else◌}
use Rattle.std.specs.List.{AllByRecursion}
use Rattle.std.proofs.Common.{◌≡◌, ◌≢◌, ◌⊎◌, ℕ, zero, suc, ◌+◌, ◌-◌, ◌<◌, ◌≤◌, List, [], ◌∷◌, ◌++◌, length, inl, inr, refl, sym, ◌∙◌, ap, subst, arith, eq-eqb, ne_eqb}
use Rattle.std.proofs.lemmas.Bool.{cases_eq}
use Rattle.std.proofs.lemmas.List.{append-nil}
use mathlib.Core.List.{IsPrefix}
use Rattle.alp_carrier.specs.Sights.{Sight}
use Rattle.alp_carrier.specs.declared.route.Pair.{Pair}
use Rattle.alp_carrier.specs.declared.taken.Taken.{Taken}
use Rattle.alp_jobs.specs.Deeds.{Deed}
use Rattle.alp_jobs.specs.Does.{DoesJob}
use Rattle.alp_jobs.specs.Jobs.{DoesRest}
use Rattle.alp_jobs.specs.States.{JobState}
use Rattle.alp_jobs.proofs.RestLemmas.{new_does}
use Rattle.alp_journal.specs.declared.message.Envelope.{Envelope}
use Rattle.alp_journal.specs.declared.message.Message.{Message}
use Rattle.alp_lines.specs.declared.line.Line.{Line}
use Rattle.alp_monitor.specs.History.{entries_in, turns_from, turns_of}
use Rattle.alp_monitor.specs.Passes.{front, turns, first_base}
use Rattle.alp_monitor.specs.declared.monitor.Monitor.{Monitor}
use Rattle.alp_monitor.specs.declared.monitor.Pass.{Pass}
use Rattle.alp_session.specs.Crowd.{Crowd}
use Rattle.alp_session.specs.Crowds.{lent_crowd}
use Rattle.alp_course.specs.Courses.{Course, Seat, seat_at, IsOneOf, IsSeat, IsSentBy, Occurrence, at as happens_at, comes}
use Rattle.alp_merge.specs.Carried.{sent_in, IsReadAs, IsBased, IsKeptOff, shut, starved, ranks_end_here, ranks_end_there, AreBroughtTo, nothing, one_came, one_missed, AreCarriedBy, base_there, base_here, was_starved, WasSentThere, IsCarrying}
use Rattle.alp_merge.specs.Closed.{WasSentTo}
use Rattle.alp_merge.specs.Served.{Ranked, entries_of as entries_of_ranked, ranks_of, seat_behind, AreTurnsOf}
use Rattle.alp_merge.specs.Storms.{place_of, happening_of, deeds_at, items_of, pair_seed, ranked_with, entries_at, first_place, IsBy}
use Rattle.alp_merge.specs.Turns.{Who, worker, carrier}
use Rattle.alp_merge.proofs.CarriedLemmas.{carriers}
use Rattle.alp_storm.specs.Errands.{HasGone, DidTask}
use Rattle.alp_storm.specs.Logs.{Log}
use Rattle.alp_storm.specs.Rings.{IsRing}
use Rattle.alp_storm.specs.Storms.{IsStorm as IsStormOfThreads, IsClosed, AreFirst, task_of, tasks_for, end_of, fault_in, first_fault, or_else}
use Rattle.alp_storm.specs.Works.{server_of, HasWorked, Takes, deeds_at as deeds_there, items_of as items_there, AreTurnsOf as AreTurnsThere}
use Rattle.alp_storm.specs.declared.errand.Errand.{Errand}
use Rattle.alp_storm.specs.declared.errand.Task.{Task}
use Rattle.alp_storm.specs.declared.errand.Task.TheVariants.{Work, Carry}
use Rattle.alp_storm.specs.declared.fault.StormFault.{StormFault}
use Rattle.alp_storm_course.specs.Joins.{IsRead, IsSeatOf, AreHosts, AreNewJobs, is_job_of, starved_at}
use Rattle.alp_storm_course.proofs.TaskLemmas.{same_some, none_some, get_at, get_within, get_map, get_mapped, IsKnown, job_task, carry_task, is_job, who_of}
use Rattle.alp_storm_course.proofs.WorkerLemmas.{same_place, same_items, worker_turns}

-- ---- lists

module _ {A : Type 0} where
  set_same : (xs : List A) (i : ℕ) (x : A) → i < length xs → slice_get (set xs i x) i ≡ Some x
  set_same [] i x less = absurd (omega (arith, less))
  set_same (y ∷ xs) zero x less = refl
  set_same (y ∷ xs) (suc i) x less = set_same xs i x (omega (arith, less))

  set_other : (xs : List A) (i k : ℕ) (x : A) → k ≢ i → slice_get (set xs i x) k ≡ slice_get xs k
  set_other [] i k x away = refl
  set_other (y ∷ xs) zero zero x away = absurd (away refl)
  set_other (y ∷ xs) zero (suc k) x away = refl
  set_other (y ∷ xs) (suc i) zero x away = refl
  set_other (y ∷ xs) (suc i) (suc k) x away = set_other xs i k x (λ same. away (omega (arith, same)))

  set_long : (xs : List A) (i : ℕ) (x : A) → length (set xs i x) ≡ length xs
  set_long [] i x = refl
  set_long (y ∷ xs) zero x = refl
  set_long (y ∷ xs) (suc i) x = ap suc (set_long xs i x)

all_mapped : {A C : Type 0} (P : C → Type 0) (f : A → C) (xs : List A) → ((x : A) → P (f x)) → AllByRecursion P (list_map f xs)
all_mapped P f [] each = tt
all_mapped P f (x ∷ xs) each = (each x, all_mapped P f xs each)

all_turned : {A : Type 0} (P Q : A → Type 0) (xs : List A) → ((x : A) → P x → Q x) → AllByRecursion P xs → AllByRecursion Q xs
all_turned P Q [] f all = tt
all_turned P Q (x ∷ xs) f all = (f x all.0, all_turned P Q xs f all.1)

-- ---- histories that are read

module _ {E : Type 0} (read : E → Ranked) where
  abbrev pub read_of : ℕ × E → ℕ × Ranked
  read_of t = (t.0, read t.1)

  pub entries_read : (h : List (ℕ × E)) → entries_in (list_map read_of h) ≡ list_map read (entries_in h)
  entries_read [] = refl
  entries_read (x ∷ h) = ap (λ (l : List Ranked). read x.1 ∷ l) (entries_read h)

  turns_read_from : (n k : ℕ) (h : List (ℕ × E)) → turns_from n k (list_map read_of h) ≡ list_map read_of (turns_from n k h)
  turns_read_from n k [] = refl
  turns_read_from n k (x ∷ h) = go (x.0 == k) (turns_read_from (suc n) k h)
    where
      go : (b : Bool) → turns_from (suc n) k (list_map read_of h) ≡ list_map read_of (turns_from (suc n) k h)
          → (if b then (n, read x.1) ∷ turns_from (suc n) k (list_map read_of h) else turns_from (suc n) k (list_map read_of h)) ≡ list_map read_of (if b then (n, x.1) ∷ turns_from (suc n) k h else turns_from (suc n) k h)
      go true more = ap (λ (l : List (ℕ × Ranked)). (n, read x.1) ∷ l) more
      go false more = more

  pub turns_read : (k : ℕ) (h : List (ℕ × E)) → turns_of k (list_map read_of h) ≡ list_map read_of (turns_of k h)
  turns_read k h = turns_read_from 0 k h

-- ---- what a carrier brought, said otherwise

brought_with : (P Q : ℕ → Message → Type 0) (from to : ℕ) (there here : List Ranked) → ((k : ℕ) (m : Message) → P k m → Q k m) → (place : ℕ) (xs : List Taken) (os : List Occurrence) → AreBroughtTo P from to there here place xs os → AreBroughtTo Q from to there here place xs os
brought_with P Q from to there here f place xs os (nothing k) = nothing k
brought_with P Q from to there here f place xs os (one_came k at_place x e zs qs above at came more) = one_came k at_place x e zs qs above at came (brought_with P Q from to there here f (at_place + 1) zs qs more)
brought_with P Q from to there here f place xs os (one_missed k behind x zs qs above low why more) = one_missed k behind x zs qs above low (other why) (brought_with P Q from to there here f behind zs qs more)
  where
    other : IsKeptOff (P behind x.message) x.seen (there ++ take behind here) → IsKeptOff (Q behind x.message) x.seen (there ++ take behind here)
    other (shut is) = shut is
    other (starved is) = starved (f behind x.message is)
    other (ranks_end_here up) = ranks_end_here up
    other (ranks_end_there up) = ranks_end_there up

-- ---- faults

no_fault : (ts : List Task) (k : ℕ) (t : Task) → first_fault ts ≡ None → slice_get ts k ≡ Some t → fault_in t ≡ None
no_fault [] k t none is = absurd (none_some t None refl is)
no_fault (x ∷ ts) k t none is = go (fault_in x) refl k is none (λ m e at. no_fault ts m t e at)
  where
    go : (o : Option StormFault) → fault_in x ≡ o → (k : ℕ) → slice_get (x ∷ ts) k ≡ Some t → or_else (fault_in x) (first_fault ts) ≡ None → ((m : ℕ) → first_fault ts ≡ None → slice_get ts m ≡ Some t → fault_in t ≡ None) → fault_in t ≡ None
    go None e zero at all more = ap fault_in (sym (same_some x t at)) ∙ e
    go None e (suc k) at all more = more k (sym (ap (λ (o : Option StormFault). or_else o (first_fault ts)) e) ∙ all) at
    go (Some f) e k at all more = absurd (let wrong : Some f ≡ None = sym (ap (λ (o : Option StormFault). or_else o (first_fault ts)) e) ∙ all in cc)

or_first : (a b : Option StormFault) → None ≡ or_else a b → a ≡ None
or_first None b e = refl
or_first (Some f) b e = absurd (let wrong : None ≡ Some f = e in cc)

pub or_second : (a b : Option StormFault) → None ≡ or_else a b → b ≡ None
or_second None b e = sym e
or_second (Some f) b e = absurd (let wrong : None ≡ Some f = e in cc)

-- ---- the history of a server

module _ {S B E : Type 0} (base_of : S → B) (entries_of : S → List E) where
  -- what `IsClosed` says of it
  pub record IsHistory (m : Monitor S B E) (i : ℕ) (ds : List (Errand S B E)) (y : S) (history : List (ℕ × E)) : Type 0 where
    pub base_is : base_of y ≡ first_base base_of m
    pub told_is : entries_in history ≡ entries_of y
    pub fronts : (k : ℕ) (d : Errand S B E) (p : Pass S B E) → slice_get ds k ≡ Some d → slice_get d.ring.items i ≡ Some p → IsPrefix (front p) history
    pub turns_are : (k : ℕ) (d : Errand S B E) (p : Pass S B E) → slice_get ds k ≡ Some d → slice_get d.ring.items i ≡ Some p → turns_of k history ≡ turns p
    pub makers : (n : ℕ) (x : ℕ × E) → slice_get history n ≡ Some x → x.0 < length ds

  is_history : (m : Monitor S B E) (i : ℕ) (ds : List (Errand S B E)) (y : S) (c : IsClosed base_of entries_of m i ds y) → IsHistory m i ds y c.history
  is_history m i ds y c = record { base_is = c.base_is; told_is = c.told_is; fronts = c.fronts; turns_are = c.turns_are; makers = c.makers }

module _ {S B E : Type 0} (base_of : S → B) (entries_of : S → List E) (log : Log B E) (sight : Sight B E) (base : B → List Ranked) (read : E → Ranked) (r : Course) (c : Crowd) (lines : ℕ → List (List Line)) (seed : ℕ) (ys : List S) (jobs : List JobState) (zs : List S) (jobs_now : List JobState) (hosts : AreHosts base_of entries_of log sight base read r ys zs)
    (new_jobs : AreNewJobs c lines jobs) (st : IsStormOfThreads base_of entries_of log sight seed ys jobs zs jobs_now None) where
  -- a history for each place, which is that of the server there
  pub record HistoryAt (i : ℕ) : Type 0 where
    pub history : List (ℕ × E)
    pub is : (m : Monitor S B E) (z : S) → slice_get st.monitors i ≡ Some m → slice_get zs i ≡ Some z → IsHistory base_of entries_of m i st.ran.done z history

  pub history_at : (i : ℕ) → HistoryAt i
  history_at i = go (slice_get st.monitors i) refl (slice_get zs i) refl
    where
      go : (om : Option (Monitor S B E)) → slice_get st.monitors i ≡ om → (oz : Option S) → slice_get zs i ≡ oz → HistoryAt i
      go None pm oz pz = record { history = []; is = λ m z qm qz. absurd (none_some m (slice_get st.monitors i) pm qm) }
      go (Some m) pm None pz = record { history = []; is = λ n z qm qz. absurd (none_some z (slice_get zs i) pz qz) }
      go (Some m) pm (Some z) pz = record {
        history = (st.ran.closed i m z pm pz).history;
        is = λ n w qm qw. subst (λ (y : S). IsHistory base_of entries_of n i st.ran.done y (st.ran.closed i m z pm pz).history) (same_some z w (sym pz ∙ qw))
            (subst (λ (k : Monitor S B E). IsHistory base_of entries_of k i st.ran.done z (st.ran.closed i m z pm pz).history) (same_some m n (sym pm ∙ qm)) (is_history base_of entries_of m i st.ran.done z (st.ran.closed i m z pm pz)));
      }

  -- of the server of this number
  abbrev pub hist : ℕ → List (ℕ × E)
  hist n = (history_at (n - 1)).history

  abbrev pub history : ℕ → List (ℕ × Ranked)
  history n = list_map (read_of read) (hist n)

  abbrev pub all_of : ℕ → List Ranked
  all_of n = list_map read (entries_in (hist n))

  abbrev pub last : ℕ → Seat
  last n = seat_behind (seat_at r n) (entries_in (history n))

  -- the server of a seat, as the threads began and in the end
  pub record IsPlace (n : ℕ) : Type 0 where
    pub monitor : Monitor S B E
    pub begun : S
    pub final : S
    pub monitor_is : slice_get st.monitors (n - 1) ≡ Some monitor
    pub final_is : slice_get zs (n - 1) ≡ Some final
    pub begun_is : slice_get ys (n - 1) ≡ Some begun
    pub base_is : first_base base_of monitor ≡ base_of begun
    pub host : IsSeatOf base_of entries_of log sight base read (seat_at r n) n begun

  pub place : (n : ℕ) → IsSeat r n → IsPlace n
  place n s =
      let number : n - 1 + 1 ≡ n = (let some : 1 ≤ n = s.first in omega (arith, some)) in
      let long : length ys ≡ length r.seats = hosts.long in
      let ms : length st.monitors ≡ length ys = st.long in
      let finals : length zs ≡ length ys = st.ran.long ∙ st.long in
      let less : n - 1 < length ys = (let low : n ≤ length r.seats = s.last in omega (arith, number, low, long)) in
      let (m, mis) = get_at st.monitors (n - 1) (omega (arith, less, ms)) in
      let (y, yis) = get_at ys (n - 1) less in
      let (z, zis) = get_at zs (n - 1) (omega (arith, less, finals)) in
      record {
        monitor = m;
        begun = y;
        final = z;
        monitor_is = mis;
        final_is = zis;
        begun_is = yis;
        base_is = st.of (n - 1) m y mis yis;
        host = subst (λ (k : ℕ). IsSeatOf base_of entries_of log sight base read (seat_at r k) k y) number (hosts.begun (n - 1) y yis);
      }

  pub its_history : (n : ℕ) (p : IsPlace n) → IsHistory base_of entries_of p.monitor (n - 1) st.ran.done p.final (hist n)
  its_history n p = (history_at (n - 1)).is p.monitor p.final p.monitor_is p.final_is

  -- its seat stands as the base of its monitor says
  based_in : (n : ℕ) (p : IsPlace n) → IsBased (seat_at r n) (base (first_base base_of p.monitor))
  based_in n p = subst (λ (b : B). IsBased (seat_at r n) (base b)) (sym p.base_is) p.host.based

  -- and what is seen of that base is what it says
  reads_in : (n : ℕ) (p : IsPlace n) → IsRead log sight base read (first_base base_of p.monitor)
  reads_in n p = subst (λ (b : B). IsRead log sight base read b) (sym p.base_is) p.host.reads

  -- ---- the parts

  abbrev pub tasks : List Task
  tasks = list_map task_of st.begun

  pub tasks_are : tasks ≡ tasks_for base_of sight ys jobs
  tasks_are = st.tasks

  -- a job that came back is that of these deeds
  pub record IsKept (k : ℕ) (now : JobState) (deeds : List Deed) (knows : Crowd) : Type 0 where
    pub job : JobState
    pub was : slice_get jobs k ≡ Some job
    pub number_is : now.number ≡ job.number
    pub items_are : now.items ≡ items_of deeds
    pub crowd_is : now.crowd ≡ knows

  -- what one errand did
  pub record IsPart (k : ℕ) : Type 0 where
    pub who_is : Who
    pub whose : who_is ≡ who_of (slice_get tasks k)
    pub deeds : List Deed
    pub knows : Crowd
    pub took : List Taken
    pub did : ℕ → List Occurrence
    pub turns_are : k < length st.ran.done → (n : ℕ) → IsSeat r n → AreTurnsOf (seat_at r n) n (all_of n) (did n) (list_map (read_of read) (turns_of k (hist n)))
    pub sent : (n : ℕ) → AllByRecursion (WasSentTo (length r.seats) last) (did n)
    pub by_whom : (n : ℕ) → AllByRecursion (IsBy (is_job_of jobs) who_is) (did n)
    pub among : AllByRecursion (λ (x : Deed). IsSeat r (place_of x)) deeds
    pub idle : ((j : JobState) (f : Option StormFault) → slice_get tasks k ≡ Some (Work j f) → ⊥) → deeds ≡ []
    pub kept : (e : Errand S B E) (now : JobState) (f : Option StormFault) → slice_get st.ran.done k ≡ Some e → e.task ≡ Work now f → IsKept k now deeds knows
    pub works : (j : JobState) (f : Option StormFault) → slice_get tasks k ≡ Some (Work j f) → ((n : ℕ) → did n ≡ deeds_at j.number n deeds) × DoesJob j.number (lines j.number) (lent_crowd c j.number) deeds knows
    pub carries : (pair : Pair) (x y : ℕ) → slice_get tasks k ≡ Some (Carry pair x y)
        → AreCarriedBy (starved_at base_of entries_of log sight base read zs pair.from pair.to) (pair_seed seed pair.from pair.to) (first_place r pair.from) pair.from pair.to (entries_at r pair.from) (entries_at r pair.to) (entries_in (history pair.from)) (entries_in (history pair.to)) took (did pair.to)

  -- at a server where its pass took no turn
  no_turns : (k : ℕ) (d e : Errand S B E) → slice_get st.ran.done k ≡ Some e → (n : ℕ) (p : IsPlace n) (q : Pass S B E) → slice_get e.ring.items (n - 1) ≡ Some q → turns q ≡ []
      → AreTurnsOf (seat_at r n) n (all_of n) [] (list_map (read_of read) (turns_of k (hist n)))
  no_turns k d e there n p q at none =
      subst (λ (ts : List (ℕ × E)). AreTurnsOf (seat_at r n) n (all_of n) [] (list_map (read_of read) ts)) (sym ((its_history n p).turns_are k e q there at ∙ none)) tt

  -- nobody's
  nobodys : (k : ℕ) → slice_get st.begun k ≡ None → IsPart k
  nobodys k none = record {
    who_is = carrier 0 0;
    whose = sym (ap who_of (no_task st.begun k none));
    deeds = [];
    knows = c;
    took = [];
    did = λ n. [];
    turns_are = λ less n s. absurd (let same : length st.ran.done ≡ length st.begun = st.ran.did.long in let (d, is) = get_at st.begun k (omega (arith, less, same)) in none_some d (slice_get st.begun k) none is);
    sent = λ n. tt;
    by_whom = λ n. tt;
    among = tt;
    idle = λ workless. refl;
    kept = λ e now f at is. absurd (let low : k < length st.ran.done = get_within st.ran.done k e at in let same : length st.ran.done ≡ length st.begun = st.ran.did.long in let (d, there) = get_at st.begun k (omega (arith, low, same)) in none_some d (slice_get st.begun k) none there);
    works = λ j f is. absurd (none_some (Work j f) (slice_get tasks k) (no_task st.begun k none) is);
    carries = λ pair x y is. absurd (none_some (Carry pair x y) (slice_get tasks k) (no_task st.begun k none) is);
  }
    where
      no_task : (ds : List (Errand S B E)) (i : ℕ) → slice_get ds i ≡ None → slice_get (list_map task_of ds) i ≡ None
      no_task [] i is = refl
      no_task (d ∷ ds) zero is = absurd (none_some d (Some d) is refl)
      no_task (d ∷ ds) (suc i) is = no_task ds i is

  -- ---- a worker's

  module _ (k : ℕ) (d e : Errand S B E) (begun_is : slice_get st.begun k ≡ Some d) (done_is : slice_get st.ran.done k ≡ Some e) where
    task_is : slice_get tasks k ≡ Some d.task
    task_is = get_map task_of st.begun k d begun_is

    ring_is : IsRing base_of st.monitors k d.ring.items
    ring_is = (st.fresh k d begun_is).0

    fresh : AreFirst d.ring.items
    fresh = (st.fresh k d begun_is).1

    ring_now : IsRing base_of st.monitors k e.ring.items
    ring_now = (st.ran.did.each k d e begun_is done_is).ring_is

    -- a pass of the ring at a server
    pass_at : (ps : List (Pass S B E)) → IsRing base_of st.monitors k ps → (n : ℕ) (p : IsPlace n) → (q : Pass S B E) × (slice_get ps (n - 1) ≡ Some q)
    pass_at ps ring n p =
        let long : length ps ≡ length st.monitors = ring.long in
        let less : n - 1 < length st.monitors = get_within st.monitors (n - 1) p.monitor p.monitor_is in
        get_at ps (n - 1) (omega (arith, long, less))

    module _ (j now : JobState) (f : Option StormFault) (its : d.task ≡ Work j f) (came : e.task ≡ Work now None) (h : HasWorked base_of log st.monitors k j d.ring.items now e.ring.items) (ended : DoesRest now [] now.crowd) where
      abbrev worker_did : ℕ → List Occurrence
      worker_did n = deeds_at j.number n h.deeds

      in_jobs : slice_get jobs k ≡ Some j
      in_jobs = job_task jobs (length ys) (list_map (end_of base_of sight) ys) k j f (ap (λ (ts : List Task). slice_get ts k) (sym tasks_are) ∙ (task_is ∙ ap (λ (t : Task). Some t) its))

      does_job : DoesJob j.number (lines j.number) (lent_crowd c j.number) h.deeds now.crowd
      does_job =
          let all : DoesRest j h.deeds now.crowd = subst (λ (ds : List Deed). DoesRest j ds now.crowd) (append-nil h.deeds) (h.did [] now.crowd ended) in
          new_does j.number (lines j.number) (lent_crowd c j.number) h.deeds now.crowd (subst (λ (x : JobState). DoesRest x h.deeds now.crowd) (new_jobs.new k j in_jobs) all)

      worked_turns : (n : ℕ) → IsSeat r n → AreTurnsOf (seat_at r n) n (all_of n) (worker_did n) (list_map (read_of read) (turns_of k (hist n)))
      worked_turns n s =
          let p : IsPlace n = place n s in
          let (old, old_is) = pass_at d.ring.items ring_is n p in
          let (new, new_is) = pass_at e.ring.items ring_now n p in
          let number : n - 1 + 1 ≡ n = (let some : 1 ≤ n = s.first in omega (arith, some)) in
          let t : Takes base_of log p.monitor (deeds_there (n - 1 + 1) h.deeds) old new = h.took (n - 1) p.monitor old new p.monitor_is old_is new_is in
          let its_turns : turns_of k (hist n) ≡ t.more = (its_history n p).turns_are k e new done_is new_is ∙ (t.turns_are ∙ ap (λ (l : List (ℕ × E)). l ++ t.more) (fresh (n - 1) old old_is).0) in
          let b : B = first_base base_of p.monitor in
          subst (λ (ts : List (ℕ × E)). AreTurnsOf (seat_at r n) n (all_of n) (worker_did n) (list_map (read_of read) ts)) (sym its_turns)
          (worker_turns log sight base read b (reads_in n p) (seat_at r n) n (based_in n p) (p.host.placed ∙ ap log.since (sym p.base_is)) (p.host.epoch_is ∙ ap log.epoch (sym p.base_is)) p.host.server_is (front new) (hist n)
          ((its_history n p).fronts k e new done_is new_is) j.number h.deeds t.more (subst (λ (m : ℕ). AreTurnsThere log b (front new) (deeds_there m h.deeds) t.more) number t.deeds_are))

      workers : IsPart k
      workers = record {
        who_is = worker j.number;
        whose = sym (ap who_of (task_is ∙ ap (λ (t : Task). Some t) its));
        deeds = h.deeds;
        knows = now.crowd;
        took = [];
        did = worker_did;
        turns_are = λ less n s. worked_turns n s;
        sent = λ n. all_mapped (WasSentTo (length r.seats) last) (λ (x : Deed). happens_at n (happening_of j.number x)) (filter (λ (x : Deed). place_of x == n) h.deeds) (λ x. tt);
        by_whom = λ n. all_mapped (IsBy (is_job_of jobs) (worker j.number)) (λ (x : Deed). happens_at n (happening_of j.number x)) (filter (λ (x : Deed). place_of x == n) h.deeds) (λ x. is_job jobs k j in_jobs);
        idle = λ workless. absurd (workless j f (task_is ∙ ap (λ (t : Task). Some t) its));
        kept = λ x back g at is. subst (λ (y : JobState). IsKept k y h.deeds now.crowd) (now_same (sym came ∙ (ap (λ (y : Errand S B E). y.task) (same_some e x (sym done_is ∙ at)) ∙ is))) (record {
          job = j;
          was = in_jobs;
          number_is = h.number_is;
          items_are = h.items_are ∙ (ap (λ (y : JobState). y.items ++ items_there h.deeds) (new_jobs.new k j in_jobs) ∙ same_items h.deeds);
          crowd_is = refl;
        });
        among = all_turned (λ (x : Deed). (1 ≤ server_of x) × (server_of x ≤ length st.monitors)) (λ (x : Deed). IsSeat r (place_of x)) h.deeds (λ x known. its_seat x known) h.within;
        works = λ x g is. (let same : j ≡ x = job_same (sym (task_is ∙ ap (λ (t : Task). Some t) its) ∙ is) in subst (λ (y : JobState). ((n : ℕ) → worker_did n ≡ deeds_at y.number n h.deeds) × DoesJob y.number (lines y.number) (lent_crowd c y.number) h.deeds now.crowd) same (λ n. refl, does_job));
        carries = λ pair x y is. absurd (let wrong : Some (Work j f) ≡ Some (Carry pair x y) = sym (task_is ∙ ap (λ (t : Task). Some t) its) ∙ is in cc);
      }
        where
          its_seat : (x : Deed) → (1 ≤ server_of x) × (server_of x ≤ length st.monitors) → IsSeat r (place_of x)
          its_seat x known =
              let same : place_of x ≡ server_of x = same_place x in
              let ms : length st.monitors ≡ length ys = st.long in
              let all : length ys ≡ length r.seats = hosts.long in
              let one : 1 ≤ server_of x = known.0 in
              let low : server_of x ≤ length st.monitors = known.1 in
              record { first = omega (arith, same, one); last = omega (arith, same, low, ms, all) }

          job_same : {x : JobState} {g : Option StormFault} → Some (Work j f) ≡ Some (Work x g) → j ≡ x
          job_same e = cc

          now_same : {x : JobState} {g : Option StormFault} → Work now None ≡ Work x g → now ≡ x
          now_same e = cc

    -- ---- a carrier's

    module _ (pair : Pair) (next lost next_now lost_now : ℕ) (its : d.task ≡ Carry pair next lost) (no_work : (now : JobState) (f : Option StormFault) → e.task ≡ Work now f → ⊥) (g : HasGone base_of sight seed st.monitors pair d.ring.items e.ring.items next_now lost_now) where
      known : IsKnown (length ys) 0 (list_map (end_of base_of sight) ys) (Carry pair next lost)
      known = carry_task jobs (length ys) (list_map (end_of base_of sight) ys) k pair next lost (ap (λ (ts : List Task). slice_get ts k) (sym tasks_are) ∙ (task_is ∙ ap (λ (t : Task). Some t) its))

      from_seat : IsSeat r pair.from
      from_seat = record {
        first = (let some : 0 < pair.from = known.0 in omega (arith, some));
        last = (let less : g.here < length st.monitors = get_within st.monitors g.here g.sends g.sends_is in let is : pair.from ≡ g.here + 1 = g.here_is in let ms : length st.monitors ≡ length ys = st.long in let all : length ys ≡ length r.seats = hosts.long in omega (arith, less, is, ms, all));
      }

      to_seat : IsSeat r pair.to
      to_seat = record { first = known.1; last = (let low : pair.to ≤ length ys = known.2 in let all : length ys ≡ length r.seats = hosts.long in omega (arith, low, all)) }

      here_is : g.here ≡ pair.from - 1
      here_is = (let is : pair.from ≡ g.here + 1 = g.here_is in omega (arith, is))

      there_is : g.there ≡ pair.to - 1
      there_is = (let is : pair.to ≡ g.there + 1 = g.there_is in omega (arith, is))

      from_place : IsPlace pair.from
      from_place = place pair.from from_seat

      to_place : IsPlace pair.to
      to_place = place pair.to to_seat

      from_monitor : from_place.monitor ≡ g.did.route.from.now
      from_monitor = same_some from_place.monitor g.sends (sym from_place.monitor_is ∙ (ap (slice_get st.monitors) (sym here_is) ∙ g.sends_is)) ∙ sym g.did.from_is

      to_monitor : to_place.monitor ≡ g.did.route.to.now
      to_monitor = same_some to_place.monitor g.receives (sym to_place.monitor_is ∙ (ap (slice_get st.monitors) (sym there_is) ∙ g.receives_is)) ∙ sym g.did.to_is

      apart : pair.from - 1 ≢ pair.to - 1
      apart same = known.3 (let some : 0 < pair.from = known.0 in let one : 1 ≤ pair.to = known.1 in omega (arith, same, some, one))

      -- the passes that it came back with
      ring_long : length d.ring.items ≡ length st.monitors
      ring_long = ring_is.long

      from_pass : slice_get e.ring.items (pair.from - 1) ≡ Some g.carried.sender
      from_pass =
          ap (λ (ps : List (Pass S B E)). slice_get ps (pair.from - 1)) g.ring_is
          ∙ (ap (λ (m : ℕ). slice_get (set (set d.ring.items g.here g.carried.sender) m g.carried.receiver) (pair.from - 1)) there_is
          ∙ (set_other (set d.ring.items g.here g.carried.sender) (pair.to - 1) (pair.from - 1) g.carried.receiver apart
          ∙ (ap (λ (m : ℕ). slice_get (set d.ring.items m g.carried.sender) (pair.from - 1)) here_is
          ∙ set_same d.ring.items (pair.from - 1) g.carried.sender (let less : pair.from - 1 < length st.monitors = get_within st.monitors (pair.from - 1) from_place.monitor from_place.monitor_is in let long = ring_long in omega (arith, less, long)))))

      to_pass : slice_get e.ring.items (pair.to - 1) ≡ Some g.carried.receiver
      to_pass =
          ap (λ (ps : List (Pass S B E)). slice_get ps (pair.to - 1)) g.ring_is
          ∙ (ap (λ (m : ℕ). slice_get (set (set d.ring.items g.here g.carried.sender) m g.carried.receiver) (pair.to - 1)) there_is
          ∙ set_same (set d.ring.items g.here g.carried.sender) (pair.to - 1) g.carried.receiver
          (let less : pair.to - 1 < length st.monitors = get_within st.monitors (pair.to - 1) to_place.monitor to_place.monitor_is in let long = ring_long in let still : length (set d.ring.items g.here g.carried.sender) ≡ length d.ring.items = set_long d.ring.items g.here g.carried.sender in omega (arith, less, long, still)))

      other_pass : (n : ℕ) (q : Pass S B E) → n - 1 ≢ pair.from - 1 → n - 1 ≢ pair.to - 1 → slice_get e.ring.items (n - 1) ≡ Some q → slice_get d.ring.items (n - 1) ≡ Some q
      other_pass n q one two is =
          sym (ap (λ (ps : List (Pass S B E)). slice_get ps (n - 1)) g.ring_is
          ∙ (ap (λ (m : ℕ). slice_get (set (set d.ring.items g.here g.carried.sender) m g.carried.receiver) (n - 1)) there_is
          ∙ (set_other (set d.ring.items g.here g.carried.sender) (pair.to - 1) (n - 1) g.carried.receiver two
          ∙ (ap (λ (m : ℕ). slice_get (set d.ring.items m g.carried.sender) (n - 1)) here_is ∙ set_other d.ring.items (pair.from - 1) (n - 1) g.carried.sender one)))) ∙ is

      from_front : IsPrefix (front g.carried.sender) (hist pair.from)
      from_front = (its_history pair.from from_place).fronts k e g.carried.sender done_is from_pass

      to_front : IsPrefix (front g.carried.receiver) (hist pair.to)
      to_front = (its_history pair.to to_place).fronts k e g.carried.receiver done_is to_pass

      brings : IsCarrying base_of sight base read g.did.route (pair_seed seed pair.from pair.to) (seat_at r pair.from) (seat_at r pair.to) (hist pair.from) (hist pair.to) g.carried
      brings =
          carriers base_of sight base read g.did.route (subst (λ (m : Monitor S B E). IsReadAs sight base read (first_base base_of m)) from_monitor (reads_in pair.from from_place).seen) (subst (λ (m : Monitor S B E). IsReadAs sight base read (first_base base_of m)) to_monitor (reads_in pair.to to_place).seen) (pair_seed seed pair.from pair.to) g.sender g.receiver g.carried g.did.did (fresh g.there g.receiver g.receiver_is).0 (fresh g.there g.receiver g.receiver_is).1 (seat_at r pair.from) (seat_at r pair.to)
          (subst (λ (m : Monitor S B E). IsBased (seat_at r pair.from) (base (first_base base_of m))) from_monitor (based_in pair.from from_place)) (subst (λ (m : Monitor S B E). IsBased (seat_at r pair.to) (base (first_base base_of m))) to_monitor (based_in pair.to to_place))
          (hist pair.from) (hist pair.to) from_front to_front

      abbrev carrier_did : ℕ → List Occurrence
      carrier_did n = if n == pair.to then brings.done else []

      did_here : carrier_did pair.to ≡ brings.done
      did_here = ap (λ (b : Bool). if b then brings.done else []) (eq-eqb pair.to pair.to refl)

      carried_turns : (n : ℕ) → IsSeat r n → AreTurnsOf (seat_at r n) n (all_of n) (carrier_did n) (list_map (read_of read) (turns_of k (hist n)))
      carried_turns n s = elim (cases_eq n pair.to) [
        | inl same ↦ subst (λ (m : ℕ). AreTurnsOf (seat_at r m) m (all_of m) (carrier_did m) (list_map (read_of read) (turns_of k (hist m)))) (sym same)
            (subst (λ (os : List Occurrence). AreTurnsOf (seat_at r pair.to) pair.to (all_of pair.to) os (list_map (read_of read) (turns_of k (hist pair.to)))) (sym did_here)
            (subst (λ (ts : List (ℕ × E)). AreTurnsOf (seat_at r pair.to) pair.to (all_of pair.to) brings.done (list_map (read_of read) ts)) (sym ((its_history pair.to to_place).turns_are k e g.carried.receiver done_is to_pass))
            (subst (λ (p : Pair). AreTurnsOf (seat_at r pair.to) p.to (all_of pair.to) brings.done (list_map (read_of read) (turns g.carried.receiver))) g.did.pair_is brings.are)))
        | inr away ↦ subst (λ (os : List Occurrence). AreTurnsOf (seat_at r n) n (all_of n) os (list_map (read_of read) (turns_of k (hist n)))) (sym (ap (λ (b : Bool). if b then brings.done else []) (ne_eqb n pair.to away)))
            (let p : IsPlace n = place n s in let (q, is) = pass_at e.ring.items ring_now n p in no_turns k d e done_is n p q is (idle n q is away s))
      ]
        where
          idle : (n : ℕ) (q : Pass S B E) → slice_get e.ring.items (n - 1) ≡ Some q → n ≢ pair.to → IsSeat r n → turns q ≡ []
          idle n q is away s = go (cases_eq n pair.from)
            where
              go : (n ≡ pair.from) ⊎ (n ≡ pair.from → ⊥) → turns q ≡ []
              go (inl same) =
                  ap turns (same_some q g.carried.sender (sym is ∙ (ap (λ (m : ℕ). slice_get e.ring.items (m - 1)) same ∙ from_pass)))
                  ∙ (g.did.did.looks ∙ (fresh g.here g.sender g.sender_is).0)
              go (inr other) =
                  (fresh (n - 1) q (other_pass n q
                  (λ same. other (let some : 1 ≤ n = s.first in let one : 0 < pair.from = known.0 in omega (arith, same, some, one)))
                  (λ same. away (let some : 1 ≤ n = s.first in let one : 1 ≤ pair.to = known.1 in omega (arith, same, some, one))) is)).0

      -- whoever the messages are of, they were sent before
      sent_by_other : (o : Occurrence) → WasSentThere base_of sight base read g.did.route (seat_at r pair.from) (hist pair.from) o → WasSentTo (length r.seats) last o × IsBy (is_job_of jobs) (carrier pair.from pair.to) o
      sent_by_other (comes from to m seen) (f, t, sent) =
          let one : from ≡ pair.from = f ∙ ap (λ (p : Pair). p.from) g.did.pair_is in
          let two : to ≡ pair.to = t ∙ ap (λ (p : Pair). p.to) g.did.pair_is in
          let there : IsSentBy (last pair.from) pair.to m seen =
          subst (λ (p : Pair). IsSentBy (last pair.from) p.to m seen) g.did.pair_is (subst (λ (l : List Ranked). IsSentBy (seat_behind (seat_at r pair.from) l) g.did.route.pair.to m seen) (sym (entries_read read (hist pair.from))) (sent_same t sent)) in (
            (subst (IsOneOf (length r.seats)) (sym one) (record { first = from_seat.first; last = from_seat.last }), (λ same. known.3 (sym two ∙ (sym same ∙ one))), subst (λ (x : ℕ). IsSentBy (last x) to m seen) (sym one) (subst (λ (x : ℕ). IsSentBy (last pair.from) x m seen) (sym two) there)),
            (one, two),
          )
        where
          sent_same : to ≡ g.did.route.pair.to → IsSentBy (seat_behind (seat_at r pair.from) (all_of pair.from)) to m seen → IsSentBy (seat_behind (seat_at r pair.from) (all_of pair.from)) g.did.route.pair.to m seen
          sent_same e h = subst (λ (x : ℕ). IsSentBy (seat_behind (seat_at r pair.from) (all_of pair.from)) x m seen) e h
      sent_by_other o none = absurd none

      all_sent : (os : List Occurrence) → AllByRecursion (WasSentThere base_of sight base read g.did.route (seat_at r pair.from) (hist pair.from)) os → AllByRecursion (WasSentTo (length r.seats) last) os × AllByRecursion (IsBy (is_job_of jobs) (carrier pair.from pair.to)) os
      all_sent [] all = (tt, tt)
      all_sent (o ∷ os) all = (let one = sent_by_other o all.0 in let more = all_sent os all.1 in ((one.0, more.0), (one.1, more.1)))

      either_did : (P : Occurrence → Type 0) → AllByRecursion P brings.done → (n : ℕ) → AllByRecursion P (carrier_did n)
      either_did P all n = go (n == pair.to)
        where
          go : (b : Bool) → AllByRecursion P (if b then brings.done else [])
          go true = all
          go false = tt

      -- where servers stood, as the course says
      stood : (n : ℕ) (p : IsPlace n) (m : Monitor S B E) → p.monitor ≡ m → IsSeat r n → base (first_base base_of m) ≡ entries_at r n
      stood n p m same s =
          let based : IsBased (seat_at r n) (base (first_base base_of m)) = subst (λ (x : Monitor S B E). IsBased (seat_at r n) (base (first_base base_of x))) same (based_in n p) in
          sym ((λ i. ranked_with (based.journal i) (based.ranks i)) ∙ with_self (base (first_base base_of m)))
        where
          with_self : (xs : List Ranked) → ranked_with (entries_of_ranked xs) (ranks_of xs) ≡ xs
          with_self [] = refl
          with_self (x ∷ xs) = ap (λ (l : List Ranked). x ∷ l) (with_self xs)

      first_is : pair.first ≡ first_place r pair.from
      first_is =
          let (y, there, same) = get_mapped (end_of base_of sight) ys (pair.from - 1) pair.first (ap (slice_get (list_map (end_of base_of sight) ys)) (let less : pair.from - (0 + 1) ≡ pair.from - 1 = omega arith in sym less) ∙ known.4) in
          let its : from_place.begun ≡ y = begun_same y there in
          let reads_y : IsRead log sight base read (base_of y) = subst (λ (x : S). IsRead log sight base read (base_of x)) its from_place.host.reads in
          let sent : length (sight.sent (base_of y) []) ≡ length (sent_in (base (base_of y))) = ap (λ (l : List (ℕ × Envelope)). length l) (reads_y.seen.sent_is [] ∙ ap sent_in (append-nil (base (base_of y)))) in
          let stands : base (base_of y) ≡ entries_at r pair.from = ap (λ (x : S). base (base_of x)) (sym its) ∙ (ap base (sym from_place.base_is) ∙ stood pair.from from_place from_place.monitor refl from_seat) in
          let long : length (sent_in (base (base_of y))) ≡ length (sent_in (entries_at r pair.from)) = ap (λ (l : List Ranked). length (sent_in l)) stands in
          sym same ∙ ap (λ (n : ℕ). min n 4294967295) (sent ∙ long)
        where
          begun_same : (y : S) → slice_get ys (pair.from - 1) ≡ Some y → from_place.begun ≡ y
          begun_same y there = same_some from_place.begun y (sym from_place.begun_is ∙ there)

      was : (behind : ℕ) (m : Message) → was_starved base_of sight base read g.did.route (hist pair.to) behind m → starved_at base_of entries_of log sight base read zs pair.from pair.to behind m
      was behind m h =
          let from_is : g.did.route.pair.from ≡ pair.from = ap (λ (p : Pair). p.from) g.did.pair_is in
          let h1 : sight.is_starved (first_base base_of g.did.route.to.now) (take behind (entries_in (hist pair.to))) pair.from m = subst (λ (f : ℕ). sight.is_starved (first_base base_of g.did.route.to.now) (take behind (entries_in (hist pair.to))) f m) from_is h in
          let base_same : first_base base_of g.did.route.to.now ≡ base_of to_place.final = ap (first_base base_of) (sym to_monitor) ∙ sym (its_history pair.to to_place).base_is in (
            to_place.final,
            to_place.final_is,
            subst (λ (es : List E). sight.is_starved (base_of to_place.final) (take behind es) pair.from m) (its_history pair.to to_place).told_is
                (subst (λ (b : B). sight.is_starved b (take behind (entries_in (hist pair.to))) pair.from m) base_same h1),
          )

      -- as the course says it
      carried_by : AreCarriedBy (starved_at base_of entries_of log sight base read zs pair.from pair.to) (pair_seed seed pair.from pair.to) (first_place r pair.from) pair.from pair.to (entries_at r pair.from) (entries_at r pair.to) (entries_in (history pair.from)) (entries_in (history pair.to)) brings.taken (carrier_did pair.to)
      carried_by =
          let a = brings.carried in
          let said : AreCarriedBy (starved_at base_of entries_of log sight base read zs pair.from pair.to) (pair_seed seed pair.from pair.to) g.did.route.pair.first g.did.route.pair.from g.did.route.pair.to (base_there base_of sight base read g.did.route) (base_here base_of sight base read g.did.route) (all_of pair.from) (all_of pair.to) brings.taken brings.done =
          record { next = a.next; from_first = a.from_first; within = a.within; are = a.are; seen = a.seen; brought = brought_with (was_starved base_of sight base read g.did.route (hist pair.to)) (starved_at base_of entries_of log sight base read zs pair.from pair.to) g.did.route.pair.from g.did.route.pair.to (base_here base_of sight base read g.did.route) (all_of pair.to) was 0 _ brings.done a.brought } in
          let on_pair = subst (λ (p : Pair). AreCarriedBy (starved_at base_of entries_of log sight base read zs pair.from pair.to) (pair_seed seed pair.from pair.to) p.first p.from p.to (base_there base_of sight base read g.did.route) (base_here base_of sight base read g.did.route) (all_of pair.from) (all_of pair.to) brings.taken brings.done) g.did.pair_is said in
          let there : base_there base_of sight base read g.did.route ≡ entries_at r pair.from = stood pair.from from_place g.did.route.from.now from_monitor from_seat in
          let here : base_here base_of sight base read g.did.route ≡ entries_at r pair.to = stood pair.to to_place g.did.route.to.now to_monitor to_seat in
          subst (λ (y : ℕ × (List Ranked × (List Ranked × (List Ranked × (List Ranked × List Occurrence))))).
          AreCarriedBy (starved_at base_of entries_of log sight base read zs pair.from pair.to) (pair_seed seed pair.from pair.to) y.0 pair.from pair.to y.1.0 y.1.1.0 y.1.1.1.0 y.1.1.1.1.0 brings.taken y.1.1.1.1.1)
          (λ i. (first_is i, (there i, (here i, (sym (entries_read read (hist pair.from)) i, (sym (entries_read read (hist pair.to)) i, sym did_here i)))))) on_pair

      carries_it : IsPart k
      carries_it = record {
        who_is = carrier pair.from pair.to;
        whose = sym (ap who_of (task_is ∙ ap (λ (t : Task). Some t) its));
        deeds = [];
        knows = c;
        took = brings.taken;
        did = carrier_did;
        turns_are = λ less n s. carried_turns n s;
        sent = either_did (WasSentTo (length r.seats) last) (all_sent brings.done brings.sent).0;
        among = tt;
        idle = λ workless. refl;
        kept = λ x now f at is. absurd (no_work now f (ap (λ (y : Errand S B E). y.task) (same_some e x (sym done_is ∙ at)) ∙ is));
        by_whom = either_did (IsBy (is_job_of jobs) (carrier pair.from pair.to)) (all_sent brings.done brings.sent).1;
        works = λ j f is. absurd (let wrong : Some (Carry pair next lost) ≡ Some (Work j f) = sym (task_is ∙ ap (λ (t : Task). Some t) its) ∙ is in cc);
        carries = λ p x y is. (let same : pair ≡ p = pair_same (sym (task_is ∙ ap (λ (t : Task). Some t) its) ∙ is) in
            subst (λ (q : Pair). AreCarriedBy (starved_at base_of entries_of log sight base read zs q.from q.to) (pair_seed seed q.from q.to) (first_place r q.from) q.from q.to (entries_at r q.from) (entries_at r q.to) (entries_in (history q.from)) (entries_in (history q.to)) brings.taken (carrier_did q.to)) same carried_by);
      }
        where
          pair_same : {p : Pair} {x y : ℕ} → Some (Carry pair next lost) ≡ Some (Carry p x y) → pair ≡ p
          pair_same e = cc

    -- ---- whichever it is

    by_task : (t u : Task) → d.task ≡ t → e.task ≡ u → DidTask base_of log sight seed st.monitors k t d.ring.items u e.ring.items → IsPart k
    by_task (Work j f) (Work now None) its then_is did = workers j now f its then_is did.0 did.1
    by_task (Work j f) (Work now (Some fault)) its then_is did =
        absurd
        (let none : fault_in (Work now (Some fault)) ≡ None = subst (λ (t : Task). fault_in t ≡ None) then_is (no_fault (list_map task_of st.ran.done) k e.task (or_first (first_fault (list_map task_of st.ran.done)) st.ran.later st.ran.fault_is) (get_map task_of st.ran.done k e done_is)) in
        let wrong : Some fault ≡ None = none in cc)
    by_task (Carry pair next lost) (Carry to next_now lost_now) its then_is did = carries_it pair next lost next_now lost_now its (λ now f is. let wrong : Carry to next_now lost_now ≡ Work now f = sym then_is ∙ is in cc) did.1
    by_task (Work j f) (Carry to next_now lost_now) its then_is did = absurd did
    by_task (Carry pair next lost) (Work now f) its then_is did = absurd did

  pub part : (k : ℕ) → IsPart k
  part k = go (slice_get st.begun k) refl (slice_get st.ran.done k) refl
    where
      go : (od : Option (Errand S B E)) → slice_get st.begun k ≡ od → (oe : Option (Errand S B E)) → slice_get st.ran.done k ≡ oe → IsPart k
      go None pd oe pe = nobodys k pd
      go (Some d) pd (Some e) pe = by_task k d e pd pe d.task e.task refl refl (st.ran.did.each k d e pd pe).did
      go (Some d) pd None pe =
          absurd
          (let less : k < length st.begun = get_within st.begun k d pd in let same : length st.ran.done ≡ length st.begun = st.ran.did.long in
          let (e, is) = get_at st.ran.done k (omega (arith, less, same)) in none_some e (slice_get st.ran.done k) pe is)
