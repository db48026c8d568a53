-- What all errands did is a storm.
use Rattle.std.specs.Prelude.{◌||◌, Bool, true, false, IsTrue, map as list_map, slice_get, Option, None, Some}
use Rattle.std.specs.List.{AllByRecursion, list_any}
use Rattle.std.proofs.Common.{◌≡◌, ℕ, zero, suc, ◌+◌, ◌-◌, ◌<◌, ◌≤◌, inl, inr, List, [], ◌∷◌, ◌++◌, length, refl, sym, ◌∙◌, ap, subst, arith}
use lib.ListN.{length-map}
use Rattle.alp_carrier.specs.Sights.{Sight}
use Rattle.alp_carrier.specs.declared.taken.Taken.{Taken}
use Rattle.alp_jobs.specs.Deeds.{Deed}
use Rattle.alp_jobs.specs.Does.{DoesJob}
use Rattle.alp_jobs.specs.States.{JobState}
use Rattle.alp_journal.specs.Answered.{entries_limit}
use Rattle.alp_journal.specs.Moves.{stops}
use Rattle.alp_journal.specs.declared.entry.Entry.{Entry}
use Rattle.alp_journal.specs.declared.message.Message.{Message}
use Rattle.alp_lines.specs.declared.line.Line.{Line}
use Rattle.alp_monitor.specs.History.{entries_in, entry_of as entry_there}
use Rattle.alp_monitor.specs.declared.monitor.Monitor.{Monitor}
use Rattle.alp_monitor.specs.declared.monitor.Pass.{Pass}
use Rattle.alp_session.specs.Crowd.{Crowd}
use Rattle.alp_session.specs.Crowds.{lent_crowd}
use Rattle.alp_course.specs.Courses.{Course, seat_at, IsSeat, AreTwo, Occurrence}
use Rattle.alp_course.specs.Midway.{IsMidway}
use Rattle.alp_merge.specs.Carried.{AreCarriedBy}
use Rattle.alp_merge.specs.Closed.{AreServed, HasGoneOn}
use Rattle.alp_merge.specs.Served.{Ranked, IsServed, AreTurnsOf}
use Rattle.alp_merge.specs.Storms.{is_worker, is_carrier, deeds_at, items_of, pair_seed, entries_at, first_place}
use Rattle.alp_merge.specs.Threads.{HasOwnPass, HasCarrierPass, AreByThreads, IsStormy}
use Rattle.alp_merge.specs.Turns.{Who}
use Rattle.alp_merge.proofs.StormLemmas.{storm_of}
use Rattle.alp_storm.specs.Errands.{DidTask}
use Rattle.alp_storm.specs.Logs.{Log}
use Rattle.alp_storm.specs.Storms.{IsStorm as IsStormOfThreads, IsDownFault, is_down, task_of, end_of, first_fault, work, jobs_in, carriers_from}
use Rattle.alp_storm.specs.declared.errand.Errand.{Errand}
use Rattle.alp_storm.specs.declared.errand.Task.{Task}
use Rattle.alp_storm.specs.declared.errand.Task.TheVariants.{Work, Carry}
use Rattle.alp_storm.specs.declared.fault.StormFault.{StormFault}
use Rattle.alp_storm.specs.declared.fault.StormFault.TheVariants as fault
use Rattle.alp_storm_course.specs.Joins.{IsRead, AreHosts, AreNewJobs, number_of, is_job_of, starved_at, IsOfThreads, ThreadsDidAStorm}
use Rattle.alp_storm_course.proofs.TaskLemmas.{same_some, none_some, get_within, get_first, get_second, get_map, get_mapped, index_of, job_at, pair_index, pair_found, IsOfPair, AreApart, tasks_apart, from_has, job_task, is_job, only_worker, only_carrier}
use Rattle.alp_storm_course.proofs.ListLemmas.{at_none, AreAlike, HasNoWork, AreAllAlike, job_back, numbers_back}
use Rattle.alp_storm_course.proofs.PartLemmas.{read_of, entries_read, turns_read, or_second, IsHistory, hist, history, last, IsPlace, place, its_history, IsKept, IsPart, part}

all_calm : {E : Type 0} (entry : E → Entry) (es : List E) → list_any (λ (x : E). stops (entry x)) es ≡ false → AllByRecursion (λ (x : E). stops (entry x) ≡ false) es
all_calm {E} entry [] calm = tt
all_calm {E} entry (x ∷ es) calm = go (stops (entry x)) refl (λ e. all_calm entry es e)
  where
    go : (b : Bool) → stops (entry x) ≡ b → (list_any (λ (y : E). stops (entry y)) es ≡ false → AllByRecursion (λ (y : E). stops (entry y) ≡ false) es) → AllByRecursion (λ (y : E). stops (entry y) ≡ false) (x ∷ es)
    go false e more = (e, more (sym (ap (λ (b : Bool). b || list_any (λ (y : E). stops (entry y)) es) e) ∙ calm))
    go true e more = absurd (let wrong : true ≡ false = sym (ap (λ (b : Bool). b || list_any (λ (y : E). stops (entry y)) es) e) ∙ calm in cc)

all_read : {E : Type 0} (entry : E → Entry) (read : E → Ranked) → ((e : E) → entry e ≡ (read e).entry) → (es : List E) → AllByRecursion (λ (x : E). stops (entry x) ≡ false) es → AllByRecursion (λ (x : Ranked). stops x.entry ≡ false) (list_map read es)
all_read entry read same [] all = tt
all_read entry read same (x ∷ es) all = (ap stops (sym (same x)) ∙ all.0, all_read entry read same es all.1)

module _ {S B E : Type 0} (base_of : S → B) (entries_of : S → List E) (log : Log B E) (sight : Sight B E) where
  -- none of the servers is down
  none_down : (zs : List S) (i : ℕ) (z : S) → IsDownFault base_of entries_of log sight zs None → slice_get zs i ≡ Some z → is_down base_of entries_of log sight z ≡ false
  none_down [] i z none at = absurd (none_some z None refl at)
  none_down (y ∷ zs) i z (inl down) at = absurd (none_some (fault.DiskFault (log.server (base_of y))) None refl down.1)
  none_down (y ∷ zs) zero z (inr up) at = subst (λ (x : S). is_down base_of entries_of log sight x ≡ false) (same_some y z at) up.0
  none_down (y ∷ zs) (suc i) z (inr up) at = none_down zs i z up.1 at

module _ {S B E : Type 0} (base_of : S → B) (log : Log B E) (sight : Sight B E) (seed : ℕ) (ms : List (Monitor S B E)) where
  did_alike : (k : ℕ) (t u : Task) (ps qs : List (Pass S B E)) → DidTask base_of log sight seed ms k t ps u qs → AreAlike t u
  did_alike k (Work j f) (Work now g) ps qs did = tt
  did_alike k (Carry pair n l) (Carry to m i) ps qs did = tt
  did_alike k (Work j f) (Carry to m i) ps qs did = absurd did
  did_alike k (Carry pair n l) (Work now g) ps qs did = absurd did

module _ {S B E : Type 0} (base_of : S → B) (entries_of : S → List E) (log : Log B E) (sight : Sight B E) (base : B → List Ranked) (read : E → Ranked) (r : Course) (c : Crowd) (lines : ℕ → List (List Line)) (seed : ℕ) (ys : List S) (jobs : List JobState) (zs : List S) (jobs_now : List JobState) (midway : IsMidway r)
    (hosts : AreHosts base_of entries_of log sight base read r ys zs) (new_jobs : AreNewJobs c lines jobs) (st : IsStormOfThreads base_of entries_of log sight seed ys jobs zs jobs_now None) where
  abbrev Part : ℕ → Type 0
  Part k = IsPart base_of entries_of log sight base read r c lines seed ys jobs zs jobs_now hosts new_jobs st k

  the_part : (k : ℕ) → Part k
  the_part k = part base_of entries_of log sight base read r c lines seed ys jobs zs jobs_now hosts new_jobs st k

  abbrev past : ℕ → List (ℕ × E)
  past n = hist base_of entries_of log sight base read r c lines seed ys jobs zs jobs_now hosts new_jobs st n

  abbrev read_past : ℕ → List (ℕ × Ranked)
  read_past n = history base_of entries_of log sight base read r c lines seed ys jobs zs jobs_now hosts new_jobs st n

  abbrev Place : ℕ → Type 0
  Place n = IsPlace base_of entries_of log sight base read r c lines seed ys jobs zs jobs_now hosts new_jobs st n

  the_place : (n : ℕ) → IsSeat r n → Place n
  the_place n s = place base_of entries_of log sight base read r c lines seed ys jobs zs jobs_now hosts new_jobs st n s

  past_of : (n : ℕ) (p : Place n) → IsHistory base_of entries_of p.monitor (n - 1) st.ran.done p.final (past n)
  past_of n p = its_history base_of entries_of log sight base read r c lines seed ys jobs zs jobs_now hosts new_jobs st n p

  abbrev its_tasks : List Task
  its_tasks = list_map task_of st.begun

  abbrev firsts : List ℕ
  firsts = list_map (end_of base_of sight) ys

  tasks_is : its_tasks ≡ list_map work jobs ++ carriers_from (length ys) 0 firsts
  tasks_is = st.tasks

  abbrev passes : ℕ → ℕ
  passes n = length st.ran.done

  abbrev who : ℕ → ℕ → Who
  who n k = (the_part k).who_is

  abbrev done : ℕ → ℕ → List Occurrence
  done n k = (the_part k).did n

  -- ---- each server was served

  few : (n : ℕ) (p : Place n) (k : ℕ) (x : ℕ × Ranked) → slice_get (read_past n) k ≡ Some x → x.0 < length st.ran.done
  few n p k x is = (let (y, there, same) = get_mapped (read_of read) (past n) k x is in subst (λ (u : ℕ × Ranked). u.0 < length st.ran.done) same ((past_of n p).makers k y there))

  long_past : (n : ℕ) → length (read_past n) ≡ length (entries_in (past n))
  long_past n = length-map (past n) (read_of read) ∙ sym (length-map (past n) entry_there)

  served_at : (n : ℕ) → IsSeat r n → IsServed (seat_at r n) n (length st.ran.done) (read_past n) (done n)
  served_at n s = record {
    up = p.host.up;
    room = room;
    calm = subst (AllByRecursion (λ (x : Ranked). stops x.entry ≡ false)) (sym (entries_read read (past n)))
        (all_read log.entry read p.host.reads.entry_is (entries_in (past n)) (all_calm log.entry (entries_in (past n)) (ap (list_any (λ (x : E). stops (log.entry x))) (past_of n p).told_is ∙ none_down base_of entries_of log sight zs (n - 1) p.final down p.final_is)));
    few = few n p;
    each = λ j less. subst (λ (y : List Ranked × List (ℕ × Ranked)). AreTurnsOf (seat_at r n) n y.0 (done n j) y.1) (λ i. (sym (entries_read read (past n)) i, sym (turns_read read j (past n)) i)) ((the_part j).turns_are less n s);
  }
    where
      p : Place n
      p = the_place n s

      down : IsDownFault base_of entries_of log sight zs None
      down = subst (λ (g : Option StormFault). IsDownFault base_of entries_of log sight zs g) (or_second (first_fault (list_map task_of st.ran.done)) st.ran.later st.ran.fault_is) st.ran.later_is

      room : (seat_at r n).stand.place + length (read_past n) ≤ entries_limit
      room =
          let all : log.since (base_of p.final) + length (entries_of p.final) ≤ entries_limit = hosts.room (n - 1) p.final p.final_is in
          let since : (seat_at r n).stand.place ≡ log.since (base_of p.final) = p.host.placed ∙ ap log.since (sym p.base_is ∙ sym (past_of n p).base_is) in
          let long : length (read_past n) ≡ length (entries_of p.final) = long_past n ∙ ap (λ (l : List E). length l) (past_of n p).told_is in
          omega (arith, all, since, long)

  served : AreServed r passes who read_past done
  served = record { each = served_at; sent = λ n j s less. (the_part j).sent n }

  -- ---- by which threads

  -- the job of a client stands at its place among the errands
  job_is : (k : ℕ) → IsTrue (is_job_of jobs k) → (j : JobState) × (slice_get its_tasks (index_of jobs k) ≡ Some (Work j None)) × (j.number ≡ k)
  job_is k is =
      let (j, there, number) = job_at jobs k is in (
        j,
        ap (λ (ts : List Task). slice_get ts (index_of jobs k)) tasks_is
            ∙ (get_first (list_map work jobs) (carriers_from (length ys) 0 firsts) (index_of jobs k) (let less : index_of jobs k < length jobs = get_within jobs (index_of jobs k) j there in let long : length (list_map work jobs) ≡ length jobs = length-map jobs work in omega (arith, less, long))
            ∙ get_map work jobs (index_of jobs k) j there),
        number,
      )

  among_errands : (i : ℕ) (t : Task) → slice_get its_tasks i ≡ Some t → i < length st.ran.done
  among_errands i t is =
      let less : i < length its_tasks = get_within its_tasks i t is in
      let long : length its_tasks ≡ length st.begun = length-map st.begun task_of in
      let same : length st.ran.done ≡ length st.begun = st.ran.did.long in
      omega (arith, less, long, same)

  abbrev deeds : ℕ → List Deed
  deeds k = (the_part (index_of jobs k)).deeds

  abbrev knows : ℕ → Crowd
  knows k = (the_part (index_of jobs k)).knows

  abbrev took : ℕ → ℕ → List Taken
  took from to = (the_part (pair_index its_tasks from to)).took

  works : (k : ℕ) → IsTrue (is_job_of jobs k) → DoesJob k (lines k) (lent_crowd c k) (deeds k) (knows k)
  works k is =
      let (j, there, number) = job_is k is in
      subst (λ (m : ℕ). DoesJob m (lines m) (lent_crowd c m) (deeds k) (knows k)) number ((the_part (index_of jobs k)).works j None there).1

  abbrev Starved : ℕ → ℕ → ℕ → Message → Type 0
  Starved = starved_at base_of entries_of log sight base read zs

  own_pass : (k n : ℕ) → IsTrue (is_job_of jobs k) → IsSeat r n → HasOwnPass seed (is_job_of jobs) Starved r passes who read_past done deeds took k n
  own_pass k n is s =
      let (j, there, number) = job_is k is in
      record {
        pass = index_of jobs k;
        within = among_errands (index_of jobs k) (Work j None) there;
        only = λ i. ap (is_worker k) (the_part i).whose ∙ only_worker i k its_tasks (index_of jobs k) j None there number (λ m x g at same. lone m x g at same (job_at jobs k is));
        did = subst (λ (m : ℕ). done n (index_of jobs k) ≡ deeds_at m n (deeds k)) number (((the_part (index_of jobs k)).works j None there).0 n);
      }
    where
      lone : (m : ℕ) (x : JobState) (g : Option StormFault) → slice_get its_tasks m ≡ Some (Work x g) → x.number ≡ k → (j : JobState) × (slice_get jobs (index_of jobs k) ≡ Some j) × (j.number ≡ k) → m ≡ index_of jobs k
      lone m x g at same (j, there, number) = new_jobs.apart m (index_of jobs k) x j (job_task jobs (length ys) firsts m x g (ap (λ (ts : List Task). slice_get ts m) (sym tasks_is) ∙ at)) there (same ∙ sym number)

  apart : AreApart its_tasks
  apart = subst AreApart (sym tasks_is) (tasks_apart jobs (length ys) firsts)

  carrier_pass : (from to : ℕ) → AreTwo r from to → HasCarrierPass seed (is_job_of jobs) Starved r passes who read_past done deeds took from to
  carrier_pass from to two =
      let all : length ys ≡ length r.seats = hosts.long in
      let one : 1 ≤ from = two.sender.first in
      let near : from ≤ length r.seats = two.sender.last in
      let some : 1 ≤ to = two.receiver.first in
      let far : to ≤ length r.seats = two.receiver.last in
      let long : length firsts ≡ length ys = length-map ys (end_of base_of sight) in
      let (i, first, is, there) = from_has (length ys) 0 firsts from to (omega (arith, one)) (omega (arith, near, all, long)) some (omega (arith, far, all)) (λ same. two.apart (sym same)) in
      let behind : slice_get its_tasks (length (list_map work jobs) + i) ≡ Some (Carry (record { from = from; to = to; first = first }) 0 0) = ap (λ (ts : List Task). slice_get ts (length (list_map work jobs) + i)) tasks_is ∙ (get_second (list_map work jobs) (carriers_from (length ys) 0 firsts) i ∙ is) in
      let (u, found, of) = pair_found its_tasks from to (length (list_map work jobs) + i) (Carry (record { from = from; to = to; first = first }) 0 0) behind (refl, refl) in
      record {
        pass = pair_index its_tasks from to;
        within = among_errands (pair_index its_tasks from to) u found;
        only = λ k. ap (is_carrier from to) (the_part k).whose ∙ only_carrier k from to its_tasks (pair_index its_tasks from to) u one found of apart;
        did = did_it u found of;
      }
    where
      Carries : ℕ → ℕ → Type 0
      Carries f t = AreCarriedBy (Starved f t) (pair_seed seed f t) (first_place r f) f t (entries_at r f) (entries_at r t) (entries_in (read_past f)) (entries_in (read_past t)) (took from to) (done t (pair_index its_tasks from to))

      did_it : (u : Task) → slice_get its_tasks (pair_index its_tasks from to) ≡ Some u → IsOfPair from to u → Carries from to
      did_it (Work j f) found of = absurd of
      did_it (Carry pair next lost) found of = subst (λ (f : ℕ). Carries f to) of.0 (subst (λ (t : ℕ). Carries pair.from t) of.1 ((the_part (pair_index its_tasks from to)).carries pair next lost found))

  threads : AreByThreads seed (is_job_of jobs) Starved r passes who read_past done deeds took
  threads = record { among = λ k is. (the_part (index_of jobs k)).among; workers = own_pass; carriers = carrier_pass; others = λ n j s less. (the_part j).by_whom n }

  -- ---- the jobs that came back

  no_work : HasNoWork (carriers_from (length ys) 0 firsts)
  no_work k j f at = none_some j None refl (job_task [] (length ys) firsts k j f at)

  alike : AreAllAlike (list_map work jobs ++ carriers_from (length ys) 0 firsts) (list_map task_of st.ran.done)
  alike k u t begun done_so =
      let (d, d_at, d_is) = get_mapped task_of st.begun k u (ap (λ (ts : List Task). slice_get ts k) tasks_is ∙ begun) in
      let (e, e_at, e_is) = get_mapped task_of st.ran.done k t done_so in
      subst (λ (x : Task × Task). AreAlike x.0 x.1) (λ i. (d_is i, e_is i)) (did_alike base_of log sight seed st.monitors k d.task e.task d.ring.items e.ring.items (st.ran.did.each k d e d_at e_at).did)

  long_done : length (list_map task_of st.ran.done) ≡ length (list_map work jobs ++ carriers_from (length ys) 0 firsts)
  long_done = length-map st.ran.done task_of ∙ (st.ran.did.long ∙ (sym (length-map st.begun task_of) ∙ ap (λ (ts : List Task). length ts) tasks_is))

  -- one of them
  kept_at : (k : ℕ) (x : JobState) → (g : Option StormFault) × (slice_get (list_map task_of st.ran.done) k ≡ Some (Work x g)) → IsKept base_of entries_of log sight base read r c lines seed ys jobs zs jobs_now hosts new_jobs st k x (the_part k).deeds (the_part k).knows
  kept_at k x (g, at) = (let (e, e_at, e_is) = get_mapped task_of st.ran.done k (Work x g) at in (the_part k).kept e x g e_at e_is)

  numbers : list_map number_of jobs_now ≡ list_map number_of jobs
  numbers = ap (list_map number_of) st.ran.jobs_are ∙ numbers_back jobs (carriers_from (length ys) 0 firsts) (list_map task_of st.ran.done) no_work long_done alike same
    where
      same : (k : ℕ) (j : JobState) (x : JobState) (g : Option StormFault) → slice_get jobs k ≡ Some j → slice_get (list_map task_of st.ran.done) k ≡ Some (Work x g) → x.number ≡ j.number
      same k j x g was at = (let kept = kept_at k x (g, at) in kept.number_is ∙ ap number_of (same_some kept.job j (sym kept.was ∙ was)))

  lists : (k : ℕ) (x : JobState) → slice_get jobs_now k ≡ Some x → (x.items ≡ items_of (deeds x.number)) × (x.crowd ≡ knows x.number)
  lists k x at =
      let kept = kept_at k x (job_back jobs (carriers_from (length ys) 0 firsts) (list_map task_of st.ran.done) no_work long_done alike k x (ap (λ (l : List JobState). slice_get l k) (sym st.ran.jobs_are) ∙ at)) in
      let has : IsTrue (is_job_of jobs x.number) = subst (λ (n : ℕ). IsTrue (is_job_of jobs n)) (sym kept.number_is) (is_job jobs k kept.job kept.was) in
      let (j, there, number) = job_at jobs x.number has in
      let same : k ≡ index_of jobs x.number = new_jobs.apart k (index_of jobs x.number) kept.job j kept.was there (sym kept.number_is ∙ sym number) in
      subst (λ (i : ℕ). (x.items ≡ items_of (the_part i).deeds) × (x.crowd ≡ (the_part i).knows)) same (kept.items_are, kept.crowd_is)

  idle : (k : ℕ) → (IsTrue (is_job_of jobs k) → ⊥) → deeds k ≡ []
  idle k jobless = (the_part (index_of jobs k)).idle (λ j f at. at_none jobs k j jobless (job_task jobs (length ys) firsts (index_of jobs k) j f (ap (λ (ts : List Task). slice_get ts (index_of jobs k)) (sym tasks_is) ∙ at)))

  joined : IsOfThreads base_of entries_of log sight base read seed c lines r jobs zs jobs_now
  joined =
      let (after, storm, stormy) = storm_of seed (is_job_of jobs) lines Starved c r passes who read_past done deeds took knows midway served threads works in
      record { after = after; deeds = deeds; knows = knows; storm = storm; midway = stormy.midway; many = stormy.many; stands = stands after stormy; numbers = numbers; lists = lists; idle = idle }
    where
      stands : (after : Course) → IsStormy r after read_past → (i : ℕ) (z : S) → slice_get zs i ≡ Some z → HasGoneOn (seat_at r (i + 1)) (seat_at after (i + 1)) (list_map read (entries_of z))
      stands after stormy i z at =
          let less : i < length zs = get_within zs i z at in
          let finals : length zs ≡ length ys = st.ran.long ∙ st.long in
          let all : length ys ≡ length r.seats = hosts.long in
          let here : IsSeat r (i + 1) = record { first = omega arith; last = omega (arith, less, finals, all) } in
          let p : Place (i + 1) = the_place (i + 1) here in
          let place_is : i + 1 - 1 ≡ i = omega arith in
          let final : p.final ≡ z = same_some p.final z (sym p.final_is ∙ (ap (slice_get zs) place_is ∙ at)) in
          subst (λ (xs : List Ranked). HasGoneOn (seat_at r (i + 1)) (seat_at after (i + 1)) xs) (entries_read read (past (i + 1)) ∙ (ap (list_map read) (past_of (i + 1) p).told_is ∙ ap (λ (y : S). list_map read (entries_of y)) final)) (stormy.stands (i + 1) here)

module _ {S B E : Type 0} (base_of : S → B) (entries_of : S → List E) (log : Log B E) (sight : Sight B E) where
  pub did_a_storm : ThreadsDidAStorm base_of entries_of log sight
  did_a_storm base read r c lines seed ys jobs zs jobs_now midway hosts new_jobs st = joined base_of entries_of log sight base read r c lines seed ys jobs zs jobs_now midway hosts new_jobs st
