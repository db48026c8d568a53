-- How servers that threads took turns at stand for those of a course.
use Rattle.std.specs.Prelude.{◌≡◌, ℕ, ◌+◌, ◌-◌, ◌≤◌, ◌==◌, Bool, false, IsTrue, List, [], ◌++◌, length, take, map as list_map, slice_get, None, Some}
use Rattle.std.specs.List.{list_any}
use Rattle.alp_carrier.specs.Sights.{Sight}
use Rattle.alp_jobs.specs.Deeds.{Deed}
use Rattle.alp_jobs.specs.Jobs.{new_job}
use Rattle.alp_jobs.specs.States.{JobState}
use Rattle.alp_journal.specs.Answered.{entries_limit}
use Rattle.alp_journal.specs.declared.message.Message.{Message}
use Rattle.alp_lines.specs.declared.line.Line.{Line}
use Rattle.alp_session.specs.Crowd.{Crowd}
use Rattle.alp_session.specs.Crowds.{lent_crowd}
use Rattle.alp_course.specs.Courses.{Course, Seat, seat_at, last_rank}
use Rattle.alp_course.specs.Midway.{IsMidway}
use Rattle.alp_merge.specs.Carried.{IsReadAs, IsBased}
use Rattle.alp_merge.specs.Closed.{HasGoneOn}
use Rattle.alp_merge.specs.Served.{Ranked, ranks_of}
use Rattle.alp_merge.specs.Storms.{items_of, IsStorm}
use Rattle.alp_storm.specs.Logs.{Log}
use Rattle.alp_storm.specs.Storms.{IsStorm as IsStormOfThreads}

-- each job is a new one of a client of its own, who is lent
pub record AreNewJobs (c : Crowd) (lines : ℕ → List (List Line)) (jobs : List JobState) : Type 0 where
  pub new : (k : ℕ) (j : JobState) → slice_get jobs k ≡ Some j → j ≡ new_job j.number (lines j.number) (lent_crowd c j.number)
  pub apart : (i k : ℕ) (x y : JobState) → slice_get jobs i ≡ Some x → slice_get jobs k ≡ Some y → x.number ≡ y.number → i ≡ k

abbrev pub number_of : JobState → ℕ
number_of j = j.number

abbrev pub is_job_of : List JobState → ℕ → Bool
is_job_of jobs k = list_any (λ (j : JobState). j.number == k) jobs

module _ {B E : Type 0} (log : Log B E) (sight : Sight B E) (base : B → List Ranked) (read : E → Ranked) where
  -- what carriers and workers see of a server with this base is what its entries say, each with its rank
  pub record IsRead (b : B) : Type 0 where
    pub seen : IsReadAs sight base read b
    pub entry_is : (e : E) → log.entry e ≡ (read e).entry
    pub rank_is : (e : E) → log.rank e ≡ (read e).rank
    pub last_is : (es : List E) → log.last b es ≡ last_rank (ranks_of (base b ++ list_map read es))

module _ {S B E : Type 0} (base_of : S → B) (entries_of : S → List E) (log : Log B E) (sight : Sight B E) (base : B → List Ranked) (read : E → Ranked) where
  -- the seat of this number is up, and stands as the server's base says
  pub record IsSeatOf (s : Seat) (n : ℕ) (y : S) : Type 0 where
    pub reads : IsRead log sight base read (base_of y)
    pub based : IsBased s (base (base_of y))
    pub up : s.stand.is_down ≡ false
    pub placed : s.stand.place ≡ log.since (base_of y)
    pub epoch_is : s.stand.epoch ≡ log.epoch (base_of y)
    pub server_is : s.stand.server ≡ n

  -- So it is with each as the threads begin. In the end no journal has more entries than it may have.
  pub record AreHosts (r : Course) (ys zs : List S) : Type 0 where
    pub long : length ys ≡ length r.seats
    pub begun : (i : ℕ) (y : S) → slice_get ys i ≡ Some y → IsSeatOf (seat_at r (i + 1)) (i + 1) y
    pub room : (i : ℕ) (z : S) → slice_get zs i ≡ Some z → log.since (base_of z) + length (entries_of z) ≤ entries_limit

  -- memory was refused at a server, as that message of another one was to come behind so many of its entries
  abbrev pub starved_at : List S → (from to behind : ℕ) → Message → Type 0
  starved_at zs from to behind m = (z : S) × (slice_get zs (to - 1) ≡ Some z) × sight.is_starved (base_of z) (take behind (entries_of z)) from m

  -- The storm that comes of it. The jobs that came back are those of its deeds, in order: their lists have the items of these, and their
  -- clients know what is known behind them. Nobody else has deeds.
  pub record IsOfThreads (seed : ℕ) (c : Crowd) (lines : ℕ → List (List Line)) (r : Course) (jobs : List JobState) (zs : List S) (jobs_now : List JobState) : Type 0 where
    pub after : Course
    pub deeds : ℕ → List Deed
    pub knows : ℕ → Crowd
    pub storm : IsStorm seed (is_job_of jobs) lines (starved_at zs) c r after deeds knows
    pub midway : IsMidway after
    pub many : length after.seats ≡ length r.seats
    pub stands : (i : ℕ) (z : S) → slice_get zs i ≡ Some z → HasGoneOn (seat_at r (i + 1)) (seat_at after (i + 1)) (list_map read (entries_of z))
    pub numbers : list_map number_of jobs_now ≡ list_map number_of jobs
    pub lists : (k : ℕ) (j : JobState) → slice_get jobs_now k ≡ Some j → (j.items ≡ items_of (deeds j.number)) × (j.crowd ≡ knows j.number)
    pub idle : (k : ℕ) → (IsTrue (is_job_of jobs k) → ⊥) → deeds k ≡ []

module _ {S B E : Type 0} (base_of : S → B) (entries_of : S → List E) (log : Log B E) (sight : Sight B E) where
  -- where no job met a fault, and no server is down
  abbrev pub ThreadsDidAStorm : Type 0
  ThreadsDidAStorm = (base : B → List Ranked) (read : E → Ranked) (r : Course) (c : Crowd) (lines : ℕ → List (List Line)) (seed : ℕ) (ys : List S) (jobs : List JobState) (zs : List S) (jobs_now : List JobState)
      → IsMidway r → AreHosts base_of entries_of log sight base read r ys zs → AreNewJobs c lines jobs → IsStormOfThreads base_of entries_of log sight seed ys jobs zs jobs_now None
      → IsOfThreads base_of entries_of log sight base read seed c lines r jobs zs jobs_now
