-- Which thread took which pass, and the storm that comes of it.
use Rattle.std.specs.Prelude.{◌≡◌, ◌<◌, ◌==◌, ℕ, Bool, IsTrue, List, length, take}
use Rattle.std.specs.List.{AllByRecursion}
use Rattle.alp_carrier.specs.Sights.{Sight}
use Rattle.alp_carrier.specs.declared.taken.Taken.{Taken}
use Rattle.alp_jobs.specs.Deeds.{Deed}
use Rattle.alp_jobs.specs.Does.{DoesJob}
use Rattle.alp_journal.specs.declared.message.Message.{Message}
use Rattle.alp_lines.specs.declared.line.Line.{Line}
use Rattle.alp_monitor.specs.History.{entries_in}
use Rattle.alp_session.specs.Crowd.{Crowd}
use Rattle.alp_session.specs.Crowds.{lent_crowd}
use Rattle.alp_course.specs.Courses.{Course, seat_at, IsSeat, AreTwo, Occurrence}
use Rattle.alp_course.specs.Midway.{IsMidway}
use Rattle.alp_merge.specs.Carried.{AreCarriedBy}
use Rattle.alp_merge.specs.Closed.{AreServed, HasGoneOn}
use Rattle.alp_merge.specs.Served.{Ranked}
use Rattle.alp_merge.specs.Storms.{is_worker, is_carrier, place_of, deeds_at, pair_seed, entries_at, first_place, IsBy, IsStorm}
use Rattle.alp_merge.specs.Turns.{Who}

module _ (plan : ℕ) (is_job : ℕ → Bool) (Starved : ℕ → ℕ → ℕ → Message → Type 0) (r : Course) (passes : ℕ → ℕ) (who : (server pass : ℕ) → Who) (history : ℕ → List (ℕ × Ranked)) (done : (server pass : ℕ) → List Occurrence) (deeds : ℕ → List Deed) (took : (from to : ℕ) → List Taken) where
  -- at this server a client has just one pass, and did its deeds there by it
  pub record HasOwnPass (k n : ℕ) : Type 0 where
    pub pass : ℕ
    pub within : pass < passes n
    pub only : (i : ℕ) → is_worker k (who n i) ≡ (i == pass)
    pub did : done n pass ≡ deeds_at k n (deeds k)

  -- at the receiver of a pair its carrier has just one pass, and brought by it what it took
  pub record HasCarrierPass (from to : ℕ) : Type 0 where
    pub pass : ℕ
    pub within : pass < passes to
    pub only : (i : ℕ) → is_carrier from to (who to i) ≡ (i == pass)
    pub did : AreCarriedBy (Starved from to) (pair_seed plan from to) (first_place r from) from to (entries_at r from) (entries_at r to) (entries_in (history from)) (entries_in (history to)) (took from to) (done to pass)

  -- So it is with each client of a job and with each pair. Whoever has a pass did by it what it may.
  pub record AreByThreads : Type 0 where
    pub among : (k : ℕ) → IsTrue (is_job k) → AllByRecursion (λ (d : Deed). IsSeat r (place_of d)) (deeds k)
    pub workers : (k n : ℕ) → IsTrue (is_job k) → IsSeat r n → HasOwnPass k n
    pub carriers : (from to : ℕ) → AreTwo r from to → HasCarrierPass from to
    pub others : (n j : ℕ) → IsSeat r n → j < passes n → AllByRecursion (IsBy is_job (who n j)) (done n j)

-- The servers have all that was made, and the course is on its way.
pub record IsStormy (r after : Course) (history : ℕ → List (ℕ × Ranked)) : Type 0 where
  pub midway : IsMidway after
  pub many : length after.seats ≡ length r.seats
  pub stands : (n : ℕ) → IsSeat r n → HasGoneOn (seat_at r n) (seat_at after n) (entries_in (history n))

module _ {B E : Type 0} (sight : Sight B E) where
  -- memory was refused at a server, as that message of another one was to come behind so many of its entries
  abbrev pub starved_in : (bases : ℕ → B) (entries : ℕ → List E) → (from to behind : ℕ) → Message → Type 0
  starved_in bases entries from to behind m = sight.is_starved (bases to) (take behind (entries to)) from m

  -- From a course on its way on: what all passes did is a storm, where each client did the deeds of its job.
  abbrev pub ThreadsMakeAStorm : Type 0
  ThreadsMakeAStorm = (bases : ℕ → B) (entries : ℕ → List E) (plan : ℕ) (is_job : ℕ → Bool) (job : ℕ → List (List Line)) (c : Crowd) (r : Course) (passes : ℕ → ℕ) (who : (server pass : ℕ) → Who) (history : ℕ → List (ℕ × Ranked))
      (done : (server pass : ℕ) → List Occurrence) (deeds : ℕ → List Deed) (took : (from to : ℕ) → List Taken) (knows : ℕ → Crowd)
      → IsMidway r → AreServed r passes who history done → AreByThreads plan is_job (starved_in bases entries) r passes who history done deeds took
      → ((k : ℕ) → IsTrue (is_job k) → DoesJob k (job k) (lent_crowd c k) (deeds k) (knows k)) → (after : Course) × IsStorm plan is_job job (starved_in bases entries) c r after deeds knows × IsStormy r after history
