-- What all servers' monitors give once they are closed, and the one course that it is.
use Rattle.std.specs.Prelude.{◌≡◌, ◌<◌, ◌==◌, ℕ, Bool, false, List, ◌++◌, length, map as list_map}
use Rattle.std.specs.List.{AllByRecursion}
use Rattle.alp_journal.specs.Moves.{stops}
use Rattle.alp_monitor.specs.History.{entries_in}
use Rattle.alp_history.specs.Log.{IsIn}
use Rattle.alp_course.specs.Courses.{Course, Seat, seat_at, IsOneOf, IsSeat, IsSentBy, Occurrence, comes, AreCourse}
use Rattle.alp_course.specs.Midway.{IsMidway}
use Rattle.alp_merge.specs.Served.{Ranked, entries_of, ranks_of, seat_behind, IsServed, done_by, ranked_in}
use Rattle.alp_merge.specs.Turns.{Who, Turn, occurrence_in, turns_at, AreInOrder}

-- Another one of so many servers sent the message by an entry of at most the rank that it saw, as the servers stand in the end. Nothing
-- else asks for that.
abbrev pub WasSentTo : (servers : ℕ) → (ℕ → Seat) → Occurrence → Type 0
WasSentTo servers last (comes from to m seen) = IsOneOf servers from × (from ≡ to → ⊥) × IsSentBy (last from) to m seen
WasSentTo servers last o = Unit {0}

-- The server has further entries, with their ranks. It is up still, and all else of it is as it was.
pub record HasGoneOn (s t : Seat) (xs : List Ranked) : Type 0 where
  pub journal : t.journal ≡ s.journal ++ entries_of xs
  pub ranks : t.ranks ≡ s.ranks ++ ranks_of xs
  pub up : t.stand.is_down ≡ false
  pub opening : t.opening ≡ s.opening
  pub telling : t.tells ≡ s.tells
  pub server : t.stand.server ≡ s.stand.server
  pub epoch : t.stand.epoch ≡ s.stand.epoch
  pub fused : t.stand.is_fused ≡ s.stand.is_fused

module _ (r : Course) (passes : ℕ → ℕ) (who : (server pass : ℕ) → Who) (history : ℕ → List (ℕ × Ranked)) (done : (server pass : ℕ) → List Occurrence) where
  -- how a server stands behind all that was made there
  abbrev pub last_of : ℕ → Seat
  last_of n = seat_behind (seat_at r n) (entries_in (history n))

  -- Each server was served by its passes, and each message that came there had been sent.
  pub record AreServed : Type 0 where
    pub each : (n : ℕ) → IsSeat r n → IsServed (seat_at r n) n (passes n) (history n) (done n)
    pub sent : (n j : ℕ) → IsSeat r n → j < passes n → AllByRecursion (WasSentTo (length r.seats) last_of) (done n j)

  -- The turn is one of a pass of some server: it was taken by whom that belongs to, and is among what that did.
  pub record IsOfPass (x : Turn) : Type 0 where
    pub server : ℕ
    pub pass : ℕ
    pub here : IsSeat r server
    pub within : pass < passes server
    pub who_is : x.who ≡ who server pass
    pub among : IsIn x.occurrence (done server pass)

  -- An order of all turns in which ranks do not fall, and they are a course. Each server has just its own entries there, in their order, and whoever
  -- took all turns of one of its passes did there what that did. Behind it the course is on its way.
  pub record AreOneCourse : Type 0 where
    pub turns : List Turn
    pub after : Course
    pub ordered : AreInOrder 0 turns
    pub course : AreCourse r (list_map occurrence_in turns) after
    pub midway : IsMidway after
    pub many : length after.seats ≡ length r.seats
    pub posts : after.posts ≡ r.posts
    pub entries : (n : ℕ) → IsSeat r n → list_map ranked_in (turns_at n turns) ≡ entries_in (history n)
    pub own : (n j : ℕ) (is : Who → Bool) → IsSeat r n → j < passes n → ((i : ℕ) → is (who n i) ≡ (i == j)) → done_by is (turns_at n turns) ≡ done n j
    pub all : AllByRecursion IsOfPass turns
    pub calm : AllByRecursion (λ (x : Turn). stops x.entry ≡ false) turns
    pub stands : (n : ℕ) → IsSeat r n → HasGoneOn (seat_at r n) (seat_at after n) (entries_in (history n))

-- From a course on its way on, where the servers were served so, there is such an order.
abbrev pub StormsAreCourses : Type 0
StormsAreCourses = (r : Course) (passes : ℕ → ℕ) (who : (server pass : ℕ) → Who) (history : ℕ → List (ℕ × Ranked)) (done : (server pass : ℕ) → List Occurrence)
    → IsMidway r → AreServed r passes who history done → AreOneCourse r passes who history done
