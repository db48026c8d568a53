-- The journals of a course, with their ranks, as a log.
use Rattle.std.specs.Prelude.{◌≡◌, ℕ, ◌+◌, ◌≤◌, List, [], ◌∷◌, length, map as list_map}
use Rattle.alp_history.specs.Items.{Handed}
use Rattle.alp_history.specs.Log.{Log, ServerLog, IsLinked}
use Rattle.alp_posts.specs.Posts.{IsTable}
use Rattle.alp_course.specs.Courses.{Course, Seat, Occurrence, first_seat, none_taken, AreCourse}

abbrev pub server_log : Seat → ServerLog
server_log s = record { opening = s.opening; journal = s.journal; ranks = s.ranks }

-- the log of it, with what clients sent and were handed
abbrev pub log_of : Course → Handed → Log
log_of r handed = record { servers = list_map server_log r.seats; handed = handed }

-- the servers have the numbers from this one on
abbrev pub AreNumbered : ℕ → List Seat → Type 0
AreNumbered n [] = Unit {0}
AreNumbered n (s ∷ ss) = (s.opening.server ≡ n) × AreNumbered (n + 1) ss

-- no server did anything yet
abbrev pub AreIdle : List Seat → Type 0
AreIdle [] = Unit {0}
AreIdle (s ∷ ss) = (s ≡ first_seat s.opening s.tells) × AreIdle ss

-- where a run begins
pub record IsFirst (r : Course) : Type 0 where
  pub few : length r.seats ≤ 8
  pub numbered : AreNumbered 1 r.seats
  pub idle : AreIdle r.seats
  pub table : IsTable r.posts
  pub untaken : none_taken r.posts

-- Whatever occurs from the start of a run on, the journals are linked: ranks rise along each, and each message that arrives was sent
-- before.
abbrev pub Linking : Type 0
Linking = (r after : Course) (xs : List Occurrence) (handed : Handed) → IsFirst r → AreCourse r xs after → IsLinked (log_of after handed)
