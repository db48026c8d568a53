-- How a run is settled.
use Rattle.std.specs.Prelude.{◌≡◌, ℕ, zero, suc, Bool, true, false, List, [], ◌∷◌, length, Option, None, Some}
use Rattle.alp_base.specs.declared.ids.TransId.{TransId}
use Rattle.alp_course.specs.Happens.{timed_out, ticked, restarted, lifts, finds}
use Rattle.alp_course.specs.Courses.{Occurrence, at, rests, Course, Seat, IsSeat, seat_at, next_message, AreTwo, AreCourse}
use Rattle.alp_course.specs.Languages.{Language, Just, Then, Each}
use Rattle.alp_course.specs.Carries.{IsCarried}

-- nobody stops the disk of this server any more; where the server is down it starts again, after a crash with pick 0
abbrev pub lifting : ℕ → Bool → List Occurrence
lifting n true = at n (lifts true) ∷ at n (restarted 0) ∷ []
lifting n false = at n (lifts false) ∷ []

abbrev pub IsLifted : ℕ → Language
IsLifted n xs = (is_down : Bool) × (xs ≡ lifting n is_down)

-- the least transaction that has an open part at this server times out, until there is none
pub data AreTimedOut (n : ℕ) : List Occurrence → Type 0 where
  none_open : AreTimedOut n (at n (finds None) ∷ [])
  one_open : (t : TransId) (xs : List Occurrence) → AreTimedOut n xs → AreTimedOut n (at n (finds (Some t)) ∷ at n (timed_out t) ∷ xs)

abbrev pub IsTicked : ℕ → Language
IsTicked n = Just (at n ticked ∷ [])

-- a tick at each server, and all messages are carried
abbrev pub IsRound : (servers : ℕ) → Language
IsRound servers = Then (Each IsTicked servers) (IsCarried servers)

-- behind a round all are at rest, or there are further ones
abbrev pub Further : Bool → Language → Language
Further true A xs = xs ≡ rests true ∷ []
Further false A xs = Then (Just (rests false ∷ [])) A xs

-- at most so many rounds, each further one only where not all is at rest
abbrev pub AreRounds : (servers most : ℕ) → Language
AreRounds servers zero xs = xs ≡ []
AreRounds servers (suc k) xs = (is_rest : Bool) × Then (IsRound servers) (Further is_rest (AreRounds servers k)) xs

-- Nobody stops a disk any more, and each server that is down starts again. Then each transaction times out where it has an open part.
-- Then there are rounds, at least one and at most eight.
abbrev pub IsSettling : (servers : ℕ) → Language
IsSettling servers = Then (Each IsLifted servers) (Then (Each AreTimedOut servers) (AreRounds servers 8))

-- ---- servers that are up

-- it is up, and nobody stops its disk
pub record IsUpIn (s : Seat) : Type 0 where
  pub up : s.stand.is_down ≡ false
  pub free : s.stand.is_fused ≡ false

abbrev pub AreUp : Course → Type 0
AreUp r = (n : ℕ) → IsSeat r n → IsUpIn (seat_at r n)

-- Behind a settling all servers are up, and nobody stops a disk.
abbrev pub Lifting : Type 0
Lifting = (r after : Course) (xs : List Occurrence) → IsSettling (length r.seats) xs → AreCourse r xs after → AreUp after

-- ---- messages

-- no message of one server to another one is left
abbrev pub AreTaken : Course → Type 0
AreTaken r = (from to : ℕ) → AreTwo r from to → next_message r from to ≡ None

-- Behind a settling no message is left.
abbrev pub Emptying : Type 0
Emptying = (r after : Course) (xs : List Occurrence) → IsSettling (length r.seats) xs → AreCourse r xs after → AreTaken after
