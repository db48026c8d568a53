-- A course on its way, wherever that began: what holds of it, and goes on to hold.
use Rattle.std.specs.Prelude.{◌≡◌, ℕ, ◌<◌, ◌≤◌, List, length, get_or, slice_get, Option, Some, IfSome}
use Rattle.alp_journal.specs.Along.{state_after}
use Rattle.alp_journal.specs.Moves.{next}
use Rattle.alp_journal.specs.State.{State, opened}
use Rattle.alp_journal.specs.declared.entry.Entry.{Entry}
use Rattle.alp_journal.specs.declared.event.Event.TheVariants as event
use Rattle.alp_journal.specs.declared.message.Message.{Message}
use Rattle.alp_posts.specs.Messages.{messages_to}
use Rattle.alp_posts.specs.Posts.{IsTable, post_at}
use Rattle.alp_course.specs.Carries.{ArePlaced}
use Rattle.alp_course.specs.Courses.{Course, Seat, seat_at, last_rank, IsSeat, IsSentBy, AreTwo, Occurrence, AreCourse}
use Rattle.alp_course.specs.Links.{AreNumbered, IsFirst}

-- there is a rank for each entry, they rise, and the last one is the greatest
pub record AreRising (rs : List ℕ) (journal : List Entry) : Type 0 where
  pub many : length rs ≡ length journal
  pub rise : (i k : ℕ) → i < k → k < length rs → get_or rs i 0 < get_or rs k 0
  pub top : (i : ℕ) → i < length rs → get_or rs i 0 ≤ last_rank rs

-- Each message that arrived at a server was sent to it, below the rank of the entry of its arrival.
abbrev pub AllSent : Course → ℕ → Seat → Type 0
AllSent r n s = (i : ℕ) (e : Entry) → slice_get s.journal i ≡ Some e → (from : ℕ) (m : Message) → e.event ≡ event.Arrive from m → (most : ℕ) × (most < get_or s.ranks i 0) × IsSeat r from × IsSentBy (seat_at r from) n m most

-- what was taken last was sent, at no higher rank than the sender had then
abbrev pub LastSent : Course → (from to : ℕ) → Option (Message × ℕ) → Type 0
LastSent r from to last = IfSome last (λ x. IsSentBy (seat_at r from) to x.0 x.1)

-- The servers are eight at most, in the order of their numbers. Ranks rise along each journal, and what arrived, or was taken last, was sent.
pub record Holds (r : Course) : Type 0 where
  pub few : length r.seats ≤ 8
  pub numbered : AreNumbered 1 r.seats
  pub table : IsTable r.posts
  pub rising : (n : ℕ) → 1 ≤ n → AreRising (seat_at r n).ranks (seat_at r n).journal
  pub sent : (n : ℕ) → 1 ≤ n → AllSent r n (seat_at r n)
  pub posts : (from to : ℕ) → IsSeat r from → IsSeat r to → LastSent r from to (post_at r.posts from to).last

abbrev pub taken_of : Course → (from to : ℕ) → ℕ
taken_of r from to = (post_at r.posts from to).taken

abbrev pub sent_to : Course → (from to : ℕ) → List Message
sent_to r from to = messages_to to (seat_at r from).journal

-- no more were taken than were sent
abbrev pub IsWithin : Course → Type 0
IsWithin r = (from to : ℕ) → AreTwo r from to → taken_of r from to ≤ length (sent_to r from to)

abbrev pub said_by : Seat → State
said_by s = state_after next (opened s.opening) s.journal

-- each server stands as its journal says
abbrev pub AreSaid : Course → Type 0
AreSaid r = (n : ℕ) → IsSeat r n → (seat_at r n).stand.state ≡ said_by (seat_at r n)

-- all of it, with the place of each server's next entry
pub record IsMidway (r : Course) : Type 0 where
  pub holds : Holds r
  pub within : IsWithin r
  pub said : AreSaid r
  pub placed : ArePlaced r

-- It is so where a run begins, and whatever occurs from there on, or from anywhere else on where it is.
pub record Keeping : Type 0 where
  pub first : (r : Course) → IsFirst r → IsMidway r
  pub on : (r after : Course) (xs : List Occurrence) → IsMidway r → AreCourse r xs after → IsMidway after
