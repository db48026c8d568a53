-- How messages are carried by themselves: in sweeps over all pairs of servers, until a sweep finds none that waits.
use Rattle.std.specs.Prelude.{◌≡◌, ℕ, ◌-◌, ◌==◌, Bool, true, false, List, [], ◌∷◌, ◌++◌, ◌+◌, length}
use Rattle.std.specs.List.{list_any}
use Rattle.alp_journal.specs.Answered.{entries_limit}
use Rattle.alp_course.specs.Courses.{Course, Seat, IsSeat, seat_at, Occurrence, at, looks, brings, loses, repeats, rests}
use Rattle.alp_course.specs.Languages.{Language, Nothing, Each}

-- all messages of one server that wait for another are brought, and those that come behind them too
pub data ArePairCarried (from to : ℕ) : List Occurrence → Type 0 where
  none_waits : ArePairCarried from to (looks from to false ∷ [])
  one_waits : (xs : List Occurrence) → ArePairCarried from to xs → ArePairCarried from to (looks from to true ∷ brings from to ∷ xs)

-- no server sends to itself
abbrev pub OfOthers : Bool → Language → Language
OfOthers true A = Nothing
OfOthers false A = A

abbrev pub CarriesTo : (from to : ℕ) → Language
CarriesTo from to = OfOthers (from == to) (ArePairCarried from to)

abbrev pub CarriesFrom : (servers from : ℕ) → Language
CarriesFrom servers from = Each (CarriesTo from) servers

-- one sweep: the pairs (1, 2), (1, 3), .., (2, 1), .. one after the other
abbrev pub IsSweep : (servers : ℕ) → Language
IsSweep servers = Each (CarriesFrom servers) servers

abbrev pub is_bringing : Occurrence → Bool
is_bringing (brings from to) = true
is_bringing x = false

-- a message was brought
abbrev pub brings_some : List Occurrence → Bool
brings_some xs = list_any is_bringing xs

-- sweeps, as long as they bring something, and a last one that brings nothing
pub data IsCarried (servers : ℕ) : List Occurrence → Type 0 where
  last_sweep : (xs : List Occurrence) → IsSweep servers xs → brings_some xs ≡ false → IsCarried servers xs
  one_more : (xs ys : List Occurrence) → IsSweep servers xs → brings_some xs ≡ true → IsCarried servers ys → IsCarried servers (xs ++ ys)

-- where messages are carried by themselves
abbrev pub CarriesIf : (servers : ℕ) → Bool → Language
CarriesIf servers true = IsCarried servers
CarriesIf servers false = Nothing

-- ---- how long it may go on

-- so many entries the steps of all servers may still make
abbrev pub room_in : Seat → ℕ
room_in s = entries_limit - length s.journal

abbrev pub room_of : List Seat → ℕ
room_of [] = 0
room_of (s ∷ ss) = room_in s + room_of ss

abbrev pub room_left : Course → ℕ
room_left r = room_of r.seats

-- what is said of the place of its next entry
abbrev pub ArePlaced : Course → Type 0
ArePlaced r = (n : ℕ) → IsSeat r n → (seat_at r n).stand.place ≡ length (seat_at r n).journal
