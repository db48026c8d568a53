-- The course of a run of several servers: how each of them stands, what was taken of the messages between them, and what happens.
use Rattle.std.specs.Prelude.{◌≡◌, ℕ, ◌+◌, ◌-◌, ◌≤◌, max, Bool, true, false, not, ◌&&◌, IsTrue, List, [], ◌∷◌, ◌++◌, length, get_or, map as list_map, slice_get, slice_set, Option, None, Some, is_some}
use Rattle.std.specs.List.{AllByRecursion}
use Rattle.alp_journal.specs.Opening.{Start}
use Rattle.alp_journal.specs.declared.act.Act.TheVariants as act
use Rattle.alp_journal.specs.declared.entry.Entry.{Entry}
use Rattle.alp_journal.specs.declared.event.Event.TheVariants as event
use Rattle.alp_journal.specs.declared.message.Message.{Message}
use Rattle.alp_history.specs.Log.{IsIn, nobody}
use Rattle.alp_posts.specs.Messages.{messages_to}
use Rattle.alp_posts.specs.Post.{Post, nothing_taken, took}
use Rattle.alp_posts.specs.Posts.{AreServers, post_at, with_post}
use Rattle.alp_course.specs.Happens.{Happening, sent_it, Stand, first_stand, ComesTo, Happens}
use Rattle.alp_course.specs.Opens.{IsRestOf}

-- ---- where a run stands

-- A server: what it was started on, whether its vault tells what it holds, how it stands, its journal, and the ranks of its entries.
pub record Seat : Type 0 where
  pub opening : Start
  pub tells : Bool
  pub stand : Stand
  pub journal : List Entry
  pub ranks : List ℕ

-- it did nothing yet
abbrev pub first_seat : Start → Bool → Seat
first_seat o tells = record { opening = o; tells = tells; stand = first_stand o; journal = []; ranks = [] }

-- a server that is none of the run
abbrev pub no_seat : Seat
no_seat = first_seat (nobody 0).opening false

-- The servers, the first one first; and for each pair of servers how many messages were taken, and what was taken last with the last
-- rank of its sender then. What of a journal was shown is no matter here.
pub record Course : Type 0 where
  pub seats : List Seat
  pub posts : List Post

abbrev pub seat_at : Course → ℕ → Seat
seat_at r n = get_or r.seats (n - 1) no_seat

-- a server of this number is one of so many
pub record IsOneOf (servers n : ℕ) : Type 0 where
  pub first : 1 ≤ n
  pub last : n ≤ servers

abbrev pub IsSeat : Course → ℕ → Type 0
IsSeat r n = IsOneOf (length r.seats) n

-- no message was taken yet
abbrev pub none_taken : List Post → Type 0
none_taken p = (from to : ℕ) → AreServers from to → post_at p from to ≡ nothing_taken to

-- ---- what happens

-- Something happens at a server. The sweeps of carrying look whether a message of one server waits for another. A message is brought, or
-- is lost, or the one that was taken last is brought once more. One that was sent before comes, whichever it is, and saw that rank. A
-- settling finds all servers at rest, or not.
pub data Occurrence : Type 0 where
  at : (server : ℕ) → Happening → Occurrence
  looks : (from to : ℕ) → (waits : Bool) → Occurrence
  brings : (from to : ℕ) → Occurrence
  loses : (from to : ℕ) → Occurrence
  repeats : (from to : ℕ) → Occurrence
  comes : (from to : ℕ) (m : Message) (seen : ℕ) → Occurrence
  rests : (is_rest : Bool) → Occurrence

-- ---- ranks

-- the rank of the last entry, or 0
abbrev pub last_rank : List ℕ → ℕ
last_rank [] = 0
last_rank (n ∷ []) = n
last_rank (n ∷ m ∷ ns) = last_rank (m ∷ ns)

-- one for each entry, one above the other
abbrev pub ranks_from : ℕ → List Entry → List ℕ
ranks_from n [] = []
ranks_from n (e ∷ es) = n ∷ ranks_from (n + 1) es

-- further entries of a server have ranks above its own last one and above the one that they saw
abbrev pub ranks_with : List ℕ → (seen : ℕ) → List Entry → List ℕ
ranks_with rs seen es = rs ++ ranks_from (max (last_rank rs) seen + 1) es

-- this server sent that message to that server, at an entry of at most this rank
pub record IsSentBy (s : Seat) (to : ℕ) (m : Message) (most : ℕ) : Type 0 where
  pub place : ℕ
  pub entry : Entry
  pub stands : slice_get s.journal place ≡ Some entry
  pub sent : IsIn (act.Sent to m) entry.acts
  pub low : get_or s.ranks place 0 ≤ most

-- ---- what comes of it

-- the server stands so behind these entries, which saw that rank
abbrev pub seat_after : Seat → (seen : ℕ) → List Entry → Stand → Seat
seat_after s seen es w = record s { stand = w; journal = s.journal ++ es; ranks = ranks_with s.ranks seen es }

-- Entries that are made so are made at this server, and nothing else changes.
pub record IsAt (before : Course) (n seen : ℕ) (Makes : Seat → List Entry → Stand → Type 0) (after : Course) : Type 0 where
  pub here : IsSeat before n
  pub entries : List Entry
  pub stand : Stand
  pub made : Makes (seat_at before n) entries stand
  pub seats : after.seats ≡ slice_set before.seats (n - 1) (seat_after (seat_at before n) seen entries stand)
  pub posts : after.posts ≡ before.posts

-- the next message of one server to another that was not taken
abbrev pub next_message : Course → (from to : ℕ) → Option Message
next_message r from to = slice_get (messages_to to (seat_at r from).journal) (post_at r.posts from to).taken

-- it waits there to be brought
abbrev pub is_waiting : Course → (from to : ℕ) → Bool
is_waiting r from to = is_some (next_message r from to) && not (seat_at r to).stand.is_down

-- it is taken
abbrev pub taking : Course → (from to : ℕ) → Message → Course
taking r from to m = record r { posts = with_post r.posts from to (took m (last_rank (seat_at r from).ranks) [] (post_at r.posts from to)) }

-- it comes to the other server as any other event that is no call, where that is up
abbrev pub Arrives : Course → (from to : ℕ) → Message → (seen : ℕ) → Course → Type 0
Arrives r from to m seen after = IsAt r to seen (λ s es w. ComesTo s.stand s.stand.is_down (event.Arrive from m) es w) after

-- two servers of the run, each another one
pub record AreTwo (r : Course) (from to : ℕ) : Type 0 where
  pub sender : IsSeat r from
  pub receiver : IsSeat r to
  pub apart : from ≡ to → ⊥

abbrev pub IsBrought : Course → (from to : ℕ) → Option Message → Course → Type 0
IsBrought r from to None after = after ≡ r
IsBrought r from to (Some m) after = Arrives (taking r from to m) from to m (last_rank (seat_at r from).ranks) after

abbrev pub IsLost : Course → (from to : ℕ) → Option Message → Course → Type 0
IsLost r from to None after = after ≡ r
IsLost r from to (Some m) after = after ≡ taking r from to m

abbrev pub IsRepeated : Course → (from to : ℕ) → Option (Message × ℕ) → Course → Type 0
IsRepeated r from to None after = after ≡ r
IsRepeated r from to (Some x) after = Arrives r from to x.0 x.1 after

-- where all vaults tell what they hold
abbrev pub TellAll : Course → Type 0
TellAll r = AllByRecursion (λ (s : Seat). IsTrue s.tells) r.seats

-- it tells whether all servers are at rest: there is one of the flags for each
abbrev pub AreRest : Bool → List Seat → Type 0
AreRest true ss = AllByRecursion (λ (s : Seat). IsRestOf true s.stand.state) ss
AreRest false ss = (n : ℕ) × (s : Seat) × (slice_get ss n ≡ Some s) × IsRestOf false s.stand.state

abbrev pub Occurs : Course → Occurrence → Course → Type 0
Occurs r (at n h) after = IsAt r n 0 (λ s es w. Happens s.tells s.stand h es w) after
Occurs r (looks from to waits) after = AreTwo r from to × (waits ≡ is_waiting r from to) × (after ≡ r)
Occurs r (brings from to) after = AreTwo r from to × IsBrought r from to (next_message r from to) after
Occurs r (loses from to) after = AreTwo r from to × IsLost r from to (next_message r from to) after
Occurs r (repeats from to) after = AreTwo r from to × IsRepeated r from to (post_at r.posts from to).last after
Occurs r (comes from to m seen) after = AreTwo r from to × IsSentBy (seat_at r from) to m seen × Arrives r from to m seen after
Occurs r (rests is_rest) after = (TellAll r → AreRest is_rest r.seats) × (after ≡ r)

-- all of it occurs, one after the other
abbrev pub AreCourse : Course → List Occurrence → Course → Type 0
AreCourse r [] after = after ≡ r
AreCourse r (x ∷ xs) after = (mid : Course) × Occurs r x mid × AreCourse mid xs after
