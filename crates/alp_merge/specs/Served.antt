-- What a server's monitor gives once it is closed: one list of entries, each with its rank and with the pass that made it.
use Rattle.std.specs.Prelude.{◌≡◌, ℕ, ◌+◌, ◌<◌, ◌≤◌, max, Bool, false, List, [], ◌∷◌, ◌++◌, length, take, filter, map as list_map, slice_get, Some}
use Rattle.std.specs.List.{AllByRecursion}
use Rattle.alp_files.specs.declared.call.Call.{Call}
use Rattle.alp_journal.specs.Answered.{entries_limit}
use Rattle.alp_journal.specs.Moves.{stops}
use Rattle.alp_journal.specs.declared.entry.Entry.{Entry}
use Rattle.alp_journal.specs.declared.event.Event.TheVariants as event
use Rattle.alp_journal.specs.declared.log.Item.{Item}
use Rattle.alp_journal.specs.declared.log.Sent.TheVariants as sent_as
use Rattle.alp_monitor.specs.History.{entries_in, turns_of}
use Rattle.alp_session.specs.Frames.{told_by}
use Rattle.alp_course.specs.Courses.{Seat, last_rank, Occurrence, at, comes}
use Rattle.alp_course.specs.Happens.{sent_it, timed_out, ticked, handed_for}
use Rattle.alp_merge.specs.Turns.{Who, Turn, server_of, seen_by}

-- an entry with its rank
pub record Ranked : Type 0 where
  pub entry : Entry
  pub rank : ℕ

abbrev pub entry_of : Ranked → Entry
entry_of x = x.entry

abbrev pub rank_of : Ranked → ℕ
rank_of x = x.rank

abbrev pub entries_of : List Ranked → List Entry
entries_of xs = list_map entry_of xs

abbrev pub ranks_of : List Ranked → List ℕ
ranks_of xs = list_map rank_of xs

-- what the seat's journal and ranks are behind these
abbrev pub seat_behind : Seat → List Ranked → Seat
seat_behind s xs = record s { journal = s.journal ++ entries_of xs; ranks = s.ranks ++ ranks_of xs }

-- ---- one pass

-- The entry of a call that a client sent, so many entries behind where the server stood. The client was handed its reply.
pub record IsCallOf (s : Seat) (place : ℕ) (x : Item) (e : Entry) : Type 0 where
  pub client : ℕ
  pub epoch : ℕ
  pub number : ℕ
  pub call : Call
  pub sent : x.sent ≡ sent_as.Call client epoch number call
  pub made : e.event ≡ event.Call client epoch number call
  pub server : x.server ≡ s.stand.server
  pub placed : x.place ≡ Some (s.stand.place + place)
  pub reply : e.reply ≡ x.reply
  pub told : told_by (handed_for s.stand.epoch client number e.reply) ≡ x.reply

-- the entry is of this occurrence; of what is no turn there is none
abbrev pub IsOf : Seat → ℕ → Occurrence → Entry → Type 0
IsOf s place (at n (sent_it k x)) e = IsCallOf s place x e
IsOf s place (at n (timed_out t)) e = e.event ≡ event.Timeout t
IsOf s place (at n ticked) e = e.event ≡ event.Tick
IsOf s place (comes from to m seen) e = e.event ≡ event.Arrive from m
IsOf s place o e = ⊥

-- at the server of this number, with the next rank behind the entries that stand before its place
pub record IsTurnOf (s : Seat) (n : ℕ) (all : List Ranked) (o : Occurrence) (t : ℕ × Ranked) : Type 0 where
  pub here : server_of o ≡ n
  pub its : IsOf s t.0 o t.1.entry
  pub ranked : t.1.rank ≡ max (last_rank (s.ranks ++ ranks_of (take t.0 all))) (seen_by o) + 1

-- one for each
abbrev pub AreTurnsOf : Seat → ℕ → List Ranked → List Occurrence → List (ℕ × Ranked) → Type 0
AreTurnsOf s n all [] [] = Unit {0}
AreTurnsOf s n all (o ∷ os) (t ∷ ts) = IsTurnOf s n all o t × AreTurnsOf s n all os ts
AreTurnsOf s n all os ts = ⊥

-- ---- the whole

-- The server was up and had room, none of the entries stopped it, and each of so many passes made just the entries of what it did.
pub record IsServed (s : Seat) (n passes : ℕ) (history : List (ℕ × Ranked)) (done : ℕ → List Occurrence) : Type 0 where
  pub up : s.stand.is_down ≡ false
  pub room : s.stand.place + length history ≤ entries_limit
  pub calm : AllByRecursion (λ (x : Ranked). stops x.entry ≡ false) (entries_in history)
  pub few : (k : ℕ) (x : ℕ × Ranked) → slice_get history k ≡ Some x → x.0 < passes
  pub each : (j : ℕ) → j < passes → AreTurnsOf s n (entries_in history) (done j) (turns_of j history)

-- what those did of whom that says so, in order
abbrev pub done_by : (Who → Bool) → List Turn → List Occurrence
done_by is xs = list_map (λ (x : Turn). x.occurrence) (filter (λ (x : Turn). is x.who) xs)

abbrev pub ranked_in : Turn → Ranked
ranked_in x = record { entry = x.entry; rank = x.rank }
