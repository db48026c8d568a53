-- The turns of a storm: who took each, what occurred by it, and the entry that came of it.
use Rattle.std.specs.Prelude.{ℕ, ◌==◌, ◌≤◌, List, [], ◌∷◌, filter}
use Rattle.alp_journal.specs.declared.entry.Entry.{Entry}
use Rattle.alp_course.specs.Courses.{Occurrence, at, comes}

-- the thread of a client, or the carrier of a pair of servers
pub data Who : Type 0 where
  worker : (client : ℕ) → Who
  carrier : (from to : ℕ) → Who

-- Something happened at a server, or a message came to it. One entry came of it there, which has this rank.
pub record Turn : Type 0 where
  pub who : Who
  pub occurrence : Occurrence
  pub entry : Entry
  pub rank : ℕ

abbrev pub occurrence_in : Turn → Occurrence
occurrence_in x = x.occurrence

-- the server of it; what is no turn has none
abbrev pub server_of : Occurrence → ℕ
server_of (at n h) = n
server_of (comes from to m seen) = to
server_of o = 0

-- the turns of one server, in order
abbrev pub turns_at : ℕ → List Turn → List Turn
turns_at n xs = filter (λ (x : Turn). server_of x.occurrence == n) xs

-- no rank is below the one before
abbrev pub AreInOrder : ℕ → List Turn → Type 0
AreInOrder low [] = Unit {0}
AreInOrder low (x ∷ xs) = (low ≤ x.rank) × AreInOrder x.rank xs

-- the rank of its sender that a message saw
abbrev pub seen_by : Occurrence → ℕ
seen_by (comes from to m seen) = seen
seen_by o = 0
