-- What was taken of the messages of one server to another.
use Rattle.std.specs.Prelude.{ℕ, ◌+◌, List, [], Option, None, Some}
use Rattle.alp_journal.specs.declared.entry.Entry.{Entry}
use Rattle.alp_journal.specs.declared.message.Message.{Message}

-- to whom, what of the sender's journal was shown, how many of the messages were taken, and the last of them with the last rank of
-- the sender then
pub record Post : Type 0 where
  pub to : ℕ
  pub shown : List Entry
  pub taken : ℕ
  pub last : Option (Message × ℕ)

abbrev pub post_of : (to : ℕ) → List Entry → (taken : ℕ) → Option (Message × ℕ) → Post
post_of to shown taken last = record { to = to; shown = shown; taken = taken; last = last }

abbrev pub nothing_taken : ℕ → Post
nothing_taken to = post_of to [] 0 None

-- the whole journal was shown
abbrev pub shown_all : List Entry → Post → Post
shown_all journal p = post_of p.to journal p.taken p.last

-- and one message more was taken, while the sender had this last rank
abbrev pub took : Message → (rank : ℕ) → List Entry → Post → Post
took m rank journal p = post_of p.to journal (p.taken + 1) (Some (m, rank))
