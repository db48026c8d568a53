-- The times that messages tell.
use Rattle.std.specs.Prelude.{ℕ, ◌^◌, ◌≤◌}
use Rattle.alp_journal.specs.declared.message.Message.{Message}
use Rattle.alp_journal.specs.declared.message.Message.TheVariants as msg

-- it tells no time beyond the last
abbrev pub IsTimelyMessage : Message → Type 0
IsTimelyMessage (msg.Ready t j ts) = ts ≤ 2 ^ 62
IsTimelyMessage (msg.Commit t j stamp) = stamp.ts ≤ 2 ^ 62
IsTimelyMessage m = Unit {0}
