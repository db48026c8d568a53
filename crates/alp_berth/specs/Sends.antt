-- The messages that entries send.
use Rattle.std.specs.Prelude.{◌≡◌, ℕ, ◌+◌, ◌^◌, min, Bool, true, false, List, [], ◌∷◌, ◌++◌, length, flat_map}
use Rattle.alp_journal.specs.declared.act.Act.{Act}
use Rattle.alp_journal.specs.declared.act.Act.TheVariants as act
use Rattle.alp_journal.specs.declared.entry.Entry.{Entry}
use Rattle.alp_journal.specs.declared.message.Envelope.{Envelope}
use Rattle.alp_node.specs.Nodes as node

abbrev pub is_sending : Act → Bool
is_sending (act.Sent to message) = true
is_sending a = false

-- those of one entry's acts
abbrev pub sent_by : List Act → List Envelope
sent_by acts = flat_map node.sent_by acts

-- a count of 64 bits, which stays at its greatest number
abbrev pub capped : ℕ → ℕ
capped n = min n 18446744073709551615

-- for each entry how many messages were sent before it, where so many were sent before the first
abbrev pub counts_from : ℕ → List Entry → List ℕ
counts_from n [] = []
counts_from n (e ∷ es) = capped n ∷ counts_from (n + length (sent_by e.acts)) es

-- how many messages entries sent
abbrev pub count_in : List Entry → ℕ
count_in [] = 0
count_in (e ∷ es) = length (sent_by e.acts) + count_in es
