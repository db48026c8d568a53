-- The messages to a server that a journal sends.
use Rattle.std.specs.Prelude.{◌≡◌, ℕ, ◌==◌, List, ◌++◌, flat_map, Option, None, Some, option_to_list, if◌then◌else◌, slice_get}
use Rattle.alp_journal.specs.declared.act.Act.{Act}
use Rattle.alp_journal.specs.declared.act.Act.TheVariants as act
use Rattle.alp_journal.specs.declared.entry.Entry.{Entry}
use Rattle.alp_journal.specs.declared.message.Message.{Message}

-- the message that the act sends there
abbrev pub message_to : ℕ → Act → Option Message
message_to to (act.Sent there m) = if there == to then Some m else None
message_to to a = None

abbrev pub messages_in : ℕ → List Act → List Message
messages_in to acts = flat_map (λ a. option_to_list (message_to to a)) acts

-- all messages to that server that the entries send, in turn
abbrev pub messages_to : ℕ → List Entry → List Message
messages_to to entries = flat_map (λ (e : Entry). messages_in to e.acts) entries

-- an act of an entry of the journal sends it there
pub record IsSent (to : ℕ) (m : Message) (journal : List Entry) : Type 0 where
  pub place : ℕ
  pub entry : Entry
  pub number : ℕ
  pub stands : slice_get journal place ≡ Some entry
  pub sent : slice_get entry.acts number ≡ Some (act.Sent to m)

-- a journal has further entries behind those that it had
pub record HasGrown (before after : List Entry) : Type 0 where
  pub more : List Entry
  pub is : after ≡ before ++ more
