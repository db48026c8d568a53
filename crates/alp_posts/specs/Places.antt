-- Places of a journal, each by the number of an entry and that of an act in it, and the messages to a server before and behind one.
use Rattle.std.specs.Prelude.{◌≡◌, ℕ, ◌+◌, ◌<◌, ◌≤◌, ◌^◌, List, [], ◌∷◌, ◌++◌, length, take, drop}
use Rattle.alp_journal.specs.declared.act.Act.{Act}
use Rattle.alp_journal.specs.declared.entry.Entry.{Entry}
use Rattle.alp_journal.specs.declared.message.Message.{Message}
use Rattle.alp_posts.specs.Messages.{messages_in, messages_to}

-- at the end of the journal no act of the next entry is passed
pub record IsPlace (entry act : ℕ) (journal : List Entry) : Type 0 where
  pub within : entry ≤ length journal
  pub start : entry ≡ length journal → act ≡ 0

-- of the first of these entries so many acts are passed
abbrev pub passed_in : (to act : ℕ) → List Entry → List Message
passed_in to act [] = []
passed_in to act (e ∷ es) = messages_in to (take act e.acts)

abbrev pub behind_in : (to act : ℕ) → List Entry → List Message
behind_in to act [] = []
behind_in to act (e ∷ es) = messages_in to (drop act e.acts) ++ messages_to to es

-- the messages before the place, and those from it on
abbrev pub passed : (to entry act : ℕ) → List Entry → List Message
passed to entry act journal = messages_to to (take entry journal) ++ passed_in to act (drop entry journal)

abbrev pub behind : (to entry act : ℕ) → List Entry → List Message
behind to entry act journal = behind_in to act (drop entry journal)

-- of the acts from one on this is the first with a message there
pub record IsFirst (to from : ℕ) (acts : List Act) (at : ℕ) (m : Message) : Type 0 where
  pub within : at < length acts
  pub few : at + 1 < 2 ^ 64
  pub same : messages_in to (drop at acts) ≡ messages_in to (drop from acts)
  pub first : messages_in to (drop at acts) ≡ m ∷ messages_in to (drop (at + 1) acts)

-- the act at the place sends this message there
pub record StandsAt (to entry act : ℕ) (journal : List Entry) (m : Message) : Type 0 where
  pub within : entry < length journal
  pub few : act + 1 < 2 ^ 64
  pub first : behind to entry act journal ≡ m ∷ behind to entry (act + 1) journal
