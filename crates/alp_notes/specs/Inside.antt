-- What the rows of notes in memory stand for.
use Rattle.std.specs.Prelude.{◌-◌, min, length}
use Rattle.alp_notes.specs.Held.{Held}
use Rattle.alp_notes.specs.Rows.{notes_in, AreRows}
use Rattle.alp_notes.specs.declared.notes.Notes.TheInside.{Inside}

-- their map, and the room that both rows have
abbrev pub shown : Inside → Held
shown n = record { notes = notes_in n.names.items n.values.items; room = min (n.names.cap - length n.names.items) (n.values.cap - length n.values.items) }

abbrev pub IsWhole : Inside → Type 0
IsWhole n = AreRows n.names.items n.values.items
