-- What a vault holds: cells, and notes by their names.
use Rattle.std.specs.Prelude.{List}
use Rattle.alp_base.specs.declared.bytes.NoteChange.{NoteChange}
use Rattle.alp_base.specs.Notes.{Notes, notes_after}
use Rattle.alp_files.specs.Cells.{Cells}
use Rattle.alp_files.specs.Edits.{edits_map}
use Rattle.alp_files.specs.Changes.{edits_of}
use Rattle.alp_base.specs.declared.change.Change.{Change}

pub record Contents : Type 0 where
  pub cells : Cells
  pub notes : Notes

-- what is held after a commit
abbrev pub made : Change → List NoteChange → Contents → Contents
made change notes held = record { cells = edits_map (edits_of change) held.cells; notes = notes_after notes held.notes }
