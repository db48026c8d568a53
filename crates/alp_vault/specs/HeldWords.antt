-- What is held in memory.
use Rattle.alp_vault.specs.Contents.{Contents}
use Rattle.alp_vault.specs.declared.held.Held.{Held}

abbrev pub contents_of : Held → Contents
contents_of h = record { cells = h.cells; notes = h.notes.notes }
