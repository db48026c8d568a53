-- What the home pages of a log stand for.
use Rattle.alp_disk.specs.Disk.{page}
use Rattle.alp_disk.specs.declared.disk.Disk.{Ghosts}
use Rattle.alp_files.specs.Cells.{Cells}
use Rattle.alp_pages.specs.Pages.{Pages}
use Rattle.alp_pages.specs.Damage.{parts, names_after}
use Rattle.alp_pages.proofs.CellsLaws.{cells_of}
use Rattle.alp_vault.specs.Contents.{Contents}
use Rattle.alp_wal.specs.State.{State}
use Rattle.alp_wal.specs.Wal.{disk_of, state_of}
use Rattle.alp_wal.specs.declared.wal.Wal.{Wal}
use Rattle.std.specs.Prelude.{[]}

-- home pages by their places
abbrev pub pages_of : State → Pages
pages_of s = page s.pages

-- The cells of the leaders, pages and owners that the pages name. Where no page is damaged, the pages stand for just these.
unfoldable pub cells_on : Pages → Cells
cells_on at = cells_of at (names_after at [] (parts at))

-- what home pages and notes come to
abbrev pub contents_in : State → Contents
contents_in s = record { cells = cells_on (pages_of s); notes = s.notes }

-- the home pages of a log, over what a read of its disk gives, and its notes
abbrev pub told_by : {D : Type 0} → Ghosts D → Wal D → State
told_by g w = state_of w (g.seen (disk_of w))

abbrev pub contents_of : {D : Type 0} → Ghosts D → Wal D → Contents
contents_of g w = contents_in (told_by g w)
