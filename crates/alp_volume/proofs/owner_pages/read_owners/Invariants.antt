use Rattle.std.specs.Prelude.{IsTrue, Ok}
use Rattle.std.specs.FinMap as map
use Rattle.std.proofs.Common.{◌≡◌, ◌≤◌, ℕ, List}
use Rattle.alp_pages.specs.Damage.{Name}
use Rattle.alp_volume.specs.Reached.{AreCosts, AreOwners, rows_from}
use Rattle.alp_volume.specs.Known.{IsCatalog}
use Rattle.alp_pages.specs.Reading.{HasRead}
use Rattle.alp_volume.proofs.LoopLaws.{Along}
use Rattle.alp_volume.proofs.owner_pages.read_owners.Given as goal

abbrev pub invariant-loop-row : goal.invariant-loop-row
invariant-loop-row g l = record {
  read : HasRead {T = Unit {0}} g.R.PageReader.ReadOn g.R.PageReader.faults g.R.PageReader.allowance l.fn.reader l.reader (Ok tt);
  few : map.len l.catalog.owners ≤ l.row;
  files : (l.catalog.files ≡ l.fn.catalog.files) × (l.catalog.slots ≡ l.fn.catalog.slots);
  places : l.catalog.places ≡ l.fn.catalog.places;
  sized : (home : ℕ) → IsCatalog home l.fn.catalog → IsCatalog home l.catalog;
  told : (home : ℕ) (names : List Name) → IsTrue (g.R.PageReader.tells l.fn.reader) → AreCosts (g.R.PageReader.pages l.fn.reader) l.costs → AreOwners (g.R.PageReader.pages l.fn.reader) 0 l.fn.catalog.owners l.fn.catalog.rows
      → Along home (g.R.PageReader.pages l.fn.reader) names (rows_from 0) (rows_from l.row) names × AreOwners (g.R.PageReader.pages l.fn.reader) l.row l.catalog.owners l.catalog.rows;
}
