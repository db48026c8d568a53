use Rattle.std.specs.Prelude.{IsTrue, Ok}
use Rattle.std.proofs.Common.{◌≡◌, ◌≤◌, ℕ, List, length}
use Rattle.alp_pages.specs.Damage.{Name}
use Rattle.alp_volume.specs.Reached.{AreListed, AreMarks, AreNamed, AreOwners, files_from}
use Rattle.alp_volume.specs.Known.{IsCatalog}
use Rattle.alp_pages.specs.Reading.{HasRead}
use Rattle.alp_volume.proofs.LoopLaws.{Along}
use Rattle.alp_volume.proofs.volume_files.read_files.Given as goal

abbrev pub invariant-loop-slot : goal.invariant-loop-slot
invariant-loop-slot g l = record {
  read : HasRead {T = Unit {0}} g.R.PageReader.ReadOn g.R.PageReader.faults g.R.PageReader.allowance l.fn.reader l.reader (Ok tt);
  others : (l.catalog.owners ≡ l.fn.catalog.owners) × (l.catalog.rows ≡ l.fn.catalog.rows) × (l.catalog.slots ≡ l.fn.catalog.slots);
  long : length l.catalog.places ≡ length l.fn.catalog.places;
  sized : (home : ℕ) → IsCatalog home l.fn.catalog → IsCatalog home l.catalog;
  told : (home : ℕ) (names : List Name) → IsTrue (g.R.PageReader.tells l.fn.reader) → AreMarks home names l.fn.catalog.places → AreListed home (g.R.PageReader.pages l.fn.reader) 4096 names l.fn.catalog.files l.fn.catalog.slots
      → AreOwners (g.R.PageReader.pages l.fn.reader) 256 l.fn.catalog.owners l.fn.catalog.rows → AreNamed 0 names l.fn.catalog.files
      → (now : List Name) × Along home (g.R.PageReader.pages l.fn.reader) names (files_from (g.R.PageReader.pages l.fn.reader) 0) (files_from (g.R.PageReader.pages l.fn.reader) l.slot) now × AreMarks home now l.catalog.places
      × AreListed home (g.R.PageReader.pages l.fn.reader) 4096 now l.catalog.files l.catalog.slots × AreNamed l.slot now l.catalog.files;
}
