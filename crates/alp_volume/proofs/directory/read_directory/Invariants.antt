use Rattle.std.specs.Prelude.{IsTrue, Ok}
use Rattle.std.specs.FinMap as map
use Rattle.std.proofs.Common.{◌≡◌, ◌≤◌, ◌-◌, ℕ, List, length}
use Rattle.alp_pages.specs.Damage.{Name}
use Rattle.alp_volume.specs.Reached.{AreListed, AreMarks, slots_from}
use Rattle.alp_volume.specs.Known.{IsCatalog}
use Rattle.alp_pages.specs.Reading.{HasRead}
use Rattle.alp_volume.proofs.LoopLaws.{Along}
use Rattle.alp_volume.proofs.directory.read_directory.Given as goal

abbrev pub invariant-loop-slot : goal.invariant-loop-slot
invariant-loop-slot g l = record {
  read : HasRead {T = Unit {0}} g.R.PageReader.ReadOn g.R.PageReader.faults g.R.PageReader.allowance l.fn.reader l.reader (Ok tt);
  few : map.len l.catalog.files ≤ l.slot;
  others : (l.catalog.owners ≡ l.fn.catalog.owners) × (l.catalog.rows ≡ l.fn.catalog.rows);
  long : length l.catalog.places ≡ length l.fn.catalog.places;
  sized : (home : ℕ) → IsCatalog home l.fn.catalog → IsCatalog home l.catalog;
  told : (home : ℕ) (names : List Name) → IsTrue (g.R.PageReader.tells l.fn.reader) → AreMarks home names l.fn.catalog.places → AreListed home (g.R.PageReader.pages l.fn.reader) 0 names l.fn.catalog.files l.fn.catalog.slots
      → (now : List Name) × Along home (g.R.PageReader.pages l.fn.reader) names (slots_from 0) (slots_from l.slot) now × AreMarks home now l.catalog.places × AreListed home (g.R.PageReader.pages l.fn.reader) l.slot now l.catalog.files l.catalog.slots;
}
