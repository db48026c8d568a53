use Rattle.std.specs.Prelude.{IsTrue, Ok, false}
use Rattle.std.proofs.Common.{◌≡◌, ◌≤◌, ◌/◌, ℕ, List, length}
use Rattle.alp_base.specs.declared.ids.FileId.{FileId}
use Rattle.alp_pages.specs.Nodes.{DataOf}
use Rattle.alp_pages.specs.Damage.{Name, has_node}
use Rattle.alp_volume.specs.Reached.{AreMarks, blocks_from}
use Rattle.alp_tables.specs.Bits.{Stays}
use Rattle.alp_pages.specs.Reading.{HasRead}
use Rattle.alp_volume.proofs.LoopLaws.{Along}
use Rattle.alp_volume.proofs.file_pages.read_blocks.Given as goal

abbrev pub invariant-loop-block : goal.invariant-loop-block
invariant-loop-block g l = record {
  read : HasRead {T = Unit {0}} g.R.PageReader.ReadOn g.R.PageReader.faults g.R.PageReader.allowance l.fn.reader l.reader (Ok tt);
  long : length l.places ≡ length l.fn.places;
  stay : Stays l.fn.places l.places;
  told : (home : ℕ) (names : List Name) (f : FileId) → IsTrue (g.R.PageReader.tells l.fn.reader) → AreMarks home names l.fn.places → ((n : ℕ) → has_node (DataOf f n) names ≡ false)
      → (now : List Name) × Along home (g.R.PageReader.pages l.fn.reader) names (blocks_from f l.size l.index 0) (blocks_from f l.size l.index l.block) now × AreMarks home now l.places × ((n : ℕ) → l.block ≤ n / 128 → has_node (DataOf f n) now ≡ false);
}
