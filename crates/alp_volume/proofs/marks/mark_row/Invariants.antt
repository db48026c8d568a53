use Rattle.std.proofs.Common.{◌≡◌, ◌<◌, ℕ, List, length, get_or, ◌⊎◌}
use Rattle.alp_pages.specs.Nodes.{Node}
use Rattle.alp_pages.specs.Damage.{Name}
use Rattle.alp_volume.specs.Reached.{AreFresh, AreMarks}
use Rattle.alp_tables.specs.Bits.{Stays}
use Rattle.alp_volume.proofs.MarkLaws.{RowLeft}
use Rattle.alp_volume.proofs.marks.mark_row.Given as goal

abbrev pub invariant-loop-j : goal.invariant-loop-j
invariant-loop-j l = record {
  left : (home : ℕ) (names : List Name) (k : Node) → AreMarks home names l.fn.places → AreFresh k names → RowLeft home l.limit names k l.row l.j l.places;
  within : (j : ℕ) → j < l.j → (get_or l.row j 0 ≡ 0) ⊎ (get_or l.row j 0 < length l.fn.places);
  long : length l.places ≡ length l.fn.places;
  stay : Stays l.fn.places l.places;
}
