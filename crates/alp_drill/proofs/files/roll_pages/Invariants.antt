use Rattle.std.specs.List.{All, range_with_len}
use Rattle.std.proofs.Common.{◌≡◌, ◌<◌, length}
use Rattle.alp_drill.specs.Rolls.{in_turn}
use Rattle.alp_drill.specs.Files.{pages_of_file}
use Rattle.alp_drill.proofs.files.roll_pages.Given as goal

abbrev pub invariant-loop : goal.invariant-loop
invariant-loop l = record {
  pages : l.pages.items ≡ (in_turn (pages_of_file l.shape.pages) (range_with_len 0 l.counter) l.fn.dice).0;
  dice : l.dice ≡ (in_turn (pages_of_file l.shape.pages) (range_with_len 0 l.counter) l.fn.dice).1;
  count : length l.pages.items ≡ l.counter;
  some : All (λ most. 0 < most) l.pages.items;
}
