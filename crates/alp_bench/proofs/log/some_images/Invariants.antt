use Rattle.std.proofs.Common.{◌≡◌, true, length}
use Rattle.std.specs.List.{AllByRecursion}
use Rattle.alp_batch.specs.Batch.{page_below}
use Rattle.alp_fields.specs.Rising.{is_rising}
use Rattle.alp_wal.specs.State.{IsBelow}
use Rattle.alp_bench.proofs.log.some_images.Given as goal

abbrev pub invariant-loop-at : goal.invariant-loop-at
invariant-loop-at l = record {
  count : length l.images.items ≡ l.at;
  rise : is_rising page_below l.images.items ≡ true;
  below : AllByRecursion (IsBelow l.at) l.images.items;
}
