use Rattle.std.specs.Prelude.{◌==◌, not, slice_index}
use Rattle.std.specs.Int.{bit_at}
use Rattle.std.proofs.Common.{◌≡◌, ◌≤◌, ◌<◌, ℕ}
use Rattle.alp_pages.specs.Counted.{bit}
use Rattle.alp_volume.proofs.blocks.blocks_of.Given as goal

abbrev pub invariant-loop-block : goal.invariant-loop-block
invariant-loop-block l = record {
  done : (b : ℕ) → b < l.block → bit_at l.blocks b ≡ bit (not (slice_index l.index b == 0));
  left : (b : ℕ) → l.block ≤ b → bit_at l.blocks b ≡ 0;
}
