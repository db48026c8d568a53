use Rattle.std.proofs.Common.{◌≡◌, replicate, None}
use Rattle.alp_wal.proofs.index.no_images.Given as goal

abbrev pub invariant-loop : goal.invariant-loop
invariant-loop l = l.images.items ≡ replicate l.counter None
