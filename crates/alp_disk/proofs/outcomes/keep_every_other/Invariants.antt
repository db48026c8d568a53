use Rattle.std.proofs.Common.{◌≡◌, drop, false}
use Rattle.alp_disk.specs.Pending.{alternated}
use Rattle.alp_disk.proofs.outcomes.keep_every_other.Given as goal

abbrev pub invariant-loop-write : goal.invariant-loop-write
invariant-loop-write l = alternated l.keeps l.stable.items (drop l.write-index l.write-items) ≡ alternated false l.fn.stable.items l.write-items
