use Rattle.std.proofs.Common.{◌≡◌, drop}
use Rattle.alp_disk.specs.Pending.{replay}
use Rattle.alp_disk.proofs.outcomes.keep_all.Given as goal

abbrev pub invariant-loop-write : goal.invariant-loop-write
invariant-loop-write l = replay l.stable.items (drop l.write-index l.write-items) ≡ replay l.fn.stable.items l.write-items
