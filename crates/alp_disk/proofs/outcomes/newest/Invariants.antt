use Rattle.std.proofs.Common.{◌≡◌, take}
use Rattle.alp_disk.specs.Disk.{page}
use Rattle.alp_disk.specs.Pending.{replay}
use Rattle.alp_disk.proofs.outcomes.newest.Given as goal

abbrev pub invariant-loop-write : goal.invariant-loop-write
invariant-loop-write l = l.page ≡ page (replay l.stable.items (take l.write-index l.write-items)) l.at
