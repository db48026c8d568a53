use Rattle.std.proofs.Common.{◌≡◌, take}
use Rattle.alp_batch.proofs.batch.share_images.Given as goal

abbrev pub invariant-loop-next : goal.invariant-loop-next
invariant-loop-next l = l.copy.items ≡ take l.next-index l.images
