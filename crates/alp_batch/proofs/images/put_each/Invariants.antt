use Rattle.std.proofs.Common.{take}
use Rattle.alp_fields.specs.Forms.{IsWritten, repeated}
use Rattle.alp_batch.specs.Batch.{image}
use Rattle.alp_batch.proofs.images.put_each.Given as goal

abbrev pub invariant-loop-next : goal.invariant-loop-next
invariant-loop-next l = IsWritten (repeated image l.next-index) (take l.next-index l.items) l.initial.out.items l.out.items
