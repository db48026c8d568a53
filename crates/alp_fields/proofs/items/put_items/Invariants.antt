use Rattle.std.proofs.Common.{take}
use Rattle.alp_fields.specs.Forms.{IsWritten, repeated}
use Rattle.alp_fields.proofs.items.put_items.Given as goal

abbrev pub invariant-loop-next : goal.invariant-loop-next
invariant-loop-next g l = IsWritten (repeated g.T.Item.form l.next-index) (take l.next-index l.items) l.initial.out.items l.out.items
