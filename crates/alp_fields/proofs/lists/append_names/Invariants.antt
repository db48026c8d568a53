use Rattle.std.proofs.Common.{take}
use Rattle.alp_fields.specs.Forms.{IsWritten, repeated}
use Rattle.alp_fields.specs.Fields.{name}
use Rattle.alp_fields.proofs.lists.append_names.Given as goal

abbrev pub invariant-loop-next : goal.invariant-loop-next
invariant-loop-next l = IsWritten (repeated name l.next-index) (take l.next-index l.names) l.initial.out.items l.out.items
