use Rattle.std.proofs.Common.{take}
use Rattle.alp_fields.specs.Forms.{IsWritten, repeated}
use Rattle.alp_fields.specs.Fields.{page}
use Rattle.alp_fields.proofs.lists.append_page_refs.Given as goal

abbrev pub invariant-loop-next : goal.invariant-loop-next
invariant-loop-next l = IsWritten (repeated page l.next-index) (take l.next-index l.pages) l.initial.out.items l.out.items
