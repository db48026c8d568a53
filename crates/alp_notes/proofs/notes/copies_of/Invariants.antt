use Rattle.std.proofs.Common.{◌≡◌, take}
use Rattle.alp_notes.proofs.notes.copies_of.Given as goal

abbrev pub invariant-loop-next : goal.invariant-loop-next
invariant-loop-next l = l.copies.items ≡ take l.next-index l.changes
