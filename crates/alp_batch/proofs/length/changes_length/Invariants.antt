use Rattle.std.proofs.Common.{◌≡◌, take}
use Rattle.alp_batch.specs.Batch.{notes_length}
use Rattle.alp_batch.proofs.length.changes_length.Given as goal

abbrev pub invariant-loop-next : goal.invariant-loop-next
invariant-loop-next l = l.bytes ≡ notes_length (take l.next-index l.changes)
