use Rattle.std.proofs.Common.{take}
use Rattle.std.specs.Prelude.{zip}
use Rattle.alp_fields.specs.Forms.{IsWritten, repeated}
use Rattle.alp_batch.specs.Batch.{note}
use Rattle.alp_batch.specs.Values.{puts}
use Rattle.alp_batch.proofs.notes.put_each_value.Given as goal

abbrev pub invariant-loop-i : goal.invariant-loop-i
invariant-loop-i l = IsWritten (repeated note l.i) (take l.i (puts (zip l.names l.values))) l.fn.out.items l.out.items
