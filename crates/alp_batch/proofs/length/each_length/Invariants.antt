use Rattle.std.proofs.Common.{◌≡◌, take}
use Rattle.std.specs.Prelude.{zip}
use Rattle.alp_batch.specs.Batch.{notes_length}
use Rattle.alp_batch.specs.Values.{puts}
use Rattle.alp_batch.proofs.length.each_length.Given as goal

abbrev pub invariant-loop-i : goal.invariant-loop-i
invariant-loop-i l = l.bytes ≡ notes_length (take l.i (puts (zip l.names l.values)))
