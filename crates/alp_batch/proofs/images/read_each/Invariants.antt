use Rattle.alp_fields.proofs.RepeatLemmas.{RepeatsSoFar}
use Rattle.alp_batch.specs.Batch.{image}
use Rattle.alp_batch.proofs.images.read_each.Given as goal

abbrev pub invariant-loop : goal.invariant-loop
invariant-loop l = RepeatsSoFar image l.count l.counter l.items.items l.reader l.initial.reader
