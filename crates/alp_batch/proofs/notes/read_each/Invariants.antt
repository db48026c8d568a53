use Rattle.alp_fields.proofs.RepeatLemmas.{RepeatsSoFar}
use Rattle.alp_batch.specs.Batch.{note}
use Rattle.alp_batch.proofs.notes.read_each.Given as goal

abbrev pub invariant-loop : goal.invariant-loop
invariant-loop l = RepeatsSoFar note l.count l.counter l.items.items l.reader l.initial.reader
