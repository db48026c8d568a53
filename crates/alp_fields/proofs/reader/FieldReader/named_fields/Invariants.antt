use Rattle.alp_fields.specs.Fields.{named_field}
use Rattle.alp_fields.proofs.RepeatLemmas.{RepeatsSoFar}
use Rattle.alp_fields.proofs.reader.FieldReader.named_fields.Given as goal

abbrev pub invariant-loop : goal.invariant-loop
invariant-loop l = RepeatsSoFar named_field l.count l.counter l.names.items l.self l.initial.self
