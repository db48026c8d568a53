use Rattle.alp_fields.specs.Fields.{name}
use Rattle.alp_fields.proofs.RepeatLemmas.{RepeatsSoFar}
use Rattle.alp_fields.proofs.reader.FieldReader.names.Given as goal

abbrev pub invariant-loop : goal.invariant-loop
invariant-loop l = RepeatsSoFar name l.count l.counter l.names.items l.self l.initial.self
