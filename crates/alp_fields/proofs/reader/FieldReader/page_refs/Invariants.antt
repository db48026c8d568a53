use Rattle.alp_fields.specs.Fields.{page}
use Rattle.alp_fields.proofs.RepeatLemmas.{RepeatsSoFar}
use Rattle.alp_fields.proofs.reader.FieldReader.page_refs.Given as goal

abbrev pub invariant-loop : goal.invariant-loop
invariant-loop l = RepeatsSoFar page l.count l.counter l.pages.items l.self l.initial.self
