use Rattle.alp_fields.specs.Fields.{named_field}
use Rattle.alp_fields.proofs.RepeatLemmas.{goes_on}
use Rattle.alp_fields.proofs.reader.FieldReader.named_fields.Goals as goal

pub loop-preserved : goal.loop-preserved
loop-preserved c =
    rw c.in_ok-push.ensures.items
    (goes_on named_field c.args.count c.loop.counter c.loop.names.items c.loop.self c.args.self.now c.named_field.new.self c.in-Some.next c.loop-test.true c.in-Some.ensures c.loop.invariant)
