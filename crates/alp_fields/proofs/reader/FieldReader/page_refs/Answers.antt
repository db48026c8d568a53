use Rattle.alp_fields.specs.Fields.{page}
use Rattle.alp_fields.proofs.RepeatLemmas.{goes_on}
use Rattle.alp_fields.proofs.reader.FieldReader.page_refs.Goals as goal

pub loop-preserved : goal.loop-preserved
loop-preserved c =
    rw (c.in_ok-push.ensures.items, c.in_ok-shared.ensures)
    (goes_on page c.args.count c.loop.counter c.loop.pages.items c.loop.self c.args.self.now c.page.new.self c.in-Some.next c.loop-test.true c.in-Some.ensures c.loop.invariant)
