use Rattle.std.proofs.Common.{subst}
use Rattle.alp_fields.specs.Forms.{IsRead}
use Rattle.alp_fields.proofs.RepeatLemmas.{goes_on, ends}
use Rattle.alp_batch.specs.Batch.{note}
use Rattle.alp_batch.proofs.notes.read_each.Goals as goal

pub returns-in_default : goal.returns-in_default
returns-in_default c =
    ends note c.args.count c.loop.counter c.loop.items.items c.loop.reader c.args.reader.now c.loop-test.true
    (subst (IsRead note c.loop.reader c.read_note.new.reader) c.in_default.is c.in_ok-next.ensures) c.loop.invariant

pub loop-preserved : goal.loop-preserved
loop-preserved c =
    rw c.in_ok-push.ensures.items
    (goes_on note c.args.count c.loop.counter c.loop.items.items c.loop.reader c.args.reader.now c.read_note.new.reader c.in-Some.next c.loop-test.true
    (subst (IsRead note c.loop.reader c.read_note.new.reader) c.in-Some.is c.in_ok-next.ensures) c.loop.invariant)
