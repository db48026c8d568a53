use Rattle.std.proofs.Common.{sym, subst, arith}
use Rattle.alp_base.specs.declared.bytes.NoteChange.{NoteChange}
use Rattle.alp_batch.specs.Batch.{IsShort}
use Rattle.alp_batch.proofs.Lengths.{short_at, note_small, notes_small, sum_next}
use Rattle.alp_batch.proofs.length.changes_length.Goals as goal

pub overflow_add-bytes : goal.overflow_add-bytes
overflow_add-bytes c =
    let i = c.loop-next.next-index in
    let ns = c.args.changes.now in
    let x = c.next-item.result in
    let short = subst (λ (n : NoteChange). IsShort n) (sym c.next-item.is) (short_at ns i x c.requires.short c.loop-next-test.true) in
    omega (arith, c.loop-next.invariant, notes_small i ns c.requires.short, note_small x short, c.change_length-bytes.ensures, c.loop-next-test.true, c.requires.few)

pub loop-next-preserved : goal.loop-next-preserved
loop-next-preserved c =
    sum_next c.args.changes.now c.loop-next.next-index c.loop-next.bytes c.change_length-bytes.result c.next-item.result c.next-item.result c.loop-next-test.true c.next-item.is c.loop-next.invariant c.change_length-bytes.ensures

pub returns-clause-small : goal.returns-clause-small
returns-clause-small c = omega (arith, c.loop-next.invariant, notes_small c.loop-next.next-index c.args.changes.now c.requires.short, c.loop-next.auto.next-index-end, c.requires.few)
