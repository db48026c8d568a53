use Rattle.std.proofs.Common.{◌≡◌, ◌<◌, ℕ, List, length, sym, ◌∙◌, ap, subst, arith}
use Rattle.std.specs.Prelude.{zip}
use Rattle.std.proofs.lemmas.List.{take_all}
use Rattle.alp_base.specs.declared.bytes.NoteChange.{NoteChange}
use Rattle.alp_batch.specs.Batch.{puts_note, IsShort, notes_length}
use Rattle.alp_batch.specs.Values.{puts}
use Rattle.alp_batch.proofs.Lengths.{short_at, note_small, notes_small, sum_next}
use Rattle.alp_batch.proofs.Values.{length-values, value_at}
use Rattle.alp_batch.proofs.length.each_length.Goals as goal

pub value_length-bytes-requires : goal.value_length-bytes-requires
value_length-bytes-requires c =
    let ns = c.args.names.now in
    let vs = c.args.values.now in
    let i = c.loop-i.i in
    let one = puts_note (c.index-names-i.result, c.index-values-i.result) in
    let low : i < length ns = c.loop-i-test.true in
    let here = value_at ns vs i c.index-names-i.result c.index-values-i.result one low c.requires.paired c.index-names-i.is c.index-values-i.is in
    subst (λ (x : NoteChange). IsShort x) (sym here) (short_at (puts (zip ns vs)) i one c.requires.short (omega (arith, low, length-values ns vs c.requires.paired)))

pub overflow_add-bytes : goal.overflow_add-bytes
overflow_add-bytes c =
    let ns = c.args.names.now in
    let vs = c.args.values.now in
    let i = c.loop-i.i in
    let one = puts_note (c.index-names-i.result, c.index-values-i.result) in
    let low : i < length ns = c.loop-i-test.true in
    let here = value_at ns vs i c.index-names-i.result c.index-values-i.result one low c.requires.paired c.index-names-i.is c.index-values-i.is in
    let short = subst (λ (x : NoteChange). IsShort x) (sym here) (short_at (puts (zip ns vs)) i one c.requires.short (omega (arith, low, length-values ns vs c.requires.paired))) in
    omega (arith, c.loop-i.invariant, notes_small i (puts (zip ns vs)) c.requires.short, note_small one short, c.value_length-bytes.ensures, low, c.requires.few)

pub loop-i-preserved : goal.loop-i-preserved
loop-i-preserved c =
    let ns = c.args.names.now in
    let vs = c.args.values.now in
    let i = c.loop-i.i in
    let one = puts_note (c.index-names-i.result, c.index-values-i.result) in
    let low : i < length ns = c.loop-i-test.true in
    let here = value_at ns vs i c.index-names-i.result c.index-values-i.result one low c.requires.paired c.index-names-i.is c.index-values-i.is in
    sum_next (puts (zip ns vs)) i c.loop-i.bytes c.value_length-bytes.result one one (omega (arith, low, length-values ns vs c.requires.paired)) here c.loop-i.invariant c.value_length-bytes.ensures

pub returns-clause-sum : goal.returns-clause-sum
returns-clause-sum c =
    let ns = c.args.names.now in
    let vs = c.args.values.now in
    c.loop-i.invariant ∙ ap (λ (l : List NoteChange). notes_length l) (take_all c.loop-i.i (puts (zip ns vs)) (omega (arith, length-values ns vs c.requires.paired, c.loop-i-test.false)))

pub returns-clause-small : goal.returns-clause-small
returns-clause-small c =
    let ns = c.args.names.now in
    let vs = c.args.values.now in
    omega (arith, c.loop-i.invariant, notes_small c.loop-i.i (puts (zip ns vs)) c.requires.short, c.loop-i.auto.i-end, c.requires.few)
