use Rattle.std.proofs.Common.{◌≡◌, ◌<◌, ℕ, List, length, sym, subst, ap, ◌∙◌, arith}
use Rattle.std.specs.Prelude.{zip}
use Rattle.std.proofs.lemmas.List.{take_all}
use Rattle.alp_base.specs.declared.bytes.NoteChange.{NoteChange}
use Rattle.alp_fields.specs.Forms.{IsWritten, repeated}
use Rattle.alp_batch.specs.Batch.{note, puts_note, IsShort}
use Rattle.alp_batch.specs.Values.{puts}
use Rattle.alp_batch.proofs.Lengths.{short_at}
use Rattle.alp_batch.proofs.Values.{length-values, value_at, written_more}
use Rattle.alp_batch.proofs.notes.put_each_value.Goals as goal

pub put_value-requires : goal.put_value-requires
put_value-requires c =
    let ns = c.args.names.now in
    let vs = c.args.values.now in
    let i = c.loop-i.i in
    let one = puts_note (c.index-names-i.result, c.index-values-i.result) in
    let low : i < length ns = c.loop-i-test.true in
    let here : one ≡ _ = value_at ns vs i c.index-names-i.result c.index-values-i.result one low c.requires.paired c.index-names-i.is c.index-values-i.is in
    subst (λ (x : NoteChange). IsShort x) (sym here) (short_at (puts (zip ns vs)) i one c.requires.short (omega (arith, low, length-values ns vs c.requires.paired)))

pub loop-i-preserved : goal.loop-i-preserved
loop-i-preserved c =
    let ns = c.args.names.now in
    let vs = c.args.values.now in
    let i = c.loop-i.i in
    let one = puts_note (c.index-names-i.result, c.index-values-i.result) in
    let low : i < length ns = c.loop-i-test.true in
    let here = value_at ns vs i c.index-names-i.result c.index-values-i.result one low c.requires.paired c.index-names-i.is c.index-values-i.is in
    written_more note i (puts (zip ns vs)) one _ _ _ (omega (arith, low, length-values ns vs c.requires.paired)) here c.loop-i.invariant c.in_ok-put_value.ensures

pub returns : goal.returns
returns c =
    let ns = c.args.names.now in
    let vs = c.args.values.now in
    let long = length-values ns vs c.requires.paired in
    let all = take_all c.loop-i.i (puts (zip ns vs)) (omega (arith, long, c.loop-i-test.false)) in
    let end : c.loop-i.i ≡ length ns = omega (arith, c.loop-i-test.false, c.loop-i.auto.i-end) in
    subst (λ (t : ℕ × List NoteChange). IsWritten (repeated note t.0) t.1 c.args.out.now.items c.loop-i.out.items) (λ k. (end k, all k)) c.loop-i.invariant
