use Rattle.std.proofs.Common.{length, arith}
use Rattle.std.specs.Prelude.{zip}
use Rattle.alp_batch.specs.Values.{puts}
use Rattle.alp_batch.proofs.Values.{length-values, written_notes, on_ok}
use Rattle.alp_batch.proofs.notes.put_values.Goals as goal

pub overflow_cast-names : goal.overflow_cast-names
overflow_cast-names c = omega (arith, length-values c.args.names.now c.args.values.now c.requires.paired, c.requires.few)

pub returns : goal.returns
returns c =
    let ns = c.args.names.now in
    let vs = c.args.values.now in
    on_ok c.put_each_value.result _ _ (λ each. written_notes (length ns) (puts (zip ns vs)) _ _ _ (length-values ns vs c.requires.paired) c.requires.rise c.in_ok-put_u16.ensures.ok each) c.put_each_value.ensures
