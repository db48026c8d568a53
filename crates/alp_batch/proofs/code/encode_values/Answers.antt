use Rattle.std.proofs.Common.{length, ap, ◌∙◌, ◌++◌, List, ℕ, arith}
use Rattle.alp_batch.specs.Batch.{batch}
use Rattle.alp_batch.specs.Values.{values_batch}
use Rattle.alp_batch.proofs.BatchLaws.{batch_is}
use Rattle.alp_batch.proofs.Values.{length-values}
use Rattle.alp_batch.proofs.code.encode_values.Goals as goal

pub returns-clause-long : goal.returns-clause-long
returns-clause-long c =
    let written = c.in_ok-put_values_batch.ensures in
    let b = values_batch c.args.names.now c.args.values.now in
    ap length c.new-2.ensures ∙ ap length written.appended ∙ ap (λ (l : List ℕ). length (l ++ batch.spell b)) c.in_ok-out.ensures.items ∙ batch_is b written.fits

pub values_length-requires-clause-few : goal.values_length-requires-clause-few
values_length-requires-clause-few c = omega (arith, length-values c.args.names.now c.args.values.now c.requires.paired, c.requires.batch.few_notes)
