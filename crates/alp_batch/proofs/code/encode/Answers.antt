use Rattle.std.proofs.Common.{length, ap, ◌∙◌, ◌++◌, List, ℕ}
use Rattle.alp_batch.specs.Batch.{batch}
use Rattle.alp_batch.proofs.BatchLaws.{batch_is}
use Rattle.alp_batch.proofs.code.encode.Goals as goal

pub returns-clause-long : goal.returns-clause-long
returns-clause-long c =
    let written = c.in_ok-put_batch.ensures in
    ap length c.new.ensures ∙ ap length written.appended ∙ ap (λ (l : List ℕ). length (l ++ batch.spell c.args.batch.now)) c.in_ok-out.ensures.items ∙ batch_is c.args.batch.now written.fits
