use Rattle.std.proofs.Common.{◌≡◌}
use Rattle.alp_fields.proofs.FormLaws.{found_unless, only_unless}
use Rattle.alp_batch.specs.Batch.{batch, IsBatch}
use Rattle.alp_batch.proofs.BatchLaws.{batch_law, is_batch, found_is}
use Rattle.alp_batch.proofs.code.decode.Goals as goal

pub returns-clause-found : goal.returns-clause-found
returns-clause-found c = found_unless batch batch_law c.args.bytes.now c.exact.result c.exact.ensures

pub returns-clause-batch : goal.returns-clause-batch
returns-clause-batch c = found_is (λ b. (c.args.bytes.now ≡ batch.spell b) × batch.Fits b) IsBatch (λ b known. is_batch b known.1) c.exact.result (found_unless batch batch_law c.args.bytes.now c.exact.result c.exact.ensures)

pub returns-clause-only : goal.returns-clause-only
returns-clause-only c = only_unless batch batch_law c.args.bytes.now c.exact.result c.exact.ensures
