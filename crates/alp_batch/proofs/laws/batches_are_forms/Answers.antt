use Rattle.alp_fields.proofs.FormLaws.{spelling_is_one}
use Rattle.alp_batch.specs.Batch.{batch}
use Rattle.alp_batch.proofs.BatchLaws.{batch_law, batch_is, is_batch, placed_image}
use Rattle.alp_batch.proofs.laws.batches_are_forms.Goals as goal

pub returns : goal.returns
returns c = record { form = batch_law; once = spelling_is_one batch batch_law; long = batch_is; batch = is_batch; images = placed_image }
