-- A batch that is ready to be written.
use Rattle.std.specs.Prelude.{◌≡◌}
use Rattle.alp_batch.specs.declared.batch.Batch.{Batch}
use Rattle.alp_batch.specs.Batch.{batch}
use Rattle.alp_wal.specs.declared.prepare.Prepared.{Prepared}

-- the batch that its images and changes make up
abbrev pub batch_of : Prepared → Batch
batch_of p = record { images = p.images.items; notes = p.notes.items }

-- the body of its record is the spelling of that
pub record IsReady (p : Prepared) : Type 0 where
  pub spelled : p.body ≡ batch.spell (batch_of p)
  pub fits : batch.Fits (batch_of p)
