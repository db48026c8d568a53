use Rattle.alp_fields.specs.Forms.{u8, u32}
use Rattle.alp_fields.specs.Fields.{file_id}
use Rattle.alp_ready.proofs.fits.fit_numbers.Goals as goal

pub returns : goal.returns
unfolding file_id u8 u32
returns c = (c.ranges.server.fits, (c.ranges.epoch.fits, c.ranges.counter.fits))
