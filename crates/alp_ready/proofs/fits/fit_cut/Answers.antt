use Rattle.alp_fields.specs.Forms.{u32}
use Rattle.alp_fields.specs.ChangeField.{cut}
use Rattle.alp_ready.proofs.fits.fit_cut.Goals as goal

pub returns : goal.returns
unfolding cut u32
returns c = (c.fit_file.ensures, c.ranges.size.fits)
