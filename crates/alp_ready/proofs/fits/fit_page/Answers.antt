use Rattle.alp_fields.specs.Forms.{u32}
use Rattle.alp_ready.proofs.fits.fit_page.Goals as goal

pub returns : goal.returns
unfolding u32
returns c = (c.fit_file.ensures, c.ranges.number.fits)
