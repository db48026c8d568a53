use Rattle.std.proofs.Common.{◌∙◌, ap}
use Rattle.alp_fields.specs.Forms.{whole}
use Rattle.alp_fields.proofs.FormLaws.{whole_back}
use Rattle.alp_pages.specs.Leader.{leader_page}
use Rattle.alp_pages.proofs.LeaderForm.{leader_page_law}
use Rattle.alp_volume.proofs.put_leader.leader_page_of.Goals as goal

pub returns : goal.returns
returns c = ap (whole leader_page) c.encode_leader.ensures.spelled ∙ whole_back leader_page leader_page_law c.args.leader.now c.encode_leader.ensures.fits
