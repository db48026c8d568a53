use Rattle.alp_pages.proofs.CutLaws.{pages_cut}
use Rattle.alp_pages.proofs.changes.a_file_is_cut.Goals as goal

pub returns : goal.returns
returns c = pages_cut
