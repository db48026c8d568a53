use Rattle.alp_pages.proofs.ChangeLaws.{file_gone}
use Rattle.alp_pages.proofs.changes.a_file_goes.Goals as goal

pub returns : goal.returns
returns c = file_gone
