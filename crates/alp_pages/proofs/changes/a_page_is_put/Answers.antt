use Rattle.alp_pages.proofs.ChangeLaws.{page_put}
use Rattle.alp_pages.proofs.changes.a_page_is_put.Goals as goal

pub returns : goal.returns
returns c = page_put
