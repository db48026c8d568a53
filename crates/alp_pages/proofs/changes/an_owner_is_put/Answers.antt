use Rattle.alp_pages.proofs.ChangeLaws.{known_owner_put, new_owner_put}
use Rattle.alp_pages.proofs.changes.an_owner_is_put.Goals as goal

pub returns-clause-known : goal.returns-clause-known
returns-clause-known c = known_owner_put

pub returns-clause-new : goal.returns-clause-new
returns-clause-new c = new_owner_put
