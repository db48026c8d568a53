use Rattle.alp_pages.proofs.ChangeLaws.{leader_put}
use Rattle.alp_pages.proofs.changes.a_leader_is_put.Goals as goal

pub returns : goal.returns
returns c = leader_put
