use Rattle.alp_pages.proofs.LeaderLaws.{some_size}
use Rattle.alp_volume.proofs.put_leader.draft_leader.Goals as goal

pub returns-in-Ok-clause-size : goal.returns-in-Ok-clause-size
returns-in-Ok-clause-size g c = some_size c.copy_of-page.result c.in-Ok.leader c.in-Ok.ensures.exact
