use Rattle.alp_fields.proofs.FormLaws.{found_unless, only_unless}
use Rattle.alp_pages.specs.Leader.{leader_page}
use Rattle.alp_pages.proofs.LeaderForm.{leader_page_law}
use Rattle.alp_pages.proofs.leader_read.decode_leader.Goals as goal

pub returns-clause-found : goal.returns-clause-found
returns-clause-found c = found_unless leader_page leader_page_law c.args.page.now c.exact.result c.exact.ensures

pub returns-clause-only : goal.returns-clause-only
returns-clause-only c = only_unless leader_page leader_page_law c.args.page.now c.exact.result c.exact.ensures
