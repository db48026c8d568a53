use Rattle.alp_pages.proofs.LeaderForm.{leader_page_law, leader_page_length}
use Rattle.alp_pages.proofs.leader_form.leaders_are_a_form.Goals as goal

pub returns-clause-form : goal.returns-clause-form
returns-clause-form c = leader_page_law

pub returns-clause-full : goal.returns-clause-full
returns-clause-full c = leader_page_length
