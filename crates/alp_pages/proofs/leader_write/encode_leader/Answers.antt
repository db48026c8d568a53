use Rattle.std.proofs.Common.{◌∙◌}
use Rattle.alp_fields.proofs.PlaceLemmas.{set_whole}
use Rattle.alp_pages.specs.Leader.{leader_page}
use Rattle.alp_pages.proofs.LeaderForm.{leader_page_length}
use Rattle.alp_pages.proofs.leader_write.encode_leader.Goals as goal

pub returns-clause-spelled : goal.returns-clause-spelled
returns-clause-spelled c =
    let leader = c.args.leader.now in
    c.new.ensures ∙ set_whole leader_page leader _ c.set_leader.new.out (leader_page_length leader c.set_leader.ensures.fits) c.set_leader.ensures
