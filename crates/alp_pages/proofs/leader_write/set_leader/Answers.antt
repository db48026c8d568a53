use Rattle.alp_pages.proofs.LeaderPlaces.{page_set}
use Rattle.alp_pages.proofs.leader_write.set_leader.Goals as goal

pub returns : goal.returns
returns c =
    page_set c.args.leader.now c.args.out.now c.set_u8.new.out c.set_body.new.out (rw c.format_of.ensures at c.set_u8.ensures) c.set_body.ensures
