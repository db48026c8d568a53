use Rattle.std.proofs.Common.{arith}
use Rattle.alp_pages.proofs.LeaderPlaces.{body_set}
use Rattle.alp_pages.proofs.leader_write.set_body.Goals as goal

pub returns : goal.returns
returns c =
    body_set c.args.leader.now 1 c.args.out.now c.set_head.new.out c.set_numbers.new.out c.set_tail.new.out c.set_zeros.new.out (omega arith) (omega arith)
    c.set_head.ensures c.set_numbers.ensures c.set_tail.ensures c.set_zeros.ensures
