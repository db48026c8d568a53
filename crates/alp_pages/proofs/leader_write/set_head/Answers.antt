use Rattle.std.proofs.Common.{arith}
use Rattle.alp_pages.specs.Leader.{head_of}
use Rattle.alp_pages.proofs.LeaderPlaces.{head_set}
use Rattle.alp_pages.proofs.leader_write.set_head.Goals as goal

pub returns : goal.returns
returns c =
    head_set (head_of c.args.leader.now) 1 c.args.out.now c.set_file_id.new.out c.set_named_field.new.out c.set_named_field-2.new.out (omega arith) (omega arith)
    c.set_file_id.ensures c.set_named_field.ensures c.set_named_field-2.ensures
