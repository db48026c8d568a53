use Rattle.std.proofs.Common.{arith}
use Rattle.alp_pages.specs.declared.leader_form.TheConstants.{READ_AT}
use Rattle.alp_pages.specs.Leader.{tail_of}
use Rattle.alp_pages.proofs.LeaderPlaces.{tail_set, places_set}
use Rattle.alp_pages.proofs.leader_write.set_tail.Goals as goal

pub returns : goal.returns
returns c =
    tail_set (tail_of c.args.leader.now) READ_AT c.args.out.now c.set_list_field.new.out c.set_list_field-2.new.out c.set_u32s.new.out (omega arith) (omega arith)
    c.set_list_field.ensures c.set_list_field-2.ensures
    (places_set c.as_slice.result.now c.args.leader.now.index _ c.set_list_field-2.new.out c.set_u32s.new.out c.as_slice.ensures.same c.as_slice.ensures.all c.set_u32s.ensures)
