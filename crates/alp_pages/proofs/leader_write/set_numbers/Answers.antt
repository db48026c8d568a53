use Rattle.std.proofs.Common.{arith}
use Rattle.alp_fields.specs.PropsField.{numbers_of}
use Rattle.alp_pages.specs.declared.leader_form.TheConstants.{TYPE_AT}
use Rattle.alp_pages.proofs.LeaderPlaces.{numbers_set}
use Rattle.alp_pages.proofs.leader_write.set_numbers.Goals as goal

pub returns : goal.returns
returns c =
    numbers_set (numbers_of c.args.of.now) TYPE_AT c.args.out.now c.set_u16.new.out c.set_u64.new.out c.set_u64-2.new.out c.set_u32.new.out c.set_u32-2.new.out
    c.requires.fits (omega arith) (omega arith) (omega arith) (omega arith)
    c.set_u16.ensures c.set_u64.ensures c.set_u64-2.ensures c.set_u32.ensures c.set_u32-2.ensures
