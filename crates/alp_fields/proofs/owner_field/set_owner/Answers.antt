use Rattle.std.proofs.Common.{arith}
use Rattle.alp_fields.proofs.OwnerFieldLaw.{fields_set, owner_set}
use Rattle.alp_fields.proofs.owner_field.set_owner.Goals as goal

pub returns : goal.returns
returns c =
    let owner = c.args.owner.now in
    owner_set owner c.args.out.now c.set_list_field.new.out c.set_zeros.new.out
    (fields_set owner c.args.out.now c.set_named_field.new.out c.set_u32.new.out c.set_u32-2.new.out c.set_list_field.new.out c.requires
    c.set_named_field.ensures c.set_u32.ensures c.set_u32-2.ensures c.set_list_field.ensures (omega arith) (omega arith))
    c.set_zeros.ensures
