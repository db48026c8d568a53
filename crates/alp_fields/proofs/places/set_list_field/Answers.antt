use Rattle.std.proofs.Common.{arith}
use Rattle.alp_fields.proofs.PlaceLemmas.{list_field_set}
use Rattle.alp_fields.proofs.places.set_list_field.Goals as goal

pub returns : goal.returns
returns c =
    let names = c.names-names.result.now in
    rw (← c.names-names.ensures.same)
    (list_field_set names c.args.at c.args.out.now c.set_u8.new.out c.set_named_fields.new.out c.set_zeros.new.out (omega arith)
    (rw c.names-names.ensures.same c.names-names.ensures.few) c.set_u8.ensures c.set_named_fields.ensures (omega arith) (omega arith) c.set_zeros.ensures)
