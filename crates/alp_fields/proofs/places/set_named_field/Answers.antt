use Rattle.std.proofs.Common.{arith}
use Rattle.alp_fields.proofs.PlaceLemmas.{named_set}
use Rattle.alp_fields.proofs.places.set_named_field.Goals as goal

pub returns : goal.returns
returns c =
    named_set c.args.name.now c.args.at c.args.out.now c.set_u8.new.out c.set_bytes.new.out (omega arith) c.as_bytes.ensures.named
    (rw c.as_bytes.ensures.same at c.set_u8.ensures) (rw c.padded_bytes-padded.ensures at c.set_bytes.ensures)
