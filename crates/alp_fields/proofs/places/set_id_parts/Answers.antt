use Rattle.std.proofs.Common.{arith, ◌+◌}
use Rattle.alp_fields.specs.Forms.{pair, u8, u32}
use Rattle.alp_fields.proofs.FixedLaws.{u8_length, u32_length}
use Rattle.alp_fields.proofs.PlaceLemmas.{set_pair}
use Rattle.alp_fields.proofs.places.set_id_parts.Goals as goal

pub returns : goal.returns
returns c =
    let at = c.args.at in
    set_pair u8 (pair u32 u32) _ _ at (at + 1) c.args.out.now c.set_u8.new.out c.set_u32-2.new.out (omega arith) (omega (arith, u8_length c.args.server)) c.set_u8.ensures
    (set_pair u32 u32 _ _ (at + 1) (at + 5) c.set_u8.new.out c.set_u32.new.out c.set_u32-2.new.out (omega arith) (omega (arith, u32_length c.args.epoch)) c.set_u32.ensures c.set_u32-2.ensures)
