use Rattle.std.proofs.Common.{arith}
use Rattle.alp_fields.specs.Fields.{named_field, name_field_bytes}
use Rattle.alp_fields.proofs.FixedLaws.{named_field_length}
use Rattle.alp_fields.proofs.PlaceLemmas.{set_more}
use Rattle.alp_fields.proofs.places.set_named_fields.Goals as goal

pub loop-i-preserved : goal.loop-i-preserved
loop-i-preserved c =
    set_more named_field name_field_bytes c.args.names.now c.loop-i.i c.index-names-i.result c.args.at _ c.args.out.now c.loop-i.out c.set_named_field.new.out
    named_field_length c.loop-i-test.true c.index-names-i.is (omega arith) (omega arith) c.loop-i.invariant c.set_named_field.ensures
