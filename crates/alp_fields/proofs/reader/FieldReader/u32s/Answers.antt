use Rattle.std.proofs.Common.{length, take, arith}
use Rattle.std.proofs.lemmas.List.{take_more_set}
use Rattle.alp_fields.specs.Forms.{u32}
use Rattle.alp_fields.proofs.RepeatLemmas.{goes_on}
use Rattle.alp_fields.proofs.reader.FieldReader.u32s.Goals as goal

pub loop-i-preserved : goal.loop-i-preserved
loop-i-preserved c =
    let v = c.in_ok-out.field-0 in
    rw (take_more_set c.loop-i.out c.loop-i.i v (omega arith))
    (goes_on u32 (length c.args.out.now) c.loop-i.i (take c.loop-i.i c.loop-i.out) c.loop-i.self c.args.self.now c.u32.new.self v (omega arith) c.in_ok-out.ensures c.loop-i.invariant)
