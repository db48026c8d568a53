use Rattle.std.proofs.Common.{get_or, arith}
use Rattle.std.proofs.lemmas.List.{get_or_default}
use Rattle.alp_fields.specs.Forms.{u32}
use Rattle.alp_fields.proofs.FixedLaws.{u32_length}
use Rattle.alp_fields.proofs.PlaceLemmas.{set_more}
use Rattle.alp_fields.proofs.rows.set_u32s.Goals as goal

pub loop-i-preserved : goal.loop-i-preserved
loop-i-preserved c =
    let numbers = c.args.numbers.now in
    set_more u32 4 numbers c.loop-i.i (get_or numbers c.loop-i.i 0) c.args.at _ c.args.out.now c.loop-i.out c.set_u32.new.out
    (λ v fits. u32_length v) c.loop-i-test.true (get_or_default numbers c.loop-i.i 0 (get_or numbers c.loop-i.i 0) c.loop-i-test.true) (omega arith) (omega arith) c.loop-i.invariant c.set_u32.ensures
