use Rattle.std.proofs.Common.{◌∙◌}
use Rattle.alp_record.proofs.Bodies.{zero_test}
use Rattle.alp_record.proofs.body.are_zeros.Goals as goal

pub returns : goal.returns
returns c = zero_test c.args.bytes.now c.bytes.result.now c.eq.result (c.bytes.ensures.same ∙ c.zero.ensures) c.requires c.eq.ensures
