use Rattle.std.proofs.Common.{◌≡◌, subst}
use Rattle.std.specs.Prelude.{IfSome}
use Rattle.alp_batch.specs.Batch.{batch}
use Rattle.alp_wal.proofs.Mounts.{take_result, same_length, logs_result}
use Rattle.alp_wal.proofs.found.Found.take.Goals as goal

pub returns-clause-taken : goal.returns-clause-taken
returns-clause-taken c =
    let spelled = subst (λ o. IfSome o (λ b. (c.args.body.now ≡ batch.spell b) × batch.Fits b)) c.in-Some.is c.in_ok-batch.ensures.found in
    take_result c.args.self.now c.apply.new.self c.args.body.now c.in-Some.batch c.apply.result c.requires.index spelled c.apply.ensures.anchor c.apply.ensures.suits c.apply.ensures.images c.apply.ensures.notes c.apply.ensures.suits_not

pub returns-clause-index : goal.returns-clause-index
returns-clause-index c = same_length c.args.self.now c.apply.new.self c.args.body.now c.in-Some.batch c.apply.result c.apply.ensures.images

pub returns-clause-logged : goal.returns-clause-logged
returns-clause-logged c =
    let spelled = subst (λ o. IfSome o (λ b. (c.args.body.now ≡ batch.spell b) × batch.Fits b)) c.in-Some.is c.in_ok-batch.ensures.found in
    logs_result c.args.self.now c.apply.new.self c.args.body.now c.in-Some.batch c.apply.result spelled c.apply.ensures.images
