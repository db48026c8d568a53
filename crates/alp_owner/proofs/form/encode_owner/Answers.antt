use Rattle.std.proofs.Common.{arith}
use Rattle.alp_fields.proofs.PlaceLemmas.{set_whole}
use Rattle.alp_fields.specs.OwnerField.{owner_record}
use Rattle.alp_fields.proofs.OwnerFieldLaw.{owner_record_length}
use Rattle.alp_owner.proofs.form.encode_owner.Goals as goal

pub returns-clause-spelled : goal.returns-clause-spelled
returns-clause-spelled c =
    let owner = c.args.owner.now in
    set_whole owner_record owner c.args.out.now c.set_owner.new.out (omega (arith, owner_record_length owner c.set_owner.ensures.fits)) c.set_owner.ensures
