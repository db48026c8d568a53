use Rattle.std.proofs.Common.{ℕ, arith}
use Rattle.std.proofs.lemmas.List.{length-replicate}
use Rattle.alp_fields.specs.declared.owner_field.TheConstants.{OWNER_BYTES}
use Rattle.alp_fields.proofs.PlaceLemmas.{set_whole}
use Rattle.alp_fields.specs.OwnerField.{owner_record}
use Rattle.alp_fields.proofs.OwnerFieldLaw.{owner_record_length}
use Rattle.alp_fields.proofs.owner_field.owner_bytes.Goals as goal

pub returns-clause-spelled : goal.returns-clause-spelled
returns-clause-spelled c =
    let owner = c.args.owner.now in
    set_whole owner_record owner _ c.set_owner.new.out (omega (arith, owner_record_length owner c.set_owner.ensures.fits, length-replicate {A = ℕ} OWNER_BYTES 0)) c.set_owner.ensures
