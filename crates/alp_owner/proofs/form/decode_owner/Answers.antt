use Rattle.alp_fields.proofs.FormLaws.{found_unless, only_unless}
use Rattle.alp_fields.specs.OwnerField.{owner_record}
use Rattle.alp_fields.proofs.OwnerFieldLaw.{owner_record_law, unused_is_none}
use Rattle.alp_owner.proofs.form.decode_owner.Goals as goal

pub returns-clause-found : goal.returns-clause-found
returns-clause-found c = found_unless owner_record owner_record_law c.args.bytes.now c.exact.result c.exact.ensures

pub returns-clause-only : goal.returns-clause-only
returns-clause-only c = only_unless owner_record owner_record_law c.args.bytes.now c.exact.result c.exact.ensures

pub returns-clause-unused : goal.returns-clause-unused
returns-clause-unused c = unused_is_none c.args.bytes.now c.exact.result c.exact.ensures
