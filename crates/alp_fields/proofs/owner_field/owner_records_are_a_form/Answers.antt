use Rattle.alp_fields.proofs.OwnerFieldLaw.{owner_record_law, owner_record_length}
use Rattle.alp_fields.proofs.owner_field.owner_records_are_a_form.Goals as goal

pub returns-clause-form : goal.returns-clause-form
returns-clause-form c = owner_record_law

pub returns-clause-full : goal.returns-clause-full
returns-clause-full c = owner_record_length
