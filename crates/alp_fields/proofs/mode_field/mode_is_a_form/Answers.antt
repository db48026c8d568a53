use Rattle.alp_fields.proofs.ModeFieldLaw.{mode_law}
use Rattle.alp_fields.proofs.mode_field.mode_is_a_form.Goals as goal

pub returns : goal.returns
returns c = mode_law
