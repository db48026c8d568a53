use Rattle.alp_fields.proofs.PropsFieldLaw.{props_law}
use Rattle.alp_fields.proofs.props_field.props_are_a_form.Goals as goal

pub returns : goal.returns
returns c = props_law
