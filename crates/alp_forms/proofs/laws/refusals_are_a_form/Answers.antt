use Rattle.alp_forms.proofs.RefusalLaw.{refusal_law}
use Rattle.alp_forms.proofs.laws.refusals_are_a_form.Goals as goal

pub returns : goal.returns
returns c = refusal_law
