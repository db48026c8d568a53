use Rattle.alp_history.proofs.RefusedAnswers.{refused_answers}
use Rattle.alp_history.proofs.RefusalLemmas.{refusal_leaves}
use Rattle.alp_history.proofs.refusals.refusals_change_nothing.Goals as goal

pub returns : goal.returns
returns c = record { thread = refused_answers; refused = refusal_leaves }
