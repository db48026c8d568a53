use Rattle.alp_history.proofs.EffectiveActs.{listing}
use Rattle.alp_history.proofs.agreement.effective_acts_are_listed.Goals as goal

pub returns : goal.returns
returns c = listing
