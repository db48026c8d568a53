use Rattle.alp_history.proofs.BegunOrder.{begins_order}
use Rattle.alp_history.proofs.agreement.stamps_are_above_what_was_seen.Goals as goal

pub returns : goal.returns
returns c = begins_order
