use Rattle.std.proofs.Common.{◌∙◌}
use Rattle.alp_worker.proofs.joins.Joins.get.Goals as goal

pub returns-clause-journal : goal.returns-clause-journal
returns-clause-journal c s h = c.get.ensures ∙ h.live c.args.join.now
