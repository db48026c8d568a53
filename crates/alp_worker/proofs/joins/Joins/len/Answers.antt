use Rattle.std.proofs.Common.{◌∙◌}
use Rattle.alp_worker.proofs.WalkLemmas.{live_count}
use Rattle.alp_worker.proofs.joins.Joins.len.Goals as goal

pub returns-clause-journal : goal.returns-clause-journal
returns-clause-journal c s h = c.len.ensures ∙ live_count s.holder.server s.ids.epoch s.ids.joins s.phases s.joined c.args.self.now h
