use Rattle.std.specs.Prelude.{filter}
use Rattle.std.proofs.Common.{List, length, ap, ◌∙◌}
use Rattle.alp_base.specs.declared.ids.TransId.{TransId}
use Rattle.alp_journal.specs.Answers.{is_counted}
use Rattle.alp_coord.specs.Coordinators.{fate_in}
use Rattle.alp_coord.proofs.coordinator.Coordinator.counted.Goals as goal

pub returns : goal.returns
returns c = c.count_all.ensures ∙ ap (λ (ts : List TransId). length (filter (λ t. is_counted (fate_in c.args.self.now t)) ts)) c.tree.ensures.ids
