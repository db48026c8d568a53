use Rattle.std.proofs.Common.{ap, ◌∙◌, rules}
use Rattle.std.proofs.lemmas.Fn.{filter_same}
use Rattle.alp_node.specs.Waits.{live_calls}
use Rattle.alp_node.proofs.waits.Waits.clear.Goals as goal

pub returns : goal.returns
returns c =
    filter_same _ _ _ (λ x b f' k. search rules) _ _ c.retain.ensures.filtered
    ∙ ap (live_calls c.args.client c.args.coordinator.now c.args.joins.now) c.self.view_is
