use Rattle.std.proofs.Common.{ap, ◌∙◌, rules}
use Rattle.std.proofs.lemmas.Fn.{filter_same}
use Rattle.alp_node.specs.Waits.{without_other_at}
use Rattle.alp_node.proofs.waits.Waits.remove_other.Goals as goal

pub returns : goal.returns
returns c =
    filter_same _ _ _ (λ x b f' k. search rules) _ _ c.retain.ensures.filtered
    ∙ ap (without_other_at c.args.client c.args.number) c.self.view_is
