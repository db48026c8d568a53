use Rattle.std.proofs.Common.{ap, sym, ◌∙◌}
use Rattle.std.specs.FinMap as map
use Rattle.alp_base.specs.Orders.{resources_total, exact_resources}
use Rattle.alp_base.proofs.TreeLemmas.{get_at}
use Rattle.alp_queue.proofs.modes.Modes.get.Goals as goal

pub returns : goal.returns
returns c =
    c.copied.ensures ∙ c.get.ensures.value ∙ sym (get_at resources_total exact_resources c.self.inside.modes.entries c.args.resource.now)
    ∙ ap (λ m. map.get m c.args.resource.now) c.self.view_is
