use Rattle.std.proofs.Common.{ap, ◌∙◌}
use Rattle.std.specs.FinMap as map
use Rattle.alp_base.specs.Orders.{resources_total, exact_resources}
use Rattle.alp_base.proofs.TreeLemmas.{put_at}
use Rattle.alp_queue.proofs.modes.Modes.put.Goals as goal

pub returns-clause-ok : goal.returns-clause-ok
returns-clause-ok c =
    put_at resources_total exact_resources c.self.inside.modes.entries c.insert.new.self.entries c.args.resource c.args.mode c.in_ok-insert.ensures.updates.0
    ∙ ap (λ m. map.insert m c.args.resource c.args.mode) c.self.view_is
