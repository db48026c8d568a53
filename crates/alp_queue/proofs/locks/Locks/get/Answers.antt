use Rattle.std.proofs.Common.{ap, sym, ◌∙◌}
use Rattle.std.specs.FinMap as map
use Rattle.std.specs.FinMap.{get-from_sorted}
use Rattle.alp_base.specs.Orders.{resource_cmp}
use Rattle.alp_queue.specs.Trees.{entries}
use Rattle.alp_queue.proofs.locks.Locks.get.Goals as goal

pub returns : goal.returns
returns c =
    c.get.ensures c.self.invariant.0 ∙ sym (get-from_sorted resource_cmp (entries c.self.inside.tree) c.args.resource.now c.self.invariant.0)
    ∙ ap (λ m. map.get m c.args.resource.now) c.self.view_is
