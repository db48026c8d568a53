use Rattle.std.proofs.Common.{◌++◌, sym, ap, ◌∙◌}
use Rattle.std.specs.FinMap as map
use Rattle.std.specs.FinMap.{entries-from_sorted}
use Rattle.alp_base.specs.Orders.{resource_cmp}
use Rattle.alp_queue.specs.Trees.{entries}
use Rattle.alp_queue.proofs.locks.Locks.list.Goals as goal

pub returns : goal.returns
returns c =
    c.in_ok-list.ensures ∙ ap (λ es. es ++ entries c.self.inside.tree) c.new-modes.ensures.items
    ∙ sym (entries-from_sorted resource_cmp (entries c.self.inside.tree) c.self.invariant.0) ∙ ap (λ m. map.entries m) c.self.view_is
