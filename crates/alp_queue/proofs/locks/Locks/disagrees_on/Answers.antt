use Rattle.std.proofs.Common.{sym, ap, ◌∙◌}
use Rattle.std.specs.FinMap as map
use Rattle.std.specs.FinMap.{find, get-from_sorted}
use Rattle.alp_base.specs.Orders.{resource_cmp}
use Rattle.alp_queue.specs.Trees.{entries}
use Rattle.alp_queue.specs.Reach.{disagrees_with}
use Rattle.alp_queue.proofs.ReachLemmas.{reach-agrees}
use Rattle.alp_queue.proofs.locks.Locks.disagrees_on.Goals as goal

pub returns-then-not-disagrees : goal.returns-then-not-disagrees
returns-then-not-disagrees c =
    sym (reach-agrees c.self.inside.reach (λ r. find resource_cmp r (entries c.self.inside.tree)) c.args.mode c.self.invariant.1 (sym c.disagrees.ensures ∙ c.if-not-disagrees.true) c.args.resource.now)
    ∙ ap (disagrees_with c.args.mode)
    (sym (get-from_sorted resource_cmp (entries c.self.inside.tree) c.args.resource.now c.self.invariant.0) ∙ ap (λ m. map.get m c.args.resource.now) c.self.view_is)
