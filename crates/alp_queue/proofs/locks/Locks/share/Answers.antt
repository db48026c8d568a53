use Rattle.std.proofs.Common.{List, sym, subst}
use Rattle.std.specs.FinMap.{find}
use Rattle.alp_base.specs.declared.key.Resource.{Resource}
use Rattle.alp_modes.specs.declared.Mode.{Mode}
use Rattle.alp_base.specs.Orders.{resource_cmp}
use Rattle.alp_queue.specs.Trees.{AreRising}
use Rattle.alp_queue.specs.Reach.{IsReach}
use Rattle.alp_queue.proofs.locks.Locks.share.Goals as goal

pub invariant_of-result : goal.invariant_of-result
invariant_of-result c =
    let sound : List (Resource × Mode) → Type 0 = λ es. AreRising es × IsReach c.self.inside.reach (λ r. find resource_cmp r es) in
    subst sound (sym c.in_ok-tree.ensures) c.self.invariant
