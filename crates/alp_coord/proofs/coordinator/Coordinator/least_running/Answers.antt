use Rattle.std.specs.Prelude.{find}
use Rattle.std.specs.List.Sorted.{IsStrictlySortedBy}
use Rattle.std.proofs.Common.{List, ap, subst, ◌∙◌}
use Rattle.alp_base.specs.declared.ids.TransId.{TransId}
use Rattle.alp_base.specs.Orders.{trans_cmp}
use Rattle.alp_coord.specs.Coordinators.{fate_in, is_running_fate}
use Rattle.alp_coord.proofs.LeastLemmas.{least_first}
use Rattle.alp_coord.proofs.coordinator.Coordinator.least_running.Goals as goal

pub returns : goal.returns
returns c =
    least_first c.args.self.now c.first_running.result (subst (λ (ts : List TransId). IsStrictlySortedBy trans_cmp ts) c.tree.ensures.ids c.tree.ensures.rising)
    (c.first_running.ensures ∙ ap (find (λ t. is_running_fate (fate_in c.args.self.now t))) c.tree.ensures.ids)
