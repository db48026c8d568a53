use Rattle.std.proofs.Common.{◌≡◌, List, Option, ap, sym, subst, ◌∙◌}
use Rattle.std.specs.Option.{option_or}
use Rattle.std.specs.FinMap as map
use Rattle.std.specs.FinMap.{find, get-from_sorted}
use Rattle.alp_base.specs.declared.key.Resource.{Resource}
use Rattle.alp_modes.specs.declared.Mode.{Mode}
use Rattle.alp_base.specs.Orders.{resource_cmp, resources_total}
use Rattle.alp_queue.specs.Trees.{entries, AreRising, puts}
use Rattle.alp_queue.specs.Reach.{reach_of, IsReach}
use Rattle.alp_queue.proofs.SortedLemmas.{find-puts, puts-sorted}
use Rattle.alp_queue.proofs.ReachLemmas.{reach-with-all}
use Rattle.alp_queue.proofs.locks.Locks.with_all.Goals as goal

pub invariant_of-result : goal.invariant_of-result
invariant_of-result c =
    let before : List (Resource × Mode) = entries c.self.inside.tree in
    let list : List (Resource × Mode) = c.args.modes.now in
    let put : entries c.in_ok-tree.tree ≡ puts list before = c.in_ok-tree.ensures c.self.invariant.0 c.requires in
    let rises : AreRising (entries c.in_ok-tree.tree) = subst AreRising (sym put) (puts-sorted resources_total list before c.self.invariant.0) in
    let covers : IsReach (reach_of c.self.inside.reach list) (λ r. find resource_cmp r (entries c.in_ok-tree.tree)) =
    reach-with-all c.self.inside.reach list (λ r. find resource_cmp r before) (λ r. find resource_cmp r (entries c.in_ok-tree.tree)) c.self.invariant.1
    (λ r. ap (find resource_cmp r) put ∙ find-puts resources_total r list before) in
    (rises, subst (λ (a : Option Mode). IsReach a (λ r. find resource_cmp r (entries c.in_ok-tree.tree))) (sym c.reached.ensures) covers)

pub returns : goal.returns
returns c r =
    let before : List (Resource × Mode) = entries c.self.inside.tree in
    let list : List (Resource × Mode) = c.args.modes.now in
    let put : entries c.in_ok-tree.tree ≡ puts list before = c.in_ok-tree.ensures c.self.invariant.0 c.requires in
    let old : find resource_cmp r before ≡ map.get c.args.self.now r = sym (get-from_sorted resource_cmp before r c.self.invariant.0) ∙ ap (λ m. map.get m r) c.self.view_is in
    get-from_sorted resource_cmp (entries c.in_ok-tree.tree) r (subst AreRising (sym put) (puts-sorted resources_total list before c.self.invariant.0))
    ∙ ap (find resource_cmp r) put ∙ find-puts resources_total r list before ∙ ap (option_or (find resource_cmp r list)) old
