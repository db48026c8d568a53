use Rattle.std.proofs.Common.{◌≡◌, ◌++◌, List, ap, sym, subst, ◌∙◌}
use Rattle.std.proofs.Common.{map as list_map}
use Rattle.std.specs.FinMap as map
use Rattle.std.specs.FinMap.{find, get-from_sorted, entries_sorted}
use Rattle.alp_base.specs.declared.key.Resource.{Resource}
use Rattle.alp_modes.specs.declared.Mode.{Mode}
use Rattle.alp_base.specs.Orders.{resource_cmp}
use Rattle.alp_queue.specs.Rises.{wanted_of}
use Rattle.alp_queue.specs.Trees.{entries, AreRising}
use Rattle.alp_queue.proofs.locks.Locks.look_up.Goals as goal

pub returns : goal.returns
returns c =
    let list : List (Resource × Mode) = c.as_slice.result.now in
    let same : list ≡ map.entries c.args.asked.now = c.as_slice.ensures.value ∙ c.in_ok-list.ensures in
    let held : (r : Resource) → find resource_cmp r (entries c.self.inside.tree) ≡ map.get c.args.self.now r =
    (λ r. sym (get-from_sorted resource_cmp (entries c.self.inside.tree) r c.self.invariant.0) ∙ ap (λ m. map.get m r) c.self.view_is) in
    c.in_ok-look_up.ensures c.self.invariant.0 (subst AreRising (sym same) (entries_sorted c.args.asked.now))
    ∙ (λ i. c.in_ok-found.ensures.items i ++ list_map (wanted_of (λ r. held r i)) (same i))
