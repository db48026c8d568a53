use Rattle.std.proofs.Common.{ap, sym, ◌∙◌}
use Rattle.std.specs.FinMap as map
use Rattle.alp_base.specs.Orders.{resources_total, exact_resources}
use Rattle.alp_base.proofs.TreeLemmas.{entries_back, tree_sorted}
use Rattle.alp_queue.proofs.modes.Modes.entries.Goals as goal

pub returns : goal.returns
returns c =
    c.in_ok-list.ensures.listed
    ∙ sym (entries_back resources_total exact_resources c.self.inside.modes.entries (tree_sorted resources_total exact_resources c.self.inside.modes.entries c.in_ok-list.ensures.rising))
    ∙ ap map.entries c.self.view_is
