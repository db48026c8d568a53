use Rattle.std.specs.Prelude.{length}
use Rattle.std.specs.FinMap as map
use Rattle.std.specs.FinMap.{len-entries}
use Rattle.std.proofs.Common.{List, ap, sym, ◌∙◌}
use Rattle.alp_base.specs.declared.ids.TransId.{TransId}
use Rattle.alp_base.specs.Orders.{transactions_total, exact_transactions}
use Rattle.alp_base.proofs.TreeLemmas.{entries_back, tree_sorted}
use Rattle.alp_node.specs.declared.lives.Live.{Live}
use Rattle.alp_node.proofs.lives.Lives.len.Goals as goal

pub returns : goal.returns
returns c =
    c.len.ensures.len
    ∙ ap (λ (es : List (TransId × Live)). length es) (sym (entries_back transactions_total exact_transactions c.self.inside.lives.entries (tree_sorted transactions_total exact_transactions c.self.inside.lives.entries c.len.ensures.ordered)))
    ∙ sym (len-entries (map.from_entries c.self.inside.lives.entries)) ∙ ap map.len c.self.view_is
