use Rattle.std.proofs.Common.{List, ap, sym, ◌∙◌}
use Rattle.std.specs.Prelude.{map as list_map}
use Rattle.std.specs.FinMap as map
use Rattle.alp_base.specs.declared.ids.TransId.{TransId}
use Rattle.alp_base.specs.Orders.{transactions_total, exact_transactions}
use Rattle.alp_base.proofs.TreeLemmas.{entries_back, tree_sorted}
use Rattle.alp_coord.specs.declared.course.Course.{Course}
use Rattle.alp_coord.proofs.courses.Courses.tree.Goals as goal

pub returns-clause-ids : goal.returns-clause-ids
returns-clause-ids c =
    ap (λ (es : List (TransId × Course)). list_map (λ (e : TransId × Course). e.0) es)
    (sym (entries_back transactions_total exact_transactions c.self.inside.courses.entries (tree_sorted transactions_total exact_transactions c.self.inside.courses.entries c.len.ensures.ordered)))
    ∙ ap map.keys c.self.view_is
