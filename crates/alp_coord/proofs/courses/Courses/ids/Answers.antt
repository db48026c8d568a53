use Rattle.std.proofs.Common.{List, ap, sym, subst, ◌∙◌}
use Rattle.std.specs.Prelude.{map as list_map}
use Rattle.std.specs.FinMap as map
use Rattle.std.specs.List.Sorted.{IsStrictlySortedBy}
use Rattle.alp_base.specs.declared.ids.TransId.{TransId}
use Rattle.alp_base.specs.Orders.{trans_cmp, transactions_total, exact_transactions}
use Rattle.alp_base.proofs.TreeLemmas.{entries_back, tree_sorted}
use Rattle.alp_coord.specs.declared.course.Course.{Course}
use Rattle.alp_coord.proofs.courses.Courses.ids.Goals as goal

pub returns-clause-ids : goal.returns-clause-ids
returns-clause-ids c =
    c.in_ok-ids.ensures.ids
    ∙ ap (λ (es : List (TransId × Course)). list_map (λ (e : TransId × Course). e.0) es)
    (sym (entries_back transactions_total exact_transactions c.self.inside.courses.entries (tree_sorted transactions_total exact_transactions c.self.inside.courses.entries c.in_ok-ids.ensures.rising)))
    ∙ ap map.keys c.self.view_is

pub returns-clause-rising : goal.returns-clause-rising
returns-clause-rising c = subst (λ (ts : List TransId). IsStrictlySortedBy trans_cmp ts) (sym c.in_ok-ids.ensures.ids) c.in_ok-ids.ensures.rising
