use Rattle.std.proofs.Common.{◌≡◌, ◌∷◌, sym, ap, subst, ◌∙◌}
use Rattle.alp_base.specs.Orders.{resource_cmp, resources_total}
use Rattle.std.specs.FinMap.{find}
use Rattle.alp_queue.specs.Trees.{entries, entries_of, AreRising}
use Rattle.alp_queue.proofs.SortedLemmas.{find-left, find-here, find-right, left-sorted, right-sorted}
use Rattle.alp_queue.specs.declared.tree.Node.{Node}
use Rattle.alp_queue.proofs.tree.+get.Goals as goal

pub returns-in-Less : goal.returns-in-Less
returns-in-Less t c rising =
    let top : Node = c.deref-top.result.now in
    let whole : entries c.args.tree.now ≡ entries_of top = ap entries c.in-Fork.is ∙ ap entries_of (sym c.deref-top.ensures) in
    let sorted : AreRising (entries_of top) = subst AreRising whole rising in
    c.get.ensures (left-sorted resources_total (entries top.left) (top.entry ∷ entries top.right) sorted)
    ∙ sym (find-left resources_total c.args.key.now (entries top.left) top.entry (entries top.right) sorted (sym c.cmp.ensures ∙ c.in-Less.is))
    ∙ ap (find resource_cmp c.args.key.now) (sym whole)

pub returns-in-Equal : goal.returns-in-Equal
returns-in-Equal t c rising =
    let top : Node = c.deref-top.result.now in
    let whole : entries c.args.tree.now ≡ entries_of top = ap entries c.in-Fork.is ∙ ap entries_of (sym c.deref-top.ensures) in
    sym (find-here resources_total c.args.key.now (entries top.left) top.entry (entries top.right) (subst AreRising whole rising) (sym c.cmp.ensures ∙ c.in-Equal.is))
    ∙ ap (find resource_cmp c.args.key.now) (sym whole)

pub returns-in-Greater : goal.returns-in-Greater
returns-in-Greater t c rising =
    let top : Node = c.deref-top.result.now in
    let whole : entries c.args.tree.now ≡ entries_of top = ap entries c.in-Fork.is ∙ ap entries_of (sym c.deref-top.ensures) in
    let sorted : AreRising (entries_of top) = subst AreRising whole rising in
    c.get-in-Greater.ensures (right-sorted resources_total (entries top.left) top.entry (entries top.right) sorted)
    ∙ sym (find-right resources_total c.args.key.now (entries top.left) top.entry (entries top.right) sorted (sym c.cmp.ensures ∙ c.in-Greater.is))
    ∙ ap (find resource_cmp c.args.key.now) (sym whole)
