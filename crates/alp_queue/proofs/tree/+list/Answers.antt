use Rattle.std.proofs.Common.{◌≡◌, ◌++◌, ◌∷◌, [], List, sym, ap, ◌∙◌}
use Rattle.std.proofs.lemmas.List.{append_assoc}
use Rattle.std.proofs.lemmas.Result.{on_ok_weaker}
use Rattle.alp_base.specs.declared.key.Resource.{Resource}
use Rattle.alp_modes.specs.declared.Mode.{Mode}
use Rattle.alp_queue.specs.Trees.{entries, entries_of}
use Rattle.alp_queue.specs.declared.tree.Node.{Node}
use Rattle.alp_queue.proofs.tree.+list.Goals as goal

pub returns : goal.returns
returns t c =
    let top : Node = c.deref-top.result.now in
    let old : List (Resource × Mode) = c.args.out.now.items in
    let whole : entries c.args.tree.now ≡ entries_of top = ap entries c.in-Fork.is ∙ ap entries_of (sym c.deref-top.ensures) in
    let left : c.list.new.out.items ≡ old ++ entries top.left = c.in_ok-list.ensures in
    let pushed : c.push.new.self.items ≡ c.list.new.out.items ++ top.entry ∷ [] = c.in_ok-push.ensures.items in
    on_ok_weaker c.list-2.result
    (λ is. is ∙ (λ i. (pushed ∙ ap (λ xs. xs ++ top.entry ∷ []) left) i ++ entries top.right)
    ∙ append_assoc (old ++ entries top.left) (top.entry ∷ []) (entries top.right)
    ∙ append_assoc old (entries top.left) (top.entry ∷ entries top.right)
    ∙ ap (λ xs. old ++ xs) (sym whole))
    c.list-2.ensures
