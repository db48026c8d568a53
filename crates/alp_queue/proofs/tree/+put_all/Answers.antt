use Rattle.std.proofs.Common.{◌≡◌, ℕ, ◌+◌, ◌++◌, ◌∷◌, List, Some, None, length, ◌-◌, sym, ap, subst, ◌∙◌, take, drop}
use Rattle.std.proofs.lemmas.List.{take_rest, drop-drop}
use Rattle.std.proofs.lemmas.Result.{IfOk-weaker}
use Rattle.alp_base.specs.declared.key.Resource.{Resource}
use Rattle.alp_modes.specs.declared.Mode.{Mode}
use Rattle.alp_base.specs.Orders.{resources_total}
use Rattle.alp_queue.specs.Trees.{entries, entries_of, AreRising, puts, lesser_in, first_tied}
use Rattle.alp_queue.proofs.SortedLemmas.{left-sorted, right-sorted, take-sorted, drop-sorted, puts-none, puts-around, puts-in-place}
use Rattle.alp_queue.specs.declared.tree.Tree.{Tree}
use Rattle.alp_queue.specs.declared.tree.Node.{Node}
use Rattle.alp_queue.proofs.tree.+put_all.Goals as goal

pub returns-in-Empty : goal.returns-in-Empty
returns-in-Empty t c =
    IfOk-weaker c.grown.result (λ (t : Tree). entries t ≡ c.args.modes.now) (λ (t : Tree). AreRising (entries c.args.tree.now) → AreRising c.args.modes.now → entries t ≡ puts c.args.modes.now (entries c.args.tree.now))
    (λ t is rising sorted. is ∙ sym (puts-none resources_total c.args.modes.now sorted) ∙ ap (λ (t : Tree). puts c.args.modes.now (entries t)) (sym c.in-Empty.is))
    c.grown.ensures

pub returns-in-Some : goal.returns-in-Some
returns-in-Some t c =
    let es : List (Resource × Mode) = c.args.modes.now in
    let top : Node = c.deref-top.result.now in
    let n : ℕ = c.count_before-before.result in
    let m : ℕ = lesser_in top.entry.0 es in
    let at : n ≡ m = c.count_before-before.ensures.count in
    let behind : List (Resource × Mode) = drop 1 (drop m es) in
    let left : AreRising (entries top.left) → AreRising (take n es) → entries c.in_ok-left.left ≡ puts (take n es) (entries top.left) = c.in_ok-left.ensures in
    let right : AreRising (entries top.right) → AreRising (take (length es - (n + 1)) (drop (n + 1) es)) → entries c.in_ok-right.right ≡ puts (take (length es - (n + 1)) (drop (n + 1) es)) (entries top.right) = c.in_ok-right.ensures in
    let some : Some c.in-Some.mode ≡ first_tied top.entry.0 (take (length es - n) (drop n es)) = c.in-Some.ensures in
    let taken : take n es ≡ take m es = ap (λ k. take k es) at in
    let rest : take (length es - n) (drop n es) ≡ drop m es = take_rest es n ∙ ap (λ k. drop k es) at in
    let last : take (length es - (n + 1)) (drop (n + 1) es) ≡ behind = take_rest es (n + 1) ∙ sym (drop-drop 1 n es) ∙ ap (λ k. drop 1 (drop k es)) at in
    let found : first_tied top.entry.0 (drop m es) ≡ Some c.in-Some.mode = sym (some ∙ ap (first_tied top.entry.0) rest) in
    let whole : entries c.args.tree.now ≡ entries_of top = ap entries c.in-Fork.is ∙ ap entries_of (sym c.deref-top.ensures) in
    IfOk-weaker c.joined.result (λ (t : Tree). entries t ≡ entries c.in_ok-left.left ++ (top.entry.0, c.in-Some.mode) ∷ entries c.in_ok-right.right)
    (λ (t : Tree). AreRising (entries c.args.tree.now) → AreRising es → entries t ≡ puts es (entries c.args.tree.now))
    (λ t is rising sorted.
    let both : AreRising (entries_of top) = subst AreRising whole rising in
    let low : entries c.in_ok-left.left ≡ puts (take m es) (entries top.left) =
    left (left-sorted resources_total (entries top.left) (top.entry ∷ entries top.right) both) (subst AreRising (sym taken) (take-sorted resources_total m es sorted)) ∙ ap (λ xs. puts xs (entries top.left)) taken in
    let high : entries c.in_ok-right.right ≡ puts behind (entries top.right) =
    right (right-sorted resources_total (entries top.left) top.entry (entries top.right) both) (subst AreRising (sym last) (drop-sorted resources_total 1 (drop m es) (drop-sorted resources_total m es sorted)))
    ∙ ap (λ xs. puts xs (entries top.right)) last in
    is ∙ (λ i. low i ++ (top.entry.0, c.in-Some.mode) ∷ high i)
    ∙ sym (puts-in-place resources_total es (entries top.left) top.entry (entries top.right) c.in-Some.mode sorted both found)
    ∙ ap (puts es) (sym whole))
    c.joined.ensures

pub returns : goal.returns
returns t c =
    let es : List (Resource × Mode) = c.args.modes.now in
    let top : Node = c.deref-top.result.now in
    let n : ℕ = c.count_before-before.result in
    let m : ℕ = lesser_in top.entry.0 es in
    let at : n ≡ m = c.count_before-before.ensures.count in
    let left : AreRising (entries top.left) → AreRising (take n es) → entries c.in_ok-left.left ≡ puts (take n es) (entries top.left) = c.in_ok-left.ensures in
    let right : AreRising (entries top.right) → AreRising (take (length es - n) (drop n es)) → entries c.in_ok-right-2.right ≡ puts (take (length es - n) (drop n es)) (entries top.right) = c.in_ok-right-2.ensures in
    let none : None ≡ first_tied top.entry.0 (take (length es - n) (drop n es)) = sym c.in_default.is ∙ c.first_at.ensures in
    let taken : take n es ≡ take m es = ap (λ k. take k es) at in
    let rest : take (length es - n) (drop n es) ≡ drop m es = take_rest es n ∙ ap (λ k. drop k es) at in
    let found : first_tied top.entry.0 (drop m es) ≡ None = sym (none ∙ ap (first_tied top.entry.0) rest) in
    let whole : entries c.args.tree.now ≡ entries_of top = ap entries c.in-Fork.is ∙ ap entries_of (sym c.deref-top.ensures) in
    IfOk-weaker c.joined-2.result (λ (t : Tree). entries t ≡ entries c.in_ok-left.left ++ top.entry ∷ entries c.in_ok-right-2.right)
    (λ (t : Tree). AreRising (entries c.args.tree.now) → AreRising es → entries t ≡ puts es (entries c.args.tree.now))
    (λ t is rising sorted.
    let both : AreRising (entries_of top) = subst AreRising whole rising in
    let low : entries c.in_ok-left.left ≡ puts (take m es) (entries top.left) =
    left (left-sorted resources_total (entries top.left) (top.entry ∷ entries top.right) both) (subst AreRising (sym taken) (take-sorted resources_total m es sorted)) ∙ ap (λ xs. puts xs (entries top.left)) taken in
    let high : entries c.in_ok-right-2.right ≡ puts (drop m es) (entries top.right) =
    right (right-sorted resources_total (entries top.left) top.entry (entries top.right) both) (subst AreRising (sym rest) (drop-sorted resources_total m es sorted)) ∙ ap (λ xs. puts xs (entries top.right)) rest in
    is ∙ (λ i. low i ++ top.entry ∷ high i)
    ∙ sym (puts-around resources_total es (entries top.left) top.entry (entries top.right) sorted both found)
    ∙ ap (puts es) (sym whole))
    c.joined-2.ensures
