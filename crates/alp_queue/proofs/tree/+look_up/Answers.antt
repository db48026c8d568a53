use Rattle.std.proofs.Common.{◌≡◌, ℕ, ◌+◌, ◌-◌, ◌++◌, ◌∷◌, [], List, Option, Some, None, length, take, drop, sym, ap, subst, ◌∙◌}
use Rattle.std.proofs.lemmas.List.{take_rest, drop-drop, append_assoc}
use Rattle.std.proofs.lemmas.Result.{on_ok_weaker}
use Rattle.alp_base.specs.declared.key.Resource.{Resource}
use Rattle.alp_modes.specs.declared.Mode.{Mode}
use Rattle.alp_base.specs.Orders.{resources_total, exact_resources}
use Rattle.alp_queue.specs.Trees.{entries, entries_of, AreRising, lesser_in, first_tied}
use Rattle.alp_queue.specs.declared.tree.Node.{Node}
use Rattle.alp_queue.specs.declared.wanted.Wanted.{Wanted}
use Rattle.alp_queue.proofs.SortedLemmas.{left-sorted, right-sorted, take-sorted, drop-sorted, looks, looks-around, looks-in-place}
use Rattle.alp_queue.proofs.tree.+look_up.Goals as goal

-- what is asked, with what is found there
abbrev with_held : Resource × Mode → Option Mode → Wanted
with_held d o = record { resource = d.0; asked = d.1; held = o }

-- what is looked up in entries
abbrev found_in : List (Resource × Mode) → List (Resource × Mode) → List Wanted
found_in = looks resources_total with_held

pub returns-in_default : goal.returns-in_default
returns-in_default t c = λ rising sorted.
    let es : List (Resource × Mode) = c.args.asked.now in
    let top : Node = c.deref-top.result.now in
    let n : ℕ = c.count_before-before.result in
    let m : ℕ = lesser_in top.entry.0 es in
    let at : n ≡ m = c.count_before-before.ensures.count in
    let old : List Wanted = c.args.found.now.items in
    let left : AreRising (entries top.left) → AreRising (take n es) → c.look_up.new.found.items ≡ old ++ found_in (entries top.left) (take n es) = c.in_ok-look_up.ensures in
    let none : None ≡ first_tied top.entry.0 (take (length es - n) (drop n es)) = sym c.in_default.is ∙ c.first_at.ensures in
    let taken : take n es ≡ take m es = ap (λ k. take k es) at in
    let rest : take (length es - n) (drop n es) ≡ drop m es = take_rest es n ∙ ap (λ k. drop k es) at in
    let found : first_tied top.entry.0 (drop m es) ≡ None = sym (none ∙ ap (first_tied top.entry.0) rest) in
    let whole : entries c.args.tree.now ≡ entries_of top = ap entries c.in-Fork.is ∙ ap entries_of (sym c.deref-top.ensures) in
    let both : AreRising (entries_of top) = subst AreRising whole rising in
    let low : c.look_up.new.found.items ≡ old ++ found_in (entries top.left) (take m es) =
    left (left-sorted resources_total (entries top.left) (top.entry ∷ entries top.right) both) (subst AreRising (sym taken) (take-sorted resources_total m es sorted))
    ∙ ap (λ xs. old ++ found_in (entries top.left) xs) taken in
    on_ok_weaker c.look_up-in_default.result
    (λ is. is ∙ (λ i. low i ++ found_in (entries top.right) (rest i))
    ∙ append_assoc old (found_in (entries top.left) (take m es)) (found_in (entries top.right) (drop m es))
    ∙ ap (λ xs. old ++ xs) (sym (looks-around resources_total with_held es (entries top.left) top.entry (entries top.right) sorted both found) ∙ ap (λ xs. found_in xs es) (sym whole)))
    (c.look_up-in_default.ensures (right-sorted resources_total (entries top.left) top.entry (entries top.right) both) (subst AreRising (sym rest) (drop-sorted resources_total m es sorted)))

pub returns : goal.returns
returns t c = λ rising sorted.
    let es : List (Resource × Mode) = c.args.asked.now in
    let top : Node = c.deref-top.result.now in
    let n : ℕ = c.count_before-before.result in
    let m : ℕ = lesser_in top.entry.0 es in
    let at : n ≡ m = c.count_before-before.ensures.count in
    let old : List Wanted = c.args.found.now.items in
    let behind : List (Resource × Mode) = drop 1 (drop m es) in
    let here : Wanted = record { resource = top.entry.0; asked = c.in-Some.mode; held = Some top.entry.1 } in
    let left : AreRising (entries top.left) → AreRising (take n es) → c.look_up.new.found.items ≡ old ++ found_in (entries top.left) (take n es) = c.in_ok-look_up.ensures in
    let some : Some c.in-Some.mode ≡ first_tied top.entry.0 (take (length es - n) (drop n es)) = c.in-Some.ensures in
    let taken : take n es ≡ take m es = ap (λ k. take k es) at in
    let rest : take (length es - n) (drop n es) ≡ drop m es = take_rest es n ∙ ap (λ k. drop k es) at in
    let last : take (length es - (n + 1)) (drop (n + 1) es) ≡ behind = take_rest es (n + 1) ∙ sym (drop-drop 1 n es) ∙ ap (λ k. drop 1 (drop k es)) at in
    let found : first_tied top.entry.0 (drop m es) ≡ Some c.in-Some.mode = sym (some ∙ ap (first_tied top.entry.0) rest) in
    let whole : entries c.args.tree.now ≡ entries_of top = ap entries c.in-Fork.is ∙ ap entries_of (sym c.deref-top.ensures) in
    let both : AreRising (entries_of top) = subst AreRising whole rising in
    let low : c.look_up.new.found.items ≡ old ++ found_in (entries top.left) (take m es) =
    left (left-sorted resources_total (entries top.left) (top.entry ∷ entries top.right) both) (subst AreRising (sym taken) (take-sorted resources_total m es sorted))
    ∙ ap (λ xs. old ++ found_in (entries top.left) xs) taken in
    let pushed : c.push.new.self.items ≡ c.look_up.new.found.items ++ here ∷ [] = c.in_ok-push.ensures.items in
    on_ok_weaker c.look_up-2.result
    (λ is. is ∙ (λ i. (pushed ∙ ap (λ xs. xs ++ here ∷ []) low) i ++ found_in (entries top.right) (last i))
    ∙ append_assoc (old ++ found_in (entries top.left) (take m es)) (here ∷ []) (found_in (entries top.right) behind)
    ∙ append_assoc old (found_in (entries top.left) (take m es)) (here ∷ found_in (entries top.right) behind)
    ∙ ap (λ xs. old ++ xs) (sym (looks-in-place resources_total with_held exact_resources es (entries top.left) top.entry (entries top.right) c.in-Some.mode sorted both found) ∙ ap (λ xs. found_in xs es) (sym whole)))
    (c.look_up-2.ensures (right-sorted resources_total (entries top.left) top.entry (entries top.right) both) (subst AreRising (sym last) (drop-sorted resources_total 1 (drop m es) (drop-sorted resources_total m es sorted))))
