use Rattle.std.specs.Prelude.{length, map as list_map, slice_get, Some, None}
use Rattle.std.specs.FinMap as map
use Rattle.std.specs.List.Sorted.{IsStrictlySortedBy}
use Rattle.std.proofs.Common.{◌≡◌, List, [], ◌∷◌, refl, ap, sym, subst, ◌∙◌}
use Rattle.alp_base.specs.declared.ids.TransId.{TransId}
use Rattle.alp_base.specs.Orders.{trans_cmp, transactions_total, exact_transactions}
use Rattle.alp_base.proofs.TreeLemmas.{entries_back, tree_sorted}
use Rattle.alp_node.specs.declared.lives.Live.{Live}
use Rattle.alp_node.proofs.lives.Lives.least.Goals as goal

first_of : (es : List (TransId × Live)) (t : TransId) (l : Live) → slice_get es 0 ≡ Some (t, l) → slice_get (list_map (λ (e : TransId × Live). e.0) es) 0 ≡ Some t
first_of [] t l is = cc
first_of (e ∷ es) t l is = (let same : e ≡ (t, l) = cc in ap (λ (x : TransId × Live). Some x.0) same)

none_of : (es : List (TransId × Live)) → length es ≡ 0 → slice_get (list_map (λ (e : TransId × Live). e.0) es) 0 ≡ None
none_of [] is = refl
none_of (e ∷ es) is = cc

abbrev made : List (TransId × Live) → map.FinMap trans_cmp Live
made es = map.from_entries es

sorted_back : (es : List (TransId × Live)) (m : map.FinMap trans_cmp Live) → made es ≡ m → map.entries (made es) ≡ es → list_map (λ (e : TransId × Live). e.0) es ≡ map.keys m
sorted_back es m is back = ap (λ (xs : List (TransId × Live)). list_map (λ (e : TransId × Live). e.0) xs) (sym back) ∙ ap map.keys is

pub returns-then-len-eq0-clause-least : goal.returns-then-len-eq0-clause-least
returns-then-len-eq0-clause-least c =
    let es = c.self.inside.lives.entries in
    let back = entries_back transactions_total exact_transactions es (tree_sorted transactions_total exact_transactions es c.len.ensures.ordered) in
    sym (none_of es (sym c.len.ensures.len ∙ c.if-len-eq0.true)) ∙ ap (λ (ts : List TransId). slice_get ts 0) (sorted_back es c.args.self.now c.self.view_is back)

pub returns-clause-least : goal.returns-clause-least
returns-clause-least c =
    let es = c.self.inside.lives.entries in
    let back = entries_back transactions_total exact_transactions es (tree_sorted transactions_total exact_transactions es c.len.ensures.ordered) in
    sym (first_of es c.in-Some.trans.now c.in-Some.field-0-1.now c.in-Some.ensures.first) ∙ ap (λ (ts : List TransId). slice_get ts 0) (sorted_back es c.args.self.now c.self.view_is back)

pub returns-then-len-eq0-clause-rising : goal.returns-then-len-eq0-clause-rising
returns-then-len-eq0-clause-rising c =
    let es = c.self.inside.lives.entries in
    let back = entries_back transactions_total exact_transactions es (tree_sorted transactions_total exact_transactions es c.len.ensures.ordered) in
    subst (λ (ts : List TransId). IsStrictlySortedBy trans_cmp ts) (sorted_back es c.args.self.now c.self.view_is back) c.len.ensures.ordered

pub returns-clause-rising : goal.returns-clause-rising
returns-clause-rising c =
    let es = c.self.inside.lives.entries in
    let back = entries_back transactions_total exact_transactions es (tree_sorted transactions_total exact_transactions es c.len.ensures.ordered) in
    subst (λ (ts : List TransId). IsStrictlySortedBy trans_cmp ts) (sorted_back es c.args.self.now c.self.view_is back) c.len.ensures.ordered
