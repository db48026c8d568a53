-- how many resources a part has locked: just those on which it holds a lock
use Rattle.std.specs.Prelude.{cond, Bool, true, false, ◌||◌, Option, None, Some, is_some}
use Rattle.std.specs.Ordering.{eq_by_cmp}
use Rattle.std.specs.List.{AllByRecursion, list_any}
use Rattle.std.proofs.Common.{◌≡◌, ℕ, ◌+◌, add_assoc, List, [], ◌∷◌, ◌++◌, length, length-append, refl, sym, ◌∙◌, ap, arith}
use Rattle.alp_base.specs.declared.ids.FileId.{FileId}
use Rattle.alp_base.specs.declared.key.Resource.{Resource}
use Rattle.alp_base.specs.declared.key.Resource.TheVariants.{Whole}
use Rattle.alp_modes.specs.declared.Mode.{Mode}
use Rattle.alp_modes.specs.declared.Mode.TheVariants.{Write}
use Rattle.alp_base.specs.Orders.{resource_cmp, exact_resources}
use Rattle.alp_files.specs.Holdings.{Holding, join_held, held_by}
use Rattle.alp_files.specs.Locks.{Need, joined, needs_made}
use Rattle.alp_files.proofs.HoldingLemmas.{join_held-assoc, held_by-append, none-right}
use Rattle.alp_locks.proofs.HeldLemmas.{tied}
use Rattle.alp_journal.specs.Counts.{has_resource, with_resources}
use Rattle.alp_node.specs.Covers.{AreHeld, AreNamedOnce}
use Rattle.alp_node.specs.Shapes.{fresh_on}

has-push : (r q : Resource) (rs : List Resource) → has_resource r (rs ++ q ∷ []) ≡ has_resource r rs || eq_by_cmp resource_cmp r q
has-push r q [] = go (eq_by_cmp resource_cmp r q)
  where
    go : (b : Bool) → (b || false) ≡ b
    go true = refl
    go false = refl
has-push r q (x ∷ rs) = go (eq_by_cmp resource_cmp r x) (has-push r q rs)
  where
    go : (b : Bool) → has_resource r (rs ++ q ∷ []) ≡ has_resource r rs || eq_by_cmp resource_cmp r q → (b || has_resource r (rs ++ q ∷ [])) ≡ (b || has_resource r rs) || eq_by_cmp resource_cmp r q
    go true h = refl
    go false h = h

-- the same resources, or one more
abbrev one_more : Resource → List Resource → List Resource
one_more q rs = cond {A = List Resource} (has_resource q rs) rs (rs ++ q ∷ [])

some_joined : (x : Option Mode) (b : Bool) (m : Mode) → is_some (join_held x (cond {A = Option Mode} b (Some m) None)) ≡ is_some x || b
some_joined None true m = refl
some_joined None false m = refl
some_joined (Some a) true m = refl
some_joined (Some a) false m = refl

or_false : (b : Bool) → (b || false) ≡ b
or_false true = refl
or_false false = refl

has-one_more : (r q : Resource) (rs : List Resource) → has_resource r (one_more q rs) ≡ has_resource r rs || eq_by_cmp resource_cmp r q
has-one_more r q rs = go (has_resource q rs) refl
  where
    go : (b : Bool) → has_resource q rs ≡ b → has_resource r (cond {A = List Resource} b rs (rs ++ q ∷ [])) ≡ has_resource r rs || eq_by_cmp resource_cmp r q
    go false e = has-push r q rs
    go true e = which (eq_by_cmp resource_cmp r q) refl
      where
        which : (b : Bool) → eq_by_cmp resource_cmp r q ≡ b → has_resource r rs ≡ has_resource r rs || b
        which false f = sym (or_false (has_resource r rs))
        which true f =
            let same : r ≡ q = exact_resources r q (tied (resource_cmp r q) f) in
            let here : has_resource r rs ≡ true = ap (λ (x : Resource). has_resource x rs) same ∙ e in
            here ∙ ap (λ (b : Bool). b || true) (sym here)

-- one that is not named is named behind the others
once_push : (q : Resource) (rs : List Resource) → has_resource q rs ≡ false → AreNamedOnce rs → AreNamedOnce (rs ++ q ∷ [])
once_push q [] none once = (refl, tt)
once_push q (x ∷ xs) none once = (has-push x q xs ∙ (λ i. once.0 i || apart i), once_push q xs (behind (eq_by_cmp resource_cmp q x) (has_resource q xs) none) once.1)
  where
    behind : (a b : Bool) → (a || b) ≡ false → b ≡ false
    behind false b e = e
    behind true b e = let wrong : true ≡ false = e in cc

    before : (a b : Bool) → (a || b) ≡ false → a ≡ false
    before false b e = refl
    before true b e = e

    apart : eq_by_cmp resource_cmp x q ≡ false
    apart = go (eq_by_cmp resource_cmp x q) refl
      where
        go : (b : Bool) → eq_by_cmp resource_cmp x q ≡ b → b ≡ false
        go false e = refl
        go true e =
            let same : x ≡ q = exact_resources x q (tied (resource_cmp x q) e) in
            let wrong : true ≡ false = sym e ∙ ap (λ (z : Resource). eq_by_cmp resource_cmp z q) same ∙ sym (ap (eq_by_cmp resource_cmp q) same) ∙ before (eq_by_cmp resource_cmp q x) (has_resource q xs) none in
            cc

once-one_more : (q : Resource) (rs : List Resource) → AreNamedOnce rs → AreNamedOnce (one_more q rs)
once-one_more q rs once = go (has_resource q rs) refl
  where
    go : (b : Bool) → has_resource q rs ≡ b → AreNamedOnce (cond {A = List Resource} b rs (rs ++ q ∷ []))
    go true e = once
    go false e = once_push q rs e once

held_one : (held : Holding) (n : Need) (rs : List Resource) → AreHeld held rs → AreHeld (joined held (n ∷ [])) (one_more n.0 rs)
held_one held n rs all = (
  λ r. has-one_more r n.0 rs ∙ ap (λ (b : Bool). b || eq_by_cmp resource_cmp r n.0) (all.0 r) ∙ sym (some_joined (held r) (eq_by_cmp resource_cmp r n.0) n.1),
  once-one_more n.0 rs all.1,
)

-- what is locked then is what is held then
pub held_then : (held : Holding) (ns : List Need) (rs : List Resource) → AreHeld held rs → AreHeld (joined held ns) (with_resources ns rs)
held_then held [] rs all = (λ r. all.0 r ∙ ap is_some (sym (none-right (held r))), all.1)
held_then held (n ∷ ns) rs all =
    let rest : AreHeld (joined (joined held (n ∷ [])) ns) (with_resources ns (one_more n.0 rs)) = held_then (joined held (n ∷ [])) ns (one_more n.0 rs) (held_one held n rs all) in
    (λ r. rest.0 r ∙ ap is_some (join_held-assoc (held r) (held_by (n ∷ []) r) (held_by ns r) ∙ ap (join_held (held r)) (sym (held_by-append (n ∷ []) ns r))), rest.1)

-- one that is not held counts
count_one : (held : Holding) (n : Need) (rs : List Resource) → AreHeld held rs → length (one_more n.0 rs) ≡ length rs + cond (is_some (held n.0)) 0 1
count_one held n rs all = ap (λ (b : Bool). length (cond {A = List Resource} b rs (rs ++ n.0 ∷ []))) (all.0 n.0) ∙ go (is_some (held n.0))
  where
    go : (b : Bool) → length (cond {A = List Resource} b rs (rs ++ n.0 ∷ [])) ≡ length rs + cond b 0 1
    go true = omega arith
    go false = length-append rs (n.0 ∷ [])

-- and each of those that are asked counts so, once
pub count_all : (held : Holding) (ns : List Need) (rs : List Resource) → AreHeld held rs → length (with_resources ns rs) ≡ length rs + fresh_on held ns
count_all held [] rs all = omega arith
count_all held (n ∷ ns) rs all =
    let rest : length (with_resources ns (one_more n.0 rs)) ≡ length (one_more n.0 rs) + fresh_on (joined held (n ∷ [])) ns = count_all (joined held (n ∷ [])) ns (one_more n.0 rs) (held_one held n rs all) in
    omega (arith, rest, count_one held n rs all)

-- those that are held already are locked already
pub none_more : (held : Holding) (ns : List Need) (rs : List Resource) → AreHeld held rs → AllByRecursion (λ (n : Need). is_some (held n.0) ≡ true) ns → with_resources ns rs ≡ rs
none_more held [] rs all there = refl
none_more held (n ∷ ns) rs all there = ap (λ (b : Bool). with_resources ns (cond {A = List Resource} b rs (rs ++ n.0 ∷ []))) (all.0 n.0 ∙ there.0) ∙ none_more held ns rs all there.1

-- one need more counts where its resource is neither held nor asked before
pub fresh_push : (held : Holding) (ns : List Need) (n : Need) → fresh_on held (ns ++ n ∷ []) ≡ fresh_on held ns + cond (is_some (joined held ns n.0)) 0 1
fresh_push held [] n = ap (λ (x : Option Mode). cond (is_some x) 0 1 + 0) (sym (none-right (held n.0))) ∙ turn (cond (is_some (joined held [] n.0)) 0 1)
  where
    turn : (m : ℕ) → m + 0 ≡ 0 + m
    turn m = omega arith
fresh_push held (x ∷ ns) n =
    let same : joined (joined held (x ∷ [])) ns n.0 ≡ joined held (x ∷ ns) n.0 = join_held-assoc (held n.0) (held_by (x ∷ []) n.0) (held_by ns n.0) ∙ ap (join_held (held n.0)) (sym (held_by-append (x ∷ []) ns n.0)) in
    ap (λ (m : ℕ). cond (is_some (held x.0)) 0 1 + m) (fresh_push (joined held (x ∷ [])) ns n ∙ ap (λ (y : Option Mode). fresh_on (joined held (x ∷ [])) ns + cond (is_some y) 0 1) same)
    ∙ sym (add_assoc (cond (is_some (held x.0)) 0 1) (fresh_on (joined held (x ∷ [])) ns) (cond (is_some (joined held (x ∷ ns) n.0)) 0 1))

some_either : (x y : Option Mode) → is_some (join_held x y) ≡ (is_some x || is_some y)
some_either None y = refl
some_either (Some a) None = refl
some_either (Some a) (Some b) = refl

some_by : (ns : List Need) (r : Resource) → is_some (held_by ns r) ≡ list_any (λ (n : Need). eq_by_cmp resource_cmp r n.0) ns
some_by [] r = refl
some_by (n ∷ ns) r = go (eq_by_cmp resource_cmp r n.0) (some_by ns r)
  where
    go : (b : Bool) → is_some (held_by ns r) ≡ list_any (λ (m : Need). eq_by_cmp resource_cmp r m.0) ns → is_some (cond {A = Option Mode} b (join_held (Some n.1) (held_by ns r)) (held_by ns r)) ≡ (b || list_any (λ (m : Need). eq_by_cmp resource_cmp r m.0) ns)
    go true rest = some_either (Some n.1) (held_by ns r)
    go false rest = rest

-- what is held or asked
pub held_or_asked : (held : Holding) (ns : List Need) (r : Resource) → is_some (joined held ns r) ≡ (is_some (held r) || list_any (λ (n : Need). eq_by_cmp resource_cmp r n.0) ns)
held_or_asked held ns r = some_either (held r) (held_by ns r) ∙ ap (λ (b : Bool). is_some (held r) || b) (some_by ns r)

-- and so does a new file
pub count_made : (held : Holding) (f : FileId) (rs : List Resource) → AreHeld held rs → held (Whole f) ≡ None → length (with_resources (needs_made (Some f)) rs) ≡ length rs + 1
count_made held f rs all none = count_one held (Whole f, Write) rs all ∙ ap (λ (x : Option Mode). length rs + cond (is_some x) 0 1) none

-- locks are counted so under a holding that is the same
pub held_same : (a b : Holding) (rs : List Resource) → ((r : Resource) → a r ≡ b r) → AreHeld a rs → AreHeld b rs
held_same a b rs same all = (λ r. all.0 r ∙ ap is_some (same r), all.1)
