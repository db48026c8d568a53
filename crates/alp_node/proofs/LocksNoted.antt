-- locks of a note that names no resource twice: each is just what is held on its resource
use Rattle.std.specs.Prelude.{cond, Bool, true, false, ◌&&◌, ◌||◌, Option, None, Some, is_some}
use Rattle.std.specs.List.{list_all, list_any, AllByRecursion}
use Rattle.std.specs.Cmp.{eq_by_cmp_equiv}
use Rattle.std.specs.Ordering.{eq_by_cmp}
use Rattle.std.proofs.Common.{◌≡◌, ℕ, suc, ◌+◌, ◌≤◌, List, [], ◌∷◌, ◌++◌, length, length-append, refl, sym, ◌∙◌, ap, subst, arith}
use Rattle.std.proofs.lemmas.Map.Views.{tells_apart}
use Rattle.std.proofs.lemmas.List.Folds.{list_any-append}
use Rattle.alp_base.specs.Orders.{resource_cmp, resources_total, exact_resources}
use Rattle.alp_base.specs.declared.ids.FileId.{FileId}
use Rattle.alp_base.specs.declared.key.Key.{Key}
use Rattle.alp_base.specs.declared.key.Key.TheVariants.{Leader, PageOf, OwnerOf}
use Rattle.alp_base.specs.declared.key.Resource.{Resource}
use Rattle.alp_base.specs.declared.key.Resource.TheVariants.{Whole, Leaf}
use Rattle.alp_modes.specs.declared.Mode.{Mode}
use Rattle.alp_files.specs.Holdings.{join_held, held_by, IsIntended}
use Rattle.alp_files.specs.Locks.{Need}
use Rattle.alp_journal.specs.Counts.{has_resource, with_resources}
use Rattle.alp_regain.specs.Named.{is_leaf_mode, is_own, is_mode_on, is_own_resource, is_beside_intention}
use Rattle.alp_node.proofs.EditsNoted.{own_leaf}
use Rattle.std.specs.FinMap as map
use Rattle.alp_journal.specs.Holder.{no_locks}
use Rattle.alp_node.specs.Covers.{AreHeld}
use Rattle.alp_node.proofs.CountedLocks.{one_each, as_many}
use Rattle.alp_node.proofs.LockCountLemmas.{held_then}

fewer : (ns : List Need) (rs : List Resource) → length (with_resources ns rs) ≤ length ns + length rs
fewer [] rs = omega arith
fewer (n ∷ ns) rs = go (has_resource n.0 rs) (fewer ns rs) (fewer ns (rs ++ n.0 ∷ []))
  where
    go : (b : Bool) → length (with_resources ns rs) ≤ length ns + length rs → length (with_resources ns (rs ++ n.0 ∷ [])) ≤ length ns + length (rs ++ n.0 ∷ [])
        → length (with_resources ns (cond {A = List Resource} b rs (rs ++ n.0 ∷ []))) ≤ suc (length ns) + length rs
    go true rest more = omega (arith, rest)
    go false rest more = (let longer : length (rs ++ n.0 ∷ []) ≡ length rs + 1 = length-append rs (n.0 ∷ []) in omega (arith, more, longer))

parts_of : (a b : Bool) → (a || b) ≡ false → (a ≡ false) × (b ≡ false)
parts_of false b e = (refl, e)
parts_of true b e = let wrong : true ≡ false = e in cc

-- each is named once, and by none of these
abbrev AreNew : List Resource → List Need → Type 0
AreNew rs ns = AllByRecursion (λ (n : Need). (has_resource n.0 rs ≡ false) × (held_by ns n.0 ≡ Some n.1)) ns

none_held : (r : Resource) (ns : List Need) → AllByRecursion (λ (n : Need). eq_by_cmp resource_cmp n.0 r ≡ false) ns → held_by ns r ≡ None
none_held r [] h = refl
none_held r (n ∷ ns) h = go (eq_by_cmp resource_cmp r n.0) refl (none_held r ns h.1)
  where
    go : (b : Bool) → eq_by_cmp resource_cmp r n.0 ≡ b → held_by ns r ≡ None → cond {A = Option Mode} b (join_held (Some n.1) (held_by ns r)) (held_by ns r) ≡ None
    go false e rest = rest
    go true e rest = let wrong : false ≡ true = sym h.0 ∙ ap (λ (q : Resource). eq_by_cmp resource_cmp n.0 q) (tells_apart exact_resources r n.0 e) ∙ (eq_by_cmp_equiv resources_total).refl n.0 in cc

-- of those behind the first
behind : (rs : List Resource) (n : Need) (ns all : List Need) → AllByRecursion (λ (m : Need). (has_resource m.0 (rs ++ n.0 ∷ []) ≡ false) × (held_by all m.0 ≡ Some m.1)) ns
    → AllByRecursion (λ (m : Need). eq_by_cmp resource_cmp m.0 n.0 ≡ false) ns × AllByRecursion (λ (m : Need). (has_resource m.0 rs ≡ false) × (held_by (n ∷ all) m.0 ≡ Some m.1)) ns
behind rs n [] all h = (tt, tt)
behind rs n (m ∷ ms) all h =
    let split = parts_of (has_resource m.0 rs) (eq_by_cmp resource_cmp m.0 n.0 || false) (sym (list_any-append (λ (q : Resource). eq_by_cmp resource_cmp m.0 q) rs (n.0 ∷ [])) ∙ h.0.0) in
    let apart = (parts_of (eq_by_cmp resource_cmp m.0 n.0) false split.1).0 in
    let rest = behind rs n ms all h.1 in
    ((apart, rest.0), ((split.0, ap (λ (b : Bool). cond {A = Option Mode} b (join_held (Some n.1) (held_by all m.0)) (held_by all m.0)) apart ∙ h.0.1), rest.1))

once_each : (ns : List Need) (rs : List Resource) → length (with_resources ns rs) ≡ length ns + length rs → AreNew rs ns
once_each [] rs same = tt
once_each (n ∷ ns) rs same = go (has_resource n.0 rs) refl same (λ f. once_each ns (rs ++ n.0 ∷ []) f)
  where
    go : (b : Bool) → has_resource n.0 rs ≡ b → length (with_resources ns (cond {A = List Resource} b rs (rs ++ n.0 ∷ []))) ≡ suc (length ns) + length rs
        → (length (with_resources ns (rs ++ n.0 ∷ [])) ≡ length ns + length (rs ++ n.0 ∷ []) → AreNew (rs ++ n.0 ∷ []) ns) → AreNew rs (n ∷ ns)
    go true e f more = (let most : length (with_resources ns rs) ≤ length ns + length rs = fewer ns rs in absurd (omega (arith, most, f)))
    go false e f more =
        let longer : length (rs ++ n.0 ∷ []) ≡ length rs + 1 = length-append rs (n.0 ∷ []) in
        let rest : AreNew (rs ++ n.0 ∷ []) ns = more (omega (arith, f, longer)) in
        let both = behind rs n ns ns rest in (
          (
            e,
            ap (λ (b : Bool). cond {A = Option Mode} b (join_held (Some n.1) (held_by ns n.0)) (held_by ns n.0)) ((eq_by_cmp_equiv resources_total).refl n.0) ∙ ap (join_held (Some n.1)) (none_held n.0 ns both.0),
          ),
          both.1,
        )

module _ (ns : List Need) (same : length ns ≡ length (with_resources ns [])) where
  pub each_held : AllByRecursion (λ (n : Need). held_by ns n.0 ≡ Some n.1) ns
  each_held = only ns (once_each ns [] (omega (arith, same)))
    where
      only : (ms : List Need) → AllByRecursion (λ (n : Need). (has_resource n.0 [] ≡ false) × (held_by ns n.0 ≡ Some n.1)) ms → AllByRecursion (λ (n : Need). held_by ns n.0 ≡ Some n.1) ms
      only [] h = tt
      only (m ∷ ms) h = (h.0.1, only ms h.1)

  all_of : (p : Resource → Mode → Bool) → ((r : Resource) (m : Mode) → held_by ns r ≡ Some m → p r m ≡ true) → (ms : List Need) → AllByRecursion (λ (n : Need). held_by ns n.0 ≡ Some n.1) ms → list_all (λ l. p l.0 l.1) ms ≡ true
  all_of p f [] h = refl
  all_of p f (m ∷ ms) h = ap (λ (b : Bool). b && list_all (λ l. p l.0 l.1) ms) (f m.0 m.1 h.0) ∙ all_of p f ms h.1

  pub modes_all : ((k : Key) (m : Mode) → held_by ns (Leaf k) ≡ Some m → is_leaf_mode m ≡ true) → list_all (λ l. is_mode_on l.0 l.1) ns ≡ true
  modes_all modes = all_of is_mode_on good ns each_held
    where
      good : (r : Resource) (m : Mode) → held_by ns r ≡ Some m → is_mode_on r m ≡ true
      good (Whole f) m e = refl
      good (Leaf k) m e = modes k m e

  module _ (intended : IsIntended (held_by ns)) where
    pub intended_all : list_all (λ l. is_beside_intention (held_by ns) l.0 l.1) ns ≡ true
    intended_all = all_of (is_beside_intention (held_by ns)) good ns each_held
      where
        good : (r : Resource) (m : Mode) → held_by ns r ≡ Some m → is_beside_intention (held_by ns) r m ≡ true
        good (Whole f) m e = refl
        good (Leaf (Leader f)) m e = intended (Leader f) f m refl e
        good (Leaf (PageOf f n)) m e = intended (PageOf f n) f m refl e
        good (Leaf (OwnerOf name)) m e = refl

    pub own_all : (server epoch : ℕ) → ((f : FileId) (m : Mode) → held_by ns (Whole f) ≡ Some m → is_own server epoch f ≡ true) → list_all (λ l. is_own_resource server epoch l.0) ns ≡ true
    own_all server epoch own = all_of (λ r m. is_own_resource server epoch r) good ns each_held
      where
        good : (r : Resource) (m : Mode) → held_by ns r ≡ Some m → is_own_resource server epoch r ≡ true
        good (Whole f) m e = own f m e
        good (Leaf k) m e = own_leaf server epoch (held_by ns) intended own k m e

-- as many as a map has of which the list tells
pub once_listed : (ns : List Need) (m : map.FinMap resource_cmp Mode) → ((r : Resource) → held_by ns r ≡ map.get m r) → length ns ≡ length (map.entries m) → length ns ≡ length (with_resources ns [])
once_listed ns m same count =
    let all : AreHeld (held_by ns) (with_resources ns []) = held_then no_locks ns [] (λ r. refl, tt) in
    count ∙ sym (one_each (map.entries m)) ∙ as_many (with_resources ns []) m (λ r. all.0 r ∙ ap is_some (same r)) all.1
