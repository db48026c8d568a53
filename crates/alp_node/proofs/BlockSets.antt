-- finite sets of keys
use Rattle.std.specs.Prelude.{cond, Bool, true, false, ◌||◌, is_some, Option, None, Some, map as list_map}
use Rattle.std.specs.List.{list_any}
use Rattle.std.specs.List.Sorted.{IsStrictlySortedBy}
use Rattle.std.specs.BTreeMap.{is_at}
use Rattle.std.specs.Cmp.{eq_by_cmp_equiv}
use Rattle.std.specs.Ordering.{eq_by_cmp}
use Rattle.std.specs.FinMap as map
use Rattle.std.specs.FinMap.{get-insert, get-empty, same_map}
use Rattle.std.proofs.Common.{◌≡◌, List, [], ◌∷◌, refl, sym, ◌∙◌, ap, subst}
use Rattle.alp_base.specs.declared.key.Key.{Key}
use Rattle.alp_base.specs.Keys.{key_cmp}
use Rattle.alp_base.specs.KeyLaws.{keys_total, exact_keys}
use Rattle.alp_base.proofs.TreeLemmas.{entries_back, tree_sorted}
use Rattle.alp_files.specs.Counts.{Blocks}
use Rattle.alp_node.specs.BlockSets.{set_of}

abbrev has : List Key → Key → Bool
has ks k = list_any (is_at (key_cmp k)) ks

with_one : (b : Bool) (o : Option (Unit {0})) → is_some (cond b (Some tt) o) ≡ (b || is_some o)
with_one true o = refl
with_one false o = refl

has_keys : (ks : List Key) (k : Key) → map.contains_key (set_of ks) k ≡ has ks k
has_keys [] k = ap is_some (get-empty key_cmp k)
has_keys (q ∷ ks) k = ap is_some (get-insert keys_total (set_of ks) q tt k) ∙ with_one (eq_by_cmp key_cmp k q) (map.get (set_of ks) k) ∙ ap (λ (b : Bool). eq_by_cmp key_cmp k q || b) (has_keys ks k)

same_keys : (a b : Blocks) → ((k : Key) → map.contains_key a k ≡ map.contains_key b k) → a ≡ b
same_keys a b same = same_map keys_total exact_keys a b (λ k. by (map.get a k) (map.get b k) (same k))
  where
    by : (o p : Option (Unit {0})) → is_some o ≡ is_some p → o ≡ p
    by None None e = refl
    by None (Some u) e = cc
    by (Some u) None e = cc
    by (Some u) (Some v) e = refl

-- one key more
pub added : (ks qs : List Key) (k : Key) → ((q : Key) → has qs q ≡ cond (is_at (key_cmp k) q) true (has ks q)) → set_of qs ≡ map.insert (set_of ks) k tt
added ks qs k h = same_keys (set_of qs) (map.insert (set_of ks) k tt) (λ q.
    has_keys qs q ∙ h q ∙ ap (λ (b : Bool). cond b true (has ks q)) ((eq_by_cmp_equiv keys_total).symm k q)
    ∙ or_so (eq_by_cmp key_cmp q k) (has ks q)
    ∙ sym (ap is_some (get-insert keys_total (set_of ks) k tt q) ∙ with_one (eq_by_cmp key_cmp q k) (map.get (set_of ks) q) ∙ ap (λ (b : Bool). eq_by_cmp key_cmp q k || b) (has_keys ks q)))
  where
    or_so : (a b : Bool) → cond a true b ≡ (a || b)
    or_so true b = refl
    or_so false b = refl

-- ---- the keys of a set, in order

abbrev pairs : List Key → List (Key × Unit {0})
pairs ks = list_map (λ k. (k, tt)) ks

firsts : (ks : List Key) → list_map (λ (p : Key × Unit {0}). p.0) (pairs ks) ≡ ks
firsts [] = refl
firsts (k ∷ ks) = ap (λ (qs : List Key). k ∷ qs) (firsts ks)

as_entries : (ks : List Key) → set_of ks ≡ map.from_entries (pairs ks)
as_entries [] = refl
as_entries (k ∷ ks) = ap (λ (m : Blocks). map.insert m k tt) (as_entries ks)

pub keys_back : (ks : List Key) → IsStrictlySortedBy key_cmp ks → map.keys (set_of ks) ≡ ks
keys_back ks h =
    ap map.keys (as_entries ks)
    ∙ ap (list_map (λ (p : Key × Unit {0}). p.0)) (entries_back keys_total exact_keys (pairs ks) (tree_sorted keys_total exact_keys (pairs ks) (subst (IsStrictlySortedBy key_cmp) (sym (firsts ks)) h)))
    ∙ firsts ks
