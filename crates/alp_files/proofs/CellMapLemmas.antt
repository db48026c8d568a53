-- a tree of cells is a finite map
use Rattle.std.specs.Prelude.{Option, None, Some, cond, Bool, true, false, filter, map as list_map}
use Rattle.std.specs.Option.{option_or}
use Rattle.std.specs.List.Sorted.{IsStrictlySortedBy}
use Rattle.std.specs.FinMap as map
use Rattle.std.specs.FinMap.{FinMap, get-insert, get-retain_keys, same_map}
use Rattle.std.specs.Map.{lookup}
use Rattle.std.specs.BTreeMap.{is_at}
use Rattle.std.proofs.Common.{◌≡◌, List, [], ◌∷◌, ◌++◌, ◌<◌, length, refl, sym, ◌∙◌, ap, arith}
use Rattle.alp_base.proofs.TreeLemmas.{get_at, put_at, remove_at, entries_back as entries_again, tree_sorted}
use Rattle.alp_base.specs.declared.key.Key.{Key}
use Rattle.alp_base.specs.Keys.{key_cmp}
use Rattle.alp_base.specs.KeyLaws.{keys_total, exact_keys}
use Rattle.alp_files.proofs.SameLemmas.{same_key-true}

-- what the entries have at a key
abbrev pub cell_at : {X : Type 0} → List (Key × X) → Key → Option X
cell_at es key = lookup (is_at (key_cmp key)) es

pub get_cell : {X : Type 0} (es : List (Key × X)) (q : Key) → map.get (map.from_entries {R = key_cmp} es) q ≡ cell_at es q
get_cell es q = get_at keys_total exact_keys es q

-- one put of the tree is one insertion of the map
pub one_put : {X : Type 0} (es fs : List (Key × X)) (k : Key) (x : X) → ((q : Key) → cell_at fs q ≡ cond (is_at (key_cmp k) q) (Some x) (cell_at es q)) → map.from_entries {R = key_cmp} fs ≡ map.insert (map.from_entries es) k x
one_put es fs k x h = put_at keys_total exact_keys es fs k x h

-- the entries of the map of a tree's entries are those
pub entries_back : {X : Type 0} (es : List (Key × X)) → IsStrictlySortedBy key_cmp (list_map (λ (e : Key × X). e.0) es) → map.entries (map.from_entries {R = key_cmp} es) ≡ es
entries_back es h = entries_again keys_total exact_keys es (tree_sorted keys_total exact_keys es h)

-- the values of the map of a tree's entries
pub values_back : {X : Type 0} (es : List (Key × X)) → IsStrictlySortedBy key_cmp (list_map (λ (e : Key × X). e.0) es)
    → map.values (map.from_entries {R = key_cmp} es) ≡ list_map (λ (e : Key × X). e.1) es
values_back {X = X} es h = ap (list_map (λ (e : Key × X). e.1)) (entries_back es h)

-- ---- puts laid over what is seen, the last one first

or_or : {X : Type 0} (a b c : Option X) → option_or (option_or a b) c ≡ option_or a (option_or b c)
or_or None b c = refl
or_or (Some x) b c = refl

cond_or : {X : Type 0} (b : Bool) (x : X) (o p : Option X) → cond b (Some x) (option_or o p) ≡ option_or (cond b (Some x) o) p
cond_or true x o p = refl
cond_or false x o p = refl

cell_at-append : {X : Type 0} (es fs : List (Key × X)) (q : Key) → cell_at (es ++ fs) q ≡ option_or (cell_at es q) (cell_at fs q)
cell_at-append [] fs q = refl
cell_at-append (e ∷ es) fs q = ap (λ (o : Option _). cond (is_at (key_cmp q) e.0) (Some e.1) o) (cell_at-append es fs q) ∙ cond_or (is_at (key_cmp q) e.0) e.1 (cell_at es q) (cell_at fs q)

-- what is left of the puts, laid over the map with the last put, is as before
pub over-last : {X : Type 0} (es : List (Key × X)) (k : Key) (x : X) (m : FinMap key_cmp X) (q : Key)
    → option_or (map.get (map.from_entries {R = key_cmp} es) q) (map.get (map.insert m k x) q)
    ≡ option_or (map.get (map.from_entries {R = key_cmp} (es ++ (k, x) ∷ [])) q) (map.get m q)
over-last es k x m q =
    ap (option_or (map.get (map.from_entries {R = key_cmp} es) q)) (get-insert keys_total m k x q)
    ∙ ap (λ o. option_or o (cond (is_at (key_cmp q) k) (Some x) (map.get m q))) (get_cell es q)
    ∙ ap (option_or (cell_at es q)) (cond_or (is_at (key_cmp q) k) x None (map.get m q))
    ∙ sym (or_or (cell_at es q) (cond (is_at (key_cmp q) k) (Some x) None) (map.get m q))
    ∙ ap (λ o. option_or o (map.get m q)) (sym (cell_at-append es ((k, x) ∷ []) q) ∙ sym (get_cell (es ++ (k, x) ∷ []) q))

-- no puts leave what is seen
pub over-none : {X : Type 0} (m : Key → Option X) → (λ (q : Key). option_or (map.get (map.from_entries {R = key_cmp} []) q) (m q)) ≡ m
over-none m = λ i q. (ap (λ o. option_or o (m q)) (get_cell [] q)) i

-- a tree whose last entry was asked for in vain has none
pub no_entries : {X : Type 0} (es : List (Key × X)) → (0 < length es → false ≡ true) → es ≡ []
no_entries [] h = refl
no_entries (e ∷ es) h = let some : 0 < length (e ∷ es) = omega arith in let wrong : false ≡ true = h some in cc

-- one removal from the tree is one from the map
pub one_removal : {X : Type 0} (es fs : List (Key × X)) (k : Key) → ((q : Key) → cell_at fs q ≡ cond (is_at (key_cmp k) q) None (cell_at es q)) → map.from_entries {R = key_cmp} fs ≡ map.remove (map.from_entries es) k
one_removal es fs k h = remove_at keys_total exact_keys es fs k h

-- what is seen in the map is what the entries have
pub seen_at : {X : Type 0} (es : List (Key × X)) → map.get (map.from_entries {R = key_cmp} es) ≡ cell_at es
seen_at es = λ i q. get_cell es q i

-- ---- the entries at the keys that pass a test

module _ {X : Type 0} (p : Key → Bool) where
  cell_at-filter : (es : List (Key × X)) (q : Key) → cell_at (filter (λ e. p e.0) es) q ≡ cond (p q) (cell_at es q) None
  cell_at-filter [] q = go (p q)
    where
      go : (b : Bool) → None ≡ cond {A = Option X} b None None
      go true = refl
      go false = refl
  cell_at-filter (e ∷ es) q = go (p e.0) (is_at (key_cmp q) e.0) refl refl (cell_at-filter es q)
    where
      other : (b : Bool) (t : Bool) → p e.0 ≡ b → is_at (key_cmp q) e.0 ≡ t → t ≡ true → p q ≡ b
      other b t kept here is = ap p (same_key-true q e.0 (here ∙ is)) ∙ kept

      go : (b t : Bool) → p e.0 ≡ b → is_at (key_cmp q) e.0 ≡ t → cell_at (filter (λ x. p x.0) es) q ≡ cond (p q) (cell_at es q) None
          → cell_at (cond {A = List (Key × X)} b (e ∷ filter (λ x. p x.0) es) (filter (λ x. p x.0) es)) q ≡ cond (p q) (cond t (Some e.1) (cell_at es q)) None
      go true true kept here rest =
          ap (λ (t : Bool). cond t (Some e.1) (cell_at (filter (λ x. p x.0) es) q)) here ∙ ap (λ (b : Bool). cond b (Some e.1) None) (sym (other true true kept here refl))
      go true false kept here rest = ap (λ (t : Bool). cond t (Some e.1) (cell_at (filter (λ x. p x.0) es) q)) here ∙ rest
      go false true kept here rest =
          let gone : p q ≡ false = other false true kept here refl in
          rest ∙ ap (λ (b : Bool). cond b (cell_at es q) None) gone ∙ ap (λ (b : Bool). cond b (Some e.1) None) (sym gone)
      go false false kept here rest = rest

  pub kept_entries : (es : List (Key × X)) → map.from_entries {R = key_cmp} (filter (λ e. p e.0) es) ≡ map.retain_keys (map.from_entries es) p
  kept_entries es = same_map keys_total exact_keys _ _ (λ q.
      get_cell (filter (λ e. p e.0) es) q ∙ cell_at-filter es q ∙ ap (λ (o : Option X). cond (p q) o None) (sym (get_cell es q))
      ∙ sym (get-retain_keys (map.from_entries es) p q (λ x e. ap p (sym (exact_keys q x e)))))
