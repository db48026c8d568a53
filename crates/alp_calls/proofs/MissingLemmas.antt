-- what one map has and another lacks, and the other way round
use Rattle.std.specs.Prelude.{cond, Bool, true, false, ◌&&◌, filter, sum_by, is_some, is_none, Option, None, Some, map as list_map}
use Rattle.std.specs.FinMap as map
use Rattle.std.specs.FinMap.{find, is_sorted, get-entries, entries_sorted}
use Rattle.std.specs.FinMap.Entries.{below_all, same_entries}
use Rattle.std.specs.Ordering.{eq_by_cmp, is_lt}
use Rattle.std.proofs.Math.Dec.{T}
use Rattle.std.proofs.Common.{◌≡◌, ℕ, ◌+◌, List, [], ◌∷◌, length, refl, sym, ◌∙◌, ap, subst, arith}
use Rattle.std.proofs.lemmas.List.Sums.{sum_by-cons}
use Rattle.alp_base.specs.declared.key.Key.{Key}
use Rattle.alp_base.specs.Keys.{key_cmp}
use Rattle.alp_base.specs.KeyLaws.{keys_total, exact_keys}
use Rattle.alp_base.specs.declared.cell.Cell.{Cell}
use Rattle.alp_files.specs.Cells.{Cells}
use Rattle.alp_files.specs.Needs.{missing_in}
use Rattle.alp_files.proofs.IntentLemmas.{kept}
use Rattle.alp_files.proofs.SumLemmas.{entries-retain_keys}
use Rattle.alp_calls.proofs.NeedLemmas.{weight, made_sum}

-- ---- maps with the same keys have as many

abbrev keyed : List (Key × Cell) → List (Key × Unit {0})
keyed es = list_map (λ (e : Key × Cell). (e.0, tt)) es

keyed_below : (k : Key) (es : List (Key × Cell)) → below_all key_cmp k (keyed es) ≡ below_all key_cmp k es
keyed_below k [] = refl
keyed_below k (e ∷ es) = ap (λ (b : Bool). is_lt (key_cmp k e.0) && b) (keyed_below k es)

keyed_sorted : (es : List (Key × Cell)) → is_sorted key_cmp (keyed es) ≡ is_sorted key_cmp es
keyed_sorted [] = refl
keyed_sorted (e ∷ es) = λ j. keyed_below e.0 es j && keyed_sorted es j

abbrev mark : Option Cell → Option (Unit {0})
mark None = None
mark (Some c) = Some tt

keyed_find : (q : Key) (es : List (Key × Cell)) → find key_cmp q (keyed es) ≡ mark (find key_cmp q es)
keyed_find q [] = refl
keyed_find q (e ∷ es) = ap (cond (eq_by_cmp key_cmp q e.0) (Some tt)) (keyed_find q es) ∙ go (eq_by_cmp key_cmp q e.0)
  where
    go : (b : Bool) → cond b (Some tt) (mark (find key_cmp q es)) ≡ mark (cond b (Some e.1) (find key_cmp q es))
    go true = refl
    go false = refl

keyed_length : (es : List (Key × Cell)) → length (keyed es) ≡ length es
keyed_length [] = refl
keyed_length (e ∷ es) = omega (arith, keyed_length es)

same_marks : (o p : Option Cell) → is_some o ≡ is_some p → mark o ≡ mark p
same_marks None None e = refl
same_marks None (Some d) e = cc
same_marks (Some c) None e = cc
same_marks (Some c) (Some d) e = refl

as_many : (x y : Cells) → ((q : Key) → map.contains_key x q ≡ map.contains_key y q) → length (map.entries x) ≡ length (map.entries y)
as_many x y same =
    let keys : keyed (map.entries x) ≡ keyed (map.entries y) =
    same_entries key_cmp keys_total exact_keys (keyed (map.entries x)) (keyed (map.entries y))
    (subst T (sym (keyed_sorted (map.entries x))) (entries_sorted x)) (subst T (sym (keyed_sorted (map.entries y))) (entries_sorted y))
    (λ q. keyed_find q (map.entries x) ∙ ap mark (sym (get-entries x q)) ∙ same_marks (map.get x q) (map.get y q) (same q) ∙ ap mark (get-entries y q) ∙ sym (keyed_find q (map.entries y))) in
    sym (keyed_length (map.entries x)) ∙ ap (λ (es : List (Key × Unit {0})). length es) keys ∙ keyed_length (map.entries y)

-- ---- what both have

module _ (p : Key → Bool) where
  -- the keys of a kind that a map has
  abbrev pub count_in : Cells → ℕ
  count_in x = sum_by (λ (e : Key × Cell). cond {A = ℕ} (p e.0) 1 0) (map.entries x)

  abbrev in_both : Cells → Key → Bool
  in_both m k = p k && is_some (map.get m k)

  -- those of the entries that the other map has, and those that it lacks
  split_entries : (m : Cells) (es : List (Key × Cell)) → sum_by (λ (e : Key × Cell). cond {A = ℕ} (p e.0) 1 0) es ≡ length (filter (λ (e : Key × Cell). in_both m e.0) es) + sum_by (λ (e : Key × Cell). weight p m e.0) es
  split_entries m [] = refl
  split_entries m (e ∷ es) = go (p e.0) (map.get m e.0) refl refl (split_entries m es)
    where
      go : (b : Bool) (o : Option Cell) → p e.0 ≡ b → map.get m e.0 ≡ o
          → sum_by (λ (x : Key × Cell). cond {A = ℕ} (p x.0) 1 0) es ≡ length (filter (λ (x : Key × Cell). in_both m x.0) es) + sum_by (λ (x : Key × Cell). weight p m x.0) es
          → sum_by (λ (x : Key × Cell). cond {A = ℕ} (p x.0) 1 0) (e ∷ es) ≡ length (filter (λ (x : Key × Cell). in_both m x.0) (e ∷ es)) + sum_by (λ (x : Key × Cell). weight p m x.0) (e ∷ es)
      go b o h i rest =
          let here : cond {A = ℕ} (p e.0) 1 0 ≡ cond {A = ℕ} b 1 0 = ap (λ (t : Bool). cond {A = ℕ} t 1 0) h in
          let lacks : weight p m e.0 ≡ cond {A = ℕ} (b && is_none o) 1 0 = λ j. cond {A = ℕ} (h j && is_none (i j)) 1 0 in
          let has : length (filter (λ (x : Key × Cell). in_both m x.0) (e ∷ es)) ≡ cond {A = ℕ} (b && is_some o) 1 0 + length (filter (λ (x : Key × Cell). in_both m x.0) es) =
          ap (λ (t : Bool). length (cond {A = List (Key × Cell)} t (e ∷ filter (λ (x : Key × Cell). in_both m x.0) es) (filter (λ (x : Key × Cell). in_both m x.0) es))) (λ j. h j && is_some (i j)) ∙ one (b && is_some o) in
          by b o here lacks has rest
        where
          one : (t : Bool) → length (cond {A = List (Key × Cell)} t (e ∷ filter (λ (x : Key × Cell). in_both m x.0) es) (filter (λ (x : Key × Cell). in_both m x.0) es)) ≡ cond {A = ℕ} t 1 0 + length (filter (λ (x : Key × Cell). in_both m x.0) es)
          one true = omega arith
          one false = omega arith

          by : (b : Bool) (o : Option Cell) → cond {A = ℕ} (p e.0) 1 0 ≡ cond {A = ℕ} b 1 0 → weight p m e.0 ≡ cond {A = ℕ} (b && is_none o) 1 0
              → length (filter (λ (x : Key × Cell). in_both m x.0) (e ∷ es)) ≡ cond {A = ℕ} (b && is_some o) 1 0 + length (filter (λ (x : Key × Cell). in_both m x.0) es)
              → sum_by (λ (x : Key × Cell). cond {A = ℕ} (p x.0) 1 0) es ≡ length (filter (λ (x : Key × Cell). in_both m x.0) es) + sum_by (λ (x : Key × Cell). weight p m x.0) es
              → sum_by (λ (x : Key × Cell). cond {A = ℕ} (p x.0) 1 0) (e ∷ es) ≡ length (filter (λ (x : Key × Cell). in_both m x.0) (e ∷ es)) + sum_by (λ (x : Key × Cell). weight p m x.0) (e ∷ es)
          by true None here lacks has rest = omega (arith, here, lacks, has, rest, sum_by-cons (λ (x : Key × Cell). cond {A = ℕ} (p x.0) 1 0) e es, sum_by-cons (λ (x : Key × Cell). weight p m x.0) e es)
          by true (Some d) here lacks has rest = omega (arith, here, lacks, has, rest, sum_by-cons (λ (x : Key × Cell). cond {A = ℕ} (p x.0) 1 0) e es, sum_by-cons (λ (x : Key × Cell). weight p m x.0) e es)
          by false o here lacks has rest = omega (arith, here, lacks, has, rest, sum_by-cons (λ (x : Key × Cell). cond {A = ℕ} (p x.0) 1 0) e es, sum_by-cons (λ (x : Key × Cell). weight p m x.0) e es)

  common : (m x : Cells) → length (filter (λ (e : Key × Cell). in_both m e.0) (map.entries x)) ≡ length (filter (λ (e : Key × Cell). in_both x e.0) (map.entries m))
  common m x =
      ap (λ (es : List (Key × Cell)). length es) (sym (entries-retain_keys keys_total exact_keys x (in_both m)))
      ∙ as_many (map.retain_keys x (in_both m)) (map.retain_keys m (in_both x)) (λ q.
      ap is_some (kept (in_both m) x q) ∙ go (p q) (map.get m q) (map.get x q) ∙ sym (ap is_some (kept (in_both x) m q)))
      ∙ ap (λ (es : List (Key × Cell)). length es) (entries-retain_keys keys_total exact_keys m (in_both x))
    where
      go : (b : Bool) (o c : Option Cell) → is_some (cond (b && is_some o) c None) ≡ is_some (cond (b && is_some c) o None)
      go true None None = refl
      go true None (Some c) = refl
      go true (Some d) None = refl
      go true (Some d) (Some c) = refl
      go false o c = refl

  -- what one has and the other lacks is what they differ by
  pub differ : (m x : Cells) → count_in x + missing_in p x m ≡ count_in m + missing_in p m x
  differ m x = omega (arith, split_entries m (map.entries x), split_entries x (map.entries m), common m x, made_sum p m x, made_sum p x m)
