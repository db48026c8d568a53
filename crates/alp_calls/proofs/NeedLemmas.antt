-- the places that puts take, and the files and owners of a map that another one lacks
use Rattle.std.specs.Prelude.{cond, Bool, true, false, not, ◌&&◌, filter, sum_by, is_some, is_none, Option, None, Some}
use Rattle.std.specs.List.{list_all}
use Rattle.std.specs.Option.{option_or}
use Rattle.std.specs.FinMap as map
use Rattle.std.proofs.Common.{◌≡◌, ℕ, ◌+◌, ◌*◌, ◌≤◌, List, [], ◌∷◌, length, refl, ◌∙◌, ap, arith}
use Rattle.std.proofs.lemmas.List.Sums.{sum_by-cons}
use Rattle.alp_base.specs.declared.key.Key.{Key}
use Rattle.alp_base.specs.declared.key.Key.TheVariants.{Leader, PageOf, OwnerOf}
use Rattle.alp_base.specs.KeyLaws.{keys_total, exact_keys}
use Rattle.alp_base.specs.declared.cell.Cell.{Cell}
use Rattle.alp_files.specs.Cells.{Cells}
use Rattle.alp_files.specs.Counts.{used_of, block_of}
use Rattle.alp_files.specs.Edits.{Edit, Drop, Cut, Put, edits_map}
use Rattle.alp_files.specs.Needs.{is_put, missing_in}
use Rattle.alp_files.specs.Undo.{puts_of}
use Rattle.alp_files.proofs.HistoryLemmas.{same_cells}
use Rattle.alp_files.proofs.IntentLemmas.{kept, puts_alone}
use Rattle.alp_files.proofs.SumLemmas.{weight_at, sum-insert, sum_of-nothing}
use Rattle.alp_vault.specs.Counted.{AreCounts, places_with}
use Rattle.alp_vault.proofs.CountLemmas.{counts-same, used-new}
use Rattle.alp_trans.specs.Counting.{has_block}
use Rattle.alp_trans.proofs.ChangeLemmas.{get-laid}

-- ---- places

-- what a cell at a key takes besides
abbrev pub added : Cells → Key → ℕ
added m k = cond {A = ℕ} (map.contains_key m k) 0 (places_with m k)

pub used_put : (m : Cells) (k : Key) (c : Cell) → used_of (map.insert m k c) ≡ used_of m + added m k
used_put m k c = go (map.get m k) refl
  where
    go : (o : Option Cell) → map.get m k ≡ o → used_of (map.insert m k c) ≡ used_of m + added m k
    go None e =
        let here : added m k ≡ places_with m k = ap (λ (p : Option Cell). cond {A = ℕ} (is_some p) 0 (places_with m k)) e in
        omega (arith, used-new m k c e, here)
    go (Some d) e =
        let here : added m k ≡ 0 = ap (λ (p : Option Cell). cond {A = ℕ} (is_some p) 0 (places_with m k)) e in
        let same : used_of m ≡ used_of (map.insert m k c) = AreCounts.of_places (counts-same _ (used_of m) m k c d (record { of_files = refl; of_places = refl }) e) in
        omega (arith, same, here)

pub used_more : (es : List Edit) (m : Cells) → list_all is_put es ≡ true → used_of m ≤ used_of (edits_map es m)
used_more [] m alone = omega arith
used_more (Put k c ∷ es) m alone = omega (arith, used_more es (map.insert m k c) alone, used_put m k c)
used_more (Drop f ∷ es) m alone = cc
used_more (Cut f n ∷ es) m alone = cc

-- what is kept takes no more than all
pub used_kept : (m : Cells) (p : Key → Bool) → used_of (map.retain_keys m p) ≤ used_of m
used_kept m p =
    let all : used_of (edits_map (puts_of (map.entries (map.retain_keys m (λ k. not (p k))))) (map.retain_keys m p)) ≡ used_of m = ap used_of again in
    omega (arith, all, used_more (puts_of (map.entries (map.retain_keys m (λ k. not (p k))))) (map.retain_keys m p) (puts_alone (map.entries (map.retain_keys m (λ k. not (p k))))))
  where
    go : (b : Bool) (o : Option Cell) → option_or (cond (not b) o None) (cond b o None) ≡ o
    go true o = refl
    go false None = refl
    go false (Some c) = refl

    again : edits_map (puts_of (map.entries (map.retain_keys m (λ k. not (p k))))) (map.retain_keys m p) ≡ m
    again = same_cells (edits_map (puts_of (map.entries (map.retain_keys m (λ k. not (p k))))) (map.retain_keys m p)) m (λ j q. (
        get-laid (map.retain_keys m (λ k. not (p k))) (map.retain_keys m p) q
        ∙ (λ i. option_or (kept (λ k. not (p k)) m q i) (kept p m q i)) ∙ go (p q) (map.get m q)) j)

at_most_two : (m : Cells) (k : Key) → added m k ≤ 2
at_most_two m k = go (map.contains_key m k) (few k)
  where
    few : (q : Key) → places_with m q ≤ 2
    few (Leader f) = omega arith
    few (OwnerOf name) = omega arith
    few (PageOf f n) = by (has_block m (block_of f n))
      where
        by : (b : Bool) → cond {A = ℕ} b 1 2 ≤ 2
        by true = omega arith
        by false = omega arith

    go : (b : Bool) → places_with m k ≤ 2 → cond {A = ℕ} b 0 (places_with m k) ≤ 2
    go true h = omega arith
    go false h = h

pub few_used : (puts : List (Key × Cell)) (m : Cells) → used_of (edits_map (puts_of puts) m) ≤ used_of m + 2 * length puts
few_used [] m = omega arith
few_used (p ∷ puts) m = omega (arith, few_used puts (map.insert m p.0 p.1), used_put m p.0 p.1, at_most_two m p.0)

-- ---- files and owners

module _ (p : Key → Bool) (m : Cells) where
  abbrev pub is_made : Key × Cell → Bool
  is_made e = p e.0 && is_none (map.get m e.0)

  abbrev pub weight : Key → ℕ
  weight k = cond {A = ℕ} (p k && is_none (map.get m k)) 1 0

  abbrev pub made_in : Cells → ℕ
  made_in x = sum_by (λ (e : Key × Cell). weight e.0) (map.entries x)

  counted : (es : List (Key × Cell)) → length (filter is_made es) ≡ sum_by (λ (e : Key × Cell). weight e.0) es
  counted [] = refl
  counted (e ∷ es) = go (is_made e) refl (counted es)
    where
      go : (b : Bool) → is_made e ≡ b → length (filter is_made es) ≡ sum_by (λ (x : Key × Cell). weight x.0) es
          → length (cond {A = List (Key × Cell)} b (e ∷ filter is_made es) (filter is_made es)) ≡ sum_by (λ (x : Key × Cell). weight x.0) (e ∷ es)
      go true h i = (let here : weight e.0 ≡ 1 = ap (λ (b : Bool). cond {A = ℕ} b 1 0) h in omega (arith, i, here, sum_by-cons (λ (x : Key × Cell). weight x.0) e es))
      go false h i = (let here : weight e.0 ≡ 0 = ap (λ (b : Bool). cond {A = ℕ} b 1 0) h in omega (arith, i, here, sum_by-cons (λ (x : Key × Cell). weight x.0) e es))

  -- as a sum
  pub made_sum : (x : Cells) → missing_in p m x ≡ made_in x
  made_sum x = counted (map.entries x)

  -- nothing is lacked of a map of which all is there
  pub none_made : (x : Cells) → ((q : Key) (c : Cell) → p q ≡ true → map.get x q ≡ Some c → is_none (map.get m q) ≡ false) → made_in x ≡ 0
  none_made x there = sum_of-nothing keys_total exact_keys (λ (e : Key × Cell). weight e.0) x (λ q c is. go (p q) q c refl is)
    where
      go : (b : Bool) (q : Key) (c : Cell) → p q ≡ b → map.get x q ≡ Some c → weight q ≡ 0
      go true q c kind is = ap (λ (b : Bool). cond {A = ℕ} (b && is_none (map.get m q)) 1 0) kind ∙ ap (λ (b : Bool). cond {A = ℕ} b 1 0) (there q c kind is)
      go false q c kind is = ap (λ (b : Bool). cond {A = ℕ} (b && is_none (map.get m q)) 1 0) kind

-- a sum over keys, with one put more
pub sum_put : (w : Key → ℕ) (x : Cells) (k : Key) (c : Cell)
    → sum_by (λ (e : Key × Cell). w e.0) (map.entries (map.insert x k c)) ≡ sum_by (λ (e : Key × Cell). w e.0) (map.entries x) + cond {A = ℕ} (map.contains_key x k) 0 (w k)
sum_put w x k c = go (map.get x k) refl
  where
    go : (o : Option Cell) → map.get x k ≡ o → sum_by (λ (e : Key × Cell). w e.0) (map.entries (map.insert x k c)) ≡ sum_by (λ (e : Key × Cell). w e.0) (map.entries x) + cond {A = ℕ} (map.contains_key x k) 0 (w k)
    go None e =
        let here : cond {A = ℕ} (map.contains_key x k) 0 (w k) ≡ w k = ap (λ (p : Option Cell). cond {A = ℕ} (is_some p) 0 (w k)) e in
        let old : weight_at (λ (e : Key × Cell). w e.0) k (map.get x k) ≡ 0 = ap (weight_at (λ (e : Key × Cell). w e.0) k) e in
        omega (arith, here, old, sum-insert keys_total exact_keys (λ (e : Key × Cell). w e.0) x k c)
    go (Some d) e =
        let here : cond {A = ℕ} (map.contains_key x k) 0 (w k) ≡ 0 = ap (λ (p : Option Cell). cond {A = ℕ} (is_some p) 0 (w k)) e in
        let old : weight_at (λ (e : Key × Cell). w e.0) k (map.get x k) ≡ w k = ap (weight_at (λ (e : Key × Cell). w e.0) k) e in
        omega (arith, here, old, sum-insert keys_total exact_keys (λ (e : Key × Cell). w e.0) x k c)

one_at_most : (w : ℕ) (b : Bool) → w ≤ 1 → cond {A = ℕ} b 0 w ≤ 1
one_at_most w true h = omega arith
one_at_most w false h = h

pub few_made : (p : Key → Bool) (m : Cells) (puts : List (Key × Cell)) (x : Cells) → made_in p m (edits_map (puts_of puts) x) ≤ made_in p m x + length puts
few_made p m [] x = omega arith
few_made p m (e ∷ puts) x =
    omega (arith, few_made p m puts (map.insert x e.0 e.1), sum_put (weight p m) x e.0 e.1, one_at_most (weight p m e.0) (map.contains_key x e.0) (light (p e.0 && is_none (map.get m e.0))))
  where
    light : (b : Bool) → cond {A = ℕ} b 1 0 ≤ 1
    light true = omega arith
    light false = omega arith
