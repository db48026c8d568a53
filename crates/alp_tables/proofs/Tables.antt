-- Keys in rising order, and their values beside them: what a change of the rows makes of the map that they show, and
-- where a search ends.
use Rattle.std.specs.Prelude.{None, Some, cond, Bool, true, false, not, ◌&&◌, zip, map as list_map, Result, Ok, Err, IfOk, IfErr}
use Rattle.std.proofs.Math.Dec.{T}
use Rattle.std.specs.declared.cmp.Ordering.{Ordering}
use Rattle.std.specs.declared.cmp.Ordering.TheVariants.{Less, Equal, Greater}
use Rattle.std.specs.Ordering.{eq_by_cmp, is_eq, is_lt, ordering_index, ordering_reverse}
use Rattle.std.specs.List.{insert, remove, AllByRecursion}
use Rattle.std.specs.FinMap as map
use Rattle.std.specs.FinMap.{FinMap, entries_sorted, entries-from_sorted, entries-insert, get-entries, get-remove, len-entries, len-empty, same_entries_map, same_map, find}
use Rattle.std.specs.FinMap.Entries.{put, by_order, where_key, below_all, is_sorted-put, is_sorted-where_key, find-where_key, same_entries}
use Rattle.std.specs.List.Sorted.{IsStrictlySortedBy, IsSearchInRange, IsBinarySearchResult, IsNonDecreasingBy}
use Rattle.std.specs.Cmp.{IsTotalOrder, eq_by_cmp_equiv}
use Rattle.std.proofs.lemmas.List.{length-set}
use Rattle.std.proofs.lemmas.List.Edits.{length-insert, length-remove}
use Rattle.std.proofs.lemmas.List.Sorted.{searchable_from_sorted}
use Rattle.std.proofs.lemmas.Map.Keys.{Less-from_sorted}
use Rattle.std.proofs.Common.{◌≡◌, ℕ, zero, suc, ◌+◌, ◌<◌, ◌≤◌, List, [], ◌∷◌, length, get_or, set, refl, sym, ◌∙◌, ap, subst, arith}
use Rattle.std.proofs.lemmas.Map.Lookups.{CmpEqualImpliesEq}
use Rattle.std.proofs.lemmas.Map.Views.{tells_apart}
use Rattle.alp_base.specs.KeyLaws.{file_cmp}
use Rattle.alp_base.specs.contracts.ids.FileIdOrd.TheImpl.Laws as id_laws
use Rattle.alp_tables.specs.Tables.{rows_in, AreRows, AreBelow, IsAt, IsPlace}

is_true : (b : Bool) → T b → b ≡ true
is_true true h = refl
is_true false h = absurd h

holds : (b : Bool) → b ≡ true → T b
holds true h = tt
holds false h = cc

T-left : (a b : Bool) → T (a && b) → T a
T-left true b h = tt
T-left false b h = absurd h

T-right : (a b : Bool) → T (a && b) → T b
T-right true b h = h
T-right false b h = absurd h

T-both : (a b : Bool) → T a → T b → T (a && b)
T-both true b g h = h
T-both false b g h = absurd g

less : (o : Ordering) → T (is_lt o) → o ≡ Less
less Less h = refl
less Equal h = absurd h
less Greater h = absurd h

turned : {A : Type 0} (b : Bool) (x y : A) → cond b x y ≡ cond (not b) y x
turned true x y = refl
turned false x y = refl

module _ {K : Type 0} (R : K → K → Ordering) where
  -- what is below the item, but for the first
  later : (n m : K) (ns : List K) (i : ℕ) → AreBelow R n (m ∷ ns) (suc i) → AreBelow R n ns i
  later n m ns i h k low = h (suc k) (omega (arith, low))

  first_below : (n m : K) (ns : List K) (i : ℕ) → AreBelow R n (m ∷ ns) (suc i) → R n m ≡ Greater
  first_below n m ns i h = h zero (omega arith)

module _ {K X : Type 0} {R : K → K → Ordering} (total : IsTotalOrder R) (exact : CmpEqualImpliesEq R) where
  -- another value
  put-set : (ns : List K) (vs : List X) (n : K) (v : X) (i : ℕ) → length ns ≡ length vs → i < length ns → AreBelow R n ns i → R n (get_or ns i n) ≡ Equal → put R n v (zip ns vs) ≡ zip ns (set vs i v)
  put-set [] vs n v i pair low below here = absurd (omega (arith, low))
  put-set (m ∷ ns) [] n v i pair low below here = absurd (omega (arith, pair))
  put-set (m ∷ ns) (w ∷ vs) n v zero pair low below here = ap (λ (r : Ordering). by_order r ((n, v) ∷ (m, w) ∷ zip ns vs) ((m, v) ∷ zip ns vs) ((m, w) ∷ put R n v (zip ns vs))) here
  put-set (m ∷ ns) (w ∷ vs) n v (suc i) pair low below here =
      ap (λ (r : Ordering). by_order r ((n, v) ∷ (m, w) ∷ zip ns vs) ((m, v) ∷ zip ns vs) ((m, w) ∷ put R n v (zip ns vs))) (first_below R n m ns i below)
      ∙ ap (λ es. (m, w) ∷ es) (put-set ns vs n v i (omega (arith, pair)) (omega (arith, low)) (later R n m ns i below) here)

  -- a row more
  put-insert : (ns : List K) (vs : List X) (n : K) (v : X) (i : ℕ) → length ns ≡ length vs → i ≤ length ns → AreBelow R n ns i → (i < length ns → R n (get_or ns i n) ≡ Less) → put R n v (zip ns vs) ≡ zip (insert ns i n) (insert vs i v)
  put-insert [] vs n v zero pair low below above = refl
  put-insert [] vs n v (suc i) pair low below above = absurd (omega (arith, low))
  put-insert (m ∷ ns) [] n v i pair low below above = absurd (omega (arith, pair))
  put-insert (m ∷ ns) (w ∷ vs) n v zero pair low below above = ap (λ (r : Ordering). by_order r ((n, v) ∷ (m, w) ∷ zip ns vs) ((m, v) ∷ zip ns vs) ((m, w) ∷ put R n v (zip ns vs))) (above (omega arith))
  put-insert (m ∷ ns) (w ∷ vs) n v (suc i) pair low below above =
      ap (λ (r : Ordering). by_order r ((n, v) ∷ (m, w) ∷ zip ns vs) ((m, v) ∷ zip ns vs) ((m, w) ∷ put R n v (zip ns vs))) (first_below R n m ns i below)
      ∙ ap (λ es. (m, w) ∷ es) (put-insert ns vs n v i (omega (arith, pair)) (omega (arith, low)) (later R n m ns i below) (λ h. above (omega (arith, h))))

  -- all behind an item stay
  stay : (n : K) (es : List (K × X)) → T (below_all R n es) → where_key R (λ k. not (eq_by_cmp R n k)) es ≡ es
  stay n [] h = refl
  stay n (e ∷ es) h =
      ap (λ (r : Ordering). cond (not (is_eq r)) (e ∷ where_key R (λ k. not (eq_by_cmp R n k)) es) (where_key R (λ k. not (eq_by_cmp R n k)) es)) (less (R n e.0) (T-left (is_lt (R n e.0)) (below_all R n es) h))
      ∙ ap (λ xs. e ∷ xs) (stay n es (T-right (is_lt (R n e.0)) (below_all R n es) h))

  -- a row less
  where-remove : (ns : List K) (vs : List X) (n : K) (i : ℕ) → length ns ≡ length vs → T (map.is_sorted R (zip ns vs)) → i < length ns → AreBelow R n ns i → R n (get_or ns i n) ≡ Equal
      → where_key R (λ k. not (eq_by_cmp R n k)) (zip ns vs) ≡ zip (remove ns i) (remove vs i)
  where-remove [] vs n i pair sorted low below here = absurd (omega (arith, low))
  where-remove (m ∷ ns) [] n i pair sorted low below here = absurd (omega (arith, pair))
  where-remove (m ∷ ns) (w ∷ vs) n zero pair sorted low below here =
      ap (λ (r : Ordering). cond (not (is_eq r)) ((m, w) ∷ where_key R (λ k. not (eq_by_cmp R n k)) (zip ns vs)) (where_key R (λ k. not (eq_by_cmp R n k)) (zip ns vs))) here
      ∙ stay n (zip ns vs) (subst (λ (x : K). T (below_all R x (zip ns vs))) (sym (exact n m here)) (T-left (below_all R m (zip ns vs)) (map.is_sorted R (zip ns vs)) sorted))
  where-remove (m ∷ ns) (w ∷ vs) n (suc i) pair sorted low below here =
      ap (λ (r : Ordering). cond (not (is_eq r)) ((m, w) ∷ where_key R (λ k. not (eq_by_cmp R n k)) (zip ns vs)) (where_key R (λ k. not (eq_by_cmp R n k)) (zip ns vs))) (first_below R n m ns i below)
      ∙ ap (λ es. (m, w) ∷ es) (where-remove ns vs n i (omega (arith, pair)) (T-right (below_all R m (zip ns vs)) (map.is_sorted R (zip ns vs)) sorted) (omega (arith, low)) (later R n m ns i below) here)

  -- ---- the same of rows

  entries_in : (ns : List K) (vs : List X) → T (map.is_sorted R (zip ns vs)) → map.entries (rows_in R ns vs) ≡ zip ns vs
  entries_in ns vs h = entries-from_sorted R (zip ns vs) h

  -- rows after a change, and the map that they show
  pub record Rows (ns : List K) (vs : List X) (shown : FinMap R X) : Type 0 where
    pub rows : AreRows R ns vs
    pub shows : rows_in R ns vs ≡ shown

  put_rows : (ns : List K) (vs : List X) (ms : List K) (ws : List X) (n : K) (v : X) → AreRows R ns vs → length ms ≡ length ws → put R n v (zip ns vs) ≡ zip ms ws → Rows ms ws (map.insert (rows_in R ns vs) n v)
  put_rows ns vs ms ws n v rows pair e =
      let old : T (map.is_sorted R (zip ns vs)) = holds _ rows.rising in
      let new : T (map.is_sorted R (zip ms ws)) = subst (λ es. T (map.is_sorted R es)) e (is_sorted-put R total n v (zip ns vs) old) in
      record {
        rows = record { paired = pair; rising = is_true _ new };
        shows = same_entries_map _ _ (entries_in ms ws new ∙ sym e ∙ ap (put R n v) (sym (entries_in ns vs old)) ∙ sym (entries-insert total (rows_in R ns vs) n v));
      }

  pub set_row : (ns : List K) (vs : List X) (n : K) (v : X) (i : ℕ) → AreRows R ns vs → IsAt R n ns i → Rows ns (set vs i v) (map.insert (rows_in R ns vs) n v)
  set_row ns vs n v i rows at = put_rows ns vs ns (set vs i v) n v rows (rows.paired ∙ sym (length-set vs i v)) (put-set ns vs n v i rows.paired at.within at.below at.here)

  pub insert_row : (ns : List K) (vs : List X) (n : K) (v : X) (i : ℕ) → AreRows R ns vs → IsPlace R n ns i → Rows (insert ns i n) (insert vs i v) (map.insert (rows_in R ns vs) n v)
  insert_row ns vs n v i rows at = put_rows ns vs (insert ns i n) (insert vs i v) n v rows
      (length-insert ns i n at.within ∙ ap (λ k. k + 1) rows.paired ∙ sym (length-insert vs i v (omega (arith, at.within, rows.paired)))) (put-insert ns vs n v i rows.paired at.within at.below at.above)

  -- the entries of a map without a key
  pub entries-remove : (m : FinMap R X) (n : K) → map.entries (map.remove m n) ≡ where_key R (λ k. not (eq_by_cmp R n k)) (map.entries m)
  entries-remove m n =
      let p : K → Bool = λ k. not (eq_by_cmp R n k) in
      let alike : (q x : K) → R q x ≡ Equal → p x ≡ p q = λ q x e. ap p (sym (exact q x e)) in
      same_entries R total exact _ _ (entries_sorted (map.remove m n)) (is_sorted-where_key R p (map.entries m) (entries_sorted m)) (λ q.
      sym (get-entries (map.remove m n) q)
      ∙ get-remove total m n q
      ∙ turned (eq_by_cmp R q n) None (map.get m q)
      ∙ ap (λ (b : Bool). cond (not b) (map.get m q) None) ((eq_by_cmp_equiv total).symm q n)
      ∙ ap (λ x. cond (p q) x None) (get-entries m q)
      ∙ sym (find-where_key R p q (alike q) (map.entries m)))

  pub remove_row : (ns : List K) (vs : List X) (n : K) (i : ℕ) → AreRows R ns vs → IsAt R n ns i → Rows (remove ns i) (remove vs i) (map.remove (rows_in R ns vs) n)
  remove_row ns vs n i rows at =
      let old : T (map.is_sorted R (zip ns vs)) = holds _ rows.rising in
      let e = where-remove ns vs n i rows.paired old at.within at.below at.here in
      let new : T (map.is_sorted R (zip (remove ns i) (remove vs i))) = subst (λ es. T (map.is_sorted R es)) e (is_sorted-where_key R (λ k. not (eq_by_cmp R n k)) (zip ns vs) old) in
      let pair : length (remove ns i) ≡ length (remove vs i) = omega (arith, rows.paired, length-remove ns i at.within, length-remove vs i (subst (λ (k : ℕ). i < k) rows.paired at.within)) in
      record {
        rows = record { paired = pair; rising = is_true _ new };
        shows = same_entries_map _ _ (entries_in _ _ new ∙ sym e ∙ ap (where_key R (λ k. not (eq_by_cmp R n k))) (sym (entries_in ns vs old)) ∙ sym (entries-remove (rows_in R ns vs) n));
      }

  -- ---- a look at the rows

  keys_of_zip : (ns : List K) (vs : List X) → length ns ≡ length vs → list_map (λ (e : K × X). e.0) (zip ns vs) ≡ ns
  keys_of_zip [] vs h = refl
  keys_of_zip (n ∷ ns) [] h = absurd (omega (arith, h))
  keys_of_zip (n ∷ ns) (v ∷ vs) h = ap (λ xs. n ∷ xs) (keys_of_zip ns vs (omega (arith, h)))

  pub keys_shown : (ns : List K) (vs : List X) → AreRows R ns vs → ns ≡ map.keys (rows_in R ns vs)
  keys_shown ns vs rows = sym (keys_of_zip ns vs rows.paired) ∙ ap (list_map (λ (e : K × X). e.0)) (sym (entries_in ns vs (holds _ rows.rising)))

  values_of_zip : (ns : List K) (vs : List X) → length ns ≡ length vs → list_map (λ (e : K × X). e.1) (zip ns vs) ≡ vs
  values_of_zip [] [] h = refl
  values_of_zip [] (v ∷ vs) h = absurd (omega (arith, h))
  values_of_zip (n ∷ ns) [] h = absurd (omega (arith, h))
  values_of_zip (n ∷ ns) (v ∷ vs) h = ap (λ xs. v ∷ xs) (values_of_zip ns vs (omega (arith, h)))

  pub values_shown : (ns : List K) (vs : List X) → AreRows R ns vs → vs ≡ map.values (rows_in R ns vs)
  values_shown ns vs rows = sym (values_of_zip ns vs rows.paired) ∙ ap (list_map (λ (e : K × X). e.1)) (sym (entries_in ns vs (holds _ rows.rising)))

  length-zip : (ns : List K) (vs : List X) → length ns ≡ length vs → length (zip ns vs) ≡ length ns
  length-zip [] vs h = refl
  length-zip (n ∷ ns) [] h = absurd (omega (arith, h))
  length-zip (n ∷ ns) (v ∷ vs) h = ap suc (length-zip ns vs (omega (arith, h)))

  pub len_shown : (ns : List K) (vs : List X) → AreRows R ns vs → length ns ≡ map.len (rows_in R ns vs)
  len_shown ns vs rows = sym (len-entries (rows_in R ns vs) ∙ ap length (entries_in ns vs (holds _ rows.rising)) ∙ length-zip ns vs rows.paired)

  -- the keys alone rise
  all_above : (n : K) (ns : List K) (vs : List X) → length ns ≡ length vs → T (below_all R n (zip ns vs)) → AllByRecursion (λ (m : K). R n m ≡ Less) ns
  all_above n [] vs pair h = tt
  all_above n (m ∷ ns) [] pair h = absurd (omega (arith, pair))
  all_above n (m ∷ ns) (w ∷ vs) pair h = (
    less (R n m) (T-left (is_lt (R n m)) (below_all R n (zip ns vs)) h),
    all_above n ns vs (omega (arith, pair)) (T-right (is_lt (R n m)) (below_all R n (zip ns vs)) h),
  )

  keys_rise_from : (ns : List K) (vs : List X) → length ns ≡ length vs → T (map.is_sorted R (zip ns vs)) → IsStrictlySortedBy R ns
  unfolding IsStrictlySortedBy
  keys_rise_from [] vs pair h = tt
  keys_rise_from (n ∷ ns) [] pair h = absurd (omega (arith, pair))
  keys_rise_from (n ∷ ns) (v ∷ vs) pair h = (
    all_above n ns vs (omega (arith, pair)) (T-left (below_all R n (zip ns vs)) (map.is_sorted R (zip ns vs)) h),
    keys_rise_from ns vs (omega (arith, pair)) (T-right (below_all R n (zip ns vs)) (map.is_sorted R (zip ns vs)) h),
  )

  pub keys_rise : (ns : List K) (vs : List X) → AreRows R ns vs → IsStrictlySortedBy R ns
  keys_rise ns vs rows = keys_rise_from ns vs rows.paired (holds _ rows.rising)

  -- ---- no rows

  nothing : (es : List (K × X)) → length es ≡ 0 → es ≡ []
  nothing [] h = refl
  nothing (e ∷ es) h = absurd (omega (arith, h))

  pub entries-empty : map.entries (map.empty {X = X} {R = R}) ≡ []
  entries-empty = nothing _ (sym (len-entries map.empty) ∙ len-empty R X)

  pub none_shown : rows_in {X = X} R [] [] ≡ map.empty
  none_shown = same_entries_map _ _ (entries_in [] [] tt ∙ sym entries-empty)

  -- ---- a search

  found : (ns : List K) (vs : List X) (n : K) (d : X) (i : ℕ) → length ns ≡ length vs → i < length ns → AreBelow R n ns i → R n (get_or ns i n) ≡ Equal → find R n (zip ns vs) ≡ Some (get_or vs i d)
  found [] vs n d i pair low below here = absurd (omega (arith, low))
  found (m ∷ ns) [] n d i pair low below here = absurd (omega (arith, pair))
  found (m ∷ ns) (w ∷ vs) n d zero pair low below here = ap (λ (r : Ordering). cond (is_eq r) (Some w) (find R n (zip ns vs))) here
  found (m ∷ ns) (w ∷ vs) n d (suc i) pair low below here =
      ap (λ (r : Ordering). cond (is_eq r) (Some w) (find R n (zip ns vs))) (first_below R n m ns i below)
      ∙ found ns vs n d i (omega (arith, pair)) (omega (arith, low)) (later R n m ns i below) here

  pub value_there : (ns : List K) (vs : List X) (n : K) (d : X) (i : ℕ) → AreRows R ns vs → IsAt R n ns i → Some (get_or vs i d) ≡ map.get (rows_in R ns vs) n
  value_there ns vs n d i rows at =
      sym (get-entries (rows_in R ns vs) n ∙ ap (find R n) (entries_in ns vs (holds _ rows.rising)) ∙ found ns vs n d i rows.paired at.within at.below at.here)

  none_above : (n : K) (es : List (K × X)) → T (below_all R n es) → find R n es ≡ None
  none_above n [] h = refl
  none_above n (e ∷ es) h =
      ap (λ (r : Ordering). cond (is_eq r) (Some e.1) (find R n es)) (less (R n e.0) (T-left (is_lt (R n e.0)) (below_all R n es) h))
      ∙ none_above n es (T-right (is_lt (R n e.0)) (below_all R n es) h)

  below_more : (x y : K) (es : List (K × X)) → R x y ≡ Less → T (below_all R y es) → T (below_all R x es)
  below_more x y [] p h = tt
  below_more x y (e ∷ es) p h =
      T-both (is_lt (R x e.0)) (below_all R x es)
      (subst (λ (r : Ordering). T (is_lt r)) (sym (total.trans x y e.0 p (less (R y e.0) (T-left (is_lt (R y e.0)) (below_all R y es) h)))) tt) (below_more x y es p (T-right (is_lt (R y e.0)) (below_all R y es) h))

  missed : (ns : List K) (vs : List X) (n : K) (i : ℕ) → length ns ≡ length vs → T (map.is_sorted R (zip ns vs)) → i ≤ length ns → AreBelow R n ns i → (i < length ns → R n (get_or ns i n) ≡ Less) → find R n (zip ns vs) ≡ None
  missed [] vs n i pair sorted low below above = refl
  missed (m ∷ ns) [] n i pair sorted low below above = absurd (omega (arith, pair))
  missed (m ∷ ns) (w ∷ vs) n zero pair sorted low below above =
      ap (λ (r : Ordering). cond (is_eq r) (Some w) (find R n (zip ns vs))) (above (omega arith))
      ∙ none_above n (zip ns vs) (below_more n m (zip ns vs) (above (omega arith)) (T-left (below_all R m (zip ns vs)) (map.is_sorted R (zip ns vs)) sorted))
  missed (m ∷ ns) (w ∷ vs) n (suc i) pair sorted low below above =
      ap (λ (r : Ordering). cond (is_eq r) (Some w) (find R n (zip ns vs))) (first_below R n m ns i below)
      ∙ missed ns vs n i (omega (arith, pair)) (T-right (below_all R m (zip ns vs)) (map.is_sorted R (zip ns vs)) sorted) (omega (arith, low)) (later R n m ns i below) (λ h. above (omega (arith, h)))

  pub no_value : (ns : List K) (vs : List X) (n : K) (i : ℕ) → AreRows R ns vs → IsPlace R n ns i → None ≡ map.get (rows_in R ns vs) n
  no_value ns vs n i rows at =
      sym (get-entries (rows_in R ns vs) n ∙ ap (find R n) (entries_in ns vs (holds _ rows.rising)) ∙ missed ns vs n i rows.paired (holds _ rows.rising) at.within at.below at.above)

  -- a key that does not stand does not go
  pub nothing_goes : (ns : List K) (vs : List X) (n : K) (i : ℕ) → AreRows R ns vs → IsPlace R n ns i → rows_in R ns vs ≡ map.remove (rows_in R ns vs) n
  nothing_goes ns vs n i rows at = same_map total exact _ _ (λ q. go q (eq_by_cmp R q n) refl ∙ sym (get-remove total (rows_in R ns vs) n q))
    where
      go : (q : K) (t : Bool) → eq_by_cmp R q n ≡ t → map.get (rows_in R ns vs) q ≡ cond t None (map.get (rows_in R ns vs) q)
      go q true e = ap (map.get (rows_in R ns vs)) (tells_apart exact q n e) ∙ sym (no_value ns vs n i rows at)
      go q false e = refl

-- ---- where a search ends

module _ {K : Type 0} {R : K → K → Ordering} (total : IsTotalOrder R) (exact : CmpEqualImpliesEq R) where
  -- an order seen from the other side
  reversed : (a b : K) (o : Ordering) → R b a ≡ o → R a b ≡ ordering_reverse o
  reversed a b o is = total.antisymm a b ∙ ap ordering_reverse is

  -- the comparisons with a name rise along the names
  comparisons_rise : (name : K) (names : List K) → IsStrictlySortedBy R names → IsNonDecreasingBy (λ y. ordering_index (R y name)) names
  comparisons_rise name names up = searchable_from_sorted total (λ y. y) names name
      (λ k d low high. ap is_lt (reversed (get_or names (k + 1) d) (get_or names k d) Less (Less-from_sorted R names k (k + 1) d up (omega arith) high)))

  pub searched : (name : K) (names : List K) (r : Result ℕ ℕ) → IsStrictlySortedBy R names → IsSearchInRange r (length names) → IsBinarySearchResult (λ y. R y name) names r → IfOk r (IsAt R name names) × IfErr r (IsPlace R name names)
  searched name names (Ok i) up inside is = (
    record {
      within = inside;
      below = λ j low. reversed name (get_or names j name) Less (ap (R (get_or names j name)) (sym here) ∙ Less-from_sorted R names j i name up low inside);
      here = reversed name (get_or names i name) Equal (is name);
    },
    tt,
  )
    where
      here : get_or names i name ≡ name
      here = exact (get_or names i name) name (is name)
  searched name names (Err i) up inside is =
      let parts = is (comparisons_rise name names up) in (
        tt,
        record {
          within = inside;
          below = λ j low. reversed name (get_or names j name) Less (parts.0 j name (omega arith) low);
          above = λ low. reversed name (get_or names i name) Greater (parts.1 i name (omega arith) low);
        },
      )

-- ---- the two orders

pub files_total : IsTotalOrder file_cmp
files_total = id_laws.total-law
