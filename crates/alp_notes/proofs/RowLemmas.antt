-- Names in rising order, and their values beside them: what a change of the rows makes of the map that they show.
use Rattle.std.specs.Prelude.{None, Some, cond, Bool, true, false, not, ◌&&◌, zip, map as list_map}
use Rattle.std.proofs.Math.Dec.{T}
use Rattle.std.specs.declared.cmp.Ordering.{Ordering}
use Rattle.std.specs.declared.cmp.Ordering.TheVariants.{Less, Equal, Greater}
use Rattle.std.specs.Ordering.{eq_by_cmp, is_eq, is_lt}
use Rattle.std.specs.List.{insert, remove}
use Rattle.std.specs.FinMap as map
use Rattle.std.specs.FinMap.{entries_sorted, entries-from_sorted, entries-insert, get-entries, get-remove, len-entries, len-empty, same_entries_map, same_map, find}
use Rattle.std.specs.FinMap.Entries.{put, by_order, where_key, below_all, is_sorted-put, is_sorted-where_key, find-where_key, same_entries}
use Rattle.std.specs.List.{AllByRecursion}
use Rattle.std.specs.List.Sorted.{IsStrictlySortedBy}
use Rattle.std.specs.Cmp.{eq_by_cmp_equiv}
use Rattle.std.specs.Cmp.Lexicographic.{nat_list_cmp_total}
use Rattle.std.proofs.lemmas.List.{length-set}
use Rattle.std.proofs.lemmas.List.Edits.{length-insert, length-remove}
use Rattle.std.proofs.Common.{◌≡◌, ℕ, zero, suc, ◌+◌, ◌<◌, ◌≤◌, List, [], ◌∷◌, length, get_or, set, refl, sym, ◌∙◌, ap, subst, arith}
use Rattle.std.proofs.lemmas.Map.Lookups.{exact_bytes}
use Rattle.std.proofs.lemmas.Map.Views.{tells_apart}
use Rattle.alp_base.specs.Notes.{Notes, text_cmp}
use Rattle.alp_notes.specs.Rows.{notes_in, AreRows, AreBelow, IsAt, IsPlace}

abbrev Text : Type 0
Text = List ℕ

is_true : (b : Bool) → T b → b ≡ true
is_true true h = refl
is_true false h = absurd h

holds : (b : Bool) → b ≡ true → T b
holds true h = tt
holds false h = cc

T-left : (a b : Bool) → T (a && b) → T a
T-left true b h = tt
T-left false b h = absurd h

T-right : (a b : Bool) → T (a && b) → T b
T-right true b h = h
T-right false b h = absurd h

T-both : (a b : Bool) → T a → T b → T (a && b)
T-both true b g h = h
T-both false b g h = absurd g

less : (o : Ordering) → T (is_lt o) → o ≡ Less
less Less h = refl
less Equal h = absurd h
less Greater h = absurd h

-- what is below the item, but for the first
later : (n m : Text) (ns : List Text) (i : ℕ) → AreBelow n (m ∷ ns) (suc i) → AreBelow n ns i
later n m ns i h k low = h (suc k) (omega (arith, low))

first_below : (n m : Text) (ns : List Text) (i : ℕ) → AreBelow n (m ∷ ns) (suc i) → text_cmp n m ≡ Greater
first_below n m ns i h = h zero (omega arith)

-- another value
put-set : (ns vs : List Text) (n v : Text) (i : ℕ) → length ns ≡ length vs → i < length ns → AreBelow n ns i → text_cmp n (get_or ns i n) ≡ Equal → put text_cmp n v (zip ns vs) ≡ zip ns (set vs i v)
put-set [] vs n v i pair low below here = absurd (omega (arith, low))
put-set (m ∷ ns) [] n v i pair low below here = absurd (omega (arith, pair))
put-set (m ∷ ns) (w ∷ vs) n v zero pair low below here = ap (λ (r : Ordering). by_order r ((n, v) ∷ (m, w) ∷ zip ns vs) ((m, v) ∷ zip ns vs) ((m, w) ∷ put text_cmp n v (zip ns vs))) here
put-set (m ∷ ns) (w ∷ vs) n v (suc i) pair low below here =
    ap (λ (r : Ordering). by_order r ((n, v) ∷ (m, w) ∷ zip ns vs) ((m, v) ∷ zip ns vs) ((m, w) ∷ put text_cmp n v (zip ns vs))) (first_below n m ns i below)
    ∙ ap (λ es. (m, w) ∷ es) (put-set ns vs n v i (omega (arith, pair)) (omega (arith, low)) (later n m ns i below) here)

-- a note more
put-insert : (ns vs : List Text) (n v : Text) (i : ℕ) → length ns ≡ length vs → i ≤ length ns → AreBelow n ns i → (i < length ns → text_cmp n (get_or ns i n) ≡ Less) → put text_cmp n v (zip ns vs) ≡ zip (insert ns i n) (insert vs i v)
put-insert [] vs n v zero pair low below above = refl
put-insert [] vs n v (suc i) pair low below above = absurd (omega (arith, low))
put-insert (m ∷ ns) [] n v i pair low below above = absurd (omega (arith, pair))
put-insert (m ∷ ns) (w ∷ vs) n v zero pair low below above = ap (λ (r : Ordering). by_order r ((n, v) ∷ (m, w) ∷ zip ns vs) ((m, v) ∷ zip ns vs) ((m, w) ∷ put text_cmp n v (zip ns vs))) (above (omega arith))
put-insert (m ∷ ns) (w ∷ vs) n v (suc i) pair low below above =
    ap (λ (r : Ordering). by_order r ((n, v) ∷ (m, w) ∷ zip ns vs) ((m, v) ∷ zip ns vs) ((m, w) ∷ put text_cmp n v (zip ns vs))) (first_below n m ns i below)
    ∙ ap (λ es. (m, w) ∷ es) (put-insert ns vs n v i (omega (arith, pair)) (omega (arith, low)) (later n m ns i below) (λ h. above (omega (arith, h))))

-- all behind an item stay
stay : (n : Text) (es : List (Text × Text)) → T (below_all text_cmp n es) → where_key text_cmp (λ k. not (eq_by_cmp text_cmp n k)) es ≡ es
stay n [] h = refl
stay n (e ∷ es) h =
    ap (λ (r : Ordering). cond (not (is_eq r)) (e ∷ where_key text_cmp (λ k. not (eq_by_cmp text_cmp n k)) es) (where_key text_cmp (λ k. not (eq_by_cmp text_cmp n k)) es)) (less (text_cmp n e.0) (T-left (is_lt (text_cmp n e.0)) (below_all text_cmp n es) h))
    ∙ ap (λ xs. e ∷ xs) (stay n es (T-right (is_lt (text_cmp n e.0)) (below_all text_cmp n es) h))

-- a note less
where-remove : (ns vs : List Text) (n : Text) (i : ℕ) → length ns ≡ length vs → T (map.is_sorted text_cmp (zip ns vs)) → i < length ns → AreBelow n ns i → text_cmp n (get_or ns i n) ≡ Equal
    → where_key text_cmp (λ k. not (eq_by_cmp text_cmp n k)) (zip ns vs) ≡ zip (remove ns i) (remove vs i)
where-remove [] vs n i pair sorted low below here = absurd (omega (arith, low))
where-remove (m ∷ ns) [] n i pair sorted low below here = absurd (omega (arith, pair))
where-remove (m ∷ ns) (w ∷ vs) n zero pair sorted low below here =
    ap (λ (r : Ordering). cond (not (is_eq r)) ((m, w) ∷ where_key text_cmp (λ k. not (eq_by_cmp text_cmp n k)) (zip ns vs)) (where_key text_cmp (λ k. not (eq_by_cmp text_cmp n k)) (zip ns vs))) here
    ∙ stay n (zip ns vs) (subst (λ (x : Text). T (below_all text_cmp x (zip ns vs))) (sym (exact_bytes n m here)) (T-left (below_all text_cmp m (zip ns vs)) (map.is_sorted text_cmp (zip ns vs)) sorted))
where-remove (m ∷ ns) (w ∷ vs) n (suc i) pair sorted low below here =
    ap (λ (r : Ordering). cond (not (is_eq r)) ((m, w) ∷ where_key text_cmp (λ k. not (eq_by_cmp text_cmp n k)) (zip ns vs)) (where_key text_cmp (λ k. not (eq_by_cmp text_cmp n k)) (zip ns vs))) (first_below n m ns i below)
    ∙ ap (λ es. (m, w) ∷ es) (where-remove ns vs n i (omega (arith, pair)) (T-right (below_all text_cmp m (zip ns vs)) (map.is_sorted text_cmp (zip ns vs)) sorted) (omega (arith, low)) (later n m ns i below) here)

-- ---- the same of rows

entries_in : (ns vs : List Text) → T (map.is_sorted text_cmp (zip ns vs)) → map.entries (notes_in ns vs) ≡ zip ns vs
entries_in ns vs h = entries-from_sorted text_cmp (zip ns vs) h

-- rows after a change, and the notes that they show
pub record Rows (ns vs : List Text) (notes : Notes) : Type 0 where
  pub rows : AreRows ns vs
  pub shows : notes_in ns vs ≡ notes

put_rows : (ns vs ms ws : List Text) (n v : Text) → AreRows ns vs → length ms ≡ length ws → put text_cmp n v (zip ns vs) ≡ zip ms ws → Rows ms ws (map.insert (notes_in ns vs) n v)
put_rows ns vs ms ws n v rows pair e =
    let old : T (map.is_sorted text_cmp (zip ns vs)) = holds _ rows.rising in
    let new : T (map.is_sorted text_cmp (zip ms ws)) = subst (λ es. T (map.is_sorted text_cmp es)) e (is_sorted-put text_cmp nat_list_cmp_total n v (zip ns vs) old) in
    record {
      rows = record { paired = pair; rising = is_true _ new };
      shows = same_entries_map _ _ (entries_in ms ws new ∙ sym e ∙ ap (put text_cmp n v) (sym (entries_in ns vs old)) ∙ sym (entries-insert nat_list_cmp_total (notes_in ns vs) n v));
    }

pub set_row : (ns vs : List Text) (n v : Text) (i : ℕ) → AreRows ns vs → IsAt n ns i → Rows ns (set vs i v) (map.insert (notes_in ns vs) n v)
set_row ns vs n v i rows at = put_rows ns vs ns (set vs i v) n v rows (rows.paired ∙ sym (length-set vs i v)) (put-set ns vs n v i rows.paired at.within at.below at.here)

pub insert_row : (ns vs : List Text) (n v : Text) (i : ℕ) → AreRows ns vs → IsPlace n ns i → Rows (insert ns i n) (insert vs i v) (map.insert (notes_in ns vs) n v)
insert_row ns vs n v i rows at = put_rows ns vs (insert ns i n) (insert vs i v) n v rows
    (length-insert ns i n at.within ∙ ap (λ k. k + 1) rows.paired ∙ sym (length-insert vs i v (omega (arith, at.within, rows.paired)))) (put-insert ns vs n v i rows.paired at.within at.below at.above)

turned : {A : Type 0} (b : Bool) (x y : A) → cond b x y ≡ cond (not b) y x
turned true x y = refl
turned false x y = refl

-- the entries of a map without a name
pub entries-remove : (m : Notes) (n : Text) → map.entries (map.remove m n) ≡ where_key text_cmp (λ k. not (eq_by_cmp text_cmp n k)) (map.entries m)
entries-remove m n =
    let p : Text → Bool = λ k. not (eq_by_cmp text_cmp n k) in
    let alike : (q x : Text) → text_cmp q x ≡ Equal → p x ≡ p q = λ q x e. ap p (sym (exact_bytes q x e)) in
    same_entries text_cmp nat_list_cmp_total exact_bytes _ _ (entries_sorted (map.remove m n)) (is_sorted-where_key text_cmp p (map.entries m) (entries_sorted m)) (λ q.
    sym (get-entries (map.remove m n) q)
    ∙ get-remove nat_list_cmp_total m n q
    ∙ turned (eq_by_cmp text_cmp q n) None (map.get m q)
    ∙ ap (λ (b : Bool). cond (not b) (map.get m q) None) ((eq_by_cmp_equiv nat_list_cmp_total).symm q n)
    ∙ ap (λ x. cond (p q) x None) (get-entries m q)
    ∙ sym (find-where_key text_cmp p q (alike q) (map.entries m)))

pub remove_row : (ns vs : List Text) (n : Text) (i : ℕ) → AreRows ns vs → IsAt n ns i → Rows (remove ns i) (remove vs i) (map.remove (notes_in ns vs) n)
remove_row ns vs n i rows at =
    let old : T (map.is_sorted text_cmp (zip ns vs)) = holds _ rows.rising in
    let e = where-remove ns vs n i rows.paired old at.within at.below at.here in
    let new : T (map.is_sorted text_cmp (zip (remove ns i) (remove vs i))) = subst (λ es. T (map.is_sorted text_cmp es)) e (is_sorted-where_key text_cmp (λ k. not (eq_by_cmp text_cmp n k)) (zip ns vs) old) in
    let pair : length (remove ns i) ≡ length (remove vs i) = omega (arith, rows.paired, length-remove ns i at.within, length-remove vs i (subst (λ (k : ℕ). i < k) rows.paired at.within)) in
    record {
      rows = record { paired = pair; rising = is_true _ new };
      shows = same_entries_map _ _ (entries_in _ _ new ∙ sym e ∙ ap (where_key text_cmp (λ k. not (eq_by_cmp text_cmp n k))) (sym (entries_in ns vs old)) ∙ sym (entries-remove (notes_in ns vs) n));
    }

-- ---- a look at the rows

names_of_zip : (ns vs : List Text) → length ns ≡ length vs → list_map (λ (e : Text × Text). e.0) (zip ns vs) ≡ ns
names_of_zip [] vs h = refl
names_of_zip (n ∷ ns) [] h = absurd (omega (arith, h))
names_of_zip (n ∷ ns) (v ∷ vs) h = ap (λ xs. n ∷ xs) (names_of_zip ns vs (omega (arith, h)))

pub names_shown : (ns vs : List Text) → AreRows ns vs → ns ≡ map.keys (notes_in ns vs)
names_shown ns vs rows = sym (names_of_zip ns vs rows.paired) ∙ ap (list_map (λ (e : Text × Text). e.0)) (sym (entries_in ns vs (holds _ rows.rising)))

values_of_zip : (ns vs : List Text) → length ns ≡ length vs → list_map (λ (e : Text × Text). e.1) (zip ns vs) ≡ vs
values_of_zip [] [] h = refl
values_of_zip [] (v ∷ vs) h = absurd (omega (arith, h))
values_of_zip (n ∷ ns) [] h = absurd (omega (arith, h))
values_of_zip (n ∷ ns) (v ∷ vs) h = ap (λ xs. v ∷ xs) (values_of_zip ns vs (omega (arith, h)))

pub values_shown : (ns vs : List Text) → AreRows ns vs → vs ≡ map.values (notes_in ns vs)
values_shown ns vs rows = sym (values_of_zip ns vs rows.paired) ∙ ap (list_map (λ (e : Text × Text). e.1)) (sym (entries_in ns vs (holds _ rows.rising)))

length-zip : (ns vs : List Text) → length ns ≡ length vs → length (zip ns vs) ≡ length ns
length-zip [] vs h = refl
length-zip (n ∷ ns) [] h = absurd (omega (arith, h))
length-zip (n ∷ ns) (v ∷ vs) h = ap suc (length-zip ns vs (omega (arith, h)))

pub len_shown : (ns vs : List Text) → AreRows ns vs → length ns ≡ map.len (notes_in ns vs)
len_shown ns vs rows = sym (len-entries (notes_in ns vs) ∙ ap length (entries_in ns vs (holds _ rows.rising)) ∙ length-zip ns vs rows.paired)

-- the names alone rise
all_above : (n : Text) (ns vs : List Text) → length ns ≡ length vs → T (below_all text_cmp n (zip ns vs)) → AllByRecursion (λ (m : Text). text_cmp n m ≡ Less) ns
all_above n [] vs pair h = tt
all_above n (m ∷ ns) [] pair h = absurd (omega (arith, pair))
all_above n (m ∷ ns) (w ∷ vs) pair h = (
  less (text_cmp n m) (T-left (is_lt (text_cmp n m)) (below_all text_cmp n (zip ns vs)) h),
  all_above n ns vs (omega (arith, pair)) (T-right (is_lt (text_cmp n m)) (below_all text_cmp n (zip ns vs)) h),
)

names_rise_from : (ns vs : List Text) → length ns ≡ length vs → T (map.is_sorted text_cmp (zip ns vs)) → IsStrictlySortedBy text_cmp ns
unfolding IsStrictlySortedBy
names_rise_from [] vs pair h = tt
names_rise_from (n ∷ ns) [] pair h = absurd (omega (arith, pair))
names_rise_from (n ∷ ns) (v ∷ vs) pair h = (
  all_above n ns vs (omega (arith, pair)) (T-left (below_all text_cmp n (zip ns vs)) (map.is_sorted text_cmp (zip ns vs)) h),
  names_rise_from ns vs (omega (arith, pair)) (T-right (below_all text_cmp n (zip ns vs)) (map.is_sorted text_cmp (zip ns vs)) h),
)

pub names_rise : (ns vs : List Text) → AreRows ns vs → IsStrictlySortedBy text_cmp ns
names_rise ns vs rows = names_rise_from ns vs rows.paired (holds _ rows.rising)

-- ---- no notes

nothing : (es : List (Text × Text)) → length es ≡ 0 → es ≡ []
nothing [] h = refl
nothing (e ∷ es) h = absurd (omega (arith, h))

pub entries-empty : map.entries (map.empty {X = Text} {R = text_cmp}) ≡ []
entries-empty = nothing _ (sym (len-entries map.empty) ∙ len-empty text_cmp Text)

pub none_shown : notes_in [] [] ≡ map.empty
none_shown = same_entries_map _ _ (entries_in [] [] tt ∙ sym entries-empty)

-- ---- a search

found : (ns vs : List Text) (n d : Text) (i : ℕ) → length ns ≡ length vs → i < length ns → AreBelow n ns i → text_cmp n (get_or ns i n) ≡ Equal → find text_cmp n (zip ns vs) ≡ Some (get_or vs i d)
found [] vs n d i pair low below here = absurd (omega (arith, low))
found (m ∷ ns) [] n d i pair low below here = absurd (omega (arith, pair))
found (m ∷ ns) (w ∷ vs) n d zero pair low below here = ap (λ (r : Ordering). cond (is_eq r) (Some w) (find text_cmp n (zip ns vs))) here
found (m ∷ ns) (w ∷ vs) n d (suc i) pair low below here =
    ap (λ (r : Ordering). cond (is_eq r) (Some w) (find text_cmp n (zip ns vs))) (first_below n m ns i below)
    ∙ found ns vs n d i (omega (arith, pair)) (omega (arith, low)) (later n m ns i below) here

pub note_there : (ns vs : List Text) (n d : Text) (i : ℕ) → AreRows ns vs → IsAt n ns i → Some (get_or vs i d) ≡ map.get (notes_in ns vs) n
note_there ns vs n d i rows at =
    sym (get-entries (notes_in ns vs) n ∙ ap (find text_cmp n) (entries_in ns vs (holds _ rows.rising)) ∙ found ns vs n d i rows.paired at.within at.below at.here)

none_above : (n : Text) (es : List (Text × Text)) → T (below_all text_cmp n es) → find text_cmp n es ≡ None
none_above n [] h = refl
none_above n (e ∷ es) h =
    ap (λ (r : Ordering). cond (is_eq r) (Some e.1) (find text_cmp n es)) (less (text_cmp n e.0) (T-left (is_lt (text_cmp n e.0)) (below_all text_cmp n es) h))
    ∙ none_above n es (T-right (is_lt (text_cmp n e.0)) (below_all text_cmp n es) h)

below_more : (x y : Text) (es : List (Text × Text)) → text_cmp x y ≡ Less → T (below_all text_cmp y es) → T (below_all text_cmp x es)
below_more x y [] p h = tt
below_more x y (e ∷ es) p h =
    T-both (is_lt (text_cmp x e.0)) (below_all text_cmp x es)
    (subst (λ (r : Ordering). T (is_lt r)) (sym (nat_list_cmp_total.trans x y e.0 p (less (text_cmp y e.0) (T-left (is_lt (text_cmp y e.0)) (below_all text_cmp y es) h)))) tt) (below_more x y es p (T-right (is_lt (text_cmp y e.0)) (below_all text_cmp y es) h))

missed : (ns vs : List Text) (n : Text) (i : ℕ) → length ns ≡ length vs → T (map.is_sorted text_cmp (zip ns vs)) → i ≤ length ns → AreBelow n ns i → (i < length ns → text_cmp n (get_or ns i n) ≡ Less) → find text_cmp n (zip ns vs) ≡ None
missed [] vs n i pair sorted low below above = refl
missed (m ∷ ns) [] n i pair sorted low below above = absurd (omega (arith, pair))
missed (m ∷ ns) (w ∷ vs) n zero pair sorted low below above =
    ap (λ (r : Ordering). cond (is_eq r) (Some w) (find text_cmp n (zip ns vs))) (above (omega arith))
    ∙ none_above n (zip ns vs) (below_more n m (zip ns vs) (above (omega arith)) (T-left (below_all text_cmp m (zip ns vs)) (map.is_sorted text_cmp (zip ns vs)) sorted))
missed (m ∷ ns) (w ∷ vs) n (suc i) pair sorted low below above =
    ap (λ (r : Ordering). cond (is_eq r) (Some w) (find text_cmp n (zip ns vs))) (first_below n m ns i below)
    ∙ missed ns vs n i (omega (arith, pair)) (T-right (below_all text_cmp m (zip ns vs)) (map.is_sorted text_cmp (zip ns vs)) sorted) (omega (arith, low)) (later n m ns i below) (λ h. above (omega (arith, h)))

pub no_note : (ns vs : List Text) (n : Text) (i : ℕ) → AreRows ns vs → IsPlace n ns i → None ≡ map.get (notes_in ns vs) n
no_note ns vs n i rows at =
    sym (get-entries (notes_in ns vs) n ∙ ap (find text_cmp n) (entries_in ns vs (holds _ rows.rising)) ∙ missed ns vs n i rows.paired (holds _ rows.rising) at.within at.below at.above)

-- a note that does not stand does not end
pub nothing_ends : (ns vs : List Text) (n : Text) (i : ℕ) → AreRows ns vs → IsPlace n ns i → notes_in ns vs ≡ map.remove (notes_in ns vs) n
nothing_ends ns vs n i rows at = same_map nat_list_cmp_total exact_bytes _ _ (λ q. go q (eq_by_cmp text_cmp q n) refl ∙ sym (get-remove nat_list_cmp_total (notes_in ns vs) n q))
  where
    go : (q : Text) (t : Bool) → eq_by_cmp text_cmp q n ≡ t → map.get (notes_in ns vs) q ≡ cond t None (map.get (notes_in ns vs) q)
    go q true e = ap (map.get (notes_in ns vs)) (tells_apart exact_bytes q n e) ∙ sym (no_note ns vs n i rows at)
    go q false e = refl
