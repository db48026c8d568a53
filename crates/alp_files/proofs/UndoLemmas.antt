-- puts that are done together, and taken back
use Rattle.std.specs.Prelude.{Option, None, Some, cond, Bool, true, false, Result, Ok, Err, OnOk, OnErr, map as list_map}
use Rattle.std.specs.Option.{option_or}
use Rattle.std.specs.Result.{is_err}
use Rattle.std.specs.List.{AllByRecursion}
use Rattle.std.specs.List.Sorted.{IsStrictlySortedBy}
use Rattle.std.specs.declared.cmp.Ordering.{Ordering}
use Rattle.std.specs.declared.cmp.Ordering.TheVariants.{Less, Equal, Greater}
use Rattle.std.specs.FinMap as map
use Rattle.std.specs.FinMap.{get-insert, same_map}
use Rattle.std.specs.BTreeMap.{is_at}
use Rattle.std.specs.Ordering.{eq_by_cmp, is_eq}
use Rattle.std.specs.Cmp.{eq_by_cmp_equiv}
use Rattle.alp_files.proofs.HistoryLemmas.{get-edits_map}
use Rattle.std.proofs.Common.{◌≡◌, List, [], ◌∷◌, ◌++◌, refl, sym, ◌∙◌, ap}
use Rattle.alp_base.specs.declared.key.Key.{Key}
use Rattle.alp_base.specs.Keys.{key_cmp}
use Rattle.alp_base.specs.KeyLaws.{keys_total, exact_keys}
use Rattle.alp_base.specs.declared.cell.Cell.{Cell}
use Rattle.alp_files.specs.Cells.{Cells}
use Rattle.alp_files.specs.Edits.{Edit, Put, over, edits_map, edits_at, ChangesBy}
use Rattle.alp_files.specs.Undo.{puts_of, LedBy}
use Rattle.alp_files.proofs.CellMapLemmas.{cell_at, get_cell}
use Rattle.alp_files.proofs.EditLemmas.{over_insert, changes-append}

pub puts_of-append : (xs ys : List (Key × Cell)) → puts_of (xs ++ ys) ≡ puts_of xs ++ puts_of ys
puts_of-append [] ys = refl
puts_of-append (x ∷ xs) ys = ap (λ (es : List Edit). Put x.0 x.1 ∷ es) (puts_of-append xs ys)

-- puts of the intents change what is seen by just these edits
pub puts_change : (xs : List (Key × Cell)) (m : Cells) → ChangesBy (puts_of xs) m (edits_map (puts_of xs) m)
puts_change [] m = λ v. refl
puts_change (x ∷ xs) m = changes-append (Put x.0 x.1 ∷ []) (puts_of xs) m (map.insert m x.0 x.1) (edits_map (puts_of xs) (map.insert m x.0 x.1)) (over_insert m x.0 x.1) (puts_change xs (map.insert m x.0 x.1))

-- one put more
pub LedBy-push : (m n : Cells) (xs : List (Key × Option Cell)) (k : Key) (c : Cell) → LedBy m xs n → LedBy m (xs ++ (k, map.get n k) ∷ []) (map.insert n k c)
LedBy-push m n [] k c h = (c, ap (λ (x : Cells). map.get x k) h, ap (λ (x : Cells). map.insert x k c) h)
LedBy-push m n (x ∷ xs) k c h = (h.0, h.1, LedBy-push (map.insert m x.0 h.0) n xs k c h.2)

-- the last of them, put back
pub record Last (m : Cells) (xs : List (Key × Option Cell)) (x : Key × Option Cell) (now : Cells) : Type 0 where
  pub mid : Cells
  pub cell : Cell
  pub stood : x.1 ≡ map.get mid x.0
  pub put : now ≡ map.insert mid x.0 cell
  pub led : LedBy m xs mid

pub LedBy-pop : (m now : Cells) (xs : List (Key × Option Cell)) (x : Key × Option Cell) → LedBy m (xs ++ x ∷ []) now → Last m xs x now
LedBy-pop m now [] x h = record { mid = m; cell = h.0; stood = h.1; put = h.2; led = refl }
LedBy-pop m now (y ∷ xs) x h =
    let l : Last (map.insert m y.0 h.0) xs x now = LedBy-pop (map.insert m y.0 h.0) now xs x h.2 in
    record { mid = l.mid; cell = l.cell; stood = l.stood; put = l.put; led = (h.0, h.1, l.led) }

pub on_err : {T E : Type 0} (r : Result T E) (P : Type 0) → P → OnErr r P
on_err (Ok x) P p = tt
on_err (Err e) P p = p

cond_twice : {A : Type 0} (b : Bool) (x y z : A) → cond b x (cond b y z) ≡ cond b x z
cond_twice true x y z = refl
cond_twice false x y z = refl

pub on_ok : {T E : Type 0} (r : Result T E) (P Q : Type 0) → OnOk r P → (P → Q) → OnOk r Q
on_ok (Ok x) P Q p f = f p
on_ok (Err e) P Q p f = tt

pub when_err : {T E : Type 0} (r : Result T E) (P : Type 0) → OnErr r P → is_err r ≡ true → P
when_err (Ok x) P p e = cc
when_err (Err x) P p e = p

pub when_ok : {T E : Type 0} (r : Result T E) (P : Type 0) → OnOk r P → is_err r ≡ false → P
when_ok (Ok x) P p e = p
when_ok (Err x) P p e = cc

-- what stands at a key does not hang on what was put there before
put_twice : (m : Cells) (k : Key) (c d : Cell) → map.insert (map.insert m k c) k d ≡ map.insert m k d
put_twice m k c d = same_map keys_total exact_keys _ _ (λ q.
    get-insert keys_total (map.insert m k c) k d q
    ∙ ap (cond (eq_by_cmp key_cmp q k) (Some d)) (get-insert keys_total m k c q)
    ∙ cond_twice (eq_by_cmp key_cmp q k) (Some d) (Some c) (map.get m q)
    ∙ sym (get-insert keys_total m k d q))

at_itself : (k : Key) → eq_by_cmp key_cmp k k ≡ true
at_itself k = (eq_by_cmp_equiv keys_total).refl k

-- a put at a key that holds this already changes nothing
put_same : (m : Cells) (k : Key) (d : Cell) → Some d ≡ map.get m k → map.insert m k d ≡ m
put_same m k d h = same_map keys_total exact_keys _ _ (λ q. get-insert keys_total m k d q ∙ go q (key_cmp q k) refl)
  where
    go : (q : Key) (o : Ordering) → key_cmp q k ≡ o → cond (is_eq o) (Some d) (map.get m q) ≡ map.get m q
    go q Equal e = h ∙ ap (map.get m) (sym (exact_keys q k e))
    go q Less e = refl
    go q Greater e = refl

-- the cell that stood at a key, put there again
pub put_over : (m now new : Cells) (k : Key) (c d : Cell) → Some d ≡ map.get m k → now ≡ map.insert m k c
    → {E : Type 0} (r : Result (Option Cell) E) → OnOk r (new ≡ map.insert now k d) → OnErr r (map.get now k ≡ None) → new ≡ m
put_over m now new k c d stood put (Ok x) ok absent = ok ∙ ap (λ (x : Cells). map.insert x k d) put ∙ put_twice m k c d ∙ put_same m k d stood
put_over m now new k c d stood put (Err e) ok absent =
    let there : map.get now k ≡ Some c = ap (λ (x : Cells). map.get x k) put ∙ get-insert keys_total m k c k ∙ ap (λ (b : Bool). cond b (Some c) (map.get m k)) (at_itself k) in
    let wrong : None ≡ Some c = sym absent ∙ there in
    cc

-- the cell at a key that had none, taken away again
pub one_removed : (m : Cells) (es fs : List (Key × Cell)) (k : Key) (c : Cell) → map.get m k ≡ None → map.from_entries {R = key_cmp} es ≡ map.insert m k c
    → ((q : Key) → cell_at fs q ≡ cond (is_at (key_cmp k) q) None (cell_at es q)) → map.from_entries {R = key_cmp} fs ≡ m
one_removed m es fs k c none is gone = same_map keys_total exact_keys _ _ (λ q.
    get_cell fs q ∙ gone q
    ∙ ap (cond (is_at (key_cmp k) q) None) (sym (get_cell es q) ∙ ap (λ (x : Cells). map.get x q) is ∙ get-insert keys_total m k c q
    ∙ ap (λ (b : Bool). cond b (Some c) (map.get m q)) ((eq_by_cmp_equiv keys_total).symm q k))
    ∙ go q (key_cmp k q) refl)
  where
    go : (q : Key) (o : Ordering) → key_cmp k q ≡ o → cond (is_eq o) None (cond (is_eq o) (Some c) (map.get m q)) ≡ map.get m q
    go q Equal e = sym none ∙ ap (map.get m) (exact_keys k q e)
    go q Less e = refl
    go q Greater e = refl

-- ---- all cells of a tree, put in order

none_below : (k : Key) (es : List (Key × Cell)) → AllByRecursion (λ y. key_cmp k y ≡ Less) (list_map (λ (e : Key × Cell). e.0) es) → cell_at es k ≡ None
none_below k [] h = refl
none_below k (e ∷ es) h = ap (λ (o : Ordering). cond (is_eq o) (Some e.1) (cell_at es k)) h.0 ∙ none_below k es h.1

puts_over : (es : List (Key × Cell)) → IsStrictlySortedBy key_cmp (list_map (λ (e : Key × Cell). e.0) es) → (q : Key) (o : Option Cell) → edits_at (puts_of es) q o ≡ option_or (cell_at es q) o
unfolding IsStrictlySortedBy
puts_over [] h q o = refl
puts_over (e ∷ es) h q o =
    puts_over es h.1 q (cond (eq_by_cmp key_cmp q e.0) (Some e.1) o) ∙ go (key_cmp q e.0) refl
  where
    go : (r : Ordering) → key_cmp q e.0 ≡ r → option_or (cell_at es q) (cond (is_eq r) (Some e.1) o) ≡ option_or (cond (is_eq r) (Some e.1) (cell_at es q)) o
    go Equal is = ap (λ (x : Option Cell). option_or x (Some e.1)) (ap (cell_at es) (exact_keys q e.0 is) ∙ none_below e.0 es h.0)
    go Less is = refl
    go Greater is = refl

pub tree_over : (es : List (Key × Cell)) (m : Cells) → IsStrictlySortedBy key_cmp (list_map (λ (e : Key × Cell). e.0) es)
    → map.get (edits_map (puts_of es) m) ≡ over (map.from_entries es) (map.get m)
tree_over es m h = get-edits_map (puts_of es) m ∙ (λ i q. (puts_over es h q (map.get m q) ∙ ap (λ (x : Option Cell). option_or x (map.get m q)) (sym (get_cell es q))) i)
