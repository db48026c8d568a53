-- what a note lists comes to what was held and intended
use Rattle.std.specs.Prelude.{cond, Bool, true, false, not, ◌&&◌, min, filter, Option, None, Some, unwrap_or, map as list_map}
use Rattle.std.specs.List.Sorted.{IsStableByKey}
use Rattle.std.specs.Option.{option_or}
use Rattle.std.specs.FinMap as map
use Rattle.std.specs.FinMap.{FinMap, find, is_sorted, get-insert, get-remove, get-empty, get-retain_keys, get-entries, entries_sorted, same_map}
use Rattle.std.specs.FinMap.Entries.{below_all}
use Rattle.std.specs.declared.cmp.Ordering.{Ordering}
use Rattle.std.specs.declared.cmp.Ordering.TheVariants.{Less, Equal, Greater}
use Rattle.std.specs.Ordering.{nat_cmp, eq_by_cmp, is_eq, is_lt, ordering_reverse}
use Rattle.std.specs.Cmp.{IsTotalOrder}
use Rattle.std.proofs.Math.Dec.{T}
use Rattle.std.proofs.Common.{◌≡◌, ℕ, List, [], ◌∷◌, ◌++◌, refl, sym, ◌∙◌, ap, subst, arith}
use Rattle.alp_base.specs.declared.ids.FileId.{FileId}
use Rattle.alp_base.specs.declared.key.Key.{Key}
use Rattle.alp_base.specs.declared.key.Resource.{Resource}
use Rattle.alp_base.specs.declared.cell.Cell.{Cell}
use Rattle.alp_base.specs.declared.cell.Cell.TheVariants as cell
use Rattle.alp_base.specs.Keys.{key_cmp}
use Rattle.alp_base.specs.KeyLaws.{file_cmp, keys_total, exact_keys, exact_files}
use Rattle.alp_base.specs.Orders.{resource_cmp, resources_total, exact_resources}
use Rattle.alp_modes.specs.declared.Mode.{Mode}
use Rattle.alp_modes.specs.declared.Mode.TheVariants.{IntendRead}
use Rattle.alp_files.specs.Cells.{Cells}
use Rattle.alp_files.specs.Changes.{edits_of}
use Rattle.alp_files.specs.Edits.{Edit, Drop, Cut, is_in_file, is_past, edits_at, edits_map}
use Rattle.alp_files.specs.Holdings.{held_by, join_held}
use Rattle.alp_files.specs.Needs.{Intents, Files, CutFiles, no_intents, intents_from, intents_of, cut_from}
use Rattle.alp_files.specs.Undo.{puts_of}
use Rattle.alp_files.proofs.HistoryLemmas.{get-edits_map, same_cells}
use Rattle.alp_files.proofs.IntentLemmas.{files_total, intents_from-append, only_puts, puts_alone}
use Rattle.alp_files.proofs.SameLemmas.{same_key-true}
use Rattle.alp_trans.specs.Parts.{change_of}
use Rattle.alp_trans.proofs.ChangeLemmas.{get-laid, shown, shown_over}
use Rattle.alp_ready.specs.NoteOrder.{name_length, named_length, AreRising, put_number, lock_number}
use Rattle.alp_ready.proofs.StableSorts.{alike, alike_same}
use Rattle.std.proofs.lemmas.Map.Views.{tells_apart}

-- ---- puts in another order

-- what stands at a key rests on the puts at that key
at_filter : (q : Key) (g : Key × Cell → Bool) → ((e : Key × Cell) → eq_by_cmp key_cmp q e.0 ≡ true → g e ≡ true) → (es : List (Key × Cell)) (o : Option Cell) → edits_at (puts_of (filter g es)) q o ≡ edits_at (puts_of es) q o
at_filter q g all [] o = refl
at_filter q g all (e ∷ es) o = go (g e) refl (eq_by_cmp key_cmp q e.0) refl (at_filter q g all es)
  where
    go : (a : Bool) → g e ≡ a → (b : Bool) → eq_by_cmp key_cmp q e.0 ≡ b → ((o : Option Cell) → edits_at (puts_of (filter g es)) q o ≡ edits_at (puts_of es) q o)
        → edits_at (puts_of (cond {A = List (Key × Cell)} a (e ∷ filter g es) (filter g es))) q o ≡ edits_at (puts_of es) q (cond {A = Option Cell} b (Some e.1) o)
    go true i b j rest = ap (λ (c : Bool). edits_at (puts_of (filter g es)) q (cond {A = Option Cell} c (Some e.1) o)) j ∙ rest (cond {A = Option Cell} b (Some e.1) o)
    go false i true j rest = (let wrong : false ≡ true = sym i ∙ all e j in cc)
    go false i false j rest = rest o

same_at : (es fs : List (Key × Cell)) → IsStableByKey put_number nat_cmp es fs → (q : Key) (o : Option Cell) → edits_at (puts_of fs) q o ≡ edits_at (puts_of es) q o
same_at es fs stable q o =
    let x : Key × Cell = (q, cell.Page []) in
    let own : (e : Key × Cell) → eq_by_cmp key_cmp q e.0 ≡ true → alike put_number x e ≡ true = (λ e h. alike_same put_number x e (ap name_length (same_key-true q e.0 h))) in
    sym (at_filter q (alike put_number x) own fs o) ∙ ap (λ (xs : List (Key × Cell)). edits_at (puts_of xs) q o) (stable x) ∙ at_filter q (alike put_number x) own es o

pub same_puts : (es fs : List (Key × Cell)) → IsStableByKey put_number nat_cmp es fs → (m : Cells) → edits_map (puts_of fs) m ≡ edits_map (puts_of es) m
same_puts es fs stable m = same_cells (edits_map (puts_of fs) m) (edits_map (puts_of es) m)
    (get-edits_map (puts_of fs) m ∙ (λ i q. same_at es fs stable q (map.get m q) i) ∙ sym (get-edits_map (puts_of es) m))

-- ---- locks in another order

held_filter : (r : Resource) (g : Resource × Mode → Bool) → ((e : Resource × Mode) → eq_by_cmp resource_cmp r e.0 ≡ true → g e ≡ true) → (es : List (Resource × Mode)) → held_by (filter g es) r ≡ held_by es r
held_filter r g all [] = refl
held_filter r g all (e ∷ es) = go (g e) refl (eq_by_cmp resource_cmp r e.0) refl (held_filter r g all es)
  where
    go : (a : Bool) → g e ≡ a → (b : Bool) → eq_by_cmp resource_cmp r e.0 ≡ b → held_by (filter g es) r ≡ held_by es r
        → held_by (cond {A = List (Resource × Mode)} a (e ∷ filter g es) (filter g es)) r ≡ cond {A = Option Mode} b (join_held (Some e.1) (held_by es r)) (held_by es r)
    go true i b j rest = (λ k. cond {A = Option Mode} (j k) (join_held (Some e.1) (rest k)) (rest k))
    go false i true j rest = (let wrong : false ≡ true = sym i ∙ all e j in cc)
    go false i false j rest = rest

pub same_held : (es fs : List (Resource × Mode)) → IsStableByKey lock_number nat_cmp es fs → (r : Resource) → held_by fs r ≡ held_by es r
same_held es fs stable r =
    let x : Resource × Mode = (r, IntendRead) in
    let own : (e : Resource × Mode) → eq_by_cmp resource_cmp r e.0 ≡ true → alike lock_number x e ≡ true = (λ e h. alike_same lock_number x e (ap named_length (tells_apart exact_resources r e.0 h))) in
    sym (held_filter r (alike lock_number x) own fs) ∙ ap (λ (xs : List (Resource × Mode)). held_by xs r) (stable x) ∙ held_filter r (alike lock_number x) own es

-- each resource once: what is held is what is found
none_held : (r : Resource) (es : List (Resource × Mode)) → find resource_cmp r es ≡ None → held_by es r ≡ None
none_held r [] h = refl
none_held r (e ∷ es) h = go (eq_by_cmp resource_cmp r e.0) h (none_held r es)
  where
    go : (b : Bool) → cond {A = Option Mode} b (Some e.1) (find resource_cmp r es) ≡ None → (find resource_cmp r es ≡ None → held_by es r ≡ None) → cond {A = Option Mode} b (join_held (Some e.1) (held_by es r)) (held_by es r) ≡ None
    go true i rest = cc
    go false i rest = rest i

first : (a b : Bool) → T (a && b) → T a
first true b h = tt
first false b h = absurd h

second : (a b : Bool) → T (a && b) → T b
second true b h = h
second false b h = absurd h

module _ {K X : Type 0} {R : K → K → Ordering} (total : IsTotalOrder R) where
  -- none of the later entries has the key of the first
  none_later : (x q : K) (es : List (K × X)) → T (below_all R x es) → R q x ≡ Equal → find R q es ≡ None
  none_later x q [] below e = refl
  none_later x q (y ∷ es) below e =
      ap (λ (r : Ordering). cond {A = Option X} (is_eq r) (Some y.1) (find R q es)) (total.congr q x y.0 e) ∙ go (R x y.0) (first (is_lt (R x y.0)) (below_all R x es) below)
      ∙ none_later x q es (second (is_lt (R x y.0)) (below_all R x es) below) e
    where
      go : (r : Ordering) → T (is_lt r) → cond {A = Option X} (is_eq r) (Some y.1) (find R q es) ≡ find R q es
      go Less h = refl
      go Equal h = absurd h
      go Greater h = absurd h

pub held_found : (r : Resource) (es : List (Resource × Mode)) → AreRising es → held_by es r ≡ find resource_cmp r es
held_found r [] h = refl
held_found r (e ∷ es) h = go (resource_cmp r e.0) refl (held_found r es (second (below_all resource_cmp e.0 es) (is_sorted resource_cmp es) h))
  where
    go : (o : Ordering) → resource_cmp r e.0 ≡ o → held_by es r ≡ find resource_cmp r es
        → cond {A = Option Mode} (is_eq o) (join_held (Some e.1) (held_by es r)) (held_by es r) ≡ cond {A = Option Mode} (is_eq o) (Some e.1) (find resource_cmp r es)
    go Less i rest = rest
    go Greater i rest = rest
    go Equal i rest = ap (join_held (Some e.1)) (none_held r es (none_later resources_total e.0 r es (first (below_all resource_cmp e.0 es) (is_sorted resource_cmp es) h) i))

-- ---- what a change comes to

abbrev part_of : Files → CutFiles → Cells → Intents
part_of drops cuts puts = record { drops = drops; cuts = cuts; puts = puts }

no_cut : (f : FileId) → map.remove (map.empty {X = ℕ} {R = file_cmp}) f ≡ map.empty
no_cut f = same_map files_total exact_files (map.remove map.empty f) map.empty (λ q. get-remove files_total map.empty f q ∙ go (eq_by_cmp file_cmp q f) q)
  where
    go : (b : Bool) (q : FileId) → cond {A = Option ℕ} b None (map.get (map.empty {X = ℕ} {R = file_cmp}) q) ≡ map.get (map.empty {X = ℕ} {R = file_cmp}) q
    go true q = sym (get-empty file_cmp q)
    go false q = refl

no_put : (p : Key → Bool) → map.retain_keys (map.empty {X = Cell} {R = key_cmp}) p ≡ map.empty
no_put p = same_map keys_total exact_keys (map.retain_keys map.empty p) map.empty (λ q. get-retain_keys map.empty p q (λ x e. ap p (sym (exact_keys q x e))) ∙ go (p q) q)
  where
    go : (b : Bool) (q : Key) → cond {A = Option Cell} b (map.get (map.empty {X = Cell} {R = key_cmp}) q) None ≡ map.get (map.empty {X = Cell} {R = key_cmp}) q
    go true q = refl
    go false q = sym (get-empty key_cmp q)

-- entries that are put one after the other
module _ {K X : Type 0} {R : K → K → Ordering} (total : IsTotalOrder R) where
  abbrev laid : List (K × X) → FinMap R X → FinMap R X
  laid [] m = m
  laid (e ∷ es) m = laid es (map.insert m e.0 e.1)

  get_laid : (es : List (K × X)) (m : FinMap R X) (q : K) → map.get (laid es m) q ≡ shown total q es (map.get m q)
  get_laid [] m q = refl
  get_laid (e ∷ es) m q = get_laid es (map.insert m e.0 e.1) q ∙ ap (shown total q es) (get-insert total m e.0 e.1 q)

  found_or : (o : Option X) → option_or o None ≡ o
  found_or None = refl
  found_or (Some x) = refl

  laid_all : ((a b : K) → R a b ≡ Equal → a ≡ b) → (m : FinMap R X) → laid (map.entries m) map.empty ≡ m
  laid_all exact m = same_map total exact (laid (map.entries m) map.empty) m (λ q.
      get_laid (map.entries m) map.empty q ∙ ap (shown total q (map.entries m)) (get-empty R q)
      ∙ shown_over total q (map.entries m) None (entries_sorted m) ∙ found_or (find R q (map.entries m)) ∙ sym (get-entries m q))

-- the drops
drops_alone : (es : List (FileId × Unit {0})) (d : Files) → intents_from (part_of d map.empty map.empty) (list_map Drop (list_map (λ (e : FileId × Unit {0}). e.0) es)) ≡ part_of (laid files_total es d) map.empty map.empty
drops_alone [] d = refl
drops_alone (e ∷ es) d =
    (λ i. intents_from (part_of (map.insert d e.0 tt) (no_cut e.0 i) (no_put (λ k. not (is_in_file e.0 k)) i)) (list_map Drop (list_map (λ (e : FileId × Unit {0}). e.0) es)))
    ∙ drops_alone es (map.insert d e.0 tt)

-- the cuts, of which none is there before
min_same : (n : ℕ) → min n n ≡ n
min_same n = omega arith

abbrev AreNew : CutFiles → List (FileId × ℕ) → Type 0
AreNew m [] = Unit {0}
AreNew m (e ∷ es) = (map.get m e.0 ≡ None) × AreNew m es

still_new : (m : CutFiles) (e : FileId × ℕ) (es : List (FileId × ℕ)) → T (below_all file_cmp e.0 es) → AreNew m es → AreNew (map.insert m e.0 e.1) es
still_new m e [] below h = tt
still_new m e (f ∷ es) below h =
    (get-insert files_total m e.0 e.1 f.0 ∙ ap (λ (b : Bool). cond {A = Option ℕ} b (Some e.1) (map.get m f.0)) other ∙ h.0, still_new m e es (second (is_lt (file_cmp e.0 f.0)) (below_all file_cmp e.0 es) below) h.1)
  where
    go : (o : Ordering) → file_cmp f.0 e.0 ≡ o → T (is_lt (file_cmp e.0 f.0)) → is_eq o ≡ false
    go Less i low = refl
    go Greater i low = refl
    go Equal i low = absurd (subst (λ (o : Ordering). T (is_lt o)) (files_total.antisymm e.0 f.0 ∙ ap ordering_reverse i) low)

    other : eq_by_cmp file_cmp f.0 e.0 ≡ false
    other = go (file_cmp f.0 e.0) refl (first (is_lt (file_cmp e.0 f.0)) (below_all file_cmp e.0 es) below)

cuts_alone : (es : List (FileId × ℕ)) (d : Files) (m : CutFiles) → T (is_sorted file_cmp es) → AreNew m es
    → intents_from (part_of d m map.empty) (list_map (λ (e : FileId × ℕ). Cut e.0 e.1) es) ≡ part_of d (laid files_total es m) map.empty
cuts_alone [] d m sorted new = refl
cuts_alone (e ∷ es) d m sorted new =
    let first_cut : cut_from m e.0 e.1 ≡ e.1 = ap (λ (o : Option ℕ). min e.1 (unwrap_or o e.1)) new.0 ∙ min_same e.1 in
    (λ i. intents_from (part_of d (map.insert m e.0 (first_cut i)) (no_put (λ k. not (is_past e.0 e.1 k)) i)) (list_map (λ (e : FileId × ℕ). Cut e.0 e.1) es))
    ∙ cuts_alone es d (map.insert m e.0 e.1) (second (below_all file_cmp e.0 es) (is_sorted file_cmp es) sorted) (still_new m e es (first (below_all file_cmp e.0 es) (is_sorted file_cmp es) sorted) new.1)

none_new : (es : List (FileId × ℕ)) → AreNew map.empty es
none_new [] = tt
none_new (e ∷ es) = (get-empty file_cmp e.0, none_new es)

-- all cells that are put
puts_alike : (m : Cells) → edits_map (puts_of (map.entries m)) map.empty ≡ m
puts_alike m = same_cells (edits_map (puts_of (map.entries m)) map.empty) m (λ i q. (get-laid m map.empty q ∙ ap (option_or (map.get m q)) (get-empty key_cmp q) ∙ some_or (map.get m q)) i)
  where
    some_or : (o : Option Cell) → option_or o None ≡ o
    some_or None = refl
    some_or (Some c) = refl

-- the change that intents come to, with its puts in any order that puts the same, comes to the intents
pub intents_back : (i : Intents) (puts : List (Key × Cell)) → edits_map (puts_of puts) map.empty ≡ i.puts → intents_of (edits_of (record (change_of i) { puts = puts })) ≡ i
intents_back i puts same =
    let drops : List Edit = list_map Drop (map.keys i.drops) in
    let cuts : List Edit = list_map (λ (e : FileId × ℕ). Cut e.0 e.1) (map.entries i.cuts) in
    intents_from-append no_intents drops (cuts ++ puts_of puts)
    ∙ ap (λ (x : Intents). intents_from x (cuts ++ puts_of puts)) (drops_alone (map.entries i.drops) map.empty ∙ ap (λ (d : Files). part_of d map.empty map.empty) (laid_all files_total exact_files i.drops))
    ∙ intents_from-append (part_of i.drops map.empty map.empty) cuts (puts_of puts)
    ∙ ap (λ (x : Intents). intents_from x (puts_of puts))
    (cuts_alone (map.entries i.cuts) i.drops map.empty (entries_sorted i.cuts) (none_new (map.entries i.cuts)) ∙ ap (λ (m : CutFiles). part_of i.drops m map.empty) (laid_all files_total exact_files i.cuts))
    ∙ only_puts (part_of i.drops i.cuts map.empty) (puts_of puts) (puts_alone puts)
    ∙ ap (part_of i.drops i.cuts) same

-- with its puts in their own order
pub change_back : (i : Intents) → intents_of (edits_of (change_of i)) ≡ i
change_back i = intents_back i (map.entries i.puts) (puts_alike i.puts)

-- and sorted anew
pub sorted_back : (i : Intents) (puts : List (Key × Cell)) → IsStableByKey put_number nat_cmp (map.entries i.puts) puts → intents_of (edits_of (record (change_of i) { puts = puts })) ≡ i
sorted_back i puts stable = intents_back i puts (same_puts (map.entries i.puts) puts stable map.empty ∙ puts_alike i.puts)
