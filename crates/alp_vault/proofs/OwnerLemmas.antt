-- owners' names after a change
use Rattle.std.specs.Prelude.{Option, None, Some, cond, Bool, true, false, not, ◌&&◌, map as list_map}
use Rattle.std.specs.declared.cmp.Ordering.{Ordering}
use Rattle.std.specs.declared.cmp.Ordering.TheVariants.{Less, Equal, Greater}
use Rattle.std.specs.List.{insert, filter_map}
use Rattle.std.specs.FinMap as map
use Rattle.std.specs.FinMap.{entries-insert, entries_sorted}
use Rattle.std.specs.FinMap.Entries.{put, by_order, where_key, below_all}
use Rattle.std.specs.List.{AllByRecursion}
use Rattle.std.specs.List.Sorted.{IsStrictlySortedBy}
use Rattle.std.specs.Ordering.{is_lt}
use Rattle.std.proofs.Math.Dec.{T}
use Rattle.std.proofs.Common.{◌≡◌, ℕ, zero, suc, ◌<◌, ◌≤◌, List, [], ◌∷◌, ◌++◌, length, get_or, refl, sym, ◌∙◌, ap, arith}
use Rattle.alp_base.specs.declared.ids.FileId.{FileId}
use Rattle.alp_base.specs.declared.key.Key.{Key}
use Rattle.alp_base.specs.declared.key.Key.TheVariants.{Leader, PageOf, OwnerOf}
use Rattle.alp_base.specs.Keys.{key_cmp}
use Rattle.alp_base.specs.KeyLaws.{keys_total, exact_keys}
use Rattle.alp_base.specs.declared.cell.Cell.{Cell}
use Rattle.alp_files.specs.Cells.{Cells}
use Rattle.alp_files.specs.Counts.{name_at, owner_names_of}
use Rattle.alp_files.specs.Edits.{Edit, Drop, Cut, is_in_file, is_past, edit_map, edits_map}
use Rattle.alp_files.specs.Undo.{puts_of}
use Rattle.alp_files.proofs.SumLemmas.{entries-retain_keys}
use Rattle.alp_base.specs.declared.change.Change.{Change}
use Rattle.alp_files.specs.Changes.{edits_of}
use Rattle.alp_base.specs.Notes.{text_cmp}
use Rattle.alp_notes.specs.Rows.{AreBelow, IsAt, IsPlace}
use Rattle.alp_vault.specs.Owners.{with_name, with_owner, with_owners}

abbrev Text : Type 0
Text = List ℕ

later : (n m : Text) (ns : List Text) (i : ℕ) → AreBelow n (m ∷ ns) (suc i) → AreBelow n ns i
later n m ns i h k low = h (suc k) (omega (arith, low))

at_name : (ns : List Text) (n : Text) (i : ℕ) → i < length ns → AreBelow n ns i → text_cmp n (get_or ns i n) ≡ Equal → with_name n ns ≡ ns
at_name [] n i low below here = absurd (omega (arith, low))
at_name (m ∷ ns) n zero low below here = ap (λ (r : Ordering). by_order r (n ∷ m ∷ ns) (m ∷ ns) (m ∷ with_name n ns)) here
at_name (m ∷ ns) n (suc i) low below here =
    ap (λ (r : Ordering). by_order r (n ∷ m ∷ ns) (m ∷ ns) (m ∷ with_name n ns)) (below zero (omega arith)) ∙ ap (λ (xs : List Text). m ∷ xs) (at_name ns n i (omega (arith, low)) (later n m ns i below) here)

place_name : (ns : List Text) (n : Text) (i : ℕ) → i ≤ length ns → AreBelow n ns i → (i < length ns → text_cmp n (get_or ns i n) ≡ Less) → with_name n ns ≡ insert ns i n
place_name [] n zero low below above = refl
place_name [] n (suc i) low below above = absurd (omega (arith, low))
place_name (m ∷ ns) n zero low below above = ap (λ (r : Ordering). by_order r (n ∷ m ∷ ns) (m ∷ ns) (m ∷ with_name n ns)) (above (omega arith))
place_name (m ∷ ns) n (suc i) low below above =
    ap (λ (r : Ordering). by_order r (n ∷ m ∷ ns) (m ∷ ns) (m ∷ with_name n ns)) (below zero (omega arith)) ∙ ap (λ (xs : List Text). m ∷ xs) (place_name ns n i (omega (arith, low)) (later n m ns i below) (λ h. above (omega (arith, h))))

pub with-at : (n : Text) (ns : List Text) (i : ℕ) → IsAt n ns i → with_name n ns ≡ ns
with-at n ns i at = at_name ns n i at.within at.below at.here

pub with-place : (n : Text) (ns : List Text) (i : ℕ) → IsPlace n ns i → with_name n ns ≡ insert ns i n
with-place n ns i at = place_name ns n i at.within at.below at.above

-- ---- the names in a map

abbrev names : List (Key × Cell) → List Text
names es = filter_map name_at (list_map (λ e. e.0) es)

abbrev and_then : Option Text → List Text → List Text
and_then None ns = ns
and_then (Some n) ns = n ∷ ns

names-cons : (e : Key × Cell) (es : List (Key × Cell)) → names (e ∷ es) ≡ and_then (name_at e.0) (names es)
names-cons (Leader f, c) es = refl
names-cons (PageOf f n, c) es = refl
names-cons (OwnerOf o, c) es = refl

-- a key that is no owner's
names-other : (k : Key) (c : Cell) (es : List (Key × Cell)) → name_at k ≡ None → names (put key_cmp k c es) ≡ names es
names-other k c [] none = names-cons (k, c) [] ∙ ap (λ (o : Option Text). and_then o []) none
names-other k c (e ∷ es) none = go (key_cmp k e.0) (names-other k c es none)
  where
    go : (r : Ordering) → names (put key_cmp k c es) ≡ names es → names (by_order r ((k, c) ∷ e ∷ es) ((e.0, c) ∷ es) (e ∷ put key_cmp k c es)) ≡ names (e ∷ es)
    go Less i = names-cons (k, c) (e ∷ es) ∙ ap (λ (o : Option Text). and_then o (names (e ∷ es))) none
    go Equal i = names-cons (e.0, c) es ∙ sym (names-cons e es)
    go Greater i = names-cons e (put key_cmp k c es) ∙ ap (and_then (name_at e.0)) i ∙ sym (names-cons e es)

names-owner : (n : Text) (c : Cell) (es : List (Key × Cell)) → names (put key_cmp (OwnerOf n) c es) ≡ with_name n (names es)
names-owner n c [] = refl
names-owner n c ((Leader f, d) ∷ es) = names-owner n c es
names-owner n c ((PageOf f i, d) ∷ es) = names-owner n c es
names-owner n c ((OwnerOf o, d) ∷ es) = go (text_cmp n o) (names-owner n c es)
  where
    go : (r : Ordering) → names (put key_cmp (OwnerOf n) c es) ≡ with_name n (names es)
        → names (by_order r ((OwnerOf n, c) ∷ (OwnerOf o, d) ∷ es) ((OwnerOf o, c) ∷ es) ((OwnerOf o, d) ∷ put key_cmp (OwnerOf n) c es)) ≡ by_order r (n ∷ o ∷ names es) (o ∷ names es) (o ∷ with_name n (names es))
    go Less i = refl
    go Equal i = refl
    go Greater i = ap (λ (xs : List Text). o ∷ xs) i

names-put : (k : Key) (c : Cell) (es : List (Key × Cell)) → names (put key_cmp k c es) ≡ with_owner (name_at k) (names es)
names-put (Leader f) c es = names-other (Leader f) c es refl
names-put (PageOf f n) c es = names-other (PageOf f n) c es refl
names-put (OwnerOf n) c es = names-owner n c es

pub owners-put : (m : Cells) (k : Key) (c : Cell) → owner_names_of (map.insert m k c) ≡ with_owner (name_at k) (owner_names_of m)
owners-put m k c = ap names (entries-insert keys_total m k c) ∙ names-put k c (map.entries m)

owners-puts : (puts : List (Key × Cell)) (m : Cells) → owner_names_of (edits_map (puts_of puts) m) ≡ with_owners puts (owner_names_of m)
owners-puts [] m = refl
owners-puts (p ∷ ps) m = owners-puts ps (map.insert m p.0 p.1) ∙ ap (with_owners ps) (owners-put m p.0 p.1)

-- keys that go are no owners'
names-where : (p : Key → Bool) → ((n : Text) → p (OwnerOf n) ≡ true) → (es : List (Key × Cell)) → names (where_key key_cmp p es) ≡ names es
names-where p stay [] = refl
names-where p stay ((Leader f, c) ∷ es) = go (p (Leader f)) (names-where p stay es)
  where
    go : (t : Bool) → names (where_key key_cmp p es) ≡ names es → names (cond t ((Leader f, c) ∷ where_key key_cmp p es) (where_key key_cmp p es)) ≡ names es
    go true i = i
    go false i = i
names-where p stay ((PageOf f n, c) ∷ es) = go (p (PageOf f n)) (names-where p stay es)
  where
    go : (t : Bool) → names (where_key key_cmp p es) ≡ names es → names (cond t ((PageOf f n, c) ∷ where_key key_cmp p es) (where_key key_cmp p es)) ≡ names es
    go true i = i
    go false i = i
names-where p stay ((OwnerOf o, c) ∷ es) =
    ap (λ (t : Bool). names (cond t ((OwnerOf o, c) ∷ where_key key_cmp p es) (where_key key_cmp p es))) (stay o) ∙ ap (λ (xs : List Text). o ∷ xs) (names-where p stay es)

owners-where : (m : Cells) (p : Key → Bool) → ((n : Text) → p (OwnerOf n) ≡ true) → owner_names_of (map.retain_keys m p) ≡ owner_names_of m
owners-where m p stay = ap names (entries-retain_keys keys_total exact_keys m p) ∙ names-where p stay (map.entries m)

edits-append : (es fs : List Edit) (m : Cells) → edits_map (es ++ fs) m ≡ edits_map fs (edits_map es m)
edits-append [] fs m = refl
edits-append (e ∷ es) fs m = edits-append es fs (edit_map e m)

owners-drops : (fs : List FileId) (m : Cells) → owner_names_of (edits_map (list_map Drop fs) m) ≡ owner_names_of m
owners-drops [] m = refl
owners-drops (f ∷ fs) m = owners-drops fs (edit_map (Drop f) m) ∙ owners-where m (λ k. not (is_in_file f k)) (λ n. refl)

owners-cuts : (cs : List (FileId × ℕ)) (m : Cells) → owner_names_of (edits_map (list_map (λ p. Cut p.0 p.1) cs) m) ≡ owner_names_of m
owners-cuts [] m = refl
owners-cuts (c ∷ cs) m = owners-cuts cs (edit_map (Cut c.0 c.1) m) ∙ owners-where m (λ k. not (is_past c.0 c.1 k)) (λ n. refl)

-- the names after a change
pub owners-made : (change : Change) (m : Cells) → owner_names_of (edits_map (edits_of change) m) ≡ with_owners change.puts (owner_names_of m)
owners-made change m =
    ap owner_names_of (edits-append (list_map Drop change.drops) (list_map (λ p. Cut p.0 p.1) change.cuts ++ puts_of change.puts) m ∙ edits-append (list_map (λ p. Cut p.0 p.1) change.cuts) (puts_of change.puts) (edits_map (list_map Drop change.drops) m))
    ∙ owners-puts change.puts (edits_map (list_map (λ p. Cut p.0 p.1) change.cuts) (edits_map (list_map Drop change.drops) m))
    ∙ ap (with_owners change.puts) (owners-cuts change.cuts (edits_map (list_map Drop change.drops) m) ∙ owners-drops change.drops m)

-- ---- they rise

T-left : (a b : Bool) → T (a && b) → T a
T-left true b h = tt
T-left false b h = absurd h

T-right : (a b : Bool) → T (a && b) → T b
T-right true b h = h
T-right false b h = absurd h

less : (o : Ordering) → T (is_lt o) → o ≡ Less
less Less h = refl
less Equal h = absurd h
less Greater h = absurd h

names-above : (n : Text) (es : List (Key × Cell)) → T (below_all key_cmp (OwnerOf n) es) → AllByRecursion (λ (m : Text). text_cmp n m ≡ Less) (names es)
names-above n [] h = tt
names-above n ((Leader f, c) ∷ es) h = names-above n es (T-right (is_lt (key_cmp (OwnerOf n) (Leader f))) (below_all key_cmp (OwnerOf n) es) h)
names-above n ((PageOf f i, c) ∷ es) h = names-above n es (T-right (is_lt (key_cmp (OwnerOf n) (PageOf f i))) (below_all key_cmp (OwnerOf n) es) h)
names-above n ((OwnerOf m, c) ∷ es) h = (
  less (text_cmp n m) (T-left (is_lt (text_cmp n m)) (below_all key_cmp (OwnerOf n) es) h),
  names-above n es (T-right (is_lt (text_cmp n m)) (below_all key_cmp (OwnerOf n) es) h),
)

names-rise : (es : List (Key × Cell)) → T (map.is_sorted key_cmp es) → IsStrictlySortedBy text_cmp (names es)
unfolding IsStrictlySortedBy
names-rise [] h = tt
names-rise ((Leader f, c) ∷ es) h = names-rise es (T-right (below_all key_cmp (Leader f) es) (map.is_sorted key_cmp es) h)
names-rise ((PageOf f i, c) ∷ es) h = names-rise es (T-right (below_all key_cmp (PageOf f i) es) (map.is_sorted key_cmp es) h)
names-rise ((OwnerOf n, c) ∷ es) h = (
  names-above n es (T-left (below_all key_cmp (OwnerOf n) es) (map.is_sorted key_cmp es) h),
  names-rise es (T-right (below_all key_cmp (OwnerOf n) es) (map.is_sorted key_cmp es) h),
)

pub owners-rise : (m : Cells) → IsStrictlySortedBy text_cmp (owner_names_of m)
owners-rise m = names-rise (map.entries m) (entries_sorted m)
