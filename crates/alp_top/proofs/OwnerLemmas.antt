-- the owners' records, found by their names
use Rattle.std.specs.Prelude.{true, false, Bool, cond, Option, None, Some, ◌&&◌}
use Rattle.std.specs.List.{filter_map, AllByRecursion}
use Rattle.std.specs.List.{cons_option}
use Rattle.std.specs.Ordering.{eq_by_cmp, is_lt, is_eq}
use Rattle.std.specs.declared.cmp.Ordering.{Ordering}
use Rattle.std.specs.declared.cmp.Ordering.TheVariants.{Less, Equal, Greater}
use Rattle.std.specs.FinMap as map
use Rattle.std.specs.FinMap.{find, is_sorted, entries_sorted, get-entries}
use Rattle.std.specs.FinMap.Entries.{below_all}
use Rattle.std.specs.Cmp.{eq_by_cmp_equiv}
use Rattle.std.proofs.Math.Dec.{T}
use Rattle.std.proofs.Common.{◌≡◌, ℕ, ◌+◌, ◌<◌, List, [], ◌∷◌, ◌++◌, length, take, get_or, refl, sym, ◌∙◌, ap, subst}
use Rattle.std.proofs.lemmas.List.{take_more}
use Rattle.std.specs.Prelude.{map as list_map}
use Rattle.std.proofs.lemmas.Map.Views.{tells_apart}
use Rattle.alp_base.specs.Keys.{key_cmp}
use Rattle.alp_base.specs.KeyLaws.{keys_total, exact_keys}
use Rattle.alp_base.specs.declared.key.Key.{Key}
use Rattle.alp_base.specs.declared.key.Key.TheVariants.{Leader, PageOf, OwnerOf}
use Rattle.alp_files.specs.Cells.{Cells, owner_in, owners_of}
use Rattle.alp_files.specs.Counts.{name_at, owner_names_of}
use Rattle.alp_files.specs.Files.{IsOfKind}
use Rattle.alp_files.specs.Sound.{AreSound}
use Rattle.alp_base.specs.declared.cell.Cell.{Cell}
use Rattle.alp_base.specs.declared.cell.Cell.TheVariants as cell
use Rattle.alp_base.specs.declared.cell.OwnerRecord.{OwnerRecord}

abbrev Entry : Type 0
Entry = Key × Cell

-- ---- each entry of a map stands at its key

first : (a b : Bool) → T (a && b) → T a
first true b h = tt
first false b h = absurd h

second : (a b : Bool) → T (a && b) → T b
second true b h = h
second false b h = absurd h

less : (o : Ordering) → T (is_lt o) → is_eq o ≡ false
less Less h = refl
less Equal h = absurd h
less Greater h = absurd h

find-below : (q : Key) (es : List Entry) → T (below_all key_cmp q es) → find key_cmp q es ≡ None
find-below q [] h = refl
find-below q (e ∷ es) h = ap (λ (b : Bool). cond b (Some e.1) (find key_cmp q es)) (less (key_cmp q e.0) (first _ _ h)) ∙ find-below q es (second _ _ h)

behind : (e : Entry) (es : List Entry) → T (is_sorted key_cmp (e ∷ es)) → (k : Key) (c : Cell) → find key_cmp k es ≡ Some c → find key_cmp k (e ∷ es) ≡ Some c
behind e es h k c is = go (eq_by_cmp key_cmp k e.0) refl
  where
    go : (b : Bool) → eq_by_cmp key_cmp k e.0 ≡ b → cond b (Some e.1) (find key_cmp k es) ≡ Some c
    go true t =
        let same : k ≡ e.0 = tells_apart exact_keys k e.0 t in
        let none : find key_cmp k es ≡ None = find-below k es (subst (λ (y : Key). T (below_all key_cmp y es)) (sym same) (first _ _ h)) in
        let wrong : Some c ≡ None = sym is ∙ none in cc
    go false t = is

all_stand : (P : Entry → Type 0) (es : List Entry) → T (is_sorted key_cmp es) → ((k : Key) (c : Cell) → find key_cmp k es ≡ Some c → P (k, c)) → AllByRecursion P es
all_stand P [] h each = tt
all_stand P (e ∷ es) h each = (
  each e.0 e.1 (ap (λ (b : Bool). cond b (Some e.1) (find key_cmp e.0 es)) ((eq_by_cmp_equiv keys_total).refl e.0)),
  all_stand P es (second _ _ h) (λ k c is. each k c (behind e es h k c is)),
)

-- ---- records by names

-- the record at a name
abbrev pub at_name : Cells → List ℕ → Option OwnerRecord
at_name m name = owner_in (map.get m (OwnerOf name))

abbrev Stands : Cells → Entry → Type 0
Stands m e = IsOfKind e.0 e.1 × (map.get m e.0 ≡ Some e.1)

by_names : (m : Cells) (es : List Entry) → AllByRecursion (Stands m) es
    → filter_map (λ c. owner_in (Some c)) (list_map (λ (e : Entry). e.1) es) ≡ filter_map (at_name m) (filter_map name_at (list_map (λ (e : Entry). e.0) es))
by_names m [] all = refl
by_names m ((Leader f, cell.Leader p) ∷ es) all = by_names m es all.1
by_names m ((Leader f, cell.Page bytes) ∷ es) all = absurd all.0.0
by_names m ((Leader f, cell.Owner o) ∷ es) all = absurd all.0.0
by_names m ((PageOf f n, cell.Leader p) ∷ es) all = absurd all.0.0
by_names m ((PageOf f n, cell.Page bytes) ∷ es) all = by_names m es all.1
by_names m ((PageOf f n, cell.Owner o) ∷ es) all = absurd all.0.0
by_names m ((OwnerOf name, cell.Leader p) ∷ es) all = absurd all.0.0
by_names m ((OwnerOf name, cell.Page bytes) ∷ es) all = absurd all.0.0
by_names m ((OwnerOf name, cell.Owner o) ∷ es) all =
    ap (λ (rs : List OwnerRecord). o ∷ rs) (by_names m es all.1)
    ∙ ap (λ (c : Option Cell). cons_option (owner_in c) (filter_map (at_name m) (filter_map name_at (list_map (λ (e : Entry). e.0) es)))) (sym all.0.1)

-- the records are those at the names
pub records_by_names : (m : Cells) → AreSound m → owners_of m ≡ filter_map (at_name m) (owner_names_of m)
records_by_names m sound =
    by_names m (map.entries m)
    (all_stand (Stands m) (map.entries m) (entries_sorted m)
    (λ k c is. (let at : map.get m k ≡ Some c = get-entries m k ∙ is in (sound.0.kinds k c at, at))))

filter_more : (f : List ℕ → Option OwnerRecord) (xs : List (List ℕ)) (x : List ℕ) → filter_map f (xs ++ x ∷ []) ≡ filter_map f xs ++ cons_option (f x) []
filter_more f [] x = refl
filter_more f (y ∷ xs) x = ap (cons_option (f y)) (filter_more f xs x) ∙ consed (f y) (filter_map f xs) (cons_option (f x) [])
  where
    consed : (o : Option OwnerRecord) (rs ss : List OwnerRecord) → cons_option o (rs ++ ss) ≡ cons_option o rs ++ ss
    consed None rs ss = refl
    consed (Some r) rs ss = refl

-- one name more
pub next_record : (m : Cells) (names : List (List ℕ)) (i : ℕ) (name : List ℕ) (rs now : List OwnerRecord) (o : Option OwnerRecord) → i < length names → name ≡ get_or names i name
    → rs ≡ filter_map (at_name m) (take i names) → o ≡ at_name m name → now ≡ rs ++ cons_option o [] → now ≡ filter_map (at_name m) (take (i + 1) names)
next_record m names i name rs now o less is before found more =
    more ∙ (λ j. before j ++ cons_option (found j) []) ∙ sym (filter_more (at_name m) (take i names) name)
    ∙ ap (λ (x : List ℕ). filter_map (at_name m) (take i names ++ x ∷ [])) is ∙ ap (filter_map (at_name m)) (sym (take_more names i name less))
