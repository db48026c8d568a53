-- Memory has the names of the files and owners that stand among the cells, and so it counts them.
use Rattle.std.specs.Prelude.{Bool, true, false, cond, is_some, ◌&&◌, ◌==◌, Option, None, Some, option_map, sum_by, map as list_map}
use Rattle.std.specs.List.{filter_map, cons_option}
use Rattle.std.specs.declared.cmp.Ordering.{Ordering}
use Rattle.std.specs.Int.{bit_at}
use Rattle.std.specs.Ordering.{eq_by_cmp, is_eq, is_lt}
use Rattle.std.specs.Cmp.{IsTotalOrder}
use Rattle.std.specs.Cmp.Lexicographic.{nat_list_cmp_total}
use Rattle.std.specs.FinMap as map
use Rattle.std.specs.FinMap.{FinMap, IsAntisymmetric, find, entries_sorted, get-entries, len-entries}
use Rattle.std.specs.FinMap.Entries.{below_all, same_entries}
use Rattle.std.proofs.Math.Dec.{T}
use Rattle.std.proofs.Common.{◌≡◌, ℕ, ◌<◌, List, [], ◌∷◌, length, refl, sym, ◌∙◌, ap, subst, arith}
use Rattle.std.proofs.lemmas.List.{length-map}
use Rattle.std.proofs.lemmas.List.Sums.{sum_by-cons}
use Rattle.std.proofs.lemmas.Map.Lookups.{exact_bytes}
use Rattle.alp_base.specs.KeyLaws.{exact_files}
use Rattle.alp_base.specs.Keys.{key_cmp}
use Rattle.alp_base.specs.declared.ids.FileId.{FileId}
use Rattle.alp_base.specs.declared.key.Key.{Key}
use Rattle.alp_base.specs.declared.key.Key.TheVariants.{Leader, PageOf, OwnerOf}
use Rattle.alp_base.specs.declared.cell.Cell.{Cell}
use Rattle.alp_files.specs.Cells.{Cells}
use Rattle.alp_files.specs.Counts.{file_count_of, files_at, name_at, owner_count_of, owner_names_of}
use Rattle.alp_vault.specs.Volumes.{has_block_in}
use Rattle.alp_pages.specs.Counted.{bit}
use Rattle.alp_pages.specs.Nodes.{IndexOf}
use Rattle.alp_pages.specs.Pages.{Pages}
use Rattle.alp_pages.specs.Volume.{StandFor}
use Rattle.alp_volume.specs.declared.catalog.Catalog.{Catalog}
use Rattle.alp_tables.specs.declared.file_slot.FileSlot.{FileSlot}
use Rattle.alp_volume.specs.Known.{Knows, leader_of}
use Rattle.alp_volume.specs.Reached.{slot_of}
use Rattle.alp_pages.proofs.NodeLaws.{shaped_held}
use Rattle.alp_volume.proofs.PlanLaws.{starts_paged}
use Rattle.alp_tables.proofs.Tables.{files_total}

T-left : (a b : Bool) → T (a && b) → T a
T-left true b h = tt
T-left false b h = absurd h

T-right : (a b : Bool) → T (a && b) → T b
T-right true b h = h
T-right false b h = absurd h

T-both : (a b : Bool) → T a → T b → T (a && b)
T-both true b g h = h
T-both false b g h = absurd g

-- that there is something, and not what
abbrev there : {X : Type 0} → Option X → Option (Unit {0})
there o = option_map (λ x. tt) o

alike : {X Y : Type 0} (a : Option X) (b : Option Y) → is_some a ≡ is_some b → there a ≡ there b
alike None None e = refl
alike None (Some y) e = cc
alike (Some x) None e = cc
alike (Some x) (Some y) e = refl

abbrev and_then : {K : Type 0} → Option K → List (K × Unit {0}) → List (K × Unit {0})
and_then None es = es
and_then (Some k) es = (k, tt) ∷ es

-- the keys of a table alone
abbrev bare : {K X : Type 0} → List (K × X) → List (K × Unit {0})
bare [] = []
bare (e ∷ es) = (e.0, tt) ∷ bare es

module _ {K X : Type 0} (R : K → K → Ordering) where
  bare_below : (x : K) (es : List (K × X)) → below_all R x (bare es) ≡ below_all R x es
  bare_below x [] = refl
  bare_below x (e ∷ es) = ap (λ (t : Bool). is_lt (R x e.0) && t) (bare_below x es)

  bare_sorted : (es : List (K × X)) → map.is_sorted R (bare es) ≡ map.is_sorted R es
  bare_sorted [] = refl
  bare_sorted (e ∷ es) = ap (λ (t : Bool). t && map.is_sorted R (bare es)) (bare_below e.0 es) ∙ ap (λ (t : Bool). below_all R e.0 es && t) (bare_sorted es)

  bare_found : (q : K) (es : List (K × X)) → find R q (bare es) ≡ there (find R q es)
  bare_found q [] = refl
  bare_found q (e ∷ es) = go (eq_by_cmp R q e.0) (bare_found q es)
    where
      go : (t : Bool) → find R q (bare es) ≡ there (find R q es) → cond t (Some tt) (find R q (bare es)) ≡ there (cond t (Some e.1) (find R q es))
      go true rest = refl
      go false rest = rest

  bare_keys : (es : List (K × X)) → list_map (λ (e : K × Unit {0}). e.0) (bare es) ≡ list_map (λ (e : K × X). e.0) es
  bare_keys [] = refl
  bare_keys (e ∷ es) = ap (λ (ks : List K). e.0 ∷ ks) (bare_keys es)

-- ---- the keys of one kind, by their names

module _ {K : Type 0} {R : K → K → Ordering} (name : Key → Option K) (key : K → Key)
    (keys : (k : Key) (x : K) → name k ≡ Some x → k ≡ key x) (orders : (x y : K) → key_cmp (key x) (key y) ≡ R x y) (others : (x : K) (k : Key) → name k ≡ None → eq_by_cmp key_cmp (key x) k ≡ false) where
  abbrev picked : List (Key × Cell) → List (K × Unit {0})
  picked [] = []
  picked (e ∷ es) = and_then (name e.0) (picked es)

  picked_below : (x : K) (es : List (Key × Cell)) → T (below_all key_cmp (key x) es) → T (below_all R x (picked es))
  picked_below x [] h = tt
  picked_below x (e ∷ es) h = go (name e.0) refl (picked_below x es (T-right (is_lt (key_cmp (key x) e.0)) (below_all key_cmp (key x) es) h))
    where
      go : (o : Option K) → name e.0 ≡ o → T (below_all R x (picked es)) → T (below_all R x (and_then o (picked es)))
      go None d rest = rest
      go (Some y) d rest =
          let low : T (is_lt (key_cmp (key x) e.0)) = T-left (is_lt (key_cmp (key x) e.0)) (below_all key_cmp (key x) es) h in
          let lower : T (is_lt (key_cmp (key x) (key y))) = subst (λ (k : Key). T (is_lt (key_cmp (key x) k))) (keys e.0 y d) low in
          T-both (is_lt (R x y)) (below_all R x (picked es)) (subst (λ (r : Ordering). T (is_lt r)) (orders x y) lower) rest

  picked_sorted : (es : List (Key × Cell)) → T (map.is_sorted key_cmp es) → T (map.is_sorted R (picked es))
  picked_sorted [] h = tt
  picked_sorted (e ∷ es) h = go (name e.0) refl (picked_sorted es (T-right (below_all key_cmp e.0 es) (map.is_sorted key_cmp es) h))
    where
      go : (o : Option K) → name e.0 ≡ o → T (map.is_sorted R (picked es)) → T (map.is_sorted R (and_then o (picked es)))
      go None d rest = rest
      go (Some x) d rest =
          let low : T (below_all key_cmp e.0 es) = T-left (below_all key_cmp e.0 es) (map.is_sorted key_cmp es) h in
          T-both (below_all R x (picked es)) (map.is_sorted R (picked es)) (picked_below x es (subst (λ (k : Key). T (below_all key_cmp k es)) (keys e.0 x d) low)) rest

  picked_found : (q : K) (es : List (Key × Cell)) → find R q (picked es) ≡ there (find key_cmp (key q) es)
  picked_found q [] = refl
  picked_found q (e ∷ es) = go (name e.0) refl (picked_found q es)
    where
      go : (o : Option K) → name e.0 ≡ o → find R q (picked es) ≡ there (find key_cmp (key q) es) → find R q (and_then o (picked es)) ≡ there (cond (eq_by_cmp key_cmp (key q) e.0) (Some e.1) (find key_cmp (key q) es))
      go None d rest = rest ∙ sym (ap (λ (t : Bool). there (cond t (Some e.1) (find key_cmp (key q) es))) (others q e.0 d))
      go (Some x) d rest = either (eq_by_cmp R q x) ∙ ap (λ (t : Bool). there (cond t (Some e.1) (find key_cmp (key q) es))) (sym (ap (λ (k : Key). eq_by_cmp key_cmp (key q) k) (keys e.0 x d) ∙ ap is_eq (orders q x)))
        where
          either : (t : Bool) → cond t (Some tt) (find R q (picked es)) ≡ there (cond t (Some e.1) (find key_cmp (key q) es))
          either true = refl
          either false = rest

  picked_keys : (es : List (Key × Cell)) → list_map (λ (e : K × Unit {0}). e.0) (picked es) ≡ filter_map name (list_map (λ (e : Key × Cell). e.0) es)
  picked_keys [] = refl
  picked_keys (e ∷ es) = go (name e.0) (picked_keys es)
    where
      go : (o : Option K) → list_map (λ (x : K × Unit {0}). x.0) (picked es) ≡ filter_map name (list_map (λ (x : Key × Cell). x.0) es)
          → list_map (λ (x : K × Unit {0}). x.0) (and_then o (picked es)) ≡ cons_option o (filter_map name (list_map (λ (x : Key × Cell). x.0) es))
      go None rest = rest
      go (Some x) rest = ap (λ (ks : List K). x ∷ ks) rest

  -- a table that has the same names has them in the same order
  same_names : {X : Type 0} → IsTotalOrder R → IsAntisymmetric R → (table : FinMap R X) (m : Cells) → ((x : K) → is_some (map.get table x) ≡ is_some (map.get m (key x))) → map.keys table ≡ filter_map name (map.keys m)
  same_names {X} total exact table m same =
      let one : T (map.is_sorted R (bare (map.entries table))) = subst T (sym (bare_sorted R (map.entries table))) (entries_sorted table) in
      let two : T (map.is_sorted R (picked (map.entries m))) = picked_sorted (map.entries m) (entries_sorted m) in
      let found : (q : K) → find R q (bare (map.entries table)) ≡ find R q (picked (map.entries m)) = λ q. (
      bare_found R q (map.entries table) ∙ ap there (sym (get-entries table q)) ∙ alike (map.get table q) (map.get m (key q)) (same q) ∙ ap there (get-entries m (key q)) ∙ sym (picked_found q (map.entries m))
      ) in
      sym (bare_keys R (map.entries table)) ∙ ap (list_map (λ (e : K × Unit {0}). e.0)) (same_entries R total exact (bare (map.entries table)) (picked (map.entries m)) one two found) ∙ picked_keys (map.entries m)

owner_keys : (k : Key) (n : List ℕ) → name_at k ≡ Some n → k ≡ OwnerOf n
owner_keys (Leader f) n h = cc
owner_keys (PageOf f i) n h = cc
owner_keys (OwnerOf o) n h = let same : o ≡ n = cc in ap OwnerOf same

other_owners : (n : List ℕ) (k : Key) → name_at k ≡ None → eq_by_cmp key_cmp (OwnerOf n) k ≡ false
other_owners n (Leader f) h = refl
other_owners n (PageOf f i) h = refl
other_owners n (OwnerOf o) h = cc

abbrev file_at : Key → Option FileId
file_at (Leader f) = Some f
file_at (PageOf f n) = None
file_at (OwnerOf n) = None

file_keys : (k : Key) (f : FileId) → file_at k ≡ Some f → k ≡ Leader f
file_keys (Leader g) f h = let same : g ≡ f = cc in ap Leader same
file_keys (PageOf g i) f h = cc
file_keys (OwnerOf o) f h = cc

other_files : (f : FileId) (k : Key) → file_at k ≡ None → eq_by_cmp key_cmp (Leader f) k ≡ false
other_files f (Leader g) h = cc
other_files f (PageOf g i) h = refl
other_files f (OwnerOf o) h = refl

file_count : (es : List (Key × Cell)) → sum_by (λ (e : Key × Cell). files_at e.0) es ≡ length (filter_map file_at (list_map (λ (e : Key × Cell). e.0) es))
file_count [] = refl
file_count ((Leader f, c) ∷ es) = omega (arith, file_count es, sum_by-cons (λ (e : Key × Cell). files_at e.0) (Leader f, c) es)
file_count ((PageOf f n, c) ∷ es) = omega (arith, file_count es, sum_by-cons (λ (e : Key × Cell). files_at e.0) (PageOf f n, c) es)
file_count ((OwnerOf n, c) ∷ es) = omega (arith, file_count es, sum_by-cons (λ (e : Key × Cell). files_at e.0) (OwnerOf n, c) es)

mapped : {X Y : Type 0} (g : X → Y) (o : Option X) → is_some (option_map g o) ≡ is_some o
mapped g None = refl
mapped g (Some x) = refl

clash : (t : Bool) → t ≡ true → t ≡ false → ⊥
clash true e d = cc
clash false e d = cc

-- ---- what memory counts

module _ (home : ℕ) (at : Pages) (m : Cells) (stands : StandFor home at m) (c : Catalog) (knows : Knows home stands.volume c) where
  pub owners_named : map.keys c.owners ≡ owner_names_of m
  owners_named = same_names name_at OwnerOf owner_keys (λ x y. refl) other_owners nat_list_cmp_total exact_bytes c.owners m (λ n. ap is_some (knows.rows n) ∙ stands.spells.shape.owners n)

  pub owners_counted : map.len c.owners ≡ owner_count_of m
  owners_counted = len-entries c.owners ∙ sym (length-map (map.entries c.owners) (λ (e : List ℕ × ℕ). e.0)) ∙ ap length owners_named

  pub files_counted : map.len c.files ≡ file_count_of m
  files_counted =
      let names = same_names file_at Leader file_keys (λ x y. refl) other_files files_total exact_files c.files m (λ f. sym (mapped slot_of (map.get c.files f)) ∙ ap is_some (knows.slots f) ∙ stands.spells.shape.files f) in
      len-entries c.files ∙ sym (length-map (map.entries c.files) (λ e. e.0)) ∙ ap length names ∙ sym (file_count (map.entries m))

  bit_read : (t : Bool) → (bit t == 1) ≡ t
  bit_read true = refl
  bit_read false = refl

  pub block_known : (f : FileId) (b : ℕ) (x : FileSlot) → b < 32 → map.get c.files f ≡ Some x → (bit_at x.blocks b == 1) ≡ has_block_in m f b
  block_known f b x few is =
      ap (λ (n : ℕ). n == 1) (knows.blocks f x b is few) ∙ bit_read (is_some (stands.volume.places.of (IndexOf f b))) ∙ shaped_held home stands.volume m stands.spells.shape (IndexOf f b)

  -- a file that is not there has no index page
  pub block_unknown : (f : FileId) (b : ℕ) → map.get c.files f ≡ None → false ≡ has_block_in m f b
  block_unknown f b none = sym (go (stands.volume.places.of (IndexOf f b)) refl) ∙ shaped_held home stands.volume m stands.spells.shape (IndexOf f b)
    where
      absent : is_some (map.get m (Leader f)) ≡ false
      absent = sym (stands.spells.shape.leaders f) ∙ sym (ap is_some (knows.leaders f)) ∙ mapped leader_of (map.get c.files f) ∙ ap is_some none

      go : (o : Option ℕ) → stands.volume.places.of (IndexOf f b) ≡ o → is_some o ≡ false
      go None e = refl
      go (Some p) e =
          let n = stands.spells.shape.page f b p e in
          absurd (clash (is_some (map.get m (Leader f))) (starts_paged home at m stands f n.0 (sym (stands.spells.shape.pages f n.0) ∙ n.2)).1 absent)
