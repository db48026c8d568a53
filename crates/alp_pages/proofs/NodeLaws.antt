-- The nodes of a map of cells: how many there are, and that none stands twice.
use Rattle.std.specs.Prelude.{Bool, true, false, cond, ◌&&◌, ◌||◌, is_some, sum_by, Option, None, Some, map as list_map}
use Rattle.std.specs.List.{list_any, AllByRecursion}
use Rattle.std.specs.declared.cmp.Ordering.{Ordering}
use Rattle.std.specs.declared.cmp.Ordering.TheVariants.{Less, Equal, Greater}
use Rattle.std.specs.Ordering.{eq_by_cmp, is_lt, is_eq}
use Rattle.std.specs.FinMap as map
use Rattle.std.specs.FinMap.{contains_key-keys, entries_sorted, get-insert, get-empty, len-entries}
use Rattle.std.specs.FinMap.Entries.{below_all}
use Rattle.std.proofs.Math.Dec.{T}
use Rattle.std.proofs.Common.{◌≡◌, ℕ, ◌-◌, ◌*◌, ◌/◌, ◌%◌, List, [], ◌∷◌, ◌++◌, length, refl, sym, ◌∙◌, ap, subst, arith, eq-eqb}
use Rattle.std.proofs.lemmas.Bool.{and_from, cond-true}
use Rattle.std.proofs.lemmas.List.Sums.{sum_by-cons}
use Rattle.std.proofs.lemmas.List.{length-append, length-map}
use Rattle.alp_base.specs.declared.ids.FileId.{FileId}
use Rattle.alp_base.specs.declared.key.Key.{Key}
use Rattle.alp_base.specs.declared.key.Key.TheVariants.{Leader, PageOf, OwnerOf}
use Rattle.alp_base.specs.Keys.{key_cmp}
use Rattle.alp_base.specs.KeyLaws.{keys_total}
use Rattle.alp_base.specs.declared.cell.Cell.{Cell}
use Rattle.alp_files.specs.Cells.{Cells, same_file}
use Rattle.alp_files.specs.Counts.{blocks_of, block_of, places_at, used_of}
use Rattle.alp_files.proofs.SameLemmas.{same_file-itself, same_page_key, same_key-itself, same_key-true}
use Rattle.alp_pages.specs.Nodes.{Node, LeaderOf, IndexOf, DataOf, same_node}
use Rattle.alp_pages.specs.Counted.{AreApart, nodes_in, indices_in, nodes_of, is_held, is_among, taken_places}
use Rattle.alp_pages.specs.Naming.{IsNaming}
use Rattle.alp_pages.specs.Volume.{Volume, IsShaped}
use Rattle.alp_pages.proofs.CountLaws.{count-names, count-same}
use Rattle.alp_pages.proofs.NodeTests.{nodes_tell, same_index, leaders_alike, pages_alike}
use Rattle.alp_pages.proofs.FetchLaws.{there_is}

abbrev is_key : Key → Key → Bool
is_key = eq_by_cmp key_cmp

keys_of : {X : Type 0} → List (Key × X) → List Key
keys_of es = list_map (λ e. e.0) es

-- ---- keys of a map stand apart

first : (a b : Bool) → T (a && b) → T a
first true b h = tt
first false b h = absurd h

second : (a b : Bool) → T (a && b) → T b
second true b h = h
second false b h = absurd h

below_any : {X : Type 0} (k : Key) (es : List (Key × X)) → T (below_all key_cmp k es) → list_any (is_key k) (list_map (λ e. e.0) es) ≡ false
below_any k [] h = refl
below_any k (e ∷ es) h = go (key_cmp k e.0) refl (below_any k es (second _ _ h))
  where
    go : (r : Ordering) → key_cmp k e.0 ≡ r → list_any (is_key k) (list_map (λ e. e.0) es) ≡ false → (is_key k e.0 || list_any (is_key k) (list_map (λ e. e.0) es)) ≡ false
    go Less p rest = ap (λ (o : Ordering). is_eq o || list_any (is_key k) (list_map (λ e. e.0) es)) p ∙ rest
    go Equal p rest = absurd (subst (λ (o : Ordering). T (is_lt o)) p (first _ _ h))
    go Greater p rest = ap (λ (o : Ordering). is_eq o || list_any (is_key k) (list_map (λ e. e.0) es)) p ∙ rest

sorted_apart : {X : Type 0} (es : List (Key × X)) → T (map.is_sorted key_cmp es) → AreApart is_key (list_map (λ e. e.0) es)
sorted_apart [] h = tt
sorted_apart (e ∷ es) h = (below_any e.0 es (first _ _ h), sorted_apart es (second _ _ h))

keys_apart : {X : Type 0} (m : map.FinMap key_cmp X) → AreApart is_key (map.keys m)
keys_apart m = sorted_apart (map.entries m) (entries_sorted m)

-- ---- tests of nodes and of keys

any_leader : (f : FileId) (ks : List Key) → list_any (same_node (LeaderOf f)) (nodes_in ks) ≡ list_any (is_key (Leader f)) ks
any_leader f [] = refl
any_leader f (Leader g ∷ ks) = ap (λ (t : Bool). t || list_any (same_node (LeaderOf f)) (nodes_in ks)) (leaders_alike f g) ∙ ap (λ (t : Bool). is_key (Leader f) (Leader g) || t) (any_leader f ks)
any_leader f (PageOf g n ∷ ks) = any_leader f ks
any_leader f (OwnerOf o ∷ ks) = any_leader f ks

any_page : (f : FileId) (n : ℕ) (ks : List Key) → list_any (same_node (DataOf f n)) (nodes_in ks) ≡ list_any (is_key (PageOf f n)) ks
any_page f n [] = refl
any_page f n (Leader g ∷ ks) = any_page f n ks
any_page f n (PageOf g j ∷ ks) = ap (λ (t : Bool). t || list_any (same_node (DataOf f n)) (nodes_in ks)) (pages_alike f g n j) ∙ ap (λ (t : Bool). is_key (PageOf f n) (PageOf g j) || t) (any_page f n ks)
any_page f n (OwnerOf o ∷ ks) = any_page f n ks

no_index : (f : FileId) (b : ℕ) (ks : List Key) → list_any (same_node (IndexOf f b)) (nodes_in ks) ≡ false
no_index f b [] = refl
no_index f b (Leader g ∷ ks) = no_index f b ks
no_index f b (PageOf g j ∷ ks) = no_index f b ks
no_index f b (OwnerOf o ∷ ks) = no_index f b ks

nodes_apart : (ks : List Key) → AreApart is_key ks → AreApart same_node (nodes_in ks)
nodes_apart [] h = tt
nodes_apart (Leader g ∷ ks) h = (any_leader g ks ∙ h.0, nodes_apart ks h.1)
nodes_apart (PageOf g j ∷ ks) h = (any_page g j ks ∙ h.0, nodes_apart ks h.1)
nodes_apart (OwnerOf o ∷ ks) h = nodes_apart ks h.1

nodes_count : (es : List (Key × Cell)) → length (nodes_in (list_map (λ e. e.0) es)) ≡ sum_by (λ (e : Key × Cell). places_at e.0) es
nodes_count [] = refl
nodes_count ((Leader f, c) ∷ es) = let rest = nodes_count es in omega (arith, rest, sum_by-cons (λ (e : Key × Cell). places_at e.0) (Leader f, c) es)
nodes_count ((PageOf f n, c) ∷ es) = let rest = nodes_count es in omega (arith, rest, sum_by-cons (λ (e : Key × Cell). places_at e.0) (PageOf f n, c) es)
nodes_count ((OwnerOf o, c) ∷ es) = let rest = nodes_count es in omega (arith, rest, sum_by-cons (λ (e : Key × Cell). places_at e.0) (OwnerOf o, c) es)

-- ---- blocks

abbrev IsBlockKey : Key → Type 0
IsBlockKey (Leader f) = ⊥
IsBlockKey (PageOf f n) = n % 128 ≡ 0
IsBlockKey (OwnerOf o) = ⊥

abbrev AreBlocks : List Key → Type 0
AreBlocks ks = AllByRecursion IsBlockKey ks

any_block : (f : FileId) (b : ℕ) (ks : List Key) → AreBlocks ks → list_any (same_node (IndexOf f b)) (indices_in ks) ≡ list_any (is_key (PageOf f (128 * b))) ks
any_block f b [] h = refl
any_block f b (Leader g ∷ ks) h = absurd h.0
any_block f b (OwnerOf o ∷ ks) h = absurd h.0
any_block f b (PageOf g n ∷ ks) h = go (same_node (IndexOf f b) (IndexOf g (n / 128))) refl (is_key (PageOf f (128 * b)) (PageOf g n)) refl (any_block f b ks h.1)
  where
    go : (t : Bool) → same_node (IndexOf f b) (IndexOf g (n / 128)) ≡ t → (u : Bool) → is_key (PageOf f (128 * b)) (PageOf g n) ≡ u → list_any (same_node (IndexOf f b)) (indices_in ks) ≡ list_any (is_key (PageOf f (128 * b))) ks
        → (same_node (IndexOf f b) (IndexOf g (n / 128)) || list_any (same_node (IndexOf f b)) (indices_in ks)) ≡ (is_key (PageOf f (128 * b)) (PageOf g n) || list_any (is_key (PageOf f (128 * b))) ks)
    go true e true d rest = ap (λ (t : Bool). t || list_any (same_node (IndexOf f b)) (indices_in ks)) e ∙ sym (ap (λ (t : Bool). t || list_any (is_key (PageOf f (128 * b))) ks) d)
    go false e false d rest = ap (λ (t : Bool). t || list_any (same_node (IndexOf f b)) (indices_in ks)) e ∙ rest ∙ sym (ap (λ (t : Bool). t || list_any (is_key (PageOf f (128 * b))) ks) d)
    go true e false d rest =
        let same = same_index f g b (n / 128) e in
        let zero_rest : n % 128 ≡ 0 = h.0 in
        let number : 128 * b ≡ n = omega (arith, same.1, zero_rest) in
        let key : PageOf f (128 * b) ≡ PageOf g n = λ i. PageOf (same.0 i) (number i) in
        let yes : is_key (PageOf f (128 * b)) (PageOf g n) ≡ true = ap (λ (k : Key). is_key k (PageOf g n)) key ∙ same_key-itself (PageOf g n) in cc
    go false e true d rest =
        let same = same_page_key f g (128 * b) n d in
        let number : b ≡ n / 128 = omega (arith, same.1) in
        let yes : same_node (IndexOf f b) (IndexOf g (n / 128)) ≡ true = and_from _ _ (ap (λ (x : FileId). same_file x g) same.0 ∙ same_file-itself g) (eq-eqb b (n / 128) number) in cc

indices_apart : (ks : List Key) → AreBlocks ks → AreApart is_key ks → AreApart same_node (indices_in ks)
indices_apart [] b h = tt
indices_apart (Leader g ∷ ks) b h = absurd b.0
indices_apart (OwnerOf o ∷ ks) b h = absurd b.0
indices_apart (PageOf g n ∷ ks) b h =
    let zero_rest : n % 128 ≡ 0 = b.0 in
    let number : 128 * (n / 128) ≡ n = omega (arith, zero_rest) in
    (any_block g (n / 128) ks b.1 ∙ ap (λ (x : ℕ). list_any (is_key (PageOf g x)) ks) number ∙ h.0, indices_apart ks b.1 h.1)

indices_count : (ks : List Key) → AreBlocks ks → length (indices_in ks) ≡ length ks
indices_count [] b = refl
indices_count (Leader g ∷ ks) b = absurd b.0
indices_count (OwnerOf o ∷ ks) b = absurd b.0
indices_count (PageOf g n ∷ ks) b = let rest = indices_count ks b.1 in omega (arith, rest)

-- the keys of the blocks are first pages of blocks
block_key : (es : List (Key × Cell)) (k : Key) → map.contains_key (blocks_of es) k ≡ true → IsBlockKey k
block_key [] k h = let none : is_some (map.get (map.empty {X = Unit {0}} {R = key_cmp}) k) ≡ false = ap is_some (get-empty key_cmp k) in cc
block_key ((Leader f, c) ∷ es) k h = block_key es k h
block_key ((OwnerOf o, c) ∷ es) k h = block_key es k h
block_key ((PageOf f n, c) ∷ es) k h = go (is_key k (block_of f n)) refl (block_key es k) (sym (ap is_some (get-insert keys_total (blocks_of es) (block_of f n) tt k)) ∙ h)
  where
    go : (t : Bool) → is_key k (block_of f n) ≡ t → (map.contains_key (blocks_of es) k ≡ true → IsBlockKey k) → is_some (cond t (Some tt) (map.get (blocks_of es) k)) ≡ true → IsBlockKey k
    go true e rest x = let same : k ≡ block_of f n = same_key-true k (block_of f n) e in let number : (n - n % 128) % 128 ≡ 0 = omega arith in subst IsBlockKey (sym same) number
    go false e rest x = rest x

all_from : (P : Key → Type 0) (ks : List Key) → ((k : Key) → list_any (is_key k) ks ≡ true → P k) → AllByRecursion P ks
all_from P [] h = tt
all_from P (k ∷ ks) h = (h k (ap (λ (t : Bool). t || list_any (is_key k) ks) (same_key-itself k)), all_from P ks (λ j e. h j (later (is_key j k) e)))
  where
    later : {x : Bool} (t : Bool) → x ≡ true → (t || x) ≡ true
    later true e = refl
    later false e = e

pub are_blocks : (es : List (Key × Cell)) → AreBlocks (map.keys (blocks_of es))
are_blocks es = all_from IsBlockKey (map.keys (blocks_of es)) (λ k e. block_key es k (contains_key-keys (blocks_of es) k ∙ e))

-- ---- all of them

any_append : (k : Node) (xs ys : List Node) → list_any (same_node k) (xs ++ ys) ≡ (list_any (same_node k) xs || list_any (same_node k) ys)
any_append k [] ys = refl
any_append k (x ∷ xs) ys = ap (λ (t : Bool). same_node k x || t) (any_append k xs ys) ∙ go (same_node k x)
  where
    go : (t : Bool) → (t || (list_any (same_node k) xs || list_any (same_node k) ys)) ≡ ((t || list_any (same_node k) xs) || list_any (same_node k) ys)
    go true = refl
    go false = refl

or_false : (t : Bool) → (t || false) ≡ t
or_false true = refl
or_false false = refl

no_leader : (f : FileId) (ks : List Key) → list_any (same_node (LeaderOf f)) (indices_in ks) ≡ false
no_leader f [] = refl
no_leader f (Leader g ∷ ks) = no_leader f ks
no_leader f (PageOf g j ∷ ks) = no_leader f ks
no_leader f (OwnerOf o ∷ ks) = no_leader f ks

no_page : (f : FileId) (n : ℕ) (ks : List Key) → list_any (same_node (DataOf f n)) (indices_in ks) ≡ false
no_page f n [] = refl
no_page f n (Leader g ∷ ks) = no_page f n ks
no_page f n (PageOf g j ∷ ks) = no_page f n ks
no_page f n (OwnerOf o ∷ ks) = no_page f n ks

apart_append : (ks js : List Key) → AreApart same_node (nodes_in ks) → AreApart same_node (indices_in js) → AreApart same_node (nodes_in ks ++ indices_in js)
apart_append [] js a b = b
apart_append (Leader f ∷ ks) js a b = (any_append (LeaderOf f) (nodes_in ks) (indices_in js) ∙ ap (λ (t : Bool). t || list_any (same_node (LeaderOf f)) (indices_in js)) a.0 ∙ no_leader f js, apart_append ks js a.1 b)
apart_append (PageOf f n ∷ ks) js a b = (any_append (DataOf f n) (nodes_in ks) (indices_in js) ∙ ap (λ (t : Bool). t || list_any (same_node (DataOf f n)) (indices_in js)) a.0 ∙ no_page f n js, apart_append ks js a.1 b)
apart_append (OwnerOf o ∷ ks) js a b = apart_append ks js a b

among : (m : Cells) (k : Node) → list_any (same_node k) (nodes_of m) ≡ is_held m k
among m (LeaderOf f) =
    any_append (LeaderOf f) (nodes_in (map.keys m)) (indices_in (map.keys (blocks_of (map.entries m))))
    ∙ ap (λ (t : Bool). list_any (same_node (LeaderOf f)) (nodes_in (map.keys m)) || t) (no_leader f (map.keys (blocks_of (map.entries m)))) ∙ or_false _
    ∙ any_leader f (map.keys m) ∙ sym (contains_key-keys m (Leader f))
among m (DataOf f n) =
    any_append (DataOf f n) (nodes_in (map.keys m)) (indices_in (map.keys (blocks_of (map.entries m))))
    ∙ ap (λ (t : Bool). list_any (same_node (DataOf f n)) (nodes_in (map.keys m)) || t) (no_page f n (map.keys (blocks_of (map.entries m)))) ∙ or_false _
    ∙ any_page f n (map.keys m) ∙ sym (contains_key-keys m (PageOf f n))
among m (IndexOf f b) =
    any_append (IndexOf f b) (nodes_in (map.keys m)) (indices_in (map.keys (blocks_of (map.entries m))))
    ∙ ap (λ (t : Bool). t || list_any (same_node (IndexOf f b)) (indices_in (map.keys (blocks_of (map.entries m))))) (no_index f b (map.keys m))
    ∙ any_block f b (map.keys (blocks_of (map.entries m))) (are_blocks (map.entries m)) ∙ sym (contains_key-keys (blocks_of (map.entries m)) (PageOf f (128 * b)))

all_nodes : (P : Node → Type 0) (ks : List Node) → ((k : Node) → list_any (same_node k) ks ≡ true → P k) → AllByRecursion P ks
all_nodes P [] h = tt
all_nodes P (k ∷ ks) h = (h k (ap (λ (t : Bool). t || list_any (same_node k) ks) (nodes_tell.itself k)), all_nodes P ks (λ j e. h j (later (same_node j k) e)))
  where
    later : {x : Bool} (t : Bool) → x ≡ true → (t || x) ≡ true
    later true e = refl
    later false e = e

-- where just the nodes of the map have places, as many places are taken as it needs
pub taken-used : (home : ℕ) (v : Volume) (m : Cells) → IsNaming 257 home v.places → ((k : Node) → is_some (v.places.of k) ≡ is_held m k) → taken_places home v ≡ used_of m
taken-used home v m is held =
    let apart_ : AreApart same_node (nodes_of m) = apart_append (map.keys m) (map.keys (blocks_of (map.entries m))) (nodes_apart (map.keys m) (keys_apart m))
    (indices_apart (map.keys (blocks_of (map.entries m))) (are_blocks (map.entries m)) (keys_apart (blocks_of (map.entries m)))) in
    let named = all_nodes (λ (k : Node). (p : ℕ) × (v.places.of k ≡ Some p)) (nodes_of m) (λ k e. there_is (v.places.of k) (held k ∙ sym (among m k) ∙ e)) in
    let count = count-names nodes_tell v.places is (nodes_of m) apart_ named in
    let same = count-same (λ p. is_some (v.places.at p)) (λ p. is_among same_node (nodes_of m) (v.places.at p)) home (λ p low. alike p (v.places.at p) refl) in
    let long = length-append (nodes_in (map.keys m)) (indices_in (map.keys (blocks_of (map.entries m)))) in
    let leaders_and_pages = nodes_count (map.entries m) in
    let indices = indices_count (map.keys (blocks_of (map.entries m))) (are_blocks (map.entries m)) in
    omega (arith, count, same, long, leaders_and_pages, indices, length-map (map.entries (blocks_of (map.entries m))) (λ (e : Key × Unit {0}). e.0), len-entries (blocks_of (map.entries m)))
  where
    alike : (p : ℕ) (o : Option Node) → v.places.at p ≡ o → is_some o ≡ is_among same_node (nodes_of m) o
    alike p None e = refl
    alike p (Some k) e = sym (among m k ∙ sym (held k) ∙ ap is_some (is.back p k e))

-- ---- a block has an index page just where it has a page

-- a block that is there stays there with more pages
block_stays : (e : Key × Cell) (es : List (Key × Cell)) (k : Key) → map.contains_key (blocks_of es) k ≡ true → map.contains_key (blocks_of (e ∷ es)) k ≡ true
block_stays (Leader f, c) es k h = h
block_stays (OwnerOf o, c) es k h = h
block_stays (PageOf f n, c) es k h = ap is_some (get-insert keys_total (blocks_of es) (block_of f n) tt k) ∙ go (is_key k (block_of f n))
  where
    go : (t : Bool) → is_some (cond t (Some tt) (map.get (blocks_of es) k)) ≡ true
    go true = refl
    go false = h

page_block : (f : FileId) (n : ℕ) (es : List (Key × Cell)) → list_any (is_key (PageOf f n)) (list_map (λ e. e.0) es) ≡ true → map.contains_key (blocks_of es) (PageOf f (128 * (n / 128))) ≡ true
page_block f n [] h = cc
page_block f n ((Leader g, c) ∷ es) h = page_block f n es h
page_block f n ((OwnerOf o, c) ∷ es) h = page_block f n es h
page_block f n ((PageOf g j, c) ∷ es) h = go (is_key (PageOf f n) (PageOf g j)) refl (page_block f n es) h
  where
    go : (t : Bool) → is_key (PageOf f n) (PageOf g j) ≡ t → (list_any (is_key (PageOf f n)) (list_map (λ e. e.0) es) ≡ true → map.contains_key (blocks_of es) (PageOf f (128 * (n / 128))) ≡ true) → (t || list_any (is_key (PageOf f n)) (list_map (λ e. e.0) es)) ≡ true → map.contains_key (blocks_of ((PageOf g j, c) ∷ es)) (PageOf f (128 * (n / 128))) ≡ true
    go true e rest x =
        let same = same_page_key f g n j e in
        let first : 128 * (n / 128) ≡ j - j % 128 = omega (arith, same.1) in
        let key : PageOf f (128 * (n / 128)) ≡ block_of g j = λ i. PageOf (same.0 i) (first i) in
        ap is_some (get-insert keys_total (blocks_of es) (block_of g j) tt (PageOf f (128 * (n / 128)))
        ∙ cond-true (is_key (PageOf f (128 * (n / 128))) (block_of g j)) (Some tt) _ (ap (λ (k : Key). is_key k (block_of g j)) key ∙ same_key-itself (block_of g j)))
    go false e rest x = block_stays (PageOf g j, c) es (PageOf f (128 * (n / 128))) (rest x)

later : {x : Bool} (t : Bool) → x ≡ true → (t || x) ≡ true
later true e = refl
later false e = e

block_page : (f : FileId) (b : ℕ) (es : List (Key × Cell)) → map.contains_key (blocks_of es) (PageOf f (128 * b)) ≡ true → (n : ℕ) × (n / 128 ≡ b) × (list_any (is_key (PageOf f n)) (list_map (λ e. e.0) es) ≡ true)
block_page f b [] h = let none : is_some (map.get (map.empty {X = Unit {0}} {R = key_cmp}) (PageOf f (128 * b))) ≡ false = ap is_some (get-empty key_cmp (PageOf f (128 * b))) in cc
block_page f b ((Leader g, c) ∷ es) h = let rest = block_page f b es h in (rest.0, rest.1, rest.2)
block_page f b ((OwnerOf o, c) ∷ es) h = let rest = block_page f b es h in (rest.0, rest.1, rest.2)
block_page f b ((PageOf g j, c) ∷ es) h = go (is_key (PageOf f (128 * b)) (block_of g j)) refl (block_page f b es) (sym (ap is_some (get-insert keys_total (blocks_of es) (block_of g j) tt (PageOf f (128 * b)))) ∙ h)
  where
    go : (t : Bool) → is_key (PageOf f (128 * b)) (block_of g j) ≡ t
        → (map.contains_key (blocks_of es) (PageOf f (128 * b)) ≡ true → (n : ℕ) × (n / 128 ≡ b) × (list_any (is_key (PageOf f n)) (list_map (λ e. e.0) es) ≡ true)) → is_some (cond t (Some tt) (map.get (blocks_of es) (PageOf f (128 * b)))) ≡ true
        → (n : ℕ) × (n / 128 ≡ b) × (list_any (is_key (PageOf f n)) (list_map (λ e. e.0) ((PageOf g j, c) ∷ es)) ≡ true)
    go true e later_ x =
        let same = same_page_key f g (128 * b) (j - j % 128) e in (
          j,
          omega (arith, same.1),
          ap (λ (y : FileId). is_key (PageOf y j) (PageOf g j) || list_any (is_key (PageOf y j)) (list_map (λ e. e.0) es)) same.0
              ∙ ap (λ (t : Bool). t || list_any (is_key (PageOf g j)) (list_map (λ e. e.0) es)) (same_key-itself (PageOf g j)),
        )
    go false e later_ x =
        let rest = later_ x in
        (rest.0, rest.1, later (is_key (PageOf f rest.0) (PageOf g j)) rest.2)

pub same_bits : (a b : Bool) → (a ≡ true → b ≡ true) → (b ≡ true → a ≡ true) → a ≡ b
same_bits true true f g = refl
same_bits false false f g = refl
same_bits true false f g = sym (f refl)
same_bits false true f g = g refl

-- just the nodes of the cells have places
pub shaped_held : (home : ℕ) (v : Volume) (m : Cells) → IsShaped home v (map.get m) → (k : Node) → is_some (v.places.of k) ≡ is_held m k
shaped_held home v m s (LeaderOf f) = s.leaders f
shaped_held home v m s (DataOf f n) = s.pages f n
shaped_held home v m s (IndexOf f b) = same_bits _ _ there back
  where
    there : is_some (v.places.of (IndexOf f b)) ≡ true → map.contains_key (blocks_of (map.entries m)) (PageOf f (128 * b)) ≡ true
    there h =
        let p = there_is (v.places.of (IndexOf f b)) h in
        let n = s.page f b p.0 p.1 in
        ap (λ (x : ℕ). map.contains_key (blocks_of (map.entries m)) (PageOf f (128 * x))) (sym n.1)
        ∙ page_block f n.0 (map.entries m) (sym (contains_key-keys m (PageOf f n.0)) ∙ sym (s.pages f n.0) ∙ n.2)

    back : map.contains_key (blocks_of (map.entries m)) (PageOf f (128 * b)) ≡ true → is_some (v.places.of (IndexOf f b)) ≡ true
    back h =
        let n = block_page f b (map.entries m) h in
        let d = there_is (v.places.of (DataOf f n.0)) (s.pages f n.0 ∙ contains_key-keys m (PageOf f n.0) ∙ n.2) in
        ap (λ (x : ℕ). is_some (v.places.of (IndexOf f x))) (sym n.1) ∙ s.block f n.0 d.0 d.1
