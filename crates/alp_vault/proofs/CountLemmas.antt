-- counts of a map of cells when one cell comes or goes
use Rattle.std.specs.Prelude.{Option, None, Some, cond, Bool, true, false, is_some, sum_by}
use Rattle.std.specs.declared.cmp.Ordering.{Ordering}
use Rattle.std.specs.declared.cmp.Ordering.TheVariants.{Less, Equal, Greater}
use Rattle.std.specs.Ordering.{eq_by_cmp}
use Rattle.std.specs.FinMap as map
use Rattle.std.specs.FinMap.{get-insert, get-remove, get-entries, entries-insert, same_map, len-insert, find, get-empty, len-empty, len-entries}
use Rattle.std.specs.FinMap.Entries.{put, by_order}
use Rattle.std.proofs.Common.{◌≡◌, ℕ, Bor, option_copied, ◌+◌, ◌-◌, ◌%◌, ◌≤◌, List, [], ◌∷◌, refl, sym, ◌∙◌, ap, subst, arith}
use Rattle.std.proofs.lemmas.List.{nil_from_length}
use Rattle.alp_base.specs.declared.ids.FileId.{FileId}
use Rattle.alp_base.specs.declared.key.Key.{Key}
use Rattle.alp_base.specs.declared.key.Key.TheVariants.{Leader, PageOf, OwnerOf}
use Rattle.alp_base.specs.Keys.{key_cmp}
use Rattle.alp_base.specs.KeyLaws.{keys_total, exact_keys}
use Rattle.alp_base.specs.declared.cell.Cell.{Cell}
use Rattle.alp_files.specs.Cells.{Cells}
use Rattle.alp_files.specs.Counts.{Blocks, blocks_of, block_of, with_block, used_of, file_count_of, files_at, places_at, APageStands}
use Rattle.alp_files.proofs.SumLemmas.{weight_at, sum-insert}
use Rattle.alp_files.proofs.SameLemmas.{same_key-true, same_key-itself, same_page_key}
use Rattle.alp_vault.specs.Counted.{AreCounts, places_with}

-- ---- blocks

twice : (m : Blocks) (b : Key) → map.insert (map.insert m b tt) b tt ≡ map.insert m b tt
twice m b = same_map keys_total exact_keys _ _ (λ q.
    get-insert keys_total (map.insert m b tt) b tt q ∙ ap (cond (eq_by_cmp key_cmp q b) (Some tt)) (get-insert keys_total m b tt q)
    ∙ go (eq_by_cmp key_cmp q b) (map.get m q) ∙ sym (get-insert keys_total m b tt q))
  where
    go : (t : Bool) (o : Option (Unit {0})) → cond t (Some tt) (cond t (Some tt) o) ≡ cond t (Some tt) o
    go true o = refl
    go false o = refl

swapped : (m : Blocks) (a b : Key) → map.insert (map.insert m a tt) b tt ≡ map.insert (map.insert m b tt) a tt
swapped m a b = same_map keys_total exact_keys _ _ (λ q.
    get-insert keys_total (map.insert m a tt) b tt q ∙ ap (cond (eq_by_cmp key_cmp q b) (Some tt)) (get-insert keys_total m a tt q)
    ∙ go (eq_by_cmp key_cmp q a) (eq_by_cmp key_cmp q b) (map.get m q)
    ∙ sym (get-insert keys_total (map.insert m b tt) a tt q ∙ ap (cond (eq_by_cmp key_cmp q a) (Some tt)) (get-insert keys_total m b tt q)))
  where
    go : (s t : Bool) (o : Option (Unit {0})) → cond t (Some tt) (cond s (Some tt) o) ≡ cond s (Some tt) (cond t (Some tt) o)
    go true true o = refl
    go true false o = refl
    go false true o = refl
    go false false o = refl

with_block-twice : (k : Key) (m : Blocks) → with_block k (with_block k m) ≡ with_block k m
with_block-twice (Leader f) m = refl
with_block-twice (PageOf f n) m = twice m (block_of f n)
with_block-twice (OwnerOf o) m = refl

with_block-swap : (k q : Key) (m : Blocks) → with_block q (with_block k m) ≡ with_block k (with_block q m)
with_block-swap (Leader f) q m = refl
with_block-swap (OwnerOf o) q m = refl
with_block-swap (PageOf f n) (Leader g) m = refl
with_block-swap (PageOf f n) (OwnerOf o) m = refl
with_block-swap (PageOf f n) (PageOf g j) m = swapped m (block_of f n) (block_of g j)

-- one entry more
blocks-put : (k : Key) (c : Cell) (es : List (Key × Cell)) → blocks_of (put key_cmp k c es) ≡ with_block k (blocks_of es)
blocks-put k c [] = refl
blocks-put k c (e ∷ es) = go (key_cmp k e.0) refl (blocks-put k c es)
  where
    go : (r : Ordering) → key_cmp k e.0 ≡ r → blocks_of (put key_cmp k c es) ≡ with_block k (blocks_of es)
        → blocks_of (by_order r ((k, c) ∷ e ∷ es) ((e.0, c) ∷ es) (e ∷ put key_cmp k c es)) ≡ with_block k (blocks_of (e ∷ es))
    go Less p i = refl
    go Equal p i =
        sym (with_block-twice e.0 (blocks_of es)) ∙ ap (λ (q : Key). with_block q (with_block e.0 (blocks_of es))) (sym (exact_keys k e.0 p))
    go Greater p i = ap (with_block e.0) i ∙ with_block-swap k e.0 (blocks_of es)

pub blocks-insert : (m : Cells) (k : Key) (c : Cell) → blocks_of (map.entries (map.insert m k c)) ≡ with_block k (blocks_of (map.entries m))
blocks-insert m k c = ap blocks_of (entries-insert keys_total m k c) ∙ blocks-put k c (map.entries m)

-- a page's block has a page
kept_block : (k b : Key) (m : Blocks) → map.contains_key m b ≡ true → map.contains_key (with_block k m) b ≡ true
kept_block (Leader f) b m h = h
kept_block (OwnerOf o) b m h = h
kept_block (PageOf f n) b m h = ap is_some (get-insert keys_total m (block_of f n) tt b) ∙ go (eq_by_cmp key_cmp b (block_of f n))
  where
    go : (t : Bool) → is_some (cond t (Some tt) (map.get m b)) ≡ true
    go true = refl
    go false = h

block_at : (f : FileId) (n : ℕ) (m : Blocks) → map.contains_key (with_block (PageOf f n) m) (block_of f n) ≡ true
block_at f n m = ap is_some (get-insert keys_total m (block_of f n) tt (block_of f n)) ∙ ap (λ (t : Bool). is_some (cond t (Some tt) (map.get m (block_of f n)))) (same_key-itself (block_of f n))

pub found_block : (es : List (Key × Cell)) (f : FileId) (n : ℕ) → is_some (find key_cmp (PageOf f n) es) ≡ true → map.contains_key (blocks_of es) (block_of f n) ≡ true
found_block [] f n h = cc
found_block (e ∷ es) f n h = go (eq_by_cmp key_cmp (PageOf f n) e.0) refl (found_block es f n) h
  where
    go : (t : Bool) → eq_by_cmp key_cmp (PageOf f n) e.0 ≡ t → (is_some (find key_cmp (PageOf f n) es) ≡ true → map.contains_key (blocks_of es) (block_of f n) ≡ true)
        → is_some (cond t (Some e.1) (find key_cmp (PageOf f n) es)) ≡ true → map.contains_key (with_block e.0 (blocks_of es)) (block_of f n) ≡ true
    go true p rest i = subst (λ (q : Key). map.contains_key (with_block q (blocks_of es)) (block_of f n) ≡ true) (same_key-true (PageOf f n) e.0 p) (block_at f n (blocks_of es))
    go false p rest i = kept_block e.0 (block_of f n) (blocks_of es) (rest i)

-- a block that has a page has one of these
pub record APage (es : List (Key × Cell)) (f : FileId) (b : ℕ) : Type 0 where
  pub number : ℕ
  pub there : is_some (find key_cmp (PageOf f number) es) ≡ true
  pub block : number - number % 128 ≡ b

behind : (e : Key × Cell) (es : List (Key × Cell)) (f : FileId) (b : ℕ) → APage es f b → APage (e ∷ es) f b
behind e es f b a = record { number = a.number; there = go (eq_by_cmp key_cmp (PageOf f a.number) e.0); block = a.block }
  where
    go : (t : Bool) → is_some (cond t (Some e.1) (find key_cmp (PageOf f a.number) es)) ≡ true
    go true = refl
    go false = a.there

page_of_block : (es : List (Key × Cell)) (f : FileId) (b : ℕ) → map.contains_key (blocks_of es) (PageOf f b) ≡ true → APage es f b
page_of_block [] f b h = let none : is_some (map.get (map.empty {X = Unit {0}} {R = key_cmp}) (PageOf f b)) ≡ false = ap is_some (get-empty key_cmp (PageOf f b)) in cc
page_of_block ((Leader g, c) ∷ es) f b h = behind (Leader g, c) es f b (page_of_block es f b h)
page_of_block ((OwnerOf o, c) ∷ es) f b h = behind (OwnerOf o, c) es f b (page_of_block es f b h)
page_of_block ((PageOf g j, c) ∷ es) f b h = go (eq_by_cmp key_cmp (PageOf f b) (block_of g j)) refl (page_of_block es f b) (ap is_some (sym (get-insert keys_total (blocks_of es) (block_of g j) tt (PageOf f b))) ∙ h)
  where
    go : (t : Bool) → eq_by_cmp key_cmp (PageOf f b) (block_of g j) ≡ t → (map.contains_key (blocks_of es) (PageOf f b) ≡ true → APage es f b)
        → is_some (cond t (Some tt) (map.get (blocks_of es) (PageOf f b))) ≡ true → APage ((PageOf g j, c) ∷ es) f b
    go true p rest i =
        let same = same_page_key f g b (j - j % 128) p in
        record {
          number = j;
          there = ap (λ (t : Bool). is_some (cond t (Some c) (find key_cmp (PageOf f j) es))) (ap (λ (x : FileId). eq_by_cmp key_cmp (PageOf f j) (PageOf x j)) (sym same.0) ∙ same_key-itself (PageOf f j));
          block = sym same.1;
        }
    go false p rest i = behind (PageOf g j, c) es f b (rest i)

-- ---- what a look at the pages of a block tells

in_block : (n j : ℕ) → n - n % 128 ≤ j → j ≤ n - n % 128 + 127 → j - j % 128 ≡ n - n % 128
in_block n j low high = omega arith

of_block : (n b : ℕ) → n - n % 128 ≡ b → (b ≤ n) × (n ≤ b + 127)
of_block n b e = (omega (arith, e), omega (arith, e))

pub block_known : (m : Cells) (f : FileId) (n : ℕ) (t : Bool)
    → (t ≡ true → APageStands m f (n - n % 128) (n - n % 128 + 127))
    → (t ≡ false → (j : ℕ) → n - n % 128 ≤ j → j ≤ n - n % 128 + 127 → map.get m (PageOf f j) ≡ None)
    → map.contains_key (blocks_of (map.entries m)) (block_of f n) ≡ t
block_known m f n true some none =
    let a : APageStands m f (n - n % 128) (n - n % 128 + 127) = some refl in
    let there : is_some (find key_cmp (PageOf f a.number) (map.entries m)) ≡ true = ap is_some (sym (get-entries m (PageOf f a.number)) ∙ a.stands) in
    ap (λ (b : ℕ). map.contains_key (blocks_of (map.entries m)) (PageOf f b)) (sym (in_block n a.number a.within.0 a.within.1)) ∙ found_block (map.entries m) f a.number there
block_known m f n false some none = go (map.contains_key (blocks_of (map.entries m)) (block_of f n)) refl
  where
    go : (t : Bool) → map.contains_key (blocks_of (map.entries m)) (block_of f n) ≡ t → t ≡ false
    go false e = refl
    go true e =
        let a : APage (map.entries m) f (n - n % 128) = page_of_block (map.entries m) f (n - n % 128) e in
        let at = of_block a.number (n - n % 128) a.block in
        let gone : is_some (map.get m (PageOf f a.number)) ≡ false = ap is_some (none refl a.number at.0 at.1) in
        let there : is_some (map.get m (PageOf f a.number)) ≡ true = ap is_some (get-entries m (PageOf f a.number)) ∙ a.there in
        cc

-- ---- the counts

files-insert : (m : Cells) (k : Key) (c : Cell) → file_count_of (map.insert m k c) + weight_at (λ (e : Key × Cell). files_at e.0) k (map.get m k) ≡ file_count_of m + files_at k
files-insert m k c = sum-insert keys_total exact_keys (λ (e : Key × Cell). files_at e.0) m k c

places-insert : (m : Cells) (k : Key) (c : Cell)
    → sum_by (λ (e : Key × Cell). places_at e.0) (map.entries (map.insert m k c)) + weight_at (λ (e : Key × Cell). places_at e.0) k (map.get m k) ≡ sum_by (λ (e : Key × Cell). places_at e.0) (map.entries m) + places_at k
places-insert m k c = sum-insert keys_total exact_keys (λ (e : Key × Cell). places_at e.0) m k c

-- the blocks, where the key's own is new or not
len_with : (k : Key) (m : Cells) → map.len (with_block k (blocks_of (map.entries m))) + places_at k ≡ map.len (blocks_of (map.entries m)) + places_with m k
len_with (Leader f) m = refl
len_with (OwnerOf o) m = refl
len_with (PageOf f n) m = ap (λ (x : ℕ). x + 1) (len-insert keys_total (blocks_of (map.entries m)) (block_of f n) tt) ∙ go (map.contains_key (blocks_of (map.entries m)) (block_of f n)) (map.len (blocks_of (map.entries m)))
  where
    go : (t : Bool) (l : ℕ) → cond t l (l + 1) + 1 ≡ l + cond t 1 2
    go true l = refl
    go false l = omega arith

pub files-new : (m : Cells) (k : Key) (c : Cell) → map.get m k ≡ None → file_count_of (map.insert m k c) ≡ file_count_of m + files_at k
files-new m k c none =
    let nothing : weight_at (λ (e : Key × Cell). files_at e.0) k (map.get m k) ≡ 0 = ap (weight_at (λ (e : Key × Cell). files_at e.0) k) none in
    omega (arith, nothing, files-insert m k c)

pub used-new : (m : Cells) (k : Key) (c : Cell) → map.get m k ≡ None → used_of (map.insert m k c) ≡ used_of m + places_with m k
used-new m k c none =
    let nothing : weight_at (λ (e : Key × Cell). places_at e.0) k (map.get m k) ≡ 0 = ap (weight_at (λ (e : Key × Cell). places_at e.0) k) none in
    omega (arith, nothing, places-insert m k c, ap (map.len) (blocks-insert m k c), len_with k m)

pub counts-new : (files used : ℕ) (m : Cells) (k : Key) (c : Cell) → AreCounts files used m → map.get m k ≡ None → AreCounts (files + files_at k) (used + places_with m k) (map.insert m k c)
counts-new files used m k c h none = record { of_files = omega (arith, h.of_files, files-new m k c none); of_places = omega (arith, h.of_places, used-new m k c none) }

-- another cell at a key that has one
same_blocks : (k : Key) (m : Cells) (d : Cell) → map.get m k ≡ Some d → map.len (with_block k (blocks_of (map.entries m))) ≡ map.len (blocks_of (map.entries m))
same_blocks (Leader f) m d is = refl
same_blocks (OwnerOf o) m d is = refl
same_blocks (PageOf f n) m d is =
    len-insert keys_total (blocks_of (map.entries m)) (block_of f n) tt
    ∙ ap (λ (t : Bool). cond t (map.len (blocks_of (map.entries m))) (map.len (blocks_of (map.entries m)) + 1)) (found_block (map.entries m) f n (ap is_some (sym (get-entries m (PageOf f n)) ∙ is)))

pub counts-same : (files used : ℕ) (m : Cells) (k : Key) (c d : Cell) → AreCounts files used m → map.get m k ≡ Some d → AreCounts files used (map.insert m k c)
counts-same files used m k c d h is =
    let one : weight_at (λ (e : Key × Cell). files_at e.0) k (map.get m k) ≡ files_at k = ap (weight_at (λ (e : Key × Cell). files_at e.0) k) is in
    let two : weight_at (λ (e : Key × Cell). places_at e.0) k (map.get m k) ≡ places_at k = ap (weight_at (λ (e : Key × Cell). places_at e.0) k) is in
    record {
      of_files = omega (arith, h.of_files, one, files-insert m k c);
      of_places = omega (arith, h.of_places, two, places-insert m k c, ap (map.len) (blocks-insert m k c), same_blocks k m d is);
    }

-- a cell that goes
pub back_again : (m : Cells) (k : Key) (d : Cell) → map.get m k ≡ Some d → map.insert (map.remove m k) k d ≡ m
back_again m k d is = same_map keys_total exact_keys _ _ (λ q.
    get-insert keys_total (map.remove m k) k d q ∙ ap (cond (eq_by_cmp key_cmp q k) (Some d)) (get-remove keys_total m k q) ∙ go q (eq_by_cmp key_cmp q k) refl)
  where
    go : (q : Key) (t : Bool) → eq_by_cmp key_cmp q k ≡ t → cond t (Some d) (cond t None (map.get m q)) ≡ map.get m q
    go q true e = sym is ∙ ap (map.get m) (sym (same_key-true q k e))
    go q false e = refl

pub not_there_now : (m : Cells) (k : Key) → map.get (map.remove m k) k ≡ None
not_there_now m k = get-remove keys_total m k k ∙ ap (λ (t : Bool). cond t None (map.get m k)) (same_key-itself k)

pub files-gone : (m : Cells) (k : Key) (d : Cell) → map.get m k ≡ Some d → file_count_of m ≡ file_count_of (map.remove m k) + files_at k
files-gone m k d is = ap file_count_of (sym (back_again m k d is)) ∙ files-new (map.remove m k) k d (not_there_now m k)

pub used-gone : (m : Cells) (k : Key) (d : Cell) → map.get m k ≡ Some d → used_of m ≡ used_of (map.remove m k) + places_with (map.remove m k) k
used-gone m k d is = ap used_of (sym (back_again m k d is)) ∙ used-new (map.remove m k) k d (not_there_now m k)

pub none_held : map.entries (map.empty {X = Cell} {R = key_cmp}) ≡ []
none_held = nil_from_length _ (sym (len-entries (map.empty {X = Cell} {R = key_cmp})) ∙ len-empty key_cmp Cell)

pub counts-none : AreCounts 0 0 map.empty
counts-none = record {
  of_files = ap (sum_by (λ (e : Key × Cell). files_at e.0)) (sym none_held);
  of_places = omega (
    arith,
    len-empty key_cmp (Unit {0}),
    ap (λ (es : List (Key × Cell)). sum_by (λ (e : Key × Cell). places_at e.0) es + map.len (blocks_of es)) none_held,
  );
}

-- ---- what a look at a key tells

pub nothing_there : {X : Type 0} (o : Option (Bor X)) (p : Option X) → option_copied o ≡ p → is_some o ≡ false → p ≡ None
nothing_there None p e h = sym e
nothing_there (Some x) p e h = cc

pub something_there : {X : Type 0} (o : Option (Bor X)) (p : Option X) → option_copied o ≡ p → is_some o ≡ true → (x : X) × (p ≡ Some x)
something_there None p e h = cc
something_there (Some x) p e h = (x.now, sym e)

-- to take away what is not there changes nothing
pub remove_none : (m : Cells) (k : Key) → map.get m k ≡ None → m ≡ map.remove m k
remove_none m k none = same_map keys_total exact_keys _ _ (λ q. go q (eq_by_cmp key_cmp q k) refl ∙ sym (get-remove keys_total m k q))
  where
    go : (q : Key) (t : Bool) → eq_by_cmp key_cmp q k ≡ t → map.get m q ≡ cond t None (map.get m q)
    go q true e = ap (map.get m) (same_key-true q k e) ∙ none
    go q false e = refl

-- the counts before, by what is left and what went
pub record Went (files used f p : ℕ) (n : Cells) : Type 0 where
  pub before_files : files ≡ file_count_of n + f
  pub before_places : used ≡ used_of n + p

pub counts-gone : (files used f p : ℕ) (m n : Cells) (k : Key) → AreCounts files used m → (there : (d : Cell) × (map.get m k ≡ Some d)) → n ≡ map.remove m k → f ≡ files_at k → p ≡ places_with n k → Went files used f p n
counts-gone files used f p m n k h there e is_f is_p = record {
  before_files = omega (arith, h.of_files, is_f, files-gone m k there.0 there.1, ap file_count_of e);
  before_places = omega (arith, h.of_places, is_p, used-gone m k there.0 there.1, ap used_of e, ap (λ (x : Cells). places_with x k) e);
}
