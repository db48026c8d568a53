-- edits that put and do no more, over what is held
use Rattle.std.specs.Prelude.{Option, None, Some, cond, Bool, true, false, ◌||◌, is_some}
use Rattle.std.specs.List.{list_all}
use Rattle.std.specs.Option.{option_or}
use Rattle.std.specs.FinMap as map
use Rattle.std.specs.FinMap.{get-insert, get-empty}
use Rattle.std.specs.Ordering.{eq_by_cmp}
use Rattle.std.proofs.Common.{◌≡◌, List, [], ◌∷◌, ◌++◌, refl, sym, ◌∙◌, ap}
use Rattle.alp_base.specs.declared.key.Key.{Key}
use Rattle.alp_base.specs.declared.key.Key.TheVariants.{Leader, PageOf, OwnerOf}
use Rattle.alp_base.specs.Keys.{key_cmp}
use Rattle.alp_base.specs.KeyLaws.{keys_total}
use Rattle.alp_base.specs.declared.cell.Cell.{Cell}
use Rattle.alp_files.specs.Cells.{Cells, View}
use Rattle.alp_files.specs.Counts.{Blocks, blocks_of, block_of, with_block}
use Rattle.alp_files.specs.Edits.{Edit, Drop, Cut, Put, edits_at, edits_map}
use Rattle.alp_files.specs.Needs.{is_put}
use Rattle.alp_files.proofs.HistoryLemmas.{get-edits_map}
use Rattle.alp_vault.proofs.CountLemmas.{blocks-insert, none_held}
use Rattle.alp_trans.specs.Counting.{has_block}

pub alone_both : (es fs : List Edit) → list_all is_put es ≡ true → list_all is_put fs ≡ true → list_all is_put (es ++ fs) ≡ true
alone_both [] fs h e = e
alone_both (Put k c ∷ es) fs h e = alone_both es fs h e
alone_both (Drop f ∷ es) fs h e = cc
alone_both (Cut f n ∷ es) fs h e = cc

-- ---- what stands at a key

or_both : (o p q : Option Cell) → option_or o (option_or p q) ≡ option_or (option_or o p) q
or_both None p q = refl
or_both (Some x) p q = refl

one_at : (b : Bool) (c : Cell) (o : Option Cell) → cond b (Some c) o ≡ option_or (cond b (Some c) None) o
one_at true c o = refl
one_at false c o = refl

puts_at : (es : List Edit) → list_all is_put es ≡ true → (q : Key) (o : Option Cell) → edits_at es q o ≡ option_or (edits_at es q None) o
puts_at [] alone q o = refl
puts_at (Put k c ∷ es) alone q o =
    let b : Bool = eq_by_cmp key_cmp q k in
    puts_at es alone q (cond b (Some c) o) ∙ ap (option_or (edits_at es q None)) (one_at b c o) ∙ or_both (edits_at es q None) (cond b (Some c) None) o
    ∙ ap (λ (x : Option Cell). option_or x o) (sym (puts_at es alone q (cond b (Some c) None)))
puts_at (Drop f ∷ es) alone q o = cc
puts_at (Cut f n ∷ es) alone q o = cc

pub own_at : (es : List Edit) (q : Key) → map.get (edits_map es map.empty) q ≡ edits_at es q None
own_at es q = ap (λ (v : View). v q) (get-edits_map es map.empty) ∙ ap (edits_at es q) (get-empty key_cmp q)

-- the puts stand over what is held
pub seen_at : (es : List Edit) → list_all is_put es ≡ true → (m : Cells) (q : Key) → map.get (edits_map es m) q ≡ option_or (map.get (edits_map es map.empty) q) (map.get m q)
seen_at es alone m q =
    ap (λ (v : View). v q) (get-edits_map es m) ∙ puts_at es alone q (map.get m q) ∙ ap (λ (o : Option Cell). option_or o (map.get m q)) (sym (own_at es q))

pub some_or : (o p : Option Cell) → is_some (option_or o p) ≡ (is_some o || is_some p)
some_or None p = refl
some_or (Some x) p = refl

-- ---- blocks that have a page

-- the block of a page
abbrev pub is_block : Key → Key → Bool
is_block (Leader f) b = false
is_block (PageOf f n) b = eq_by_cmp key_cmp b (block_of f n)
is_block (OwnerOf name) b = false

block_more : (k : Key) (blocks : Blocks) (b : Key) → map.contains_key (with_block k blocks) b ≡ (is_block k b || map.contains_key blocks b)
block_more (Leader f) blocks b = refl
block_more (OwnerOf name) blocks b = refl
block_more (PageOf f n) blocks b = ap is_some (get-insert keys_total blocks (block_of f n) tt b) ∙ go (eq_by_cmp key_cmp b (block_of f n))
  where
    go : (t : Bool) → is_some (cond t (Some tt) (map.get blocks b)) ≡ (t || map.contains_key blocks b)
    go true = refl
    go false = refl

pub has_more : (m : Cells) (k : Key) (c : Cell) (b : Key) → has_block (map.insert m k c) b ≡ (is_block k b || has_block m b)
has_more m k c b = ap (λ (x : Blocks). map.contains_key x b) (blocks-insert m k c) ∙ block_more k (blocks_of (map.entries m)) b

none_has : (b : Key) → has_block map.empty b ≡ false
none_has b = ap (λ (es : List (Key × Cell)). map.contains_key (blocks_of es) b) none_held ∙ ap is_some (get-empty key_cmp b)

or_swap : (x y z n : Bool) → n ≡ false → (x || (y || z)) ≡ ((x || (y || n)) || z)
or_swap true y z n h = refl
or_swap false true z n h = refl
or_swap false false z n h = ap (λ (t : Bool). t || z) (sym h)

-- a block has a page among the puts or among what is held
pub has_over : (es : List Edit) → list_all is_put es ≡ true → (m : Cells) (b : Key) → has_block (edits_map es m) b ≡ (has_block (edits_map es map.empty) b || has_block m b)
has_over [] alone m b = ap (λ (t : Bool). t || has_block m b) (sym (none_has b))
has_over (Put k c ∷ es) alone m b =
    has_over es alone (map.insert m k c) b
    ∙ ap (λ (t : Bool). has_block (edits_map es map.empty) b || t) (has_more m k c b)
    ∙ or_swap (has_block (edits_map es map.empty) b) (is_block k b) (has_block m b) (has_block map.empty b) (none_has b)
    ∙ ap (λ (t : Bool). (has_block (edits_map es map.empty) b || t) || has_block m b) (sym (has_more map.empty k c b))
    ∙ ap (λ (t : Bool). t || has_block m b) (sym (has_over es alone (map.insert map.empty k c) b))
has_over (Drop f ∷ es) alone m b = cc
has_over (Cut f n ∷ es) alone m b = cc
