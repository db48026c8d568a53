-- puts over two maps, of which the second has pages in more blocks
use Rattle.std.specs.Prelude.{cond, Bool, true, false, not, ◌&&◌, ◌||◌, is_some, is_none, Option, None, Some, filter}
use Rattle.std.specs.List.{AllByRecursion}
use Rattle.std.specs.FinMap as map
use Rattle.std.specs.FinMap.{get-insert}
use Rattle.std.specs.Ordering.{eq_by_cmp}
use Rattle.std.proofs.Common.{◌≡◌, ℕ, ◌+◌, ◌-◌, ◌%◌, List, [], ◌∷◌, length, refl, sym, ◌∙◌, ap, arith}
use Rattle.alp_base.specs.declared.ids.FileId.{FileId}
use Rattle.alp_base.specs.declared.key.Key.{Key}
use Rattle.alp_base.specs.declared.key.Key.TheVariants.{Leader, PageOf, OwnerOf}
use Rattle.alp_base.specs.Keys.{key_cmp}
use Rattle.alp_base.specs.KeyLaws.{keys_total}
use Rattle.alp_base.specs.declared.cell.Cell.{Cell}
use Rattle.alp_files.specs.Cells.{Cells}
use Rattle.alp_files.specs.Counts.{Blocks, used_of, block_of, blocks_of, with_block}
use Rattle.alp_files.specs.Edits.{edits_map}
use Rattle.alp_files.specs.Undo.{puts_of}
use Rattle.alp_files.proofs.SameLemmas.{same_key-itself}
use Rattle.alp_trans.specs.Counting.{has_block, is_first}
use Rattle.alp_calls.proofs.FrameLemmas.{block_is, no_page}
use Rattle.alp_calls.proofs.NeedLemmas.{added, used_put, weight, made_in, sum_put}
use Rattle.alp_calls.proofs.PutLemmas.{is_block, has_more}
use Rattle.alp_node.proofs.EaseCount.{among, same, count_at}
use Rattle.alp_node.proofs.KeysOnce.{AreOnce}

-- ---- blocks that have a page

-- where a page stands its block has one
pub page_open : (m : Cells) (f : FileId) (n : ℕ) → map.contains_key m (PageOf f n) ≡ true → has_block m (block_of f n) ≡ true
page_open m f n there = go (has_block m (block_of f n)) refl
  where
    go : (b : Bool) → has_block m (block_of f n) ≡ b → b ≡ true
    go true e = refl
    go false e =
        let place : n - n % 128 + n % 128 ≡ n = omega arith in
        let none : map.get m (PageOf f (n - n % 128 + n % 128)) ≡ None = no_page m f (n - n % 128) 128 (sym (block_is m f n) ∙ e) (n % 128) (omega arith) in
        let wrong : true ≡ false = sym there ∙ ap (λ (j : ℕ). is_some (map.get m (PageOf f j))) (sym place) ∙ ap is_some none in
        cc

-- the blocks of a list of puts
abbrev pub in_blocks : List (Key × Cell) → Key → Bool
in_blocks [] b = false
in_blocks (e ∷ es) b = is_block e.0 b || in_blocks es b

pub block_more : (k : Key) (blocks : Blocks) (b : Key) → map.contains_key (with_block k blocks) b ≡ (is_block k b || map.contains_key blocks b)
block_more (Leader f) blocks b = refl
block_more (OwnerOf name) blocks b = refl
block_more (PageOf f n) blocks b = ap is_some (get-insert keys_total blocks (block_of f n) tt b) ∙ go (eq_by_cmp key_cmp b (block_of f n))
  where
    go : (t : Bool) → is_some (cond t (Some tt) (map.get blocks b)) ≡ (t || map.contains_key blocks b)
    go true = refl
    go false = refl

pub blocks_in : (es : List (Key × Cell)) (b : Key) → map.contains_key (blocks_of es) b ≡ in_blocks es b
blocks_in [] b = ap is_some (map.get-empty key_cmp b)
blocks_in (e ∷ es) b = block_more e.0 (blocks_of es) b ∙ ap (λ (t : Bool). is_block e.0 b || t) (blocks_in es b)

-- ---- one put

-- the place that it needs less on the second map
abbrev pub saved : Cells → Cells → Key → ℕ
saved x y k = cond {A = ℕ} (is_first x k && not (is_first y k)) 1 0

put_saves : (x y : Cells) (k : Key) → map.get x k ≡ map.get y k → ((b : Key) → is_block k b ≡ true → has_block x b ≡ true → has_block y b ≡ true) → added x k ≡ added y k + saved x y k
put_saves x y (Leader f) at opens = ap (λ (o : Option Cell). cond {A = ℕ} (is_some o) 0 1) at ∙ more (cond {A = ℕ} (map.contains_key y (Leader f)) 0 1)
  where
    more : (n : ℕ) → n ≡ n + 0
    more n = omega arith
put_saves x y (OwnerOf name) at opens = ap (λ (o : Option Cell). cond {A = ℕ} (is_some o) 0 0) at ∙ more (cond {A = ℕ} (map.contains_key y (OwnerOf name)) 0 0)
  where
    more : (n : ℕ) → n ≡ n + 0
    more n = omega arith
put_saves x y (PageOf f n) at opens = go (map.contains_key x (PageOf f n)) (has_block x (block_of f n)) (has_block y (block_of f n)) refl refl refl
  where
    here : map.contains_key y (PageOf f n) ≡ map.contains_key x (PageOf f n)
    here = ap is_some (sym at)

    x_places : (c hx : Bool) → map.contains_key x (PageOf f n) ≡ c → has_block x (block_of f n) ≡ hx
        → cond {A = ℕ} (map.contains_key x (PageOf f n)) 0 (cond {A = ℕ} (has_block x (block_of f n)) 1 2) ≡ cond {A = ℕ} c 0 (cond {A = ℕ} hx 1 2)
    x_places c hx at_x has_x = λ i. cond {A = ℕ} (at_x i) 0 (cond {A = ℕ} (has_x i) 1 2)

    y_places : (c hx hy : Bool) → map.contains_key y (PageOf f n) ≡ c → has_block x (block_of f n) ≡ hx → has_block y (block_of f n) ≡ hy
        → cond {A = ℕ} (map.contains_key y (PageOf f n)) 0 (cond {A = ℕ} (has_block y (block_of f n)) 1 2) + cond {A = ℕ} (not (has_block x (block_of f n)) && not (not (has_block y (block_of f n)))) 1 0
        ≡ cond {A = ℕ} c 0 (cond {A = ℕ} hy 1 2) + cond {A = ℕ} (not hx && not (not hy)) 1 0
    y_places c hx hy at_y has_x has_y = λ i. cond {A = ℕ} (at_y i) 0 (cond {A = ℕ} (has_y i) 1 2) + cond {A = ℕ} (not (has_x i) && not (not (has_y i))) 1 0

    -- a page stands in no block that has none, and the second has more
    cases : (c hx hy : Bool) → (c ≡ true → hx ≡ true) → (hx ≡ true → hy ≡ true) → cond {A = ℕ} c 0 (cond {A = ℕ} hx 1 2) ≡ cond {A = ℕ} c 0 (cond {A = ℕ} hy 1 2) + cond {A = ℕ} (not hx && not (not hy)) 1 0
    cases true true hy first second = refl
    cases true false hy first second = let wrong : false ≡ true = first refl in cc
    cases false true true first second = refl
    cases false true false first second = let wrong : false ≡ true = second refl in cc
    cases false false true first second = refl
    cases false false false first second = refl

    go : (c hx hy : Bool) → map.contains_key x (PageOf f n) ≡ c → has_block x (block_of f n) ≡ hx → has_block y (block_of f n) ≡ hy
        → cond {A = ℕ} (map.contains_key x (PageOf f n)) 0 (cond {A = ℕ} (has_block x (block_of f n)) 1 2)
        ≡ cond {A = ℕ} (map.contains_key y (PageOf f n)) 0 (cond {A = ℕ} (has_block y (block_of f n)) 1 2) + cond {A = ℕ} (not (has_block x (block_of f n)) && not (not (has_block y (block_of f n)))) 1 0
    go c hx hy at_x has_x has_y =
        x_places c hx at_x has_x
        ∙ cases c hx hy (λ is. sym has_x ∙ page_open x f n (at_x ∙ is)) (λ is. sym has_y ∙ opens (block_of f n) (same_key-itself (block_of f n)) (has_x ∙ is))
        ∙ sym (y_places c hx hy (here ∙ at_x) has_x has_y)

-- ---- puts, one after the other

abbrev pub saved_along : Cells → Cells → List (Key × Cell) → ℕ
saved_along x y [] = 0
saved_along x y (e ∷ es) = saved x y e.0 + saved_along (map.insert x e.0 e.1) (map.insert y e.0 e.1) es

-- both have the same where something is put
abbrev pub AgreeAt : List (Key × Cell) → Cells → Cells → Type 0
AgreeAt es x y = AllByRecursion (λ (e : Key × Cell). map.get x e.0 ≡ map.get y e.0) es

-- and the second has a page in each block of it where the first has one, or where it is among these
abbrev pub OpensAt : List (Key × Cell) → Cells → Cells → List Key → Type 0
OpensAt es x y ks = AllByRecursion (λ (e : Key × Cell). (b : Key) → is_block e.0 b ≡ true → has_block y b ≡ (has_block x b || among ks b)) es

agree_more : (es : List (Key × Cell)) (x y : Cells) (k : Key) (c : Cell) → AgreeAt es x y → AgreeAt es (map.insert x k c) (map.insert y k c)
agree_more [] x y k c h = tt
agree_more (e ∷ es) x y k c h = (
  get-insert keys_total x k c e.0 ∙ ap (cond (eq_by_cmp key_cmp e.0 k) (Some c)) h.0 ∙ sym (get-insert keys_total y k c e.0),
  agree_more es x y k c h.1,
)

or_into : (a b c : Bool) → (a || (b || c)) ≡ ((a || b) || c)
or_into true b c = refl
or_into false b c = refl

opens_more : (es : List (Key × Cell)) (x y : Cells) (ks : List Key) (k : Key) (c : Cell) → OpensAt es x y ks → OpensAt es (map.insert x k c) (map.insert y k c) ks
opens_more [] x y ks k c h = tt
opens_more (e ∷ es) x y ks k c h = (
  (λ b is. has_more y k c b ∙ ap (λ (t : Bool). is_block k b || t) (h.0 b is) ∙ or_into (is_block k b) (has_block x b) (among ks b) ∙ ap (λ (t : Bool). t || among ks b) (sym (has_more x k c b))),
  opens_more es x y ks k c h.1,
)

or_true : (a b : Bool) → a ≡ true → (a || b) ≡ true
or_true true b h = refl
or_true false b h = let wrong : false ≡ true = h in cc

pub used_saved : (es : List (Key × Cell)) (x y : Cells) (ks : List Key) → AgreeAt es x y → OpensAt es x y ks
    → used_of (edits_map (puts_of es) x) + used_of y ≡ used_of (edits_map (puts_of es) y) + used_of x + saved_along x y es
used_saved [] x y ks at opens = omega arith
used_saved (e ∷ es) x y ks at opens =
    omega (
      arith,
      used_saved es (map.insert x e.0 e.1) (map.insert y e.0 e.1) ks (agree_more es x y e.0 e.1 at.1) (opens_more es x y ks e.0 e.1 opens.1),
      used_put x e.0 e.1,
      used_put y e.0 e.1,
      put_saves x y e.0 at.0 (λ b is has. opens.0 b is ∙ or_true (has_block x b) (among ks b) has),
    )

module _ (p : Key → Bool) (m n : Cells) where
  made_at : (x y : Cells) (k : Key) → map.get x k ≡ map.get y k → map.get m k ≡ map.get n k → cond {A = ℕ} (map.contains_key x k) 0 (weight p m k) ≡ cond {A = ℕ} (map.contains_key y k) 0 (weight p n k)
  made_at x y k at held =
      ap (λ (o : Option Cell). cond {A = ℕ} (is_some o) 0 (weight p m k)) at ∙ ap (λ (o : Option Cell). cond {A = ℕ} (map.contains_key y k) 0 (cond {A = ℕ} (p k && is_none o) 1 0)) held

  pub made_saved : (es : List (Key × Cell)) (x y : Cells) → AgreeAt es x y → AgreeAt es m n → made_in p m (edits_map (puts_of es) x) + made_in p n y ≡ made_in p n (edits_map (puts_of es) y) + made_in p m x
  made_saved [] x y at held = omega arith
  made_saved (e ∷ es) x y at held =
      omega (
        arith,
        made_saved es (map.insert x e.0 e.1) (map.insert y e.0 e.1) (agree_more es x y e.0 e.1 at.1) held.1,
        sum_put (weight p m) x e.0 e.1,
        sum_put (weight p n) y e.0 e.1,
        made_at x y e.0 at.0 held.0,
      )

-- ---- what is saved is one for each of these blocks

filter_none : (p : Key → Bool) → ((k : Key) → p k ≡ false) → (ks : List Key) → length (filter p ks) ≡ 0
filter_none p none [] = refl
filter_none p none (k ∷ ks) = ap (λ (b : Bool). length (cond {A = List Key} b (k ∷ filter p ks) (filter p ks))) (none k) ∙ filter_none p none ks

and_false : (b : Bool) → (b && false) ≡ false
and_false true = refl
and_false false = refl

zero_left : (m n : ℕ) → m ≡ 0 → m + n ≡ n
zero_left m n none = omega (arith, none)

-- with one put more
module _ (k : Key) (c : Cell) (es : List (Key × Cell)) (x y : Cells) (ks : List Key)
    (rest : saved_along (map.insert x k c) (map.insert y k c) es ≡ length (filter (λ b. not (has_block (map.insert x k c) b) && in_blocks es b) ks)) where
  abbrev before : Key → Bool
  before b = not (has_block x b) && (is_block k b || in_blocks es b)

  abbrev behind : Key → Bool
  behind b = not (has_block (map.insert x k c) b) && in_blocks es b

  away : (b : Key) → is_block k b ≡ false → before b ≡ behind b
  away b off =
      ap (λ (t : Bool). not (has_block x b) && (t || in_blocks es b)) off
      ∙ ap (λ (t : Bool). not t && in_blocks es b) (sym (has_more x k c b ∙ ap (λ (t : Bool). t || has_block x b) off))

  -- it is no page
  nothing_saved : ((b : Key) → is_block k b ≡ false) → saved x y k ≡ 0 → saved x y k + saved_along (map.insert x k c) (map.insert y k c) es ≡ length (filter before ks)
  nothing_saved off none =
      let same_tests : behind ≡ before = λ i b. sym (away b (off b)) i in
      zero_left (saved x y k) (saved_along (map.insert x k c) (map.insert y k c) es) none ∙ rest ∙ ap (λ (p : Key → Bool). length (filter p ks)) same_tests

  -- it is one
  page_saved : (at : Key) → AreOnce same ks → ((b : Key) → is_block k b ≡ same b at) → saved x y k ≡ cond {A = ℕ} (not (has_block x at) && not (not (has_block y at))) 1 0 → has_block y at ≡ (has_block x at || among ks at)
      → saved x y k + saved_along (map.insert x k c) (map.insert y k c) es ≡ length (filter before ks)
  page_saved at once block saves opens =
      let own : is_block k at ≡ true = block at ∙ same_key-itself at in
      let off : behind at ≡ false = ap (λ (t : Bool). not t && in_blocks es at) (has_more x k c at ∙ ap (λ (t : Bool). t || has_block x at) own) in
      let counted : length (filter before ks) ≡ cond {A = ℕ} (among ks at && before at) 1 0 + length (filter behind ks) = count_at before behind at off (λ b apart. away b (block b ∙ apart)) ks once in
      let one : saved x y k ≡ cond {A = ℕ} (among ks at && before at) 1 0 =
      saves ∙ ap (λ (t : Bool). cond {A = ℕ} (not (has_block x at) && not (not t)) 1 0) opens ∙ cases (has_block x at) (among ks at)
      ∙ ap (λ (t : Bool). cond {A = ℕ} (among ks at && (not (has_block x at) && (t || in_blocks es at))) 1 0) (sym own) in
      (λ i. one i + rest i) ∙ sym counted
    where
      cases : (hx hk : Bool) → cond {A = ℕ} (not hx && not (not (hx || hk))) 1 0 ≡ cond {A = ℕ} (hk && (not hx && true)) 1 0
      cases true true = refl
      cases true false = refl
      cases false true = refl
      cases false false = refl

pub saved_counts : (es : List (Key × Cell)) (x y : Cells) (ks : List Key) → AreOnce same ks → OpensAt es x y ks → saved_along x y es ≡ length (filter (λ b. not (has_block x b) && in_blocks es b) ks)
saved_counts [] x y ks once opens = sym (filter_none (λ b. not (has_block x b) && false) (λ b. and_false (not (has_block x b))) ks)
saved_counts ((Leader f, c) ∷ es) x y ks once opens =
    nothing_saved (Leader f) c es x y ks (saved_counts es (map.insert x (Leader f) c) (map.insert y (Leader f) c) ks once (opens_more es x y ks (Leader f) c opens.1)) (λ b. refl) refl
saved_counts ((OwnerOf name, c) ∷ es) x y ks once opens =
    nothing_saved (OwnerOf name) c es x y ks (saved_counts es (map.insert x (OwnerOf name) c) (map.insert y (OwnerOf name) c) ks once (opens_more es x y ks (OwnerOf name) c opens.1)) (λ b. refl) refl
saved_counts ((PageOf f n, c) ∷ es) x y ks once opens =
    page_saved (PageOf f n) c es x y ks (saved_counts es (map.insert x (PageOf f n) c) (map.insert y (PageOf f n) c) ks once (opens_more es x y ks (PageOf f n) c opens.1))
    (block_of f n) once (λ b. refl) refl (opens.0 (block_of f n) (same_key-itself (block_of f n)))
