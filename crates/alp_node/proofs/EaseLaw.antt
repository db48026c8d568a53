-- a part that is committed leaves another one its counts, but for the places of the blocks that it opens and the other puts pages in
use Rattle.std.specs.Prelude.{cond, Bool, true, false, not, ◌&&◌, ◌||◌, is_some, Option, None, Some, map as list_map}
use Rattle.std.specs.List.{AllByRecursion}
use Rattle.std.specs.FinMap as map
use Rattle.std.specs.FinMap.{contains_key-keys, get-empty}
use Rattle.std.specs.Option.{unwrap_or}
use Rattle.std.proofs.Common.{◌≡◌, ℕ, ◌+◌, ◌-◌, ◌%◌, List, [], ◌∷◌, length, refl, sym, ◌∙◌, ap, subst, arith}
use Rattle.alp_base.specs.declared.ids.FileId.{FileId}
use Rattle.alp_base.specs.declared.key.Key.{Key}
use Rattle.alp_base.specs.declared.key.Key.TheVariants.{Leader, PageOf, OwnerOf}
use Rattle.alp_base.specs.Keys.{key_cmp}
use Rattle.alp_files.specs.Apart.{IsWithin}
use Rattle.alp_base.specs.declared.cell.Cell.{Cell}
use Rattle.alp_files.specs.Cells.{Cells}
use Rattle.alp_files.specs.Counts.{used_of, block_of, APageStands}
use Rattle.alp_files.specs.Holdings.{file_of}
use Rattle.alp_files.proofs.FrameLemmas.{apart-same}
use Rattle.alp_files.proofs.SameLemmas.{same_key-true}
use Rattle.alp_base.proofs.NameLemmas.{and_left, and_right}
use Rattle.alp_calls.proofs.BlockLemmas.{shut}
use Rattle.alp_files.specs.Edits.{Edit, edits_map}
use Rattle.alp_files.specs.Needs.{Intents, intents_of, first_gone, is_gone, is_leader, is_owner, missing_in}
use Rattle.alp_trans.specs.Counting.{AreCountsOf, counts_by, left_by, with_intents, has_block}
use Rattle.alp_trans.specs.declared.counts.Counts.{Counts}
use Rattle.alp_calls.proofs.IntentCounts.{get-left, same_counts, counted_by, are_counts, left_less, none_left}
use Rattle.alp_calls.proofs.NeedLemmas.{made_sum}
use Rattle.alp_calls.proofs.PutLemmas.{is_block}
use Rattle.alp_node.specs.Eases.{new_from, new_blocks, puts_in, shared_in}
use Rattle.alp_node.proofs.EaseAlong.{AgreeAt, OpensAt, used_saved, made_saved, saved_along, saved_counts, in_blocks, blocks_in}
use Rattle.alp_node.proofs.EaseBlocks.{IsOfPage, puts_within, gone_within, same_block, left_block, block_behind, some_page, new_in, of_page}
use Rattle.alp_node.proofs.EaseCount.{among, same, filter_same, all_among}
use Rattle.alp_node.proofs.KeysOnce.{AreOnce, keys_once}

module _ (m : Cells) (es fs : List Edit) (W X : Key → Type 0) (away : (k : Key) → W k → X k → ⊥) (within : IsWithin W es) (other : IsWithin X fs) where
  abbrev mine : Intents
  mine = intents_of es

  abbrev puts : List (Key × Cell)
  puts = map.entries mine.puts

  -- the cells behind the other part
  abbrev later : Cells
  later = edits_map fs m

  abbrev blocks : List Key
  blocks = new_blocks m (intents_of fs).puts

  -- what is so of each key where something is put
  each_put : (P : Key → Type 0) → ((k : Key) → map.contains_key mine.puts k ≡ true → P k) → AllByRecursion (λ (e : Key × Cell). P e.0) puts
  each_put P each = over puts (all_among P (map.keys mine.puts) (λ k there. each k (contains_key-keys mine.puts k ∙ there)))
    where
      over : (ps : List (Key × Cell)) → AllByRecursion P (list_map (λ (e : Key × Cell). e.0) ps) → AllByRecursion (λ (e : Key × Cell). P e.0) ps
      over [] h = tt
      over (p ∷ ps) h = (h.0, over ps h.1)

  -- the other puts nothing where this one may, nor takes anything away
  unchanged : (k : Key) → W k → map.get m k ≡ map.get later k
  unchanged k w = apart-same W X (λ q x v. away q v x) fs other m k w

  held_at : AgreeAt puts m later
  held_at = each_put (λ k. map.get m k ≡ map.get later k) (λ k there. unchanged k (puts_within W es k within there))

  left_at : AgreeAt puts (left_by mine m) (left_by mine later)
  left_at = each_put (λ k. map.get (left_by mine m) k ≡ map.get (left_by mine later) k)
      (λ k there. get-left mine m k ∙ ap (cond (is_gone mine k) None) (unchanged k (puts_within W es k within there)) ∙ sym (get-left mine later k))

  -- just the new blocks of its puts are among these
  among_new : (b : Key) → among blocks b ≡ (has_block (intents_of fs).puts b && not (has_block m b))
  among_new b =
      sym (contains_key-keys (new_from m map.empty (map.entries (intents_of fs).puts)) b) ∙ new_in m map.empty (map.entries (intents_of fs).puts) b
      ∙ ap (λ (t : Bool). t || (in_blocks (map.entries (intents_of fs).puts) b && not (has_block m b))) (ap is_some (get-empty {X = Unit {0}} key_cmp b))
      ∙ ap (λ (t : Bool). t && not (has_block m b)) (sym (blocks_in (map.entries (intents_of fs).puts) b))

  -- where this one puts a page
  module _ (f : FileId) (n : ℕ) (may : W (PageOf f n)) where
    -- of a file of which nothing goes the other opens just these
    stays : first_gone mine f ≡ None → has_block (left_by mine later) (block_of f n) ≡ (has_block (left_by mine m) (block_of f n) || among blocks (block_of f n))
    stays none =
        left_block mine later f n none ∙ block_behind fs m f n (nothing (first_gone (intents_of fs) f) refl) ∙ cases (has_block (intents_of fs).puts (block_of f n)) (has_block m (block_of f n))
        ∙ (λ i. sym (left_block mine m f n none) i || sym (among_new (block_of f n)) i)
      where
        nothing : (o : Option ℕ) → first_gone (intents_of fs) f ≡ o → o ≡ None
        nothing None e = refl
        nothing (Some k) e = absurd (away (PageOf f n) may (gone_within X fs f other (ap is_some e) (PageOf f n) refl))

        cases : (hf hm : Bool) → (hf || hm) ≡ (hm || (hf && not hm))
        cases true true = refl
        cases true false = refl
        cases false true = refl
        cases false false = refl

    -- and of one of which something goes it opens none
    goes : (e : ℕ) → first_gone mine f ≡ Some e → has_block (left_by mine later) (block_of f n) ≡ (has_block (left_by mine m) (block_of f n) || among blocks (block_of f n))
    goes e gone =
        same_block (left_by mine later) (left_by mine m) f
        (λ j. get-left mine later (PageOf f j) ∙ ap (cond (is_gone mine (PageOf f j)) None) (sym (unchanged (PageOf f j) (all (PageOf f j) refl))) ∙ sym (get-left mine m (PageOf f j))) n
        ∙ sym (or_false (has_block (left_by mine m) (block_of f n)))
        ∙ ap (λ (t : Bool). has_block (left_by mine m) (block_of f n) || t) (sym (among_new (block_of f n) ∙ ap (λ (t : Bool). t && not (has_block m (block_of f n))) (none (has_block (intents_of fs).puts (block_of f n)) refl)))
      where
        all : (k : Key) → file_of k ≡ Some f → W k
        all = gone_within W es f within (ap is_some gone)

        or_false : (t : Bool) → (t || false) ≡ t
        or_false true = refl
        or_false false = refl

        none : (t : Bool) → has_block (intents_of fs).puts (block_of f n) ≡ t → t ≡ false
        none false e = refl
        none true e =
            let page : APageStands (intents_of fs).puts f (n - n % 128) (n - n % 128 + 127) = some_page (intents_of fs).puts f n e in
            absurd (away (PageOf f page.number) (all (PageOf f page.number) refl) (puts_within X fs (PageOf f page.number) other (ap is_some page.stands)))

    opens_page : has_block (left_by mine later) (block_of f n) ≡ (has_block (left_by mine m) (block_of f n) || among blocks (block_of f n))
    opens_page = go (first_gone mine f) refl
      where
        go : (o : Option ℕ) → first_gone mine f ≡ o → has_block (left_by mine later) (block_of f n) ≡ (has_block (left_by mine m) (block_of f n) || among blocks (block_of f n))
        go None e = stays e
        go (Some k) e = goes k e

  abbrev OpensKey : Key → Type 0
  OpensKey k = (b : Key) → is_block k b ≡ true → has_block (left_by mine later) b ≡ (has_block (left_by mine m) b || among blocks b)

  opens_key : (k : Key) → W k → OpensKey k
  opens_key (Leader f) may b is = let wrong : false ≡ true = is in cc
  opens_key (OwnerOf name) may b is = let wrong : false ≡ true = is in cc
  opens_key (PageOf f n) may b is =
      subst (λ (q : Key). has_block (left_by mine later) q ≡ (has_block (left_by mine m) q || among blocks q)) (sym (same_key-true b (block_of f n) is)) (opens_page f n may)

  opens : OpensAt puts (left_by mine m) (left_by mine later) blocks
  opens = each_put OpensKey (λ k there. opens_key k (puts_within W es k within there))

  once : AreOnce same blocks
  once = keys_once key_cmp (new_from m map.empty (map.entries (intents_of fs).puts))

  both_of : (b : Key) → among blocks b ≡ true → (has_block (intents_of fs).puts b && not (has_block m b)) ≡ true
  both_of b there = sym (among_new b) ∙ there

  page_of : (b : Key) → among blocks b ≡ true → IsOfPage b
  page_of b there =
      of_page (map.entries (intents_of fs).puts) b (sym (blocks_in (map.entries (intents_of fs).puts) b) ∙ and_left (has_block (intents_of fs).puts b) (not (has_block m b)) (both_of b there))

  -- none of them had a page
  closed : (b : Key) → among blocks b ≡ true → has_block (left_by mine m) b ≡ false
  closed b there =
      let both : (has_block (intents_of fs).puts b && not (has_block m b)) ≡ true = both_of b there in
      let page : IsOfPage b = page_of b there in
      let none : has_block m b ≡ false = not_true (has_block m b) (and_right (has_block (intents_of fs).puts b) (not (has_block m b)) both) in
      ap (has_block (left_by mine m)) page.is
      ∙ shut mine m page.file page.number (unwrap_or (first_gone mine page.file) (page.number - page.number % 128 + 128)) refl (ap (has_block m) (sym page.is) ∙ none)
    where
      not_true : (t : Bool) → not t ≡ true → t ≡ false
      not_true true h = let wrong : false ≡ true = h in cc
      not_true false h = refl

  -- of each of them it is said by its first page whether it is put in
  by_first : (b : Key) → among blocks b ≡ true → puts_in mine.puts b ≡ has_block mine.puts b
  by_first b there =
      let page : IsOfPage b = page_of b there in
      let f : FileId = page.file in
      let n : ℕ = page.number in
      let first : n - n % 128 - (n - n % 128) % 128 ≡ n - n % 128 = omega arith in
      ap (puts_in mine.puts) page.is ∙ ap (λ (j : ℕ). has_block mine.puts (PageOf f j)) first ∙ ap (has_block mine.puts) (sym page.is)

  saves : saved_along (left_by mine m) (left_by mine later) puts ≡ shared_in mine.puts blocks
  saves =
      saved_counts puts (left_by mine m) (left_by mine later) blocks once opens
      ∙ ap (λ (ks : List Key). length ks)
      (filter_same (λ b. not (has_block (left_by mine m) b) && in_blocks puts b) (puts_in mine.puts) blocks
      (all_among (λ b. (not (has_block (left_by mine m) b) && in_blocks puts b) ≡ puts_in mine.puts b) blocks
      (λ b there. ap (λ (t : Bool). not t && in_blocks puts b) (closed b there) ∙ sym (blocks_in puts b) ∙ sym (by_first b there))))

  made_same : (p : Key → Bool) → missing_in p m (with_intents mine m) ≡ missing_in p later (with_intents mine later)
  made_same p = omega (
    arith,
    made_saved p m later puts (left_by mine m) (left_by mine later) left_at held_at,
    none_left mine m p,
    none_left mine later p,
    made_sum p m (with_intents mine m),
    made_sum p later (with_intents mine later),
  )

  pub eased_by : (n : Counts) → n ≡ counts_by m mine → record n { places = n.places - shared_in mine.puts blocks } ≡ counts_by later mine
  eased_by n is =
      same_counts (record n { places = n.places - shared_in mine.puts blocks }) (counts_by later mine) (ap (λ (x : Counts). x.cells) is)
      (let places : n.places ≡ used_of (with_intents mine m) - used_of (left_by mine m) = ap (λ (x : Counts). x.places) is in
      omega (arith, places, used_saved puts (left_by mine m) (left_by mine later) blocks left_at opens, saves, left_less mine m, left_less mine later))
      (ap (λ (x : Counts). x.files) is ∙ made_same is_leader) (ap (λ (x : Counts). x.owners) is ∙ made_same is_owner)

pub eased_counts : (m : Cells) (es fs : List Edit) (W X : Key → Type 0) → ((k : Key) → W k → X k → ⊥) → IsWithin W es → IsWithin X fs → (n : Counts) → AreCountsOf m es n
    → AreCountsOf (edits_map fs m) es (record n { places = n.places - shared_in (intents_of es).puts (new_blocks m (intents_of fs).puts) })
eased_counts m es fs W X away mine other n h =
    are_counts (edits_map fs m) es (record n { places = n.places - shared_in (intents_of es).puts (new_blocks m (intents_of fs).puts) }) (eased_by m es fs W X away mine other n (counted_by m es n h))
