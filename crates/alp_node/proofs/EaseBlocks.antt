-- what edits change of files and blocks, where they stay within some places
use Rattle.std.specs.Prelude.{cond, Bool, true, false, not, ◌&&◌, ◌||◌, is_some, Option, None, Some}
use Rattle.std.specs.Option.{unwrap_or}
use Rattle.std.specs.FinMap as map
use Rattle.std.specs.FinMap.{get-insert, get-empty}
use Rattle.std.specs.Ordering.{eq_by_cmp}
use Rattle.std.proofs.Common.{◌≡◌, ℕ, ◌+◌, ◌-◌, ◌%◌, ◌≤◌, List, [], ◌∷◌, le_refl, refl, sym, ◌∙◌, ap, subst, arith}
use Rattle.alp_base.specs.declared.ids.FileId.{FileId}
use Rattle.alp_base.specs.declared.key.Key.{Key}
use Rattle.alp_base.specs.declared.key.Key.TheVariants.{Leader, PageOf, OwnerOf}
use Rattle.alp_base.specs.Keys.{key_cmp}
use Rattle.alp_base.specs.KeyLaws.{file_cmp, exact_files, keys_total}
use Rattle.alp_files.specs.Apart.{IsWithin}
use Rattle.alp_base.specs.declared.cell.Cell.{Cell}
use Rattle.alp_files.specs.Cells.{Cells}
use Rattle.alp_files.specs.Counts.{Blocks, block_of, with_block, APageStands}
use Rattle.alp_files.specs.Edits.{Edit, Drop, Cut, Put, is_in_file, is_past, edit_map, edits_map}
use Rattle.alp_files.specs.Holdings.{file_of}
use Rattle.alp_files.specs.Needs.{Intents, no_intents, intend, intents_from, intents_of, first_gone, cut_from}
use Rattle.alp_files.specs.Undo.{puts_of}
use Rattle.alp_files.proofs.HistoryLemmas.{get-edit_map}
use Rattle.alp_files.proofs.IntentLemmas.{files_total, puts_from, puts_alone}
use Rattle.alp_files.proofs.SameLemmas.{same_key-true}
use Rattle.alp_locks.proofs.HeldLemmas.{tied}
use Rattle.alp_trans.specs.Counting.{has_block, is_first, left_by}
use Rattle.alp_calls.proofs.BlockLemmas.{shut, open_whole}
use Rattle.alp_calls.proofs.CountingLemmas.{laid_alone}
use Rattle.alp_vault.proofs.CountLemmas.{block_known}
use Rattle.alp_calls.proofs.FrameLemmas.{block_is, page_found, no_page}
use Rattle.alp_calls.proofs.IntentCounts.{with_all}
use Rattle.alp_calls.proofs.PutLemmas.{is_block, has_over}
use Rattle.alp_node.specs.Eases.{new_from}
use Rattle.alp_node.proofs.EaseAlong.{in_blocks, block_more}

-- ---- what is put

gone_none : (b : Bool) (o : Option Cell) → is_some o ≡ false → is_some (cond b None o) ≡ false
gone_none true o h = refl
gone_none false o h = h

module _ (W : Key → Type 0) where
  put_within : (es : List Edit) (x : Cells) (k : Key) → IsWithin W es → map.contains_key (edits_map es x) k ≡ true → map.contains_key x k ≡ false → W k
  put_within [] x k h there none = let wrong : true ≡ false = sym there ∙ none in cc
  put_within (Put j c ∷ es) x k h there none = go (eq_by_cmp key_cmp k j) refl (put_within es (map.insert x j c) k h.1 there)
    where
      go : (b : Bool) → eq_by_cmp key_cmp k j ≡ b → (map.contains_key (map.insert x j c) k ≡ false → W k) → W k
      go true e rest = subst W (sym (same_key-true k j e)) h.0
      go false e rest = rest (ap is_some (get-insert keys_total x j c k ∙ ap (λ (b : Bool). cond b (Some c) (map.get x k)) e) ∙ none)
  put_within (Drop f ∷ es) x k h there none = put_within es (edit_map (Drop f) x) k h.1 there (ap is_some (get-edit_map (Drop f) x k) ∙ gone_none (is_in_file f k) (map.get x k) none)
  put_within (Cut f n ∷ es) x k h there none = put_within es (edit_map (Cut f n) x) k h.1 there (ap is_some (get-edit_map (Cut f n) x k) ∙ gone_none (is_past f n k) (map.get x k) none)

  pub puts_within : (es : List Edit) (k : Key) → IsWithin W es → map.contains_key (intents_of es).puts k ≡ true → W k
  puts_within es k h there = put_within es map.empty k h (ap (λ (x : Cells). map.contains_key x k) (sym (puts_from no_intents es)) ∙ there) (ap is_some (get-empty {X = Cell} key_cmp k))

  -- ---- what goes

  file_tied : (f g : FileId) → eq_by_cmp file_cmp f g ≡ true → f ≡ g
  file_tied f g e = exact_files f g (tied (file_cmp f g) e)

  gone_from : (es : List Edit) (i : Intents) (f : FileId) → IsWithin W es → is_some (first_gone (intents_from i es) f) ≡ true → is_some (first_gone i f) ≡ false → (k : Key) → file_of k ≡ Some f → W k
  gone_from [] i f h gone none = let wrong : true ≡ false = sym gone ∙ none in cc
  gone_from (Put j c ∷ es) i f h gone none = gone_from es (intend (Put j c) i) f h.1 gone none
  gone_from (Drop g ∷ es) i f h gone none = go (eq_by_cmp file_cmp f g) refl (gone_from es (intend (Drop g) i) f h.1 gone)
    where
      go : (b : Bool) → eq_by_cmp file_cmp f g ≡ b → (is_some (first_gone (intend (Drop g) i) f) ≡ false → (k : Key) → file_of k ≡ Some f → W k) → (k : Key) → file_of k ≡ Some f → W k
      go true e rest = λ k is. h.0 k (is ∙ ap (λ (x : FileId). Some x) (file_tied f g e))
      go false e rest = rest
          ((λ j. is_some (cond {A = Option ℕ} (is_some ((get-insert files_total i.drops g tt f ∙ ap (λ (b : Bool). cond b (Some tt) (map.get i.drops f)) e) j)) (Some 0)
          ((map.get-remove files_total i.cuts g f ∙ ap (λ (b : Bool). cond b None (map.get i.cuts f)) e) j))) ∙ none)
  gone_from (Cut g n ∷ es) i f h gone none = go (eq_by_cmp file_cmp f g) refl (gone_from es (intend (Cut g n) i) f h.1 gone)
    where
      go : (b : Bool) → eq_by_cmp file_cmp f g ≡ b → (is_some (first_gone (intend (Cut g n) i) f) ≡ false → (k : Key) → file_of k ≡ Some f → W k) → (k : Key) → file_of k ≡ Some f → W k
      go true e rest = λ k is. h.0 k (is ∙ ap (λ (x : FileId). Some x) (file_tied f g e))
      go false e rest = rest
          ((λ j. is_some (cond {A = Option ℕ} (map.contains_key i.drops f) (Some 0) ((get-insert files_total i.cuts g (cut_from i.cuts g n) f ∙ ap (λ (b : Bool). cond b (Some (cut_from i.cuts g n)) (map.get i.cuts f)) e) j))) ∙ none)

  pub gone_within : (es : List Edit) (f : FileId) → IsWithin W es → is_some (first_gone (intents_of es) f) ≡ true → (k : Key) → file_of k ≡ Some f → W k
  gone_within es f h gone =
      gone_from es no_intents f h gone
      ((λ j. is_some (cond {A = Option ℕ} (is_some (get-empty {X = Unit {0}} file_cmp f j)) (Some 0) (get-empty {X = ℕ} file_cmp f j))))

-- ---- blocks

-- a block of puts has a page that is put
pub some_page : (m : Cells) (f : FileId) (n : ℕ) → has_block m (block_of f n) ≡ true → APageStands m f (n - n % 128) (n - n % 128 + 127)
some_page m f n there = page_found m f (n - n % 128) (n - n % 128 + 127) (n - n % 128) 128 (omega arith) (omega arith) (sym (block_is m f n) ∙ there)

none_there : (m : Cells) (f : FileId) (n : ℕ) → has_block m (block_of f n) ≡ false → (j : ℕ) → n - n % 128 ≤ j → j ≤ n - n % 128 + 127 → map.get m (PageOf f j) ≡ None
none_there m f n none j low high =
    let there : n - n % 128 + (j - (n - n % 128)) ≡ j = omega (arith, low) in
    ap (λ (x : ℕ). map.get m (PageOf f x)) (sym there) ∙ no_page m f (n - n % 128) 128 (sym (block_is m f n) ∙ none) (j - (n - n % 128)) (omega (arith, low, high))

pub same_block : (m n : Cells) (f : FileId) → ((j : ℕ) → map.get m (PageOf f j) ≡ map.get n (PageOf f j)) → (i : ℕ) → has_block m (block_of f i) ≡ has_block n (block_of f i)
same_block m n f same i = block_known m f i (has_block n (block_of f i))
    (λ yes. (let a : APageStands n f (i - i % 128) (i - i % 128 + 127) = some_page n f i yes in record { number = a.number; within = a.within; page = a.page; stands = same a.number ∙ a.stands }))
    (λ no_one j low high. same j ∙ none_there n f i no_one j low high)

-- where nothing of a file goes its blocks have what they had
pub left_block : (i : Intents) (m : Cells) (f : FileId) (n : ℕ) → first_gone i f ≡ None → has_block (left_by i m) (block_of f n) ≡ has_block m (block_of f n)
left_block i m f n none = go (has_block m (block_of f n)) refl
  where
    end : unwrap_or (first_gone i f) (n - n % 128 + 128) ≡ n - n % 128 + 128
    end = ap (λ (o : Option ℕ). unwrap_or o (n - n % 128 + 128)) none

    go : (b : Bool) → has_block m (block_of f n) ≡ b → has_block (left_by i m) (block_of f n) ≡ b
    go true e = open_whole i m f n (n - n % 128 + 128) end (le_refl (n - n % 128 + 128)) e
    go false e = shut i m f n (n - n % 128 + 128) end e

-- and behind edits that take nothing of it those that they put pages in too
pub block_behind : (fs : List Edit) (m : Cells) (f : FileId) (n : ℕ) → first_gone (intents_of fs) f ≡ None → has_block (edits_map fs m) (block_of f n) ≡ (has_block (intents_of fs).puts (block_of f n) || has_block m (block_of f n))
block_behind fs m f n none =
    let i : Intents = intents_of fs in
    ap (λ (x : Cells). has_block x (block_of f n)) (sym (with_all fs m)) ∙ has_over (puts_of (map.entries i.puts)) (puts_alone (map.entries i.puts)) (left_by i m) (block_of f n)
    ∙ ap (λ (x : Cells). has_block x (block_of f n) || has_block (left_by i m) (block_of f n)) (laid_alone i.puts) ∙ ap (λ (t : Bool). has_block i.puts (block_of f n) || t) (left_block i m f n none)

-- ---- the blocks that are new

new_step : (m : Cells) (k : Key) (acc : Blocks) (b : Key) (rest : Bool)
    → (map.contains_key (cond {A = Blocks} (is_first m k) (with_block k acc) acc) b || (rest && not (has_block m b))) ≡ (map.contains_key acc b || ((is_block k b || rest) && not (has_block m b)))
new_step m (Leader f) acc b rest = refl
new_step m (OwnerOf name) acc b rest = refl
new_step m (PageOf f n) acc b rest = go (eq_by_cmp key_cmp b (block_of f n)) refl
  where
    here : Bool
    here = not (has_block m (block_of f n))

    more : (t : Bool) → map.contains_key (cond {A = Blocks} t (with_block (PageOf f n) acc) acc) b ≡ ((t && is_block (PageOf f n) b) || map.contains_key acc b)
    more true = block_more (PageOf f n) acc b
    more false = refl

    off : (t a c n : Bool) → (((t && false) || a) || (c && n)) ≡ (a || ((false || c) && n))
    off true a c n = refl
    off false a c n = refl

    on : (t a c : Bool) → (((t && true) || a) || (c && t)) ≡ (a || ((true || c) && t))
    on true true c = refl
    on true false c = refl
    on false true c = refl
    on false false true = refl
    on false false false = refl

    go : (e : Bool) → eq_by_cmp key_cmp b (block_of f n) ≡ e
        → (map.contains_key (cond {A = Blocks} here (with_block (PageOf f n) acc) acc) b || (rest && not (has_block m b))) ≡ (map.contains_key acc b || ((is_block (PageOf f n) b || rest) && not (has_block m b)))
    go false e =
        ap (λ (t : Bool). t || (rest && not (has_block m b))) (more here ∙ ap (λ (t : Bool). (here && t) || map.contains_key acc b) e)
        ∙ off here (map.contains_key acc b) rest (not (has_block m b)) ∙ ap (λ (t : Bool). map.contains_key acc b || ((t || rest) && not (has_block m b))) (sym e)
    go true e =
        let is : b ≡ block_of f n = same_key-true b (block_of f n) e in
        let same : not (has_block m b) ≡ here = ap (λ (q : Key). not (has_block m q)) is in
        ap (λ (t : Bool). t || (rest && not (has_block m b))) (more here ∙ ap (λ (t : Bool). (here && t) || map.contains_key acc b) e)
        ∙ ap (λ (t : Bool). ((here && true) || map.contains_key acc b) || (rest && t)) same ∙ on here (map.contains_key acc b) rest
        ∙ (λ i. map.contains_key acc b || ((sym e i || rest) && sym same i))

pub new_in : (m : Cells) (acc : Blocks) (es : List (Key × Cell)) (b : Key) → map.contains_key (new_from m acc es) b ≡ (map.contains_key acc b || (in_blocks es b && not (has_block m b)))
new_in m acc [] b = sym (or_false (map.contains_key acc b))
  where
    or_false : (t : Bool) → (t || false) ≡ t
    or_false true = refl
    or_false false = refl
new_in m acc (e ∷ es) b = new_in m (cond {A = Blocks} (is_first m e.0) (with_block e.0 acc) acc) es b ∙ new_step m e.0 acc b (in_blocks es b)

-- each of them is the block of a page
pub record IsOfPage (b : Key) : Type 0 where
  pub file : FileId
  pub number : ℕ
  pub is : b ≡ block_of file number

pub of_page : (es : List (Key × Cell)) (b : Key) → in_blocks es b ≡ true → IsOfPage b
of_page [] b h = let wrong : false ≡ true = h in cc
of_page ((Leader f, c) ∷ es) b h = of_page es b h
of_page ((OwnerOf name, c) ∷ es) b h = of_page es b h
of_page ((PageOf f n, c) ∷ es) b h = go (eq_by_cmp key_cmp b (block_of f n)) refl h (of_page es b)
  where
    go : (t : Bool) → eq_by_cmp key_cmp b (block_of f n) ≡ t → (t || in_blocks es b) ≡ true → (in_blocks es b ≡ true → IsOfPage b) → IsOfPage b
    go true e h rest = record { file = f; number = n; is = same_key-true b (block_of f n) e }
    go false e h rest = rest h
