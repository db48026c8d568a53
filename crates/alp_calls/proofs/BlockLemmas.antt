-- whether a block has a page that does not go
use Rattle.std.specs.Prelude.{cond, Bool, true, false, ◌||◌, nat_le, unwrap_or, Option, None, Some}
use Rattle.std.specs.FinMap as map
use Rattle.std.proofs.Common.{◌≡◌, ℕ, ◌+◌, ◌-◌, ◌%◌, ◌<◌, ◌≤◌, refl, sym, ◌∙◌, ap, arith}
use Rattle.std.proofs.lemmas.Bool.{le-leb, lt-leb, leb-false}
use Rattle.alp_base.specs.declared.ids.FileId.{FileId}
use Rattle.alp_base.specs.declared.key.Key.TheVariants.{PageOf}
use Rattle.alp_files.specs.Cells.{Cells}
use Rattle.alp_files.specs.Counts.{APageStands, block_of}
use Rattle.alp_files.specs.Needs.{Intents, is_gone, is_cut, first_gone}
use Rattle.alp_vault.proofs.CountLemmas.{block_known}
use Rattle.alp_trans.specs.Counting.{left_by, has_block}
use Rattle.alp_calls.proofs.FrameLemmas.{page_found, no_page, block_is}
use Rattle.alp_calls.proofs.IntentCounts.{get-left}

-- the pages that go are those from the first one on
page_goes : (i : Intents) (f : FileId) (n : ℕ) → is_gone i (PageOf f n) ≡ is_cut (first_gone i f) n
page_goes i f n = go (map.contains_key i.drops f)
  where
    go : (b : Bool) → (b || is_cut (map.get i.cuts f) n) ≡ is_cut (cond {A = Option ℕ} b (Some 0) (map.get i.cuts f)) n
    go true = sym (le-leb 0 n (omega arith))
    go false = refl

goes_from : (o : Option ℕ) (past end n : ℕ) → unwrap_or o past ≡ end → n < past → is_cut o n ≡ nat_le end n
goes_from None past end n e less = sym (lt-leb end n (omega (arith, e, less)))
goes_from (Some m) past end n e less = ap (λ (x : ℕ). nat_le x n) e

module _ (i : Intents) (held : Cells) (f : FileId) (n end : ℕ) (is : unwrap_or (first_gone i f) (n - n % 128 + 128) ≡ end) where
  -- what is left at a page of the block
  left_page : (j : ℕ) → j ≤ n - n % 128 + 127 → map.get (left_by i held) (PageOf f j) ≡ cond (nat_le end j) None (map.get held (PageOf f j))
  left_page j high =
      get-left i held (PageOf f j)
      ∙ ap (λ (b : Bool). cond b None (map.get held (PageOf f j))) (page_goes i f j ∙ goes_from (first_gone i f) (n - n % 128 + 128) end j is (omega (arith, high)))

  none_left : (j : ℕ) → j ≤ n - n % 128 + 127 → map.get held (PageOf f j) ≡ None → map.get (left_by i held) (PageOf f j) ≡ None
  none_left j high none = left_page j high ∙ go (nat_le end j)
    where
      go : (b : Bool) → cond b None (map.get held (PageOf f j)) ≡ None
      go true = refl
      go false = none

  -- a block that has no page in the vault has none then
  pub shut : has_block held (block_of f n) ≡ false → has_block (left_by i held) (block_of f n) ≡ false
  shut none = block_known (left_by i held) f n false (λ wrong. absurd (differ wrong)) (λ e j low high. none_left j high (held_none j low high))
    where
      differ : false ≡ true → ⊥
      differ e = cc

      held_none : (j : ℕ) → n - n % 128 ≤ j → j ≤ n - n % 128 + 127 → map.get held (PageOf f j) ≡ None
      held_none j low high =
          let there : n - n % 128 + (j - (n - n % 128)) ≡ j = omega (arith, low) in
          ap (λ (x : ℕ). map.get held (PageOf f x)) (sym there) ∙ no_page held f (n - n % 128) 128 (sym (block_is held f n) ∙ none) (j - (n - n % 128)) (omega (arith, low, high))

  -- one of which none goes has what it has in the vault
  pub open_whole : n - n % 128 + 128 ≤ end → has_block held (block_of f n) ≡ true → has_block (left_by i held) (block_of f n) ≡ true
  open_whole whole some =
      let a : APageStands held f (n - n % 128) (n - n % 128 + 127) = page_found held f (n - n % 128) (n - n % 128 + 127) (n - n % 128) 128 (omega arith) (omega arith) (sym (block_is held f n) ∙ some) in
      block_known (left_by i held) f n true
      (λ e. record {
        number = a.number;
        within = a.within;
        page = a.page;
        stands = left_page a.number a.within.1 ∙ ap (λ (b : Bool). cond b None (map.get held (PageOf f a.number))) (lt-leb end a.number (omega (arith, whole, a.within.1))) ∙ a.stands;
      })
      (λ wrong. absurd (differ wrong))
    where
      differ : true ≡ false → ⊥
      differ e = cc

  -- in one of which some go, the others are looked at
  pub open_below : (t : Bool) → end < n - n % 128 + 128 → (t ≡ true → (n - n % 128 < end) × APageStands held f (n - n % 128) (end - 1))
      → (t ≡ false → (j : ℕ) → n - n % 128 ≤ j → j < end → map.get held (PageOf f j) ≡ None) → has_block (left_by i held) (block_of f n) ≡ t
  open_below t less some none = block_known (left_by i held) f n t found nothing
    where
      found : t ≡ true → APageStands (left_by i held) f (n - n % 128) (n - n % 128 + 127)
      found e =
          let h = some e in
          let a : APageStands held f (n - n % 128) (end - 1) = h.1 in
          let low : n - n % 128 < end = h.0 in
          let below : a.number < end = omega (arith, a.within.1, low) in
          let high : a.number ≤ n - n % 128 + 127 = omega (arith, below, less) in
          record {
            number = a.number;
            within = (a.within.0, high);
            page = a.page;
            stands = left_page a.number high ∙ ap (λ (b : Bool). cond b None (map.get held (PageOf f a.number))) (lt-leb end a.number below) ∙ a.stands;
          }

      nothing : t ≡ false → (j : ℕ) → n - n % 128 ≤ j → j ≤ n - n % 128 + 127 → map.get (left_by i held) (PageOf f j) ≡ None
      nothing e j low high = left_page j high ∙ go (nat_le end j) refl
        where
          go : (b : Bool) → nat_le end j ≡ b → cond b None (map.get held (PageOf f j)) ≡ None
          go true h = refl
          go false h = none e j low (leb-false end j h)
