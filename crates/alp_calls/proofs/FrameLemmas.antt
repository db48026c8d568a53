-- what a part comes to rests on the files and owners that it touches
use Rattle.std.specs.Prelude.{cond, Bool, true, false, ◌&&◌, ◌||◌, is_some, is_none, Option, None, Some}
use Rattle.std.specs.List.{list_all}
use Rattle.std.specs.FinMap as map
use Rattle.std.specs.FinMap.{get-insert}
use Rattle.std.specs.Ordering.{eq_by_cmp}
use Rattle.std.proofs.Common.{◌≡◌, ℕ, zero, suc, ◌+◌, ◌-◌, ◌%◌, ◌<◌, ◌≤◌, List, [], ◌∷◌, refl, sym, ◌∙◌, ap, arith}
use Rattle.alp_base.specs.declared.ids.FileId.{FileId}
use Rattle.alp_base.specs.declared.key.Key.{Key}
use Rattle.alp_base.specs.declared.key.Key.TheVariants.{Leader, PageOf, OwnerOf}
use Rattle.alp_base.specs.Keys.{key_cmp}
use Rattle.alp_base.specs.KeyLaws.{keys_total}
use Rattle.alp_base.specs.declared.cell.Cell.{Cell}
use Rattle.alp_files.specs.Cells.{Cells, same_file}
use Rattle.alp_files.specs.Counts.{used_of, block_of, APageStands}
use Rattle.alp_files.specs.Edits.{Edit, Drop, Cut, Put, is_in_file, is_past, edit_map, edits_map}
use Rattle.alp_files.specs.Needs.{is_put}
use Rattle.alp_base.proofs.NameLemmas.{and_left}
use Rattle.alp_files.proofs.HistoryLemmas.{get-edit_map}
use Rattle.alp_files.proofs.SameLemmas.{same_key-true, same_key-itself, same_file-true, same_file-itself}
use Rattle.alp_vault.specs.Counted.{places_with}
use Rattle.alp_vault.proofs.CountLemmas.{block_known}
use Rattle.alp_trans.specs.Counting.{has_block}
use Rattle.alp_trans.specs.Frames.{is_near, is_at, touches, key_of, DoAgreeNear, AreApart}
use Rattle.alp_calls.proofs.NeedLemmas.{added, used_put, weight, made_in, sum_put}

-- ---- the pages of a block

pub any_page : Cells → FileId → ℕ → ℕ → Bool
any_page m f i zero = false
any_page m f i (suc n) = is_some (map.get m (PageOf f i)) || any_page m f (i + 1) n

pub page_found : (m : Cells) (f : FileId) (first last i n : ℕ) → first ≤ i → i + n ≤ last + 1 → any_page m f i n ≡ true → APageStands m f first last
unfolding any_page
page_found m f first last i zero low high any = cc
page_found m f first last i (suc n) low high any = go (map.get m (PageOf f i)) refl any (page_found m f first last (i + 1) n (omega (arith, low)) (omega (arith, high)))
  where
    go : (o : Option Cell) → map.get m (PageOf f i) ≡ o → (is_some (map.get m (PageOf f i)) || any_page m f (i + 1) n) ≡ true → (any_page m f (i + 1) n ≡ true → APageStands m f first last) → APageStands m f first last
    go None e h rest = rest (ap (λ (x : Option Cell). is_some x || any_page m f (i + 1) n) (sym e) ∙ h)
    go (Some d) e h rest = record { number = i; within = (low, omega (arith, high)); page = d; stands = e }

none_or : (o : Option Cell) (b : Bool) → (is_some o || b) ≡ false → (o ≡ None) × (b ≡ false)
none_or None b h = (refl, h)
none_or (Some d) b h = cc

pub no_page : (m : Cells) (f : FileId) (i n : ℕ) → any_page m f i n ≡ false → (d : ℕ) → d < n → map.get m (PageOf f (i + d)) ≡ None
unfolding any_page
no_page m f i zero none d less = absurd (omega (arith, less))
no_page m f i (suc n) none zero less =
    let here : i + 0 ≡ i = omega arith in
    ap (λ (j : ℕ). map.get m (PageOf f j)) here ∙ (none_or (map.get m (PageOf f i)) (any_page m f (i + 1) n) none).0
no_page m f i (suc n) none (suc d) less =
    let here : i + suc d ≡ i + 1 + d = omega arith in
    ap (λ (j : ℕ). map.get m (PageOf f j)) here ∙ no_page m f (i + 1) n (none_or (map.get m (PageOf f i)) (any_page m f (i + 1) n) none).1 d (omega (arith, less))

same_any : (m n : Cells) (f : FileId) → ((j : ℕ) → map.get m (PageOf f j) ≡ map.get n (PageOf f j)) → (i c : ℕ) → any_page m f i c ≡ any_page n f i c
unfolding any_page
same_any m n f same i zero = refl
same_any m n f same i (suc c) =
    ap (λ (o : Option Cell). is_some o || any_page m f (i + 1) c) (same i) ∙ ap (λ (b : Bool). is_some (map.get n (PageOf f i)) || b) (same_any m n f same (i + 1) c)

pub block_is : (m : Cells) (f : FileId) (n : ℕ) → has_block m (block_of f n) ≡ any_page m f (n - n % 128) 128
block_is m f n = block_known m f n (any_page m f (n - n % 128) 128)
    (page_found m f (n - n % 128) (n - n % 128 + 127) (n - n % 128) 128 (omega arith) (omega arith))
    (λ none j low high.
    let there : n - n % 128 + (j - (n - n % 128)) ≡ j = omega (arith, low) in
    ap (λ (i : ℕ). map.get m (PageOf f i)) (sym there) ∙ no_page m f (n - n % 128) 128 none (j - (n - n % 128)) (omega (arith, low, high)))

same_block : (m n : Cells) (f : FileId) → ((j : ℕ) → map.get m (PageOf f j) ≡ map.get n (PageOf f j)) → (i : ℕ) → has_block m (block_of f i) ≡ has_block n (block_of f i)
same_block m n f same i = block_is m f i ∙ same_any m n f same (i - i % 128) 128 ∙ sym (block_is n f i)

-- ---- one key

near_itself : (k : Key) → is_near k k ≡ true
near_itself (Leader f) = same_file-itself f
near_itself (PageOf f n) = same_file-itself f
near_itself (OwnerOf name) = same_key-itself (OwnerOf name)

same_places : (m n : Cells) (k : Key) → ((q : Key) → is_near k q ≡ true → map.get m q ≡ map.get n q) → places_with m k ≡ places_with n k
same_places m n (Leader f) same = refl
same_places m n (OwnerOf name) same = refl
same_places m n (PageOf f i) same = ap (λ (b : Bool). cond {A = ℕ} b 1 2) (same_block m n f (λ j. same (PageOf f j) (same_file-itself f)) i)

same_added : (m n : Cells) (k : Key) → ((q : Key) → is_near k q ≡ true → map.get m q ≡ map.get n q) → added m k ≡ added n k
same_added m n k same =
    ap (λ (o : Option Cell). cond {A = ℕ} (is_some o) 0 (places_with m k)) (same k (near_itself k))
    ∙ ap (λ (i : ℕ). cond {A = ℕ} (map.contains_key n k) 0 i) (same_places m n k same)

or_left : (a b : Bool) → a ≡ true → (a || b) ≡ true
or_left true b h = refl
or_left false b h = cc

or_right : (a b : Bool) → b ≡ true → (a || b) ≡ true
or_right true b h = refl
or_right false b h = h

-- where a key is near the first put, and behind it
first_near : (k : Key) (c : Cell) (es : List Edit) (x y : Cells) → DoAgreeNear (Put k c ∷ es) x y → (q : Key) → is_near k q ≡ true → map.get x q ≡ map.get y q
first_near k c es x y agree q h = agree q (or_left (is_near k q) (touches es q) h)

rest_near : (k : Key) (c : Cell) (es : List Edit) (x y : Cells) → DoAgreeNear (Put k c ∷ es) x y → DoAgreeNear es (map.insert x k c) (map.insert y k c)
rest_near k c es x y agree q h =
    get-insert keys_total x k c q
    ∙ ap (cond (eq_by_cmp key_cmp q k) (Some c)) (agree q (or_right (is_near k q) (touches es q) h))
    ∙ sym (get-insert keys_total y k c q)

-- ---- places

pub used_along : (es : List Edit) (x y : Cells) → list_all is_put es ≡ true → DoAgreeNear es x y → used_of (edits_map es x) + used_of y ≡ used_of (edits_map es y) + used_of x
used_along [] x y alone agree = omega arith
used_along (Put k c ∷ es) x y alone agree =
    omega (
      arith,
      used_along es (map.insert x k c) (map.insert y k c) alone (rest_near k c es x y agree),
      used_put x k c,
      used_put y k c,
      same_added x y k (first_near k c es x y agree),
    )
used_along (Drop f ∷ es) x y alone agree = cc
used_along (Cut f n ∷ es) x y alone agree = cc

-- ---- files and owners

module _ (p : Key → Bool) (m n : Cells) where
  same_weight : (k : Key) → map.get m k ≡ map.get n k → weight p m k ≡ weight p n k
  same_weight k same = ap (λ (o : Option Cell). cond {A = ℕ} (p k && is_none o) 1 0) same

  same_made_at : (x y : Cells) (k : Key) → map.get x k ≡ map.get y k → map.get m k ≡ map.get n k → cond {A = ℕ} (map.contains_key x k) 0 (weight p m k) ≡ cond {A = ℕ} (map.contains_key y k) 0 (weight p n k)
  same_made_at x y k same held =
      ap (λ (o : Option Cell). cond {A = ℕ} (is_some o) 0 (weight p m k)) same ∙ ap (λ (i : ℕ). cond {A = ℕ} (map.contains_key y k) 0 i) (same_weight k held)

  pub made_along : (es : List Edit) (x y : Cells) → list_all is_put es ≡ true → DoAgreeNear es x y → DoAgreeNear es m n → made_in p m (edits_map es x) + made_in p n y ≡ made_in p n (edits_map es y) + made_in p m x
  made_along [] x y alone agree held = omega arith
  made_along (Put k c ∷ es) x y alone agree held =
      omega (
        arith,
        made_along es (map.insert x k c) (map.insert y k c) alone (rest_near k c es x y agree) (λ q h. held q (or_right (is_near k q) (touches es q) h)),
        sum_put (weight p m) x k c,
        sum_put (weight p n) y k c,
        same_made_at x y k (first_near k c es x y agree k (near_itself k)) (first_near k c es m n held k (near_itself k)),
      )
  made_along (Drop f ∷ es) x y alone agree held = cc
  made_along (Cut f i ∷ es) x y alone agree held = cc

-- ---- parts that are apart

-- what is touched of a file is touched of all its keys
at_file : (e : Edit) (f : FileId) (q : Key) → is_in_file f q ≡ true → is_at e q ≡ is_at e (Leader f)
at_file e f (OwnerOf name) h = cc
at_file (Drop g) f (Leader h) same = ap (same_file g) (sym (same_file-true f h same))
at_file (Cut g n) f (Leader h) same = ap (same_file g) (sym (same_file-true f h same))
at_file (Put (Leader g) c) f (Leader h) same = ap (same_file g) (sym (same_file-true f h same))
at_file (Put (PageOf g n) c) f (Leader h) same = ap (same_file g) (sym (same_file-true f h same))
at_file (Put (OwnerOf name) c) f (Leader h) same = refl
at_file (Drop g) f (PageOf h i) same = ap (same_file g) (sym (same_file-true f h same))
at_file (Cut g n) f (PageOf h i) same = ap (same_file g) (sym (same_file-true f h same))
at_file (Put (Leader g) c) f (PageOf h i) same = ap (same_file g) (sym (same_file-true f h same))
at_file (Put (PageOf g n) c) f (PageOf h i) same = ap (same_file g) (sym (same_file-true f h same))
at_file (Put (OwnerOf name) c) f (PageOf h i) same = refl

touches_file : (es : List Edit) (f : FileId) (q : Key) → is_in_file f q ≡ true → touches es q ≡ touches es (Leader f)
touches_file [] f q h = refl
touches_file (e ∷ es) f q h = λ j. at_file e f q h j || touches_file es f q h j

past_in : (f : FileId) (n : ℕ) (q : Key) → is_past f n q ≡ true → is_in_file f q ≡ true
past_in f n (Leader g) h = cc
past_in f n (PageOf g i) h = and_left _ _ h
past_in f n (OwnerOf name) h = cc

-- an edit elsewhere leaves what is there
left_there : (es : List Edit) (e : Edit) (m : Cells) (q : Key) → touches es (key_of e) ≡ false → touches es q ≡ true → map.get (edit_map e m) q ≡ map.get m q
left_there es (Drop f) m q apart near = get-edit_map (Drop f) m q ∙ go (is_in_file f q) refl
  where
    go : (b : Bool) → is_in_file f q ≡ b → cond b None (map.get m q) ≡ map.get m q
    go true h = let wrong : true ≡ false = sym near ∙ touches_file es f q h ∙ apart in cc
    go false h = refl
left_there es (Cut f n) m q apart near = get-edit_map (Cut f n) m q ∙ go (is_past f n q) refl
  where
    go : (b : Bool) → is_past f n q ≡ b → cond b None (map.get m q) ≡ map.get m q
    go true h = let wrong : true ≡ false = sym near ∙ touches_file es f q (past_in f n q h) ∙ apart in cc
    go false h = refl
left_there es (Put k c) m q apart near = get-edit_map (Put k c) m q ∙ go (eq_by_cmp key_cmp q k) refl
  where
    go : (b : Bool) → eq_by_cmp key_cmp q k ≡ b → cond b (Some c) (map.get m q) ≡ map.get m q
    go true h = let wrong : true ≡ false = sym near ∙ ap (touches es) (same_key-true q k h) ∙ apart in cc
    go false h = refl

pub apart_agrees : (m : Cells) (es fs : List Edit) → AreApart es fs → DoAgreeNear es m (edits_map fs m)
apart_agrees m es [] apart q near = refl
apart_agrees m es (f ∷ fs) apart q near = sym (left_there es f m q apart.0 near) ∙ apart_agrees (edit_map f m) es fs apart.1 q near
