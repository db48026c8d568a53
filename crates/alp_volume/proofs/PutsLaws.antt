-- The two turns of puts come to the puts one after the other.
use Rattle.std.specs.Prelude.{Bool, true, false, cond, is_some, Option, None, Some}
use Rattle.std.specs.Ordering.{eq_by_cmp}
use Rattle.std.specs.FinMap as map
use Rattle.std.proofs.Common.{◌≡◌, ℕ, ◌+◌, ◌*◌, ◌<◌, List, [], ◌∷◌, length, sum_by, refl, sym, ◌∙◌, ap, subst, arith}
use Rattle.std.proofs.lemmas.List.Sums.{sum_by-cons}
use Rattle.alp_base.specs.declared.ids.FileId.{FileId}
use Rattle.alp_base.specs.declared.key.Key.{Key}
use Rattle.alp_base.specs.declared.key.Key.TheVariants.{Leader, PageOf, OwnerOf}
use Rattle.alp_base.specs.Keys.{key_cmp}
use Rattle.alp_base.specs.declared.cell.Cell.{Cell}
use Rattle.alp_files.specs.Cells.{View}
use Rattle.alp_files.specs.Edits.{Put, after, edits_at}
use Rattle.alp_files.specs.Undo.{puts_of}
use Rattle.alp_files.proofs.SameLemmas.{same_key-true, same_key-itself}
use Rattle.alp_volume.specs.Drafts.{ArePaged, HaveLeaders}
use Rattle.alp_volume.specs.Puts.{HasLeader, HaveLeadersPut, head_made, head_pages, heads_made, is_page, page_made, page_pages, pages_made}

-- ---- the order does not matter

-- a page and what is none are not put at the same key
apart_keys : (q k j : Key) → is_page k ≡ true → is_page j ≡ false → eq_by_cmp key_cmp q k ≡ true → eq_by_cmp key_cmp q j ≡ true → ⊥
apart_keys q k j page none here there =
    let one = same_key-true q k here in
    let two = same_key-true q j there in
    let wrong : true ≡ false = sym page ∙ ap is_page (sym one ∙ two) ∙ none in
    cc

two_puts : (m : View) (k j : Key) (c d : Cell) → is_page k ≡ true → is_page j ≡ false → after (Put j d ∷ []) (after (Put k c ∷ []) m) ≡ after (Put k c ∷ []) (after (Put j d ∷ []) m)
two_puts m k j c d page none = λ i q. at_key q (eq_by_cmp key_cmp q k) refl (eq_by_cmp key_cmp q j) refl i
  where
    at_key : (q : Key) (t : Bool) → eq_by_cmp key_cmp q k ≡ t → (u : Bool) → eq_by_cmp key_cmp q j ≡ u → cond u (Some d) (cond t (Some c) (m q)) ≡ cond t (Some c) (cond u (Some d) (m q))
    at_key q true e true h = absurd (apart_keys q k j page none e h)
    at_key q true e false h = refl
    at_key q false e true h = refl
    at_key q false e false h = refl

page_last : (ps : List (Key × Cell)) (k : Key) (c : Cell) (m : View) → is_page k ≡ true → heads_made ps (after (Put k c ∷ []) m) ≡ after (Put k c ∷ []) (heads_made ps m)
page_last [] k c m page = refl
page_last (p ∷ ps) k c m page = ap (heads_made ps) (turn (is_page p.0) refl) ∙ page_last ps k c (head_made p m) page
  where
    turn : (t : Bool) → is_page p.0 ≡ t → cond t (after (Put k c ∷ []) m) (after (Put p.0 p.1 ∷ []) (after (Put k c ∷ []) m)) ≡ after (Put k c ∷ []) (cond t m (after (Put p.0 p.1 ∷ []) m))
    turn true e = refl
    turn false e = two_puts m k p.0 c p.1 page e

pub turns_made : (ps : List (Key × Cell)) (m : View) → pages_made ps (heads_made ps m) ≡ after (puts_of ps) m
turns_made [] m = refl
turns_made (p ∷ ps) m = turn (is_page p.0) refl (turns_made ps (after (Put p.0 p.1 ∷ []) m))
  where
    turn : (t : Bool) → is_page p.0 ≡ t → pages_made ps (heads_made ps (after (Put p.0 p.1 ∷ []) m)) ≡ after (puts_of ps) (after (Put p.0 p.1 ∷ []) m)
        → pages_made ps (cond t (after (Put p.0 p.1 ∷ []) (heads_made ps (cond t m (after (Put p.0 p.1 ∷ []) m)))) (heads_made ps (cond t m (after (Put p.0 p.1 ∷ []) m)))) ≡ after (puts_of ps) (after (Put p.0 p.1 ∷ []) m)
    turn true e rest = ap (pages_made ps) (sym (page_last ps p.0 p.1 m e)) ∙ rest
    turn false e rest = rest

-- ---- leaders

-- pages that are put leave leaders alone
leader_same : (k : Key) (c : Cell) (m : View) (f : FileId) → is_page k ≡ true → after (Put k c ∷ []) m (Leader f) ≡ m (Leader f)
leader_same k c m f page = go (eq_by_cmp key_cmp (Leader f) k) refl
  where
    go : (t : Bool) → eq_by_cmp key_cmp (Leader f) k ≡ t → cond t (Some c) (m (Leader f)) ≡ m (Leader f)
    go true e = let wrong : false ≡ true = ap is_page (same_key-true (Leader f) k e) ∙ page in cc
    go false e = refl

pub leaders_same : (ps : List (Key × Cell)) (m : View) (f : FileId) → pages_made ps m (Leader f) ≡ m (Leader f)
leaders_same [] m f = refl
leaders_same (p ∷ ps) m f = leaders_same ps (page_made p m) f ∙ turn (is_page p.0) refl
  where
    turn : (t : Bool) → is_page p.0 ≡ t → cond t (after (Put p.0 p.1 ∷ []) m) m (Leader f) ≡ m (Leader f)
    turn true e = leader_same p.0 p.1 m f e
    turn false e = refl

-- what is put stands after the puts
still_there : (ps : List (Key × Cell)) (q : Key) (o : Option Cell) → is_some o ≡ true → is_some (edits_at (puts_of ps) q o) ≡ true
still_there [] q o h = h
still_there (p ∷ ps) q o h = still_there ps q (cond (eq_by_cmp key_cmp q p.0) (Some p.1) o) (turn (eq_by_cmp key_cmp q p.0))
  where
    turn : (t : Bool) → is_some (cond t (Some p.1) o) ≡ true
    turn true = refl
    turn false = h

put_there : (p : Key × Cell) (ps : List (Key × Cell)) (m : View) → is_some (after (puts_of (p ∷ ps)) m p.0) ≡ true
put_there p ps m = still_there ps p.0 (cond (eq_by_cmp key_cmp p.0 p.0) (Some p.1) (m p.0)) (ap (λ (t : Bool). is_some (cond t (Some p.1) (m p.0))) (same_key-itself p.0))

abbrev ArePutThere : List (Key × Cell) → View → Type 0
ArePutThere [] m = Unit {0}
ArePutThere (p ∷ ps) m = (is_some (m p.0) ≡ true) × ArePutThere ps m

all_there : (ps : List (Key × Cell)) (m : View) → ArePutThere ps (after (puts_of ps) m)
all_there [] m = tt
all_there (p ∷ ps) m = (put_there p ps m, all_there ps (after (Put p.0 p.1 ∷ []) m))

leaders_in : (ps : List (Key × Cell)) (m final : View) → ArePaged final → ((f : FileId) → m (Leader f) ≡ final (Leader f)) → ArePutThere ps final → HaveLeadersPut m ps
leaders_in [] m final have same there = tt
leaders_in (p ∷ ps) m final have same there = (has p.0 there.0, leaders_in ps m final have same there.1)
  where
    has : (k : Key) → is_some (final k) ≡ true → HasLeader m k
    has (Leader f) h = tt
    has (PageOf f n) h = ap is_some (same f) ∙ have f n h
    has (OwnerOf o) h = tt

-- where all pages have leaders after the puts, so have the pages that are put once leaders and owners are
pub leaders_put : (ps : List (Key × Cell)) (m : View) → ArePaged (after (puts_of ps) m) → HaveLeadersPut (heads_made ps m) ps
leaders_put ps m have = leaders_in ps (heads_made ps m) (after (puts_of ps) m) have (λ f. sym (leaders_same ps (heads_made ps m) f) ∙ ap (λ (k : View). k (Leader f)) (turns_made ps m)) (all_there ps m)

pub leaders_stay : (ps : List (Key × Cell)) (m k : View) → ((f : FileId) → k (Leader f) ≡ m (Leader f)) → HaveLeadersPut m ps → HaveLeadersPut k ps
leaders_stay [] m k same h = tt
leaders_stay (p ∷ ps) m k same h = (has p.0 h.0, leaders_stay ps m k same h.1)
  where
    has : (q : Key) → HasLeader m q → HasLeader k q
    has (Leader f) x = tt
    has (PageOf f n) x = ap is_some (same f) ∙ x
    has (OwnerOf o) x = tt

pub page_same : (p : Key × Cell) (m : View) (f : FileId) → page_made p m (Leader f) ≡ m (Leader f)
page_same p m f = turn (is_page p.0) refl
  where
    turn : (t : Bool) → is_page p.0 ≡ t → cond t (after (Put p.0 p.1 ∷ []) m) m (Leader f) ≡ m (Leader f)
    turn true e = leader_same p.0 p.1 m f e
    turn false e = refl

-- a leader or an owner that is put takes no page's leader away
pub head_keeps : (p : Key × Cell) (m : View) → HaveLeaders m → HaveLeaders (head_made p m)
head_keeps p m have = turn (is_page p.0) refl
  where
    page : (g : FileId) (n : ℕ) → is_page p.0 ≡ false → (t : Bool) → eq_by_cmp key_cmp (PageOf g n) p.0 ≡ t → (u : Bool) → is_some (cond t (Some p.1) (m (PageOf g n))) ≡ true → (n < 4096) × (is_some (cond u (Some p.1) (m (Leader g))) ≡ true)
    page g n none true e u h = let wrong : true ≡ false = ap is_page (same_key-true (PageOf g n) p.0 e) ∙ none in cc
    page g n none false e true h = ((have g n h).0, refl)
    page g n none false e false h = have g n h

    turn : (t : Bool) → is_page p.0 ≡ t → HaveLeaders (cond t m (after (Put p.0 p.1 ∷ []) m))
    turn true e = have
    turn false e = λ g n h. page g n e (eq_by_cmp key_cmp (PageOf g n) p.0) refl (eq_by_cmp key_cmp (Leader g) p.0) h

-- ---- how many pages they change

pub turns_few : (ps : List (Key × Cell)) → sum_by head_pages ps + sum_by page_pages ps ≡ 3 * length ps
turns_few [] = refl
turns_few (p ∷ ps) = go (is_page p.0) refl (sum_by-cons head_pages p ps) (sum_by-cons page_pages p ps) (turns_few ps)
  where
    go : (t : Bool) → is_page p.0 ≡ t → sum_by head_pages (p ∷ ps) ≡ cond (is_page p.0) 0 3 + sum_by head_pages ps → sum_by page_pages (p ∷ ps) ≡ cond (is_page p.0) 3 0 + sum_by page_pages ps → sum_by head_pages ps + sum_by page_pages ps ≡ 3 * length ps → sum_by head_pages (p ∷ ps) + sum_by page_pages (p ∷ ps) ≡ 3 * length (p ∷ ps)
    go true e a b h = (let one : ◌≡◌ {A = ℕ} (cond (is_page p.0) 0 3) 0 = ap {B = ℕ} (λ (t : Bool). cond t 0 3) e in let two : ◌≡◌ {A = ℕ} (cond (is_page p.0) 3 0) 3 = ap {B = ℕ} (λ (t : Bool). cond t 3 0) e in omega (arith, a, b, h, one, two))
    go false e a b h = (let one : ◌≡◌ {A = ℕ} (cond (is_page p.0) 0 3) 3 = ap {B = ℕ} (λ (t : Bool). cond t 0 3) e in let two : ◌≡◌ {A = ℕ} (cond (is_page p.0) 3 0) 0 = ap {B = ℕ} (λ (t : Bool). cond t 3 0) e in omega (arith, a, b, h, one, two))
