-- What a batch makes of what a log holds.
use Rattle.std.proofs.Common.{◌≡◌, inl, inr, ◌<◌, ◌≤◌, ◌+◌, ◌-◌, ◌*◌, ℕ, zero, suc, List, [], ◌∷◌, ◌++◌, length, Some, None, refl, sym, ap, subst, ◌∙◌, arith}
use Rattle.std.specs.Prelude.{slice_set, slice_index_or, replicate}
use Rattle.std.specs.List.{AllByRecursion}
use Rattle.std.specs.FinMap as map
use Rattle.std.proofs.lemmas.List.{length-set}
use Rattle.std.proofs.lemmas.Bool.{cases_eq}
use Rattle.alp_disk.specs.Disk.{Image, page}
use Rattle.alp_anchor.specs.Anchor.{IsSound, Counts}
use Rattle.alp_anchor.specs.declared.anchor.Anchor.{Anchor}
use Rattle.alp_batch.specs.declared.batch.PageImage.{PageImage}
use Rattle.alp_batch.specs.declared.batch.Batch.{Batch}
use Rattle.alp_disk.specs.Runs.{SameOutside}
use Rattle.alp_wal.specs.State.{State, overlaid, applied, IsBelow}
use Rattle.alp_wal.specs.Reading.{Applies, Leads, pages_from, home_first, area_end, bare}
use Rattle.alp_wal.specs.Home.{Index}
use Rattle.alp_wal.specs.Wal.{shown, indexed}

-- ---- the index shows what the batches leave

shown_set : (pages : Image) (index : Index) (i : ℕ) (p : List ℕ) → i < length index → shown pages (slice_set index i (Some p)) ≡ slice_set (shown pages index) i p
shown_set [] index i p low = refl
shown_set (q ∷ pages) [] i p low = absurd (omega (arith, low))
shown_set (q ∷ pages) (None ∷ index) zero p low = refl
shown_set (q ∷ pages) (Some x ∷ index) zero p low = refl
shown_set (q ∷ pages) (None ∷ index) (suc i) p low = ap (λ (l : Image). q ∷ l) (shown_set pages index i p (omega (arith, low)))
shown_set (q ∷ pages) (Some x ∷ index) (suc i) p low = ap (λ (l : Image). x ∷ l) (shown_set pages index i p (omega (arith, low)))

pub shown_indexed : (pages : Image) (index : Index) (images : List PageImage) → AllByRecursion (IsBelow (length index)) images → shown pages (indexed index images) ≡ overlaid (shown pages index) images
shown_indexed pages index [] all = refl
shown_indexed pages index (i ∷ is) all =
    let long : length (slice_set index i.at (Some i.page)) ≡ length index = length-set index i.at (Some i.page) in
    shown_indexed pages (slice_set index i.at (Some i.page)) is (subst (λ n. AllByRecursion (IsBelow n) is) (sym long) all.1)
    ∙ ap (λ (l : Image). overlaid l is) (shown_set pages index i.at i.page all.0)

pub length-indexed : (index : Index) (images : List PageImage) → length (indexed index images) ≡ length index
length-indexed index [] = refl
length-indexed index (i ∷ is) = length-indexed (slice_set index i.at (Some i.page)) is ∙ length-set index i.at (Some i.page)

-- without images the pages are shown as they stand
pub shown_bare : (pages : Image) (n : ℕ) → shown pages (replicate n None) ≡ pages
shown_bare [] n = refl
shown_bare (p ∷ pages) zero = ap (λ (l : Image). p ∷ l) (shown_bare pages zero)
shown_bare (p ∷ pages) (suc n) = ap (λ (l : Image). p ∷ l) (shown_bare pages n)

-- what is shown of a page
pub shown_none : (pages : Image) (index : Index) (i : ℕ) → slice_index_or index i None ≡ None → page (shown pages index) i ≡ page pages i
shown_none [] index i is = refl
shown_none (q ∷ pages) [] zero is = refl
shown_none (q ∷ pages) [] (suc i) is = shown_none pages [] i refl
shown_none (q ∷ pages) (None ∷ index) zero is = refl
shown_none (q ∷ pages) (Some x ∷ index) zero is = absurd cc
shown_none (q ∷ pages) (None ∷ index) (suc i) is = shown_none pages index i is
shown_none (q ∷ pages) (Some x ∷ index) (suc i) is = shown_none pages index i is

pub shown_some : (pages : Image) (index : Index) (i : ℕ) (p : List ℕ) → slice_index_or index i None ≡ Some p → i < length pages → page (shown pages index) i ≡ p
shown_some [] index i p is low = absurd (omega (arith, low))
shown_some (q ∷ pages) [] i p is low = absurd cc
shown_some (q ∷ pages) (None ∷ index) zero p is low = absurd cc
shown_some (q ∷ pages) (Some x ∷ index) zero p is low = cc
shown_some (q ∷ pages) (None ∷ index) (suc i) p is low = shown_some pages index i p is (omega (arith, low))
shown_some (q ∷ pages) (Some x ∷ index) (suc i) p is low = shown_some pages index i p is (omega (arith, low))

-- ---- home pages

pub same_from : (a b : Image) (first n : ℕ) → ((q : ℕ) → first ≤ q → page b q ≡ page a q) → pages_from b first n ≡ pages_from a first n
same_from a b first zero same = refl
same_from a b first (suc n) same = ap (λ (p : List ℕ). p ∷ pages_from b (first + 1) n) (same first (omega arith)) ∙ ap (λ (l : Image). page a first ∷ l) (same_from a b (first + 1) n (λ q above. same q (omega (arith, above))))

pub length-pages_from : (image : Image) (first n : ℕ) → length (pages_from image first n) ≡ n
length-pages_from image first zero = refl
length-pages_from image first (suc n) = ap suc (length-pages_from image (first + 1) n)

pub page_from : (image : Image) (first n i : ℕ) → i < n → page (pages_from image first n) i ≡ page image (first + i)
page_from image first zero i low = absurd (omega (arith, low))
page_from image first (suc n) zero low = ap (λ (k : ℕ). page image k) (omega arith)
page_from image first (suc n) (suc i) low = page_from image (first + 1) n i (omega (arith, low)) ∙ ap (λ (k : ℕ). page image k) (omega arith)

-- ---- one batch more

pub leads_push : (home : ℕ) (first last : State) (bodies : List (List ℕ)) (body : List ℕ) (b : Batch) → Leads home first bodies last → Applies home last body b → Leads home first (bodies ++ body ∷ []) (applied last b)
leads_push home first last [] body b leads one = (b, subst (λ (s : State). Applies home s body b) (sym leads) one, ap (λ (s : State). applied s b) leads)
leads_push home first last (x ∷ bodies) body b leads one = (leads.0, leads.1, leads_push home (applied first leads.0) last bodies body b leads.2 one)

-- ---- pages before the records and behind them

pub above_area : (a : Anchor) → a.area ≤ 1 → area_end a ≤ home_first a
above_area a low = elim (cases_eq a.area 0) [
  | inl none ↦ omega (arith, ap (λ (k : ℕ). k * a.sizes.area) none)
  | inr some ↦ let one : a.area ≡ 1 = omega (arith, low, some) in omega (arith, ap (λ (k : ℕ). k * a.sizes.area) one)
]

pub bare_kept : (n : ℕ) (a : Anchor) (old c : Image) (at : ℕ) → IsSound n a → SameOutside at (area_end a - at) old c → at ≤ area_end a → bare c a ≡ bare old a
bare_kept n a old c at sound same inside =
    ap (λ (l : Image). record { pages = l; notes = map.empty }) (same_from old c (home_first a) a.sizes.home (λ q above. same.behind q (omega (arith, above, above_area a sound.area, inside))))

pub counts_kept : (n : ℕ) (a : Anchor) (old c : Image) → ((q : ℕ) → q < 2 → page c q ≡ page old q) → Counts n old a → Counts n c a
counts_kept n a old c same counts = record {
  is_open = record { bytes = same a.page (omega (arith, counts.is_open.sound.page)) ∙ counts.is_open.bytes; sound = counts.is_open.sound };
  newest = λ b is. counts.newest b (record {
    is_open = record { bytes = sym (same (1 - a.page) (omega arith)) ∙ is.is_open.bytes; sound = is.is_open.sound };
    server_is = is.server_is;
    servers_is = is.servers_is;
  });
}
