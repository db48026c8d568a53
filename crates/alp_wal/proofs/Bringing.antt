-- Images are brought home.
use Rattle.std.proofs.Common.{◌≡◌, ◌≢◌, inl, inr, ℕ, ◌+◌, ◌<◌, List, ◌++◌, length, Option, Some, None, refl, sym, ap, subst, ◌∙◌, arith}
use Rattle.std.specs.Prelude.{slice_index_or}
use Rattle.std.proofs.lemmas.Bool.{cases_eq}
use Rattle.std.proofs.lemmas.List.{append-nil, drop_all}
use Rattle.alp_base.specs.Pages.{overwritten}
use Rattle.alp_disk.specs.Disk.{Image, page, IsImage, with_bytes, Torn}
use Rattle.alp_base.specs.Crashes.{Follows}
use Rattle.alp_disk.specs.Images.{page-with_bytes, page-with_bytes_other}
use Rattle.alp_wal.specs.Home.{Index, SameUnlogged, BroughtHome, MayDiffer, IsBrought}
use Rattle.alp_wal.specs.Logged.{AreListed}

-- ---- one image

overwritten_whole : (p bytes : List ℕ) → length p ≡ 512 → length bytes ≡ 512 → overwritten p 0 bytes ≡ bytes
overwritten_whole p bytes whole size = ap (λ (l : List ℕ). bytes ++ l) (drop_all (0 + length bytes) p (omega (arith, whole, size))) ∙ append-nil bytes

pub is_brought : (n at : ℕ) (bytes image : List ℕ) (old new : Image) → IsImage n old → at < n → bytes ≡ image → length bytes ≡ 512 → new ≡ with_bytes old at 0 bytes → IsBrought at (Some image) old new
is_brought n at bytes image old new is within same whole written = (
  ap (λ (c : Image). page c at) written ∙ page-with_bytes old at 0 bytes (omega (arith, is.count, within)) ∙ overwritten_whole (page old at) bytes (is.whole at within) whole ∙ same,
  λ q other. ap (λ (c : Image). page c q) written ∙ page-with_bytes_other old at 0 q bytes other,
)

pub torn_differs : (at size : ℕ) (image : List ℕ) (old new : Image → Type 0) → Follows (Torn at 0 size) old new → Follows (MayDiffer at (Some image)) old new
torn_differs at size image old new torn c left = let b = torn c left in (b.0, b.1, b.2.others)

-- ---- the images of an index

pub same_unlogged : (first : ℕ) (index : Index) (image : Image) → SameUnlogged first index image image
same_unlogged first index image = record { before = λ q low. refl; home = λ k none. refl }

pub no_some : (image : List ℕ) → None ≡ Some image → ⊥
no_some image e = cc

unlogged_next : (first k : ℕ) (index : Index) (slot : Option (List ℕ)) (old mid new : Image) → slice_index_or index k None ≡ slot → SameUnlogged first index old mid → MayDiffer (first + k) slot mid new → SameUnlogged first index old new
unlogged_next first k index None old mid new here same differ = subst (λ (c : Image). SameUnlogged first index old c) (sym differ) same
unlogged_next first k index (Some image) old mid new here same differ = record {
  before = λ q low. differ q (λ e. omega (arith, low, e)) ∙ same.before q low;
  home = λ j none. differ (first + j) (λ e. other j none (omega (arith, e))) ∙ same.home j none;
}
  where
    other : (j : ℕ) → slice_index_or index j None ≡ None → j ≡ k → ⊥
    other j none e = no_some image (sym none ∙ ap (λ (i : ℕ). slice_index_or index i None) e ∙ here)

pub follows_next : (first k : ℕ) (index : Index) (slot : Option (List ℕ)) (old mid new : Image → Type 0) → slice_index_or index k None ≡ slot → Follows (SameUnlogged first index) old mid → Follows (MayDiffer (first + k) slot) mid new → Follows (SameUnlogged first index) old new
follows_next first k index slot old mid new here so_far step c left =
    let b = step c left in
    let a = so_far b.0 b.1 in
    (a.0, a.1, unlogged_next first k index slot a.0 b.0 c here a.2 b.2)

differs : (at : ℕ) (slot : Option (List ℕ)) (old new : Image) → IsBrought at slot old new → MayDiffer at slot old new
differs at None old new brought = brought
differs at (Some image) old new brought = brought.1

some_is : (slot : Option (List ℕ)) (image : List ℕ) (at : ℕ) (old new : Image) → slot ≡ Some image → IsBrought at slot old new → page new at ≡ image
some_is None image at old new is brought = absurd (no_some image is)
some_is (Some x) image at old new is brought = let same : x ≡ image = cc in brought.0 ∙ same

elsewhere : (slot : Option (List ℕ)) (at q : ℕ) (old new : Image) → q ≢ at → IsBrought at slot old new → page new q ≡ page old q
elsewhere None at q old new other brought = ap (λ (c : Image). page c q) brought
elsewhere (Some x) at q old new other brought = brought.1 q other

-- ---- the images of the pages that are listed

-- the first n pages of a list are as the index has them
pub record BroughtListed (first : ℕ) (logged : List ℕ) (n : ℕ) (index : Index) (old new : Image) : Type 0 where
  pub same : SameUnlogged first index old new
  pub home : (i : ℕ) (image : List ℕ) → i < n → slice_index_or index (slice_index_or logged i 0) None ≡ Some image → page new (first + slice_index_or logged i 0) ≡ image

pub listed_none : (first : ℕ) (logged : List ℕ) (index : Index) (image : Image) → BroughtListed first logged 0 index image image
listed_none first logged index image = record { same = same_unlogged first index image; home = λ i p low is. absurd (omega (arith, low)) }

pub listed_next : (first at : ℕ) (logged : List ℕ) (n : ℕ) (index : Index) (slot : Option (List ℕ)) (old mid new : Image) → slice_index_or logged n 0 ≡ at → slice_index_or index at None ≡ slot
    → BroughtListed first logged n index old mid → IsBrought (first + at) slot mid new → BroughtListed first logged (n + 1) index old new
listed_next first at logged n index slot old mid new listed here so_far brought = record {
  same = unlogged_next first at index slot old mid new here so_far.same (differs (first + at) slot mid new brought);
  home = λ i image low is. elim (cases_eq (slice_index_or logged i 0) at) [
    | inl same ↦ ap (λ (k : ℕ). page new (first + k)) same ∙ some_is slot image (first + at) mid new (sym here ∙ ap (λ (k : ℕ). slice_index_or index k None) (sym same) ∙ is) brought
    | inr other ↦
        let earlier : i ≡ n → ⊥ = λ e. other (ap (λ (j : ℕ). slice_index_or logged j 0) e ∙ listed) in
        elsewhere slot (first + at) (first + slice_index_or logged i 0) mid new (λ e. omega (arith, e, other)) brought ∙ so_far.home i image (omega (arith, low, earlier)) is
  ];
}

pub brought_all : (first : ℕ) (logged : List ℕ) (index : Index) (old new : Image) → AreListed logged index → BroughtListed first logged (length logged) index old new → BroughtHome first (length index) index old new
brought_all first logged index old new listed brought = record {
  same = brought.same;
  home = λ k image low is.
      let at = listed.each k image is in
      ap (λ (x : ℕ). page new (first + x)) (sym at.2) ∙ brought.home at.0 image at.1 (ap (λ (x : ℕ). slice_index_or index x None) at.2 ∙ is);
}
