-- The pages that have an image, when images come and when all are dropped.
use Rattle.std.proofs.Common.{◌≡◌, ◌≢◌, inl, inr, ◌<◌, ◌≤◌, ◌+◌, ℕ, zero, suc, List, [], ◌∷◌, ◌++◌, length, set, Option, Some, None, refl, sym, ap, ◌∙◌, arith, length-append}
use Rattle.std.specs.Prelude.{slice_index_or}
use Rattle.std.proofs.lemmas.Bool.{cases_eq}
use Rattle.std.proofs.lemmas.List.{length-set, get_or-set_same, get_or-set_other, length-replicate}
use Rattle.alp_wal.specs.Home.{Index}
use Rattle.alp_wal.specs.Logged.{images_in, AreListed, IsWhole}
use Rattle.alp_wal.specs.Wal.{no_index}

no_some : (image : List ℕ) → None ≡ Some image → ⊥
no_some image e = cc

-- ---- how many images there are

images_within : (index : Index) → images_in index ≤ length index
images_within [] = omega arith
images_within (None ∷ index) = omega (arith, images_within index)
images_within (Some image ∷ index) = omega (arith, images_within index)

images_below : (index : Index) (at : ℕ) → at < length index → slice_index_or index at None ≡ None → images_in index < length index
images_below [] at low none = absurd (omega (arith, low))
images_below (None ∷ index) zero low none = omega (arith, images_within index)
images_below (Some image ∷ index) zero low none = absurd (no_some image (sym none))
images_below (None ∷ index) (suc at) low none = omega (arith, images_below index at (omega (arith, low)) none)
images_below (Some image ∷ index) (suc at) low none = omega (arith, images_below index at (omega (arith, low)) none)

images_in-new : (index : Index) (at : ℕ) (image : List ℕ) → at < length index → slice_index_or index at None ≡ None → images_in (set index at (Some image)) ≡ images_in index + 1
images_in-new [] at image low none = absurd (omega (arith, low))
images_in-new (None ∷ index) zero image low none = refl
images_in-new (Some old ∷ index) zero image low none = absurd (no_some old (sym none))
images_in-new (None ∷ index) (suc at) image low none = images_in-new index at image (omega (arith, low)) none
images_in-new (Some old ∷ index) (suc at) image low none = omega (arith, images_in-new index at image (omega (arith, low)) none)

images_in-again : (index : Index) (at : ℕ) (old image : List ℕ) → slice_index_or index at None ≡ Some old → images_in (set index at (Some image)) ≡ images_in index
images_in-again [] at old image there = absurd (no_some old there)
images_in-again (None ∷ index) zero old image there = absurd (no_some old there)
images_in-again (Some x ∷ index) zero old image there = refl
images_in-again (None ∷ index) (suc at) old image there = images_in-again index at old image there
images_in-again (Some x ∷ index) (suc at) old image there = omega (arith, images_in-again index at old image there)

-- ---- one more in a list

pushed_before : (xs : List ℕ) (y j d : ℕ) → j < length xs → slice_index_or (xs ++ y ∷ []) j d ≡ slice_index_or xs j d
pushed_before [] y j d low = absurd (omega (arith, low))
pushed_before (x ∷ xs) y zero d low = refl
pushed_before (x ∷ xs) y (suc j) d low = pushed_before xs y j d (omega (arith, low))

pushed_last : (xs : List ℕ) (y d : ℕ) → slice_index_or (xs ++ y ∷ []) (length xs) d ≡ y
pushed_last [] y d = refl
pushed_last (x ∷ xs) y d = pushed_last xs y d

-- ---- an image comes

pub room_left : (logged : List ℕ) (room : ℕ) (index : Index) (at : ℕ) → IsWhole logged room index → at < length index → slice_index_or index at None ≡ None → length logged < room
room_left logged room index at whole low none = omega (arith, whole.few, whole.room_for_all, images_below index at low none)

pub whole_none : (n room : ℕ) → n ≤ room → IsWhole [] room (no_index n)
whole_none n room enough = record {
  listed = record { each = λ k image is. absurd (no_some image (sym (none n k) ∙ is)); within = λ j d low. absurd (omega (arith, low)) };
  few = omega arith;
  room_for_all = omega (arith, enough, length-replicate {A = Option (List ℕ)} n None);
}
  where
    none : (m k : ℕ) → slice_index_or (no_index m) k None ≡ None
    none zero k = refl
    none (suc m) zero = refl
    none (suc m) (suc k) = none m k

pub whole_new : (logged : List ℕ) (room : ℕ) (index : Index) (at : ℕ) (image : List ℕ) → IsWhole logged room index → at < length index → slice_index_or index at None ≡ None → IsWhole (logged ++ at ∷ []) room (set index at (Some image))
whole_new logged room index at image whole low none = record {
  listed = record {
    each = λ k page is. elim (cases_eq k at) [
      | inl same ↦ (length logged, omega (arith, length-append logged (at ∷ [])), pushed_last logged at 0 ∙ sym same)
      | inr other ↦
          let before = whole.listed.each k page (sym (get_or-set_other index at k (Some image) None other) ∙ is) in
          (before.0, omega (arith, before.1, length-append logged (at ∷ [])), pushed_before logged at before.0 0 before.1 ∙ before.2)
    ];
    within = λ j d last. elim (cases_eq j (length logged)) [
      | inl same ↦
          let here : slice_index_or (logged ++ at ∷ []) j d ≡ at = ap (λ (i : ℕ). slice_index_or (logged ++ at ∷ []) i d) same ∙ pushed_last logged at d in
          omega (arith, here, low, length-set index at (Some image))
      | inr other ↦
          let earlier : j < length logged = omega (arith, last, other, length-append logged (at ∷ [])) in
          omega (arith, pushed_before logged at j d earlier, whole.listed.within j d earlier, length-set index at (Some image))
    ];
  };
  few = omega (arith, length-append logged (at ∷ []), images_in-new index at image low none, whole.few);
  room_for_all = omega (arith, length-set index at (Some image), whole.room_for_all);
}

pub whole_again : (logged : List ℕ) (room : ℕ) (index : Index) (at : ℕ) (old image : List ℕ) → IsWhole logged room index → slice_index_or index at None ≡ Some old → IsWhole logged room (set index at (Some image))
whole_again logged room index at old image whole there = record {
  listed = record {
    each = λ k page is. elim (cases_eq k at) [
      | inl same ↦ whole.listed.each k old (ap (λ (i : ℕ). slice_index_or index i None) same ∙ there)
      | inr other ↦ whole.listed.each k page (sym (get_or-set_other index at k (Some image) None other) ∙ is)
    ];
    within = λ j d low. omega (arith, whole.listed.within j d low, length-set index at (Some image));
  };
  few = omega (arith, images_in-again index at old image there, whole.few);
  room_for_all = omega (arith, length-set index at (Some image), whole.room_for_all);
}

-- ---- all are dropped

-- those of the first n pages of the list are dropped
pub record Dropped (logged : List ℕ) (n : ℕ) (start now : Index) : Type 0 where
  pub long : length now ≡ length start
  pub rest : (k : ℕ) (image : List ℕ) → slice_index_or now k None ≡ Some image → (slice_index_or start k None ≡ Some image) × ((i : ℕ) → i < n → slice_index_or logged i 0 ≢ k)

pub dropped_none : (logged : List ℕ) (index : Index) → Dropped logged 0 index index
dropped_none logged index = record { long = refl; rest = λ k image is. (is, λ i low e. omega (arith, low)) }

pub dropped_next : (logged : List ℕ) (n at : ℕ) (start now : Index) → slice_index_or logged n 0 ≡ at → at < length now → Dropped logged n start now → Dropped logged (n + 1) start (set now at None)
dropped_next logged n at start now listed low before = record {
  long = length-set now at None ∙ before.long;
  rest = λ k image is. elim (cases_eq k at) [
    | inl same ↦ absurd (no_some image (sym (ap (λ (i : ℕ). slice_index_or (set now at None) i None) same ∙ get_or-set_same now at None None low) ∙ is))
    | inr other ↦
        let was = before.rest k image (sym (get_or-set_other now at k None None other) ∙ is) in (
          was.0,
          λ i below e. elim (cases_eq i n) [
            | inl last ↦ other (sym e ∙ ap (λ (j : ℕ). slice_index_or logged j 0) last ∙ listed)
            | inr earlier ↦ was.1 i (omega (arith, below, earlier)) e
          ],
        )
  ];
}

all_none : (index : Index) → ((k : ℕ) → slice_index_or index k None ≡ None) → index ≡ no_index (length index)
all_none [] none = refl
all_none (slot ∷ index) none = λ i. none 0 i ∷ all_none index (λ k. none (suc k)) i

pub dropped_all : (logged : List ℕ) (start now : Index) → AreListed logged start → Dropped logged (length logged) start now → now ≡ no_index (length start)
dropped_all logged start now listed dropped = all_none now (λ k. go k (slice_index_or now k None) refl) ∙ ap (λ (n : ℕ). no_index n) dropped.long
  where
    go : (k : ℕ) (slot : Option (List ℕ)) → slice_index_or now k None ≡ slot → slice_index_or now k None ≡ None
    go k None is = is
    go k (Some image) is =
        let was = dropped.rest k image is in
        let at = listed.each k image was.0 in
        absurd (was.1 at.0 at.1 at.2)
