-- Index pages have 128 places, and name a place that is put into them.
use Rattle.std.specs.Prelude.{true, Some, slice_index_or, replicate}
use Rattle.std.proofs.Common.{◌≡◌, ℕ, zero, suc, List, length, refl, sym, ◌∙◌, ap, subst, arith}
use Rattle.alp_fields.specs.Forms.{IsForm, whole, repeated, u32, IsSet}
use Rattle.alp_fields.proofs.PlaceLemmas.{set_whole}
use Rattle.alp_fields.proofs.FormLaws.{whole_back, whole_spelled, repeated_law, checked_law}
use Rattle.alp_fields.proofs.FieldLaws.{u32_law}
use Rattle.alp_fields.proofs.FixedLaws.{u32_length, repeated_length}
use Rattle.alp_pages.specs.Pages.{index_page, has_a_place}

pub index_page_law : IsForm index_page
unfolding index_page
index_page_law = checked_law has_a_place (repeated u32 128) (repeated_law u32 128 u32_law)

row_bytes : (ps : List ℕ) → (repeated u32 128).Fits ps → length ((repeated u32 128).spell ps) ≡ 512
row_bytes ps fits = omega (arith, repeated_length u32 4 (λ n _. u32_length n) ps fits.1, fits.0)

row_back : (ps page : List ℕ) → page ≡ (repeated u32 128).spell ps → (repeated u32 128).Fits ps → has_a_place ps ≡ true → whole index_page page ≡ Some ps
unfolding index_page
row_back ps page same fits some = ap (whole index_page) same ∙ whole_back index_page index_page_law ps (fits, some)

-- a page that is read has 128 places
pub index_length : (page ps : List ℕ) → whole index_page page ≡ Some ps → length ps ≡ 128
unfolding index_page
index_length page ps e = (whole_spelled index_page index_page_law page ps e).1.0.0

pub row_page : (ps qs old page : List ℕ) → length qs ≡ 128 → qs ≡ ps → length old ≡ 512 → has_a_place ps ≡ true → IsSet (repeated u32 (length qs)) qs 0 old page → whole index_page page ≡ Some ps
row_page ps qs old page long same full some set =
    let told : IsSet (repeated u32 128) ps 0 old page = subst (λ (xs : List ℕ). IsSet (repeated u32 128) xs 0 old page) same (subst (λ (n : ℕ). IsSet (repeated u32 n) qs 0 old page) long set) in
    row_back ps page (set_whole (repeated u32 128) ps old page (row_bytes ps told.fits ∙ sym full) told) told.fits some

-- a row without places names none
pub no_places : (n k : ℕ) → ◌≡◌ {A = ℕ} (slice_index_or (replicate n 0) k 0) 0
no_places zero zero = refl
no_places zero (suc k) = refl
no_places (suc n) zero = refl
no_places (suc n) (suc k) = no_places n k
