-- A new volume holds nothing.
use Rattle.std.specs.Prelude.{Bool, true, false, cond, ◌==◌, slice_set, replicate, None, Some}
use Rattle.std.specs.FinMap as map
use Rattle.std.specs.FinMap.{len-empty}
use Rattle.std.proofs.Common.{◌≡◌, ◌≤◌, ◌<◌, ℕ, List, [], refl, ◌∙◌, ap, arith, eq-eqb}
use Rattle.std.proofs.lemmas.Bool.{eqb-true}
use Rattle.std.proofs.lemmas.List.{get_or-set_same, get_or-set_other, get_or-replicate, length-replicate}
use Rattle.alp_base.specs.Notes.{Notes, text_cmp}
use Rattle.alp_base.specs.Faults.{IsOfVolume}
use Rattle.alp_base.specs.Pages.{zero_page}
use Rattle.alp_base.specs.declared.faults.Sizes.{Sizes}
use Rattle.alp_base.specs.declared.faults.VaultFault.{VaultFault}
use Rattle.alp_base.specs.declared.faults.VaultFault.TheVariants as fault
use Rattle.alp_batch.specs.Batch.{IsBatch, notes_length}
use Rattle.alp_batch.specs.Values.{puts}
use Rattle.alp_disk.specs.Disk.{page}
use Rattle.alp_format.specs.Format.{blank_state}
use Rattle.alp_notes.proofs.RowLemmas.{entries-empty}
use Rattle.alp_pages.specs.Damage.{damage_of}
use Rattle.alp_pages.specs.Pages.{header_page, written}
use Rattle.alp_pages.specs.Volume.{StandFor}
use Rattle.alp_pages.proofs.NewLaws.{new_volume}
use Rattle.alp_pages.proofs.OrderLaws.{standing_undamaged}
use Rattle.alp_wal.specs.Live.{batch_pages, BothFit}
use Rattle.alp_wal.specs.State.{State, Suits, applied}
use Rattle.alp_store.specs.Starts.{header_batch, IsDamagedHome}
use Rattle.alp_store.specs.Told.{pages_of, contents_in}
use Rattle.alp_store.proofs.Alike.{stands_alike}
use Rattle.alp_store.proofs.Standing.{told_is}

-- ---- the header as a batch

pub header_is_batch : IsBatch header_batch
header_is_batch = record { few_images = omega arith; pages_rise = refl; few_notes = omega arith; names_rise = refl; short = tt }

pub header_suits : (home : ℕ) (notes : Notes) → 0 < home → notes ≡ map.empty → Suits home notes header_batch
header_suits home notes some none = let long : map.len notes ≡ 0 = ap map.len none ∙ len-empty text_cmp (List ℕ) in record { inside = (some, tt); few = omega (arith, long) }

pub header_fits : (area : ℕ) (notes : Notes) → 64 ≤ area → notes ≡ map.empty → BothFit area notes header_batch
header_fits area notes enough none =
    let short : notes_length (puts (map.entries notes)) ≡ 0 = ap (λ (n : Notes). notes_length (puts (map.entries n))) none ∙ ap (λ (es : List (List ℕ × List ℕ)). notes_length (puts es)) entries-empty in
    omega (arith, short, enough)

pub header_small : (area : ℕ) → 64 ≤ area → batch_pages header_batch ≤ area
header_small area enough = omega (arith, enough)

-- ---- what it makes of pages of zeros

module _ (home : ℕ) (least : 512 ≤ home) where
  abbrev later : State
  later = applied (blank_state home) header_batch

  one : (q : ℕ) → q < home → pages_of (applied (blank_state home) header_batch) q ≡ written 0 header_page (λ place. zero_page) q
  one q low = go (q == 0) refl
    where
      go : (t : Bool) → (q == 0) ≡ t → page (slice_set (replicate home zero_page) 0 header_page) q ≡ cond t header_page zero_page
      go true e = ap (λ (x : ℕ). page (slice_set (replicate home zero_page) 0 header_page) x) (eqb-true q 0 e) ∙ get_or-set_same (replicate home zero_page) 0 header_page [] (let long = length-replicate home zero_page in omega (arith, long, least))
      go false e = get_or-set_other (replicate home zero_page) 0 q header_page [] (λ z. (let yes = eq-eqb q 0 z in cc)) ∙ get_or-replicate home q zero_page [] low

  pub new_stands : StandFor home (pages_of (applied (blank_state home) header_batch)) map.empty
  new_stands = stands_alike home (written 0 header_page (λ place. zero_page)) (pages_of (applied (blank_state home) header_batch)) map.empty (omega (arith, least)) one (new_volume home)

  pub new_contents : (s : State) → s ≡ applied (blank_state home) header_batch → contents_in s ≡ record { cells = map.empty; notes = map.empty }
  new_contents s is =
      let cells = told_is home (pages_of (applied (blank_state home) header_batch)) map.empty new_stands in
      ap contents_in is ∙ (λ i. record { cells = cells i; notes = map.empty })

-- ---- why it is refused

pub refused_volume : (f : VaultFault) → ((place : ℕ) → f ≡ fault.Damaged place → ⊥) → ((found : List ℕ) → f ≡ fault.NotAVolume found → ⊥) → IsOfVolume f
refused_volume fault.Failed d v = tt
refused_volume fault.Stopped d v = tt
refused_volume fault.OutOfMemory d v = tt
refused_volume (fault.NotAVolume found) d v = v found refl
refused_volume (fault.Damaged place) d v = d place refl

-- a new volume has no damaged page
pub new_undamaged : (sizes : Sizes) (s : State) (place : ℕ) → 512 ≤ sizes.home → s ≡ applied (blank_state sizes.home) header_batch → IsDamagedHome sizes (pages_of s) place → ⊥
new_undamaged sizes s place least is bad =
    let right : damage_of sizes.home (pages_of s) ≡ None = ap (λ (x : State). damage_of sizes.home (pages_of x)) is ∙ standing_undamaged sizes.home (pages_of (applied (blank_state sizes.home) header_batch)) map.empty (new_stands sizes.home least) in
    let wrong : damage_of sizes.home (pages_of s) ≡ Some bad.page = bad.wrong in
    cc
