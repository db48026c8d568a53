-- an epoch and a clock are read back from their note
use Rattle.std.specs.Prelude.{Some, Option, unwrap_or}
use Rattle.std.proofs.Common.{◌≡◌, ℕ, ◌≤◌, ◌^◌, List, refl, ap}
use Rattle.std.proofs.lemmas.Bool.{leb-true}
use Rattle.alp_fields.specs.Forms.{IsForm, pair, checked, u32, u64, whole}
use Rattle.alp_fields.specs.Fields.{is_time}
use Rattle.alp_fields.specs.ClockNote.{clock_form, clock_in, no_clock}
use Rattle.alp_fields.specs.declared.clock_note.ClockNote.{ClockNote}
use Rattle.alp_fields.proofs.FormLaws.{pair_law, mapped_law, checked_law, whole_back, whole_spelled}
use Rattle.alp_fields.proofs.FieldLaws.{u32_law, u64_law}

clock_law : IsForm clock_form
unfolding clock_form
clock_law = mapped_law _ _ (pair u32 (checked is_time u64)) (λ v. refl) (λ x. refl) (pair_law u32 (checked is_time u64) u32_law (checked_law is_time u64 u64_law))

fits_within : (c : ClockNote) → clock_form.Fits c → c.clock ≤ 2 ^ 62
unfolding clock_form
fits_within c fits = leb-true c.clock (2 ^ 62) fits.1.1

-- a note with the spelling of a clock keeps it
pub clock_back : (c : ClockNote) → clock_form.Fits c → clock_in (Some (clock_form.spell c)) ≡ c
clock_back c fits = ap (λ (x : Option ClockNote). unwrap_or x no_clock) (whole_back clock_form clock_law c fits)

-- a clock that is read from a note is a time
pub clock_within : (bytes : List ℕ) (c : ClockNote) → whole clock_form bytes ≡ Some c → c.clock ≤ 2 ^ 62
clock_within bytes c e = fits_within c (whole_spelled clock_form clock_law bytes c e).1
