-- epochs and clocks that are read back from notes
use Rattle.std.specs.Prelude.{true, false, ◌==◌, Some}
use Rattle.std.proofs.Common.{◌≡◌, ℕ, ◌+◌, ◌<◌, ◌≤◌, ◌^◌, List, refl, sym, ◌∙◌, ap, arith, eq-eqb}
use Rattle.std.proofs.lemmas.Bool.{le-leb}
use Rattle.alp_fields.specs.Fields.{is_time}
use Rattle.alp_fields.specs.Forms.{Form, IsForm, mapped, pair, checked, u32, u64, whole}
use Rattle.alp_fields.specs.ClockNote.{clock_form}
use Rattle.alp_fields.specs.declared.clock_note.ClockNote.{ClockNote}
use Rattle.alp_fields.proofs.FormLaws.{pair_law, mapped_law, checked_law, whole_back, whole_spelled}
use Rattle.alp_fields.proofs.FieldLaws.{u32_law, u64_law}

-- the form of an epoch and of any number in the place of the clock
any_form : Form ClockNote
any_form = mapped (λ x. record { epoch = x.0; clock = x.1 }) (λ c. (c.epoch, c.clock)) (pair u32 u64)

any_law : IsForm any_form
unfolding any_form
any_law = mapped_law _ _ (pair u32 u64) (λ v. refl) (λ x. refl) (pair_law u32 u64 u32_law u64_law)

pub time_law : IsForm clock_form
unfolding clock_form
time_law = mapped_law _ _ (pair u32 (checked is_time u64)) (λ v. refl) (λ x. refl) (pair_law u32 (checked is_time u64) u32_law (checked_law is_time u64 u64_law))

fits_any : (c : ClockNote) → clock_form.Fits c → any_form.Fits c
unfolding clock_form any_form
fits_any c fits = (fits.0, fits.1.0)

same_spelling : (c : ClockNote) → clock_form.spell c ≡ any_form.spell c
unfolding clock_form any_form
same_spelling c = refl

any_epoch : (c : ClockNote) → any_form.Fits c → c.epoch < 2 ^ 32
unfolding any_form u32
any_epoch c fits = fits.0

numbers_fit : (c : ClockNote) → c.epoch < 2 ^ 32 → c.clock < 2 ^ 64 → any_form.Fits c
unfolding any_form u32 u64
numbers_fit c epoch clock = (epoch, clock)

-- an epoch and a time have a note
pub time_fits : (c : ClockNote) → c.epoch < 2 ^ 32 → c.clock ≤ 2 ^ 62 → clock_form.Fits c
unfolding clock_form u32 u64
time_fits c epoch clock = (epoch, (omega (arith, clock), le-leb c.clock (2 ^ 62) clock))

-- an epoch that is read from a note is a number of 32 bits
pub clock_epoch : (bytes : List ℕ) (c : ClockNote) → whole clock_form bytes ≡ Some c → c.epoch < 2 ^ 32
clock_epoch bytes c e = any_epoch c (fits_any c (whole_spelled clock_form time_law bytes c e).1)

-- what is read from a note with these numbers is they
pub spelled_clock : (c k : ClockNote) → c.epoch < 2 ^ 32 → c.clock < 2 ^ 64 → whole clock_form (clock_form.spell c) ≡ Some k → k ≡ c
spelled_clock c k epoch clock e =
    let read = whole_spelled clock_form time_law (clock_form.spell c) k e in
    let same : any_form.spell c ≡ any_form.spell k = sym (same_spelling c) ∙ read.0 ∙ same_spelling k in
    some_same k c (sym (whole_back any_form any_law k (fits_any k read.1)) ∙ ap (whole any_form) (sym same) ∙ whole_back any_form any_law c (numbers_fit c epoch clock))
  where
    some_same : (x y : ClockNote) → Some x ≡ Some y → x ≡ y
    some_same x y e = cc

-- a number of 32 bits that is not the last has one after it
pub not_last : (n : ℕ) → n < 4294967296 → (n == 4294967295) ≡ false → n + 1 < 4294967296
not_last n low away = omega (arith, low, other)
  where
    other : n ≡ 4294967295 → ⊥
    other is = let wrong : true ≡ false = sym (eq-eqb n 4294967295 is) ∙ away in cc
