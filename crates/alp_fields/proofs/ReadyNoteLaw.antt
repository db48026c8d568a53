-- the laws of the notes of ready parts
use Rattle.std.proofs.Common.{◌≡◌, ℕ, suc, ◌<◌, ◌≤◌, ◌^◌, List, length, Option, Some, None, refl, sym, ap, ◌∙◌, arith}
use Rattle.std.specs.Prelude.{IfOk, IfSome, Result, Ok, Err}
use Rattle.std.proofs.lemmas.Bool.{leb-true}
use Rattle.alp_base.specs.declared.ids.JoinNo.{JoinNo}
use Rattle.alp_fields.specs.Forms.{IsForm, pair, checked, whole, u8, u16, u64}
use Rattle.alp_fields.specs.ClockNote.{clock_name}
use Rattle.alp_fields.specs.Fields.{is_time, trans_id, join_no, resource}
use Rattle.alp_fields.specs.ModeField.{mode}
use Rattle.alp_fields.specs.Rising.{rising}
use Rattle.alp_fields.specs.ChangeField.{change_form}
use Rattle.alp_fields.specs.ReadyNote.{ready_name, lock, ready_of, ready_parts, ready_form, IsReadyPart, ready_with, ready_in}
use Rattle.alp_fields.specs.declared.ready_note.ReadyPart.{ReadyPart}
use Rattle.alp_fields.specs.declared.ready_note.TheConstants.{READY_LETTER}
use Rattle.alp_fields.proofs.FormLaws.{pair_law, mapped_law, checked_law, whole_back, whole_spelled}
use Rattle.alp_fields.proofs.FieldLaws.{u8_law, u64_law, trans_id_law, join_no_law, resource_law, marked_law}
use Rattle.alp_fields.proofs.ModeFieldLaw.{mode_law}
use Rattle.alp_fields.proofs.FixedLaws.{id_parts_length}
use Rattle.alp_fields.proofs.ItemLemmas.{rising_law}
use Rattle.alp_fields.proofs.ChangeFieldLaw.{change_law, change_fits}

pub ready_name_law : IsForm ready_name
unfolding ready_name
ready_name_law = marked_law READY_LETTER join_no (omega arith) join_no_law

pub lock_law : IsForm lock
unfolding lock
lock_law = pair_law resource mode resource_law mode_law

pub ready_law : IsForm ready_form
unfolding ready_form
ready_law = mapped_law ready_of ready_parts _ (λ v. refl) (λ x. refl)
    (pair_law trans_id _ trans_id_law (pair_law (checked is_time u64) _ (checked_law is_time u64 u64_law) (pair_law u8 _ u8_law (pair_law (rising lock) change_form (rising_law lock lock_law) change_law))))

few : (n : ℕ) → u16.Fits n → n < 2 ^ 16
unfolding u16
few n fits = fits

-- what has a spelling is a part that can be written
pub ready_fits : (p : ReadyPart) → ready_form.Fits p → IsReadyPart p
unfolding ready_form
ready_fits p fits = record {
  time = leb-true p.ts (2 ^ 62) fits.1.0.1;
  few = few (length p.locks) fits.1.1.1.0.0.0;
  locks = fits.1.1.1.0.1;
  change = change_fits p.change fits.1.1.1.1;
}

pub part_read : {E : Type 0} (bytes : List ℕ) (answer : Result (Option ReadyPart) E) → IfOk answer (λ found. found ≡ whole ready_form bytes) → IfOk answer (λ found. IfSome found IsReadyPart)
part_read bytes (Err e) is = tt
part_read bytes (Ok None) is = tt
part_read bytes (Ok (Some p)) is = ready_fits p (whole_spelled ready_form ready_law bytes p (sym is)).1

-- the note of a part keeps it
pub ready_back : (j : JoinNo) (p : ReadyPart) → ready_name.Fits j → ready_form.Fits p → ready_in (ready_name.spell j) (ready_form.spell p) ≡ Some (j, p)
ready_back j p named fits =
    ap (λ (x : Option JoinNo). ready_with x (whole ready_form (ready_form.spell p))) (whole_back ready_name ready_name_law j named)
    ∙ ap (ready_with (Some j)) (whole_back ready_form ready_law p fits)

-- a name has ten bytes
pub ready_name_length : (j : JoinNo) → length (ready_name.spell j) ≡ 10
unfolding ready_name join_no
ready_name_length j = ap suc (id_parts_length (j.server, (j.epoch, j.counter)))

-- the note of a clock keeps no part
pub clock_no_ready : (value : List ℕ) → ready_in clock_name value ≡ None
unfolding ready_name u8
clock_no_ready value = refl
