-- the laws of the notes of decisions
use Rattle.std.proofs.Common.{◌≡◌, ℕ, suc, ◌≤◌, ◌^◌, List, length, Option, Some, None, refl, sym, ap, ◌∙◌, arith}
use Rattle.std.specs.Prelude.{IfOk, IfSome, Result, Ok, Err, nat_le}
use Rattle.std.proofs.lemmas.Bool.{leb-true}
use Rattle.alp_base.specs.declared.ids.TransId.{TransId}
use Rattle.alp_fields.specs.Forms.{IsForm, pair, checked, repeated, whole, u8, u64}
use Rattle.alp_fields.specs.ClockNote.{clock_name}
use Rattle.alp_fields.specs.Fields.{is_time, trans_id, join_no}
use Rattle.alp_fields.specs.DecisionNote.{decision_name, is_part_count, part_count, joins, decision_form, IsDecision, decision_with, decision_in}
use Rattle.alp_fields.specs.declared.decision_note.Decision.{Decision}
use Rattle.alp_fields.specs.declared.decision_note.TheConstants.{DECISION_LETTER, MOST_PARTS}
use Rattle.alp_fields.proofs.FormLaws.{pair_law, mapped_law, checked_law, sized_law, repeated_law, repeated_size, and_parts, whole_back, whole_spelled}
use Rattle.alp_fields.proofs.FieldLaws.{u8_law, u64_law, trans_id_law, join_no_law, marked_law}
use Rattle.alp_fields.proofs.FixedLaws.{id_parts_length}

pub decision_name_law : IsForm decision_name
unfolding decision_name
decision_name_law = marked_law DECISION_LETTER trans_id (omega arith) trans_id_law

joins_law : IsForm joins
unfolding joins part_count
joins_law = sized_law (checked is_part_count u8) (repeated join_no) length (checked_law is_part_count u8 u8_law) (λ n. repeated_law join_no n join_no_law) (repeated_size join_no)

pub decision_law : IsForm decision_form
unfolding decision_form
decision_law = mapped_law _ _ (pair (checked is_time u64) joins) (λ v. refl) (λ x. refl) (pair_law (checked is_time u64) joins (checked_law is_time u64 u64_law) joins_law)

-- what has a spelling is a decision that can be written
pub decision_fits : (d : Decision) → decision_form.Fits d → IsDecision d
unfolding decision_form joins part_count
decision_fits d fits =
    let count = and_parts (nat_le 1 (length d.joins)) (nat_le (length d.joins) MOST_PARTS) fits.1.0.1 in
    record {
      time = leb-true d.ts (2 ^ 62) fits.0.1;
      some = leb-true 1 (length d.joins) count.0;
      few = leb-true (length d.joins) MOST_PARTS count.1;
    }

pub decision_read : {E : Type 0} (bytes : List ℕ) (answer : Result (Option Decision) E) → IfOk answer (λ found. found ≡ whole decision_form bytes) → IfOk answer (λ found. IfSome found IsDecision)
decision_read bytes (Err e) is = tt
decision_read bytes (Ok None) is = tt
decision_read bytes (Ok (Some d)) is = decision_fits d (whole_spelled decision_form decision_law bytes d (sym is)).1

-- the note of a decision keeps it
pub decision_back : (t : TransId) (d : Decision) → decision_name.Fits t → decision_form.Fits d → decision_in (decision_name.spell t) (decision_form.spell d) ≡ Some (t, d)
decision_back t d named fits =
    ap (λ (x : Option TransId). decision_with x (whole decision_form (decision_form.spell d))) (whole_back decision_name decision_name_law t named)
    ∙ ap (decision_with (Some t)) (whole_back decision_form decision_law d fits)

-- a name has ten bytes
pub decision_name_length : (t : TransId) → length (decision_name.spell t) ≡ 10
unfolding decision_name trans_id
decision_name_length t = ap suc (id_parts_length (t.server, (t.epoch, t.counter)))

-- the note of a clock keeps no decision
pub clock_no_decision : (value : List ℕ) → decision_in clock_name value ≡ None
unfolding decision_name u8
clock_no_decision value = refl
