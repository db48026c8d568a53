-- The note of a transaction that is decided and has parts on other servers.
use Rattle.std.specs.Prelude.{◌≡◌, ◌≤◌, ◌^◌, ℕ, Bool, ◌&&◌, nat_le, List, length, Option, None, Some}
use Rattle.alp_base.specs.declared.ids.JoinNo.{JoinNo}
use Rattle.alp_base.specs.declared.ids.TransId.{TransId}
use Rattle.alp_base.specs.declared.bytes.NoteChange.{NoteChange}
use Rattle.alp_fields.specs.Forms.{Form, pair, mapped, checked, sized, repeated, marked, whole, u8, u64}
use Rattle.alp_fields.specs.Fields.{is_time, trans_id, join_no}
use Rattle.alp_fields.specs.declared.decision_note.Decision.{Decision}
use Rattle.alp_fields.specs.declared.decision_note.TheConstants.{DECISION_LETTER, MOST_PARTS}

-- the letter D, and the transaction
unfoldable pub decision_name : Form TransId
decision_name = marked DECISION_LETTER trans_id

-- how many parts there are on other servers, at least one, and their join numbers
abbrev pub is_part_count : ℕ → Bool
is_part_count n = nat_le 1 n && nat_le n MOST_PARTS

unfoldable pub part_count : Form ℕ
part_count = checked is_part_count u8

unfoldable pub joins : Form (List JoinNo)
joins = sized part_count (repeated join_no) length

-- the time of the commit, and the parts
unfoldable pub decision_form : Form Decision
decision_form = mapped (λ x. record { ts = x.0; joins = x.1 }) (λ d. (d.ts, d.joins)) (pair (checked is_time u64) joins)

-- what the types leave open and the spelling needs
pub record IsDecision (d : Decision) : Type 0 where
  pub time : d.ts ≤ 2 ^ 62
  pub some : 1 ≤ length d.joins
  pub few : length d.joins ≤ MOST_PARTS

-- the transaction and its decision, where a note of that name and that value keeps one
abbrev pub decision_with : Option TransId → Option Decision → Option (TransId × Decision)
decision_with None d = None
decision_with (Some t) None = None
decision_with (Some t) (Some d) = Some (t, d)

abbrev pub decision_in : List ℕ → List ℕ → Option (TransId × Decision)
decision_in name value = decision_with (whole decision_name name) (whole decision_form value)

-- the change by which a note keeps that decision, and the one by which it ends
abbrev pub decision_noted : TransId → Decision → NoteChange
decision_noted t d = record { name = decision_name.spell t; value = Some (decision_form.spell d) }

abbrev pub decision_ended : TransId → NoteChange
decision_ended t = record { name = decision_name.spell t; value = None }
