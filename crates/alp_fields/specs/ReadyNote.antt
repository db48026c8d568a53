-- The note of a part that voted for its commit.
use Rattle.std.specs.Prelude.{◌≡◌, ◌<◌, ◌≤◌, ◌^◌, ℕ, true, List, length, Option, None, Some}
use Rattle.alp_base.specs.declared.ids.JoinNo.{JoinNo}
use Rattle.alp_base.specs.declared.ids.TransId.{TransId}
use Rattle.alp_base.specs.declared.key.Resource.{Resource}
use Rattle.alp_base.specs.declared.change.Change.{Change}
use Rattle.alp_base.specs.declared.bytes.NoteChange.{NoteChange}
use Rattle.alp_modes.specs.declared.Mode.{Mode}
use Rattle.alp_fields.specs.Forms.{Form, pair, mapped, checked, marked, whole, u8, u64}
use Rattle.alp_fields.specs.Fields.{is_time, trans_id, join_no, resource}
use Rattle.alp_fields.specs.ModeField.{mode}
use Rattle.alp_fields.specs.Rising.{rise, rising}
use Rattle.alp_fields.specs.ChangeField.{change_form, IsNotedChange}
use Rattle.alp_fields.specs.declared.ready_note.ReadyPart.{ReadyPart}
use Rattle.alp_fields.specs.declared.ready_note.TheConstants.{READY_LETTER}

-- the letter R, and the join number of the part
unfoldable pub ready_name : Form JoinNo
ready_name = marked READY_LETTER join_no

-- what is locked, and in which mode
unfoldable pub lock : Form (Resource × Mode)
lock = pair resource mode

-- the transaction, the time of the vote, the client, the locks in the rising order of their bytes, and what it changes
abbrev pub ReadyParts : Type 0
ReadyParts = TransId × (ℕ × (ℕ × (List (Resource × Mode) × Change)))

abbrev pub ready_of : ReadyParts → ReadyPart
ready_of x = record { trans = x.0; ts = x.1.0; client = x.1.1.0; locks = x.1.1.1.0; change = x.1.1.1.1 }

abbrev pub ready_parts : ReadyPart → ReadyParts
ready_parts p = (p.trans, (p.ts, (p.client, (p.locks, p.change))))

unfoldable pub ready_form : Form ReadyPart
ready_form = mapped ready_of ready_parts (pair trans_id (pair (checked is_time u64) (pair u8 (pair (rising lock) change_form))))

-- what the types leave open and the spelling needs
pub record IsReadyPart (p : ReadyPart) : Type 0 where
  pub time : p.ts ≤ 2 ^ 62
  pub few : length p.locks < 2 ^ 16
  pub locks : rise lock p.locks ≡ true
  pub change : IsNotedChange p.change

-- the join and the part, where a note of that name and that value keeps one
abbrev pub ready_with : Option JoinNo → Option ReadyPart → Option (JoinNo × ReadyPart)
ready_with None p = None
ready_with (Some j) None = None
ready_with (Some j) (Some p) = Some (j, p)

abbrev pub ready_in : List ℕ → List ℕ → Option (JoinNo × ReadyPart)
ready_in name value = ready_with (whole ready_name name) (whole ready_form value)

-- the change by which a note keeps that part, and the one by which it ends
abbrev pub ready_noted : JoinNo → ReadyPart → NoteChange
ready_noted j p = record { name = ready_name.spell j; value = Some (ready_form.spell p) }

abbrev pub ready_ended : JoinNo → NoteChange
ready_ended j = record { name = ready_name.spell j; value = None }
