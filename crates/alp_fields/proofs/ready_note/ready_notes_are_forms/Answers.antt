use Rattle.alp_fields.proofs.ReadyNoteLaw.{ready_name_law, ready_law}
use Rattle.alp_fields.proofs.ready_note.ready_notes_are_forms.Goals as goal

pub returns : goal.returns
returns c = record { name = ready_name_law; value = ready_law }
