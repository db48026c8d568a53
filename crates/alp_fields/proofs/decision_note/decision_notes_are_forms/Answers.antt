use Rattle.alp_fields.proofs.DecisionNoteLaw.{decision_name_law, decision_law}
use Rattle.alp_fields.proofs.decision_note.decision_notes_are_forms.Goals as goal

pub returns : goal.returns
returns c = record { name = decision_name_law; value = decision_law }
