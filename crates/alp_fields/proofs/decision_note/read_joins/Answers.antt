use Rattle.alp_fields.proofs.FieldLaws.{join_no_law}
use Rattle.alp_fields.proofs.decision_note.read_joins.Goals as goal

pub read_items-requires : goal.read_items-requires
read_items-requires c = join_no_law
