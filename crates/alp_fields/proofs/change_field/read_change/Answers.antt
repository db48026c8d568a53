use Rattle.alp_fields.proofs.FieldLaws.{file_id_law}
use Rattle.alp_fields.proofs.ChangeFieldLaw.{cut_law, placed_law}
use Rattle.alp_fields.proofs.change_field.read_change.Goals as goal

pub read_rising-requires : goal.read_rising-requires
read_rising-requires c = file_id_law

pub read_rising-requires-2 : goal.read_rising-requires-2
read_rising-requires-2 c = cut_law

pub read_rising-requires-3 : goal.read_rising-requires-3
read_rising-requires-3 c = placed_law
