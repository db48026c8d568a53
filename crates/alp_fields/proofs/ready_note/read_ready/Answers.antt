use Rattle.alp_fields.specs.ReadyNote.{ready_form}
use Rattle.alp_fields.proofs.FormLaws.{found_unless, only_unless}
use Rattle.alp_fields.proofs.ReadyNoteLaw.{ready_law, part_read}
use Rattle.alp_fields.proofs.ready_note.read_ready.Goals as goal

pub returns-clause-found : goal.returns-clause-found
returns-clause-found c = found_unless ready_form ready_law c.args.bytes.now c.exact.result c.exact.ensures

pub returns-clause-part : goal.returns-clause-part
returns-clause-part c = part_read c.args.bytes.now c.exact.result c.exact.ensures

pub returns-clause-only : goal.returns-clause-only
returns-clause-only c = only_unless ready_form ready_law c.args.bytes.now c.exact.result c.exact.ensures
