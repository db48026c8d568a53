use Rattle.alp_fields.specs.DecisionNote.{decision_form}
use Rattle.alp_fields.proofs.FormLaws.{found_unless, only_unless}
use Rattle.alp_fields.proofs.DecisionNoteLaw.{decision_law, decision_read}
use Rattle.alp_fields.proofs.decision_note.read_decision.Goals as goal

pub returns-clause-found : goal.returns-clause-found
returns-clause-found c = found_unless decision_form decision_law c.args.bytes.now c.exact.result c.exact.ensures

pub returns-clause-decision : goal.returns-clause-decision
returns-clause-decision c = decision_read c.args.bytes.now c.exact.result c.exact.ensures

pub returns-clause-only : goal.returns-clause-only
returns-clause-only c = only_unless decision_form decision_law c.args.bytes.now c.exact.result c.exact.ensures
