use Rattle.std.proofs.Common.{Some, ap, ◌∙◌}
use Rattle.alp_notes.proofs.RowLemmas.{note_there, no_note, names_rise}
use Rattle.alp_notes.proofs.rows.note_at.Goals as goal

pub returns-in-Ok : goal.returns-in-Ok
returns-in-Ok c = ap Some c.index-values-at.is ∙ note_there c.args.names.now c.args.values.now c.args.name.now c.index-values-at.result c.in-Ok.at c.requires c.in-Ok.ensures.found

pub returns-in-Err : goal.returns-in-Err
returns-in-Err c = no_note c.args.names.now c.args.values.now c.args.name.now c.in-Err.field-0 c.requires c.in-Err.ensures.absent

pub find-requires : goal.find-requires
find-requires c = names_rise c.args.names.now c.args.values.now c.requires
