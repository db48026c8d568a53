use Rattle.alp_notes.proofs.RowLemmas.{remove_row}
use Rattle.alp_notes.proofs.rows.end_note.Goals as goal

pub returns-clause-rows : goal.returns-clause-rows
returns-clause-rows c = rw (c.remove.ensures.items, c.remove-2.ensures.items) (remove_row c.args.names.now.items c.args.values.now.items c.args.name.now c.args.at c.requires.rows c.requires.at).rows

pub returns-clause-ended : goal.returns-clause-ended
returns-clause-ended c = rw (c.remove.ensures.items, c.remove-2.ensures.items) (remove_row c.args.names.now.items c.args.values.now.items c.args.name.now c.args.at c.requires.rows c.requires.at).shows
