use Rattle.alp_notes.proofs.RowLemmas.{set_row}
use Rattle.alp_notes.proofs.rows.set_note.Goals as goal

pub returns-clause-rows : goal.returns-clause-rows
returns-clause-rows c = (set_row c.args.names.now c.args.values.now.items c.args.name.now c.args.value c.args.at c.requires.rows c.requires.at).rows

pub returns-clause-set : goal.returns-clause-set
returns-clause-set c = (set_row c.args.names.now c.args.values.now.items c.args.name.now c.args.value c.args.at c.requires.rows c.requires.at).shows
