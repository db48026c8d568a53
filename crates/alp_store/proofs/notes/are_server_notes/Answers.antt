use Rattle.std.proofs.Common.{◌∙◌, ap, sym, arith}
use Rattle.std.proofs.lemmas.List.{at_drop_all}
use Rattle.alp_base.specs.Notes.{Notes}
use Rattle.alp_pool.specs.Pools.{log_of}
use Rattle.alp_wal.specs.Wal.{notes_of}
use Rattle.alp_store.proofs.NoteLaws.{all_good, good_notes}
use Rattle.alp_store.proofs.notes.are_server_notes.Goals as goal

pub returns-clause-good : goal.returns-clause-good
returns-clause-good g c = λ is.
    let notes : Notes = notes_of (log_of c.args.pages.now) in
    good_notes c.args.server c.args.servers notes
    (ap (all_good c.args.server c.args.servers notes) (sym c.note_names-names.ensures) ∙ sym c.loop-name.invariant
    ∙ at_drop_all (all_good c.args.server c.args.servers notes) c.note_names-names.result.now c.loop-name.name-index (omega (arith, c.loop-name-test.false)))
