use Rattle.std.proofs.Common.{◌∙◌, ap, sym, arith}
use Rattle.std.proofs.lemmas.List.{at_drop_all}
use Rattle.alp_base.specs.Notes.{Notes}
use Rattle.alp_calls.proofs.NoteLemmas.{all_good, good_notes}
use Rattle.alp_calls.proofs.server_notes.are_server_notes.Goals as goal

pub returns-clause-good : goal.returns-clause-good
returns-clause-good g c = λ is.
    let notes : Notes = (g.V.Vault.held c.args.vault.now).notes in
    good_notes (g.V.Vault.server c.args.vault.now) (g.V.Vault.servers c.args.vault.now) notes
    (ap (all_good notes) (sym c.note_names-names.ensures) ∙ sym c.loop-name.invariant
    ∙ at_drop_all (all_good notes) c.note_names-names.result.now c.loop-name.name-index (omega (arith, c.loop-name-test.false)))
