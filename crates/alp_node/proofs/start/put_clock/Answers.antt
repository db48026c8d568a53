use Rattle.std.proofs.Common.{◌≡◌, [], ◌∷◌, ap, sym, subst, ◌∙◌}
use Rattle.alp_base.specs.declared.bytes.NoteChange.{NoteChange}
use Rattle.alp_node.specs.Writes.{clock_put}
use Rattle.alp_calls.proofs.PartLaws.{part_begins}
use Rattle.alp_vault.specs.Volumes.{IsVolumeOf}
use Rattle.alp_node.proofs.StartLemmas.{no_change, puts_clock}
use Rattle.alp_node.proofs.start.put_clock.Goals as goal

pub store-requires-clause-part : goal.store-requires-clause-part
store-requires-clause-part g c = part_begins c.new.result c.new.ensures.intents c.new.ensures.counts

pub store-requires-clause-room : goal.store-requires-clause-room
store-requires-clause-room g c told =
    let before = g.V.Vault.held c.args.vault.now in
    subst (IsVolumeOf (g.V.Vault.volume c.args.vault.now)) (sym (no_change before.cells c.new.result c.new.ensures.intents)) (c.knows.ensures.fitting before told (c.knows.ensures.as_held told c.requires.serving))

pub returns : goal.returns
returns g c =
    let is : c.as_slice.result.now ≡ clock_put c.args.clock ∷ [] = c.as_slice.ensures.value ∙ c.in_ok-notes.ensures.items ∙ ap (λ (n : NoteChange). n ∷ []) c.in_ok-note.ensures.change in
    puts_clock g.V.Vault c.args.vault.now c.store.new.vault c.args.clock c.new.result c.as_slice.result.now c.store.result c.new.ensures.intents is c.store.ensures.kept c.store.ensures.cells c.store.ensures.notes c.store.ensures.leaves c.store.ensures.allowance
    c.store.ensures.ended
