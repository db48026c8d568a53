use Rattle.std.specs.Prelude.{flat_map, map as list_map}
use Rattle.std.proofs.Common.{◌≡◌, ℕ, ◌+◌, List, ◌∷◌, drop, sym, ap, ◌∙◌}
use Rattle.std.proofs.lemmas.List.{at_drop_more, at_drop_all}
use Rattle.alp_base.specs.declared.ids.JoinNo.{JoinNo}
use Rattle.alp_fields.specs.declared.ready_note.ReadyPart.{ReadyPart}
use Rattle.alp_files.specs.Changes.{edits_of}
use Rattle.alp_files.specs.Edits.{Edit}
use Rattle.alp_files.specs.Needs.{Intents, intents_from}
use Rattle.alp_files.proofs.IntentLemmas.{intents_from-append}
use Rattle.alp_journal.specs.Opening.{ReadyNote}
use Rattle.alp_regain.specs.Notes.{part_note}
use Rattle.alp_regain.proofs.sound.intents_of_all.Goals as goal

abbrev edits_in : List (JoinNo × ReadyPart) → List Edit
edits_in xs = flat_map (λ (n : ReadyNote). n.edits) (list_map part_note xs)

pub loop-note-preserved : goal.loop-note-preserved
loop-note-preserved c =
    let notes : List (JoinNo × ReadyPart) = c.args.notes.now in
    let i : ℕ = c.loop-note.note-index in
    let item : JoinNo × ReadyPart = c.note-item.result in
    let rest : List (JoinNo × ReadyPart) = drop (i + 1) notes in
    let old : Intents = c.loop-note.intents in
    let here : drop i notes ≡ item ∷ rest = at_drop_more (λ (xs : List (JoinNo × ReadyPart)). xs) notes i item c.loop-note-test.true ∙ ap (λ (x : JoinNo × ReadyPart). x ∷ rest) (sym c.note-item.is) in
    ap (λ (x : Intents). intents_from x (edits_in rest)) c.in_ok-add_change.ensures
    ∙ sym (intents_from-append old (edits_of item.1.change) (edits_in rest))
    ∙ ap (λ (xs : List (JoinNo × ReadyPart)). intents_from old (edits_in xs)) (sym here) ∙ c.loop-note.invariant

pub returns : goal.returns
returns c =
    sym (at_drop_all (λ (xs : List (JoinNo × ReadyPart)). intents_from c.loop-note.intents (edits_in xs)) c.args.notes.now c.loop-note.note-index c.loop-note-test.false) ∙ c.loop-note.invariant
