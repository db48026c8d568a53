use Rattle.std.specs.Prelude.{flat_map, map as list_map}
use Rattle.std.proofs.Common.{◌≡◌, drop}
use Rattle.alp_files.specs.Needs.{intents_from, intents_of}
use Rattle.alp_journal.specs.Opening.{ReadyNote}
use Rattle.alp_regain.specs.Notes.{part_note}
use Rattle.alp_regain.proofs.sound.intents_of_all.Given as goal

abbrev pub invariant-loop-note : goal.invariant-loop-note
invariant-loop-note l =
    intents_from l.intents (flat_map (λ (n : ReadyNote). n.edits) (list_map part_note (drop l.note-index l.notes)))
    ≡ intents_of (flat_map (λ (n : ReadyNote). n.edits) (list_map part_note l.notes))
