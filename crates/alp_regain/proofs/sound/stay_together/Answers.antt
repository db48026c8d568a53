use Rattle.std.specs.Prelude.{Ok, true, false, flat_map, map as list_map}
use Rattle.std.proofs.Common.{◌≡◌, List, rules}
use Rattle.alp_files.specs.Cells.{Cells}
use Rattle.alp_files.specs.Edits.{edits_map}
use Rattle.alp_files.specs.Sound.{AreSound}
use Rattle.alp_calls.proofs.LookLemmas.{later}
use Rattle.alp_journal.specs.Opening.{ReadyNote}
use Rattle.alp_regain.specs.Notes.{part_note}
use Rattle.alp_regain.proofs.SoundLemmas.{parts_fit, notes_fit, each_said, each_meant}
use Rattle.alp_regain.proofs.sound.stay_together.Goals as goal

pub stay_with_each-requires-clause-fit : goal.stay_with_each-requires-clause-fit
stay_with_each-requires-clause-fit g c = parts_fit c.args.parts.now (list_map part_note c.args.notes.now) c.requires.intend

pub returns-then-not-branch-clause-no : goal.returns-then-not-branch-clause-no
returns-then-not-branch-clause-no g c = λ told is together.
    let no : c.stay_with_each.result ≡ Ok false = search rules in
    c.stay_with_each.ensures.no told no (each_meant c.args.parts.now (list_map part_note c.args.notes.now) c.requires.intend (g.V.Vault.held c.args.vault.now).cells together.each)

pub stay_with_all-requires-clause-fit : goal.stay_with_all-requires-clause-fit
stay_with_all-requires-clause-fit g c = notes_fit c.args.parts.now (list_map part_note c.args.notes.now) c.requires.intend

pub returns-clause-yes : goal.returns-clause-yes
returns-clause-yes g c = λ told is.
    let held : Cells = (g.V.Vault.held c.args.vault.now).cells in
    let ns : List ReadyNote = list_map part_note c.args.notes.now in
    let yes : c.stay_with_each.result ≡ Ok true = search rules in
    record {
      each = each_said c.args.parts.now ns c.requires.intend held (c.stay_with_each.ensures.yes told yes);
      all =
          later g.V.Vault c.args.vault.now c.stay_with_each.new.vault c.in_ok-stay_with_each.ensures.looked.0 (λ m. AreSound (edits_map (flat_map (λ (n : ReadyNote). n.edits) ns) m))
          (λ t. c.stay_with_all.ensures.yes t is) told;
    }

pub returns-clause-no : goal.returns-clause-no
returns-clause-no g c = λ told is together.
    let ns : List ReadyNote = list_map part_note c.args.notes.now in
    later g.V.Vault c.args.vault.now c.stay_with_each.new.vault c.in_ok-stay_with_each.ensures.looked.0 (λ m. AreSound (edits_map (flat_map (λ (n : ReadyNote). n.edits) ns) m) → ⊥)
    (λ t. c.stay_with_all.ensures.no t is) told together.all
