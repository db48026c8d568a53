use Rattle.std.specs.Prelude.{flat_map, map as list_map}
use Rattle.std.proofs.Common.{List, subst, sym}
use Rattle.alp_files.specs.Cells.{Cells}
use Rattle.alp_files.specs.Edits.{Edit}
use Rattle.alp_files.specs.Needs.{Intents}
use Rattle.alp_files.specs.Sound.{AreSound}
use Rattle.alp_trans.specs.Counting.{with_intents}
use Rattle.alp_calls.specs.Parts.{AllFit}
use Rattle.alp_calls.proofs.IntentCounts.{with_all}
use Rattle.alp_journal.specs.Opening.{ReadyNote}
use Rattle.alp_regain.specs.Notes.{part_note}
use Rattle.alp_regain.proofs.SoundLemmas.{fit_all}
use Rattle.alp_regain.proofs.sound.stay_with_all.Goals as goal

pub stay_sound-requires-clause-fit : goal.stay_sound-requires-clause-fit
stay_sound-requires-clause-fit g c = subst (λ (i : Intents). AllFit i.puts) (sym c.in_ok-intents.ensures) (fit_all (list_map part_note c.args.notes.now) c.requires.fit)

pub returns-clause-yes : goal.returns-clause-yes
returns-clause-yes g c = λ told is.
    let held : Cells = (g.V.Vault.held c.args.vault.now).cells in
    let es : List Edit = flat_map (λ (n : ReadyNote). n.edits) (list_map part_note c.args.notes.now) in
    subst AreSound (with_all es held) (subst (λ (i : Intents). AreSound (with_intents i held)) c.in_ok-intents.ensures (c.stay_sound.ensures.yes told is))

pub returns-clause-no : goal.returns-clause-no
returns-clause-no g c = λ told is sound.
    let held : Cells = (g.V.Vault.held c.args.vault.now).cells in
    let es : List Edit = flat_map (λ (n : ReadyNote). n.edits) (list_map part_note c.args.notes.now) in
    c.stay_sound.ensures.no told is (subst (λ (i : Intents). AreSound (with_intents i held)) (sym c.in_ok-intents.ensures) (subst AreSound (sym (with_all es held)) sound))
