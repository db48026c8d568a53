use Rattle.std.specs.Prelude.{map as list_map}
use Rattle.std.proofs.Common.{ℕ, ◌+◌, List, ◌∷◌, drop, get_or, sym, ap, ◌∙◌}
use Rattle.std.proofs.lemmas.List.{at_drop_more, at_drop_all}
use Rattle.alp_base.specs.declared.cell.Cell.{Cell}
use Rattle.alp_base.specs.declared.ids.FileId.{FileId}
use Rattle.alp_base.specs.declared.key.Key.{Key}
use Rattle.alp_files.specs.Edits.{Drop}
use Rattle.alp_files.specs.Needs.{Intents, intents_from}
use Rattle.alp_files.specs.Undo.{puts_of}
use Rattle.alp_regain.proofs.changes.drop_files.Goals as goal

abbrev no_file : FileId
no_file = record { server = 0; epoch = 0; counter = 0 }

pub loop-file-preserved : goal.loop-file-preserved
loop-file-preserved c =
    let files : List FileId = c.args.files.now in
    let i : ℕ = c.loop-file.file-index in
    let old : Intents = c.loop-file.intents in
    let file : FileId = get_or files i no_file in
    let rest : List FileId = drop (i + 1) files in
    ap (λ (x : Intents). intents_from x (list_map Drop rest)) (c.in_ok-change.ensures.ok ∙ ap (λ (ps : List (Key × Cell)). intents_from old (Drop file ∷ puts_of ps)) c.new.ensures.items)
    ∙ sym (at_drop_more (λ (fs : List FileId). intents_from old (list_map Drop fs)) files i no_file c.loop-file-test.true) ∙ c.loop-file.invariant

pub returns : goal.returns
returns c =
    sym (at_drop_all (λ (fs : List FileId). intents_from c.loop-file.intents (list_map Drop fs)) c.args.files.now c.loop-file.file-index c.loop-file-test.false) ∙ c.loop-file.invariant
