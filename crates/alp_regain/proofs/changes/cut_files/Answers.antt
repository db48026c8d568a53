use Rattle.std.specs.Prelude.{map as list_map}
use Rattle.std.proofs.Common.{ℕ, ◌+◌, List, ◌∷◌, drop, get_or, sym, ap, ◌∙◌}
use Rattle.std.proofs.lemmas.List.{at_drop_more, at_drop_all}
use Rattle.alp_base.specs.declared.cell.Cell.{Cell}
use Rattle.alp_base.specs.declared.ids.FileId.{FileId}
use Rattle.alp_base.specs.declared.key.Key.{Key}
use Rattle.alp_files.specs.Edits.{Edit, Cut}
use Rattle.alp_files.specs.Needs.{Intents, intents_from}
use Rattle.alp_files.specs.Undo.{puts_of}
use Rattle.alp_regain.proofs.changes.cut_files.Goals as goal

abbrev no_cut : FileId × ℕ
no_cut = (record { server = 0; epoch = 0; counter = 0 }, 0)

abbrev cut_by : FileId × ℕ → Edit
cut_by p = Cut p.0 p.1

pub loop-cut-preserved : goal.loop-cut-preserved
loop-cut-preserved c =
    let cuts : List (FileId × ℕ) = c.args.cuts.now in
    let i : ℕ = c.loop-cut.cut-index in
    let old : Intents = c.loop-cut.intents in
    let cut : FileId × ℕ = get_or cuts i no_cut in
    let rest : List (FileId × ℕ) = drop (i + 1) cuts in
    ap (λ (x : Intents). intents_from x (list_map cut_by rest)) (c.in_ok-change.ensures.ok ∙ ap (λ (ps : List (Key × Cell)). intents_from old (cut_by cut ∷ puts_of ps)) c.new.ensures.items)
    ∙ sym (at_drop_more (λ (cs : List (FileId × ℕ)). intents_from old (list_map cut_by cs)) cuts i no_cut c.loop-cut-test.true) ∙ c.loop-cut.invariant

pub returns : goal.returns
returns c =
    sym (at_drop_all (λ (cs : List (FileId × ℕ)). intents_from c.loop-cut.intents (list_map cut_by cs)) c.args.cuts.now c.loop-cut.cut-index c.loop-cut-test.false) ∙ c.loop-cut.invariant
