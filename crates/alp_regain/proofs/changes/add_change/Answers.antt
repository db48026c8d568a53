use Rattle.std.specs.Prelude.{ℕ, map as list_map}
use Rattle.std.proofs.Common.{◌≡◌, List, ◌++◌, sym, ◌∙◌}
use Rattle.alp_base.specs.declared.change.Change.{Change}
use Rattle.alp_base.specs.declared.ids.FileId.{FileId}
use Rattle.alp_files.specs.Edits.{Edit, Drop, Cut}
use Rattle.alp_files.specs.Needs.{Intents, intents_from}
use Rattle.alp_files.specs.Undo.{puts_of}
use Rattle.alp_files.proofs.IntentLemmas.{intents_from-append}
use Rattle.alp_calls.proofs.RegainLemmas.{none_taken}
use Rattle.alp_regain.proofs.changes.add_change.Goals as goal

pub change-requires : goal.change-requires
change-requires c = record { beside = none_taken c.in_ok-puts.puts.items }

pub returns : goal.returns
returns c =
    let change : Change = c.args.change.now in
    let drops : List FileId → List Edit = λ fs. list_map Drop fs in
    let cuts : List (FileId × ℕ) → List Edit = λ cs. list_map (λ (p : FileId × ℕ). Cut p.0 p.1) cs in
    let start : Intents = c.args.intents.now in
    let dropped : Intents = intents_from start (drops change.drops) in
    let cut : Intents = intents_from dropped (cuts change.cuts) in
    let first : c.drop_files.new.intents ≡ dropped =
    c.in_ok-drop_files.ensures ∙ (λ i. intents_from start (drops (c.as_slice.ensures i))) in
    let second : c.cut_files.new.intents ≡ cut =
    c.in_ok-cut_files.ensures ∙ (λ i. intents_from (first i) (cuts (c.as_slice-2.ensures i))) in
    c.in_ok-change.ensures.ok ∙ (λ i. intents_from (second i) (puts_of ((c.in_ok-puts.ensures ∙ c.as_slice-3.ensures) i)))
    ∙ sym (intents_from-append dropped (cuts change.cuts) (puts_of change.puts))
    ∙ sym (intents_from-append start (drops change.drops) (cuts change.cuts ++ puts_of change.puts))
