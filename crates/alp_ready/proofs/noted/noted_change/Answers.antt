use Rattle.std.specs.List.Sorted.{IsPermutation, IsStableByKey}
use Rattle.std.specs.Ordering.{nat_cmp}
use Rattle.std.specs.FinMap as map
use Rattle.std.specs.FinMap.{entries_sorted}
use Rattle.std.proofs.Common.{◌≡◌, ℕ, ◌≤◌, List, All, ap, sym, subst, ◌∙◌, arith}
use Rattle.alp_base.specs.declared.ids.FileId.{FileId}
use Rattle.alp_base.specs.declared.key.Key.{Key}
use Rattle.alp_base.specs.declared.cell.Cell.{Cell}
use Rattle.alp_base.specs.declared.change.Change.{Change}
use Rattle.alp_files.specs.Changes.{edits_of}
use Rattle.alp_files.specs.Needs.{Intents, intents_of, changed_by}
use Rattle.alp_fields.specs.Fields.{file_id}
use Rattle.alp_fields.specs.ChangeField.{cut}
use Rattle.alp_ready.specs.NoteOrder.{AreRisingKeys, put_number}
use Rattle.alp_ready.proofs.NotedLemmas.{IsChange, noted, again}
use Rattle.alp_ready.proofs.BackLemmas.{sorted_back}
use Rattle.alp_ready.proofs.noted.noted_change.Goals as goal

pub noted_puts-requires : goal.noted_puts-requires
noted_puts-requires c =
    let i : Intents = c.args.part.now.intents in
    let copied : c.in_ok-copies.field-0.items ≡ map.entries i.puts = c.in_ok-copies.ensures.entries ∙ ap (λ m. map.entries m) c.puts.ensures in
    subst (λ (es : List (Key × Cell)). AreRisingKeys es) (sym copied) (entries_sorted i.puts)

pub returns-clause-noted : goal.returns-clause-noted
returns-clause-noted c =
    let i : Intents = c.args.part.now.intents in
    let copied : c.in_ok-copies.field-0.items ≡ map.entries i.puts = c.in_ok-copies.ensures.entries ∙ ap (λ m. map.entries m) c.puts.ensures in
    let is : IsChange i (record { drops = c.in_ok-drops.field-0.drops; cuts = c.in_ok-drops.field-0.cuts; puts = c.in_ok-puts.puts }) = record {
      drops = ap (λ (x : Change). x.drops) c.in_ok-drops.ensures;
      cuts = ap (λ (x : Change). x.cuts) c.in_ok-drops.ensures;
      puts = subst (λ (es : List (Key × Cell)). IsPermutation es c.in_ok-puts.puts) copied c.in_ok-puts.ensures.same;
    } in
    let few : changed_by i ≤ 256 = omega (arith, c.requires.cells, c.requires.most) in
    noted i (record { drops = c.in_ok-drops.field-0.drops; cuts = c.in_ok-drops.field-0.cuts; puts = c.in_ok-puts.puts }) is few c.requires.fit
    (subst (λ (fs : List FileId). All file_id.Fits fs) c.as_slice.ensures c.fit_files.ensures) (subst (λ (cs : List (FileId × ℕ)). All cut.Fits cs) c.as_slice-2.ensures c.fit_cuts.ensures) c.in_ok-puts.ensures.rises

pub returns-clause-again : goal.returns-clause-again
returns-clause-again c =
    let i : Intents = c.args.part.now.intents in
    let copied : c.in_ok-copies.field-0.items ≡ map.entries i.puts = c.in_ok-copies.ensures.entries ∙ ap (λ m. map.entries m) c.puts.ensures in
    let is : IsChange i (record { drops = c.in_ok-drops.field-0.drops; cuts = c.in_ok-drops.field-0.cuts; puts = c.in_ok-puts.puts }) = record {
      drops = ap (λ (x : Change). x.drops) c.in_ok-drops.ensures;
      cuts = ap (λ (x : Change). x.cuts) c.in_ok-drops.ensures;
      puts = subst (λ (es : List (Key × Cell)). IsPermutation es c.in_ok-puts.puts) copied c.in_ok-puts.ensures.same;
    } in
    let few : changed_by i ≤ 256 = omega (arith, c.requires.cells, c.requires.most) in
    again i (record { drops = c.in_ok-drops.field-0.drops; cuts = c.in_ok-drops.field-0.cuts; puts = c.in_ok-puts.puts }) is few c.requires.fit

pub returns-clause-back : goal.returns-clause-back
returns-clause-back c =
    let i : Intents = c.args.part.now.intents in
    let copied : c.in_ok-copies.field-0.items ≡ map.entries i.puts = c.in_ok-copies.ensures.entries ∙ ap (λ m. map.entries m) c.puts.ensures in
    let stable : IsStableByKey put_number nat_cmp (map.entries i.puts) c.in_ok-puts.puts = subst (λ (es : List (Key × Cell)). IsStableByKey put_number nat_cmp es c.in_ok-puts.puts) copied c.in_ok-puts.ensures.stable in
    (λ j. intents_of (edits_of (record { drops = (c.in_ok-drops.ensures j).drops; cuts = (c.in_ok-drops.ensures j).cuts; puts = c.in_ok-puts.puts }))) ∙ sorted_back i c.in_ok-puts.puts stable
