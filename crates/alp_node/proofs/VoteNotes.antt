-- what the note of a vote says of its part
use Rattle.std.specs.Prelude.{Option, None, Some}
use Rattle.std.specs.FinMap as map
use Rattle.std.specs.FinMap.{len-entries}
use Rattle.std.specs.List.Sorted.{IsPermutation}
use Rattle.std.proofs.lemmas.List.{length-map}
use Rattle.std.proofs.lemmas.List.Sorted.{length_permutation}
use Rattle.std.proofs.Common.{◌≡◌, ℕ, ◌+◌, List, length, refl, sym, ◌∙◌, ap, subst, arith}
use Rattle.alp_base.specs.declared.change.Change.{Change}
use Rattle.alp_base.specs.declared.ids.FileId.{FileId}
use Rattle.alp_base.specs.declared.ids.JoinNo.{JoinNo}
use Rattle.alp_calls.specs.Parts.{IsPart}
use Rattle.alp_fields.specs.Forms.{whole}
use Rattle.alp_fields.specs.ReadyNote.{ready_name, ready_form, ready_in, ready_with}
use Rattle.alp_fields.specs.declared.ready_note.ReadyPart.{ReadyPart}
use Rattle.alp_fields.proofs.FormLaws.{whole_spelled}
use Rattle.alp_fields.proofs.ReadyNoteLaw.{ready_name_law}
use Rattle.alp_files.specs.Needs.{changed_by}
use Rattle.alp_trans.specs.declared.part.Part.{Part}
use Rattle.alp_vault.specs.Volumes.{changed_cells}
use Rattle.alp_node.proofs.JoinMoves.{same_some}

-- its name has a join
pub named_by : (j : JoinNo) (name value : List ℕ) (p : ReadyPart) → ready_in name value ≡ Some (j, p) → ready_name.Fits j
named_by j name value p is = by (whole ready_name name) refl (whole ready_form value) is
  where
    by : (o : Option JoinNo) → whole ready_name name ≡ o → (q : Option ReadyPart) → ready_with o q ≡ Some (j, p) → ready_name.Fits j
    by None e q at = absurd (let wrong : ◌≡◌ {A = Option (JoinNo × ReadyPart)} None (Some (j, p)) = at in cc)
    by (Some i) e None at = absurd (let wrong : ◌≡◌ {A = Option (JoinNo × ReadyPart)} None (Some (j, p)) = at in cc)
    by (Some i) e (Some q) at = (let same : (i, q) ≡ (j, p) = same_some (i, q) (j, p) at in subst ready_name.Fits (ap (λ (x : JoinNo × ReadyPart). x.0) same) (whole_spelled ready_name ready_name_law name i e).1)

-- it has as many cells as its part changes
pub cells_noted : (p : Part) (c : Change) → IsPart p → c.drops ≡ map.keys p.intents.drops → c.cuts ≡ map.entries p.intents.cuts → IsPermutation (map.entries p.intents.puts) c.puts → changed_cells c ≡ p.counts.cells
cells_noted p c part drops cuts puts =
    let many_drops : length c.drops ≡ map.len p.intents.drops = ap (λ (xs : List FileId). length xs) drops ∙ length-map (map.entries p.intents.drops) (λ (e : FileId × Unit {0}). e.0) ∙ sym (len-entries p.intents.drops) in
    let many_cuts : length c.cuts ≡ map.len p.intents.cuts = ap (λ (xs : List (FileId × ℕ)). length xs) cuts ∙ sym (len-entries p.intents.cuts) in
    let many_puts : length c.puts ≡ map.len p.intents.puts = length_permutation (map.entries p.intents.puts) c.puts puts ∙ sym (len-entries p.intents.puts) in
    let all = part.cells in
    omega (arith, many_drops, many_cuts, many_puts, all)
