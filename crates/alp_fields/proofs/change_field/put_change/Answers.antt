use Rattle.std.proofs.Common.{ℕ, List, subst}
use Rattle.alp_base.specs.declared.ids.FileId.{FileId}
use Rattle.alp_base.specs.declared.key.Key.{Key}
use Rattle.alp_base.specs.declared.cell.Cell.{Cell}
use Rattle.alp_fields.specs.Forms.{IsWritten, pair}
use Rattle.alp_fields.specs.Fields.{file_id}
use Rattle.alp_fields.specs.Rising.{rising}
use Rattle.alp_fields.specs.ChangeField.{cut, placed, change_form, change_parts}
use Rattle.alp_fields.proofs.ItemLemmas.{each_free}
use Rattle.alp_fields.proofs.ChangeFieldLaw.{on_ok}
use Rattle.alp_fields.proofs.WrittenLemmas.{pair_written}
use Rattle.alp_fields.proofs.change_field.put_change.Goals as goal

pub put_rising-requires-clause-each : goal.put_rising-requires-clause-each
put_rising-requires-clause-each c = each_free _

pub put_rising-requires-2-clause-each : goal.put_rising-requires-2-clause-each
put_rising-requires-2-clause-each c = each_free _

pub returns : goal.returns
unfolding change_form
returns c =
    let change = c.args.change.now in
    let start : List ℕ = c.args.out.now.items in
    let one : List ℕ = c.put_rising.new.out.items in
    let two : List ℕ = c.put_rising-2.new.out.items in
    let end : List ℕ = c.put_rising-3.new.out.items in
    let drops : IsWritten (rising file_id) change.drops start one = subst (λ (xs : List FileId). IsWritten (rising file_id) xs start one) c.as_slice.ensures c.in_ok-put_rising.ensures in
    let cuts : IsWritten (rising cut) change.cuts one two = subst (λ (xs : List (FileId × ℕ)). IsWritten (rising cut) xs one two) c.as_slice-2.ensures c.in_ok-put_rising-2.ensures in
    on_ok c.put_rising-3.result (IsWritten (rising placed) c.as_slice-3.result.now two end) (IsWritten change_form change start end)
    (λ puts.
    let last : IsWritten (rising placed) change.puts two end = subst (λ (xs : List (Key × Cell)). IsWritten (rising placed) xs two end) c.as_slice-3.ensures puts in
    let all = pair_written (rising file_id) (pair (rising cut) (rising placed)) (change_parts change) start one end drops (pair_written (rising cut) (rising placed) (change.cuts, change.puts) one two end cuts last) in
    record { appended = all.appended; fits = all.fits }) c.put_rising-3.ensures
