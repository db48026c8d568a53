use Rattle.std.proofs.Common.{ℕ, List, subst}
use Rattle.alp_base.specs.declared.key.Resource.{Resource}
use Rattle.alp_modes.specs.declared.Mode.{Mode}
use Rattle.alp_fields.specs.Forms.{IsWritten, pair, checked, u8, u64}
use Rattle.alp_fields.specs.Fields.{is_time, trans_id}
use Rattle.alp_fields.specs.Rising.{rising}
use Rattle.alp_fields.specs.ChangeField.{change_form}
use Rattle.alp_fields.specs.ReadyNote.{lock, ready_form, ready_parts}
use Rattle.alp_fields.proofs.ItemLemmas.{each_free}
use Rattle.alp_fields.proofs.ChangeFieldLaw.{on_ok}
use Rattle.alp_fields.proofs.WrittenLemmas.{pair_written}
use Rattle.alp_fields.proofs.ready_note.put_part.Goals as goal

pub put_rising-requires-clause-each : goal.put_rising-requires-clause-each
put_rising-requires-clause-each c = each_free _

pub returns : goal.returns
unfolding ready_form
returns c =
    let part = c.args.part.now in
    let start : List ℕ = c.args.out.now.items in
    let one : List ℕ = c.put_trans_id.new.out.items in
    let two : List ℕ = c.put_time.new.out.items in
    let three : List ℕ = c.put_u8.new.out.items in
    let four : List ℕ = c.put_rising.new.out.items in
    let end : List ℕ = c.put_change.new.out.items in
    let locks : IsWritten (rising lock) part.locks three four = subst (λ (xs : List (Resource × Mode)). IsWritten (rising lock) xs three four) c.as_slice.ensures c.in_ok-put_rising.ensures in
    on_ok c.put_change.result (IsWritten change_form part.change four end) (IsWritten ready_form part start end)
    (λ change.
    let all = pair_written trans_id (pair (checked is_time u64) (pair u8 (pair (rising lock) change_form))) (ready_parts part) start one end c.in_ok-put_trans_id.ensures.ok
    (pair_written (checked is_time u64) (pair u8 (pair (rising lock) change_form)) (part.ts, (part.client, (part.locks, part.change))) one two end c.in_ok-put_time.ensures
    (pair_written u8 (pair (rising lock) change_form) (part.client, (part.locks, part.change)) two three end c.in_ok-put_u8.ensures.ok
    (pair_written (rising lock) change_form (part.locks, part.change) three four end locks change))) in
    record { appended = all.appended; fits = all.fits }) c.put_change.ensures
