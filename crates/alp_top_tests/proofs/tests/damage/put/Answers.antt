use Rattle.std.proofs.Common.{◌≡◌, ◌≤◌, ◌+◌, ◌-◌, ℕ, Bool, true, false, List, [], ◌∷◌, length, Some, None, ◌∙◌, ap, subst, sym, arith}
use Rattle.std.specs.Prelude.{Option, cond}
use Rattle.std.specs.List.{AllByRecursion}
use Rattle.std.specs.FinMap as map
use Rattle.std.specs.FinMap.{len-insert, len-remove, len-entries}
use Rattle.std.specs.Cmp.Lexicographic.{nat_list_cmp_total}
use Rattle.alp_base.specs.Notes.{Notes, noted, notes_after}
use Rattle.alp_base.specs.declared.bytes.NoteChange.{NoteChange}
use Rattle.alp_base.specs.declared.faults.Sizes.{Sizes}
use Rattle.alp_batch.specs.declared.batch.PageImage.{PageImage}
use Rattle.alp_wal.specs.State.{IsBelow}
use Rattle.alp_wal.specs.Wal.{notes_of}
use Rattle.alp_wal.proofs.Lives.{length-names}
use Rattle.alp_top_tests.proofs.tests.damage.put.Goals as goal

one_more : (b : Bool) (n : ℕ) → cond b n (n + 1) ≤ n + 1
one_more true n = omega arith
one_more false n = omega arith

one_less : (b : Bool) (n : ℕ) → cond b (n - 1) n ≤ n + 1
one_less true n = omega arith
one_less false n = omega arith

len_noted : (name : List ℕ) (value : Option (List ℕ)) (notes : Notes) → map.len (noted name value notes) ≤ map.len notes + 1
len_noted name None notes = omega (arith, len-remove nat_list_cmp_total notes name, one_less (map.contains_key notes name) (map.len notes))
len_noted name (Some value) notes = omega (arith, len-insert nat_list_cmp_total notes name value, one_more (map.contains_key notes name) (map.len notes))

len_after : (cs : List NoteChange) (notes : Notes) → map.len (notes_after cs notes) ≤ map.len notes + length cs
len_after [] notes = omega arith
len_after (c ∷ cs) notes = omega (arith, len_after cs (noted c.name c.value notes), len_noted c.name c.value notes)

pub commit-requires-clause-suits : goal.commit-requires-clause-suits
commit-requires-clause-suits g c =
    let wal = c.args.wal.now in
    let b = c.args.batch.now in
    let home = ap (λ (s : Sizes). s.home) c.sizes.ensures in
    let live : length c.note_names-live.result.now ≡ map.len (notes_of wal) = ap length c.note_names-live.ensures ∙ length-names (map.entries (notes_of wal)) ∙ sym (len-entries (notes_of wal)) in
    record {
      inside = subst (λ (t : ℕ × List PageImage). AllByRecursion (IsBelow t.0) t.1) (λ i. (home i, c.as_slice.ensures i)) (c.all_below.ensures.0 c.if-not-all_below.false);
      few = omega (arith, len_after b.notes (notes_of wal), live, c.if-live-gt65000.false, ap length c.as_slice-changes.ensures, c.if-changes-gt500.false);
    }
