use Rattle.std.proofs.Common.{List, ℕ, sym, subst}
use Rattle.std.specs.List.Sorted.{IsStrictlySortedBy}
use Rattle.alp_base.specs.Notes.{text_cmp}
use Rattle.alp_notes.specs.Rows.{IsPlace}
use Rattle.alp_notes.proofs.RowLemmas.{nothing_ends, names_rise}
use Rattle.alp_notes.proofs.rows.drop_note.Goals as goal

pub returns-in-Err-clause-ended : goal.returns-in-Err-clause-ended
returns-in-Err-clause-ended c =
    nothing_ends c.args.names.now.items c.args.values.now.items c.args.name.now c.in-Err.field-0 c.requires.rows
    (subst (λ (ns : List (List ℕ)). IsPlace c.args.name.now ns c.in-Err.field-0) c.as_slice.ensures.value c.in-Err.ensures.absent)

pub find-requires : goal.find-requires
find-requires c = subst (IsStrictlySortedBy text_cmp) (sym c.as_slice.ensures.value) (names_rise c.args.names.now.items c.args.values.now.items c.requires.rows)
