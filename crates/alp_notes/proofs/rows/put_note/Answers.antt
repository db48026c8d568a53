use Rattle.std.proofs.Common.{sym, subst}
use Rattle.std.specs.List.Sorted.{IsStrictlySortedBy}
use Rattle.alp_base.specs.Notes.{text_cmp}
use Rattle.alp_notes.proofs.RowLemmas.{names_rise}
use Rattle.alp_notes.proofs.rows.put_note.Goals as goal

pub find-requires : goal.find-requires
find-requires c = subst (IsStrictlySortedBy text_cmp) (sym c.as_slice.ensures.value) (names_rise c.args.names.now.items c.args.values.now.items c.requires.rows)
