use Rattle.std.proofs.Common.{◌≡◌, ◌+◌, ◌≤◌, length}
use Rattle.alp_base.specs.Notes.{notes_after}
use Rattle.alp_notes.specs.Rows.{AreRows, notes_in}
use Rattle.alp_notes.proofs.rows.change_notes.Given as goal

abbrev pub invariant-loop-change : goal.invariant-loop-change
invariant-loop-change l = record {
  rows : AreRows l.names.items l.values.items;
  rest : notes_after l.change-iterator.rest.items (notes_in l.names.items l.values.items) ≡ notes_after l.fn.changes.items (notes_in l.fn.names.items l.fn.values.items);
  room : length l.names.items + length l.change-iterator.rest.items ≤ l.names.cap;
  room_beside : length l.values.items + length l.change-iterator.rest.items ≤ l.values.cap;
}
