use Rattle.std.proofs.Common.{◌≡◌, ◌+◌, ◌≤◌, length}
use Rattle.alp_files.specs.Edits.{edits_map}
use Rattle.alp_files.specs.Undo.{puts_of, LedBy}
use Rattle.alp_files.proofs.cell_map.CellMap.put_all.Given as goal

abbrev pub invariant-loop-key : goal.invariant-loop-key
invariant-loop-key l = record {
  led : LedBy l.fn.self l.before.items l.self;
  rest : edits_map (puts_of l.key-iterator.rest.items) l.self ≡ edits_map (puts_of l.fn.puts.items) l.fn.self;
  room : length l.before.items + length l.key-iterator.rest.items ≤ l.before.cap;
}
