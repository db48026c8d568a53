use Rattle.std.proofs.Common.{◌≡◌, ◌+◌, ◌-◌, ◌≤◌, length, drop}
use Rattle.alp_files.specs.Edits.{edits_map}
use Rattle.alp_files.specs.Undo.{puts_of, LedBy}
use Rattle.alp_vault.proofs.puts.put_all.Given as goal

abbrev pub invariant-loop-put : goal.invariant-loop-put
invariant-loop-put l = record {
  led : LedBy l.fn.cells l.before.items l.cells;
  rest : edits_map (puts_of (drop l.put-index l.puts)) l.cells ≡ edits_map (puts_of l.puts) l.fn.cells;
  room : length l.before.items + (length l.puts - l.put-index) ≤ l.before.cap;
}
