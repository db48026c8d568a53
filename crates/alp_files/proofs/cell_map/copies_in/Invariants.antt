use Rattle.std.proofs.Common.{◌≡◌, ◌++◌}
use Rattle.alp_files.proofs.cell_map.copies_in.Given as goal

abbrev pub invariant-loop-key : goal.invariant-loop-key
invariant-loop-key l = l.copies.items ++ l.key-iterator ≡ l.cells.entries
