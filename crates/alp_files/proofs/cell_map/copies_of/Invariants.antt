use Rattle.std.specs.Prelude.{filter}
use Rattle.std.proofs.Common.{◌≡◌, ◌++◌}
use Rattle.alp_base.specs.declared.key.Key.{Key}
use Rattle.alp_base.specs.declared.cell.Cell.{Cell}
use Rattle.alp_files.specs.Edits.{is_in_file}
use Rattle.alp_files.proofs.cell_map.copies_of.Given as goal

abbrev pub invariant-loop-key : goal.invariant-loop-key
invariant-loop-key l = l.copies.items ++ filter (λ (e : Key × Cell). is_in_file l.file e.0) l.key-iterator ≡ filter (λ (e : Key × Cell). is_in_file l.file e.0) l.cells.entries
