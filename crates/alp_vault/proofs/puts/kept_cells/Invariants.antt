use Rattle.std.proofs.Common.{◌≡◌, drop}
use Rattle.std.specs.FinMap as map
use Rattle.alp_files.specs.Edits.{edits_map}
use Rattle.alp_files.specs.Undo.{puts_of}
use Rattle.alp_vault.proofs.puts.kept_cells.Given as goal

abbrev pub invariant-loop-put : goal.invariant-loop-put
invariant-loop-put l = edits_map (puts_of (drop l.put-index l.puts)) l.kept ≡ edits_map (puts_of l.puts) map.empty
