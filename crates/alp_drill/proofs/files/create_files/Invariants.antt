use Rattle.std.specs.Prelude.{flat_map}
use Rattle.std.specs.List.{range_with_len}
use Rattle.std.proofs.Common.{◌≡◌, ◌++◌}
use Rattle.alp_drill.specs.Files.{group}
use Rattle.alp_drill.proofs.files.create_files.Given as goal

abbrev pub invariant-loop-number : goal.invariant-loop-number
invariant-loop-number l = l.script.items ≡ l.fn.script.items ++ flat_map (group l.shape l.pages) (range_with_len 0 l.number)
