use Rattle.std.specs.Prelude.{flat_map}
use Rattle.std.specs.List.{range_with_len}
use Rattle.std.proofs.Common.{◌≡◌, [], ◌∷◌, ◌++◌}
use Rattle.alp_lines.specs.declared.line.Line.TheVariants as line
use Rattle.alp_drill.specs.Setup.{owners_at}
use Rattle.alp_drill.proofs.setup.make_owners.Given as goal

abbrev pub invariant-loop-i : goal.invariant-loop-i
invariant-loop-i l = l.script.items ≡ l.fn.script.items ++ ((line.Begin 1 1 ∷ []) ++ flat_map (owners_at l.shape.owners) (range_with_len 1 l.i))
