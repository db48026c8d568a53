use Rattle.std.specs.Prelude.{codes}
use Rattle.std.specs.List.{range_with_len}
use Rattle.std.proofs.Common.{◌≡◌, [], ◌∷◌, ◌++◌, map}
use Rattle.alp_lines.specs.declared.line.Line.TheVariants as line
use Rattle.alp_drill.specs.Setup.{client_line}
use Rattle.alp_drill.proofs.setup.declare.Given as goal

abbrev pub invariant-loop-i : goal.invariant-loop-i
invariant-loop-i l = l.script.items ≡ l.fn.script.items ++ ((line.Client 1 (codes "Admin") ∷ []) ++ map client_line (range_with_len 1 l.i))
