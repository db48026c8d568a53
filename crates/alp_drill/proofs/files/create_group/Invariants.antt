use Rattle.std.specs.List.{range_with_len}
use Rattle.std.proofs.Common.{◌≡◌, ◌*◌, [], ◌∷◌, ◌++◌, map}
use Rattle.alp_lines.specs.declared.line.Line.TheVariants as line
use Rattle.alp_drill.specs.Files.{client_of, server_of, create_line}
use Rattle.alp_drill.proofs.files.create_group.Given as goal

abbrev pub invariant-loop-i : goal.invariant-loop-i
invariant-loop-i l = l.script.items ≡ l.fn.script.items
    ++ ((line.Begin (client_of l.shape l.number) (server_of l.shape l.number) ∷ []) ++ map (create_line l.shape l.pages l.number) (range_with_len (10 * l.number) l.i))
