use Rattle.std.specs.List.{range_with_len}
use Rattle.std.proofs.Common.{◌≡◌, ◌++◌, map}
use Rattle.alp_drill.specs.Setup.{owner_line}
use Rattle.alp_drill.proofs.setup.make_owners_at.Given as goal

abbrev pub invariant-loop-i : goal.invariant-loop-i
invariant-loop-i l = l.script.items ≡ l.fn.script.items ++ map (owner_line l.server) (range_with_len 1 l.i)
