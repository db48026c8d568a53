use Rattle.std.proofs.Common.{◌≡◌, ◌++◌, drop}
use Rattle.std.proofs.Common.{map as list_map}
use Rattle.alp_coord.specs.Members.{silent}
use Rattle.alp_coord.proofs.members.silent_members.Given as goal

abbrev pub invariant-loop-join : goal.invariant-loop-join
invariant-loop-join l = l.members.items ++ list_map silent (drop l.join-index l.joins) ≡ list_map silent l.joins
