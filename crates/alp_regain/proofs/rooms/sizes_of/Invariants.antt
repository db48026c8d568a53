use Rattle.std.specs.Prelude.{map as list_map}
use Rattle.std.proofs.Common.{◌≡◌, ◌++◌, drop}
use Rattle.alp_regain.specs.Rooms.{part_size}
use Rattle.alp_regain.proofs.rooms.sizes_of.Given as goal

abbrev pub invariant-loop-part : goal.invariant-loop-part
invariant-loop-part l = l.sizes.items ++ list_map part_size (drop l.part-index l.parts) ≡ list_map part_size l.parts
